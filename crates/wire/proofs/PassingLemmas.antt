-- Messages that are passed: what is passed of a rest behind a head is its body.
use Rattle.std.proofs.Common.{◌≡◌, ◌⊎◌, ℕ, ◌+◌, ◌-◌, ◌<◌, ◌≤◌, Bool, true, false, List, [], ◌++◌, length, take, drop, Option, Some, None, IfSome, if◌then◌else◌, refl, sym, ap, ◌∙◌, subst, arith, inl, inr, ⊎_elim, append_assoc, append-nil, length-append}
use Rattle.std.proofs.lemmas.Bool.{true≢false}
use Rattle.wire.specs.declared.limits.TheConstants.{BLOCK_BYTES}
use Rattle.httparse.specs.Grammar.{RequestHead, print_request}
use Rattle.wire.specs.declared.framing.Frame.{Frame}
use Rattle.wire.specs.declared.framing.Frame.TheVariants as frames
use Rattle.wire.specs.declared.framing.Head.{Head}
use Rattle.wire.specs.declared.passing.Passed.{Passed}
use Rattle.wire.specs.declared.passing.Passed.TheVariants as passes
use Rattle.wire.specs.declared.passing.Texts.{Texts}
use Rattle.wire.specs.declared.messages.Message.TheVariants as messages
use Rattle.wire.specs.Framing.{verb_of, frame_of, is_good, body_length}
use Rattle.wire.specs.declared.messages.Verb.{Verb}
use Rattle.wire.specs.Messages.{HasHead, IsWhole, IsToldAs, whole_length}
use Rattle.wire.specs.Incoming.{Held, AwaitsBody, IsUnsettled, IsNeeded, IsNext, IsStopped, Proceeds, HasCause}
use Rattle.wire.specs.Looking.{IsFramedAt, PassesBytes, PassesWhole, MovesBy, IsCaused, is_kept, told_kept, told_dropped, told_as}
use Rattle.wire.proofs.HeadLemmas.{head_fits, take_within, malformed_cut}
use Rattle.std.proofs.lemmas.List.{take-append-drop}
use Rattle.wire.proofs.IncomingLemmas.{Told, told_joins, IsRest}
use Rattle.wire.proofs.MessageLemmas.{whole_counts}

-- ---- a head at the front

-- a head stays its head, whatever stands behind it
head_before : (rest : List ℕ) (head : RequestHead) → HasHead rest head → (xs : List ℕ) → HasHead (print_request head ++ xs) head
head_before rest head h xs = (
  take (8192 - length (print_request head)) xs,
  (h.1.0, take_within 8192 (print_request head) xs (head_fits rest head h)),
  h.2,
)

-- what is at hand behind a head, and what follows
behind_head : (ahead more : List ℕ) (found : Head) (head : RequestHead) → IsFramedAt ahead found head
    → ahead ++ more ≡ print_request head ++ (drop found.len ahead ++ more)
behind_head ahead more found head at =
    ap (λ (xs : List ℕ). xs ++ more) at.splits ∙ append_assoc (print_request head) (drop found.len ahead) more

-- fewer bytes behind a head than its body has
awaits : (ahead xs : List ℕ) (found : Head) (head : RequestHead) → IsFramedAt ahead found head
    → length xs < body_length found.frame → AwaitsBody (print_request head ++ xs)
awaits ahead xs found head at short =
    let count : body_length found.frame ≡ body_length (frame_of head) = ap body_length at.frame in
    let len : length (print_request head ++ xs) ≡ length (print_request head) + length xs = length-append (print_request head) xs in
    let less : length (print_request head ++ xs) < whole_length head = omega arith in
    (head, head_before (ahead ++ []) head (at.stands []) xs, at.good, less)

-- where the bytes at hand are not all of a message, they settle nothing
pub awaits_ahead : (ahead : List ℕ) (found : Head) (head : RequestHead) → IsFramedAt ahead found head
    → length (drop found.len ahead) < body_length found.frame → AwaitsBody ahead
awaits_ahead ahead found head at short = subst AwaitsBody (sym at.splits) (awaits ahead (drop found.len ahead) found head at short)

-- nor do they with what follows
pub unsettled_rest : (ahead more : List ℕ) (found : Head) (head : RequestHead) → IsFramedAt ahead found head
    → length (drop found.len ahead ++ more) < body_length found.frame → IsUnsettled (ahead ++ more)
unsettled_rest ahead more found head at short =
    subst IsUnsettled (sym (behind_head ahead more found head at)) (inr (awaits ahead (drop found.len ahead ++ more) found head at short))

-- what was needed for the body was needed for the message
pub needed_rest : (ahead more seen piece left : List ℕ) (found : Head) (head : RequestHead) → IsFramedAt ahead found head
    → drop found.len ahead ++ more ≡ seen ++ (piece ++ left) → length seen < body_length found.frame → length piece ≤ BLOCK_BYTES
    → IsNeeded (ahead ++ more) left
needed_rest ahead more seen piece left found head at splits short block =
    let printed = print_request head in
    let whole : ahead ++ more ≡ (printed ++ seen) ++ (piece ++ left) =
    behind_head ahead more found head at ∙ ap (λ (xs : List ℕ). printed ++ xs) splits ∙ sym (append_assoc printed seen (piece ++ left)) in
    (printed ++ seen, piece, (whole, inr (awaits ahead seen found head at short)), block)

-- the bytes behind a head, with it
pub length_behind : (ahead more : List ℕ) (found : Head) (head : RequestHead) → IsFramedAt ahead found head
    → length (ahead ++ more) ≡ found.len + length (drop found.len ahead ++ more)
length_behind ahead more found head at =
    let e : length (ahead ++ more) ≡ length (print_request head) + length (drop found.len ahead ++ more) =
    ap length (behind_head ahead more found head at) ∙ length-append (print_request head) (drop found.len ahead ++ more) in
    let f : found.len ≡ length (print_request head) = at.len in
    omega arith

-- the bytes of the body behind a head are a whole message with it
whole_behind : (ahead more body after : List ℕ) (found : Head) (head : RequestHead) → IsFramedAt ahead found head
    → length body ≡ body_length found.frame → drop found.len ahead ++ more ≡ body ++ after → IsWhole (ahead ++ more) head body after
whole_behind ahead more body after found head at count splits = record {
  begins = at.stands more;
  framed = at.good;
  counted = count ∙ ap body_length at.frame;
  splits = behind_head ahead more found head at ∙ ap (λ (xs : List ℕ). print_request head ++ xs) splits;
}

-- and the offset is behind them
moved_behind : (rest body after : List ℕ) (offset offset' : ℕ) (ahead : List ℕ) (found : Head) (head : RequestHead)
    → IsFramedAt ahead found head → IsWhole rest head body after → offset' ≡ offset + found.len + body_length found.frame
    → offset + length rest ≡ offset' + length after
moved_behind rest body after offset offset' ahead found head at whole moved =
    let counts : length rest ≡ whole_length head + length after = whole_counts rest head body after whole in
    let count : body_length found.frame ≡ body_length (frame_of head) = ap body_length at.frame in
    let len : found.len ≡ length (print_request head) = at.len in
    omega arith

-- what is passed behind the head is passed of the message
pub passes_whole : (ahead more : List ℕ) (offset : ℕ) (found : Head) (head : RequestHead) → IsFramedAt ahead found head
    → (old new : Held) → old.offset ≡ offset + found.len
    → (passed : Passed) (before text after left : List ℕ)
    → PassesBytes (body_length found.frame) (drop found.len ahead ++ more) old.offset before passed text after left
    → MovesBy (body_length found.frame) old passed new
    → PassesWhole head (ahead ++ more) offset before passed text after left new.offset
passes_whole ahead more offset found head at old new begun passes.Kept before text after left passed moved =
    let whole = whole_behind ahead more passed.0 after found head at passed.1 passed.2 in
    let behind : new.offset ≡ offset + found.len + body_length found.frame = omega (arith, moved, begun) in
    (passed.0, whole, passed.3, moved_behind (ahead ++ more) passed.0 after offset new.offset ahead found head at whole behind)
passes_whole ahead more offset found head at old new begun passes.Dropped before text after left passed moved =
    let whole = whole_behind ahead more passed.0 after found head at passed.1 passed.2 in
    let behind : new.offset ≡ offset + found.len + body_length found.frame = omega (arith, moved, begun) in
    (passed.0, whole, moved_behind (ahead ++ more) passed.0 after offset new.offset ahead found head at whole behind)
passes_whole ahead more offset found head at old new begun passes.End before text after left passed moved =
    let count : body_length found.frame ≡ body_length (frame_of head) = ap body_length at.frame in
    let len : found.len ≡ length (print_request head) = at.len in
    let all : length (ahead ++ more) ≡ found.len + length (drop found.len ahead ++ more) = length_behind ahead more found head at in
    let short : length (drop found.len ahead ++ more) < body_length found.frame = passed.0 in
    let less : length (ahead ++ more) < whole_length head = omega arith in
    malformed_cut (ahead ++ more) head (at.stands more) less
passes_whole ahead more offset found head at old new begun passes.Long before text after left passed moved =
    let seen = passed.0 in
    let printed = print_request head in
    let len : found.len ≡ length printed = at.len in
    let joined : length (printed ++ seen) ≡ length printed + length seen = length-append printed seen in
    let limit : old.offset + length seen ≡ 68_719_476_736 = passed.3 in
    let full : offset + length (printed ++ seen) ≡ 68_719_476_736 = omega (arith, begun, limit, joined, len) in (
      printed ++ seen,
      behind_head ahead more found head at ∙ ap (λ (xs : List ℕ). printed ++ xs) passed.1 ∙ sym (append_assoc printed seen left),
      awaits ahead seen found head at passed.2,
      full,
    )
passes_whole ahead more offset found head at old new begun passes.Failed before text after left passed moved =
    let seen = passed.0 in
    let printed = print_request head in (
      printed ++ seen,
      behind_head ahead more found head at ∙ ap (λ (xs : List ℕ). printed ++ xs) passed.1 ∙ sym (append_assoc printed seen left),
      awaits ahead seen found head at passed.2,
    )

-- ---- what is told

-- a stream that is stopped within a body
stopped_within : (rest seen after left : List ℕ) (offset offset' : ℕ) → rest ≡ seen ++ left → AwaitsBody seen
    → IsStopped rest offset seen after left offset'
stopped_within rest seen after left offset offset' splits body = record {
  unread = (splits, inr body);
  stays = λ none. absurd (none body.0 body.1);
}

-- what is told of a head and a body that were passed, and kept,
next_kept : (rest : List ℕ) (offset : ℕ) (head : RequestHead) (frame : Frame) (body text target after left : List ℕ) (offset' : ℕ)
    → frame_of head ≡ frame → IsWhole rest head body after → text ≡ body → target ≡ head.target
    → offset + length rest ≡ offset' + length after
    → IsNext rest offset (told_kept frame (verb_of head.method) target text) after left offset'
next_kept rest offset head (frames.Body count) body text target after left offset' is whole same aim moved =
    let request : messages.Request (verb_of head.method) target text ≡ messages.Request (verb_of head.method) head.target body =
    λ i. messages.Request (verb_of head.method) (aim i) (same i) in (
      (head, body, whole, subst (λ (f : Frame). IsToldAs f head body (messages.Request (verb_of head.method) target text)) (sym is) (inl request)),
      moved,
    )
next_kept rest offset head frames.NoLength body text target after left offset' is whole same aim moved =
    ((head, body, whole, subst (λ (f : Frame). IsToldAs f head body messages.NoLength) (sym is) refl), moved)
next_kept rest offset head (frames.TooLarge count) body text target after left offset' is whole same aim moved =
    ((head, body, whole, subst (λ (f : Frame). IsToldAs f head body messages.TooLarge) (sym is) refl), moved)
next_kept rest offset head frames.Ill body text target after left offset' is whole same aim moved =
    absurd (true≢false (sym whole.framed ∙ ap is_good is))

-- or dropped
next_dropped : (rest : List ℕ) (offset : ℕ) (head : RequestHead) (frame : Frame) (body after left : List ℕ) (offset' : ℕ)
    → frame_of head ≡ frame → IsWhole rest head body after → offset + length rest ≡ offset' + length after
    → IsNext rest offset (told_dropped frame) after left offset'
next_dropped rest offset head (frames.Body count) body after left offset' is whole moved =
    ((head, body, whole, subst (λ (f : Frame). IsToldAs f head body messages.NoMemory) (sym is) (inr refl)), moved)
next_dropped rest offset head frames.NoLength body after left offset' is whole moved =
    ((head, body, whole, subst (λ (f : Frame). IsToldAs f head body messages.NoLength) (sym is) refl), moved)
next_dropped rest offset head (frames.TooLarge count) body after left offset' is whole moved =
    ((head, body, whole, subst (λ (f : Frame). IsToldAs f head body messages.TooLarge) (sym is) refl), moved)
next_dropped rest offset head frames.Ill body after left offset' is whole moved =
    absurd (true≢false (sym whole.framed ∙ ap is_good is))

-- what was kept was to be
pub kept_was : (keeps : Bool) (passed : Passed) → (keeps ≡ false → is_kept passed ≡ false) → is_kept passed ≡ true → keeps ≡ true
kept_was true passed none kept = refl
kept_was false passed none kept = absurd (true≢false (sym kept ∙ none refl))

-- what is told of a head at the front
pub next_told : (ahead more : List ℕ) (offset : ℕ) (found : Head) (head : RequestHead) → IsFramedAt ahead found head
    → (passed : Passed) (texts : Texts) (after left : List ℕ) (offset' : ℕ)
    → (is_kept passed ≡ true → texts.target ≡ head.target)
    → PassesWhole head (ahead ++ more) offset [] passed texts.body after left offset'
    → IsNext (ahead ++ more) offset (told_as passed found texts offset) after left offset'
next_told ahead more offset found head at passes.Kept texts after left offset' aim passed =
    subst (λ (verb : Verb). IsNext (ahead ++ more) offset (told_kept found.frame verb texts.target texts.body) after left offset') (sym at.verb)
    (next_kept (ahead ++ more) offset head found.frame passed.0 texts.body texts.target after left offset' (sym at.frame) passed.1 passed.2 (aim refl) passed.3)
next_told ahead more offset found head at passes.Dropped texts after left offset' aim passed =
    next_dropped (ahead ++ more) offset head found.frame passed.0 after left offset' (sym at.frame) passed.1 passed.2
next_told ahead more offset found head at passes.End texts after left offset' aim passed = (passed, refl)
next_told ahead more offset found head at passes.Long texts after left offset' aim passed =
    (passed.0, stopped_within (ahead ++ more) passed.0 after left offset offset' passed.1 passed.2, passed.3)
next_told ahead more offset found head at passes.Failed texts after left offset' aim passed =
    (passed.0, stopped_within (ahead ++ more) passed.0 after left offset offset' passed.1 passed.2)

kept_proceeds : (old new : Held) (frame : Frame) (verb : Verb) (target text : List ℕ) → old.offset < new.offset
    → Proceeds old (told_kept frame verb target text) new
kept_proceeds old new (frames.Body count) verb target text less = less
kept_proceeds old new frames.NoLength verb target text less = less
kept_proceeds old new (frames.TooLarge count) verb target text less = less
kept_proceeds old new frames.Ill verb target text less = less

dropped_proceeds : (old new : Held) (frame : Frame) → old.offset < new.offset → Proceeds old (told_dropped frame) new
dropped_proceeds old new (frames.Body count) less = less
dropped_proceeds old new frames.NoLength less = less
dropped_proceeds old new (frames.TooLarge count) less = less
dropped_proceeds old new frames.Ill less = less

-- a message that another can follow moves the offset on
pub told_proceeds : (old new : Held) (found : Head) (texts : Texts) (begun count : ℕ) (passed : Passed)
    → 0 < found.len → MovesBy (found.len + count) old passed new → Proceeds old (told_as passed found texts begun) new
told_proceeds old new found texts begun count passes.Kept some moved =
    kept_proceeds old new found.frame found.verb texts.target texts.body (omega (arith, some, moved))
told_proceeds old new found texts begun count passes.Dropped some moved =
    dropped_proceeds old new found.frame (omega (arith, some, moved))
told_proceeds old new found texts begun count passes.End some moved = tt
told_proceeds old new found texts begun count passes.Long some moved = tt
told_proceeds old new found texts begun count passes.Failed some moved = tt

kept_cause : (before now : ℕ) (frame : Frame) (verb : Verb) (target text : List ℕ) → HasCause before now (told_kept frame verb target text)
kept_cause before now (frames.Body count) verb target text = tt
kept_cause before now frames.NoLength verb target text = tt
kept_cause before now (frames.TooLarge count) verb target text = tt
kept_cause before now frames.Ill verb target text = tt

dropped_cause : (before now : ℕ) (frame : Frame) → HasCause before now (told_dropped frame)
dropped_cause before now (frames.Body count) = tt
dropped_cause before now frames.NoLength = tt
dropped_cause before now (frames.TooLarge count) = tt
dropped_cause before now frames.Ill = tt

-- the source failed only where its count of faults rose
pub told_cause : (before now : ℕ) (found : Head) (texts : Texts) (begun : ℕ) (passed : Passed)
    → IsCaused before now passed → HasCause before now (told_as passed found texts begun)
told_cause before now found texts begun passes.Kept cause = kept_cause before now found.frame found.verb texts.target texts.body
told_cause before now found texts begun passes.Dropped cause = dropped_cause before now found.frame
told_cause before now found texts begun passes.End cause = tt
told_cause before now found texts begun passes.Long cause = tt
told_cause before now found texts begun passes.Failed cause = cause

-- ---- bytes that are passed one piece after another

-- so much of what is at hand joins what was passed
pub joins_front : (bytes ahead left : List ℕ) (n : ℕ)
    → bytes ++ (ahead ++ left) ≡ (bytes ++ take n ahead) ++ (drop n ahead ++ left)
joins_front bytes ahead left n =
    ap (λ (xs : List ℕ). bytes ++ (xs ++ left)) (sym (take-append-drop n ahead))
    ∙ ap (λ (xs : List ℕ). bytes ++ xs) (append_assoc (take n ahead) (drop n ahead) left)
    ∙ sym (append_assoc bytes (take n ahead) (drop n ahead ++ left))

-- all was passed
pub passes_all : (kept : Bool) (passed : Passed) → passed ≡ (if kept then passes.Kept else passes.Dropped)
    → (count : ℕ) (rest : List ℕ) (offset : ℕ) (before text after left all : List ℕ)
    → length all ≡ count → rest ≡ all ++ after → (kept ≡ true → text ≡ before ++ all)
    → PassesBytes count rest offset before passed text after left
passes_all true passed is count rest offset before text after left all len splits same =
    subst (λ (p : Passed). PassesBytes count rest offset before p text after left) (sym is) (all, len, splits, same refl)
passes_all false passed is count rest offset before text after left all len splits same =
    subst (λ (p : Passed). PassesBytes count rest offset before p text after left) (sym is) (all, len, splits)

-- all of a rest is short whose last bytes are at hand, and nothing is left of it
pub short_end : (count : ℕ) (first bytes ahead : List ℕ) (before between after : Option (List ℕ)) → length (bytes ++ ahead) < count
    → IsRest first bytes ahead before between → Told between after (λ m a. (m ≡ []) × (a ≡ []))
    → Told before after (λ b a. (length (first ++ b) < count) × (a ≡ []))
short_end count first bytes ahead before between after short rest end =
    told_joins before between after (λ b m. first ++ b ≡ bytes ++ (ahead ++ m)) (λ m a. (m ≡ []) × (a ≡ []))
    (λ b a. (length (first ++ b) < count) × (a ≡ []))
    (λ b m a p q.
    let whole : first ++ b ≡ bytes ++ ahead =
    p ∙ ap (λ (xs : List ℕ). bytes ++ (ahead ++ xs)) q.0 ∙ ap (λ (xs : List ℕ). bytes ++ xs) (append-nil ahead) in
    (subst (λ (xs : List ℕ). length xs < count) (sym whole) short, q.1)) rest end

-- the end was found only where all of the rest settles nothing
pub ended_rest : (ahead behind : List ℕ) (found : Head) (head : RequestHead) → IsFramedAt ahead found head
    → behind ≡ drop found.len ahead → (count : ℕ) → count ≡ body_length found.frame
    → (left : Option (List ℕ)) (before now : ℕ) → IfSome left (λ b. (now ≡ before) ⊎ (length (behind ++ b) < count))
    → IfSome left (λ b. (now ≡ before) ⊎ IsUnsettled (ahead ++ b))
ended_rest ahead behind found head at is count all None before now ended = tt
ended_rest ahead behind found head at is count all (Some b) before now ended =
    ⊎_elim (λ same. inl same)
    (λ short. inr (unsettled_rest ahead b found head at
    (omega (arith, short, ap (λ (xs : List ℕ). length (xs ++ b)) is, all)))) ended
