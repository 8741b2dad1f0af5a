-- What a look at the bytes at hand tells of the rest of a stream, and what becomes of the bytes in a block.
use Rattle.std.proofs.Common.{◌≡◌, ◌≢◌, ℕ, ◌+◌, ◌-◌, ◌^◌, ◌<◌, ◌≤◌, Bool, true, false, ◌&&◌, List, [], ◌++◌, length, take, drop, slice_range, Option, Some, None, IfSome, refl, sym, ap, ◌∙◌, subst, arith, append_assoc, append-nil, length-append, length-drop, if◌then◌else◌, inl, inr, ◌⊎◌, ⊎_elim}
use Rattle.std.specs.Prelude.{IsSomeAnd}
use Rattle.std.specs.Option.{is_some}
use Rattle.std.proofs.lemmas.Bool.{true≢false, and_right, eq-eqb}
use Rattle.std.proofs.lemmas.List.Folds.{list_all-append}
use Rattle.std.proofs.lemmas.List.Elements.{All-nil, All-append, All-from_get_or}
use Rattle.wire.specs.declared.limits.TheConstants.{BLOCK_BYTES}
use Rattle.memchr.specs.Find.{IsFirstByte, is_byte}
use Rattle.std.proofs.Math.Seq.{take-add, take-append_seam}
use Rattle.std.proofs.lemmas.List.{length-take, take-take, take-append-le, take-append-drop, drop-take, drop-drop}
use Rattle.httparse.specs.Grammar.{RequestHead, HasNoRequest, MayBecomeRequest, print_request}
use Rattle.wire.specs.declared.framing.Head.{Head}
use Rattle.wire.specs.declared.looking.Front.TheVariants as fronts
use Rattle.wire.specs.Found.{IsHeadAt}
use Rattle.wire.specs.Framing.{is_good}
use Rattle.wire.specs.Messages.{is_blank, IsMalformed}
use Rattle.wire.specs.Incoming.{Held, AwaitsHead, IsUnsettled, IsNeeded, IsStopped}
use Rattle.wire.specs.Looking.{IsFramedAt, IsBlankWindow, Looks, HasGrown}
use Rattle.wire.proofs.HeadLemmas.{has_head, found_splits, head_has_length, malformed_head, malformed_no_head, not_blank_more, blank_no_head, blank_full_no_head, no_head_short, no_head_without_line_feed}

-- ---- a head that was found

-- a slice of the window is that of the whole
slice-take : (n : ℕ) (xs : List ℕ) (i j : ℕ) → i ≤ j → j ≤ n → slice_range (take n xs) i j ≡ slice_range xs i j
slice-take n xs i j le within =
    let e : i + (n - i) ≡ n = omega arith in
    let short : j - i ≤ n - i = omega arith in
    let front : drop i (take n xs) ≡ take (n - i) (drop i xs) =
    subst (λ (k : ℕ). drop i (take k xs) ≡ take (n - i) (drop i xs)) e (drop-take i (n - i) xs) in
    ap (take (j - i)) front ∙ take-take (j - i) (n - i) (drop i xs) short

-- a head of the window that frames a body is the head at the front
framed_at : (held : List ℕ) (found : Head) (head : RequestHead)
    → IsHeadAt (take 8192 held) found head → is_good found.frame ≡ true → IsFramedAt held found head
framed_at held found head at good =
    let within : found.len ≤ length held = omega (arith, at.within, length-take 8192 held) in
    let small : found.len ≤ 8192 = omega (arith, at.within, length-take 8192 held) in record {
      positive = omega (arith, at.len, head_has_length head);
      within = within;
      len = at.len;
      target_within = at.target_within;
      target =
          sym (slice-take 8192 held found.target.start found.target.end at.target_within.0 (omega (arith, at.target_within.1)))
          ∙ at.target;
      verb = at.verb;
      frame = at.frame;
      good = ap is_good (sym at.frame) ∙ good;
      stands = λ more. has_head held more found head at;
      splits =
          sym (append-nil held) ∙ found_splits held [] found head at
          ∙ ap (λ (xs : List ℕ). print_request head ++ drop found.len xs) (append-nil held);
    }

-- what a head of the window means
pub front_of_head : (held : List ℕ) (found : Head) (head : RequestHead) → IsHeadAt (take 8192 held) found head
    → (good : Bool) → is_good found.frame ≡ good → Looks held (if good then fronts.Framed found else fronts.Malformed)
front_of_head held found head at true good = (head, framed_at held found head at good)
front_of_head held found head at false good =
    λ more. malformed_head (held ++ more) head (has_head held more found head at) (ap is_good (sym at.frame) ∙ good)

-- ---- bytes that are skipped

-- the bytes behind others in a block
pub behind_skipped : (block : List ℕ) (start end count : ℕ) → start + count ≤ end
    → drop count (slice_range block start end) ≡ slice_range block (start + count) end
behind_skipped block start end count within =
    let e : count + (end - (start + count)) ≡ end - start = omega arith in
    let parts : drop count (take (end - start) (drop start block)) ≡ take (end - (start + count)) (drop count (drop start block)) =
    subst (λ (k : ℕ). drop count (take k (drop start block)) ≡ take (end - (start + count)) (drop count (drop start block))) e
    (drop-take count (end - (start + count)) (drop start block)) in
    parts ∙ ap (take (end - (start + count))) (drop-drop count start block)

-- ---- bytes that are read into a block

-- what stands in a block below a place stays there
same_below : (before after : List ℕ) (start end : ℕ) → start ≤ end → take end after ≡ take end before
    → slice_range after start end ≡ slice_range before start end
same_below before after start end le same =
    sym (slice-take end after start end le (omega arith))
    ∙ ap (λ (xs : List ℕ). slice_range xs start end) same
    ∙ slice-take end before start end le (omega arith)

-- the bytes behind it are added to it
read_behind : (before after : List ℕ) (start end count : ℕ) → start ≤ end → take end after ≡ take end before
    → slice_range after start (end + count) ≡ slice_range before start end ++ take count (drop end after)
read_behind before after start end count le same =
    let e : (end - start) + count ≡ (end + count) - start = omega arith in
    let back : drop (end - start) (drop start after) ≡ drop end after =
    drop-drop (end - start) start after ∙ ap (λ (n : ℕ). drop n after) {x = start + (end - start)} {y = end} (omega arith) in
    subst (λ (n : ℕ). take n (drop start after) ≡ slice_range before start end ++ take count (drop end after)) e
    (take-add (end - start) count (drop start after)
    ∙ ap (λ (xs : List ℕ). slice_range after start end ++ take count xs) back
    ∙ ap (λ (xs : List ℕ). xs ++ take count (drop end after)) (same_below before after start end le same))

-- The bytes at hand stand in a block: where others are read behind them, with these,
pub held_grows : (items before moved read held : List ℕ) (start end count : ℕ) → items ≡ read → take end read ≡ take end before
    → before ≡ moved → start ≤ end → slice_range moved start end ≡ held
    → slice_range items start (end + count) ≡ held ++ take count (drop end read)
held_grows items before moved read held start end count whole front same le kept =
    ap (λ (xs : List ℕ). slice_range xs start (end + count)) whole
    ∙ read_behind moved read start end count le (front ∙ ap (take end) same)
    ∙ ap (λ (xs : List ℕ). xs ++ take count (drop end read)) kept

-- and where none are read, alone
pub held_stays : (items before moved read held : List ℕ) (start end : ℕ) → items ≡ read → take end read ≡ take end before
    → before ≡ moved → start ≤ end → slice_range moved start end ≡ held → slice_range items start end ≡ held
held_stays items before moved read held start end whole front same le kept =
    ap (λ (xs : List ℕ). slice_range xs start end) whole
    ∙ same_below moved read start end le (front ∙ ap (take end) same) ∙ kept

-- bytes that stand behind those at hand
pub grown : (old new : Held) (more : List ℕ) → new.offset ≡ old.offset → new.ahead ≡ old.ahead ++ more
    → 0 < length more → HasGrown old new
grown old new more offset ahead some = record {
  offset = offset;
  front = ap (take (length old.ahead)) ahead ∙ take-append_seam old.ahead more;
  more = omega (arith, ap length ahead, length-append old.ahead more);
}

-- ---- what a source tells

-- both tell, and a relation holds of what they tell
abbrev pub Told : Option (List ℕ) → Option (List ℕ) → (List ℕ → List ℕ → Type 0) → Type 0
Told before after P = IfSome before (λ b. IsSomeAnd after (λ a. P b a))

pub told_maps : (before after : Option (List ℕ)) (P Q : List ℕ → List ℕ → Type 0)
    → ((b a : List ℕ) → P b a → Q b a) → Told before after P → Told before after Q
told_maps None after P Q step told = tt
told_maps (Some b) None P Q step told = told
told_maps (Some b) (Some a) P Q step told = step b a told

pub told_self : (before : Option (List ℕ)) (P : List ℕ → List ℕ → Type 0) → ((b : List ℕ) → P b b) → Told before before P
told_self None P same = tt
told_self (Some b) P same = same b

pub told_joins : (before between after : Option (List ℕ)) (P Q R : List ℕ → List ℕ → Type 0)
    → ((b m a : List ℕ) → P b m → Q m a → R b a) → Told before between P → Told between after Q → Told before after R
told_joins None between after P Q R step told next = tt
told_joins (Some b) None after P Q R step told next = absurd told
told_joins (Some b) (Some m) None P Q R step told next = next
told_joins (Some b) (Some m) (Some a) P Q R step told next = step b m a told next

-- ---- a line feed

-- a search that found none
pub found_none : (bytes : List ℕ) (place : Option ℕ) → is_some place ≡ false
    → IsFirstByte (is_byte 10) bytes place → IsFirstByte (is_byte 10) bytes None
found_none bytes None none search = search
found_none bytes (Some place) none search = absurd (true≢false none)

-- ---- blank bytes that are skipped

pub blank-append : (front back : List ℕ) → is_blank front ≡ true → is_blank back ≡ true → is_blank (front ++ back) ≡ true
blank-append front back x y = list_all-append _ front back ∙ ap (λ (b : Bool). b && is_blank back) x ∙ y

-- what is at hand is blank, and it is what was at hand first unless that was blank too
pub was_blank : (first now : List ℕ) (Same : Type 0) → is_blank now ≡ true → (Same × (now ≡ first)) ⊎ (is_blank first ≡ true)
    → is_blank first ≡ true
was_blank first now Same blank asked = ⊎_elim (λ same. ap is_blank (sym same.1) ∙ blank) (λ was. was) asked

-- a window of blank bytes stays one, whatever follows
pub blank_window_more : (seen more : List ℕ) → IsBlankWindow seen → IsBlankWindow (seen ++ more)
blank_window_more seen more window = (
  omega (arith, window.0, length-append seen more),
  ap is_blank (take-append-le 8192 seen more window.0) ∙ window.1,
)

-- bytes that are no longer blank behind a window of blank bytes
pub malformed_behind : (skipped ahead left : List ℕ) → is_blank ahead ≡ false → IsBlankWindow (skipped ++ ahead)
    → IsMalformed (skipped ++ (ahead ++ left))
malformed_behind skipped ahead left visible window =
    subst IsMalformed (append_assoc skipped ahead left)
    (malformed_no_head ((skipped ++ ahead) ++ left)
    (not_blank_more (skipped ++ ahead) left (list_all-append _ skipped ahead ∙ and_right _ _ visible))
    (blank_full_no_head (skipped ++ ahead) left window.1 window.0))

-- bytes whose window is not blank are not
pub not_blank_window : (seen more : List ℕ) → is_blank (take 8192 seen) ≡ false → is_blank (seen ++ more) ≡ false
not_blank_window seen more visible =
    not_blank_more seen more
    (ap is_blank (sym (take-append-drop 8192 seen)) ∙ not_blank_more (take 8192 seen) (drop 8192 seen) visible)

-- ---- bytes that settle nothing

-- CR and LF
pub blank_unsettled : (bytes : List ℕ) → is_blank bytes ≡ true → AwaitsHead bytes
blank_unsettled bytes blank = record {
  none = blank_no_head bytes blank;
  short = λ visible. absurd (true≢false (sym blank ∙ visible));
  begins = (bytes, [], sym (append-nil bytes), All-nil _, inl blank);
}

-- what a head may begin with
pub part_unsettled : (bytes : List ℕ) → length bytes < 8192 → HasNoRequest bytes × MayBecomeRequest bytes → AwaitsHead bytes
part_unsettled bytes short part = record {
  none = no_head_short bytes part.0 (omega arith);
  short = λ _. short;
  begins = (bytes, [], sym (append-nil bytes), All-nil _, inr part.1);
}

-- more bytes without a line feed
pub unsettled_without_line_feed : (n : ℕ) (seen : List ℕ) → n ≤ length seen → length seen < 8192
    → AwaitsHead (take n seen) → IsFirstByte (is_byte 10) (drop n seen) None → AwaitsHead seen
unsettled_without_line_feed n seen le short before feeds =
    let begins = before.begins in
    let front = begins.0 in
    let behind = begins.1 in
    let InLine : ℕ → Type 0 = λ b. b ≢ 10 in record {
      none = no_head_without_line_feed n seen le (omega arith) before.none feeds;
      short = λ _. short;
      begins = (
        front,
        behind ++ drop n seen,
        sym (take-append-drop n seen) ∙ ap (λ (xs : List ℕ). xs ++ drop n seen) begins.2 ∙ append_assoc front behind (drop n seen),
        All-append InLine behind (drop n seen) begins.3
            (All-from_get_or InLine (drop n seen) 0 (λ i inside feed. feeds i (omega arith) inside (eq-eqb _ _ feed))),
        begins.4,
      );
    }

-- what is at hand settles nothing, and it is what was at hand first unless that settled nothing too
pub was_unsettled : (first now : List ℕ) (Same : Type 0) → IsUnsettled now → (Same × (now ≡ first)) ⊎ IsUnsettled first
    → IsUnsettled first
was_unsettled first now Same unsettled asked = ⊎_elim (λ same. subst IsUnsettled same.1 unsettled) (λ was. was) asked

-- ---- bytes that stay unread

-- the bytes at hand settle nothing, and all of them stay
pub stopped_ahead : (rest ahead after left between : List ℕ) (offset offset' : ℕ) → rest ≡ ahead ++ between → left ≡ between
    → IsUnsettled ahead → after ≡ ahead ++ left → offset' ≡ offset → IsStopped rest offset ahead after left offset'
stopped_ahead rest ahead after left between offset offset' splits same unsettled stays moved =
    let whole : rest ≡ ahead ++ left = splits ∙ ap (λ (xs : List ℕ). ahead ++ xs) (sym same) in record {
      unread = (whole, unsettled);
      stays = λ none. ([], refl, whole ∙ sym stays, omega (arith, moved));
    }

-- blank bytes were skipped, and nothing is at hand
pub stopped_blank : (rest blank after left between : List ℕ) (offset offset' : ℕ) → rest ≡ blank ++ between → left ≡ between
    → is_blank blank ≡ true → after ≡ left → offset' ≡ offset + length blank → IsStopped rest offset blank after left offset'
stopped_blank rest blank after left between offset offset' splits same skipped stays moved =
    let whole : rest ≡ blank ++ left = splits ∙ ap (λ (xs : List ℕ). blank ++ xs) (sym same) in record {
      unread = (whole, inl (blank_unsettled blank skipped));
      stays = λ none. (blank, skipped, whole ∙ ap (λ (xs : List ℕ). blank ++ xs) (sym stays), moved);
    }

-- ---- what was needed

-- bytes that settle nothing were
pub needed_unread : (rest seen left between : List ℕ) → rest ≡ seen ++ between → left ≡ between → IsUnsettled seen → IsNeeded rest left
needed_unread rest seen left between splits same unsettled =
    (seen, [], (splits ∙ ap (λ (xs : List ℕ). seen ++ xs) (sym same), unsettled), omega arith)

-- and so were those at hand, of which the first n settle nothing
pub needed_ahead : (rest ahead left : List ℕ) (n : ℕ) → rest ≡ ahead ++ left → AwaitsHead (take n ahead)
    → length ahead ≤ BLOCK_BYTES → IsNeeded rest left
needed_ahead rest ahead left n splits unsettled block = (
  take n ahead,
  drop n ahead,
  (
    splits ∙ ap (λ (xs : List ℕ). xs ++ left) (sym (take-append-drop n ahead)) ∙ append_assoc (take n ahead) (drop n ahead) left,
    inl unsettled,
  ),
  omega (arith, length-drop n ahead),
)

-- the end of a source that tells was found where nothing is left behind bytes that settle nothing
pub ended_behind : (ahead seen : List ℕ) (left after : Option (List ℕ)) (before now : ℕ) → IsUnsettled seen
    → Told left after (λ b a. ahead ++ b ≡ seen) → IfSome left (λ b. (now ≡ before) ⊎ IsUnsettled (ahead ++ b))
ended_behind ahead seen None after before now unsettled told = tt
ended_behind ahead seen (Some b) None before now unsettled told = absurd told
ended_behind ahead seen (Some b) (Some a) before now unsettled told = inr (subst IsUnsettled (sym told) unsettled)

-- and else it was not found
pub ended_never : (ahead : List ℕ) (left : Option (List ℕ)) (before now : ℕ) → now ≡ before
    → IfSome left (λ b. (now ≡ before) ⊎ IsUnsettled (ahead ++ b))
ended_never ahead None before now same = tt
ended_never ahead (Some b) before now same = inl same

-- nor before what came of the rest
pub ended_joins : (ahead at_hand : List ℕ) (left between : Option (List ℕ)) (before first now : ℕ) → first ≡ before
    → Told left between (λ b m. ahead ++ b ≡ at_hand ++ m)
    → IfSome between (λ m. (now ≡ first) ⊎ IsUnsettled (at_hand ++ m)) → IfSome left (λ b. (now ≡ before) ⊎ IsUnsettled (ahead ++ b))
ended_joins ahead at_hand None between before first now same told ended = tt
ended_joins ahead at_hand (Some b) None before first now same told ended = absurd told
ended_joins ahead at_hand (Some b) (Some m) before first now same told ended =
    ⊎_elim (λ e. inl (e ∙ same)) (λ unsettled. inr (subst IsUnsettled (sym told) unsettled)) ended

-- ---- the limit

-- what is behind the bytes at hand is left
pub within_rest : (offset : ℕ) (rest ahead left : List ℕ) → rest ≡ ahead ++ left → offset + length ahead ≤ 2 ^ 36
    → offset + length rest ≤ 2 ^ 36 + length left
within_rest offset rest ahead left splits limit =
    let e : length rest ≡ length ahead + length left = ap length splits ∙ length-append ahead left in
    omega arith

-- and behind skipped bytes
pub within_skipped : (offset now : ℕ) (rest skipped ahead left : List ℕ) → rest ≡ skipped ++ (ahead ++ left)
    → length skipped ≡ now - offset → offset ≤ now → now + length ahead ≤ 2 ^ 36
    → offset + length rest ≤ 2 ^ 36 + length left
within_skipped offset now rest skipped ahead left splits count forward limit =
    let e : length rest ≡ length skipped + length (ahead ++ left) = ap length splits ∙ length-append skipped (ahead ++ left) in
    let f : length (ahead ++ left) ≡ length ahead + length left = length-append ahead left in
    omega arith

-- ---- behind bytes that were passed

-- what stands behind the bytes that were passed, where the source tells it
abbrev pub IsRest : List ℕ → List ℕ → List ℕ → Option (List ℕ) → Option (List ℕ) → Type 0
IsRest first bytes ahead before after = Told before after (λ b a. first ++ b ≡ bytes ++ (ahead ++ a))

-- it is the same where nothing was taken
pub rest_same : (first bytes ahead : List ℕ) (before between after : Option (List ℕ)) → IsRest first bytes ahead before between
    → Told between after (λ m a. a ≡ m) → IsRest first bytes ahead before after
rest_same first bytes ahead before between after rest same =
    told_joins before between after (λ b m. first ++ b ≡ bytes ++ (ahead ++ m)) (λ m a. a ≡ m)
    (λ b a. first ++ b ≡ bytes ++ (ahead ++ a))
    (λ b m a p q. p ∙ ap (λ (xs : List ℕ). bytes ++ (ahead ++ xs)) (sym q)) rest same

-- no more was taken than may be
pub within_behind : (first bytes ahead : List ℕ) (before after : Option (List ℕ)) (offset now : ℕ) → now ≡ offset + length bytes
    → now + length ahead ≤ 2 ^ 36 → IsRest first bytes ahead before after
    → Told before after (λ b a. offset + length (first ++ b) ≤ 2 ^ 36 + length a)
within_behind first bytes ahead before after offset now moved limit rest =
    told_maps before after (λ b a. first ++ b ≡ bytes ++ (ahead ++ a)) (λ b a. offset + length (first ++ b) ≤ 2 ^ 36 + length a)
    (λ b a p. within_skipped offset now (first ++ b) bytes ahead a p (omega (arith, moved)) (omega (arith, moved)) limit) rest

-- bytes at hand behind those that were passed
pub splits_ahead : (first bytes ahead b a : List ℕ) → first ++ b ≡ bytes ++ (ahead ++ a) → first ++ b ≡ (bytes ++ ahead) ++ a
splits_ahead first bytes ahead b a splits = splits ∙ sym (append_assoc bytes ahead a)

-- where these settle nothing, and no more was taken, they were needed
pub needed_unsettled : (first bytes ahead : List ℕ) (before after : Option (List ℕ)) → IsUnsettled (bytes ++ ahead)
    → IsRest first bytes ahead before after → Told before after (λ b a. IsNeeded (first ++ b) a)
needed_unsettled first bytes ahead before after unsettled rest =
    told_maps before after (λ b a. first ++ b ≡ bytes ++ (ahead ++ a)) _
    (λ b a p. needed_unread (first ++ b) (bytes ++ ahead) a a (splits_ahead first bytes ahead b a p) refl unsettled) rest
