-- Messages: a rest begins with at most one, and a list of bytes is messages and a last rest in one way only.
use Rattle.std.proofs.Common.{◌≡◌, ℕ, ◌+◌, ◌<◌, true, List, [], ◌∷◌, ◌++◌, length, take, drop, refl, sym, ap, ◌∙◌, subst, arith, inl, inr, ⊎_elim, length-append}
use Rattle.std.proofs.lemmas.Bool.{true≢false}
use Rattle.std.proofs.lemmas.List.{append_cancel_left, drop_at}
use Rattle.std.proofs.Math.Seq.{take-append_seam}
use Rattle.httparse.specs.Grammar.{RequestHead, print_request}
use Rattle.wire.specs.declared.framing.Frame.{Frame}
use Rattle.wire.specs.declared.framing.Frame.TheVariants as frames
use Rattle.wire.specs.declared.messages.Message.{Message}
use Rattle.wire.specs.Framing.{verb_of, frame_of, body_length}
use Rattle.wire.specs.Messages.{is_blank, whole_length, IsWhole, IsToldAs, IsMessage, IsMalformed, AreMessages, IsLast, IsLike, AreLike}
use Rattle.wire.proofs.HeadLemmas.{head_unique, head_not_blank}

-- as many bytes before the rest are the same bytes
same_front : (xs ys after behind : List ℕ) → length xs ≡ length ys → xs ++ after ≡ ys ++ behind → (xs ≡ ys) × (after ≡ behind)
same_front xs ys after behind len same = (
  sym (take-append_seam xs after) ∙ ap (take (length xs)) same
      ∙ ap (λ (n : ℕ). take n (ys ++ behind)) len ∙ take-append_seam ys behind,
  sym (drop_at xs after (length xs) refl) ∙ ap (drop (length xs)) same
      ∙ drop_at ys behind (length xs) (sym len),
)

-- there is at most one head and body
pub whole_unique : (rest : List ℕ) (head other : RequestHead) (body another after behind : List ℕ)
    → IsWhole rest head body after → IsWhole rest other another behind → (head ≡ other) × (body ≡ another) × (after ≡ behind)
whole_unique rest head other body another after behind x y =
    let same = head_unique rest head other x.begins y.begins in
    let joined : print_request head ++ (body ++ after) ≡ print_request head ++ (another ++ behind) =
    sym x.splits ∙ y.splits ∙ ap (λ (h : RequestHead). print_request h ++ (another ++ behind)) (sym same) in
    let len : length body ≡ length another =
    x.counted ∙ ap (λ (h : RequestHead). body_length (frame_of h)) same ∙ sym y.counted in
    let parts = same_front body another after behind len
    (append_cancel_left (print_request head) (body ++ after) (another ++ behind) joined) in
    (same, parts.0, parts.1)

-- how long a rest is that begins with a whole message
pub whole_counts : (rest : List ℕ) (head : RequestHead) (body after : List ℕ) → IsWhole rest head body after
    → length rest ≡ whole_length head + length after
whole_counts rest head body after whole =
    let e : length rest ≡ length (print_request head) + length (body ++ after) =
    ap length whole.splits ∙ length-append (print_request head) (body ++ after) in
    let f : length (body ++ after) ≡ length body + length after = length-append body after in
    let g : length body ≡ body_length (frame_of head) = whole.counted in
    omega arith

-- a rest that begins with one is not malformed
pub malformed_no_whole : (rest : List ℕ) → IsMalformed rest
    → (head : RequestHead) (body after : List ℕ) → ¬ (IsWhole rest head body after)
malformed_no_whole rest malformed head body after whole =
    let short : length rest < whole_length head = malformed.cut head whole.begins whole.framed in
    let counts : length rest ≡ whole_length head + length after = whole_counts rest head body after whole in
    omega arith

-- what is told of a head and its body is the same, but for want of memory
told_alike : (frame : Frame) (head : RequestHead) (body : List ℕ) (message other : Message)
    → IsToldAs frame head body message → IsToldAs frame head body other → IsLike message other
told_alike (frames.Body len) head body message other x y =
    ⊎_elim
    (λ p. ⊎_elim (λ q. inl (p ∙ sym q)) (λ q. inr (inr (q, verb_of head.method, head.target, body, p))) y)
    (λ p. ⊎_elim (λ q. inr (inl (p, verb_of head.method, head.target, body, q))) (λ q. inl (p ∙ sym q)) y)
    x
told_alike frames.NoLength head body message other x y = inl (x ∙ sym y)
told_alike (frames.TooLarge len) head body message other x y = inl (x ∙ sym y)
told_alike frames.Ill head body message other x y = absurd x

-- there is at most one message, but for want of memory
pub message_unique : (rest : List ℕ) (message other : Message) (after behind : List ℕ)
    → IsMessage rest message after → IsMessage rest other behind → IsLike message other × (after ≡ behind)
message_unique rest message other after behind x y =
    let same = whole_unique rest x.0 y.0 x.1 y.1 after behind x.2 y.2 in
    let told : IsToldAs (frame_of x.0) x.0 x.1 other =
    subst (λ (body : List ℕ). IsToldAs (frame_of x.0) x.0 body other) (sym same.1)
    (subst (λ (head : RequestHead). IsToldAs (frame_of head) head y.1 other) (sym same.0) y.3) in
    (told_alike (frame_of x.0) x.0 x.1 message other x.3 told, same.2)

-- no message stands in blank bytes
pub message_not_blank : (rest : List ℕ) (message : Message) (after : List ℕ) → IsMessage rest message after → ¬ (is_blank rest ≡ true)
message_not_blank rest message after x blank = true≢false (sym blank ∙ head_not_blank rest x.0 x.2.begins)

-- nor in a malformed rest
pub message_not_malformed : (rest : List ℕ) (message : Message) (after : List ℕ) → IsMessage rest message after → ¬ (IsMalformed rest)
message_not_malformed rest message after x malformed = malformed_no_whole rest malformed x.0 x.1 after x.2

-- nor in a last rest
last_no_message : (rest : List ℕ) (message : Message) (after : List ℕ) → IsLast rest → ¬ (IsMessage rest message after)
last_no_message rest message after last x =
    ⊎_elim (λ blank. message_not_blank rest message after x blank) (λ malformed. message_not_malformed rest message after x malformed) last

-- bytes are messages and a last rest in one way only
pub reading_unique : (input : List ℕ) (messages others : List Message) (rest other : List ℕ)
    → AreMessages input messages rest → IsLast rest → AreMessages input others other → IsLast other
    → AreLike messages others × (rest ≡ other)
reading_unique input [] [] rest other x last y end = (tt, sym x ∙ y)
reading_unique input [] (n ∷ others) rest other x last y end =
    absurd (last_no_message input n y.0 (subst IsLast (sym x) last) y.1)
reading_unique input (m ∷ messages) [] rest other x last y end =
    absurd (last_no_message input m x.0 (subst IsLast (sym y) end) x.1)
reading_unique input (m ∷ messages) (n ∷ others) rest other x last y end =
    let first = message_unique input m n x.0 y.0 x.1 y.1 in
    let behind : AreMessages x.0 others other = subst (λ (r : List ℕ). AreMessages r others other) (sym first.1) y.2 in
    let back = reading_unique x.0 messages others rest other x.2 last behind end in
    ((first.0, back.0), back.1)
