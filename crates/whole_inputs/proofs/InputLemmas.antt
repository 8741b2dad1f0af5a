-- What is taken of an input, piece by piece.
use Rattle.std.proofs.Common.{◌≡◌, sym, ◌∙◌, ap, ℕ, ◌+◌, ◌<◌, ◌≤◌, List, [], ◌++◌, length, Option, Some, None, IfSome, subst, append_assoc, append-nil, length-append, arith}
use Rattle.whole_inputs.specs.Inputs.{Grows, IsTaken, IsTakenWithin, IsWhole}

-- a piece more was taken
pub taken_more : (l0 l1 l2 : Option (List ℕ)) (text piece : List ℕ) → IsTaken l0 text l1 → IsTaken l1 piece l2 → IsTaken l0 (text ++ piece) l2
taken_more None l1 l2 text piece first second = tt
taken_more (Some input) None l2 text piece first second = absurd first
taken_more (Some input) (Some mid) None text piece first second = absurd second
taken_more (Some input) (Some mid) (Some left) text piece first second =
    first ∙ ap (λ (l : List ℕ). text ++ l) second ∙ sym (append_assoc text piece left)

pub grown : (l0 l1 l2 : Option (List ℕ)) (text longer : List ℕ) → IsTaken l0 text l1 → Grows l1 text longer l2 → IsTaken l0 longer l2
grown l0 l1 l2 text longer first more =
    subst (λ (t : List ℕ). IsTaken l0 t l2) (sym more.1) (taken_more l0 l1 l2 text more.0 first more.2)

-- nothing was left behind it
pub whole : (l0 l1 l2 : Option (List ℕ)) (text : List ℕ) → IsTaken l0 text l1 → IsWhole l1 [] l2 → IsWhole l0 text l2
whole None l1 l2 text first ended = tt
whole (Some input) None l2 text first ended = absurd first
whole (Some input) (Some mid) None text first ended = absurd ended
whole (Some input) (Some mid) (Some left) text first ended =
    (first ∙ ap (λ (l : List ℕ). text ++ l) ended.0 ∙ append-nil text, ended.1)

-- what was taken is no more than this
pub within : (most : ℕ) (l0 l1 : Option (List ℕ)) (text : List ℕ) → IsTaken l0 text l1 → length text ≤ most → IsTakenWithin most l0 l1
within most None l1 text first few = tt
within most (Some input) None text first few = absurd first
within most (Some input) (Some left) text first few = (text, first, few)

pub within_more : (most room : ℕ) (l0 l1 l2 : Option (List ℕ)) (text : List ℕ) → IsTaken l0 text l1 → IsTakenWithin room l1 l2
    → length text + room ≤ most → IsTakenWithin most l0 l2
within_more most room None l1 l2 text first second few = tt
within_more most room (Some input) None l2 text first second few = absurd first
within_more most room (Some input) (Some mid) None text first second few = absurd second
within_more most room (Some input) (Some mid) (Some left) text first second few = (
  text ++ second.0,
  first ∙ ap (λ (l : List ℕ). text ++ l) second.1 ∙ sym (append_assoc text second.0 left),
  omega (arith, length-append text second.0, second.2),
)

-- it is longer than this
pub longer : (most : ℕ) (l0 l1 : Option (List ℕ)) (text : List ℕ) → IsTaken l0 text l1 → most < length text → IfSome l0 (λ input. most < length input)
longer most None l1 text first many = tt
longer most (Some input) None text first many = absurd first
longer most (Some input) (Some left) text first many =
    let all : length input ≡ length text + length left = ap length first ∙ length-append text left in
    omega (arith, all)
