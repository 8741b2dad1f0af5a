-- What is written by a pattern, found byte by byte, and the numbers of an instant.
use Rattle.std.specs.Prelude.{◌≡◌, ◌⊎◌, ◌≤◌, ◌-◌, ◌==◌, ℕ, Bool, true, false, List, [], ◌∷◌, length, take, drop, slice_index_or, None, Some, option_and_then}
use Rattle.std.proofs.Common.{arith, refl, inl, inr, ap, ◌∙◌}
use Rattle.std.proofs.lemmas.Bool.Decides.{nat_tests}
use Rattle.logger_files.specs.Times.{half_at, is_formed, next_number, number_behind, stands_for}
use Rattle.logger_files.proofs.LineLemmas.{split_first}

-- a text of a byte or more, and what is behind its first one
abbrev pub first_of : List ℕ → ℕ
first_of text = slice_index_or text 0 0

abbrev pub behind_first : List ℕ → List ℕ
behind_first text = take (length text - 1) (drop 1 text)

number_next : (n letter it b m : ℕ) (letters bytes : List ℕ) → next_number n letter it b ≡ Some m → number_behind n letter (it ∷ letters) (b ∷ bytes) ≡ number_behind m letter letters bytes
unfolding number_behind
number_next n letter it b m letters bytes e = ap (option_and_then (λ number. number_behind number letter letters bytes)) e

number_none : (n letter it b : ℕ) (letters bytes : List ℕ) → next_number n letter it b ≡ None → number_behind n letter (it ∷ letters) (b ∷ bytes) ≡ None
unfolding number_behind
number_none n letter it b letters bytes e = ap (option_and_then (λ number. number_behind number letter letters bytes)) e

both_split : {X : Type 0} (f : List ℕ → List ℕ → X) (letters bytes : List ℕ) → 1 ≤ length letters → 1 ≤ length bytes
    → f letters bytes ≡ f (first_of letters ∷ behind_first letters) (first_of bytes ∷ behind_first bytes)
both_split f letters bytes h k =
    ap (λ (l : List ℕ). f l bytes) (split_first letters h) ∙ ap (f (first_of letters ∷ behind_first letters)) (split_first bytes k)

pub number_step : (n letter m : ℕ) (letters bytes : List ℕ) → 1 ≤ length letters → 1 ≤ length bytes → next_number n letter (first_of letters) (first_of bytes) ≡ Some m
    → number_behind n letter letters bytes ≡ number_behind m letter (behind_first letters) (behind_first bytes)
number_step n letter m letters bytes h k e =
    both_split (number_behind n letter) letters bytes h k ∙ number_next n letter (first_of letters) (first_of bytes) m (behind_first letters) (behind_first bytes) e

pub number_stop : (n letter : ℕ) (letters bytes : List ℕ) → 1 ≤ length letters → 1 ≤ length bytes → next_number n letter (first_of letters) (first_of bytes) ≡ None
    → number_behind n letter letters bytes ≡ None
number_stop n letter letters bytes h k e =
    both_split (number_behind n letter) letters bytes h k ∙ number_none n letter (first_of letters) (first_of bytes) (behind_first letters) (behind_first bytes) e

-- nothing is left of the pattern or of the text
pub number_end : (n letter : ℕ) (letters bytes : List ℕ) → (length letters ≡ 0) ⊎ (length bytes ≡ 0) → number_behind n letter letters bytes ≡ Some n
unfolding number_behind
number_end n letter [] bytes h = refl
number_end n letter (it ∷ letters) [] h = refl
number_end n letter (it ∷ letters) (b ∷ bytes) (inl h) = absurd (omega arith)
number_end n letter (it ∷ letters) (b ∷ bytes) (inr h) = absurd (omega arith)

half_passed : (it b : ℕ) (letters bytes : List ℕ) → (it == 97) ≡ false → half_at (it ∷ letters) (b ∷ bytes) ≡ half_at letters bytes
unfolding half_at
half_passed it b letters bytes e = rw e refl

half_here : (it b : ℕ) (letters bytes : List ℕ) → (it == 97) ≡ true → half_at (it ∷ letters) (b ∷ bytes) ≡ Some b
unfolding half_at
half_here it b letters bytes e = rw e refl

pub half_end : (letters bytes : List ℕ) → (length letters ≡ 0) ⊎ (length bytes ≡ 0) → half_at letters bytes ≡ None
unfolding half_at
half_end [] bytes h = refl
half_end (it ∷ letters) [] h = refl
half_end (it ∷ letters) (b ∷ bytes) (inl h) = absurd (omega arith)
half_end (it ∷ letters) (b ∷ bytes) (inr h) = absurd (omega arith)

pub half_step : (letters bytes : List ℕ) → 1 ≤ length letters → 1 ≤ length bytes → (first_of letters == 97) ≡ false → half_at letters bytes ≡ half_at (behind_first letters) (behind_first bytes)
half_step letters bytes h k e = both_split half_at letters bytes h k ∙ half_passed (first_of letters) (first_of bytes) (behind_first letters) (behind_first bytes) e

pub half_stop : (letters bytes : List ℕ) → 1 ≤ length letters → 1 ≤ length bytes → (first_of letters == 97) ≡ true → half_at letters bytes ≡ Some (first_of bytes)
half_stop letters bytes h k e = both_split half_at letters bytes h k ∙ half_here (first_of letters) (first_of bytes) (behind_first letters) (behind_first bytes) e

formed_passed : (it b : ℕ) (letters bytes : List ℕ) → stands_for it b ≡ true → is_formed (it ∷ letters) (b ∷ bytes) ≡ is_formed letters bytes
unfolding is_formed
formed_passed it b letters bytes e = rw e refl

formed_not : (it b : ℕ) (letters bytes : List ℕ) → stands_for it b ≡ false → is_formed (it ∷ letters) (b ∷ bytes) ≡ false
unfolding is_formed
formed_not it b letters bytes e = rw e refl

pub formed_step : (letters bytes : List ℕ) → 1 ≤ length letters → 1 ≤ length bytes → stands_for (first_of letters) (first_of bytes) ≡ true
    → is_formed letters bytes ≡ is_formed (behind_first letters) (behind_first bytes)
formed_step letters bytes h k e = both_split is_formed letters bytes h k ∙ formed_passed (first_of letters) (first_of bytes) (behind_first letters) (behind_first bytes) e

pub formed_stop : (letters bytes : List ℕ) → 1 ≤ length letters → 1 ≤ length bytes → stands_for (first_of letters) (first_of bytes) ≡ false → is_formed letters bytes ≡ false
formed_stop letters bytes h k e = both_split is_formed letters bytes h k ∙ formed_not (first_of letters) (first_of bytes) (behind_first letters) (behind_first bytes) e

-- at the pattern's end the text has to end too
pub formed_end : (letters bytes : List ℕ) (d : Bool) → length letters ≡ 0 → (length bytes == 0) ≡ d → is_formed letters bytes ≡ d
unfolding is_formed
formed_end [] [] true h e = refl
formed_end [] [] false h e = e
formed_end [] (b ∷ bytes) true h e = absurd (let none : length (b ∷ bytes) ≡ 0 = grind (arith, nat_tests) in omega arith)
formed_end [] (b ∷ bytes) false h e = refl
formed_end (it ∷ letters) bytes d h e = absurd (omega arith)

pub formed_short : (letters bytes : List ℕ) → 1 ≤ length letters → length bytes ≡ 0 → is_formed letters bytes ≡ false
unfolding is_formed
formed_short [] bytes h e = absurd (omega arith)
formed_short (it ∷ letters) [] h e = refl
formed_short (it ∷ letters) (b ∷ bytes) h e = absurd (omega arith)
