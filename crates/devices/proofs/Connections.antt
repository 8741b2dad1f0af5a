-- From the place of one connection to what doors tell of all.
use Rattle.std.specs.Prelude.{◌≡◌, ◌≢◌, ℕ, zero, suc, ◌≤◌, List, [], ◌∷◌, ◌++◌, length, map, option_copied, option_map, slice_get, slice_set, Option, Some, None, IfSome, MatchOption}
use Rattle.std.proofs.Common.{refl, ap, subst, ◌∙◌, arith, Bor}
use Rattle.std.proofs.lemmas.List.{map-append}
use Rattle.devices.specs.Doors.{Ends, IsBack, IsGiven, back_at, back_under, told_by}

-- one more place, of which nothing was taken back

more_at : {P : Type 0} (back : P → Option Ends) (places : List P) (p : P) (place : ℕ) → back p ≡ None
    → back_at back (places ++ p ∷ []) place ≡ back_at back places place
more_at back [] p zero none = none
more_at back [] p (suc place) none = refl
more_at back (q ∷ places) p zero none = refl
more_at back (q ∷ places) p (suc place) none = more_at back places p place none

more_under : {P : Type 0} (back : P → Option Ends) (places : List P) (p : P) (number : ℕ) → back p ≡ None
    → back_under back (places ++ p ∷ []) number ≡ back_under back places number
more_under back places p zero none = refl
more_under back places p (suc place) none = more_at back places p place none

pub is_given : {P : Type 0} (given : P → Ends) (back : P → Option Ends) (old new : List P) (p : P) (ends : Ends) → new ≡ old ++ p ∷ [] → given p ≡ ends
    → back p ≡ None → IsGiven ends (told_by given back old) (told_by given back new)
is_given given back old new p ends is tells none =
    rw is
    (record {
      given = map-append given old (p ∷ []) ∙ ap (λ (e : Ends). map given old ++ e ∷ []) tells;
      back = λ number. more_under back old p number none;
    })

-- another place in place of one

same_given : {P : Type 0} (given : P → Ends) (places : List P) (place : ℕ) (q : P) → ((p : P) → slice_get places place ≡ Some p → given q ≡ given p)
    → map given (slice_set places place q) ≡ map given places
same_given given [] place q same = refl
same_given given (p ∷ places) zero q same = ap (λ (e : Ends). e ∷ map given places) (same p refl)
same_given given (p ∷ places) (suc place) q same = ap (λ (es : List Ends). given p ∷ es) (same_given given places place q same)

here_at : {P : Type 0} (given : P → Ends) (back : P → Option Ends) (places : List P) (place : ℕ) (q : P) → suc place ≤ length (map given places)
    → back_at back (slice_set places place q) place ≡ back q
here_at given back [] place q within = absurd (omega arith)
here_at given back (p ∷ places) zero q within = refl
here_at given back (p ∷ places) (suc place) q within = here_at given back places place q (omega arith)

other_at : {P : Type 0} (back : P → Option Ends) (places : List P) (place other : ℕ) (q : P) → other ≢ place
    → back_at back (slice_set places place q) other ≡ back_at back places other
other_at back [] place other q differs = refl
other_at back (p ∷ places) zero zero q differs = absurd (differs refl)
other_at back (p ∷ places) zero (suc other) q differs = refl
other_at back (p ∷ places) (suc place) zero q differs = refl
other_at back (p ∷ places) (suc place) (suc other) q differs = other_at back places place other q (λ (is : other ≡ place). differs (ap suc is))

other_under : {P : Type 0} (back : P → Option Ends) (places : List P) (place other : ℕ) (q : P) → other ≢ suc place
    → back_under back (slice_set places place q) other ≡ back_under back places other
other_under back places place zero q differs = refl
other_under back places place (suc other) q differs = other_at back places place other q (λ (is : other ≡ place). differs (ap suc is))

pub is_back : {P : Type 0} (given : P → Ends) (back : P → Option Ends) (places : List P) (number place : ℕ) (q : P) (ends : Ends) → suc place ≡ number
    → number ≤ length (map given places) → ((p : P) → slice_get places place ≡ Some p → given q ≡ given p) → back q ≡ Some ends
    → IsBack number ends (told_by given back places) (told_by given back (slice_set places place q))
is_back given back places number place q ends is within same tells =
    subst (λ (n : ℕ). IsBack n ends (told_by given back places) (told_by given back (slice_set places place q))) is
    (record {
      given = same_given given places place q same;
      here = here_at given back places place q (omega (arith, is, within)) ∙ tells;
      others = λ other differs. other_under back places place other q differs;
    })

-- what stands under a number

past_at : {P : Type 0} (back : P → Option Ends) (places : List P) (place : ℕ) → length places ≤ place → back_at back places place ≡ None
past_at back [] place past = refl
past_at back (p ∷ places) zero past = absurd (omega arith)
past_at back (p ∷ places) (suc place) past = past_at back places place (omega arith)

pub nothing_under : {P : Type 0} (back : P → Option Ends) (places : List P) (number place : ℕ) → suc place ≡ number → length places ≤ place
    → back_under back places number ≡ None
nothing_under back places number place is past = subst (λ (n : ℕ). back_under back places n ≡ None) is (past_at back places place past)

there_at : {P : Type 0} (back : P → Option Ends) (places : List P) (place : ℕ) (p : P) → slice_get places place ≡ Some p → back_at back places place ≡ back p
there_at back [] place p at = absurd (cc at)
there_at {P = P} back (q ∷ places) zero p at = subst (λ (found : Option P). IfSome found (λ f. back q ≡ back f)) at refl
there_at back (q ∷ places) (suc place) p at = there_at back places place p at

pub stands_under : {P : Type 0} (back : P → Option Ends) (places : List P) (number place : ℕ) (p : P) → suc place ≡ number → slice_get places place ≡ Some p
    → back_under back places number ≡ back p
stands_under back places number place p is at = subst (λ (n : ℕ). back_under back places n ≡ back p) is (there_at back places place p at)

-- what is told, of a value and of a loan of one

pub by_value : {X Y : Type 0} (tell : X → Y) (kept : Option X) (told : Option Y) → told ≡ option_map tell kept
    → MatchOption kept (told ≡ None) (λ x. told ≡ Some (tell x))
by_value tell None told is = is
by_value tell (Some x) told is = is

pub by_loan : {X Y : Type 0} (tell : X → Y) (lent : Option (Bor X)) (told : Option Y) → told ≡ option_map tell (option_copied lent)
    → MatchOption lent (told ≡ None) (λ x. told ≡ Some (tell x.now))
by_loan tell None told is = is
by_loan tell (Some x) told is = is
