-- Laws of periods: what it is to share an instant.
use Rattle.std.specs.Prelude.{◌≡◌, Bool, true, false, ◌&&◌, List, [], ◌∷◌, ◌++◌, ℤ, ◌<ℤ◌, ◌≤ℤ◌, int_le, Option, None, Some, IfSome, All, AllPairs, Contains}
use Rattle.std.proofs.Common.{arith, refl, subst}
use Rattle.std.proofs.lemmas.Int.{ints, by_lt_z}
use Rattle.std.proofs.lemmas.List.Elements.{All-contains}
use Rattle.ratings.specs.Spans.{Span}
use Rattle.ratings.specs.Periods.{AreApart, share, is_in_force, is_before_end}
use Rattle.ratings.proofs.PeriodLemmas.{IsApart}
use Rattle.rising.proofs.Selecting.{AllPairs-head, AllPairs-tail}
use Rattle.rising.proofs.Parting.{lt_yes, le_yes}

pub both : (x y : Bool) → x ≡ true → y ≡ true → x && y ≡ true
both true y h k = k
both false y h k = absurd (cc)

pub first_of : (x y : Bool) → x && y ≡ true → x ≡ true
first_of true y h = refl
first_of false y h = absurd (cc)

pub second_of : (x y : Bool) → x && y ≡ true → y ≡ true
second_of true y h = h
second_of false y h = absurd (cc)

-- what is before an end at an instant is so earlier
pub earlier : (x at : ℤ) (until : Option ℤ) → x ≤ℤ at → is_before_end at until ≡ true → is_before_end x until ≡ true
earlier x at None h k = refl
earlier x at (Some u) h k = lt_yes x u (omega (arith, ints))

pub share_at : (p q : Span) (at : ℤ) → is_in_force at p ≡ true → is_in_force at q ≡ true → share p q ≡ true
share_at p q at h k =
    let p_begun = first_of (int_le p.from at) (is_before_end at p.until) h in
    let q_begun = first_of (int_le q.from at) (is_before_end at q.until) k in
    both (is_before_end p.from q.until) (is_before_end q.from p.until)
    (earlier p.from at q.until (omega (arith, ints)) (second_of (int_le q.from at) (is_before_end at q.until) k))
    (earlier q.from at p.until (omega (arith, ints)) (second_of (int_le p.from at) (is_before_end at p.until) h))

before_own_end : (from : ℤ) (until : Option ℤ) → IfSome until (λ u. from <ℤ u) → is_before_end from until ≡ true
before_own_end from None h = refl
before_own_end from (Some u) h = lt_yes from u h

pub at_share : (p q : Span) → IfSome p.until (λ u. p.from <ℤ u) → IfSome q.until (λ u. q.from <ℤ u) → share p q ≡ true
    → (at : ℤ) × (is_in_force at p ≡ true) × (is_in_force at q ≡ true)
at_share p q h k s =
    by_lt_z p.from q.from
    (λ l. (
      q.from,
      both (int_le p.from q.from) (is_before_end q.from p.until) (le_yes p.from q.from (omega (arith, ints))) (second_of (is_before_end p.from q.until) (is_before_end q.from p.until) s),
      both (int_le q.from q.from) (is_before_end q.from q.until) (le_yes q.from q.from (omega (arith, ints))) (before_own_end q.from q.until k),
    ))
    (λ l. (
      p.from,
      both (int_le p.from p.from) (is_before_end p.from p.until) (le_yes p.from p.from (omega (arith, ints))) (before_own_end p.from p.until h),
      both (int_le q.from p.from) (is_before_end p.from q.until) (le_yes q.from p.from l) (first_of (is_before_end p.from q.until) (is_before_end q.from p.until) s),
    ))

back_apart : (front : List Span) (p : Span) (back : List Span) → AllPairs IsApart (front ++ p ∷ back) → All (IsApart p) back
back_apart [] p back h = AllPairs-head IsApart p back h
back_apart (x ∷ front) p back h = back_apart front p back (AllPairs-tail IsApart x (front ++ p ∷ back) h)

pub one_in_force : (kept front back : List Span) (p q : Span) (at : ℤ) → AreApart kept → kept ≡ front ++ p ∷ back → Contains back q
    → is_in_force at p ≡ true → is_in_force at q ≡ true → ⊥
one_in_force kept front back p q at h e there held other =
    let apart : share p q ≡ false = All-contains (IsApart p) back q (back_apart front p back (subst (AllPairs IsApart) e h.apart)) there in
    let same = share_at p q at held other in
    absurd (cc)
