-- The number that a site stands at is in the order of sites, and tells which site it is.
use Rattle.std.specs.Prelude.{◌≡◌, ℕ, ◌+◌, ◌*◌, ◌^◌, ◌<◌, ◌≤◌, pos, int_lt, nat_lt, nat_eq, true, false}
use Rattle.std.specs.Bool.{Decides}
use Rattle.std.specs.Ordering.{int_eq}
use Rattle.std.proofs.Common.{arith, ap, ◌∙◌}
use Rattle.std.proofs.lemmas.Bool.Decides.{Decides-int_eq}
use Rattle.std.proofs.lemmas.Int.{ints}
use Rattle.std.proofs.Math.Nat.{pow-le-pow_right}
use Rattle.fixed_units.specs.Quantities.{SiteNumber, IsSite, site_place, same_site}

-- the value of a site is below one place of its digits
small : (s : SiteNumber) → IsSite s → s.value < 10 ^ 15
small s h =
    let ten : 0 < 10 = omega arith in
    let k : 10 ^ s.digits ≤ 10 ^ 15 = pow-le-pow_right ten h.longest in
    let w = h.written in
    omega arith

eq_no : (m n : ℕ) → (m ≡ n → ⊥) → false ≡ nat_eq m n
eq_no m n h = grind arith

int_no : (m n : ℕ) → (m ≡ n → ⊥) → false ≡ int_eq (pos m) (pos n)
int_no m n h = grind (arith, ints)

lt_yes : (m n : ℕ) → m < n → true ≡ nat_lt m n
lt_yes m n h = grind arith

lt_no : (m n : ℕ) → n ≤ m → false ≡ nat_lt m n
lt_no m n h = grind arith

-- sites of other digits stand apart
pub apart : (a b : SiteNumber) → IsSite a → IsSite b → (a.digits ≡ b.digits → ⊥) → nat_eq a.digits b.digits ≡ same_site a b
apart a b h k n =
    let s = small a h in
    let t = small b k in
    let e : false ≡ nat_eq a.digits b.digits = eq_no a.digits b.digits n in
    let f = int_no (a.digits * 10 ^ 15 + a.value) (b.digits * 10 ^ 15 + b.value) (λ e. n (omega (arith, s, t, e))) in
    cc

-- a site of fewer digits stands before
pub fewer : (a b : SiteNumber) → IsSite a → IsSite b → a.digits < b.digits → nat_lt a.digits b.digits ≡ int_lt (site_place a) (site_place b)
fewer a b h k l =
    let s = small a h in
    let t = small b k in
    let e = lt_yes a.digits b.digits l in
    let f = lt_yes (a.digits * 10 ^ 15 + a.value) (b.digits * 10 ^ 15 + b.value) (omega (arith, s, t, l)) in
    cc

-- a site of more digits stands behind
pub more : (a b : SiteNumber) → IsSite a → IsSite b → b.digits ≤ a.digits → (a.digits ≡ b.digits → ⊥) → nat_eq a.digits b.digits ≡ int_lt (site_place a) (site_place b)
more a b h k l n =
    let s = small a h in
    let t = small b k in
    let m : b.digits < a.digits = grind arith in
    let e = eq_no a.digits b.digits n in
    let f = lt_no (a.digits * 10 ^ 15 + a.value) (b.digits * 10 ^ 15 + b.value) (omega (arith, s, t, m)) in
    cc

-- two sites are one exactly where they stand at one number
of_parts : (a b : SiteNumber) → a.digits ≡ b.digits → a.value ≡ b.value → a ≡ b
of_parts a b d v = ap (λ n. record { digits = n; value = a.value }) d ∙ ap (λ n. record { digits = b.digits; value = n }) v

pub Decides-same_site : (a b : SiteNumber) → IsSite a → IsSite b → Decides (same_site a b) (a ≡ b)
Decides-same_site a b h k =
    let s = small a h in
    let t = small b k in (
      λ e.
          let f = (Decides-int_eq (site_place a) (site_place b)).0 e in
          let d : a.digits ≡ b.digits = omega (arith, ints, s, t, f) in
          let v : a.value ≡ b.value = omega (arith, ints, s, t, f) in
          of_parts a b d v,
      λ e. (Decides-int_eq (site_place a) (site_place b)).1 (ap site_place e),
    )
