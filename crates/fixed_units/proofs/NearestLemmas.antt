-- A published value is the nearest one, and there is no other.
use Rattle.std.proofs.Common.{◌≡◌, ◌≢◌, refl, ap, sym, subst, ◌∙◌, ℕ, zero, suc, ◌+◌, ◌-◌, ◌*◌, ◌/◌, ◌^◌, ◌<◌, ◌≤◌, min, ◌==◌, Bool, true, false, List, ℤ, pos, negsuc, neg_ℤ, ◌*ℤ◌, ◌≤ℤ◌, ◌<ℤ◌, unsigned_abs, int_div, arith, ◌⊎◌, inl, inr}
use Rattle.std.proofs.Math.Nat.{mul-le-mul_right, mul-div_cancel}
use Rattle.std.proofs.lemmas.Bool.Decides.{nat_tests}
use Rattle.std.proofs.lemmas.Bool.{cases_lt}
use Rattle.std.proofs.lemmas.Int.{ints, by_lt_z, unsigned_abs-mul}
use borrow.Author.Differences.{up, down}
use Rattle.fixed_units.specs.Rounding.{round}
use Rattle.fixed_units.specs.RoundingArray.{most_decimals, figures, rounded_off}
use Rattle.fixed_units.specs.Published.{HasDigits, left_out, IsNearest, IsPublished, whole_digits, round_off, shown, published_digits, published}
use Rattle.fixed_units.specs.declared.published.Published.{Published}
use Rattle.fixed_units.proofs.RoundingLemmas.{neg-mul, one_more, round-IsRounded, rounded-unique}
use Rattle.fixed_units.proofs.DigitLemmas.{quotient-HasDigits, HasDigits-unique, whole-small}
use Rattle.fixed_units.proofs.PublishLemmas.{ten-split, ten-above, ten-le, divisor-above}

-- a multiple is divided exactly
exact : (n : ℤ) (m p : ℕ) → 0 < p → unsigned_abs n ≡ m * p → int_div n (pos p) *ℤ pos p ≡ n
exact (pos a) m p h e =
    let quotient : a / p ≡ m = ap (λ (x : ℕ). x / p) e ∙ mul-div_cancel m h in
    ap (λ (x : ℕ). pos (x * p)) quotient ∙ ap pos (sym e)
exact (negsuc a) m p h e =
    let quotient : suc a / p ≡ m = ap (λ (x : ℕ). x / p) e ∙ mul-div_cancel m h in
    ap (λ (x : ℕ). neg_ℤ (pos x) *ℤ pos p) quotient ∙ neg-mul m p ∙ ap (λ (x : ℕ). neg_ℤ (pos x)) (sym e)

-- what is left out where rounding brought a digit more, and where it did not
left_out-cases : (array : List ℕ) (digits rounded : ℕ)
    → ((rounded ≡ 10 ^ digits) × (figures array (digits + 1) ≢ 0) × (left_out array digits rounded ≡ rounded_off array (digits + 1)))
    ⊎ (left_out array digits rounded ≡ rounded_off array digits)
left_out-cases array digits rounded = by (rounded == 10 ^ digits) refl (figures array (digits + 1) == 0) refl
  where
    by : (a : Bool) → (rounded == 10 ^ digits) ≡ a → (b : Bool) → (figures array (digits + 1) == 0) ≡ b
        → ((rounded ≡ 10 ^ digits) × (figures array (digits + 1) ≢ 0) × (left_out array digits rounded ≡ rounded_off array (digits + 1)))
        ⊎ (left_out array digits rounded ≡ rounded_off array digits)
    by false e b f = inr (rw e refl)
    by true e true f = inr (rw (e, f) refl)
    by true e false f = inl (grind (arith, nat_tests), (λ z. grind (arith, nat_tests)), rw (e, f) refl)

-- a power that is a multiple of another is no less
power-le : (k n q : ℕ) → q * 10 ^ k ≡ 10 ^ n → k ≤ n
power-le k n zero e = absurd (omega (arith, ten-above n))
power-le k n (suc q) e = by (cases_lt n k)
  where
    by : (n < k) ⊎ (k ≤ n) → k ≤ n
    by (inr h) = h
    by (inl h) =
        let more = ten-le (n + 1) k (omega arith) in
        let next = ten-split (n + 1) n (omega arith) in
        let one : n + 1 - n ≡ 1 = omega arith in
        let ten : 10 ^ (n + 1) ≡ 10 * 10 ^ n = rw one at next in
        let least : 1 * 10 ^ k ≤ suc q * 10 ^ k = mul-le-mul_right (10 ^ k) (omega arith) in
        absurd (omega (arith, ten-above n))

positive : (n : ℕ) → n ≢ 0 → 0 < n
positive zero h = absurd (h refl)
positive (suc n) h = omega arith

grouped : (q a b : ℕ) → q * (a * b) ≡ q * a * b
grouped q a b = omega arith

-- a digit more never leaves out more than all the zeros
left_out-more : (array : List ℕ) (digits : ℕ) → figures array (digits + 1) ≢ 0 → rounded_off array digits ≤ digits → rounded_off array (digits + 1) ≤ digits
left_out-more array digits some within =
    let one = positive (figures array (digits + 1)) some in
    omega arith

-- the digits that are left out are zeros
left_out-zeros : (array : List ℕ) (digits q : ℕ)
    → (m : ℕ) × (q * 10 ^ rounded_off array digits ≡ m * 10 ^ min (left_out array digits (q * 10 ^ rounded_off array digits)) 6)
left_out-zeros array digits q = by (left_out-cases array digits (q * 10 ^ rounded_off array digits))
  where
    by : ((q * 10 ^ rounded_off array digits ≡ 10 ^ digits) × (figures array (digits + 1) ≢ 0) × (left_out array digits (q * 10 ^ rounded_off array digits) ≡ rounded_off array (digits + 1)))
        ⊎ (left_out array digits (q * 10 ^ rounded_off array digits) ≡ rounded_off array digits)
        → (m : ℕ) × (q * 10 ^ rounded_off array digits ≡ m * 10 ^ min (left_out array digits (q * 10 ^ rounded_off array digits)) 6)
    by (inl h) =
        let within = power-le (rounded_off array digits) digits q h.0 in
        let most = left_out-more array digits h.1 within in
        let few : min (left_out array digits (q * 10 ^ rounded_off array digits)) 6 ≤ digits = omega (arith, h.2, most) in
        (10 ^ (digits - min (left_out array digits (q * 10 ^ rounded_off array digits)) 6), h.0 ∙ ten-split digits (min (left_out array digits (q * 10 ^ rounded_off array digits)) 6) few)
    by (inr h) =
        let k = min (left_out array digits (q * 10 ^ rounded_off array digits)) 6 in
        let few : k ≤ rounded_off array digits = omega (arith, h) in
        (q * 10 ^ (rounded_off array digits - k), ap (λ (x : ℕ). q * x) (ten-split (rounded_off array digits) k few) ∙ grouped q (10 ^ (rounded_off array digits - k)) (10 ^ k))

-- the two cases of the definition
published-none : (array : List ℕ) (digits : ℕ) (num den : ℤ) → figures array digits ≡ 0
    → published_digits array digits num den ≡ record { units = pos 0; places = most_decimals array }
published-none array digits num den h = rw h refl

published-some : (array : List ℕ) (digits : ℕ) (num den : ℤ) → figures array digits ≢ 0
    → published_digits array digits num den
    ≡ shown (left_out array digits (unsigned_abs (round_off (rounded_off array digits) num den))) (round_off (rounded_off array digits) num den)
published-some array digits num den h =
    let test : (figures array digits == 0) ≡ false = grind (arith, nat_tests) in
    rw test refl

-- what the code puts together
pub published-assembled : (array : List ℕ) (digits f off r l : ℕ) (num den n : ℤ) (v : Published) → f ≡ figures array digits → ¬ (f ≡ 0)
    → off ≡ rounded_off array digits → n ≡ round_off off num den → r ≡ unsigned_abs n → l ≡ left_out array digits r → v ≡ shown l n
    → v ≡ published_digits array digits num den
published-assembled array digits f off r l num den n v figure some offs rounded magnitude left value =
    let nonzero : figures array digits ≢ 0 = λ z. some (figure ∙ z) in
    let whole : n ≡ round_off (rounded_off array digits) num den = rounded ∙ ap (λ (x : ℕ). round_off x num den) offs in
    value ∙ rw (left, magnitude, whole) refl ∙ sym (published-some array digits num den nonzero)

-- the value shown is the rounded one
shown-value : (left : ℕ) (n : ℤ) (m : ℕ) → unsigned_abs n ≡ m * 10 ^ min left 6
    → (shown left n).units *ℤ pos (10 ^ (6 - (shown left n).places)) ≡ n
shown-value left n m h =
    let decimals : 6 - (6 - left) ≡ min left 6 = omega arith in
    rw decimals (exact n m (10 ^ min left 6) (ten-above (min left 6)) h)

shown-IsNearest : (array : List ℕ) (digits : ℕ) (num den : ℤ) → pos 0 <ℤ den
    → IsNearest array digits num den (shown (left_out array digits (unsigned_abs (round_off (rounded_off array digits) num den))) (round_off (rounded_off array digits) num den))
shown-IsNearest array digits num den h =
    let q = round num (den *ℤ pos (10 ^ rounded_off array digits)) in
    let magnitude : unsigned_abs (round_off (rounded_off array digits) num den) ≡ unsigned_abs q * 10 ^ rounded_off array digits = unsigned_abs-mul q (pos (10 ^ rounded_off array digits)) in
    let zeros = left_out-zeros array digits (unsigned_abs q) in
    record {
      multiple = q;
      nearest = round-IsRounded num (den *ℤ pos (10 ^ rounded_off array digits)) (divisor-above den (rounded_off array digits) h);
      places = ap (λ (x : ℕ). 6 - left_out array digits x) magnitude;
      value = shown-value (left_out array digits (unsigned_abs (round_off (rounded_off array digits) num den))) (round_off (rounded_off array digits) num den) zeros.0 (magnitude ∙ zeros.1 ∙ ap (λ (x : ℕ). zeros.0 * 10 ^ min (left_out array digits x) 6) (sym magnitude));
    }

-- a magnitude of so many digits
pub published_digits-IsPublished : (array : List ℕ) (n : ℕ) (num den : ℤ) → pos 0 <ℤ den → HasDigits (unsigned_abs num) (unsigned_abs den) n
    → IsPublished array num den (published_digits array n num den)
published_digits-IsPublished array n num den h counts = record {
  digits = n;
  counted = counts;
  none = λ e. published-none array n num den e;
  some = λ e. subst (IsNearest array n num den) (sym (published-some array n num den e)) (shown-IsNearest array n num den h);
}

pub published-IsPublished : (array : List ℕ) (num den : ℤ) → pos 0 <ℤ den → neg_ℤ (den *ℤ pos (10 ^ 17)) ≤ℤ num → num ≤ℤ (den *ℤ pos (10 ^ 17))
    → IsPublished array num den (published array num den)
unfolding published
published-IsPublished array num den h low high =
    let small = whole-small num den h low high in
    let above : 0 < unsigned_abs den = omega (arith, ints) in
    published_digits-IsPublished array (whole_digits num den) num den h
    (quotient-HasDigits (unsigned_abs num) (unsigned_abs den) above (omega (arith, small)))

-- a factor is taken out
cancelled : (x y : ℤ) (p : ℕ) → 0 < p → x *ℤ pos p ≡ y *ℤ pos p → x ≡ y
cancelled x y p h e =
    by_lt_z x y
    (λ l. let more = one_more (up x + down y) (up y + down x) p (omega (arith, ints, l)) in absurd (omega (arith, ints, more, e)))
    (λ g. by_lt_z y x
    (λ l. let more = one_more (up y + down x) (up x + down y) p (omega (arith, ints, l)) in absurd (omega (arith, ints, more, e)))
    (λ l. omega (arith, ints, g, l)))

pub value_parts : (v w : Published) → v.units ≡ w.units → v.places ≡ w.places → v ≡ w
value_parts v w e f =
    let by_units : ℤ → Published = λ x. record { units = x; places = v.places } in
    let by_places : ℕ → Published = λ x. record { units = w.units; places = x } in
    ap by_units e ∙ ap by_places f

nearest-unique : (array : List ℕ) (digits : ℕ) (num den : ℤ) (v w : Published) → pos 0 <ℤ den
    → IsNearest array digits num den v → IsNearest array digits num den w → v ≡ w
nearest-unique array digits num den v w h r s =
    let same = rounded-unique num (den *ℤ pos (10 ^ rounded_off array digits)) r.multiple s.multiple (divisor-above den (rounded_off array digits) h) r.nearest s.nearest in
    let places : v.places ≡ w.places =
    r.places ∙ ap (λ (x : ℤ). 6 - left_out array digits (unsigned_abs x * 10 ^ rounded_off array digits)) same ∙ sym s.places in
    let value : v.units *ℤ pos (10 ^ (6 - w.places)) ≡ w.units *ℤ pos (10 ^ (6 - w.places)) =
    ap (λ (x : ℕ). v.units *ℤ pos (10 ^ (6 - x))) (sym places) ∙ r.value ∙ ap (λ (x : ℤ). x *ℤ pos (10 ^ rounded_off array digits)) same ∙ sym s.value in
    value_parts v w (cancelled v.units w.units (10 ^ (6 - w.places)) (ten-above (6 - w.places)) value) places

zero_or_not : (n : ℕ) → (n ≡ 0) ⊎ (n ≢ 0)
zero_or_not zero = inl refl
zero_or_not (suc n) = inr (λ e. absurd (omega (arith, e)))

-- no fraction has two published values
pub published-unique : (array : List ℕ) (num den : ℤ) (v w : Published) → pos 0 <ℤ den → IsPublished array num den v → IsPublished array num den w → v ≡ w
published-unique array num den v w h r s =
    let same = HasDigits-unique (unsigned_abs num) (unsigned_abs den) s.digits r.digits s.counted r.counted in
    let none : figures array r.digits ≡ 0 → w ≡ record { units = pos 0; places = most_decimals array } = subst (λ (n : ℕ). figures array n ≡ 0 → w ≡ record { units = pos 0; places = most_decimals array }) same s.none in
    let some : figures array r.digits ≢ 0 → IsNearest array r.digits num den w = subst (λ (n : ℕ). figures array n ≢ 0 → IsNearest array n num den w) same s.some in
    elim (zero_or_not (figures array r.digits)) [
      | inl e ↦ r.none e ∙ sym (none e)
      | inr e ↦ nearest-unique array r.digits num den v w h (r.some e) (some e)
    ]
