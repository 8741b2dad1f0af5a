-- The readings of a station's days where readings are put.
use Rattle.std.specs.Prelude.{◌≡◌, ℕ, ◌+◌, ◌-◌, ◌≤◌, Bool, true, false, not, ◌&&◌, cond, nat_lt, List, [], ◌∷◌, ◌++◌, filter, length, option_to_list, Option, Some, None, ℤ, pos, ◌+ℤ◌, int_lt, int_le, All}
use Rattle.std.proofs.Common.{arith, refl, ap, sym, subst, ◌∙◌}
use Rattle.std.proofs.lemmas.List.{length-append}
use Rattle.std.proofs.lemmas.List.Elements.{All-weaker, filter-append, filter_passes}
use Rattle.std.proofs.lemmas.List.Filters.{length-filter_both}
use Rattle.fixed_units.specs.declared.readings.Reading.{Reading}
use Rattle.rising.specs.Lists as lists
use Rattle.rising.proofs.Placing.{put_rises}
use Rattle.rising.proofs.Selecting.{filter_all, filter_both, filter_none}
use Rattle.rising.proofs.Splitting.{IsAt, at_is_at, whole}
use Rattle.readings.specs.Readings.{IsRising, instant_of, put, put_all}
use Rattle.readings.specs.Window.{is_of_day, of_day}
use Rattle.station_inputs.specs.Counts.{day_count, passes}
use Rattle.station_inputs.specs.Stations.{StationState, day_start, with_readings}
use Rattle.station_inputs.proofs.LengthLemmas.{length_put_new, length_put_same}

-- two filters, in either order
and_swapped : (a b : Bool) → (a && b) ≡ (b && a)
and_swapped true true = refl
and_swapped true false = refl
and_swapped false true = refl
and_swapped false false = refl

filter_alike : {X : Type 0} (p q : X → Bool) → ((x : X) → p x ≡ q x) → (xs : List X) → filter p xs ≡ filter q xs
filter_alike p q h [] = refl
filter_alike p q h (x ∷ xs) = rw (h x, filter_alike p q h xs) refl

pub filters_swapped : {X : Type 0} (p q : X → Bool) (xs : List X) → filter p (filter q xs) ≡ filter q (filter p xs)
filters_swapped p q xs =
    filter_both q p xs ∙ filter_alike (λ x. q x && p x) (λ x. p x && q x) (λ x. and_swapped (q x) (p x)) xs ∙ sym (filter_both p q xs)

kept_step : (t : Reading → Bool) (r : Reading) (rs : List Reading) (b : Bool) → t r ≡ b → filter t (r ∷ rs) ≡ cond b (r ∷ filter t rs) (filter t rs)
kept_step t r rs true e = rw e refl
kept_step t r rs false e = rw e refl

-- those of some instants among readings that are put, put among those of these instants
module _ (p : ℤ → Bool) where
  abbrev at_these : Reading → Bool
  at_these r = p r.at

  passed_put : (r : Reading) (xs : List Reading) → p r.at ≡ true → filter at_these (put r xs) ≡ put r (filter at_these xs)
  passed_put r xs e =
      let bs = lists.before instant_of r.at xs in
      let cs = lists.after instant_of r.at xs in
      let b : filter at_these bs ≡ lists.before instant_of r.at (filter at_these xs) = filters_swapped at_these (λ x. int_lt x.at r.at) xs in
      let c : filter at_these cs ≡ lists.after instant_of r.at (filter at_these xs) = filters_swapped at_these (λ x. int_lt r.at x.at) xs in
      filter-append at_these bs (r ∷ cs) ∙ ap (λ (l : List Reading). filter at_these bs ++ l) (kept_step at_these r cs true e)
      ∙ ap (λ (l : List Reading). l ++ (r ∷ filter at_these cs)) b ∙ ap (λ (l : List Reading). lists.before instant_of r.at (filter at_these xs) ++ (r ∷ l)) c

  left_put : (r : Reading) (xs : List Reading) → IsRising xs → p r.at ≡ false → filter at_these (put r xs) ≡ filter at_these xs
  left_put r xs h e =
      let bs = lists.before instant_of r.at xs in
      let cs = lists.after instant_of r.at xs in
      let here = option_to_list (lists.at instant_of r.at xs) in
      let none : filter at_these here ≡ [] =
      filter_none at_these here (All-weaker (IsAt instant_of r.at) (λ x. p x.at ≡ false) (λ x k. ap p k ∙ e) here (at_is_at instant_of r.at xs)) in
      let left : filter at_these (put r xs) ≡ filter at_these bs ++ filter at_these cs =
      filter-append at_these bs (r ∷ cs) ∙ ap (λ (l : List Reading). filter at_these bs ++ l) (kept_step at_these r cs false e) in
      let old : filter at_these xs ≡ filter at_these bs ++ filter at_these cs =
      ap (filter at_these) (whole instant_of r.at xs h) ∙ filter-append at_these bs (here ++ cs)
      ∙ ap (λ (l : List Reading). filter at_these bs ++ l) (filter-append at_these here cs)
      ∙ ap (λ (l : List Reading). filter at_these bs ++ (l ++ filter at_these cs)) none in
      left ∙ sym old

  these_step : (r : Reading) (rs xs : List Reading) (b : Bool) → IsRising xs → p r.at ≡ b
      → filter at_these (put_all rs (put r xs)) ≡ put_all (filter at_these rs) (filter at_these (put r xs))
      → filter at_these (put_all (r ∷ rs) xs) ≡ put_all (filter at_these (r ∷ rs)) (filter at_these xs)
  these_step r rs xs true h e k =
      k ∙ ap (put_all (filter at_these rs)) (passed_put r xs e) ∙ sym (ap (λ (l : List Reading). put_all l (filter at_these xs)) (kept_step at_these r rs true e))
  these_step r rs xs false h e k =
      k ∙ ap (put_all (filter at_these rs)) (left_put r xs h e) ∙ sym (ap (λ (l : List Reading). put_all l (filter at_these xs)) (kept_step at_these r rs false e))

  these_put : (rs xs : List Reading) → IsRising xs → filter at_these (put_all rs xs) ≡ put_all (filter at_these rs) (filter at_these xs)
  these_put [] xs h = refl
  these_put (r ∷ rs) xs h = these_step r rs xs (p r.at) h refl (these_put rs (put r xs) (put_rises instant_of r xs h))

-- the readings of a day are those of it that are put, put among those of it that stood there
abbrev in_day : ℤ → ℤ → ℤ → Bool
in_day a b n = int_le a n && int_lt n b

pub day_put : (a b : ℤ) (rs xs : List Reading) → IsRising xs → of_day a b (put_all rs xs) ≡ put_all (of_day a b rs) (of_day a b xs)
day_put a b rs xs h = these_put (in_day a b) rs xs h

pub day_twice : (a b : ℤ) (rs : List Reading) → of_day a b (of_day a b rs) ≡ of_day a b rs
day_twice a b rs = filter_all (is_of_day a b) (of_day a b rs) (filter_passes (is_of_day a b) rs)

-- a day has as many more as the station, where all that is put is of the day
pub day_raised : (a b : ℤ) (rs xs : List Reading) → IsRising xs → of_day a b rs ≡ rs
    → length (of_day a b (put_all rs xs)) + length xs ≡ length (put_all rs xs) + length (of_day a b xs)
day_raised a b rs xs h e =
    let out : Reading → Bool = λ r. not (in_day a b r.at) in
    let all : All (λ r. is_of_day a b r ≡ true) rs = subst (λ (l : List Reading). All (λ r. is_of_day a b r ≡ true) l) e (filter_passes (is_of_day a b) rs) in
    let none : filter out rs ≡ [] = filter_none out rs (All-weaker (λ r. is_of_day a b r ≡ true) (λ r. out r ≡ false) (λ r k. ap not k) rs all) in
    let others : filter out (put_all rs xs) ≡ filter out xs =
    these_put (λ n. not (in_day a b n)) rs xs h ∙ ap (λ (l : List Reading). put_all l (filter out xs)) none in
    let l = ap length others in
    let one = length-filter_both (is_of_day a b) out (λ r. refl) (put_all rs xs) in
    let two = length-filter_both (is_of_day a b) out (λ r. refl) xs in
    omega (arith, l, one, two)

-- how many more there are: at most as many as are put
pub record IsAdded (rs xs : List Reading) : Type 0 where
  pub more : ℕ
  pub count : length (put_all rs xs) ≡ length xs + more
  pub most : more ≤ length rs

put_added : (r : Reading) (xs : List Reading) (o : Option Reading) → IsRising xs → lists.at instant_of r.at xs ≡ o → IsAdded (r ∷ []) xs
put_added r xs None h e = record { more = 1; count = length_put_new instant_of r xs h e; most = omega arith }
put_added r xs (Some s) h e = let l = length_put_same instant_of r s xs h e in record { more = 0; count = omega (arith, l); most = omega arith }

pub added : (rs xs : List Reading) → IsRising xs → IsAdded rs xs
added [] xs h = record { more = 0; count = omega arith; most = omega arith }
added (r ∷ rs) xs h =
    let one = put_added r xs (lists.at instant_of r.at xs) h refl in
    let rest = added rs (put r xs) (put_rises instant_of r xs h) in
    let c = one.count in
    let d = rest.count in
    let m = one.most in
    let n = rest.most in
    record { more = one.more + rest.more; count = omega (arith, c, d); most = omega (arith, m, n) }

-- more than what is free under a limit pass it
pub passes_free : (limit kept more : ℕ) → passes limit kept (kept + more) ≡ nat_lt (limit - kept) more
passes_free limit kept more = grind arith

pub day_passes : (limit a b : ℕ) → a ≡ b → passes limit a b ≡ false
day_passes limit a b e = grind (arith, e)

-- whether readings of a day pass its limit, as it is asked: by those that are new, where there are more than may come
abbrev pub told_by : ℕ → StationState → ℤ → List Reading → Bool
told_by limit s day rs = passes limit (day_count s day) (day_count (with_readings (put_all rs) s) day)

abbrev pub of_station : StationState → ℤ → List Reading → List Reading
of_station s day rs = of_day (day_start s day) (day_start s (day +ℤ pos 1)) rs

pub free_told : (limit free more a b n m : ℕ) → free ≡ limit - a → b + n ≡ m + a → m ≡ n + more → nat_lt free more ≡ passes limit a b
free_told limit free more a b n m f d c =
    let e : b ≡ a + more = omega (arith, d, c) in
    rw (f, e) (sym (passes_free limit a more))

pub new_told : (s : StationState) (day : ℤ) (limit free more : ℕ) (rs : List Reading) → IsRising s.readings → of_station s day rs ≡ rs
    → free ≡ limit - day_count s day → length (put_all rs s.readings) ≡ length s.readings + more → nat_lt free more ≡ told_by limit s day rs
new_told s day limit free more rs h w f c =
    free_told limit free more (day_count s day) (day_count (with_readings (put_all rs) s) day) (length s.readings) (length (put_all rs s.readings)) f
    (day_raised (day_start s day) (day_start s (day +ℤ pos 1)) rs s.readings h w) c

pub few_step : (free more n : ℕ) (b : Bool) → more ≤ n → n ≤ free → nat_lt free more ≡ b → nat_lt free n ≡ b
few_step free more n b m l e = grind (arith, m, l, e)

pub few_told : (s : StationState) (day : ℤ) (limit free : ℕ) (rs : List Reading) → IsRising s.readings → of_station s day rs ≡ rs
    → free ≡ limit - day_count s day → length rs ≤ free → nat_lt free (length rs) ≡ told_by limit s day rs
few_told s day limit free rs h w f l =
    let a = added rs s.readings h in
    few_step free a.more (length rs) (told_by limit s day rs) a.most l (new_told s day limit free a.more rs h w f a.count)

-- how many may come, where the readings of the day are lent in two parts
pub free_of : (s : StationState) (day from until : ℤ) (limit free : ℕ) (list left right : List Reading) → list ≡ s.readings
    → from ≡ day_start s day → until ≡ day_start s (day +ℤ pos 1) → left ++ right ≡ of_day from until list → free ≡ limit - (length left + length right)
    → free ≡ limit - day_count s day
free_of s day from until limit free list left right l f u k e =
    let count : length left + length right ≡ day_count s day = sym (length-append left right) ∙ ap length k ∙ rw (f, u, l) refl in
    e ∙ ap (λ (n : ℕ). limit - n) count
