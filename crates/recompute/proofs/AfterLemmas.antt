-- The first pending day that comes after a day.
use Rattle.std.specs.Prelude.{◌≡◌, ℕ, ◌+◌, Bool, true, false, ◌&&◌, ◌||◌, cond, List, [], ◌∷◌, ◌++◌, take, drop, find, map, filter, slice_get, All, Option, Some, None, ℤ, ◌<ℤ◌, int_lt}
use Rattle.std.specs.Ordering.{int_eq}
use Rattle.std.proofs.Common.{arith, refl, ap, sym, subst, ◌∙◌, get_or}
use Rattle.std.proofs.lemmas.Int.{ints}
use Rattle.std.proofs.lemmas.List.{get_or-take, length-take, drop_more}
use Rattle.std.proofs.lemmas.List.Elements.{All-head, All-tail}
use Rattle.std.proofs.lemmas.Bool.Decides.{Decides-int_eq}
use Rattle.fixed_units.specs.Quantities.{SiteNumber, site_place}
use Rattle.fixed_units.specs.Calendar.{calendar}
use Rattle.rising.specs.Lists.{before, after}
use Rattle.rising.proofs.Placing.{before_is_before}
use Rattle.rising.proofs.Parting.{after_is_after}
use Rattle.day_cells.specs.declared.waiting.Waiting.{Waiting}
use Rattle.day_cells.specs.KeptDays.{KeptDays, waiting_of, waiting_on, is_pending_on}
use Rattle.day_cells.specs.Sites.{station_rank}
use Rattle.day_cells.proofs.CalendarLemmas.{first_is_found}
use Rattle.recompute.specs.Cells.{waiting, is_behind, IsPlace, IsGap}
use Rattle.recompute.proofs.StationLemmas.{found_behind}

either : Option Waiting → Option Waiting → Option Waiting
either None b = b
either (Some w) b = Some w

find-append : (q : Waiting → Bool) (xs ys : List Waiting) → find q (xs ++ ys) ≡ either (find q xs) (find q ys)
unfolding either
find-append q [] ys = refl
find-append q (x ∷ xs) ys =
    elim (q x) as (λ b. cond b (Some x) (find q (xs ++ ys)) ≡ either (cond b (Some x) (find q xs)) (find q ys)) [
      | true ↦ refl
      | false ↦ find-append q xs ys
    ]

find_same : (q r : Waiting → Bool) (f : ℤ → Waiting) (days : List ℤ) → ((d : ℤ) → q (f d) ≡ r (f d)) → find q (map f days) ≡ find r (map f days)
find_same q r f [] h = refl
find_same q r f (d ∷ days) h = let a = h d in let b = find_same q r f days h in rw (a, b) refl

none_passes : {X : Type 0} (xs : List X) → find (λ _. false) xs ≡ None
none_passes [] = refl
none_passes (x ∷ xs) = none_passes xs

module _ (site : SiteNumber) (day : ℤ) where
  earlier_test : (r d : ℤ) → r <ℤ site_place site → (int_lt (site_place site) r || (int_eq (site_place site) r && int_lt day d)) ≡ false
  earlier_test r d h =
      let a : int_lt (site_place site) r ≡ false = grind (arith, ints) in
      let b : int_eq (site_place site) r ≡ false = grind (arith, ints) in
      ap (λ t. t || (int_eq (site_place site) r && int_lt day d)) a ∙ ap (λ t. t && int_lt day d) b

  same_test : (r d : ℤ) → r ≡ site_place site → (int_lt (site_place site) r || (int_eq (site_place site) r && int_lt day d)) ≡ int_lt day d
  same_test r d h =
      let a : int_lt (site_place site) r ≡ false = grind (arith, ints) in
      let b : int_eq (site_place site) r ≡ true = (Decides-int_eq (site_place site) r).1 (sym h) in
      ap (λ t. t || (int_eq (site_place site) r && int_lt day d)) a ∙ ap (λ t. t && int_lt day d) b

  later_test : (r d : ℤ) → site_place site <ℤ r → (int_lt (site_place site) r || (int_eq (site_place site) r && int_lt day d)) ≡ true
  later_test r d h = let a : int_lt (site_place site) r ≡ true = grind (arith, ints) in rw a refl

  earlier_station : (s : KeptDays) → station_rank s <ℤ site_place site → find (is_behind site day) (waiting_of s) ≡ None
  earlier_station s h =
      find_same (is_behind site day) (λ _. false) (waiting_on s) (filter (is_pending_on s) calendar) (λ d. earlier_test (station_rank s) d h)
      ∙ none_passes (waiting_of s)

  pub same_station : (s : KeptDays) → station_rank s ≡ site_place site → find (is_behind site day) (waiting_of s) ≡ find (λ w. int_lt day w.day) (waiting_of s)
  same_station s h =
      find_same (is_behind site day) (λ w. int_lt day w.day) (waiting_on s) (filter (is_pending_on s) calendar) (λ d. same_test (station_rank s) d h)

  later_stations : (stations : List KeptDays) → All (λ s. site_place site <ℤ station_rank s) stations
      → find (is_behind site day) (waiting stations) ≡ find (λ _. true) (waiting stations)
  later_stations [] h = refl
  later_stations (s ∷ stations) h =
      let later = All-head (λ s. site_place site <ℤ station_rank s) s stations h in
      let here = find_same (is_behind site day) (λ _. true) (waiting_on s) (filter (is_pending_on s) calendar) (λ d. later_test (station_rank s) d later) in
      let rest = later_stations stations (All-tail (λ s. site_place site <ℤ station_rank s) s stations h) in
      find-append (is_behind site day) (waiting_of s) (waiting stations) ∙ rw (here, rest) refl
      ∙ sym (find-append (λ _. true) (waiting_of s) (waiting stations))

  -- the stations before a place come before, those behind it after
  pub early_none : (stations : List KeptDays) (place : ℕ) → take place stations ≡ before station_rank (site_place site) stations
      → find (is_behind site day) (waiting stations) ≡ find (is_behind site day) (waiting (drop place stations))
  early_none stations place front =
      found_behind (is_behind site day) stations place
      (λ k z l m. earlier_station (get_or stations k z)
      (let all = subst (λ (xs : List KeptDays). All (λ s. station_rank s <ℤ site_place site) xs) (sym front) (before_is_before station_rank (site_place site) stations) in
      subst (λ (s : KeptDays). station_rank s <ℤ site_place site) (get_or-take place stations k z l) (all k z (omega (arith, length-take place stations)))))

  pub late_first : (stations : List KeptDays) (place : ℕ) → drop place stations ≡ after station_rank (site_place site) stations
      → find (is_behind site day) (waiting (drop place stations)) ≡ slice_get (waiting (drop place stations)) 0
  late_first stations place back =
      later_stations (drop place stations) (subst (λ (xs : List KeptDays). All (λ s. site_place site <ℤ station_rank s) xs) (sym back) (after_is_after station_rank (site_place site) stations))
      ∙ sym (first_is_found (waiting (drop place stations)))

  pub after_gap : (stations : List KeptDays) (place : ℕ) → IsGap stations site place
      → find (is_behind site day) (waiting stations) ≡ slice_get (waiting (drop place stations)) 0
  after_gap stations place h = early_none stations place h.front ∙ late_first stations place h.back

  at_station : (stations : List KeptDays) (place : ℕ) (s : KeptDays) → IsPlace stations site place → s ≡ get_or stations place s
      → find (is_behind site day) (waiting stations)
      ≡ either (find (λ w. int_lt day w.day) (waiting_of s)) (slice_get (waiting (drop (place + 1) stations)) 0)
  at_station stations place s h e =
      let parts : drop place stations ≡ s ∷ drop (place + 1) stations = drop_more stations place s h.within ∙ ap (λ t. t ∷ drop (place + 1) stations) (sym e) in
      let here = same_station s (ap station_rank e ∙ h.here s) in
      let rest = late_first stations (place + 1) h.back in
      early_none stations place h.front ∙ ap (λ xs. find (is_behind site day) (waiting xs)) parts
      ∙ find-append (is_behind site day) (waiting_of s) (waiting (drop (place + 1) stations)) ∙ rw (here, rest) refl

  pub found_there : (stations : List KeptDays) (place : ℕ) (s : KeptDays) (w : Waiting) → IsPlace stations site place → s ≡ get_or stations place s
      → find (λ w. int_lt day w.day) (waiting_of s) ≡ Some w → find (is_behind site day) (waiting stations) ≡ Some w
  unfolding either
  found_there stations place s w h e f =
      at_station stations place s h e ∙ ap (λ o. either o (slice_get (waiting (drop (place + 1) stations)) 0)) f

  pub found_later : (stations : List KeptDays) (place : ℕ) (s : KeptDays) → IsPlace stations site place → s ≡ get_or stations place s
      → find (λ w. int_lt day w.day) (waiting_of s) ≡ None
      → find (is_behind site day) (waiting stations) ≡ slice_get (waiting (drop (place + 1) stations)) 0
  unfolding either
  found_later stations place s h e f =
      at_station stations place s h e ∙ ap (λ o. either o (slice_get (waiting (drop (place + 1) stations)) 0)) f
