-- Each pending day is as the cells tell of it, and each day that awaits an edit is pending.
use Rattle.std.specs.Prelude.{◌≡◌, ℕ, zero, suc, Bool, true, false, ◌&&◌, ◌||◌, cond, List, [], ◌∷◌, find, map, filter, All, Option, Some, None, IfSome, IsSome, option_and_then, option_map, unwrap_or, nat_lt, ℤ, ◌<ℤ◌}
use Rattle.std.specs.List.{list_any}
use Rattle.std.specs.Ordering.{int_eq}
use Rattle.std.proofs.Common.{arith, refl, ap, sym, subst, ◌∙◌}
use Rattle.std.proofs.lemmas.Bool.{false≢true}
use Rattle.std.proofs.lemmas.Bool.Decides.{Decides-int_eq}
use Rattle.std.proofs.lemmas.Int.{ints}
use Rattle.std.proofs.lemmas.List.Elements.{All-nil, All-append, All-head, All-map, All-tail, All-weaker, filter_passes}
use Rattle.std.proofs.lemmas.List.Folds.{list_any-append}
use Rattle.rising.specs.Lists.{IsRising}
use Rattle.rising.proofs.Placing.{none_stands, passed_over, some_stands}
use Rattle.rising.proofs.Parting.{IsAfter}
use Rattle.rising.proofs.Selecting.{AllPairs-head, AllPairs-tail}
use Rattle.fixed_units.specs.Calendar.{calendar}
use Rattle.fixed_units.specs.Quantities.{SiteNumber, IsDay, site_place, same_site}
use Rattle.fixed_units.proofs.CalendarLemmas.{calendar_any}
use Rattle.day_cells.specs.declared.waiting.Waiting.{Waiting}
use Rattle.day_cells.specs.KeptDays.{KeptDays, waiting_of, waiting_on, is_pending_on, edit_on, edit_of, awaited_on, is_out_on}
use Rattle.day_cells.specs.Sites.{station_rank}
use Rattle.recompute.specs.Cells.{IsTold, station_of, awaited_in, is_day_of, waiting}
use Rattle.recompute.proofs.ReplaceLemmas.{is_pending_there}

is_some_edit : (n : ℕ) → nat_lt 0 n ≡ true → edit_of n ≡ Some n
is_some_edit zero h = absurd (false≢true h)
is_some_edit (suc n) h = grind arith

-- the first station's day
first_told : (s : KeptDays) (stations : List KeptDays) (d : ℤ) → is_pending_on s d ≡ true → IsTold (s ∷ stations) (waiting_on s d)
first_told s stations d p =
    let there : station_of (s ∷ stations) s.site ≡ Some s = some_stands station_rank (site_place s.site) s stations refl in (
      ap (λ o. option_and_then (λ t. awaited_on t d) o) there ∙ is_some_edit (edit_on s d) p,
      ap (λ o. unwrap_or (option_map (λ t. is_out_on t d) o) false) there,
    )

-- a later station's day
later_station : (s : KeptDays) (stations : List KeptDays) (w : Waiting) → IsRising station_rank (s ∷ stations)
    → awaited_in stations w.site w.day ≡ Some w.awaits → station_of (s ∷ stations) w.site ≡ station_of stations w.site
later_station s stations w h e =
    let n = site_place w.site in
    let other : station_rank s ≡ n → ⊥ = λ k.
    let none : station_of stations w.site ≡ None =
    none_stands station_rank n stations
    (All-weaker (λ t. station_rank s <ℤ station_rank t) (IsAfter station_rank n) (λ t l. omega (arith, ints, l, k)) stations
    (AllPairs-head (λ a b. station_rank a <ℤ station_rank b) s stations h)) in
    absurd (let f : None ≡ Some w.awaits = sym (ap (λ o. option_and_then (λ t. awaited_on t w.day) o) none) ∙ e in cc) in
    passed_over station_rank n s stations other

later_told : (s : KeptDays) (stations : List KeptDays) (w : Waiting) → IsRising station_rank (s ∷ stations) → IsTold stations w → IsTold (s ∷ stations) w
later_told s stations w h t =
    let there = later_station s stations w h t.0 in (
      ap (λ o. option_and_then (λ c. awaited_on c w.day) o) there ∙ t.0,
      ap (λ o. unwrap_or (option_map (λ c. is_out_on c w.day) o) false) there ∙ t.1,
    )

-- each pending day is as the cells tell
pub each_told : (stations : List KeptDays) → IsRising station_rank stations → All (IsTold stations) (waiting stations)
each_told [] h = All-nil (IsTold [])
each_told (s ∷ stations) h =
    All-append (IsTold (s ∷ stations)) (waiting_of s) (waiting stations)
    (All-map (IsTold (s ∷ stations)) (waiting_on s) (filter (is_pending_on s) calendar)
    (All-weaker (λ d. is_pending_on s d ≡ true) (λ d. IsTold (s ∷ stations) (waiting_on s d)) (λ d p. first_told s stations d p)
    (filter (is_pending_on s) calendar) (filter_passes (is_pending_on s) calendar)))
    (All-weaker (IsTold stations) (IsTold (s ∷ stations)) (λ w t. later_told s stations w h t) (waiting stations)
    (each_told stations (AllPairs-tail (λ a b. station_rank a <ℤ station_rank b) s stations h)))

-- so is one that is found
found_all : {X : Type 0} (P : X → Type 0) (q : X → Bool) (xs : List X) (x : X) → All P xs → find q xs ≡ Some x → P x
found_all P q [] x h e = absurd (cc)
found_all P q (y ∷ ys) x h e =
    elim (q y) as (λ b. cond b (Some y) (find q ys) ≡ Some x → P x) [
      | true ↦ λ k. subst P (let f : y ≡ x = cc in f) (All-head P y ys h)
      | false ↦ λ k. found_all P q ys x (All-tail P y ys h) k
    ] e

pub found_awaits : (o : Option Waiting) (q : Waiting → Bool) (stations : List KeptDays) → IsRising station_rank stations → o ≡ find q (waiting stations)
    → IfSome o (λ w. awaited_in stations w.site w.day ≡ Some w.awaits)
found_awaits None q stations h e = tt
found_awaits (Some w) q stations h e = (found_all (IsTold stations) q (waiting stations) w (each_told stations h) (sym e)).0

-- a day that awaits an edit is pending
pub any_both : (a b : Bool) → a ≡ true → b ≡ true → (a && b) ≡ true
any_both a b e f = rw (e, f) refl

any_first : (a b : Bool) → a ≡ true → (a || b) ≡ true
any_first a b e = rw e refl

any_rest : (a b : Bool) → b ≡ true → (a || b) ≡ true
any_rest true b e = refl
any_rest false b e = e

-- a test of what is made of the days that pass another
any_made : (q : Waiting → Bool) (f : ℤ → Waiting) (p : ℤ → Bool) (days : List ℤ) → list_any q (map f (filter p days)) ≡ list_any (λ d. p d && q (f d)) days
any_made q f p [] = refl
any_made q f p (d ∷ days) =
    elim (p d) as (λ b. list_any q (map f (cond b (d ∷ filter p days) (filter p days))) ≡ ((b && q (f d)) || list_any (λ d. p d && q (f d)) days)) [
      | true ↦ ap (λ t. q (f d) || t) (any_made q f p days)
      | false ↦ any_made q f p days
    ]

module _ (site : SiteNumber) (day : ℤ) where
  listed_here : (s : KeptDays) → IsDay day → station_rank s ≡ site_place site → is_pending_on s day ≡ true
      → list_any (λ w. is_day_of site day w.site w.day) (waiting_of s) ≡ true
  listed_here s i e h =
      any_made (λ w. is_day_of site day w.site w.day) (waiting_on s) (is_pending_on s) calendar
      ∙ calendar_any (λ d. is_pending_on s d && is_day_of site day s.site d) day i
      (any_both (is_pending_on s day) (is_day_of site day s.site day) h
      (any_both (same_site site s.site) (int_eq day day) ((Decides-int_eq (site_place site) (site_place s.site)).1 (sym e)) ((Decides-int_eq day day).1 refl)))

  pub all_listed : (stations : List KeptDays) → IsDay day → IsSome (awaited_in stations site day)
      → list_any (λ w. is_day_of site day w.site w.day) (waiting stations) ≡ true
  all_listed [] i h = absurd (false≢true h)
  all_listed (s ∷ stations) i h =
      list_any-append (λ w. is_day_of site day w.site w.day) (waiting_of s) (waiting stations)
      ∙ elim (int_eq (station_rank s) (site_place site)) as (λ b. int_eq (station_rank s) (site_place site) ≡ b
      → IsSome (option_and_then (λ t. awaited_on t day) (cond b (Some s) (station_of stations site)))
      → (list_any (λ w. is_day_of site day w.site w.day) (waiting_of s) || list_any (λ w. is_day_of site day w.site w.day) (waiting stations)) ≡ true) [
        | true ↦ λ e k.
            let n : station_rank s ≡ site_place site = (Decides-int_eq (station_rank s) (site_place site)).0 e in
            any_first (list_any (λ w. is_day_of site day w.site w.day) (waiting_of s)) (list_any (λ w. is_day_of site day w.site w.day) (waiting stations))
            (listed_here s i n (is_pending_there (s ∷ stations) site day s (some_stands station_rank (site_place site) s stations n) h))
        | false ↦ λ e k.
            any_rest (list_any (λ w. is_day_of site day w.site w.day) (waiting_of s)) (list_any (λ w. is_day_of site day w.site w.day) (waiting stations))
            (all_listed stations i k)
      ] refl h
