-- The waiting days of the cells are the pending days of the history, in one order.
use Rattle.std.specs.Prelude.{◌≡◌, ℕ, zero, suc, Bool, true, false, cond, List, [], ◌∷◌, ◌++◌, length, map, filter, find, nat_lt, All, Option, Some, None, is_some, option_map, option_and_then, unwrap_or, ℤ}
use Rattle.std.specs.List.{flat_map}
use Rattle.std.specs.Ordering.{int_eq}
use Rattle.std.proofs.Common.{arith, refl, ap, sym, ◌∙◌}
use Rattle.std.proofs.lemmas.Bool.{false≢true, false_from_ne_true, lt-ltb, ne_eqb}
use Rattle.std.proofs.lemmas.List.{length-map, map-append}
use Rattle.std.proofs.lemmas.List.Elements.{All-head, All-tail, All-filter, All-weaker}
use Rattle.day_cells.specs.KeptDays.{KeptDays, edit_of, edit_on, is_out_on, awaited_on, is_pending_on, waiting_on, waiting_of}
use Rattle.day_cells.specs.Sites.{station_rank}
use Rattle.day_cells.specs.Spans.{with_days, days_of}
use Rattle.day_cells.specs.declared.waiting.Waiting.{Waiting}
use Rattle.fixed_units.specs.Calendar.{calendar}
use Rattle.fixed_units.specs.Quantities.{IsDay, site_place}
use Rattle.history.specs.Accepted.{edits_of, stations_at, cells_of}
use Rattle.history.specs.Accepted as history
use Rattle.history.specs.Awaited.{SiteDay, awaited, is_pending, pending_of, pending_days}
use Rattle.history.specs.Events.{Event}
use Rattle.history.proofs.CountLemmas.{filter_same}
use Rattle.history.proofs.MergeLemmas.{given, merged_lists, merged_sums}
use Rattle.history.proofs.PendingLemmas.{calendar_days, pending_has_station}
use Rattle.history.proofs.SpanLemmas.{none_ever_changed}
use Rattle.history.proofs.StationLemmas.{found_passes}
use Rattle.office_inputs.specs.Stations.{place_of, station_of}
use Rattle.station_inputs.specs.Stations.{StationState}
use Rattle.recompute.specs.Cells.{is_out_in, waiting, cell_count}
use Rattle.recompute.specs.Cells as kept_cells
use Rattle.register.specs.Keeping.{Tells}
use Rattle.rising.specs.Lists.{IsRising, at}
use Rattle.std.proofs.lemmas.Bool.Decides.{Decides-int_eq}

-- what the cells and the history both say of a pending day
pub record Told : Type 0 where
  pub place : ℤ
  pub day : ℤ
  pub awaits : ℕ
  pub out : Bool

abbrev pub of_waiting : Waiting → Told
of_waiting w = record { place = site_place w.site; day = w.day; awaits = w.awaits; out = w.out }

abbrev pub of_day : List Event → List KeptDays → SiteDay → Told
of_day events cells d = record {
  place = site_place d.site;
  day = d.day;
  awaits = unwrap_or (awaited events d.site d.day) 0;
  out = is_out_in cells d.site d.day;
}

told_same : (a b d : ℤ) (m n : ℕ) (x y : Bool) → a ≡ b → m ≡ n → x ≡ y
    → ◌≡◌ {A = Told} (record { place = a; day = d; awaits = m; out = x }) (record { place = b; day = d; awaits = n; out = y })
told_same a b d m n x y e f g = rw (e, f, g) refl

map_flat : {A X Y : Type 0} (f : X → Y) (g : A → List X) (xs : List A) → map f (flat_map g xs) ≡ flat_map (λ x. map f (g x)) xs
map_flat f g [] = refl
map_flat f g (x ∷ xs) = map-append f (g x) (flat_map g xs) ∙ ap (λ l. map f (g x) ++ l) (map_flat f g xs)

map_same : {X Y : Type 0} (f g : X → Y) (xs : List X) → All (λ x. f x ≡ g x) xs → map f xs ≡ map g xs
map_same f g [] h = refl
map_same f g (x ∷ xs) h = ap (λ y. y ∷ map f xs) (All-head (λ x. f x ≡ g x) x xs h) ∙ ap (λ l. g x ∷ l) (map_same f g xs (All-tail (λ x. f x ≡ g x) x xs h))

map_map : {X Y Z : Type 0} (f : Y → Z) (g : X → Y) (xs : List X) → map f (map g xs) ≡ map (λ x. f (g x)) xs
map_map f g [] = refl
map_map f g (x ∷ xs) = ap (λ l. f (g x) ∷ l) (map_map f g xs)

find_step : {X Y : Type 0} (f : X → Y) (b : Bool) (x : X) (o : Option X) (p : Option Y) → option_map f o ≡ p → option_map f (cond b (Some x) o) ≡ cond b (Some (f x)) p
find_step f true x o p h = refl
find_step f false x o p h = h

find_map : {X Y : Type 0} (f : X → Y) (q : Y → Bool) (xs : List X) → option_map f (find (λ x. q (f x)) xs) ≡ find q (map f xs)
find_map f q [] = refl
find_map f q (x ∷ xs) = find_step f (q (f x)) x (find (λ x. q (f x)) xs) (find q (map f xs)) (find_map f q xs)

pending_edit : (n : ℕ) → nat_lt 0 n ≡ is_some (edit_of n)
pending_edit zero = refl
pending_edit (suc n) =
    lt-ltb 0 (suc n) (omega arith) ∙ sym (ap (λ b. is_some (cond {A = Option ℕ} b None (Some (suc n)))) (ne_eqb (suc n) 0 (λ h. absurd (omega arith))))

edit_back : (n : ℕ) → unwrap_or (edit_of n) 0 ≡ n
edit_back zero = refl
edit_back (suc n) = ap (λ b. unwrap_or (cond {A = Option ℕ} b None (Some (suc n))) 0) (ne_eqb (suc n) 0 (λ h. absurd (omega arith)))

none_left : (days : List ℤ) → filter (λ (d : ℤ). false) days ≡ []
none_left [] = refl
none_left (d ∷ days) = none_left days

nothing : (p : ℤ → Bool) → ((d : ℤ) → IsDay d → p d ≡ false) → filter p calendar ≡ []
nothing p h = filter_same p (λ (d : ℤ). false) calendar (All-weaker IsDay (λ d. p d ≡ false) h calendar calendar_days) ∙ none_left calendar

module _ (events : List Event) (cells : List KeptDays) (told : Tells events cells) where
  told_cells : KeptDays → List Told
  told_cells s = map of_waiting (waiting_of s)

  told_days : StationState → List Told
  told_days s = map (of_day events cells) (pending_of events s)

  -- the pending days of a station that has cells
  module _ (a : KeptDays) (b : StationState) (place : site_place a.site ≡ site_place b.site) (here : kept_cells.station_of cells b.site ≡ Some a) where
    awaited_here : (d : ℤ) → IsDay d → awaited_on a d ≡ awaited events b.site d
    awaited_here d h = sym (ap (λ o. option_and_then (λ (s : KeptDays). awaited_on s d) o) here) ∙ told.awaited_told b.site d h

    pending_here : (d : ℤ) → IsDay d → is_pending_on a d ≡ is_pending events b.site d
    pending_here d h = pending_edit (edit_on a d) ∙ ap (λ (o : Option ℕ). is_some o) (awaited_here d h)

    out_here : (d : ℤ) → is_out_on a d ≡ is_out_in cells b.site d
    out_here d = sym (ap (λ o. unwrap_or (option_map (λ (s : KeptDays). is_out_on s d) o) false) here)

    told_here : (d : ℤ) → IsDay d → of_waiting (waiting_on a d) ≡ of_day events cells (record { site = b.site; day = d })
    told_here d h =
        let awaits : edit_on a d ≡ unwrap_or (awaited events b.site d) 0 = sym (edit_back (edit_on a d)) ∙ ap (λ (o : Option ℕ). unwrap_or o 0) (awaited_here d h) in
        told_same (site_place a.site) (site_place b.site) d (edit_on a d) (unwrap_or (awaited events b.site d) 0) (is_out_on a d) (is_out_in cells b.site d) place awaits (out_here d)

    both_here : told_cells a ≡ told_days b
    unfolding told_cells told_days
    both_here =
        map_map of_waiting (waiting_on a) (filter (is_pending_on a) calendar)
        ∙ ap (map (λ d. of_waiting (waiting_on a d))) (filter_same (is_pending_on a) (is_pending events b.site) calendar
        (All-weaker IsDay (λ d. is_pending_on a d ≡ is_pending events b.site d) pending_here calendar calendar_days))
        ∙ map_same (λ d. of_waiting (waiting_on a d)) (λ d. of_day events cells (record { site = b.site; day = d })) (filter (is_pending events b.site) calendar)
        (All-filter (is_pending events b.site) (λ d. of_waiting (waiting_on a d) ≡ of_day events cells (record { site = b.site; day = d })) calendar
        (All-weaker IsDay (λ d. of_waiting (waiting_on a d) ≡ of_day events cells (record { site = b.site; day = d })) told_here calendar calendar_days))
        ∙ sym (map_map (of_day events cells) (λ day. record { site = b.site; day = day }) (filter (is_pending events b.site) calendar))

  rank_at : (xs : List KeptDays) (s : KeptDays) (n : ℤ) → at station_rank n xs ≡ Some s → station_rank s ≡ n
  rank_at xs s n h = (Decides-int_eq (station_rank s) n).0 (found_passes (λ (t : KeptDays). int_eq (station_rank t) n) xs s h)

  place_at : (xs : List StationState) (s : StationState) (n : ℤ) → at place_of n xs ≡ Some s → place_of s ≡ n
  place_at xs s n h = (Decides-int_eq (place_of s) n).0 (found_passes (λ (t : StationState). int_eq (place_of t) n) xs s h)

  told_at : (n : ℤ) (o : Option KeptDays) (p : Option StationState) → at station_rank n cells ≡ o → at place_of n (stations_at events) ≡ p
      → given [] told_cells o ≡ given [] told_days p
  unfolding told_cells told_days
  told_at n None None e f = refl
  told_at n (Some a) (Some b) e f =
      let x = rank_at cells a n e in
      let y = place_at (stations_at events) b n f in
      both_here a b (x ∙ sym y) (ap (λ m. at station_rank m cells) y ∙ e)
  told_at n (Some a) None e f =
      let x = rank_at cells a n e in
      let here : kept_cells.station_of cells a.site ≡ Some a = ap (λ m. at station_rank m cells) x ∙ e in
      let gone : is_some (station_of (stations_at events) a.site) ≡ false = ap is_some (ap (λ m. at place_of m (stations_at events)) x ∙ f) in
      ap (λ days. map of_waiting (map (waiting_on a) days))
      (nothing (is_pending_on a) (λ d h.
      pending_edit (edit_on a d)
      ∙ ap (λ (o : Option ℕ). is_some o) (sym (ap (λ o. option_and_then (λ (s : KeptDays). awaited_on s d) o) here) ∙ told.awaited_told a.site d h)
      ∙ false_from_ne_true (is_pending events a.site d) (λ t. false≢true (sym gone ∙ pending_has_station events a.site d t))))
  told_at n None (Some b) e f =
      let y = place_at (stations_at events) b n f in
      let here : kept_cells.station_of cells b.site ≡ None = ap (λ m. at station_rank m cells) y ∙ e in
      sym (ap (λ (days : List ℤ). map (of_day events cells) (map (λ day. record { site = b.site; day = day }) days))
      (nothing (is_pending events b.site) (λ d h.
      ap (λ (o : Option ℕ). is_some o) (sym (told.awaited_told b.site d h) ∙ ap (λ o. option_and_then (λ (s : KeptDays). awaited_on s d) o) here))))

  module _ (rising : IsRising station_rank cells) (stations_rise : IsRising place_of (stations_at events)) where
    pub waiting_told : map of_waiting (waiting cells) ≡ map (of_day events cells) (pending_days events)
    unfolding told_cells told_days
    waiting_told =
        map_flat of_waiting waiting_of cells
        ∙ merged_lists station_rank place_of told_cells told_days cells (stations_at events) rising stations_rise
        (λ n. told_at n (at station_rank n cells) (at place_of n (stations_at events)) refl refl)
        ∙ sym (map_flat (of_day events cells) (pending_of events) (stations_at events))

    -- as many days wait as are pending
    pub waiting_count : length (waiting cells) ≡ length (pending_days events)
    waiting_count =
        sym (length-map (waiting cells) of_waiting) ∙ ap (λ (l : List Told). length l) waiting_told ∙ length-map (pending_days events) (of_day events cells)

    -- the first that passes a test is the same day
    pub found_told : (q : Told → Bool) → option_map of_waiting (find (λ w. q (of_waiting w)) (waiting cells))
        ≡ option_map (of_day events cells) (find (λ d. q (of_day events cells d)) (pending_days events))
    found_told q = find_map of_waiting q (waiting cells) ∙ ap (find q) waiting_told ∙ sym (find_map (of_day events cells) q (pending_days events))

    -- and there are as many cells
    cells_at : (n : ℤ) (o : Option KeptDays) (p : Option StationState) → at station_rank n cells ≡ o → at place_of n (stations_at events) ≡ p
        → given 0 (λ (s : KeptDays). days_of s.span) o ≡ given 0 (λ (s : StationState). cells_of (edits_of events) s.site) p
    cells_at n None None e f = refl
    cells_at n (Some a) (Some b) e f =
        let y = place_at (stations_at events) b n f in
        let here : kept_cells.station_of cells b.site ≡ Some a = ap (λ m. at station_rank m cells) y ∙ e in
        ap days_of (sym (ap (λ o. option_and_then (λ (s : KeptDays). s.span) o) here) ∙ told.span_told b.site)
    cells_at n (Some a) None e f =
        let x = rank_at cells a n e in
        let here : kept_cells.station_of cells a.site ≡ Some a = ap (λ m. at station_rank m cells) x ∙ e in
        let gone : is_some (station_of (stations_at events) a.site) ≡ false = ap is_some (ap (λ m. at place_of m (stations_at events)) x ∙ f) in
        ap days_of (sym (ap (λ o. option_and_then (λ (s : KeptDays). s.span) o) here) ∙ told.span_told a.site
        ∙ ap (λ (days : List ℤ). with_days None days) (none_ever_changed (edits_of events) a.site gone))
    cells_at n None (Some b) e f =
        let y = place_at (stations_at events) b n f in
        let here : kept_cells.station_of cells b.site ≡ None = ap (λ m. at station_rank m cells) y ∙ e in
        ap days_of (sym (ap (λ o. option_and_then (λ (s : KeptDays). s.span) o) here) ∙ told.span_told b.site)

    pub cells_counted : cell_count cells ≡ history.cell_count (edits_of events)
    cells_counted =
        merged_sums station_rank place_of (λ (s : KeptDays). days_of s.span) (λ (s : StationState). cells_of (edits_of events) s.site) cells (stations_at events) rising stations_rise
        (λ n. cells_at n (at station_rank n cells) (at place_of n (stations_at events)) refl refl)
