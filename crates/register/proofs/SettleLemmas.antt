-- A settlement publishes the pending days one by one, in order.
use Rattle.std.specs.Prelude.{◌≡◌, ℕ, suc, ◌+◌, ◌≤◌, ◌<◌, Bool, true, false, not, ◌&&◌, ◌||◌, cond, List, [], ◌∷◌, ◌++◌, length, map, filter, take, drop, slice_get, Option, Some, None, IfSome, is_some, Result, Ok, Err, OnErr, ℤ}
use Rattle.std.specs.List.{flat_map, list_any}
use Rattle.std.specs.Ordering.{int_eq}
use Rattle.std.proofs.Common.{arith, refl, ap, sym, subst, ◌∙◌, get_or, add-one}
use Rattle.std.proofs.Math.Seq.{drop-cons}
use Rattle.std.proofs.lemmas.Bool.Decides.{Decides-int_eq}
use Rattle.std.proofs.lemmas.List.{append_assoc, append-nil, drop_all, length-drop, map-append, take_all, take_more}
use Rattle.std.proofs.lemmas.List.Elements.{filter-append}
use Rattle.std.proofs.lemmas.List.Folds.{list_any-append}
use Rattle.fixed_units.specs.Calendar.{calendar}
use Rattle.fixed_units.specs.Quantities.{SiteNumber, site_place}
use Rattle.history.specs.Accepted.{edit_of, stations_at}
use Rattle.history.specs.After.{publication, after_publication, after_publications, after_settlement, after_turn, next_day}
use Rattle.history.specs.Awaited.{SiteDay, awaited, is_day_of, is_pending, pending_of, pending_days}
use Rattle.history.specs.Events.{Event, Published, History}
use Rattle.history.proofs.EventLemmas.{accepted_published, awaited_published}
use Rattle.office_inputs.specs.Stations.{stations_of}
use Rattle.station_inputs.specs.Stations.{StationState}
use Rattle.records.specs.Sheets.{Record}
use Rattle.register.specs.Registered.{Registered, IsSettledTo, is_out}

-- another day than this one of the site
abbrev pub is_other : SiteNumber → ℤ → SiteDay → Bool
is_other own its d = not (is_day_of own its d.site d.day)

none_by : (b : Bool) (o : Option ℕ) → is_some (cond b None o) ≡ (is_some o && not b)
none_by true None = refl
none_by true (Some n) = refl
none_by false None = refl
none_by false (Some n) = refl

-- behind a publication every other day is pending that was
module _ (events : List Event) (own : SiteNumber) (its : ℤ) where
  abbrev more : List Event
  more = events ++ Published own its ∷ []

  pub still_pending : (site : SiteNumber) (day : ℤ) → is_pending more site day ≡ (is_pending events site day && not (is_day_of own its site day))
  still_pending site day = ap (λ (o : Option ℕ). is_some o) (awaited_published events own its site day) ∙ none_by (is_day_of own its site day) (awaited events site day)

  left_step : (site : SiteNumber) (day : ℤ) (ys zs : List ℤ) (a b : Bool) → is_day_of own its site day ≡ b
      → map (λ (d : ℤ). record { site = site; day = d }) ys ≡ filter (is_other own its) (map (λ (d : ℤ). record { site = site; day = d }) zs)
      → map (λ (d : ℤ). record { site = site; day = d }) (cond (a && not b) (day ∷ ys) ys)
      ≡ filter (is_other own its) (map (λ (d : ℤ). record { site = site; day = d }) (cond a (day ∷ zs) zs))
  left_step site day ys zs false b e h = h
  left_step site day ys zs true true e h = rw (e, h) refl
  left_step site day ys zs true false e h = rw (e, h) refl

  left_of_days : (site : SiteNumber) (days : List ℤ) → map (λ (d : ℤ). record { site = site; day = d }) (filter (is_pending more site) days)
      ≡ filter (is_other own its) (map (λ (d : ℤ). record { site = site; day = d }) (filter (is_pending events site) days))
  left_of_days site [] = refl
  left_of_days site (day ∷ days) =
      ap (λ b. map (λ (d : ℤ). record { site = site; day = d }) (cond b (day ∷ filter (is_pending more site) days) (filter (is_pending more site) days)))
      (still_pending site day)
      ∙ left_step site day (filter (is_pending more site) days) (filter (is_pending events site) days) (is_pending events site day) (is_day_of own its site day) refl
      (left_of_days site days)

  left_of_stations : (stations : List StationState) → flat_map (pending_of more) stations ≡ filter (is_other own its) (flat_map (pending_of events) stations)
  left_of_stations [] = refl
  left_of_stations (s ∷ stations) =
      ap (λ l. l ++ flat_map (pending_of more) stations) (left_of_days s.site calendar)
      ∙ ap (λ l. filter (is_other own its) (pending_of events s) ++ l) (left_of_stations stations)
      ∙ sym (filter-append (is_other own its) (pending_of events s) (flat_map (pending_of events) stations))

  pub pending_left : pending_days more ≡ filter (is_other own its) (pending_days events)
  pending_left =
      ap (λ (ps : List Record). flat_map (pending_of more) (stations_of (map edit_of ps))) (accepted_published events own its)
      ∙ left_of_stations (stations_at events)

-- a filter that leaves as many as there are leaves all
few_step : {X : Type 0} (x : X) (ys xs : List X) (b : Bool) → length ys ≤ length xs → length (cond b (x ∷ ys) ys) ≤ length (x ∷ xs)
few_step x ys xs true h = omega (arith, h)
few_step x ys xs false h = omega (arith, h)

few : {X : Type 0} (p : X → Bool) (xs : List X) → length (filter p xs) ≤ length xs
few p [] = omega arith
few p (x ∷ xs) = few_step x (filter p xs) xs (p x) (few p xs)

all_step : {X : Type 0} (x : X) (ys xs : List X) (b : Bool) → length ys ≤ length xs → (length ys ≡ length xs → ys ≡ xs)
    → length (cond b (x ∷ ys) ys) ≡ length (x ∷ xs) → cond b (x ∷ ys) ys ≡ x ∷ xs
all_step x ys xs true l h e = ap (λ zs. x ∷ zs) (h (omega (arith, e)))
all_step x ys xs false l h e = absurd (omega (arith, l, e))

all_left : {X : Type 0} (p : X → Bool) (xs : List X) → length (filter p xs) ≡ length xs → filter p xs ≡ xs
all_left p [] e = refl
all_left p (x ∷ xs) e = all_step x (filter p xs) xs (p x) (few p xs) (all_left p xs) e

is_itself : (d : SiteDay) → is_other d.site d.day d ≡ false
is_itself d =
    ap (λ b. not (b && int_eq d.day d.day)) ((Decides-int_eq (site_place d.site) (site_place d.site)).1 refl)
    ∙ ap not ((Decides-int_eq d.day d.day).1 refl)

-- the rest is pending behind the publication of the first pending day
pub rest_left : (events : List Event) (first : SiteDay) (rest : List SiteDay) → pending_days events ≡ first ∷ rest
    → length (pending_days (events ++ publication first ∷ [])) + 1 ≡ length (pending_days events)
    → pending_days (events ++ publication first ∷ []) ≡ rest
rest_left events first rest e h =
    let left : pending_days (events ++ publication first ∷ []) ≡ filter (is_other first.site first.day) rest =
    pending_left events first.site first.day ∙ ap (filter (is_other first.site first.day)) e
    ∙ ap (λ b. cond b (first ∷ filter (is_other first.site first.day) rest) (filter (is_other first.site first.day) rest)) (is_itself first) in
    let count : length (filter (is_other first.site first.day) rest) ≡ length rest =
    omega (arith, ap (λ (l : List SiteDay). length l) left, ap (λ (l : List SiteDay). length l) e, h) in
    left ∙ all_left (is_other first.site first.day) rest count

claim_more : (a b o : Bool) → cond b false (cond a false o) ≡ cond (a || (b || false)) false o
claim_more true true o = refl
claim_more true false o = refl
claim_more false true o = refl
claim_more false false o = refl

-- so many of the pending days were published, and the others are left
pub record IsOnTheWay (old new : Registered) (count : ℕ) : Type 0 where
  pub settled : IsSettledTo old new count
  pub left : pending_days new.history.events ≡ drop count (pending_days old.history.events)

after_events : History → List Event → History
after_events h events = record { opened = h.opened; limits = h.limits; format = h.format; events = events }

pub on_the_way : (r : Registered) → IsOnTheWay r r 0
unfolding after_events
on_the_way r = record {
  settled = record {
    settled = ap (after_events r.history) (sym (append-nil r.history.events));
    claims = λ site day. refl;
  };
  left = refl;
}

one_publication_more : (h : History) (days : List SiteDay) (d : SiteDay)
    → after_publications (after_publications h days) (d ∷ []) ≡ after_publications h (days ++ d ∷ [])
unfolding after_events
one_publication_more h days d =
    ap (after_events h)
    (append_assoc h.events (map publication days) (publication d ∷ []) ∙ ap (λ l. h.events ++ l) (sym (map-append publication days (d ∷ []))))

module _ (old now new : Registered) (count : ℕ) (way : IsOnTheWay old now count) (within : count < length (pending_days old.history.events))
    (turn : new.history ≡ after_turn now.history)
    (claims : IfSome (next_day now.history) (λ d. (site : SiteNumber) (day : ℤ)
    → is_out new site day ≡ cond (is_day_of d.site d.day site day) false (is_out now site day)))
    (less : IfSome (next_day now.history) (λ d. length (pending_days new.history.events) + 1 ≡ length (pending_days now.history.events))) where
  way_step : (l : List SiteDay) → drop count (pending_days old.history.events) ≡ l → IsOnTheWay old new (count + 1)
  way_step [] e = absurd (omega (arith, length-drop count (pending_days old.history.events), ap (λ (l : List SiteDay). length l) e))
  way_step (x ∷ rest) e =
      let pend : List SiteDay = pending_days old.history.events in
      let parts : drop count pend ≡ get_or pend count x ∷ drop (suc count) pend = drop-cons pend count x within in
      let here : get_or pend count x ≡ x = cc in
      let later : drop (suc count) pend ≡ rest = cc in
      let behind : drop (count + 1) pend ≡ rest = rw add-one later in
      let taken : take (count + 1) pend ≡ take count pend ++ x ∷ [] = take_more pend count x within ∙ ap (λ y. take count pend ++ y ∷ []) here in
      let left : pending_days now.history.events ≡ x ∷ rest = way.left ∙ e in
      let next : next_day now.history ≡ Some x = ap (λ (l : List SiteDay). slice_get l 0) left in
      let turned : new.history ≡ after_publications now.history (x ∷ []) = turn ∙ ap (after_publication now.history) next in
      let fewer : length (pending_days new.history.events) + 1 ≡ length (pending_days now.history.events) =
      subst (λ o. IfSome o (λ (d : SiteDay). length (pending_days new.history.events) + 1 ≡ length (pending_days now.history.events))) next less in
      let ended : (site : SiteNumber) (day : ℤ) → is_out new site day ≡ cond (is_day_of x.site x.day site day) false (is_out now site day) =
      subst (λ o. IfSome o (λ (d : SiteDay). (site : SiteNumber) (day : ℤ) → is_out new site day ≡ cond (is_day_of d.site d.day site day) false (is_out now site day))) next claims in
      record {
        settled = record {
          settled =
              turned ∙ ap (λ (h : History). after_publications h (x ∷ [])) way.settled.settled
              ∙ one_publication_more old.history (take count pend) x ∙ ap (after_publications old.history) (sym taken);
          claims = λ site day.
              ended site day
              ∙ ap (λ b. cond (is_day_of x.site x.day site day) false b) (way.settled.claims site day)
              ∙ claim_more (list_any (λ (d : SiteDay). is_day_of d.site d.day site day) (take count pend)) (is_day_of x.site x.day site day) (is_out old site day)
              ∙ ap (λ b. cond b false (is_out old site day)) (sym (list_any-append (λ (d : SiteDay). is_day_of d.site d.day site day) (take count pend) (x ∷ [])))
              ∙ ap (λ (l : List SiteDay). cond (list_any (λ (d : SiteDay). is_day_of d.site d.day site day) l) false (is_out old site day)) (sym taken);
        };
        left =
            ap (λ (h : History). pending_days h.events) turned
            ∙ rest_left now.history.events x rest left (ap (λ (h : History). length (pending_days h.events) + 1) (sym turned) ∙ fewer)
            ∙ sym behind;
      }

  pub one_more : IsOnTheWay old new (count + 1)
  one_more = way_step (drop count (pending_days old.history.events)) refl

pub all_settled : (old new : Registered) (count : ℕ) → IsSettledTo old new count → count ≡ length (pending_days old.history.events)
    → new.history ≡ after_settlement old.history
all_settled old new count settled e =
    settled.settled ∙ ap (after_publications old.history) (take_all count (pending_days old.history.events) (omega (arith, e)))

-- behind the last of the pending days none is left
pub none_left : (old new : Registered) (count : ℕ) → IsOnTheWay old new count → count ≡ length (pending_days old.history.events)
    → pending_days new.history.events ≡ []
none_left old new count way e = way.left ∙ drop_all count (pending_days old.history.events) (omega (arith, e))

-- a settlement that had no memory for a day stops at it
pub stopped : {A E : Type 0} (result : Result A E) (old now new : Registered) (count : ℕ) → IsSettledTo old now count → count < length (pending_days old.history.events)
    → new ≡ now → OnErr result ((k : ℕ) × (k < length (pending_days old.history.events)) × IsSettledTo old new k)
stopped (Ok value) old now new count settled within same = tt
stopped (Err error) old now new count settled within same = (count, within, subst (λ (r : Registered). IsSettledTo old r count) (sym same) settled)
