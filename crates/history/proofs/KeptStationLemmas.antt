-- In a legal history the station of an approved day is in force, and the sheet that is kept of the day is the one that is shown.
use Rattle.std.specs.Prelude.{◌≡◌, ℕ, Bool, true, false, not, ◌&&◌, cond, List, [], ◌∷◌, ◌++◌, map, Option, Some, None, is_some, ℤ}
use Rattle.std.proofs.Common.{refl, ap, sym, ◌∙◌, inl, inr}
use Rattle.std.proofs.lemmas.Bool.{false≢true}
use Rattle.std.proofs.lemmas.Bool.Decides.{Decides-int_eq}
use Rattle.approval.specs.Statuses.{Standing, is_approved}
use Rattle.fixed_units.specs.Quantities.{SiteNumber, same_site, site_place}
use Rattle.history.specs.Accepted.{accepted, edit_of, stations_at}
use Rattle.history.specs.Awaited.{awaited, value_at}
use Rattle.history.specs.Events.{Event, Accepted, Published, Faulted}
use Rattle.history.specs.Legal.{IsOrderly, MayBeKept}
use Rattle.history.specs.Sheets.{NoStation, Text, kept_first, shown_at, shown_by}
use Rattle.history.specs.Statuses.{standing_at, standing_back, standing_of, status_at, stored_sheet}
use Rattle.history.proofs.EventLemmas.{accepted_faulted, accepted_published, stations_accepted}
use Rattle.history.proofs.OrderlyLemmas.{by_events}
use Rattle.history.proofs.SheetLemmas.{has_sheet}
use Rattle.history.proofs.StandingLemmas.{approved_behind, standing_elsewhere}
use Rattle.office_inputs.specs.Refusals.{adds_station, is_kept}
use Rattle.office_inputs.specs.Stations.{place_of, station_of, stations_of}
use Rattle.office_inputs.specs.declared.limits.Limits.{Limits}
use Rattle.office_inputs.proofs.LawLemmas.{kept_stays}
use Rattle.office_inputs.proofs.RefusalLemmas.{accepted as not_refused}
use Rattle.records.specs.Sheets.{Record}
use Rattle.records.specs.declared.formats.Format.{Format}
use Rattle.rising.specs.Lists.{at}
use Rattle.station_inputs.specs.Stations.{StationState}

needed : (adds kept : Bool) → (not adds && not kept) ≡ false → adds ≡ false → kept ≡ true
needed true kept e f = absurd (cc)
needed false true e f = cc
needed false false e f = absurd (cc)

module _ (limits : Limits) (format : Format) (site : SiteNumber) (day : ℤ) where
  -- its station is in force if it is approved
  abbrev HasStation : List Event → Type 0
  HasStation events = is_approved (status_at events site day) ≡ true → is_some (station_of (stations_at events) site) ≡ true

  -- where the day stands as before
  stands_on : (events more : List Event) → standing_at more site day ≡ standing_at events site day → HasStation events → is_approved (status_at more site day) ≡ true
      → is_some (station_of (stations_at events) site) ≡ true
  stands_on events more same had approved = had (ap (λ (s : Standing). is_approved s.status) (sym same) ∙ approved)

  -- the edit that approves a day is of a station in force
  there : (events : List Event) (piece : Record) → same_site piece.edit.site site ≡ true → MayBeKept limits format events piece
      → (what : adds_station piece.edit.what ≡ false) → is_some (station_of (stations_at events) site) ≡ true
  there events piece e m what =
      let one = (Decides-int_eq (site_place piece.edit.site) (site_place site)).0 e in
      ap (λ (n : ℤ). is_some (at place_of n (stations_at events))) (sym one)
      ∙ needed (adds_station piece.edit.what) (is_kept (stations_at events) piece.edit.site) (not_refused limits (stations_at events) piece.edit m.stations).needed what

  station_stays : (events : List Event) (piece : Record) → is_some (station_of (stations_at events) site) ≡ true
      → is_some (station_of (stations_at (events ++ Accepted piece ∷ [])) site) ≡ true
  station_stays events piece k =
      ap (λ (ss : List StationState). is_some (station_of ss site)) (stations_accepted events piece) ∙ kept_stays (stations_at events) piece.edit site k

  behind_edit : (events : List Event) (piece : Record) (b : Bool) → same_site piece.edit.site site ≡ b → MayBeKept limits format events piece → HasStation events
      → HasStation (events ++ Accepted piece ∷ [])
  behind_edit events piece false e m had approved =
      station_stays events piece (stands_on events (events ++ Accepted piece ∷ []) (standing_elsewhere events piece site day e) had approved)
  behind_edit events piece true e m had approved =
      station_stays events piece
      (elim (approved_behind events piece site day e approved) [
        | inl same ↦ stands_on events (events ++ Accepted piece ∷ []) same had approved
        | inr a ↦ there events piece e m (ap adds_station a.what_is)
      ])

  behind_other : (events more : List Event) → accepted more ≡ accepted events → HasStation events → HasStation more
  behind_other events more same had approved =
      ap (λ (ps : List Record). is_some (station_of (stations_of (map edit_of ps)) site)) same
      ∙ stands_on events more (ap (λ (ps : List Record). standing_of (map edit_of ps) site day) same) had approved

  behind : (done since : List Event) (e : Event) → IsOrderly limits format (done ++ e ∷ since) → HasStation done → HasStation (done ++ e ∷ [])
  behind done since (Accepted piece) k had = behind_edit done piece (same_site piece.edit.site site) refl (k.accepted done since piece refl) had
  behind done since (Published own its) k had = behind_other done (done ++ Published own its ∷ []) (accepted_published done own its) had
  behind done since (Faulted left) k had = behind_other done (done ++ Faulted left ∷ []) (accepted_faulted done left) had

  none_before : HasStation []
  unfolding standing_back
  none_before approved = absurd (false≢true approved)

  pub has_station : (events : List Event) → IsOrderly limits format events → is_approved (status_at events site day) ≡ true
      → is_some (station_of (stations_at events) site) ≡ true
  has_station events k = by_events limits format HasStation behind none_before events k

  found_text : (o : Option (List ℕ)) → is_some o ≡ true → (text : List ℕ) × (o ≡ Some text)
  found_text None e = absurd (cc)
  found_text (Some text) e = (text, refl)

  shown_text : (events : List Event) (text : List ℕ) → is_some (station_of (stations_at events) site) ≡ true → stored_sheet events site day ≡ Some text
      → shown_at events site day ≡ Text text
  shown_text events text k e =
      let shown = shown_by site day (awaited events site day) (value_at events site day) in
      ap (λ (b : Bool). cond b (kept_first (stored_sheet events site day) shown) NoStation) k ∙ ap (λ (o : Option (List ℕ)). kept_first o shown) e

  pub shows_kept : (events : List Event) → IsOrderly limits format events → is_approved (status_at events site day) ≡ true
      → (text : List ℕ) × (stored_sheet events site day ≡ Some text) × (shown_at events site day ≡ Text text)
  shows_kept events k approved =
      let found = found_text (stored_sheet events site day) (has_sheet limits format site day events k approved) in
      (found.0, found.1, shown_text events found.0 (has_station events k approved) found.1)
