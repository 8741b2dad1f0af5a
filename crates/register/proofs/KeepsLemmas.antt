-- What is kept in memory tells what is read off the history, also after each step.
use Rattle.std.specs.Prelude.{◌≡◌, ℕ, ◌+◌, ◌<◌, ◌^◌, Bool, true, false, cond, List, [], ◌∷◌, ◌++◌, length, map, bytes_eq, Option, Some, None, IfSome, ℤ, Result, Ok, Err, OnOk, OnErr}
use Rattle.std.proofs.Common.{arith, refl, ap, sym, subst, ◌∙◌, length-append}
use Rattle.std.proofs.lemmas.List.Sums.{sum_by-append, sum_by-cons}
use Rattle.std.specs.Cmp.Lexicographic.{bytes_decides}
use Rattle.daily_values.specs.declared.day_values.DayValue.{DayValue}
use Rattle.approval.specs.Kept.{KeptSite, standing_in}
use Rattle.approval.specs.Statuses.{worked}
use Rattle.day_cells.specs.KeptDays.{KeptDays}
use Rattle.edits.specs.declared.content.Edit.{Edit}
use Rattle.fixed_units.specs.Quantities.{SiteNumber}
use Rattle.history.specs.Accepted.{Numbered, numbered_from, accepted, edit_of, edits_of, stations_at, named, journal_size}
use Rattle.history.specs.After.{after_record}
use Rattle.history.specs.Awaited.{is_pending, pending_days, value_at}
use Rattle.history.specs.Events.{Event, Accepted, Published, Faulted, History}
use Rattle.history.specs.Legal.{IsLegal, MayBeKept}
use Rattle.history.specs.Statuses.{standing_back, standing_of}
use Rattle.history.proofs.EventLemmas.{accepted_accepted, accepted_published, accepted_faulted, edits_accepted, stations_accepted}
use Rattle.history.proofs.LegalLemmas.{MayComeNow, legal_more, legal_reopened, may_publish, may_fault, not_nil}
use Rattle.history.proofs.NamedLemmas.{named_kept, named_new}
use Rattle.office_inputs.specs.Changes.{changed_days}
use Rattle.office_inputs.specs.Kept.{InForce, in_force}
use Rattle.office_inputs.specs.Stations.{stations_of, stations_after}
use Rattle.station_inputs.specs.Stations.{StationState}
use Rattle.office_inputs.specs.declared.limits.Limits.{Limits}
use Rattle.recompute.specs.Cells.{SaysTheSame, Marks, TakesOut, Publishes}
use Rattle.records.specs.Frames.{before_payload, header_length}
use Rattle.records.specs.Payloads.{payload}
use Rattle.records.specs.Sheets.{Record}
use Rattle.records.specs.declared.formats.Format.{Format}
use Rattle.register.specs.Keeping.{Keeps, PlacesAll, Tells}
use Rattle.register.specs.References.{Placed, IsPlacedFor}
use Rattle.register.specs.Registered.{registered}
use Rattle.register.proofs.StandsLemmas.{Stands, told_standings}
use Rattle.register.proofs.TellsLemmas.{tells_none, tells_marked, tells_same, tells_taken, tells_faulted, tells_published}

-- of no record
pub keeps_none : (format : Format) (inputs : InForce) (statuses : List KeptSite) (spare : ℕ) → in_force inputs ≡ []
    → ((site : SiteNumber) (day : ℤ) → standing_in statuses site day ≡ worked) → Keeps (registered 0 format inputs [] [] statuses spare []) [] 0 (header_length + 1)
unfolding numbered_from standing_back
keeps_none format inputs statuses spare h w = record {
  legal = legal_reopened inputs.limits format [] (record {
    accepted = λ before after piece s. absurd (not_nil before (Accepted piece) after s);
    doubts = λ before after piece s. absurd (not_nil before (Faulted (Some piece)) after s);
    publications = λ before after site day s. absurd (not_nil before (Published site day) after s);
  });
  stations = h;
  pieces_are = refl;
  events_are = refl;
  journal_is = refl;
  journal_fits = omega arith;
  cells_tell = tells_none;
  statuses_tell = λ site day k. w site day;
  places = λ reference. tt;
  fits = omega arith;
}

pub keeps_empty : (format : Format) (inputs : InForce) (cells : List KeptDays) (places : List Placed) (statuses : List KeptSite) (spare : ℕ) (events : List Event) (pieces : List Record)
    → in_force inputs ≡ [] → cells ≡ [] → places ≡ [] → ((site : SiteNumber) (day : ℤ) → standing_in statuses site day ≡ worked) → events ≡ [] → pieces ≡ []
    → Keeps (registered 0 format inputs cells places statuses spare events) pieces 0 (header_length + 1)
keeps_empty format inputs cells places statuses spare events pieces h c p w e q = rw (c, p, e, q) (keeps_none format inputs statuses spare h w)

-- the place that is kept for each reference that names an accepted edit
abbrev pub IsPlaced : List Placed → List ℕ → Numbered → Type 0
IsPlaced kept reference n = (place : ℕ) × IsPlacedFor kept reference place × (n.number ≡ place + 1)

module _ (edits : List Edit) (edit : Edit) (kept : List Placed) (room : IsPlacedFor kept edit.reference (length edits)) where
  new_place : (reference : List ℕ) (b : Bool) → bytes_eq edit.reference reference ≡ b
      → IfSome (cond b (Some (record { number = 1 + length edits; edit = edit })) None) (IsPlaced kept reference)
  new_place reference true e =
      let same : edit.reference ≡ reference = (bytes_decides edit.reference reference).0 e in
      (length edits, subst (λ (r : List ℕ). IsPlacedFor kept r (length edits)) same room, omega arith)
  new_place reference false e = tt

  place_step : (reference : List ℕ) (found : Option Numbered) → named edits reference ≡ found → IfSome found (IsPlaced kept reference)
      → IfSome (named (edits ++ edit ∷ []) reference) (IsPlaced kept reference)
  place_step reference (Some n) e h =
      subst (λ (o : Option Numbered). IfSome o (IsPlaced kept reference)) (sym (named_kept reference edits edit n e)) h
  place_step reference None e h =
      subst (λ (o : Option Numbered). IfSome o (IsPlaced kept reference)) (sym (named_new reference edits edit e))
      (new_place reference (bytes_eq edit.reference reference) refl)

  pub places_more : PlacesAll edits kept → PlacesAll (edits ++ edit ∷ []) kept
  places_more h reference = place_step reference (named edits reference) refl (h reference)

-- places that are kept for more references
places_kept : (old new : List Placed) (reference : List ℕ) (found : Option Numbered) → ((other : List ℕ) (its : ℕ) → IsPlacedFor old other its → IsPlacedFor new other its)
    → IfSome found (IsPlaced old reference) → IfSome found (IsPlaced new reference)
places_kept old new reference None more h = tt
places_kept old new reference (Some n) more h = (h.0, more reference h.0 h.1, h.2)

-- after a place was put, or there was no memory for it
pub places_put : {E : Type 0} (edits : List Edit) (old new : List Placed) (told : Result (Unit {0}) E)
    → OnOk told ((other : List ℕ) (its : ℕ) → IsPlacedFor old other its → IsPlacedFor new other its) → OnErr told (new ≡ old)
    → PlacesAll edits old → PlacesAll edits new
places_put edits old new (Ok u) more same h reference = places_kept old new reference (named edits reference) more (h reference)
places_put edits old new (Err e) more same h reference = subst (λ (l : List Placed). IfSome (named edits reference) (IsPlaced l reference)) (sym same) (h reference)

pub journal_more : (format : Format) (pieces : List Record) (piece : Record)
    → journal_size format (pieces ++ piece ∷ []) ≡ journal_size format pieces + (before_payload + length (payload format piece))
journal_more format pieces piece =
    let whole = sum_by-append (λ (p : Record). before_payload + length (payload format p)) pieces (piece ∷ []) in
    let last = sum_by-cons (λ (p : Record). before_payload + length (payload format p)) piece [] in
    omega (arith, whole, last)

module _ (opened : ℕ) (format : Format) (inputs : InForce) (cells : List KeptDays) (places : List Placed) (statuses : List KeptSite) (spare : ℕ) (events : List Event)
    (pieces : List Record) (count bytes : ℕ) (kept : Keeps (registered opened format inputs cells places statuses spare events) pieces count bytes) where
  abbrev now : History
  now = record { opened = opened; limits = inputs.limits; format = format; events = events }

  limits_same : (limits : Limits) (more : List Event) → limits ≡ inputs.limits → IsLegal (record { opened = opened; limits = inputs.limits; format = format; events = more })
      → IsLegal (record { opened = opened; limits = limits; format = format; events = more })
  limits_same limits more e h = subst (λ (l : Limits). IsLegal (record { opened = opened; limits = l; format = format; events = more })) (sym e) h

  -- room was made
  pub keeps_prepared : (new : InForce) (more : List KeptDays) (put : List Placed) (standings : List KeptSite) (room : ℕ)
      → in_force new ≡ in_force inputs → new.limits ≡ inputs.limits → SaysTheSame cells more → PlacesAll (edits_of events) put
      → ((site : SiteNumber) (day : ℤ) → standing_in standings site day ≡ standing_in statuses site day)
      → Keeps (registered opened format new more put standings room events) pieces count bytes
  keeps_prepared new more put standings room s l c p w = record {
    legal = limits_same new.limits events l kept.legal;
    stations = s ∙ kept.stations;
    pieces_are = kept.pieces_are;
    events_are = kept.events_are;
    journal_is = kept.journal_is;
    journal_fits = kept.journal_fits;
    cells_tell = tells_same events cells more kept.cells_tell c;
    statuses_tell = λ site day k. w site day ∙ kept.statuses_tell site day k;
    places = p;
    fits = kept.fits;
  }

  -- an edit was accepted
  pub keeps_accepted : (opened_with : ℕ) (piece : Record) (new : InForce) (more : List KeptDays) (standings : List KeptSite) (room number counted size : ℕ)
      → IsLegal (after_record opened_with now piece)
      → in_force new ≡ stations_after (in_force inputs) piece.edit → new.limits ≡ inputs.limits
      → number ≡ length pieces + 1 → Marks cells more piece.edit.site (changed_days (stations_at events) piece.edit) number
      → Stands statuses standings number piece.edit (changed_days (stations_at events) piece.edit)
      → IsPlacedFor places piece.edit.reference (length (edits_of events))
      → counted ≡ count + 1 → size ≡ bytes + (before_payload + length (payload format piece)) → size < 2 ^ 64
      → length (events ++ Accepted piece ∷ []) + length (pending_days (events ++ Accepted piece ∷ [])) < 2 ^ 64
      → Keeps (registered opened_with format new more places standings room (events ++ Accepted piece ∷ [])) (pieces ++ piece ∷ []) counted size
  keeps_accepted opened_with piece new more standings room number counted size legal s l n m st p c z f w = record {
    legal = subst (λ (x : Limits). IsLegal (record { opened = opened_with; limits = x; format = format; events = events ++ Accepted piece ∷ [] })) (sym l) legal;
    stations = s ∙ ap (λ (x : List StationState). stations_after x piece.edit) kept.stations ∙ sym (stations_accepted events piece);
    pieces_are = ap (λ (ps : List Record). ps ++ piece ∷ []) kept.pieces_are ∙ sym (accepted_accepted events piece);
    events_are = c ∙ ap (λ k. k + 1) kept.events_are ∙ sym (length-append events (Accepted piece ∷ []));
    journal_is =
        z ∙ ap (λ k. k + (before_payload + length (payload format piece))) kept.journal_is ∙ sym (journal_more format (accepted events) piece)
        ∙ ap (journal_size format) (sym (accepted_accepted events piece));
    journal_fits = f;
    cells_tell = tells_marked events cells more kept.cells_tell piece number (n ∙ ap (λ (ps : List Record). length ps + 1) kept.pieces_are) m;
    statuses_tell = told_standings events statuses standings kept.statuses_tell piece number (n ∙ ap (λ (ps : List Record). length ps + 1) kept.pieces_are) st;
    places = subst (λ (es : List Edit). PlacesAll es places) (sym (edits_accepted events piece)) (places_more (edits_of events) piece.edit places p kept.places);
    fits = w;
  }

  -- a claim was taken out
  pub keeps_claimed : (more : List KeptDays) (site : SiteNumber) (day : ℤ) → TakesOut cells more site day
      → Keeps (registered opened format inputs more places statuses spare events) pieces count bytes
  keeps_claimed more site day t = record {
    legal = kept.legal;
    stations = kept.stations;
    pieces_are = kept.pieces_are;
    events_are = kept.events_are;
    journal_is = kept.journal_is;
    journal_fits = kept.journal_fits;
    cells_tell = tells_taken events cells more kept.cells_tell site day t;
    statuses_tell = kept.statuses_tell;
    places = kept.places;
    fits = kept.fits;
  }

  -- an event that is no edit
  other_event : (e : Event) (more : List KeptDays) (counted : ℕ) → accepted (events ++ e ∷ []) ≡ accepted events → MayComeNow now e → counted ≡ count + 1
      → Tells (events ++ e ∷ []) more → length (events ++ e ∷ []) + length (pending_days (events ++ e ∷ [])) < 2 ^ 64
      → Keeps (registered opened format inputs more places statuses spare (events ++ e ∷ [])) pieces counted bytes
  other_event e more counted same may c told w = record {
    legal = legal_more now e kept.legal may;
    stations = kept.stations ∙ ap (λ (ps : List Record). stations_of (map edit_of ps)) (sym same);
    pieces_are = kept.pieces_are ∙ sym same;
    events_are = c ∙ ap (λ k. k + 1) kept.events_are ∙ sym (length-append events (e ∷ []));
    journal_is = kept.journal_is ∙ ap (journal_size format) (sym same);
    journal_fits = kept.journal_fits;
    cells_tell = told;
    statuses_tell = λ site d k. kept.statuses_tell site d k ∙ ap (λ (ps : List Record). standing_of (map edit_of ps) site d) (sym same);
    places = subst (λ (ps : List Record). PlacesAll (map edit_of ps) places) (sym same) kept.places;
    fits = w;
  }

  pub keeps_published : (site : SiteNumber) (day : ℤ) (value : DayValue) (more : List KeptDays) (counted : ℕ) → is_pending events site day ≡ true
      → value ≡ value_at events site day → Publishes cells more site day value → counted ≡ count + 1
      → length (events ++ Published site day ∷ []) + length (pending_days (events ++ Published site day ∷ [])) < 2 ^ 64
      → Keeps (registered opened format inputs more places statuses spare (events ++ Published site day ∷ [])) pieces counted bytes
  keeps_published site day value more counted pending v p c w =
      other_event (Published site day) more counted (accepted_published events site day)
      (may_publish now site day pending) c (tells_published events cells more kept.cells_tell site day value v p) w

  pub keeps_faulted : (doubt : Option Record) (counted : ℕ) → ((piece : Record) → doubt ≡ Some piece → MayBeKept inputs.limits format events piece)
      → counted ≡ count + 1
      → length (events ++ Faulted doubt ∷ []) + length (pending_days (events ++ Faulted doubt ∷ [])) < 2 ^ 64
      → Keeps (registered opened format inputs cells places statuses spare (events ++ Faulted doubt ∷ [])) pieces counted bytes
  keeps_faulted doubt counted may c w =
      other_event (Faulted doubt) cells counted (accepted_faulted events doubt)
      (may_fault now doubt may) c
      (tells_faulted events cells cells kept.cells_tell doubt) w
