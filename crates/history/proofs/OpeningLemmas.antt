-- What is read off the accepted records alone is the same after an opening, and an approved day stays as it is where records are added.
use Rattle.std.specs.Prelude.{◌≡◌, ℕ, ◌-◌, ◌==◌, true, cond, List, [], ◌∷◌, ◌++◌, map, slice_get, Option, None, ℤ}
use Rattle.std.proofs.Common.{ap, sym, subst, ◌∙◌}
use Rattle.std.proofs.lemmas.List.{append-nil, map-append}
use Rattle.approval.specs.Statuses.{Standing, is_approved}
use Rattle.fixed_units.specs.Quantities.{IsDay, SiteNumber}
use Rattle.history.specs.Accepted.{accepted, edit_of, edits_of}
use Rattle.history.specs.Awaited.{inputs_at}
use Rattle.history.specs.Events.{Event, Accepted, History}
use Rattle.history.specs.Legal.{IsLegal, IsOrderly}
use Rattle.history.specs.Rescissions.{NoneRescinds}
use Rattle.history.specs.Statuses.{sheet_of, standing_at, standing_of, status_at, stored_sheet}
use Rattle.history.specs.Verdicts.{with_record}
use Rattle.history.proofs.ApprovedLemmas.{approved_stays, sheet_stays}
use Rattle.history.proofs.EventLemmas.{accepted_accepted, accepted_all}
use Rattle.history.proofs.LegalLemmas.{legal_front}
use Rattle.office_inputs.specs.Stations.{inputs_of_day, stations_of}
use Rattle.records.specs.Sheets.{Record}

-- a day is the same by two lists of events of the same accepted records
pub record IsSame (a b : List Event) (site : SiteNumber) (day : ℤ) : Type 0 where
  pub standing : standing_at a site day ≡ standing_at b site day
  pub inputs : inputs_at a site day ≡ inputs_at b site day
  pub sheet : stored_sheet a site day ≡ stored_sheet b site day

-- the sheet that is kept, by the records
abbrev kept_by : List Record → ℤ → Standing → Option (List ℕ)
kept_by pieces day standing =
    cond (is_approved standing.status) (sheet_of (cond (standing.edit == 0) None (slice_get pieces (standing.edit - 1))) day) None

pub same_day : (a b : List Event) (site : SiteNumber) (day : ℤ) → accepted a ≡ accepted b → IsSame a b site day
same_day a b site day e = record {
  standing = ap (λ (ps : List Record). standing_of (map edit_of ps) site day) e;
  inputs = ap (λ (ps : List Record). inputs_of_day (stations_of (map edit_of ps)) site day) e;
  sheet = ap (λ (ps : List Record). kept_by ps day (standing_of (map edit_of ps) site day)) e;
}

-- an office that is opened on the accepted records, and on these and one more
pub opened_day : (events : List Event) (site : SiteNumber) (day : ℤ) → IsSame (map Accepted (accepted events)) events site day
opened_day events site day = same_day (map Accepted (accepted events)) events site day (accepted_all (accepted events))

pub opened_with : (h : History) (piece : Record) (site : SiteNumber) (day : ℤ)
    → IsSame (map Accepted (accepted h.events ++ piece ∷ [])) (with_record h piece) site day
opened_with h piece site day =
    same_day (map Accepted (accepted h.events ++ piece ∷ [])) (with_record h piece) site day
    (accepted_all (accepted h.events ++ piece ∷ []) ∙ sym (accepted_accepted h.events piece))

-- An approved day is the same where records are added that do not take its approval back.
pub added_to : (h : History) (events : List Event) (records : List Record) (site : SiteNumber) (day : ℤ) → IsLegal h → IsDay day
    → accepted h.events ≡ accepted events ++ records → is_approved (status_at events site day) ≡ true → NoneRescinds site day (map edit_of records)
    → IsSame h.events events site day
added_to h events records site day legal is e approved none =
    let known = map Accepted (accepted events) in
    let more = map Accepted records in
    let before = opened_day events site day in
    let whole : map Accepted (accepted h.events) ≡ known ++ more = ap (map Accepted) e ∙ map-append Accepted (accepted events) records in
    let orderly : IsOrderly h.limits h.format (known ++ more) =
    subst (IsOrderly h.limits h.format) whole (legal_front h h.events [] legal (sym (append-nil h.events))).orderly in
    let same : accepted h.events ≡ accepted (known ++ more) = sym (accepted_all (accepted h.events)) ∙ ap accepted whole in
    let after = same_day h.events (known ++ more) site day same in
    let rescinded : NoneRescinds site day (edits_of more) = subst (λ (ps : List Record). NoneRescinds site day (map edit_of ps)) (sym (accepted_all records)) none in
    let stays = approved_stays h.limits h.format site day is more known orderly (ap (λ (s : Standing). is_approved s.status) before.standing ∙ approved) rescinded in
    record {
      standing = after.standing ∙ stays.standing ∙ before.standing;
      inputs = after.inputs ∙ stays.inputs ∙ before.inputs;
      sheet = after.sheet ∙ sheet_stays known more site day stays.standing ∙ before.sheet;
    }
