-- A review, an approval and a rescission change no day, so none of them is refused as locked.
use Rattle.std.specs.Prelude.{◌≡◌, true, false, List, Option, Some, None, ℤ}
use Rattle.std.proofs.Common.{refl, ap, sym, ◌∙◌}
use Rattle.day_inputs.specs.Equality.{same_inputs}
use Rattle.day_inputs.specs.declared.day_inputs.DayInputs.{DayInputs}
use Rattle.day_inputs.proofs.EqualityLemmas.{Decides-same_inputs}
use Rattle.edits.specs.declared.content.Edit.{Edit}
use Rattle.edits.specs.declared.content.What.{What}
use Rattle.edits.specs.declared.content.What.TheVariants.{Review, Decide}
use Rattle.edits.specs.declared.decisions.Decision.{Decision}
use Rattle.history.specs.Accepted.{stations_at}
use Rattle.history.specs.Events.{History}
use Rattle.history.specs.Verdicts.{Refuses, verdict}
use Rattle.history.proofs.LockedLemmas.{locked_changes}
use Rattle.office_inputs.specs.Changes.{keeps_day}
use Rattle.office_inputs.specs.Refusals.{adds_station}
use Rattle.office_inputs.specs.Stations.{inputs_of_day, station_of, stations_after, with_changed}
use Rattle.office_inputs.specs.declared.refusals.Refusal.TheVariants.{Locked}
use Rattle.office_inputs.proofs.KeepLemmas.{change_told, only_changed}
use Rattle.station_inputs.specs.Stations.{StationState, station_after, station_day}

itself : (inputs : DayInputs) → same_inputs inputs inputs ≡ true
itself inputs = (Decides-same_inputs inputs inputs).1 refl

-- an edit that leaves every station as it is keeps every day
keeps_by : (stations : List StationState) (edit : Edit) (day : ℤ) (o : Option StationState) → station_of stations edit.site ≡ o → adds_station edit.what ≡ false
    → ((s : StationState) → station_after edit.what s ≡ s) → keeps_day stations edit day ≡ true
keeps_by stations edit day None e a same =
    let left : stations_after stations edit ≡ stations =
    only_changed edit.site edit.what stations a ∙ ap (λ (o : Option StationState). with_changed (station_after edit.what) o stations) e in
    ap (λ (ss : List StationState). same_inputs (inputs_of_day stations edit.site day) (inputs_of_day ss edit.site day)) left
    ∙ itself (inputs_of_day stations edit.site day)
keeps_by stations edit day (Some s) e a same =
    sym (change_told stations edit s day a e) ∙ ap (λ (t : StationState). same_inputs (station_day s day) (station_day t day)) (same s)
    ∙ itself (station_day s day)

never : (h : History) (edit : Edit) (day : ℤ) → adds_station edit.what ≡ false → ((s : StationState) → station_after edit.what s ≡ s)
    → verdict h edit ≡ Refuses (Locked day) → ⊥
never h edit day a same v =
    let kept = keeps_by (stations_at h.events) edit day (station_of (stations_at h.events) edit.site) refl a same in
    let wrong : true ≡ false = sym kept ∙ (locked_changes h edit day v).1 in
    cc

pub review_never : (h : History) (edit : Edit) (from to day : ℤ) → edit.what ≡ Review from to → verdict h edit ≡ Refuses (Locked day) → ⊥
review_never h edit from to day e v = never h edit day (ap adds_station e) (λ s. ap (λ (w : What). station_after w s) e) v

pub decision_never : (h : History) (edit : Edit) (from to day : ℤ) (decision : Decision) → edit.what ≡ Decide from to decision
    → verdict h edit ≡ Refuses (Locked day) → ⊥
decision_never h edit from to day decision e v = never h edit day (ap adds_station e) (λ s. ap (λ (w : What). station_after w s) e) v
