-- A job tells the inputs of its day wherever the day awaits the job's edit, also behind openings.
use Rattle.std.specs.Prelude.{◌≡◌, ◌≢◌, ◌↔◌, ℕ, List, [], ◌∷◌, ◌++◌, length, take, Some, ℤ}
use Rattle.std.proofs.Common.{ap, sym, subst, ◌∙◌, length-append}
use Rattle.std.proofs.lemmas.Grind.{fold-append}
use Rattle.std.proofs.lemmas.List.{append-nil, append_assoc}
use Rattle.std.proofs.Math.Seq.{take-append_seam}
use Rattle.edits.specs.declared.content.Edit.{Edit}
use Rattle.fixed_units.specs.Quantities.{SiteNumber}
use Rattle.history.specs.Accepted.{edits_of}
use Rattle.history.specs.Awaited.{SiteDay, awaited, inputs_at}
use Rattle.history.specs.Events.{Event}
use Rattle.history.specs.LastChanges.{ChangedLast, NoneChanges}
use Rattle.history.proofs.LastChangeLemmas.{awaits_last_change}
use Rattle.history.proofs.StationLemmas.{unchanged_day}
use Rattle.office_inputs.specs.Stations.{inputs_of_day, stations_after, stations_of}
use Rattle.recompute.specs.declared.jobs.Publish.TheVariants.{Foreign, Published}
use Rattle.recompute.proofs.OutcomeLemmas.{outcome_where_awaited, told_true}
use Rattle.day_inputs.specs.Equality.{same_inputs}
use Rattle.day_inputs.specs.declared.day_inputs.DayInputs.{DayInputs}
use Rattle.register.specs.Asked.{job_at, outcome_at}
use Rattle.station_inputs.specs.Stations.{StationState}

-- the front of a list, by its length
front_taken : (front rest whole : List Edit) (number : ℕ) → whole ≡ front ++ rest → number ≡ length front → take number whole ≡ front
front_taken front rest whole number w n =
    ap (λ (k : ℕ). take k whole) n ∙ ap (take (length front)) w ∙ take-append_seam front rest

module _ (site : SiteNumber) (day : ℤ) where
  -- the inputs that these edits give
  abbrev inputs_by : List Edit → DayInputs
  inputs_by edits = inputs_of_day (stations_of edits) site day

  -- edits that do not change the day leave its inputs
  unchanged_inputs : (before edits : List Edit) → NoneChanges site day before edits → inputs_by (before ++ edits) ≡ inputs_by before
  unchanged_inputs before [] n = ap inputs_by (append-nil before)
  unchanged_inputs before (edit ∷ edits) n =
      ap inputs_by (sym (append_assoc before (edit ∷ []) edits)) ∙ unchanged_inputs (before ++ edit ∷ []) edits n.1
      ∙ ap (λ (s : List StationState). inputs_of_day s site day) (fold-append stations_after [] before (edit ∷ []))
      ∙ unchanged_day (stations_of before) edit site day n.0

  -- the edit that changed the day last, with those before it
  abbrev up_to : (edits : List Edit) (number : ℕ) → ChangedLast edits site day number → List Edit
  up_to edits number h = h.older ++ h.edit ∷ []

  parted_there : (edits : List Edit) (number : ℕ) (h : ChangedLast edits site day number) → edits ≡ up_to edits number h ++ h.newer
  parted_there edits number h = h.edits_are ∙ sym (append_assoc h.older (h.edit ∷ []) h.newer)

  many_there : (edits : List Edit) (number : ℕ) (h : ChangedLast edits site day number) → number ≡ length (up_to edits number h)
  many_there edits number h = h.number_is ∙ sym (length-append h.older (h.edit ∷ []))

  inputs_there : (edits : List Edit) (number : ℕ) (h : ChangedLast edits site day number) → inputs_by edits ≡ inputs_by (up_to edits number h)
  inputs_there edits number h = ap inputs_by (parted_there edits number h) ∙ unchanged_inputs (up_to edits number h) h.newer h.since

  -- where one edit changed the day last, before and behind others, these leave its inputs
  same_last : (edits more : List Edit) (number : ℕ) → ChangedLast edits site day number → ChangedLast (edits ++ more) site day number
      → inputs_by (edits ++ more) ≡ inputs_by edits
  same_last edits more number h k =
      let all : edits ++ more ≡ up_to edits number h ++ (h.newer ++ more) =
      ap (λ (l : List Edit). l ++ more) (parted_there edits number h) ∙ append_assoc (up_to edits number h) h.newer more in
      inputs_there (edits ++ more) number k
      ∙ ap inputs_by (sym (front_taken (up_to (edits ++ more) number k) k.newer (edits ++ more) number (parted_there (edits ++ more) number k) (many_there (edits ++ more) number k))
      ∙ front_taken (up_to edits number h) (h.newer ++ more) (edits ++ more) number all (many_there edits number h))
      ∙ sym (inputs_there edits number h)

  pub inputs_last : (events now : List Event) (more : List Edit) (number : ℕ) → edits_of now ≡ edits_of events ++ more
      → awaited events site day ≡ Some number → awaited now site day ≡ Some number → inputs_at now site day ≡ inputs_at events site day
  inputs_last events now more number e h k =
      ap inputs_by e
      ∙ same_last (edits_of events) more number (awaits_last_change site day events number h)
      (subst (λ (l : List Edit). ChangedLast l site day number) e (awaits_last_change site day now number k))

-- so a job of a day that awaited its edit is published where the day does
pub lasting_outcome : (events now : List Event) (more : List Edit) (d : SiteDay) → edits_of now ≡ edits_of events ++ more
    → awaited events d.site d.day ≡ Some (job_at events d).awaits
    → (outcome_at now (job_at events d) ≡ Published ↔ awaited now d.site d.day ≡ Some (job_at events d).awaits) × (outcome_at now (job_at events d) ≢ Foreign)
lasting_outcome events now more d e h =
    outcome_where_awaited (awaited now d.site d.day) (job_at events d).awaits (same_inputs (inputs_at events d.site d.day) (inputs_at now d.site d.day))
    (λ k. told_true (inputs_at events d.site d.day) (inputs_at now d.site d.day)
    (sym (inputs_last d.site d.day events now more (job_at events d).awaits e h k)))
