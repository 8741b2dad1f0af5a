-- What becomes of a publication, by what is asked in turn.
use Rattle.std.specs.Prelude.{◌≡◌, ◌≢◌, ℕ, ◌==◌, Bool, true, false, cond, List, Option, Some, None, ◌↔◌}
use Rattle.std.proofs.Common.{refl, ap, sym, ◌∙◌}
use Rattle.std.proofs.lemmas.Bool.{false≢true}
use Rattle.std.proofs.lemmas.Bool.Decides.{Decides-eqb}
use Rattle.std.proofs.lemmas.Option.{same_Some}
use Rattle.day_inputs.specs.declared.day_inputs.DayInputs.{DayInputs}
use Rattle.day_inputs.specs.Equality.{same_inputs}
use Rattle.day_inputs.proofs.EqualityLemmas.{Decides-same_inputs}
use Rattle.office_inputs.specs.Stations.{inputs_of_day}
use Rattle.station_inputs.specs.Stations.{StationState}
use Rattle.day_cells.specs.KeptDays.{KeptDays}
use Rattle.recompute.specs.Cells.{awaited_in}
use Rattle.recompute.specs.Jobs.{DayJob, outcome_by, outcome_of}
use Rattle.recompute.specs.declared.jobs.Publish.TheVariants.{Superseded, Foreign, Published}

pub outcome_same : (o : Option ℕ) (edit awaits : ℕ) (same : Bool) → o ≡ Some edit → edit ≡ awaits → outcome_by o awaits same ≡ cond same Published Foreign
outcome_same o edit awaits same e f =
    let yes : (edit == awaits) ≡ true = (Decides-eqb edit awaits).1 f in
    ap (λ p. outcome_by p awaits same) e ∙ ap (λ b. cond b (cond same Published Foreign) (Superseded edit)) yes

told_by : (p q : DayInputs) (b : Bool) → same_inputs p q ≡ b → (p ≡ q → ⊥) → b ≡ false
told_by p q true e h = absurd (h ((Decides-same_inputs p q).0 e))
told_by p q false e h = refl

pub told_false : (p q : DayInputs) (b : Bool) → (p ≡ q → b ≡ true) → b ≡ false → same_inputs p q ≡ false
told_false p q b h e = told_by p q (same_inputs p q) refl (λ k. false≢true (sym e ∙ h k))

pub told_true : (p q : DayInputs) → p ≡ q → same_inputs p q ≡ true
told_true p q e = (Decides-same_inputs p q).1 e

other_edit : (edit awaits : ℕ) (same b : Bool) → (edit == awaits) ≡ b → (Some edit ≡ Some awaits → same ≡ true)
    → (cond b (cond same Published Foreign) (Superseded edit) ≡ Published ↔ Some edit ≡ Some awaits) × (cond b (cond same Published Foreign) (Superseded edit) ≢ Foreign)
other_edit edit awaits true true e h = ((λ _. ap (λ n. Some n) ((Decides-eqb edit awaits).0 e), λ _. refl), λ k. (cc))
other_edit edit awaits false true e h = absurd (false≢true (h (ap (λ n. Some n) ((Decides-eqb edit awaits).0 e))))
other_edit edit awaits same false e h = ((λ k. (cc), λ k. absurd (false≢true (sym e ∙ (Decides-eqb edit awaits).1 (same_Some edit awaits k)))), λ k. (cc))

-- where the inputs are the same as long as the job's edit is awaited
pub outcome_where_awaited : (o : Option ℕ) (awaits : ℕ) (same : Bool) → (o ≡ Some awaits → same ≡ true)
    → (outcome_by o awaits same ≡ Published ↔ o ≡ Some awaits) × (outcome_by o awaits same ≢ Foreign)
outcome_where_awaited None awaits same h = ((λ k. (cc), λ k. (cc)), λ k. (cc))
outcome_where_awaited (Some edit) awaits same h = other_edit edit awaits same (edit == awaits) refl h

-- a job whose inputs are those in force as long as its day awaits its edit
pub published_where_awaited : (cells : List KeptDays) (stations : List StationState) (job : DayJob)
    → (awaited_in cells job.site job.day ≡ Some job.awaits → job.inputs ≡ inputs_of_day stations job.site job.day)
    → (outcome_of cells stations job ≡ Published ↔ awaited_in cells job.site job.day ≡ Some job.awaits) × (outcome_of cells stations job ≢ Foreign)
published_where_awaited cells stations job h =
    outcome_where_awaited (awaited_in cells job.site job.day) job.awaits (same_inputs job.inputs (inputs_of_day stations job.site job.day))
    (λ e. told_true job.inputs (inputs_of_day stations job.site job.day) (h e))
