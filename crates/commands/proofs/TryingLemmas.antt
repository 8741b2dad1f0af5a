-- What the end of a run of `trial` says of its status.
use Rattle.std.proofs.Common.{◌≡◌, ℕ, refl, inl, inr}
use Rattle.std.specs.Prelude.{⊤}
use Rattle.devices.specs.Faults.{Rose}
use Rattle.commands.proofs.Lawful.{HasCause, IsEarly, IsLawful, innocent, not_early}
use Rattle.commands.specs.Ready.{IsDone}
use Rattle.commands.specs.Statuses.{status_of}
use Rattle.commands.specs.Trying.{Tries, trial_ending}
use Rattle.commands.specs.Worlds.{Told, World}
use Rattle.commands.specs.declared.trying.TrialEnd.{TrialEnd}
use Rattle.commands.specs.declared.trying.TrialEnd.TheVariants.{Done, OutputFault, NoMemory}

trial_cause : {D : Type 0} (end : TrialEnd) (before after : Told D)
    → (end ≡ OutputFault → Rose before.output.faults after.output.faults) → HasCause (status_of (trial_ending end)) before after
trial_cause Done before after cause = innocent 0 before after refl
trial_cause OutputFault before after cause = record {
  asked = λ is. cc is;
  input = λ is. absurd (cc is);
  output = λ is. cause refl;
  cabinet = λ is. absurd (cc is);
  doors = λ is. absurd (cc is);
}
trial_cause NoMemory before after cause = innocent 6 before after refl

trial_early : (end : TrialEnd) → IsEarly (status_of (trial_ending end)) → ⊥
trial_early Done is = not_early 0 refl is
trial_early OutputFault is = not_early 3 refl is
trial_early NoMemory is = not_early 6 refl is

trial_memory : (end : TrialEnd) → status_of (trial_ending end) ≡ 6 → end ≡ NoMemory
trial_memory Done is = absurd (cc is)
trial_memory OutputFault is = absurd (cc is)
trial_memory NoMemory is = refl

trial_completes : {D : Type 0} (end : TrialEnd) (before after : Told D)
    → (end ≡ OutputFault → Rose before.output.faults after.output.faults)
    → ¬ (Rose before.output.faults after.output.faults) → IsDone (status_of (trial_ending end))
trial_completes Done before after cause well = inl refl
trial_completes OutputFault before after cause well = absurd (well (cause refl))
trial_completes NoMemory before after cause well = inr refl

module _ {S K E C L P D : Type 0} (tell : World S K E C L P → Told D) (number : ℕ) where
  pub trial_lawful : IsLawful tell trial_ending (λ found. ⊤) (λ before after. ¬ (Rose before.output.faults after.output.faults))
      (λ end before after. Tries tell number end before after)
  trial_lawful = record {
    cause = λ end before after did. trial_cause end (tell before) (tell after) did.cause;
    early = λ end before after did is. absurd (trial_early end is);
    unwritten = λ end before after did is. did.unwritten (trial_memory end is);
    complete = λ end before after did ready well. trial_completes end (tell before) (tell after) did.cause well;
  }
