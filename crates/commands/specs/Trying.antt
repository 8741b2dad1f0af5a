-- What a run of `trial` comes to.
use Rattle.std.specs.Prelude.{◌≡◌, ℕ, List, Option, true, false}
use Rattle.devices.specs.Faults.{Rose}
use Rattle.devices.specs.Sinks.{AreWritten}
use Rattle.trial.specs.Figures.{IsTrialText}
use Rattle.commands.specs.Worlds.{DoorsStay, Told, World}
use Rattle.commands.specs.declared.endings.Ending.{Ending}
use Rattle.commands.specs.declared.endings.Ending.TheVariants as endings
use Rattle.commands.specs.declared.trying.TrialEnd.{TrialEnd}
use Rattle.commands.specs.declared.trying.TrialEnd.TheVariants.{Done, OutputFault, NoMemory}

-- what the end of a trial comes to
abbrev pub trial_ending : TrialEnd → Ending
trial_ending Done = endings.Done
trial_ending OutputFault = endings.OutputFault
trial_ending NoMemory = endings.NoMemory

-- The text of the trial of this number was written; or the sink failed, which has a front of it then; or there was no memory for the
-- trial, and nothing was written.
abbrev pub IsTried : ℕ → TrialEnd → Option (List ℕ) → Option (List ℕ) → Type 0
IsTried number Done before after = (text : List ℕ) × IsTrialText number text × AreWritten before text after true
IsTried number OutputFault before after = (text : List ℕ) × IsTrialText number text × AreWritten before text after false
IsTried number NoMemory before after = after ≡ before

-- A run of `trial`. No object but the output is touched, and where there was no memory that neither.
pub record Tries {S K E C L P D : Type 0} (tell : World S K E C L P → Told D) (number : ℕ) (end : TrialEnd)
    (before after : World S K E C L P) : Type 0 where
  pub tried : IsTried number end (tell before).output.bytes (tell after).output.bytes
  pub cause : end ≡ OutputFault → Rose (tell before).output.faults (tell after).output.faults
  pub unwritten : end ≡ NoMemory → after.output ≡ before.output
  pub input : after.input ≡ before.input
  pub cabinet : after.cabinet ≡ before.cabinet
  pub doors : DoorsStay before after
