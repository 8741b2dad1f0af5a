-- What a run counts by what its office tells of an edit.
use Rattle.std.specs.Prelude.{ℕ, Option, Some, None, Result, Ok, Err}
use Rattle.office.specs.declared.offices.Accepted.{Accepted}
use Rattle.office_inputs.specs.declared.refusals.Refusal.{Refusal}
use Rattle.office_inputs.specs.declared.refusals.Refusal.TheVariants.{NoMemory, JournalFault}
use Rattle.trial.specs.Refusals.{locks}

-- locked edits by a refusal; where there was no memory or the journal failed, the office said nothing that counts
abbrev pub locks_refused : Refusal → Option ℕ
locks_refused NoMemory = None
locks_refused (JournalFault in_doubt) = None
locks_refused refusal = Some (locks refusal)

abbrev pub locks_told : Result Accepted Refusal → Option ℕ
locks_told (Ok told) = Some 0
locks_told (Err refusal) = locks_refused refusal
