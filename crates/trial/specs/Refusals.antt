-- Which refusals a trial counts.
use Rattle.std.specs.Prelude.{ℕ}
use Rattle.office_inputs.specs.declared.refusals.Refusal.{Refusal}
use Rattle.office_inputs.specs.declared.refusals.Refusal.TheVariants.{Locked}

-- an edit that would change an approved day is counted once
abbrev pub locks : Refusal → ℕ
locks (Locked day) = 1
locks _ = 0
