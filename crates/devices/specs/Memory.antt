-- What the objects in memory tell.
use Rattle.std.specs.Prelude.{◌≡◌, ℕ, List}
use Rattle.devices.specs.declared.sources.Took.{Took}
use Rattle.devices.specs.declared.sources.Took.TheVariants.{Bytes as TookBytes, End, Failed as TookFailed}
use Rattle.devices.specs.declared.sinks.Put.{Put}
use Rattle.devices.specs.declared.sinks.Put.TheVariants.{Bytes as PutBytes, Failed as PutFailed}
use Rattle.devices.specs.Failures.{Counts, Fails, with_call, with_fault}

-- a source: the bytes that are left, and how often it was found at its end
pub record Supply : Type 0 where
  pub left : List ℕ
  pub ends : ℕ
  pub counts : Counts

-- a sink: the bytes that were put
pub record Store : Type 0 where
  pub written : List ℕ
  pub counts : Counts

-- a source in memory fails exactly where it was told to, and that is its only fault
abbrev pub TakesOnCommand : Counts → Took → Counts → Type 0
TakesOnCommand before (TookBytes n) after = (¬ Fails before) × (after ≡ with_call before)
TakesOnCommand before End after = (¬ Fails before) × (after ≡ with_call before)
TakesOnCommand before TookFailed after = Fails before × (after ≡ with_fault (with_call before))

-- a sink in memory fails where it was told to; want of memory may fail it too
abbrev pub PutsOnCommand : Counts → Put → Counts → Type 0
PutsOnCommand before (PutBytes n) after = (¬ Fails before) × (after ≡ with_call before)
PutsOnCommand before PutFailed after = after ≡ with_fault (with_call before)
