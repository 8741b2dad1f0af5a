-- What becomes of work that is to be started in a thread of its own.
use Rattle.std.specs.Prelude.{◌≡◌, ℕ, Bool, true, false}
use Rattle.devices.specs.declared.spawners.Started.{Started}
use Rattle.devices.specs.declared.spawners.Started.TheVariants.{Running, Back}
use Rattle.devices.specs.Faults.{Rose}

-- the count of faults rises where no thread may start, and stays where one may
abbrev pub HasCause : ℕ → ℕ → Bool → Type 0
HasCause before now true = now ≡ before
HasCause before now false = Rose before now

-- The work runs under this promise, and no fault was counted; or it was handed back as it was, and one was.
abbrev pub IsStarted : {O P F : Type 0} → P → F → ℕ → ℕ → Started O P F → Type 0
IsStarted promise work before now (Running task) = (task.running.promise ≡ promise) × (now ≡ before)
IsStarted promise work before now (Back handed) = (handed ≡ work) × Rose before now
