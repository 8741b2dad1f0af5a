-- An office, as contracts see it.
use Rattle.register.specs.Registered.{Registered}

-- what is kept in memory, the history with it, and the disk of the journal
pub record Officed (D : Type 0) : Type 0 where
  pub register : Registered
  pub disk : D
