-- A write as a disk in memory keeps it.
use Rattle.std.specs.Prelude.{ℕ, List}

-- a write of so many bytes from an offset on, and the bytes that it left there
pub record Written : Type 0 where
  pub at : ℕ
  pub count : ℕ
  pub left : List ℕ
