-- What a contract sees of a period: when it begins, when it ends if at all, and the number of its rating.
use Rattle.std.specs.Prelude.{ℕ, Option, IfSome, ℤ, ◌<ℤ◌}

pub record Span : Type 0 where
  pub from : ℤ
  pub until : Option ℤ
  pub rating : ℕ

-- when a period begins
abbrev pub begin : Span → ℤ
begin p = p.from

-- a period ends after it begins, if it ends
abbrev pub EndsLater : Span → Type 0
EndsLater p = IfSome p.until (λ until. begin p <ℤ until)
