-- Calls that are to fail, counted from 1, and the counts of calls and faults.
use Rattle.std.specs.Prelude.{ℕ, ◌+◌, ◌-◌, ◌^◌, min, List, Contains}

-- which calls are to fail, and how many calls and faults there were
pub record Counts : Type 0 where
  pub failing : List ℕ
  pub calls : ℕ
  pub faults : ℕ

-- one more, in a count that stands still at the end of a `u64`
abbrev pub one_more : ℕ → ℕ
one_more count = min (count + 1) (2 ^ 64 - 1)

abbrev pub untouched : List ℕ → Counts
untouched failing = record { failing = failing; calls = 0; faults = 0 }

abbrev pub with_call : Counts → Counts
with_call counts = record counts { calls = one_more counts.calls }

abbrev pub with_fault : Counts → Counts
with_fault counts = record counts { faults = one_more counts.faults }

abbrev pub without_faults : Counts → Counts
without_faults counts = record counts { faults = 0 }

-- the next call is on the list of those that are to fail
abbrev pub Fails : Counts → Type 0
Fails counts = Contains counts.failing (one_more counts.calls)
