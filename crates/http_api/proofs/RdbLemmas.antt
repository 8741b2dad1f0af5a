-- A denial of an RDB text is its fault, or want of memory where it has none.
use Rattle.std.proofs.Common.{◌≡◌, ◌≢◌, List, unwrap_or, Result, Ok, Err, IsOk, ℕ, refl, sym, ap}
use Rattle.std.specs.Result.{result_err}
use Rattle.rating_tables.proofs.RdbFaultLemmas.{never_memory}
use Rattle.rating_tables.specs.Rdb.{rdb_of}
use Rattle.rating_tables.specs.Table.{Row}
use Rattle.rating_tables.specs.declared.rdb.RdbFault.{RdbFault}
use Rattle.rating_tables.specs.declared.rdb.RdbFault.TheVariants.{NoMemory}

pub memory_told : (text : List ℕ) → NoMemory ≡ unwrap_or (result_err (rdb_of text)) NoMemory → IsOk (rdb_of text)
memory_told text e = by (rdb_of text) (never_memory text) e
  where
    by : (read : Result (List Row) RdbFault) → read ≢ Err NoMemory → NoMemory ≡ unwrap_or (result_err read) NoMemory → IsOk read
    by (Ok rows) other e = refl
    by (Err fault) other e = absurd (other (ap Err (sym e)))
