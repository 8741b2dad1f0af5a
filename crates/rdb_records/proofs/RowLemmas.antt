-- What is known of a row, put together.
use Rattle.std.specs.Prelude.{◌≡◌, ℕ, ℤ, Bool, true, Option, Some, Result}
use Rattle.std.specs.Option.{ok_or}
use Rattle.std.proofs.Common.{refl, sym}
use Rattle.rdb_records.specs.declared.faults.UnitFault.{UnitFault}
use Rattle.rdb_records.specs.declared.faults.UnitFault.TheVariants.{Instant}
use Rattle.rdb_records.specs.Rows.{instant_from}
use Rattle.rdb_records.specs.Times.{stamp_by}

-- the instant of a row of the site, of whose hours and local time the stamp was made
pub instant_is : (line : ℕ) (is : Bool) (known local : Option ℤ) (hours : ℤ) (at : Option ℤ) (told : Result ℤ UnitFault) → is ≡ true → Some hours ≡ known
    → at ≡ stamp_by hours local → told ≡ ok_or at (Instant line) → told ≡ instant_from line is known local
instant_is line is known local hours at told e f g h = rw (h, e, sym f, g) refl
