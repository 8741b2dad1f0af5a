-- Whether a reading is put behind another one.
use Rattle.std.specs.Prelude.{◌≡◌, ◌↔◌, Bool, true, ◌&&◌, ℤ, ◌<ℤ◌, int_lt, int_le}
use Rattle.std.proofs.Common.{refl}
use Rattle.std.proofs.lemmas.Bool.{and_parts}
use Rattle.rising.proofs.Parting.{lt_yes, le_yes, yes_lt, yes_le}
use Rattle.fixed_units.specs.Quantities.{IsWithin, is_within, is_stage, is_stamp}
use Rattle.fixed_units.specs.declared.readings.Reading.{Reading}
use Rattle.edits.specs.Lawful.{IsPutReading}

-- a reading that is put follows one of an earlier instant
abbrev pub follows : Reading → Reading → Bool
follows reading next = int_lt reading.at next.at && (is_stamp next.at && is_stage next.raw)

within : (least greatest n : ℤ) → is_within least greatest n ≡ true → IsWithin least greatest n
within least greatest n e =
    let parts = and_parts (int_le least n) (int_le n greatest) e in
    record { low = yes_le least n parts.0; high = yes_le n greatest parts.1 }

is_in : (least greatest n : ℤ) → IsWithin least greatest n → is_within least greatest n ≡ true
is_in least greatest n h = rw (le_yes least n h.low, le_yes n greatest h.high) refl

pub follows_told : (reading next : Reading) → follows reading next ≡ true ↔ (reading.at <ℤ next.at) × IsPutReading next
follows_told reading next = (
  λ e.
      let parts = and_parts (int_lt reading.at next.at) (is_stamp next.at && is_stage next.raw) e in
      let put = and_parts (is_stamp next.at) (is_stage next.raw) parts.1 in
      (yes_lt reading.at next.at parts.0, record { stamp = within _ _ next.at put.0; stage = within _ _ next.raw put.1 }),
  λ fact.
      let later = lt_yes reading.at next.at fact.0 in
      let stamp : is_stamp next.at ≡ true = is_in _ _ next.at fact.1.stamp in
      let stage : is_stage next.raw ≡ true = is_in _ _ next.raw fact.1.stage in
      rw (later, stamp, stage) refl,
)
