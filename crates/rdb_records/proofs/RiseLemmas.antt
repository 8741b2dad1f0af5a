-- The readings of rows rise by instant, and each is a stage at a stamp.
use Rattle.std.specs.Prelude.{◌≡◌, ⊤, Bool, true, false, cond, List, [], ◌∷◌, ℕ, ℤ, ◌<ℤ◌, ◌-ℤ◌, ◌*ℤ◌, pos, int_lt, int_le, Option, None, Some, Result, Ok, Err, MatchOption, All}
use Rattle.std.specs.Option.{ok_or}
use Rattle.std.proofs.Common.{arith, refl, ap, sym, ◌∙◌, subst}
use Rattle.std.proofs.lemmas.Bool.{and_parts}
use Rattle.std.proofs.lemmas.Int.{ints}
use Rattle.std.proofs.lemmas.List.Elements.{All-cons, All-nil, All-weaker}
use Rattle.std.proofs.lemmas.List.Kept.{AllPairs-cons}
use Rattle.csv.specs.Records.{field_at}
use Rattle.fixed_units.specs.Quantities.{IsStage, IsStamp, IsWithin, is_stage, is_stamp, is_within}
use Rattle.fixed_units.specs.declared.readings.Reading.{Reading}
use Rattle.rising.proofs.Parting.{yes_le, yes_lt}
use Rattle.readings.specs.Readings.{IsRising}
use Rattle.rating_tables.specs.Rdb.{fields, is_field}
use Rattle.rdb_records.specs.declared.faults.UnitFault.{UnitFault}
use Rattle.rdb_records.specs.declared.faults.UnitFault.TheVariants.{Instant, Order, Range}
use Rattle.rdb_records.specs.declared.rows.Columns.{Columns}
use Rattle.rdb_records.specs.declared.rows.UnitRow.{UnitRow}
use Rattle.rdb_records.specs.Rows.{after_row, instant_from, number_in, row_of, time_in, with_number, zone_in}
use Rattle.rdb_records.specs.Times.{stamp_by}
use Rattle.rdb_records.specs.Units.{AreRows, IsUnitReading, readings_of, with_reading}

within : (least greatest n : ℤ) → is_within least greatest n ≡ true → IsWithin least greatest n
within least greatest n e =
    let parts = and_parts (int_le least n) (int_le n greatest) e in
    record { low = yes_le least n parts.0; high = yes_le n greatest parts.1 }

-- what is known of each part of a row
only_kind : (kind : ℤ → Bool) (n at : ℤ) (b : Bool) → kind n ≡ b → cond b (Some n) None ≡ Some at → kind at ≡ true
only_kind kind n at true is e = let same : n ≡ at = cc in ap kind (sym same) ∙ is
only_kind kind n at false is e = absurd (cc)

stamp_of : (hours : ℤ) (local : Option ℤ) (at : ℤ) → stamp_by hours local ≡ Some at → IsStamp at
stamp_of hours None at e = absurd (cc)
stamp_of hours (Some l) at e = within _ _ at (only_kind is_stamp (l -ℤ hours *ℤ pos 3600) at (is_stamp (l -ℤ hours *ℤ pos 3600)) refl e)

ok_some : (line : ℕ) (o : Option ℤ) (at : ℤ) → ok_or o (Instant line) ≡ Ok at → o ≡ Some at
ok_some line None at e = absurd (cc)
ok_some line (Some n) at e = let same : n ≡ at = cc in ap (λ (m : ℤ). Some m) same

instant_is_stamp : (line : ℕ) (is : Bool) (hours local : Option ℤ) (at : ℤ) → instant_from line is hours local ≡ Ok at → IsStamp at
instant_is_stamp line false hours local at e = absurd (cc)
instant_is_stamp line true None local at e = absurd (cc)
instant_is_stamp line true (Some hours) local at e = stamp_of hours local at (ok_some line (stamp_by hours local) at e)

abbrev IsAfter : Option ℤ → ℤ → Type 0
IsAfter None at = ⊤
IsAfter (Some before) at = before <ℤ at

after_test : (line : ℕ) (b n at : ℤ) (d : Bool) → int_lt b n ≡ d → cond {A = Result ℤ UnitFault} d (Ok n) (Err (Order line)) ≡ Ok at → (n ≡ at) × (b <ℤ at)
after_test line b n at true is e = let same : n ≡ at = cc in (same, subst (λ m. b <ℤ m) same (yes_lt b n is))
after_test line b n at false is e = absurd (cc)

after_is : (line : ℕ) (before : Option ℤ) (r : Result ℤ UnitFault) (at : ℤ) → after_row line before r ≡ Ok at → (r ≡ Ok at) × IsAfter before at
after_is line before (Err f) at e = absurd (cc)
after_is line None (Ok n) at e = (e, tt)
after_is line (Some b) (Ok n) at e =
    let told = after_test line b n at (int_lt b n) refl e in
    (ap (λ (m : ℤ). Ok m) told.0, told.1)

-- a row is at a stamp, after the row before, and its value is a stage
record IsRowBehind (before : Option ℤ) (row : UnitRow) : Type 0 where
  stamp : IsStamp row.at
  after : IsAfter before row.at
  stage : MatchOption row.stage ⊤ IsStage

number_test : (line : ℕ) (at n : ℤ) (row : UnitRow) (d : Bool) → is_stage n ≡ d
    → cond {A = Result UnitRow UnitFault} d (Ok (record { at = at; stage = Some n })) (Err (Range line)) ≡ Ok row → (row ≡ record { at = at; stage = Some n }) × IsStage n
number_test line at n row true is e = (cc, within _ _ n is)
number_test line at n row false is e = absurd (cc)

number_is : (line : ℕ) (number : Option ℤ) (r : Result ℤ UnitFault) (row : UnitRow) → with_number line number r ≡ Ok row → (r ≡ Ok row.at) × MatchOption row.stage ⊤ IsStage
number_is line number (Err f) row e = absurd (cc)
number_is line None (Ok at) row e =
    let same : ◌≡◌ {A = UnitRow} (record { at = at; stage = None }) row = cc in
    subst (λ (r : UnitRow). (◌≡◌ {A = Result ℤ UnitFault} (Ok at) (Ok r.at)) × MatchOption r.stage ⊤ IsStage) same (refl, tt)
number_is line (Some n) (Ok at) row e =
    let told = number_test line at n row (is_stage n) refl e in
    subst (λ (r : UnitRow). (◌≡◌ {A = Result ℤ UnitFault} (Ok at) (Ok r.at)) × MatchOption r.stage ⊤ IsStage) (sym told.0) (refl, told.1)

row_is : (site : List ℕ) (c : Columns) (before : Option ℤ) (line : ℕ × List ℕ) (row : UnitRow) → row_of site c before line ≡ Ok row → IsRowBehind before row
row_is site c before line row e =
    let fs = fields line.1 in
    let is = is_field site (field_at fs c.site) in
    let hours = zone_in (field_at fs c.zone) in
    let local = time_in (field_at fs c.time) in
    let number = number_is line.0 (number_in (field_at fs c.value)) (after_row line.0 before (instant_from line.0 is hours local)) row e in
    let after = after_is line.0 before (instant_from line.0 is hours local) row.at number.0 in
    record { stamp = instant_is_stamp line.0 is hours local row.at after.0; after = after.1; stage = number.1 }

-- readings that rise behind an instant, each a stage at a stamp
pub record AreBehind (before : Option ℤ) (readings : List Reading) : Type 0 where
  pub after : All (λ r. IsAfter before r.at) readings
  pub rising : IsRising readings
  pub each : All IsUnitReading readings

later : (before : Option ℤ) (at n : ℤ) → IsAfter before at → at <ℤ n → IsAfter before n
later None at n h k = tt
later (Some b) at n h k = omega (arith, ints)

behind_more : (before : Option ℤ) (at : ℤ) (stage : Option ℤ) (readings : List Reading) → IsStamp at → IsAfter before at → MatchOption stage ⊤ IsStage
    → AreBehind (Some at) readings → AreBehind before (with_reading at stage readings)
behind_more before at None readings stamp after is h =
    record { after = All-weaker (λ r. at <ℤ r.at) (λ r. IsAfter before r.at) (λ r k. later before at r.at after k) readings h.after; rising = h.rising; each = h.each }
behind_more before at (Some s) readings stamp after is h =
    record {
      after = All-cons (λ r. IsAfter before r.at) _ readings after (All-weaker (λ r. at <ℤ r.at) (λ r. IsAfter before r.at) (λ r k. later before at r.at after k) readings h.after);
      rising = AllPairs-cons (λ r s. r.at <ℤ s.at) _ readings h.after h.rising;
      each = All-cons IsUnitReading _ readings (record { stamp = stamp; stage = is; flag = refl }) h.each;
    }

pub are_behind : (site : List ℕ) (c : Columns) (before : Option ℤ) (lines : List (ℕ × List ℕ)) (rows : List UnitRow) → AreRows site c before lines rows → AreBehind before (readings_of rows)
are_behind site c before [] [] h = record { after = All-nil (λ r. IsAfter before r.at); rising = λ i j d l m. absurd (omega arith); each = All-nil IsUnitReading }
are_behind site c before [] (row ∷ rows) h = absurd h
are_behind site c before (line ∷ lines) [] h = absurd h
are_behind site c before (line ∷ lines) (row ∷ rows) h =
    let is = row_is site c before line row h.0 in
    behind_more before row.at row.stage (readings_of rows) is.stamp is.after is.stage (are_behind site c (Some row.at) lines rows h.1)
