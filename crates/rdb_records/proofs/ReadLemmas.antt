-- Rows that are read line by line: what was read stands in front of what is left.
use Rattle.std.specs.Prelude.{◌≡◌, ◌≤◌, ⊤, Bool, true, false, List, [], ◌∷◌, ◌++◌, ℕ, ◌+◌, ℤ, int_lt, Option, None, Some, Result, Ok, Err, IfOk, IfErr, All, ◌⊎◌, if◌then◌else◌}
use Rattle.std.specs.Option.{ok_or}
use Rattle.std.proofs.Common.{arith, refl, ap, sym, ◌∙◌, subst, inl, inr}
use Rattle.std.proofs.lemmas.List.{append-nil, append_assoc}
use Rattle.csv.specs.Records.{field_at}
use Rattle.fixed_units.specs.Quantities.{SiteNumber, is_stage}
use Rattle.fixed_units.specs.declared.readings.Reading.{Reading}
use Rattle.csv.specs.Reading.{strip_bom}
use Rattle.site_texts.specs.SiteText.{site_text}
use Rattle.rating_tables.specs.Lines.{kept_lines}
use Rattle.rating_tables.specs.Rdb.{fields, is_field}
use Rattle.rdb_records.specs.declared.faults.UnitFault.{UnitFault}
use Rattle.rdb_records.specs.declared.faults.UnitFault.TheVariants.{NoNames, NoColumn, Site, Zone, Instant, Order, Range, NoMemory}
use Rattle.rdb_records.specs.declared.rows.Columns.{Columns}
use Rattle.rdb_records.specs.declared.rows.UnitRow.{UnitRow}
use Rattle.rdb_records.specs.declared.units.UnitList.{UnitList}
use Rattle.rdb_records.specs.Rows.{after_row, columns_of, instant_from, number_in, row_of, time_in, with_number, zone_in}
use Rattle.rdb_records.specs.Times.{stamp_by}
use Rattle.readings.specs.Readings.{IsRising}
use Rattle.rdb_records.proofs.RiseLemmas.{are_behind}
use Rattle.rdb_records.specs.Units.{IsUnitReading, AreRead, AreRows, HasFaultyRow, HasColumns, HasFirstFault, HasLines, IsRefused, IsStated, LacksColumn, last_instant, readings_of, skipped_of, with_reading, with_skipped}

-- one line more, and its row
rows_more : (site : List ℕ) (c : Columns) (before : Option ℤ) (front : List (ℕ × List ℕ)) (rows : List UnitRow) (line : ℕ × List ℕ) (row : UnitRow)
    → AreRows site c before front rows → row_of site c (last_instant before rows) line ≡ Ok row → AreRows site c before (front ++ line ∷ []) (rows ++ row ∷ [])
rows_more site c before [] [] line row h e = (e, tt)
rows_more site c before [] (r ∷ rows) line row h e = absurd h
rows_more site c before (l ∷ front) [] line row h e = absurd h
rows_more site c before (l ∷ front) (r ∷ rows) line row h e = (h.0, rows_more site c (Some r.at) front rows line row h.1 e)

last_more : (before : Option ℤ) (rows : List UnitRow) (row : UnitRow) → Some row.at ≡ last_instant before (rows ++ row ∷ [])
last_more before [] row = refl
last_more before (r ∷ rows) row = last_more (Some r.at) rows row

reading_behind : (at : ℤ) (stage : Option ℤ) (xs ys : List Reading) → with_reading at stage (xs ++ ys) ≡ with_reading at stage xs ++ ys
reading_behind at None xs ys = refl
reading_behind at (Some s) xs ys = refl

readings_more : (rows : List UnitRow) (row : UnitRow) → readings_of (rows ++ row ∷ []) ≡ readings_of rows ++ with_reading row.at row.stage []
readings_more [] row = refl
readings_more (r ∷ rows) row = ap (with_reading r.at r.stage) (readings_more rows row) ∙ reading_behind r.at r.stage (readings_of rows) (with_reading row.at row.stage [])

skipped_behind : (stage : Option ℤ) (m n : ℕ) → with_skipped stage (m + n) ≡ with_skipped stage m + n
skipped_behind None m n = omega arith
skipped_behind (Some s) m n = refl

skipped_more : (rows : List UnitRow) (row : UnitRow) → skipped_of (rows ++ row ∷ []) ≡ skipped_of rows + with_skipped row.stage 0
skipped_more [] row = omega arith
skipped_more (r ∷ rows) row = ap (with_skipped r.stage) (skipped_more rows row) ∙ skipped_behind r.stage (skipped_of rows) (with_skipped row.stage 0)

-- one row is skipped at most once
pub skipped_once : (stage : Option ℤ) → with_skipped stage 0 ≤ 1
skipped_once None = omega arith
skipped_once (Some s) = omega arith

-- readings and skipped rows of lines that stand in front of those that are left
pub record Reads (site : List ℕ) (c : Columns) (all : List (ℕ × List ℕ)) (kept : List Reading) (skipped : ℕ) (before : Option ℤ) (left : List (ℕ × List ℕ)) : Type 0 where
  pub front : List (ℕ × List ℕ)
  pub rows : List UnitRow
  pub whole : all ≡ front ++ left
  pub each : AreRows site c None front rows
  pub readings : kept ≡ readings_of rows
  pub counted : skipped ≡ skipped_of rows
  pub behind : before ≡ last_instant None rows

pub reads_start : (site : List ℕ) (c : Columns) (all : List (ℕ × List ℕ)) (kept : List Reading) → kept ≡ [] → Reads site c all kept 0 None all
reads_start site c all kept e = record { front = []; rows = []; whole = refl; each = tt; readings = e; counted = refl; behind = refl }

pub reads_next : (site : List ℕ) (c : Columns) (all : List (ℕ × List ℕ)) (kept : List Reading) (skipped : ℕ) (before : Option ℤ) (left : List (ℕ × List ℕ)) (line : ℕ × List ℕ) (behind : List (ℕ × List ℕ)) (row : UnitRow) (more : List Reading) (count : ℕ)
    → Reads site c all kept skipped before left → left ≡ line ∷ behind → row_of site c before line ≡ Ok row → more ≡ kept ++ with_reading row.at row.stage []
    → count ≡ skipped + with_skipped row.stage 0 → Reads site c all more count (Some row.at) behind
reads_next site c all kept skipped before left line behind row more count h e f g k =
    record {
      front = h.front ++ line ∷ [];
      rows = h.rows ++ row ∷ [];
      whole = h.whole ∙ ap (λ l. h.front ++ l) e ∙ sym (append_assoc h.front (line ∷ []) behind);
      each = rows_more site c None h.front h.rows line row h.each (ap (λ b. row_of site c b line) (sym h.behind) ∙ f);
      readings = g ∙ ap (λ l. l ++ with_reading row.at row.stage []) h.readings ∙ sym (readings_more h.rows row);
      counted = k ∙ ap (λ n. n + with_skipped row.stage 0) h.counted ∙ sym (skipped_more h.rows row);
      behind = last_more None h.rows row;
    }

pub reads_fault : (site : List ℕ) (c : Columns) (all : List (ℕ × List ℕ)) (kept : List Reading) (skipped : ℕ) (before : Option ℤ) (left : List (ℕ × List ℕ)) (line : ℕ × List ℕ) (behind : List (ℕ × List ℕ)) (fault : UnitFault)
    → Reads site c all kept skipped before left → left ≡ line ∷ behind → row_of site c before line ≡ Err fault → HasFirstFault site c all fault
reads_fault site c all kept skipped before left line behind fault h e f =
    record {
      front = h.front;
      line = line;
      behind = behind;
      rows = h.rows;
      whole = h.whole ∙ ap (λ l. h.front ++ l) e;
      each = h.each;
      told = ap (λ b. row_of site c b line) (sym h.behind) ∙ f;
    }

pub reads_end : (site : List ℕ) (c : Columns) (all : List (ℕ × List ℕ)) (kept : List Reading) (skipped : ℕ) (before : Option ℤ) (left : List (ℕ × List ℕ)) (list : UnitList)
    → Reads site c all kept skipped before left → left ≡ [] → list.readings ≡ kept → list.skipped ≡ skipped → AreRead site c all list
reads_end site c all kept skipped before left list h e f g =
    let whole : all ≡ h.front = h.whole ∙ ap (λ l. h.front ++ l) e ∙ append-nil h.front in
    record {
      rows = h.rows;
      each = subst (λ l. AreRows site c None l h.rows) (sym whole) h.each;
      readings = f ∙ h.readings;
      skipped = g ∙ h.counted;
    }

-- the fault of a row is none of the names and not want of memory
abbrev IsOfRow : UnitFault → Type 0
IsOfRow NoNames = ⊥
IsOfRow (NoColumn line) = ⊥
IsOfRow (Site line) = ⊤
IsOfRow (Zone line) = ⊤
IsOfRow (Instant line) = ⊤
IsOfRow (Order line) = ⊤
IsOfRow (Range line) = ⊤
IsOfRow NoMemory = ⊥

abbrev Told : {A : Type 0} → Result A UnitFault → Type 0
Told (Ok a) = ⊤
Told (Err fault) = IsOfRow fault

stamp_told : (line : ℕ) (at : Option ℤ) → Told (ok_or at (Instant line))
stamp_told line None = tt
stamp_told line (Some at) = tt

instant_told : (line : ℕ) (is : Bool) (hours local : Option ℤ) → Told (instant_from line is hours local)
instant_told line false hours local = tt
instant_told line true None local = tt
instant_told line true (Some hours) local = stamp_told line (stamp_by hours local)

after_told : (line : ℕ) (before : Option ℤ) (at : Result ℤ UnitFault) → Told at → Told (after_row line before at)
after_told line before (Err fault) told = told
after_told line None (Ok at) told = tt
after_told line (Some b) (Ok at) told = by (int_lt b at)
  where
    by : (d : Bool) → Told {A = ℤ} (if d then Ok at else Err (Order line))
    by true = tt
    by false = tt

number_told : (line : ℕ) (number : Option ℤ) (at : Result ℤ UnitFault) → Told at → Told (with_number line number at)
number_told line number (Err fault) told = told
number_told line None (Ok at) told = tt
number_told line (Some n) (Ok at) told = by (is_stage n)
  where
    by : (d : Bool) → Told {A = UnitRow} (if d then Ok (record { at = at; stage = Some n }) else Err (Range line))
    by true = tt
    by false = tt

row_told : (site : List ℕ) (c : Columns) (before : Option ℤ) (line : ℕ × List ℕ) → Told (row_of site c before line)
row_told site c before line =
    let fs = fields line.1 in
    let at = instant_from line.0 (is_field site (field_at fs c.site)) (zone_in (field_at fs c.zone)) (time_in (field_at fs c.time)) in
    number_told line.0 (number_in (field_at fs c.value)) (after_row line.0 before at)
    (after_told line.0 before at (instant_told line.0 (is_field site (field_at fs c.site)) (zone_in (field_at fs c.zone)) (time_in (field_at fs c.time))))

-- a text with a row that has a fault is refused with it
refused_of_row : (site : SiteNumber) (column text : List ℕ) (fault : UnitFault) → IsOfRow fault → HasFaultyRow site column text fault → IsRefused site column text fault
refused_of_row site column text NoNames of h = absurd of
refused_of_row site column text (NoColumn line) of h = absurd of
refused_of_row site column text (Site line) of h = h
refused_of_row site column text (Zone line) of h = h
refused_of_row site column text (Instant line) of h = h
refused_of_row site column text (Order line) of h = h
refused_of_row site column text (Range line) of h = h
refused_of_row site column text NoMemory of h = absurd of

pub refused : (site : SiteNumber) (column text : List ℕ) (fault : UnitFault) → HasFaultyRow site column text fault → IsRefused site column text fault
refused site column text fault h =
    let f = h.first in
    refused_of_row site column text fault (subst (λ (r : Result UnitRow UnitFault). Told r) f.told (row_told (site_text site) h.columns (last_instant None f.rows) f.line)) h

-- the lines of names and of formats, and those behind them
pub has_lines : (text marked : List ℕ) (names formats : ℕ × List ℕ) (rest lines : List (ℕ × List ℕ)) → marked ≡ strip_bom text → kept_lines 0 marked ≡ names ∷ rest
    → rest ≡ formats ∷ lines → HasLines text names formats lines
has_lines text marked names formats rest lines e f g = ap (kept_lines 0) (sym e) ∙ f ∙ ap (λ l. names ∷ l) g

pub lacks_column : (column text : List ℕ) (names formats : ℕ × List ℕ) (lines : List (ℕ × List ℕ)) → HasLines text names formats lines
    → None ≡ columns_of column (fields names.1) → LacksColumn column text names.0
lacks_column column text names formats lines whole none =
    record { names = names; formats = formats; lines = lines; whole = whole; missing = sym none; told = refl }

pub has_columns : (column text : List ℕ) (names formats : ℕ × List ℕ) (lines : List (ℕ × List ℕ)) (c : Columns) → HasLines text names formats lines
    → Some c ≡ columns_of column (fields names.1) → HasColumns column text c lines
has_columns column text names formats lines c whole found = record { names = names; formats = formats; whole = whole; found = sym found }

if_ok : {A E : Type 0} (P Q : A → Type 0) (r : Result A E) → ((a : A) → P a → Q a) → IfOk r P → IfOk r Q
if_ok P Q (Ok a) f h = f a h
if_ok P Q (Err e) f h = h

if_err : {A E : Type 0} (P Q : E → Type 0) (r : Result A E) → ((e : E) → P e → Q e) → IfErr r P → IfErr r Q
if_err P Q (Ok a) f h = h
if_err P Q (Err e) f h = f e h

-- what was read under the columns is stated
pub stated : (site : SiteNumber) (digits column text : List ℕ) (c : Columns) (lines : List (ℕ × List ℕ)) (r : Result UnitList UnitFault) → digits ≡ site_text site
    → HasColumns column text c lines → IfOk r (AreRead digits c lines) → IfOk r (IsStated site column text)
stated site digits column text c lines r e under h =
    if_ok (AreRead digits c lines) (IsStated site column text) r
    (λ list k. record { columns = c; lines = lines; under = under; read = subst (λ d. AreRead d c lines list) e k }) h

-- a fault under them is that of the text
abbrev MayBe : (UnitFault → Type 0) → UnitFault → Type 0
MayBe P fault = (fault ≡ NoMemory) ⊎ P fault

may_be_refused : (site : SiteNumber) (digits column text : List ℕ) (c : Columns) (lines : List (ℕ × List ℕ)) (fault : UnitFault) → digits ≡ site_text site
    → HasColumns column text c lines → MayBe (HasFirstFault digits c lines) fault → MayBe (IsRefused site column text) fault
may_be_refused site digits column text c lines fault e under (inl none) = inl none
may_be_refused site digits column text c lines fault e under (inr first) =
    inr (refused site column text fault (record { columns = c; lines = lines; under = under; first = subst (λ d. HasFirstFault d c lines fault) e first }))

pub refused_if : (site : SiteNumber) (digits column text : List ℕ) (c : Columns) (lines : List (ℕ × List ℕ)) (r : Result UnitList UnitFault) → digits ≡ site_text site
    → HasColumns column text c lines → IfErr r (MayBe (HasFirstFault digits c lines)) → IfErr r (MayBe (IsRefused site column text))
refused_if site digits column text c lines r e under h =
    if_err (MayBe (HasFirstFault digits c lines)) (MayBe (IsRefused site column text)) r (λ fault k. may_be_refused site digits column text c lines fault e under k) h

-- the readings of what was read
pub read_rising : (digits : List ℕ) (c : Columns) (lines : List (ℕ × List ℕ)) (r : Result UnitList UnitFault) → IfOk r (AreRead digits c lines) → IfOk r (λ list. IsRising list.readings)
read_rising digits c lines r h =
    if_ok (AreRead digits c lines) (λ list. IsRising list.readings) r (λ list k. subst IsRising (sym k.readings) (are_behind digits c None lines k.rows k.each).rising) h

pub read_each : (digits : List ℕ) (c : Columns) (lines : List (ℕ × List ℕ)) (r : Result UnitList UnitFault) → IfOk r (AreRead digits c lines) → IfOk r (λ list. All IsUnitReading list.readings)
read_each digits c lines r h =
    if_ok (AreRead digits c lines) (λ list. All IsUnitReading list.readings) r (λ list k. subst (All IsUnitReading) (sym k.readings) (are_behind digits c None lines k.rows k.each).each) h
