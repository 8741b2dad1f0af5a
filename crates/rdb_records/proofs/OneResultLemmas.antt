-- A text states one result at most: its columns and its rows are told by it, and so is its first fault.
use Rattle.std.specs.Prelude.{◌≡◌, ◌⊎◌, ℕ, List, [], ◌∷◌, ◌++◌, length, ℤ, Option, None, Some, Result, Ok, Err}
use Rattle.std.proofs.Common.{arith, refl, ap, sym, ◌∙◌, subst, inl, inr}
use Rattle.csv.specs.Reading.{strip_bom}
use Rattle.fixed_units.specs.Quantities.{SiteNumber}
use Rattle.site_texts.specs.SiteText.{site_text}
use Rattle.rating_tables.specs.Lines.{kept_lines}
use Rattle.rating_tables.specs.Rdb.{fields}
use Rattle.rdb_records.specs.declared.faults.UnitFault.{UnitFault}
use Rattle.rdb_records.specs.declared.faults.UnitFault.TheVariants.{NoNames, NoColumn, Site, Zone, Instant, Order, Range, NoMemory}
use Rattle.rdb_records.specs.declared.rows.Columns.{Columns}
use Rattle.rdb_records.specs.declared.rows.UnitRow.{UnitRow}
use Rattle.rdb_records.specs.declared.units.UnitList.{UnitList}
use Rattle.rdb_records.specs.OneResult.{HasOneFault, IsNotBoth, StatesOneList}
use Rattle.rdb_records.specs.Rows.{columns_of, row_of}
use Rattle.rdb_records.specs.Units.{AreRead, AreRows, HasColumns, HasFaultyRow, HasFirstFault, HasLines, IsRefused, IsStated, LacksColumn, LacksNames, last_instant, readings_of, skipped_of}

one_row : (a b : UnitRow) (r : Result UnitRow UnitFault) → r ≡ Ok a → r ≡ Ok b → a ≡ b
one_row a b r e f = let whole : ◌≡◌ {A = Result UnitRow UnitFault} (Ok a) (Ok b) = sym e ∙ f in cc

one_fault : (a b : UnitFault) (r : Result UnitRow UnitFault) → r ≡ Err a → r ≡ Err b → a ≡ b
one_fault a b r e f = let whole : ◌≡◌ {A = Result UnitRow UnitFault} (Err a) (Err b) = sym e ∙ f in cc

not_both : (a : UnitRow) (b : UnitFault) (r : Result UnitRow UnitFault) → r ≡ Ok a → r ≡ Err b → ⊥
not_both a b r e f = let whole : ◌≡◌ {A = Result UnitRow UnitFault} (Ok a) (Err b) = sym e ∙ f in absurd (cc)

line_head : (l m : ℕ × List ℕ) (ls ms : List (ℕ × List ℕ)) → l ∷ ls ≡ m ∷ ms → l ≡ m
line_head l m ls ms e = cc

line_tail : (l m : ℕ × List ℕ) (ls ms : List (ℕ × List ℕ)) → l ∷ ls ≡ m ∷ ms → ls ≡ ms
line_tail l m ls ms e = cc

-- lines have one list of rows
one_rows : (site : List ℕ) (c : Columns) (before : Option ℤ) (lines : List (ℕ × List ℕ)) (rows others : List UnitRow) → AreRows site c before lines rows
    → AreRows site c before lines others → rows ≡ others
one_rows site c before [] [] [] h k = refl
one_rows site c before [] [] (o ∷ others) h k = absurd k
one_rows site c before [] (r ∷ rows) others h k = absurd h
one_rows site c before (line ∷ lines) [] others h k = absurd h
one_rows site c before (line ∷ lines) (r ∷ rows) [] h k = absurd k
one_rows site c before (line ∷ lines) (r ∷ rows) (o ∷ others) h k =
    let same = one_row r o (row_of site c before line) h.0 k.0 in
    let rest = one_rows site c (Some r.at) lines rows others h.1 (subst (λ (p : UnitRow). AreRows site c (Some p.at) lines others) (sym same) k.1) in
    ap (λ l. r ∷ l) rest ∙ ap (λ p. p ∷ others) same

-- lines with rows have no fault behind some of them
no_fault : (site : List ℕ) (c : Columns) (before : Option ℤ) (lines front behind : List (ℕ × List ℕ)) (line : ℕ × List ℕ) (rows some : List UnitRow) (fault : UnitFault)
    → lines ≡ front ++ line ∷ behind → AreRows site c before lines rows → AreRows site c before front some → row_of site c (last_instant before some) line ≡ Err fault → ⊥
no_fault site c before [] [] behind line rows some fault e h k told = absurd (let n = ap length e in omega arith)
no_fault site c before [] (f ∷ front) behind line rows some fault e h k told = absurd (let n = ap length e in omega arith)
no_fault site c before (l ∷ lines) front behind line [] some fault e h k told = absurd h
no_fault site c before (l ∷ lines) [] behind line (r ∷ rows) [] fault e h k told =
    not_both r fault (row_of site c before l) h.0 (ap (row_of site c before) (line_head l line lines behind e) ∙ told)
no_fault site c before (l ∷ lines) [] behind line (r ∷ rows) (s ∷ some) fault e h k told = absurd k
no_fault site c before (l ∷ lines) (f ∷ front) behind line (r ∷ rows) [] fault e h k told = absurd k
no_fault site c before (l ∷ lines) (f ∷ front) behind line (r ∷ rows) (s ∷ some) fault e h k told =
    let head = line_head l f lines (front ++ line ∷ behind) e in
    let same = one_row s r (row_of site c before f) k.0 (ap (row_of site c before) (sym head) ∙ h.0) in
    no_fault site c (Some s.at) lines front behind line rows some fault (line_tail l f lines (front ++ line ∷ behind) e)
    (subst (λ (p : UnitRow). AreRows site c (Some p.at) lines rows) (sym same) h.1) k.1 told

-- lines have one first fault
first_fault : (site : List ℕ) (c : Columns) (before : Option ℤ) (front others behind rest : List (ℕ × List ℕ)) (line other : ℕ × List ℕ) (rows some : List UnitRow) (a b : UnitFault)
    → front ++ line ∷ behind ≡ others ++ other ∷ rest → AreRows site c before front rows → AreRows site c before others some
    → row_of site c (last_instant before rows) line ≡ Err a → row_of site c (last_instant before some) other ≡ Err b → a ≡ b
first_fault site c before [] [] behind rest line other [] [] a b e h k p q =
    one_fault a b (row_of site c before line) p (ap (row_of site c before) (line_head line other behind rest e) ∙ q)
first_fault site c before [] [] behind rest line other [] (s ∷ some) a b e h k p q = absurd k
first_fault site c before [] [] behind rest line other (r ∷ rows) some a b e h k p q = absurd h
first_fault site c before [] (o ∷ others) behind rest line other [] [] a b e h k p q = absurd k
first_fault site c before [] (o ∷ others) behind rest line other [] (s ∷ some) a b e h k p q =
    absurd (not_both s a (row_of site c before o) k.0 (ap (row_of site c before) (sym (line_head line o behind (others ++ other ∷ rest) e)) ∙ p))
first_fault site c before [] (o ∷ others) behind rest line other (r ∷ rows) some a b e h k p q = absurd h
first_fault site c before (f ∷ front) [] behind rest line other [] some a b e h k p q = absurd h
first_fault site c before (f ∷ front) [] behind rest line other (r ∷ rows) [] a b e h k p q =
    absurd (not_both r b (row_of site c before f) h.0 (ap (row_of site c before) (line_head f other (front ++ line ∷ behind) rest e) ∙ q))
first_fault site c before (f ∷ front) [] behind rest line other (r ∷ rows) (s ∷ some) a b e h k p q = absurd k
first_fault site c before (f ∷ front) (o ∷ others) behind rest line other [] some a b e h k p q = absurd h
first_fault site c before (f ∷ front) (o ∷ others) behind rest line other (r ∷ rows) [] a b e h k p q = absurd k
first_fault site c before (f ∷ front) (o ∷ others) behind rest line other (r ∷ rows) (s ∷ some) a b e h k p q =
    let head = line_head f o (front ++ line ∷ behind) (others ++ other ∷ rest) e in
    let same = one_row r s (row_of site c before f) h.0 (ap (row_of site c before) head ∙ k.0) in
    first_fault site c (Some r.at) front others behind rest line other rows some a b (line_tail f o (front ++ line ∷ behind) (others ++ other ∷ rest) e) h.1
    (subst (λ (t : UnitRow). AreRows site c (Some t.at) others some) (sym same) k.1) p
    (subst (λ (t : UnitRow). row_of site c (last_instant (Some t.at) some) other ≡ Err b) (sym same) q)

-- the names, the formats and the rows of a text
same_names : (n m f g : ℕ × List ℕ) (ls ms : List (ℕ × List ℕ)) (kept : List (ℕ × List ℕ)) → kept ≡ n ∷ f ∷ ls → kept ≡ m ∷ g ∷ ms → (n ≡ m) × (ls ≡ ms)
same_names n m f g ls ms kept d e =
    let whole = sym d ∙ e in
    (line_head n m (f ∷ ls) (g ∷ ms) whole, line_tail f g ls ms (line_tail n m (f ∷ ls) (g ∷ ms) whole))

some_columns : (a b : Columns) (o : Option Columns) → o ≡ Some a → o ≡ Some b → a ≡ b
some_columns a b o d e = let whole : ◌≡◌ {A = Option Columns} (Some a) (Some b) = sym d ∙ e in cc

no_columns : (a : Columns) (o : Option Columns) → o ≡ Some a → o ≡ None → ⊥
no_columns a o d e = let whole : ◌≡◌ {A = Option Columns} (Some a) None = sym d ∙ e in absurd (cc)

one_columns : (column text : List ℕ) (a b : Columns) (ls ms : List (ℕ × List ℕ)) → HasColumns column text a ls → HasColumns column text b ms → (a ≡ b) × (ls ≡ ms)
one_columns column text a b ls ms h k =
    let same = same_names h.names k.names h.formats k.formats ls ms (kept_lines 0 (strip_bom text)) h.whole k.whole in
    (some_columns a b (columns_of column (fields h.names.1)) h.found (ap (λ (n : ℕ × List ℕ). columns_of column (fields n.1)) same.0 ∙ k.found), same.1)

same_list : (a b : UnitList) → a.readings ≡ b.readings → a.skipped ≡ b.skipped → a ≡ b
same_list a b e f =
    let k : ◌≡◌ {A = UnitList} (record { readings = a.readings; skipped = a.skipped }) (record { readings = b.readings; skipped = b.skipped }) = rw (e, f) refl in k

pub one_list : (site : SiteNumber) (column text : List ℕ) → StatesOneList site column text
one_list site column text one other h k =
    let under = one_columns column text h.columns k.columns h.lines k.lines h.under k.under in
    let read = subst (λ c. AreRead (site_text site) c h.lines other) (sym under.0) (subst (λ ls. AreRead (site_text site) k.columns ls other) (sym under.1) k.read) in
    let rows = one_rows (site_text site) h.columns None h.lines h.read.rows read.rows h.read.each read.each in
    same_list one other (h.read.readings ∙ ap readings_of rows ∙ sym read.readings) (h.read.skipped ∙ ap skipped_of rows ∙ sym read.skipped)

-- the three ways to be refused
record LacksNamed (column text : List ℕ) (fault : UnitFault) : Type 0 where
  line : ℕ
  is : fault ≡ NoColumn line
  lacks : LacksColumn column text line

abbrev Refusal : SiteNumber → List ℕ → List ℕ → UnitFault → Type 0
Refusal site column text fault = ((fault ≡ NoNames) × LacksNames text) ⊎ (LacksNamed column text fault ⊎ HasFaultyRow site column text fault)

refusal : (site : SiteNumber) (column text : List ℕ) (fault : UnitFault) → IsRefused site column text fault → Refusal site column text fault
refusal site column text NoNames h = inl (refl, h)
refusal site column text (NoColumn line) h = inr (inl (record { line = line; is = refl; lacks = h }))
refusal site column text (Site line) h = inr (inr h)
refusal site column text (Zone line) h = inr (inr h)
refusal site column text (Instant line) h = inr (inr h)
refusal site column text (Order line) h = inr (inr h)
refusal site column text (Range line) h = inr (inr h)
refusal site column text NoMemory h = absurd h

-- a text with names and formats doesn't lack them
has_names : (text : List ℕ) (names formats : ℕ × List ℕ) (lines : List (ℕ × List ℕ)) → HasLines text names formats lines → LacksNames text → ⊥
has_names text names formats lines whole lacks = absurd (let n = ap length whole in omega (arith, n, lacks))

has_column : (column text : List ℕ) (c : Columns) (lines : List (ℕ × List ℕ)) (line : ℕ) → HasColumns column text c lines → LacksColumn column text line → ⊥
has_column column text c lines line h k =
    let same = same_names h.names k.names h.formats k.formats lines k.lines (kept_lines 0 (strip_bom text)) h.whole k.whole in
    no_columns c (columns_of column (fields h.names.1)) h.found (ap (λ (n : ℕ × List ℕ). columns_of column (fields n.1)) same.0 ∙ k.missing)

one_line : (column text : List ℕ) (line other : ℕ) → LacksColumn column text line → LacksColumn column text other → line ≡ other
one_line column text line other h k =
    let same = same_names h.names k.names h.formats k.formats h.lines k.lines (kept_lines 0 (strip_bom text)) h.whole k.whole in
    h.told ∙ ap (λ (n : ℕ × List ℕ). n.0) same.0 ∙ sym k.told

one_faulty : (site : SiteNumber) (column text : List ℕ) (a b : UnitFault) → HasFaultyRow site column text a → HasFaultyRow site column text b → a ≡ b
one_faulty site column text a b h k =
    let under = one_columns column text h.columns k.columns h.lines k.lines h.under k.under in
    let first = subst (λ c. HasFirstFault (site_text site) c h.lines b) (sym under.0) (subst (λ ls. HasFirstFault (site_text site) k.columns ls b) (sym under.1) k.first) in
    let own = h.first in
    first_fault (site_text site) h.columns None own.front first.front own.behind first.behind own.line first.line own.rows first.rows a b (sym own.whole ∙ first.whole)
    own.each first.each own.told first.told

same_fault : (site : SiteNumber) (column text : List ℕ) (a b : UnitFault) → Refusal site column text a → Refusal site column text b → a ≡ b
same_fault site column text a b (inl (e, h)) (inl (f, k)) = e ∙ sym f
same_fault site column text a b (inl (e, h)) (inr (inl k)) = absurd (has_names text k.lacks.names k.lacks.formats k.lacks.lines k.lacks.whole h)
same_fault site column text a b (inl (e, h)) (inr (inr k)) = absurd (has_names text k.under.names k.under.formats k.lines k.under.whole h)
same_fault site column text a b (inr (inl h)) (inl (f, k)) = absurd (has_names text h.lacks.names h.lacks.formats h.lacks.lines h.lacks.whole k)
same_fault site column text a b (inr (inl h)) (inr (inl k)) = h.is ∙ ap (λ (n : ℕ). NoColumn n) (one_line column text h.line k.line h.lacks k.lacks) ∙ sym k.is
same_fault site column text a b (inr (inl h)) (inr (inr k)) = absurd (has_column column text k.columns k.lines h.line k.under h.lacks)
same_fault site column text a b (inr (inr h)) (inl (f, k)) = absurd (has_names text h.under.names h.under.formats h.lines h.under.whole k)
same_fault site column text a b (inr (inr h)) (inr (inl k)) = absurd (has_column column text h.columns h.lines k.line h.under k.lacks)
same_fault site column text a b (inr (inr h)) (inr (inr k)) = one_faulty site column text a b h k

pub one_refusal : (site : SiteNumber) (column text : List ℕ) → HasOneFault site column text
one_refusal site column text a b h k = same_fault site column text a b (refusal site column text a h) (refusal site column text b k)

stated_refused : (site : SiteNumber) (column text : List ℕ) (list : UnitList) (fault : UnitFault) → IsStated site column text list → Refusal site column text fault → ⊥
stated_refused site column text list fault h (inl (e, k)) = has_names text h.under.names h.under.formats h.lines h.under.whole k
stated_refused site column text list fault h (inr (inl k)) = has_column column text h.columns h.lines k.line h.under k.lacks
stated_refused site column text list fault h (inr (inr k)) =
    let under = one_columns column text h.columns k.columns h.lines k.lines h.under k.under in
    let first = subst (λ c. HasFirstFault (site_text site) c h.lines fault) (sym under.0) (subst (λ ls. HasFirstFault (site_text site) k.columns ls fault) (sym under.1) k.first) in
    no_fault (site_text site) h.columns None h.lines first.front first.behind first.line h.read.rows first.rows fault first.whole h.read.each first.each first.told

pub never_both : (site : SiteNumber) (column text : List ℕ) → IsNotBoth site column text
never_both site column text list fault h k = stated_refused site column text list fault h (refusal site column text fault k)
