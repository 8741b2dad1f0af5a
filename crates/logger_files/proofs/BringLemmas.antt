-- Rows that are judged line by line: what was found stands in front of what is left.
use Rattle.std.specs.Prelude.{◌≡◌, ◌<◌, List, [], ◌∷◌, ◌++◌, ℕ, suc, ◌+◌, ℤ, Option, None, Result, Ok, Err, IfOk, IfErr, ◌⊎◌, length, drop}
use Rattle.std.proofs.Common.{arith, refl, ap, sym, ◌∙◌, subst, inl}
use Rattle.std.proofs.lemmas.List.{append-nil, append_assoc}
use Rattle.fixed_units.specs.declared.readings.Reading.{Reading}
use Rattle.rating_tables.specs.Lines.{lines_of}
use Rattle.csv.specs.Reading.{strip_bom}
use Rattle.logger_files.specs.Bringing.{AreFound, AreMade, IsBrought, IsMade, IsUnread, columns_of, rows_in, rows_of, rows_under, with_taken, with_told}
use Rattle.logger_files.proofs.LawLemmas.{found_of, taken, told}
use Rattle.logger_files.specs.Lines.{rows_from}
use Rattle.logger_files.specs.Reasons.{told_line}
use Rattle.logger_files.specs.Requests.{requests_text}
use Rattle.logger_files.specs.Rows.{last_after, outcome_of, outcomes}
use Rattle.logger_files.specs.declared.profiles.Profile.{Profile}
use Rattle.logger_files.specs.declared.bringing.Brought.{Brought}
use Rattle.logger_files.specs.declared.reasons.FileFault.{FileFault}
use Rattle.logger_files.specs.declared.reasons.FileFault.TheVariants.{NoNames, NoMemory}
use Rattle.logger_files.specs.declared.reasons.Reason.{Reason}
use Rattle.logger_files.specs.declared.rows.Columns.{Columns}

rows_none : (passed : ℕ) → rows_from passed [] ≡ []
unfolding rows_from
rows_none passed = refl

rows_more : (passed : ℕ) (line : List ℕ) (lines : List (List ℕ)) → 0 < length line → rows_from passed (line ∷ lines) ≡ (suc passed, line) ∷ rows_from (suc passed) lines
unfolding rows_from
rows_more passed [] lines h = absurd (omega arith)
rows_more passed (b ∷ line) lines h = refl

rows_passed : (passed : ℕ) (line : List ℕ) (lines : List (List ℕ)) → length line ≡ 0 → rows_from passed (line ∷ lines) ≡ rows_from (suc passed) lines
unfolding rows_from
rows_passed passed [] lines h = refl
rows_passed passed (b ∷ line) lines h = absurd (omega arith)

-- the rows of a text whose first line is given
pub first_row : (passed : ℕ) (text line behind : List ℕ) → lines_of text ≡ line ∷ lines_of behind → 0 < length line
    → rows_from passed (lines_of text) ≡ (passed + 1, line) ∷ rows_from (passed + 1) (lines_of behind)
first_row passed text line behind e h =
    let next : suc passed ≡ passed + 1 = omega arith in
    rw next at (ap (rows_from passed) e ∙ rows_more passed line (lines_of behind) h)

pub no_row : (passed : ℕ) (text line behind : List ℕ) → lines_of text ≡ line ∷ lines_of behind → length line ≡ 0
    → rows_from passed (lines_of text) ≡ rows_from (passed + 1) (lines_of behind)
no_row passed text line behind e h =
    let next : suc passed ≡ passed + 1 = omega arith in
    rw next at (ap (rows_from passed) e ∙ rows_passed passed line (lines_of behind) h)

pub rows_end : (passed : ℕ) (text : List ℕ) → lines_of text ≡ [] → rows_from passed (lines_of text) ≡ []
rows_end passed text e = ap (rows_from passed) e ∙ rows_none passed

taken_behind : (o : Result Reading Reason) (rs : List Reading) → with_taken o rs ≡ with_taken o [] ++ rs
taken_behind (Ok r) rs = refl
taken_behind (Err r) rs = refl

told_behind : (n : ℕ) (o : Result Reading Reason) (text : List ℕ) → with_told n o text ≡ with_told n o [] ++ text
told_behind n (Ok r) text = refl
told_behind n (Err r) text = ap (λ (l : List ℕ). l ++ text) (sym (append-nil (told_line n r)))

taken_first : (row : ℕ × Result Reading Reason) (rows : List (ℕ × Result Reading Reason)) → taken (row ∷ rows) ≡ with_taken row.1 [] ++ taken rows
unfolding taken
taken_first row rows = taken_behind row.1 (taken rows)

told_first : (row : ℕ × Result Reading Reason) (rows : List (ℕ × Result Reading Reason)) → told (row ∷ rows) ≡ with_told row.0 row.1 [] ++ told rows
unfolding told
told_first row rows = told_behind row.0 row.1 (told rows)

outcomes_first : (p : Profile) (c : Columns) (before : Option ℤ) (row : ℕ × List ℕ) (rows : List (ℕ × List ℕ)) → outcomes p c before (row ∷ rows) ≡ (row.0, outcome_of p c before row.1) ∷ outcomes p c (last_after before (outcome_of p c before row.1)) rows
unfolding outcomes
outcomes_first p c before row rows = refl

outcomes_none : (p : Profile) (c : Columns) (before : Option ℤ) → outcomes p c before [] ≡ []
unfolding outcomes
outcomes_none p c before = refl

taken_none : taken [] ≡ []
unfolding taken
taken_none = refl

told_none : told [] ≡ []
unfolding told
told_none = refl

-- what was found of all rows, in front of those that are left
pub record Finds (p : Profile) (c : Columns) (all : List (ℕ × Result Reading Reason)) (found : List Reading) (lines : List ℕ) (before : Option ℤ) (rows : List (ℕ × List ℕ)) : Type 0 where
  pub readings : taken all ≡ found ++ taken (outcomes p c before rows)
  pub left : told all ≡ lines ++ told (outcomes p c before rows)

pub finds_start : (p : Profile) (c : Columns) (rows : List (ℕ × List ℕ)) (readings : List Reading) (left : List ℕ) → readings ≡ [] → left ≡ []
    → Finds p c (outcomes p c None rows) readings left None rows
finds_start p c rows readings left e f = record {
  readings = ap (λ (l : List Reading). l ++ taken (outcomes p c None rows)) (sym e);
  left = ap (λ (l : List ℕ). l ++ told (outcomes p c None rows)) (sym f);
}

pub finds_same : (p : Profile) (c : Columns) (all : List (ℕ × Result Reading Reason)) (readings : List Reading) (left : List ℕ) (before : Option ℤ) (rows others : List (ℕ × List ℕ))
    → rows ≡ others → Finds p c all readings left before rows → Finds p c all readings left before others
finds_same p c all readings left before rows others e h = subst (Finds p c all readings left before) e h

pub finds_next : (p : Profile) (c : Columns) (all : List (ℕ × Result Reading Reason)) (readings : List Reading) (left : List ℕ) (before : Option ℤ) (rows : List (ℕ × List ℕ))
    (n : ℕ) (line : List ℕ) (behind : List (ℕ × List ℕ)) (o : Result Reading Reason) (more : List Reading) (longer : List ℕ) (next : Option ℤ)
    → Finds p c all readings left before rows → rows ≡ (n, line) ∷ behind → o ≡ outcome_of p c before line → more ≡ readings ++ with_taken o [] → longer ≡ left ++ with_told n o []
    → next ≡ last_after before o → Finds p c all more longer next behind
finds_next p c all readings left before rows n line behind o more longer next h e f g k m =
    let first : outcomes p c before rows ≡ (n, o) ∷ outcomes p c next behind =
    ap (outcomes p c before) e ∙ outcomes_first p c before (n, line) behind
    ∙ ap (λ (r : Result Reading Reason). (n, r) ∷ outcomes p c (last_after before r) behind) (sym f)
    ∙ ap (λ (b : Option ℤ). (n, o) ∷ outcomes p c b behind) (sym m) in
    record {
      readings =
          h.readings ∙ ap (λ (os : List (ℕ × Result Reading Reason)). readings ++ taken os) first ∙ ap (λ (l : List Reading). readings ++ l) (taken_first (n, o) (outcomes p c next behind))
          ∙ sym (append_assoc readings (with_taken o []) (taken (outcomes p c next behind))) ∙ ap (λ (l : List Reading). l ++ taken (outcomes p c next behind)) (sym g);
      left =
          h.left ∙ ap (λ (os : List (ℕ × Result Reading Reason)). left ++ told os) first ∙ ap (λ (l : List ℕ). left ++ l) (told_first (n, o) (outcomes p c next behind))
          ∙ sym (append_assoc left (with_told n o []) (told (outcomes p c next behind))) ∙ ap (λ (l : List ℕ). l ++ told (outcomes p c next behind)) (sym k);
    }

pub finds_end : (p : Profile) (c : Columns) (all : List (ℕ × Result Reading Reason)) (readings : List Reading) (left : List ℕ) (before : Option ℤ) (rows : List (ℕ × List ℕ))
    → Finds p c all readings left before rows → rows ≡ [] → AreFound all readings left
finds_end p c all readings left before rows h e =
    let none : outcomes p c before rows ≡ [] = ap (outcomes p c before) e ∙ outcomes_none p c before in
    found_of all readings left
    (sym (h.readings ∙ ap (λ (os : List (ℕ × Result Reading Reason)). readings ++ taken os) none ∙ ap (λ (l : List Reading). readings ++ l) taken_none ∙ append-nil readings))
    (sym (h.left ∙ ap (λ (os : List (ℕ × Result Reading Reason)). left ++ told os) none ∙ ap (λ (l : List ℕ). left ++ l) told_none ∙ append-nil left))

-- what a text states, by its names and what is behind them
abbrev RowsOf : Type 0
RowsOf = List (ℕ × Result Reading Reason)

lines_left : (p : Profile) (text marked rest : List ℕ) → marked ≡ strip_bom text → lines_of rest ≡ drop p.skip (lines_of marked) → rows_of p text ≡ rows_in p (lines_of rest)
lines_left p text marked rest e f = ap (rows_in p) (ap (λ (t : List ℕ). drop p.skip (lines_of t)) (sym e) ∙ sym f)

pub no_names : (p : Profile) (text marked rest : List ℕ) → marked ≡ strip_bom text → lines_of rest ≡ drop p.skip (lines_of marked) → lines_of rest ≡ [] → rows_of p text ≡ Err NoNames
no_names p text marked rest e f g = lines_left p text marked rest e f ∙ ap (rows_in p) g

under_names : (p : Profile) (text marked rest names behind : List ℕ) → marked ≡ strip_bom text → lines_of rest ≡ drop p.skip (lines_of marked) → lines_of rest ≡ names ∷ lines_of behind
    → rows_of p text ≡ rows_under p (lines_of behind) (columns_of p names)
under_names p text marked rest names behind e f g = lines_left p text marked rest e f ∙ ap (rows_in p) g

pub no_columns : (p : Profile) (text marked rest names behind : List ℕ) (fault : FileFault) → marked ≡ strip_bom text → lines_of rest ≡ drop p.skip (lines_of marked) → lines_of rest ≡ names ∷ lines_of behind
    → columns_of p names ≡ Err fault → rows_of p text ≡ Err fault
no_columns p text marked rest names behind fault e f g h = under_names p text marked rest names behind e f g ∙ ap (rows_under p (lines_of behind)) h

pub rows_stated : (p : Profile) (text marked rest names behind : List ℕ) (c : Columns) → marked ≡ strip_bom text → lines_of rest ≡ drop p.skip (lines_of marked) → lines_of rest ≡ names ∷ lines_of behind
    → columns_of p names ≡ Ok c → rows_of p text ≡ Ok (outcomes p c None (rows_from (p.skip + 1) (lines_of behind)))
rows_stated p text marked rest names behind c e f g h = under_names p text marked rest names behind e f g ∙ ap (rows_under p (lines_of behind)) h

made_of : (p : Profile) (rows : RowsOf) (readings : List Reading) (left : List ℕ) (brought : Brought) → AreFound rows readings left
    → (brought.requests ≡ requests_text p.by p.site readings) × (brought.left ≡ left) → IsMade p rows brought
made_of p rows readings left brought (rows_left, parted, lines) (e, f) = (readings, e, (rows_left, parted, f ∙ lines))

pub brought_all : (p : Profile) (text : List ℕ) (rows : RowsOf) (readings : List Reading) (left : List ℕ) (r : Result Brought FileFault) → rows_of p text ≡ Ok rows → AreFound rows readings left
    → IfOk r (λ brought. (brought.requests ≡ requests_text p.by p.site readings) × (brought.left ≡ left)) → IfOk r (IsBrought p text)
brought_all p text rows readings left (Ok brought) e found h =
    subst (AreMade p brought) (sym e) (made_of p rows readings left brought found h)
brought_all p text rows readings left (Err fault) e found h = h

pub memory_alone : (p : Profile) (text : List ℕ) (r : Result Brought FileFault) → IfErr r (λ fault. fault ≡ NoMemory) → IfErr r (λ fault. (fault ≡ NoMemory) ⊎ IsUnread p text fault)
memory_alone p text (Ok brought) h = h
memory_alone p text (Err fault) h = inl h
