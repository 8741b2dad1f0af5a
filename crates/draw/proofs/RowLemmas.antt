-- The rows of lines, one after another.
use Rattle.std.proofs.Common.{◌≡◌, refl, sym, ap, ◌∙◌, inr, ℕ, ◌+◌, ◌<◌, ◌≤◌, List, [], ◌∷◌, ◌++◌, length, drop, get_or, append_assoc}
use Rattle.std.specs.Borrow.{Bor}
use Rattle.std.specs.Prelude.{◌⊎◌, Result, Ok, Err, IfOk, IfErr}
use Rattle.std.proofs.lemmas.List.{append-nil, at_drop_all, at_drop_more}
use Rattle.draw.specs.Rows.{texts}
use Rattle.draw.specs.Tables.{IsAdded, IsFaulty, before_next, row_behind, row_on, rows_from, with_row}
use Rattle.draw.specs.declared.rows.Row.{Row}
use Rattle.draw.specs.declared.rows.Why.{Why}
use Rattle.draw.specs.declared.rows.Why.TheVariants.{NoMemory}
use Rattle.draw.specs.declared.tables.Before.{Before}
use Rattle.draw.specs.declared.tables.RowFault.{RowFault}

-- rows in front of others, or of a fault
abbrev pub onto : List Row → Result (List Row) RowFault → Result (List Row) RowFault
onto rows (Ok others) = Ok (rows ++ others)
onto rows (Err fault) = Err fault

nothing : (others : Result (List Row) RowFault) → onto [] others ≡ others
nothing (Ok others) = refl
nothing (Err fault) = refl

-- the rows of a line and those behind it
rows_next : (passed : ℕ) (before : Before) (line : List ℕ) (lines : List (List ℕ))
    → rows_from passed before (line ∷ lines)
    ≡ with_row (passed + 1) (row_on before line) (rows_from (passed + 1) (before_next before (row_on before line)) lines)
unfolding rows_from
rows_next passed before line lines = refl

rows_none : (passed : ℕ) (before : Before) → rows_from passed before [] ≡ Ok []
unfolding rows_from
rows_none passed before = refl

-- a row in front of others is one more behind those so far
onto_row : (rows : List Row) (line : ℕ) (row : Row) (others : Result (List Row) RowFault)
    → onto rows (with_row line (Ok row) others) ≡ onto (rows ++ row ∷ []) others
onto_row rows line row (Ok others) = ap Ok (sym (append_assoc rows (row ∷ []) others))
onto_row rows line row (Err fault) = refl

-- the line at a place states a row
pub rows_more : (lines : List (Bor (List ℕ))) (i passed : ℕ) (none : Bor (List ℕ)) (before : Before) (row : Row) (rows : List Row) (whole : Result (List Row) RowFault)
    → i < length lines → row_on before ((get_or lines i none).now) ≡ Ok row
    → onto rows (rows_from passed before (texts (drop i lines))) ≡ whole
    → onto (rows ++ row ∷ []) (rows_from (passed + 1) (row_behind before row) (texts (drop (i + 1) lines))) ≡ whole
rows_more lines i passed none before row rows whole within states so_far =
    let line = (get_or lines i none).now in
    let rest = texts (drop (i + 1) lines) in
    let next : rows_from passed before (texts (drop i lines)) ≡ with_row (passed + 1) (Ok row) (rows_from (passed + 1) (row_behind before row) rest) =
    at_drop_more (λ (ls : List (Bor (List ℕ))). rows_from passed before (texts ls)) lines i none within
    ∙ rows_next passed before line rest
    ∙ ap (λ (r : Result Row Why). with_row (passed + 1) r (rows_from (passed + 1) (before_next before r) rest)) states in
    sym (onto_row rows (passed + 1) row (rows_from (passed + 1) (row_behind before row) rest))
    ∙ ap (onto rows) (sym next) ∙ so_far

-- the line at a place has a fault
pub rows_fault : (lines : List (Bor (List ℕ))) (i passed : ℕ) (none : Bor (List ℕ)) (before : Before) (why : Why) (rows : List Row) (whole : Result (List Row) RowFault)
    → i < length lines → row_on before ((get_or lines i none).now) ≡ Err why
    → onto rows (rows_from passed before (texts (drop i lines))) ≡ whole
    → whole ≡ Err (record { why = why; line = passed + 1 })
rows_fault lines i passed none before why rows whole within faulty so_far =
    let line = (get_or lines i none).now in
    let rest = texts (drop (i + 1) lines) in
    let next : rows_from passed before (texts (drop i lines)) ≡ with_row (passed + 1) (Err why) (rows_from (passed + 1) (before_next before (Err why)) rest) =
    at_drop_more (λ (ls : List (Bor (List ℕ))). rows_from passed before (texts ls)) lines i none within
    ∙ rows_next passed before line rest
    ∙ ap (λ (r : Result Row Why). with_row (passed + 1) r (rows_from (passed + 1) (before_next before r) rest)) faulty in
    sym so_far ∙ ap (onto rows) next

abbrev fault_at : Why → ℕ → Result (List Row) RowFault
fault_at why line = Err (record { why = why; line = line })

-- the line at a place is faulty
pub rows_refused : (lines : List (Bor (List ℕ))) (i passed : ℕ) (none : Bor (List ℕ)) (before : Before) (fault : RowFault) (rows : List Row) (whole : Result (List Row) RowFault)
    → i < length lines → IsFaulty before (get_or lines i none).now (passed + 1) fault
    → onto rows (rows_from passed before (texts (drop i lines))) ≡ whole
    → whole ≡ Err fault
rows_refused lines i passed none before fault rows whole within faulty so_far =
    rows_fault lines i passed none before fault.why rows whole within faulty.states so_far
    ∙ ap (fault_at fault.why) (sym faulty.there)

added_by : (lines : List (Bor (List ℕ))) (i passed : ℕ) (none : Bor (List ℕ)) (before next : Before) (row : Row) (rows more : List Row) (whole : Result (List Row) RowFault)
    → i < length lines → row_on before ((get_or lines i none).now) ≡ Ok row → more ≡ rows ++ row ∷ [] → next ≡ row_behind before row
    → onto rows (rows_from passed before (texts (drop i lines))) ≡ whole
    → onto more (rows_from (passed + 1) next (texts (drop (i + 1) lines))) ≡ whole
added_by lines i passed none before next row rows more whole within states added behind so_far =
    rw (added, behind) (rows_more lines i passed none before row rows whole within states so_far)

-- the row of the line at a place was added
pub rows_added : (lines : List (Bor (List ℕ))) (i passed : ℕ) (none : Bor (List ℕ)) (before next : Before) (rows more : List Row) (whole : Result (List Row) RowFault)
    → i < length lines → IsAdded before (get_or lines i none).now next rows more
    → onto rows (rows_from passed before (texts (drop i lines))) ≡ whole
    → onto more (rows_from (passed + 1) next (texts (drop (i + 1) lines))) ≡ whole
rows_added lines i passed none before next rows more whole within added so_far =
    added_by lines i passed none before next added.row rows more whole within added.states added.added added.behind so_far

-- no row is there yet
pub rows_begun : (before : Before) (lines : List (List ℕ)) → onto [] (rows_from 1 before lines) ≡ rows_from 1 before lines
rows_begun before lines = nothing (rows_from 1 before lines)

-- no line is left
pub rows_done : (lines : List (Bor (List ℕ))) (i passed : ℕ) (before : Before) (rows : List Row) (whole : Result (List Row) RowFault)
    → length lines ≤ i → onto rows (rows_from passed before (texts (drop i lines))) ≡ whole → whole ≡ Ok rows
rows_done lines i passed before rows whole all so_far =
    sym so_far
    ∙ ap (onto rows) (at_drop_all (λ (ls : List (Bor (List ℕ))). rows_from passed before (texts ls)) lines i all ∙ rows_none passed before)
    ∙ ap Ok (append-nil rows)

-- a result of which two things are said
pub both_ok : {X Y : Type 0} (r : Result X Y) (P Q R : X → Type 0) → ((x : X) → P x → Q x → R x) → IfOk r P → IfOk r Q → IfOk r R
both_ok (Ok x) P Q R both p q = both x p q
both_ok (Err e) P Q R both p q = tt

-- a result that is another one
pub told_ok : {X Y : Type 0} (r s : Result X Y) → r ≡ s → IfOk r (λ (x : X). s ≡ Ok x)
told_ok (Ok x) s e = sym e
told_ok (Err y) s e = tt

pub told_err : {X : Type 0} (r s : Result X Why) → r ≡ s → IfErr r (λ (why : Why). (why ≡ NoMemory) ⊎ (s ≡ Err why))
told_err (Ok x) s e = tt
told_err (Err why) s e = inr (sym e)
