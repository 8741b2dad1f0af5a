-- Rows are parted in one way, and a text makes one result.
use Rattle.std.specs.Prelude.{◌≡◌, ℕ, ◌+◌, List, [], ◌∷◌, Option, ℤ, Result, Ok, Err, length, map}
use Rattle.std.proofs.Common.{arith, refl, ap, sym, ◌∙◌, subst}
use Rattle.fixed_units.specs.declared.readings.Reading.{Reading}
use Rattle.logger_files.specs.Bringing.{AreFound, AreMade, AreParted, IsFirst, MakesOnce, rows_of, told_lines, with_taken, with_told}
use Rattle.logger_files.specs.Requests.{requests_text}
use Rattle.logger_files.specs.Rows.{last_after, outcome_of, outcomes}
use Rattle.logger_files.specs.declared.bringing.Brought.{Brought}
use Rattle.logger_files.specs.declared.profiles.Profile.{Profile}
use Rattle.logger_files.specs.declared.reasons.FileFault.{FileFault}
use Rattle.logger_files.specs.declared.reasons.Reason.{Reason}
use Rattle.logger_files.specs.declared.rows.Columns.{Columns}

pub each_judged : (p : Profile) (c : Columns) (before : Option ℤ) (rows : List (ℕ × List ℕ)) → map (λ row. row.0) (outcomes p c before rows) ≡ map (λ row. row.0) rows
unfolding outcomes
each_judged p c before [] = refl
each_judged p c before (row ∷ rows) = ap (λ (l : List ℕ). row.0 ∷ l) (each_judged p c (last_after before (outcome_of p c before row.1)) rows)

-- the readings of the rows that are taken, and the rows that are not
unfoldable pub taken : List (ℕ × Result Reading Reason) → List Reading
taken [] = []
taken (row ∷ rows) = with_taken row.1 (taken rows)

abbrev pub with_left : ℕ → Result Reading Reason → List (ℕ × Reason) → List (ℕ × Reason)
with_left number (Ok reading) rows = rows
with_left number (Err reason) rows = (number, reason) ∷ rows

unfoldable pub left_rows : List (ℕ × Result Reading Reason) → List (ℕ × Reason)
left_rows [] = []
left_rows (row ∷ rows) = with_left row.0 row.1 (left_rows rows)

-- the lines that tell of the rows that are not
unfoldable pub told : List (ℕ × Result Reading Reason) → List ℕ
told [] = []
told (row ∷ rows) = with_told row.0 row.1 (told rows)

first_goes : (n : ℕ) (o : Result Reading Reason) (readings : List Reading) (left : List (ℕ × Reason)) (Rest : List Reading → List (ℕ × Reason) → Type 0)
    → Rest readings left → IsFirst n o (with_taken o readings) (with_left n o left) Rest
first_goes n (Ok reading) readings left Rest h = (refl, h)
first_goes n (Err reason) readings left Rest h = (refl, h)

pub each_parted : (rows : List (ℕ × Result Reading Reason)) → AreParted rows (taken rows) (left_rows rows)
unfolding taken left_rows
each_parted [] = tt
each_parted (row ∷ rows) = first_goes row.0 row.1 (taken rows) (left_rows rows) (AreParted rows) (each_parted rows)

told_of : (n : ℕ) (o : Result Reading Reason) (left : List (ℕ × Reason)) → with_told n o (told_lines left) ≡ told_lines (with_left n o left)
told_of n (Ok reading) left = refl
told_of n (Err reason) left = refl

pub each_told : (rows : List (ℕ × Result Reading Reason)) → told rows ≡ told_lines (left_rows rows)
unfolding told left_rows
each_told [] = refl
each_told (row ∷ rows) = ap (with_told row.0 row.1) (each_told rows) ∙ told_of row.0 row.1 (left_rows rows)

-- a parting is the one of what is taken
first_is : (n : ℕ) (o : Result Reading Reason) (taken_rest : List Reading) (left_rest : List (ℕ × Reason)) (Rest : List Reading → List (ℕ × Reason) → Type 0) (readings : List Reading) (left : List (ℕ × Reason))
    → IsFirst n o readings left Rest → ((rs : List Reading) (ls : List (ℕ × Reason)) → Rest rs ls → (rs ≡ taken_rest) × (ls ≡ left_rest))
    → (readings ≡ with_taken o taken_rest) × (left ≡ with_left n o left_rest)
first_is n (Ok reading) taken_rest left_rest Rest [] left h k = absurd h
first_is n (Ok reading) taken_rest left_rest Rest (first ∷ readings) left h k =
    let rest = k readings left h.1 in
    (ap (λ (r : Reading). r ∷ readings) h.0 ∙ ap (λ (rs : List Reading). reading ∷ rs) rest.0, rest.1)
first_is n (Err reason) taken_rest left_rest Rest readings [] h k = absurd h
first_is n (Err reason) taken_rest left_rest Rest readings (first ∷ left) h k =
    let rest = k readings left h.1 in
    (rest.0, ap (λ (r : ℕ × Reason). r ∷ left) h.0 ∙ ap (λ (ls : List (ℕ × Reason)). (n, reason) ∷ ls) rest.1)

parted_is : (rows : List (ℕ × Result Reading Reason)) (readings : List Reading) (left : List (ℕ × Reason)) → AreParted rows readings left
    → (readings ≡ taken rows) × (left ≡ left_rows rows)
unfolding taken left_rows
parted_is [] [] [] h = (refl, refl)
parted_is [] [] (one ∷ left) h = absurd h
parted_is [] (reading ∷ readings) left h = absurd h
parted_is (row ∷ rows) readings left h =
    first_is row.0 row.1 (taken rows) (left_rows rows) (AreParted rows) readings left h (λ rs ls k. parted_is rows rs ls k)

pub parted_once : (rows : List (ℕ × Result Reading Reason)) (readings others : List Reading) (left lines : List (ℕ × Reason)) → AreParted rows readings left → AreParted rows others lines
    → (readings ≡ others) × (left ≡ lines)
parted_once rows readings others left lines h k =
    let one = parted_is rows readings left h in
    let other = parted_is rows others lines k in
    (one.0 ∙ sym other.0, one.1 ∙ sym other.1)

-- no row is lost
first_counted : (n : ℕ) (o : Result Reading Reason) (count : ℕ) (Rest : List Reading → List (ℕ × Reason) → Type 0) (readings : List Reading) (left : List (ℕ × Reason))
    → IsFirst n o readings left Rest → ((rs : List Reading) (ls : List (ℕ × Reason)) → Rest rs ls → length rs + length ls ≡ count) → length readings + length left ≡ count + 1
first_counted n (Ok reading) count Rest [] left h k = absurd h
first_counted n (Ok reading) count Rest (first ∷ readings) left h k = let rest = k readings left h.1 in omega (arith, rest)
first_counted n (Err reason) count Rest readings [] h k = absurd h
first_counted n (Err reason) count Rest readings (first ∷ left) h k = let rest = k readings left h.1 in omega (arith, rest)

pub all_counted : (rows : List (ℕ × Result Reading Reason)) (readings : List Reading) (left : List (ℕ × Reason)) → AreParted rows readings left → length readings + length left ≡ length rows
all_counted [] [] [] h = refl
all_counted [] [] (one ∷ left) h = absurd h
all_counted [] (reading ∷ readings) left h = absurd h
all_counted (row ∷ rows) readings left h =
    let one_more = first_counted row.0 row.1 (length rows) (AreParted rows) readings left h (λ rs ls k. all_counted rows rs ls k) in
    omega (arith, one_more)

pub found_of : (rows : List (ℕ × Result Reading Reason)) (readings : List Reading) (lines : List ℕ) → readings ≡ taken rows → lines ≡ told rows → AreFound rows readings lines
found_of rows readings lines e f = (left_rows rows, subst (λ (rs : List Reading). AreParted rows rs (left_rows rows)) (sym e) (each_parted rows), f ∙ each_told rows)

both_made : (p : Profile) (rows : List (ℕ × Result Reading Reason)) (one other : Brought) (readings others : List Reading) (left lines : List (ℕ × Reason))
    → AreParted rows readings left → AreParted rows others lines → one.requests ≡ requests_text p.by p.site readings → other.requests ≡ requests_text p.by p.site others
    → one.left ≡ told_lines left → other.left ≡ told_lines lines → (one.requests ≡ other.requests) × (one.left ≡ other.left)
both_made p rows one other readings others left lines h k e f g m =
    let same = parted_once rows readings others left lines h k in
    (e ∙ ap (λ (rs : List Reading). requests_text p.by p.site rs) same.0 ∙ sym f, g ∙ ap (λ (ls : List (ℕ × Reason)). told_lines ls) same.1 ∙ sym m)

once : (p : Profile) (rows : Result (List (ℕ × Result Reading Reason)) FileFault) (one other : Brought) → AreMade p one rows → AreMade p other rows
    → (one.requests ≡ other.requests) × (one.left ≡ other.left)
once p (Err fault) one other h k = absurd h
once p (Ok rows) one other (readings, e, (left, parted, g)) (others, f, (lines, apart, m)) =
    both_made p rows one other readings others left lines parted apart e f g m

pub made_once : (p : Profile) (text : List ℕ) → MakesOnce p text
made_once p text one other h k = once p (rows_of p text) one other h k
