-- So many fields, one by one.
use Rattle.std.proofs.Common.{◌≡◌, refl, sym, ap, ℕ, ◌-◌, ◌<◌, ◌≤◌, suc, List, [], ◌∷◌, length, take, drop, get_or, arith}
use Rattle.std.proofs.lemmas.List.{take_all}
use Rattle.std.specs.Borrow.{Bor}
use Rattle.std.specs.Prelude.{Err}
use Rattle.draw.specs.Rows.{day_in, measurement_in, reading_in, row_in, texts}
use Rattle.draw.specs.Tables.{IsFaultOf, IsNoStation}
use Rattle.draw.specs.declared.rows.Why.TheVariants.{Fields, Kind}

-- what a pattern reads beyond the end
abbrev pub no_text : Bor (List ℕ)
no_text = record { ref_ptr = (0, 0); now = [] }

-- the first line and those behind it
pub texts_first : (lines : List (Bor (List ℕ))) (none : Bor (List ℕ)) → 1 ≤ length lines
    → texts lines ≡ (get_or lines 0 none).now ∷ texts (take (length lines - 1) (drop 1 lines))
texts_first [] none some = absurd (omega arith)
texts_first (x ∷ lines) none some =
    let all : take (suc (length lines) - 1) lines ≡ lines = take_all _ lines (omega arith) in
    ap (λ (others : List (Bor (List ℕ))). x.now ∷ texts others) (sym all)

pub texts_three : (fields : List (Bor (List ℕ))) (none : Bor (List ℕ)) → length fields ≡ 3
    → texts fields ≡ (get_or fields 0 none).now ∷ (get_or fields 1 none).now ∷ (get_or fields 2 none).now ∷ []
texts_three [] none many = absurd (omega arith)
texts_three (x0 ∷ []) none many = absurd (omega arith)
texts_three (x0 ∷ x1 ∷ []) none many = absurd (omega arith)
texts_three (x0 ∷ x1 ∷ x2 ∷ []) none many = refl
texts_three (x0 ∷ x1 ∷ x2 ∷ x3 ∷ more) none many = absurd (omega arith)

pub texts_four : (fields : List (Bor (List ℕ))) (none : Bor (List ℕ)) → length fields ≡ 4
    → texts fields ≡ (get_or fields 0 none).now ∷ (get_or fields 1 none).now ∷ (get_or fields 2 none).now ∷ (get_or fields 3 none).now ∷ []
texts_four [] none many = absurd (omega arith)
texts_four (x0 ∷ []) none many = absurd (omega arith)
texts_four (x0 ∷ x1 ∷ []) none many = absurd (omega arith)
texts_four (x0 ∷ x1 ∷ x2 ∷ []) none many = absurd (omega arith)
texts_four (x0 ∷ x1 ∷ x2 ∷ x3 ∷ []) none many = refl
texts_four (x0 ∷ x1 ∷ x2 ∷ x3 ∷ x4 ∷ more) none many = absurd (omega arith)

pub texts_five : (fields : List (Bor (List ℕ))) (none : Bor (List ℕ)) → length fields ≡ 5
    → texts fields ≡ (get_or fields 0 none).now ∷ (get_or fields 1 none).now ∷ (get_or fields 2 none).now ∷ (get_or fields 3 none).now ∷ (get_or fields 4 none).now ∷ []
texts_five [] none many = absurd (omega arith)
texts_five (x0 ∷ []) none many = absurd (omega arith)
texts_five (x0 ∷ x1 ∷ []) none many = absurd (omega arith)
texts_five (x0 ∷ x1 ∷ x2 ∷ []) none many = absurd (omega arith)
texts_five (x0 ∷ x1 ∷ x2 ∷ x3 ∷ []) none many = absurd (omega arith)
texts_five (x0 ∷ x1 ∷ x2 ∷ x3 ∷ x4 ∷ []) none many = refl
texts_five (x0 ∷ x1 ∷ x2 ∷ x3 ∷ x4 ∷ x5 ∷ more) none many = absurd (omega arith)

pub reading_others : (fields : List (Bor (List ℕ))) → (length fields ≡ 3 → ⊥) → reading_in (texts fields) ≡ Err Fields
unfolding reading_in
reading_others [] other = refl
reading_others (x0 ∷ []) other = refl
reading_others (x0 ∷ x1 ∷ []) other = refl
reading_others (x0 ∷ x1 ∷ x2 ∷ []) other = absurd (other refl)
reading_others (x0 ∷ x1 ∷ x2 ∷ x3 ∷ more) other = refl

pub measurement_others : (fields : List (Bor (List ℕ))) → (length fields ≡ 4 → ⊥) → measurement_in (texts fields) ≡ Err Fields
unfolding measurement_in
measurement_others [] other = refl
measurement_others (x0 ∷ []) other = refl
measurement_others (x0 ∷ x1 ∷ []) other = refl
measurement_others (x0 ∷ x1 ∷ x2 ∷ []) other = refl
measurement_others (x0 ∷ x1 ∷ x2 ∷ x3 ∷ []) other = absurd (other refl)
measurement_others (x0 ∷ x1 ∷ x2 ∷ x3 ∷ x4 ∷ more) other = refl

pub day_others : (fields : List (Bor (List ℕ))) → (length fields ≡ 5 → ⊥) → day_in (texts fields) ≡ Err Fields
unfolding day_in
day_others [] other = refl
day_others (x0 ∷ []) other = refl
day_others (x0 ∷ x1 ∷ []) other = refl
day_others (x0 ∷ x1 ∷ x2 ∷ []) other = refl
day_others (x0 ∷ x1 ∷ x2 ∷ x3 ∷ []) other = refl
day_others (x0 ∷ x1 ∷ x2 ∷ x3 ∷ x4 ∷ []) other = absurd (other refl)
day_others (x0 ∷ x1 ∷ x2 ∷ x3 ∷ x4 ∷ x5 ∷ more) other = refl

pub station_others : (fields : List (Bor (List ℕ))) → (length fields ≡ 5 → ⊥) → IsNoStation (texts fields) Fields
station_others [] other = refl
station_others (x0 ∷ []) other = refl
station_others (x0 ∷ x1 ∷ []) other = refl
station_others (x0 ∷ x1 ∷ x2 ∷ []) other = refl
station_others (x0 ∷ x1 ∷ x2 ∷ x3 ∷ []) other = refl
station_others (x0 ∷ x1 ∷ x2 ∷ x3 ∷ x4 ∷ []) other = absurd (other refl)
station_others (x0 ∷ x1 ∷ x2 ∷ x3 ∷ x4 ∷ x5 ∷ more) other = refl

-- there is no field, or no line
pub no_field : (fields : List (Bor (List ℕ))) → length fields < 1 → row_in (texts fields) ≡ Err Kind
unfolding row_in
no_field [] none = refl
no_field (x ∷ fields) none = absurd (omega arith)

pub no_line : (lines : List (Bor (List ℕ))) → length lines < 1 → IsFaultOf (texts lines) (record { why = Fields; line = 1 })
no_line [] none = refl
no_line (x ∷ lines) none = absurd (omega arith)
