-- The tests of equality of rows decide it.
use Rattle.std.specs.Prelude.{◌≡◌, List, ℤ}
use Rattle.std.specs.Bool.{Decides}
use Rattle.std.specs.Ordering.{int_eq}
use Rattle.std.proofs.Common.{refl, ap}
use Rattle.std.proofs.lemmas.Bool.Decides.{Decides-int_eq, Decides-and, Decides-like}
use Rattle.std.proofs.lemmas.Slice.Eq.{slice_eq-Decides}
use Rattle.rating_tables.specs.RowEquality.{same_row, same_rows}
use Rattle.rating_tables.specs.Table.{Row}

row_decides : (r s : Row) → Decides (same_row r s) (r ≡ s)
row_decides r s =
    Decides-like (same_row r s) (λ h. paired r s h.0 h.1) (λ e. (ap (λ (x : ℤ × ℤ). x.0) e, ap (λ (x : ℤ × ℤ). x.1) e))
    (Decides-and (int_eq r.0 s.0) (int_eq r.1 s.1) (Decides-int_eq r.0 s.0) (Decides-int_eq r.1 s.1))
  where
    paired : (r s : ℤ × ℤ) → r.0 ≡ s.0 → r.1 ≡ s.1 → r ≡ s
    paired r s e f = let k : ◌≡◌ {A = ℤ × ℤ} (r.0, r.1) (s.0, s.1) = rw (e, f) refl in k

pub rows_decide : (rs ss : List Row) → Decides (same_rows rs ss) (rs ≡ ss)
rows_decide rs ss = slice_eq-Decides row_decides rs ss (same_rows rs ss) refl
