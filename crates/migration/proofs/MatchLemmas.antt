-- How a match goes on with each record that is read.
use Rattle.std.proofs.Common.{◌≡◌, ◌≢◌, ℕ, ◌+◌, ◌<◌, true, false, List, [], ◌∷◌, ◌++◌, length, Some, refl, sym, ◌∙◌, ap, append_assoc, length-append}
use Rattle.std.proofs.lemmas.Option.{slice_get_within}
use Rattle.std.specs.Prelude.{slice_get}
use Rattle.migration.specs.Matching.{IsMatched}
use Rattle.records.specs.Sheets.{Record}

-- the record behind the first ones
next_of : (copied rest : List Record) (record_there : Record) → slice_get (copied ++ rest) (length copied) ≡ Some record_there
    → (behind : List Record) × (rest ≡ record_there ∷ behind)
next_of [] [] record_there e = absurd (cc)
next_of [] (first ∷ rest) record_there e = let same : first ≡ record_there = cc in (rest, ap (λ (r : Record). r ∷ rest) same)
next_of (one ∷ copied) rest record_there e = next_of copied rest record_there e

there_next : (copied behind : List Record) (piece : Record) → slice_get ((copied ++ piece ∷ []) ++ behind) (length copied) ≡ Some piece
there_next [] behind piece = refl
there_next (one ∷ copied) behind piece = there_next copied behind piece

-- no record was read
pub none_matched : (records : List Record) → IsMatched false 0 records []
none_matched records = ((records, refl), refl)

-- one more that is the one in its place
pub one_matched : (records copied : List Record) (same : ℕ) (piece : Record) → IsMatched false same records copied → slice_get records same ≡ Some piece
    → IsMatched false (same + 1) records (copied ++ piece ∷ [])
one_matched records copied same piece matched there =
    let front = matched.0 in
    let here : slice_get (copied ++ front.0) (length copied) ≡ Some piece =
    ap (λ (l : List Record). slice_get l (length copied)) front.1 ∙ ap (slice_get records) matched.1 ∙ there in
    let next = next_of copied front.0 piece here in (
      (next.0, append_assoc copied (piece ∷ []) next.0 ∙ ap (λ (l : List Record). copied ++ l) (sym next.1) ∙ front.1),
      length-append copied (piece ∷ []) ∙ ap (λ (n : ℕ). n + 1) matched.1,
    )

-- one that is another
pub one_differs : (records copied : List Record) (same : ℕ) (piece : Record) → IsMatched false same records copied → slice_get records same ≢ Some piece
    → IsMatched true same records (copied ++ piece ∷ [])
one_differs records copied same piece matched other = record {
  before = copied;
  other = piece;
  behind = [];
  copied_are = refl;
  number_is = ap (λ (n : ℕ). n + 1) (sym matched.1);
  same = matched.0;
  differs = λ front. other
      (ap (slice_get records) (sym matched.1) ∙ ap (λ (l : List Record). slice_get l (length copied)) (sym front.1)
      ∙ there_next copied front.0 piece);
}

-- and one more behind another
pub still_differs : (records copied : List Record) (same : ℕ) (piece : Record) → IsMatched true same records copied
    → IsMatched true same records (copied ++ piece ∷ [])
still_differs records copied same piece d = record {
  before = d.before;
  other = d.other;
  behind = d.behind ++ piece ∷ [];
  copied_are = ap (λ (l : List Record). l ++ piece ∷ []) d.copied_are ∙ append_assoc d.before (d.other ∷ d.behind) (piece ∷ []);
  number_is = d.number_is;
  same = d.same;
  differs = d.differs;
}

-- what stands in a place is one record
pub is_other : (records : List Record) (same : ℕ) (here piece : Record) → slice_get records same ≡ Some here → here ≢ piece → slice_get records same ≢ Some piece
is_other records same here piece there other e = other (some_one here piece (sym there ∙ e))
  where
    some_one : (a b : Record) → Some a ≡ Some b → a ≡ b
    some_one a b e = cc

pub is_past : (records : List Record) (same : ℕ) (piece : Record) → (same < length records → ⊥) → slice_get records same ≢ Some piece
is_past records same piece past e = past (slice_get_within records same piece e)
