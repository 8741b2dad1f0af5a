-- The readings of a payload where they stand: their order, and whether an edit may put them.
use Rattle.std.specs.Prelude.{◌≡◌, ◌↔◌, Bool, true, List, [], ℕ, ◌<◌, ◌≤◌, ℤ, ◌<ℤ◌, length, All}
use Rattle.std.proofs.Common.{arith, subst, get_or}
use Rattle.std.proofs.lemmas.List.{get_or-map, length-map}
use Rattle.std.proofs.lemmas.List.Elements.{All-map}
use Rattle.rising.specs.Lists.{IsRising}
use Rattle.edits.specs.Lawful.{ArePutReadings, IsPutReading, most_readings}
use Rattle.edits.proofs.ReadingLemmas.{follows, follows_told}
use Rattle.records.specs.Parsing.{reading_in, readings_in}

abbrev pub instant_in : List ℕ → ℤ
instant_in piece = (reading_in piece).at

abbrev pub IsPutPiece : List ℕ → Type 0
IsPutPiece piece = IsPutReading (reading_in piece)

abbrev pub follows_in : List ℕ → List ℕ → Bool
follows_in piece next = follows (reading_in piece) (reading_in next)

pub follows_in_told : (piece next : List ℕ) → follows_in piece next ≡ true ↔ (instant_in piece <ℤ instant_in next) × IsPutPiece next
follows_in_told piece next = follows_told (reading_in piece) (reading_in next)

pub put_counts : (pieces : List (List ℕ)) → ArePutReadings (readings_in pieces) → (1 ≤ length pieces) × (length pieces ≤ most_readings)
put_counts pieces are =
    (omega (arith, are.fewest, length-map pieces reading_in), omega (arith, are.most, length-map pieces reading_in))

pub put_piece : (pieces : List (List ℕ)) (k : ℕ) (d : List ℕ) → k < length pieces → ArePutReadings (readings_in pieces) → IsPutPiece (get_or pieces k d)
put_piece pieces k d below are =
    subst IsPutReading (get_or-map reading_in pieces k d (reading_in d) below) (are.each k (reading_in d) (omega (arith, below, length-map pieces reading_in)))

pub put_stand : (pieces : List (List ℕ)) → ArePutReadings (readings_in pieces) → IsRising instant_in pieces × All IsPutPiece pieces
put_stand pieces are = (
  λ i j d l m.
      let e = reading_in d in
      let here = get_or-map reading_in pieces i d e (omega (arith, l, m)) in
      let there = get_or-map reading_in pieces j d e m in
      let rising = are.rising i j e l (omega (arith, m, length-map pieces reading_in)) in
      rw (here, there) at rising,
  λ k d below. put_piece pieces k d below are,
)

pub put_are : (pieces : List (List ℕ)) → 1 ≤ length pieces → length pieces ≤ most_readings → IsRising instant_in pieces × All IsPutPiece pieces → ArePutReadings (readings_in pieces)
put_are pieces fewest most stand =
    record {
      fewest = omega (arith, fewest, length-map pieces reading_in);
      most = omega (arith, most, length-map pieces reading_in);
      rising = λ i j e l m.
          let d : List ℕ = [] in
          let below : j < length pieces = omega (arith, m, length-map pieces reading_in) in
          let here = get_or-map reading_in pieces i d e (omega (arith, l, below)) in
          let there = get_or-map reading_in pieces j d e below in
          rw (here, there) (stand.0 i j d l below);
      each = All-map IsPutReading reading_in pieces stand.1;
    }
