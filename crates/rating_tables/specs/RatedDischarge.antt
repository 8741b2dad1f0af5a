-- The rated discharge of a stage and the stage of a discharge, by cases.
use Rattle.std.specs.Prelude.{◌≡◌, ◌≢◌, ◌⊎◌, List, ◌∷◌, ◌++◌, Option, None, Some, IsSomeAnd, ℤ, ◌<ℤ◌, ◌≤ℤ◌, All, Contains}
use Rattle.fixed_units.specs.Lines.{line_at}
use Rattle.rating_tables.specs.declared.table.Rated.{Rated}
use Rattle.rating_tables.specs.declared.table.Rated.TheVariants.{Value, Below, Above}
use Rattle.rising.specs.Ends.{first, last}
use Rattle.rating_tables.specs.Table.{Row, turned}

-- two rows of which one follows the other, and a number between those of their stages or discharges
pub record IsBetween (number : Row → ℤ) (rows : List Row) (at : ℤ) : Type 0 where
  pub front : List Row
  pub lower : Row
  pub upper : Row
  pub back : List Row
  pub neighbours : rows ≡ front ++ lower ∷ upper ∷ back
  pub above : number lower <ℤ at
  pub below : at <ℤ number upper

-- a stage between two rows, and what their line has there
abbrev pub IsOnLine : List Row → ℤ → ℤ → Type 0
IsOnLine rows stage discharge = (around : IsBetween (λ r. r.0) rows stage) × (discharge ≡ line_at around.lower around.upper stage)

-- the rated discharge of a stage: there is none below the first row and none above the last one, on a row it is that
-- row's, and between two rows it is the line's
abbrev pub IsRated : List Row → ℤ → Rated → Type 0
IsRated rows stage Below = IsSomeAnd (first rows) (λ r. stage <ℤ r.0)
IsRated rows stage Above = IsSomeAnd (last rows) (λ r. r.0 <ℤ stage)
IsRated rows stage (Value discharge) = Contains rows (stage, discharge) ⊎ IsOnLine rows stage discharge

-- the first row of a discharge stands at a stage
pub record IsFirstOf (rows : List Row) (discharge stage : ℤ) : Type 0 where
  pub front : List Row
  pub back : List Row
  pub whole : rows ≡ front ++ (stage, discharge) ∷ back
  pub first : All (λ r. r.1 ≢ discharge) front

-- a discharge between those of two rows, and what their line, read the other way round, has there
abbrev pub IsOnTurnedLine : List Row → ℤ → ℤ → Type 0
IsOnTurnedLine rows discharge stage =
    (around : IsBetween (λ r. r.1) rows discharge) × (stage ≡ line_at (turned around.lower) (turned around.upper) discharge)

-- a discharge from the first row's to the last row's, and one outside them
pub record IsInside (rows : List Row) (discharge : ℤ) : Type 0 where
  pub low : IsSomeAnd (first rows) (λ r. r.1 ≤ℤ discharge)
  pub high : IsSomeAnd (last rows) (λ r. discharge ≤ℤ r.1)

abbrev pub IsOutside : List Row → ℤ → Type 0
IsOutside rows discharge = IsSomeAnd (first rows) (λ r. discharge <ℤ r.1) ⊎ IsSomeAnd (last rows) (λ r. r.1 <ℤ discharge)

-- the stage of a discharge: there is none outside the first and the last row's, otherwise it is that of the first row of
-- this discharge, or the line's between two rows
abbrev pub IsStageOf : List Row → ℤ → Option ℤ → Type 0
IsStageOf rows discharge None = IsOutside rows discharge
IsStageOf rows discharge (Some stage) = IsFirstOf rows discharge stage ⊎ IsOnTurnedLine rows discharge stage
