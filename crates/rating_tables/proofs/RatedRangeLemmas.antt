-- What a rating's table gives keeps to the ranges of its rows.
use Rattle.std.proofs.Common.{subst, sym, inl, inr, List, ◌∷◌, Option, Some, None, ℤ, pos, neg_ℤ, ◌<ℤ◌, arith}
use Rattle.std.specs.Prelude.{All, IfSome}
use Rattle.std.proofs.lemmas.Int.{ints}
use Rattle.std.proofs.lemmas.List.Elements.{All-contains, All-head, All-tail}
use Rattle.rising.proofs.Selecting.{All-back}
use Rattle.fixed_units.specs.Quantities.{IsDischarge, IsStage, most_discharge, most_stage}
use Rattle.fixed_units.proofs.LineLemmas.{line-within}
use Rattle.rating_tables.specs.RatedDischarge.{IsRated, IsStageOf}
use Rattle.rating_tables.specs.Table.{Row, IsRatingRow, turned}
use Rattle.rating_tables.specs.declared.table.Rated.TheVariants.{Value}

-- on a row it is that row's, and on a line it lies between those of the line's ends
pub rated-IsDischarge : (rows : List Row) (stage discharge : ℤ) → All IsRatingRow rows → IsRated rows stage (Value discharge) → IsDischarge discharge
rated-IsDischarge rows stage discharge h (inl on) = (All-contains IsRatingRow rows (stage, discharge) h on).discharge
rated-IsDischarge rows stage discharge h (inr line) =
    let around = line.0 in
    let behind = All-back IsRatingRow around.front (around.lower ∷ around.upper ∷ around.back) (subst (All IsRatingRow) around.neighbours h) in
    let above = All-tail IsRatingRow around.lower (around.upper ∷ around.back) behind in
    let low : around.lower.0 <ℤ stage = around.above in
    let high : stage <ℤ around.upper.0 = around.below in
    subst IsDischarge (sym line.1)
    (line-within around.lower around.upper stage (pos 0) (pos most_discharge) (omega (arith, ints)) (omega (arith, ints)) (omega (arith, ints))
    (All-head IsRatingRow around.lower (around.upper ∷ around.back) behind).discharge (All-head IsRatingRow around.upper around.back above).discharge)

-- and the stage of a discharge keeps to the range of its rows' stages
pub stage-IsStage : (rows : List Row) (discharge : ℤ) (o : Option ℤ) → All IsRatingRow rows → IsStageOf rows discharge o → IfSome o IsStage
stage-IsStage rows discharge None h is = tt
stage-IsStage rows discharge (Some stage) h (inl first) =
    (All-head IsRatingRow (stage, discharge) first.back (All-back IsRatingRow first.front ((stage, discharge) ∷ first.back) (subst (All IsRatingRow) first.whole h))).stage
stage-IsStage rows discharge (Some stage) h (inr line) =
    let around = line.0 in
    let behind = All-back IsRatingRow around.front (around.lower ∷ around.upper ∷ around.back) (subst (All IsRatingRow) around.neighbours h) in
    let above = All-tail IsRatingRow around.lower (around.upper ∷ around.back) behind in
    let low : around.lower.1 <ℤ discharge = around.above in
    let high : discharge <ℤ around.upper.1 = around.below in
    subst IsStage (sym line.1)
    (line-within (turned around.lower) (turned around.upper) discharge (neg_ℤ (pos most_stage)) (pos most_stage) (omega (arith, ints)) (omega (arith, ints)) (omega (arith, ints))
    (All-head IsRatingRow around.lower (around.upper ∷ around.back) behind).stage (All-head IsRatingRow around.upper around.back above).stage)
