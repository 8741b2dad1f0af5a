use Rattle.rating_tables.proofs.StageLawLemmas.{stage_stands, stage_once, stage_by_cases, inside_has_stage, row_has_stage}
use Rattle.std.specs.Prelude.{None}
use Rattle.rating_tables.proofs.laws.discharges_have_a_stage.Goals as goal

pub returns-clause-stands : goal.returns-clause-stands
returns-clause-stands c = stage_stands

pub returns-clause-unique : goal.returns-clause-unique
returns-clause-unique c = stage_once

pub returns-clause-inside : goal.returns-clause-inside
returns-clause-inside c = inside_has_stage

pub returns-clause-outside : goal.returns-clause-outside
returns-clause-outside c = λ rows discharge h k. stage_by_cases rows discharge None h k

pub returns-clause-row : goal.returns-clause-row
returns-clause-row c = row_has_stage
