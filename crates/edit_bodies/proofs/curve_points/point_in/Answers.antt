use Rattle.std.proofs.Common.{◌∙◌}
use Rattle.edit_bodies.proofs.RowLemmas.{both_read}
use Rattle.edit_bodies.proofs.curve_points.point_in.Goals as goal
use Rattle.edit_bodies.specs.Grammars.{amount_of, stage_of}

pub returns-in_err-stage : goal.returns-in_err-stage
returns-in_err-stage c = c.from_residual.ensures ∙ c.in_err-stage.ensures.none stage_of amount_of

pub returns : goal.returns
returns c =
    c.zip.ensures ∙ both_read stage_of amount_of _ _ _ c.stage_in.result c.amount_in.result c.in_ok-stage.ensures.some c.stage_in.ensures.value c.amount_in.ensures.value
