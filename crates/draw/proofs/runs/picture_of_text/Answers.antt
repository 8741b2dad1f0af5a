-- The picture is that of the table which was read.
use Rattle.std.proofs.Common.{sym, subst}
use Rattle.std.proofs.lemmas.Result.{IfErr-weaker, IfOk-weaker}
use Rattle.draw.specs.Runs.{IsNoPicture, IsPicture, IsPictureOf, IsUndrawn}
use Rattle.draw.proofs.RunLemmas.{no_picture_undrawn, refused_undrawn}
use Rattle.draw.proofs.runs.picture_of_text.Goals as goal

pub returns-in-Ok-clause-drawn : goal.returns-in-Ok-clause-drawn
returns-in-Ok-clause-drawn c =
    IfOk-weaker c.picture_of_table.result (IsPicture c.in-Ok.table) (IsPictureOf c.args.text.now) (λ picture made. (c.in-Ok.table, c.in-Ok.ensures.read, made))
    c.picture_of_table.ensures.drawn

pub returns-in-Ok-clause-undrawn : goal.returns-in-Ok-clause-undrawn
returns-in-Ok-clause-undrawn c =
    IfErr-weaker c.picture_of_table.result (IsNoPicture c.in-Ok.table) (IsUndrawn c.args.text.now)
    (λ end none. no_picture_undrawn c.args.text.now c.in-Ok.table end c.in-Ok.ensures.read none)
    c.picture_of_table.ensures.undrawn

pub returns-in-Err-clause-undrawn : goal.returns-in-Err-clause-undrawn
returns-in-Err-clause-undrawn c =
    subst (IsUndrawn c.args.text.now) (sym c.end_refused.ensures) (refused_undrawn c.args.text.now c.in-Err.fault.why c.in-Err.fault c.in-Err.ensures.refused)
