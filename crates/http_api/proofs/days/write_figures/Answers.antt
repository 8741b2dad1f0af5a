-- The members are added one after another, each of the figures.
use Rattle.std.proofs.Common.{is_some}
use Rattle.std.proofs.lemmas.Result.{on_ok_weaker}
use Rattle.daily_values.specs.Figures.{mean_stage, published_discharge}
use Rattle.http_api.specs.Days.{discharge_members, length_members, stage_members}
use Rattle.http_api.proofs.TextLemmas.{three_joined}
use Rattle.http_api.proofs.days.write_figures.Goals as goal

pub returns-clause-ok : goal.returns-clause-ok
returns-clause-ok c =
    let figures = c.args.figures.now in
    on_ok_weaker c.write_stage.result
    (λ told. three_joined c.args.out.now (discharge_members figures.discharge.covered (published_discharge figures))
    (length_members (is_some figures.estimate) figures.length) (stage_members figures.extremes (mean_stage figures)) c.write_discharge.new.out
    c.write_length.new.out c.write_stage.new.out
    (rw (c.discharge.ensures.sum, c.discharge_text.ensures) at c.in_ok-write_discharge.ensures.ok)
    (rw (c.is_some.ensures, c.estimate.ensures.estimate, c.length.ensures) at c.in_ok-write_length.ensures.ok)
    (rw (c.extremes.ensures, c.stage_text.ensures) at told))
    c.write_stage.ensures.ok
