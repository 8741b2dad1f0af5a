-- The sums, the extremes and the volume.
use Rattle.std.proofs.Common.{ap, sym, ◌∙◌}
use Rattle.std.proofs.lemmas.Result.{on_err_weaker, on_ok_weaker}
use Rattle.water_year.specs.YearText.{extremes_text, sums_text, volume_text}
use Rattle.fixed_units.proofs.PublishedLemmas.{front-kept}
use Rattle.water_year.proofs.TextLemmas.{on_err, three_joined, two_joined}
use Rattle.water_year.proofs.lines.write_figures.Goals as goal

pub returns-in_err-write_extremes-clause-err : goal.returns-in_err-write_extremes-clause-err
returns-in_err-write_extremes-clause-err c =
    on_err c.from_residual-in_err-write_extremes.result
    (front-kept c.args.out.now c.write_sums.new.out c.write_extremes.new.out _ c.in_ok-write_sums.ensures.ok c.in_err-write_extremes.ensures.err)

pub returns-clause-ok : goal.returns-clause-ok
returns-clause-ok c =
    let month = c.args.month.now in
    on_ok_weaker c.write_value.result
    (λ told. three_joined c.args.out.now (sums_text c.args.array.now month) (extremes_text month) (volume_text month) c.write_sums.new.out
    c.write_extremes.new.out c.write_value.new.out c.in_ok-write_sums.ensures.ok c.in_ok-write_extremes.ensures.ok (rw c.acre_feet.ensures at told))
    c.write_value.ensures.ok

pub returns-clause-err : goal.returns-clause-err
returns-clause-err c =
    on_err_weaker c.write_value.result
    (front-kept c.args.out.now c.write_extremes.new.out c.write_value.new.out _
    (two_joined c.args.out.now _ _ c.write_sums.new.out c.write_extremes.new.out c.in_ok-write_sums.ensures.ok c.in_ok-write_extremes.ensures.ok))
    c.write_value.ensures.err
