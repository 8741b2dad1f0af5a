use Rattle.std.proofs.Common.{codes, w64, arith}
use Rattle.std.proofs.lemmas.Int.{fits_signed_from_abs, to_z-of_z}
use Rattle.std.proofs.lemmas.Result.{on_err_weaker, on_ok_weaker}
use Rattle.fixed_units.proofs.PublishedLemmas.{front-kept}
use Rattle.fixed_units.specs.PublishedText.{micro_text}
use Rattle.water_year.specs.YearText.{mean_text}
use Rattle.water_year.proofs.TextLemmas.{named_joined}
use Rattle.water_year.proofs.lines.write_sums.Goals as goal

pub returns-clause-ok : goal.returns-clause-ok
returns-clause-ok c =
    let month = c.args.month.now in
    let fits = fits_signed_from_abs w64 month.total (omega (arith, c.requires.total, c.requires.few)) in
    let total = rw (to_z-of_z w64 month.total fits) at c.in_ok-write_amount.ensures.ok in
    on_ok_weaker c.write_value.result
    (λ told. named_joined c.args.out.now (codes " TOTAL ") (micro_text month.total) (codes " MEAN ") (mean_text c.args.array.now month.total month.days)
    c.write_amount.new.out c.write_value.new.out total (rw c.mean.ensures at told))
    c.write_value.ensures.ok

pub returns-clause-err : goal.returns-clause-err
returns-clause-err c =
    on_err_weaker c.write_value.result
    (front-kept c.args.out.now c.write_amount.new.out c.write_value.new.out _ c.in_ok-write_amount.ensures.ok)
    c.write_value.ensures.err
