use Rattle.std.proofs.Common.{codes, w64, arith}
use Rattle.std.proofs.lemmas.Int.{fits_signed_from_abs, to_z-of_z}
use Rattle.std.proofs.lemmas.Result.{on_ok_weaker}
use Rattle.fixed_units.specs.PublishedText.{micro_text}
use Rattle.water_year.proofs.TextLemmas.{named_joined}
use Rattle.water_year.proofs.lines.write_extremes.Goals as goal

pub returns-clause-ok : goal.returns-clause-ok
returns-clause-ok c =
    let month = c.args.month.now in
    let most_fits = fits_signed_from_abs w64 month.most (omega (arith, c.requires.most)) in
    let least_fits = fits_signed_from_abs w64 month.least (omega (arith, c.requires.least)) in
    let most = rw (to_z-of_z w64 month.most most_fits) at c.in_ok-write_amount.ensures.ok in
    on_ok_weaker c.write_amount-2.result
    (λ told. named_joined c.args.out.now (codes " MAX ") (micro_text month.most) (codes " MIN ") (micro_text month.least)
    c.write_amount.new.out c.write_amount-2.new.out most (rw (to_z-of_z w64 month.least least_fits) at told))
    c.write_amount-2.ensures.ok
