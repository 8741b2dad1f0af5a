use Rattle.std.proofs.Common.{◌≡◌, ◌∙◌, decimal}
use Rattle.std.proofs.lemmas.Fmt.{decimal_nonempty}
use Rattle.std.proofs.lemmas.Result.{on_err_weaker}
use Rattle.fixed_units.proofs.PublishedLemmas.{front-kept}
use Rattle.fixed_units.proofs.published.write_parts.Goals as goal

pub write_figures-requires : goal.write_figures-requires
write_figures-requires c =
    let text : c.as_bytes-digits.result.now ≡ decimal c.unsigned_abs.result = c.as_bytes-digits.ensures.value ∙ c.format.ensures.text in
    rw text (decimal_nonempty c.unsigned_abs.result c.unsigned_abs.type_inv)

pub returns-clause-err : goal.returns-clause-err
returns-clause-err c =
    on_err_weaker c.write_figures.result
    (front-kept c.args.out.now c.write_sign.new.out c.write_figures.new.out _ c.in_ok-write_sign.ensures.ok)
    c.write_figures.ensures.err
