use Rattle.std.proofs.lemmas.Result.{on_ok_weaker}
use Rattle.sheets.proofs.SizeLemmas.{count-few}
use Rattle.sheets.proofs.parts.write_count.Goals as goal

pub returns-clause-size : goal.returns-clause-size
returns-clause-size c = on_ok_weaker c.push_number.result (λ told. count-few c.args.count c.ranges.count.fits) c.push_number.ensures.ok
