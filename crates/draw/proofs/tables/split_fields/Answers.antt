use Rattle.std.specs.Prelude.{◌≡◌, IfOk}
use Rattle.std.proofs.Common.{arith}
use Rattle.std.proofs.lemmas.Iterator.Consumers.{map_from_collect}
use Rattle.std.proofs.lemmas.Iterator.Splits.{YieldsList-from_str_split}
use Rattle.std.proofs.lemmas.Result.{IfOk-at_ok}
use Rattle.draw.specs.Rows.{fields, texts}
use Rattle.draw.proofs.tables.split_fields.Goals as goal

pub returns : goal.returns
returns c =
    let all : IfOk c.collect.result (λ parts. texts parts.items ≡ fields c.args.line.now) =
    map_from_collect _ c.collect.ensures.ran
    (YieldsList-from_str_split 9 c.args.line.now (omega arith) c.split.ensures.text c.split.ensures.has_more c.split.ensures.pattern) in
    IfOk-at_ok (λ parts. texts parts.items ≡ fields c.args.line.now) c.in_ok-parts.was all
