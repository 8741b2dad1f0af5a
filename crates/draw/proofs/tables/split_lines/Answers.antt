use Rattle.std.specs.Prelude.{◌≡◌, IfOk}
use Rattle.std.specs.Str.Lines.{lines}
use Rattle.std.proofs.lemmas.Iterator.Consumers.{map_from_collect}
use Rattle.std.proofs.lemmas.Iterator.Splits.{YieldsList-from_lines}
use Rattle.std.proofs.lemmas.Result.{IfOk-at_ok}
use Rattle.draw.specs.Rows.{texts}
use Rattle.draw.proofs.tables.split_lines.Goals as goal

pub returns : goal.returns
returns c =
    let all : IfOk c.collect.result (λ found. texts found.items ≡ lines c.args.text.now) =
    map_from_collect _ c.collect.ensures.ran (YieldsList-from_lines c.args.text.now c.lines.ensures.rest) in
    IfOk-at_ok (λ found. texts found.items ≡ lines c.args.text.now) c.in_ok-found.was all
