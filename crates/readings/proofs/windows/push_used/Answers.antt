use Rattle.std.specs.Prelude.{Ok}
use Rattle.std.proofs.Common.{rules, tests, arith}
use Rattle.std.proofs.lemmas.Iterator.{YieldsList-from_slice}
use Rattle.std.proofs.lemmas.Iterator.Consumers.{YieldsList-from_copied, YieldsList-from_filter}
use Rattle.std.proofs.lemmas.Iterator.Adapters.{items_from_extend}
use Rattle.readings.specs.Readings.{is_used}
use Rattle.readings.proofs.Selecting.{filter-whole}
use Rattle.readings.proofs.windows.push_used.Goals as goal

pub returns : goal.returns
returns c =
    let h = items_from_extend {E = Unit {0}} (Ok c.in_ok-extend.field-0) c.in_ok-extend.ensures.ran
    (YieldsList-from_filter _ is_used (YieldsList-from_copied (YieldsList-from_slice c.args.readings.now cc)) c.filter.ensures.closure (λ x r q k. search (rules, tests))) in
    h.0

pub returns-then-used-readings : goal.returns-then-used-readings
returns-then-used-readings c =
    let whole = filter-whole is_used c.args.readings.now (omega (arith, c.requires, c.if-used-readings.true)) in
    rw whole (search (rules, tests))
