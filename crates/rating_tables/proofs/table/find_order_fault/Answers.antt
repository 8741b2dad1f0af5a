-- A turn looks at one row behind another.
use Rattle.std.proofs.Common.{◌≡◌, ◌∙◌, sym, ◌+◌, ◌-◌, arith}
use Rattle.rating_tables.proofs.TableLemmas.{order_end, fault_found, fault_passed}
use Rattle.rating_tables.proofs.table.find_order_fault.Goals as goal

pub returns-in-Some : goal.returns-in-Some
returns-in-Some c =
    sym (c.loop-i.invariant.1 ∙ fault_found c.loop-i.i c.args.rows.now _ _ c.in-Some.fault (omega arith) (omega arith) c.index-rows-i.is c.index-rows-i-in-loop-i.is (sym c.find_fault_behind.ensures ∙ c.in-Some.is))

pub loop-i-preserved : goal.loop-i-preserved
loop-i-preserved c =
    let same : c.loop-i.i + 1 - 1 ≡ c.loop-i.i = omega arith in
    (omega arith, rw same (c.loop-i.invariant.1 ∙ fault_passed c.loop-i.i c.args.rows.now _ _ (omega arith) (omega arith) c.index-rows-i.is c.index-rows-i-in-loop-i.is (sym c.find_fault_behind.ensures ∙ c.in_default.is)))

pub returns : goal.returns
returns c = sym (c.loop-i.invariant.1 ∙ order_end (c.loop-i.i - 1) c.args.rows.now (omega arith))
