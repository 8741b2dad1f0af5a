-- A turn passes one line.
use Rattle.std.proofs.Common.{◌≡◌, ◌∙◌, sym, suc, ◌+◌, arith, length}
use Rattle.std.proofs.lemmas.Bool.Decides.{nat_tests}
use Rattle.rating_tables.proofs.LineTextLemmas.{kept_first, kept_passed, kept_empty}
use Rattle.rdb_records.proofs.lines.next_line.Goals as goal

pub returns-then-is_kept-clause-lines : goal.returns-then-is_kept-clause-lines
returns-then-is_kept-clause-lines c =
    let next : suc c.loop-rest.number ≡ c.loop-rest.number + 1 = omega arith in
    rw next at (c.loop-rest.invariant.lines ∙ kept_first c.loop-rest.number c.loop-rest.rest.now c.cut_line.result.0.now c.cut_line.result.1.now c.cut_line.ensures.lines (sym c.is_kept.ensures ∙ c.if-is_kept.true))

pub loop-rest-preserved : goal.loop-rest-preserved
loop-rest-preserved c =
    let next : suc c.loop-rest.number ≡ c.loop-rest.number + 1 = omega arith in
    record {
      lines = rw next at (c.loop-rest.invariant.lines ∙ kept_passed c.loop-rest.number c.loop-rest.rest.now c.cut_line.result.0.now c.cut_line.result.1.now c.cut_line.ensures.lines (sym c.is_kept.ensures ∙ c.if-is_kept.false));
      counted = omega arith;
      shorter = omega arith;
    }

pub returns-clause-lines : goal.returns-clause-lines
returns-clause-lines c =
    let empty : length c.loop-rest.rest.now ≡ 0 = grind (arith, nat_tests) in
    c.loop-rest.invariant.lines ∙ kept_empty c.loop-rest.number c.loop-rest.rest.now empty
