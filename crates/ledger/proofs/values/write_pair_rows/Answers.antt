-- The first pair stands before the others.
use Rattle.std.proofs.Common.{arith}
use Rattle.std.proofs.lemmas.Result.{on_ok_weaker}
use Rattle.ledger.specs.Figures.{pair_row, row_text}
use Rattle.ledger.proofs.RowLemmas.{no_rows, rows_joined}
use Rattle.ledger.proofs.values.write_pair_rows.Goals as goal

pub returns-in_default : goal.returns-in_default
returns-in_default c = no_rows pair_row row_text c.args.out.now c.args.pairs.now (omega (arith, c.in_default.len_below))

pub returns : goal.returns
returns c =
    on_ok_weaker c.write_further_pairs.result
    (rows_joined pair_row row_text c.args.out.now c.write_pair.new.out c.write_further_pairs.new.out c.args.pairs.now c.first-item.result c.in-len1-up.len_at_least c.first-item.is c.in_ok-write_pair.ensures)
    c.write_further_pairs.ensures
