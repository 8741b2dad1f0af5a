-- Row by row.
use Rattle.std.proofs.Common.{◌≡◌, rules, subst, sym, Bool}
use Rattle.std.specs.Bool.{Decides}
use Rattle.rating_tables.specs.RowEquality.{same_rows}
use Rattle.rating_tables.proofs.RowLemmas.{rows_decide}
use Rattle.rating_tables.proofs.shared.SharedTable.is_same.Goals as goal

pub returns-clause-equal : goal.returns-clause-equal
returns-clause-equal c =
    let told : c.eq.result ≡ same_rows c.args.self.now c.args.other.now = search rules in
    subst (λ (b : Bool). Decides b (c.args.self.now ≡ c.args.other.now)) (sym told) (rows_decide c.args.self.now c.args.other.now)
