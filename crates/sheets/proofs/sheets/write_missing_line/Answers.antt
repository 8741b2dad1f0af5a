use Rattle.std.proofs.Common.{codes}
use Rattle.std.specs.Prelude.{decimal}
use Rattle.std.proofs.lemmas.Result.{on_ok_weaker}
use Rattle.sheets.specs.Sheets.{missing_line}
use Rattle.sheets.proofs.JoinLemmas.{counts_joined}
use Rattle.sheets.proofs.SizeLemmas.{missing-few}
use Rattle.sheets.proofs.sheets.write_missing_line.Goals as goal

pub returns-clause-ok : goal.returns-clause-ok
unfolding missing_line
returns-clause-ok c =
    let counts = c.args.counts.now in
    on_ok_weaker c.push.result
    (counts_joined c.args.out.now (codes "MISSING AFFECTED ") (decimal counts.affected) (codes " NORATING ") (decimal counts.no_rating)
    (codes " BELOW ") (decimal counts.below) (codes " ABOVE ") (decimal counts.above) (codes "\n") c.write_count.new.out c.write_count-2.new.out
    c.write_count-3.new.out c.write_count-4.new.out c.push.new.self c.in_ok-write_count.ensures.ok c.in_ok-write_count-2.ensures.ok
    c.in_ok-write_count-3.ensures.ok c.in_ok-write_count-4.ensures.ok)
    c.push.ensures.ok

pub returns-clause-size : goal.returns-clause-size
returns-clause-size c =
    on_ok_weaker c.push.result
    (λ told. missing-few c.args.counts.now c.in_ok-write_count.ensures.size c.in_ok-write_count-2.ensures.size c.in_ok-write_count-3.ensures.size
    c.in_ok-write_count-4.ensures.size)
    c.push.ensures.ok
