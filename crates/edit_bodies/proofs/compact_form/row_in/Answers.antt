use Rattle.std.proofs.Common.{arith}
use Rattle.edit_bodies.proofs.CompactLemmas.{row_three, row_two}
use Rattle.edit_bodies.proofs.compact_form.row_in.Goals as goal

pub returns-in-Some-clause-spelled : goal.returns-in-Some-clause-spelled
returns-in-Some-clause-spelled c =
    row_two c.in_ok-at.at.now c.in_ok-raw.raw.now c.args.text.now c.in_ok-at.rest.now c.in_ok-raw.rest.now c.in-Some.rest.now
    c.in_ok-at.ensures.spelled c.in_ok-raw.ensures.spelled c.in-Some.ensures.parts

pub returns-clause-spelled : goal.returns-clause-spelled
returns-clause-spelled c =
    row_three c.in_ok-at.at.now c.in_ok-raw.raw.now c.in_ok-flag.flag.now c.args.text.now c.in_ok-at.rest.now c.in_ok-raw.rest.now c.in_ok-flag.rest.now c.in_ok-rest.rest.now
    c.in_ok-at.ensures.spelled c.in_ok-raw.ensures.spelled c.in_ok-flag.ensures.spelled c.in_ok-rest.ensures.parts

pub returns-in-Some-clause-shorter : goal.returns-in-Some-clause-shorter
returns-in-Some-clause-shorter c = omega (arith, c.in_ok-at.ensures.shorter, c.in_ok-raw.ensures.shorter, c.in-Some.ensures.shorter)

pub returns-clause-shorter : goal.returns-clause-shorter
returns-clause-shorter c =
    omega (arith, c.in_ok-at.ensures.shorter, c.in_ok-raw.ensures.shorter, c.in_ok-flag.ensures.shorter, c.in_ok-rest.ensures.shorter)
