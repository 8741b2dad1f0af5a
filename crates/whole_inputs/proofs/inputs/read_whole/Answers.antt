use Rattle.std.proofs.Common.{◌≤◌, ◌+◌, length, arith, rules}
use Rattle.whole_inputs.proofs.InputLemmas.{within_more}
use Rattle.whole_inputs.proofs.inputs.read_whole.Goals as goal

-- no more was taken than there was room for
pub returns-in_err-take_more-clause-taken : goal.returns-in_err-take_more-clause-taken
returns-in_err-take_more-clause-taken g c =
    let room : length c.loop-text.text + c.min-room.result ≤ c.args.most + 1 =
    omega (arith, c.min-room.ensures, c.saturating_add.ensures, c.len-in-loop-text.ensures, c.loop-text-test.true, c.len.ensures, c.loop-text.invariant.few) in
    within_more (c.args.most + 1) c.min-room.result (g.S.Source.left c.args.source.now) (g.S.Source.left c.loop-text.source) (g.S.Source.left c.take_more.new.source)
    c.loop-text.text c.loop-text.invariant.taken (search rules) room
