-- The next record is appended behind the others.
use Rattle.std.proofs.Common.{◌++◌, take, ◌∙◌}
use Rattle.migration.proofs.AppendLemmas.{between_on, gate_on, holds_on, room_on}
use Rattle.migration.proofs.WrittenLemmas.{gate_within, wrote_on}
use Rattle.migration.proofs.copying.append_all.Goals as goal

pub append-requires-clause-room : goal.append-requires-clause-room
append-requires-clause-room g c =
    let so_far = c.loop-piece.invariant in
    room_on c.args.records.now c.loop-piece.piece-index c.piece-item.result c.args.journal.now.gate c.loop-piece.journal.gate c.loop-piece.journal.limit
    c.args.journal.now.limit c.loop-piece-test.true c.piece-item.is so_far.gate c.requires.room so_far.limit

pub returns-in_err-append-clause-any_moment : goal.returns-in_err-append-clause-any_moment
returns-in_err-append-clause-any_moment g c done held =
    let so_far = c.loop-piece.invariant in
    let first = take c.loop-piece.piece-index c.args.records.now in
    between_on g.D.Disk done c.args.records.now c.loop-piece.piece-index c.piece-item.result c.args.journal.now.disk c.loop-piece.journal.disk
    c.append.new.journal.disk c.loop-piece-test.true c.piece-item.is (so_far.any_moment done held)
    (c.append.ensures.any_moment (done ++ first) (so_far.holds done held))

pub loop-piece-preserved : goal.loop-piece-preserved
loop-piece-preserved g c =
    let so_far = c.loop-piece.invariant in
    let appended = c.in_ok-append.ensures in
    let first = take c.loop-piece.piece-index c.args.records.now in
    record {
      format = c.append.ensures.format;
      settled = appended.settled;
      limit = c.append.ensures.limit ∙ so_far.limit;
      gate =
          gate_on c.args.records.now c.loop-piece.piece-index c.piece-item.result c.args.journal.now.gate c.loop-piece.journal.gate c.append.new.journal.gate
          c.loop-piece-test.true c.piece-item.is so_far.gate appended.gate;
      holds = λ done held.
          holds_on g.D.Disk done c.args.records.now c.loop-piece.piece-index c.piece-item.result c.append.new.journal c.loop-piece-test.true c.piece-item.is
          (appended.appended (done ++ first) (so_far.holds done held));
      any_moment = λ done held.
          between_on g.D.Disk done c.args.records.now c.loop-piece.piece-index c.piece-item.result c.args.journal.now.disk c.loop-piece.journal.disk
          c.append.new.journal.disk c.loop-piece-test.true c.piece-item.is (so_far.any_moment done held)
          (c.append.ensures.any_moment (done ++ first) (so_far.holds done held));
      wrote = λ done held.
          wrote_on c.args.records.now c.loop-piece.piece-index c.piece-item.result (g.D.Disk.content c.args.journal.now.disk)
          (g.D.Disk.content c.loop-piece.journal.disk) (g.D.Disk.content c.append.new.journal.disk) c.args.journal.now.gate c.loop-piece.journal.gate
          c.loop-piece-test.true c.piece-item.is (gate_within done c.args.journal.now held) so_far.gate (so_far.wrote done held) appended.wrote;
      well = appended.done ∙ so_far.well;
    }
