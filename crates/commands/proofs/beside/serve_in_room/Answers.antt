use Rattle.std.proofs.Common.{List, subst}
use Rattle.commands.proofs.BesideLemmas.{added, beside_begins, beside_tally, is_beside}
use Rattle.commands.proofs.beside.serve_in_room.Goals as goal
use Rattle.commands.specs.Beside.{ends_told}
use Rattle.commands.specs.Worlds.{sink_told, source_told}
use Rattle.serving.specs.Crews.{AreJoined}
use Rattle.shared_office.specs.declared.entries.Entry.{Entry}

pub returns-clause-begins : goal.returns-clause-begins
returns-clause-begins g c =
    beside_begins c.args.lock.now c.args.pass c.start_workers-pass.result.0 c.session-pass.result.0 c.end-pass.result c.finish_workers.result
    (ends_told (source_told g.S.Source c.args.input.now) (sink_told g.K.Sink c.args.output.now))
    (ends_told (source_told g.S.Source c.session-pass.new.source) (sink_told g.K.Sink c.session-pass.new.sink)) c.session-pass.result.1
    c.end-pass.ensures.held.0 c.args.workers c.start_workers-pass.ensures.same.0 c.start_workers-pass.ensures.same.1
    c.session-pass.ensures.served c.end-pass.ensures.held.1
    (subst (λ (l : List Entry). AreJoined c.args.lock.now l c.end-pass.result c.finish_workers.result c.args.workers) c.start_workers-pass.ensures.begun
    c.finish_workers.ensures.joined)

pub returns-clause-beside : goal.returns-clause-beside
returns-clause-beside g c =
    let lock = c.args.lock.now in
    let given = c.args.pass in
    let started = c.start_workers-pass.result.0 in
    let served = c.session-pass.result.0 in
    let ended = c.end-pass.result in
    let back = c.finish_workers.result in
    let came = ends_told (source_told g.S.Source c.args.input.now) (sink_told g.K.Sink c.args.output.now) in
    let went = ends_told (source_told g.S.Source c.session-pass.new.source) (sink_told g.K.Sink c.session-pass.new.sink) in
    let end = c.session-pass.result.1 in
    let held = c.end-pass.ensures.held in
    let same = c.start_workers-pass.ensures.same in
    let session = c.session-pass.ensures.served in
    let joined = subst (λ (l : List Entry). AreJoined lock l ended back c.args.workers) c.start_workers-pass.ensures.begun c.finish_workers.ensures.joined in (
      added lock given started served ended back came went end held.0 c.args.workers same.0 same.1 session held.1 joined,
      beside_tally lock given started served ended back came went end held.0 c.args.workers same.0 same.1 session held.1 joined,
      is_beside lock given started served ended back came went end held.0 c.args.workers same.0 same.1 session held.1 joined,
    )
