-- The journal is longer by the record of the edit.
use Rattle.std.specs.Prelude.{◌≡◌, ◌+◌}
use Rattle.std.proofs.Common.{arith}
use Rattle.history.specs.Accepted.{accepted, journal_size}
use Rattle.history.specs.Verdicts.{with_record}
use Rattle.register.proofs.RoomLemmas.{journal_with, checked_counts, checked_most}
use Rattle.register.proofs.registers.Register.journal_after.Goals as goal

pub returns-clause-counted : goal.returns-clause-counted
returns-clause-counted c =
    let whole = journal_with c.self.inside.format c.self.inside.past c.args.piece.now in
    let kept = c.self.invariant.journal_is in
    let added = c.block_len.ensures in
    let sum : c.self.inside.journal_bytes + c.block_len.result ≡ journal_size c.args.self.now.history.format (accepted (with_record c.args.self.now.history c.args.piece.now)) = rw (← c.self.view_is) (omega (arith, whole, kept, added)) in
    checked_counts c.checked_add.result _ _ c.checked_add.ensures sum

pub returns-clause-most : goal.returns-clause-most
returns-clause-most c =
    let whole = journal_with c.self.inside.format c.self.inside.past c.args.piece.now in
    let kept = c.self.invariant.journal_is in
    let added = c.block_len.ensures in
    let sum : c.self.inside.journal_bytes + c.block_len.result ≡ journal_size c.args.self.now.history.format (accepted (with_record c.args.self.now.history c.args.piece.now)) = rw (← c.self.view_is) (omega (arith, whole, kept, added)) in
    checked_most c.checked_add.result _ _ c.checked_add.ensures sum
