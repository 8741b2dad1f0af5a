use Rattle.std.specs.Prelude.{◌≡◌, All}
use Rattle.std.proofs.Common.{subst, sym}
use Rattle.shared_office.specs.Passing.{Lock}
use Rattle.serving.proofs.EndLemmas.{end_told}
use Rattle.serving.proofs.whole.serve_all.Goals as goal

pub returns-clause-end : goal.returns-clause-end
returns-clause-end g c =
    end_told c.serve_in_room-pass.result.1 c.serve_end.result c.args.connections _ _ _ c.serve_end.ensures.end c.serve_in_room-pass.ensures.all c.serve_in_room-pass.ensures.failed

pub serve_in_room-pass-requires-clause-locks : goal.serve_in_room-pass-requires-clause-locks
serve_in_room-pass-requires-clause-locks g c κs within =
    let made = c.in-Some-copies.ensures in
    (made.0, subst (λ (t : Lock g.row.D.Denot g.D.Disk). All (λ l. l.value ≡ t) c.in-Some-copies.locks.items) (sym c.deref.ensures) made.1)
