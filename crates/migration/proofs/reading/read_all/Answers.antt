-- Record after record, until the closed gate.
use Rattle.std.specs.Prelude.{Bool, Ok}
use Rattle.std.proofs.Common.{arith, ap, ◌∙◌}
use Rattle.journal.proofs.OnlyReading.{reads_joined}
use Rattle.migration.proofs.reading.read_all.Goals as goal

pub loop-records-smaller : goal.loop-records-smaller
loop-records-smaller g c =
    let yes = ap (λ (b : Bool). Ok b) c.if-branch.true in
    let moves = c.in_ok-read_next.ensures.moves yes in
    let within = c.in_ok-read_next.ensures.within yes in
    omega arith

pub loop-records-preserved : goal.loop-records-preserved
loop-records-preserved g c =
    let yes = ap (λ (b : Bool). Ok b) c.if-branch.true in
    record {
      read = c.in_ok-read_next.ensures.more yes;
      disk = reads_joined g.D.Disk _ _ _ c.loop-records.invariant.disk c.in_ok-read_next.ensures.disk;
      done = c.in_ok-read_next.ensures.done ∙ c.loop-records.invariant.done;
    }

pub returns-clause-all : goal.returns-clause-all
returns-clause-all g c = c.in_ok-read_next.ensures.ended (ap (λ (b : Bool). Ok b) c.if-branch.false)
