-- Record after record, until the closed gate.
use Rattle.std.specs.Prelude.{◌++◌, ◌∷◌, [], Ok, Bool}
use Rattle.std.proofs.Common.{arith, ap, sym, ◌∙◌}
use Rattle.office.specs.Replaying.{HasReadmitted, HasReadmittedAll}
use Rattle.records.specs.Sheets.{Record}
use Rattle.office.proofs.ReplayLemmas.{gate_moves, reads_on, of_limits, all_of_limits}
use Rattle.office.proofs.opening.read_all.Goals as goal

pub loop-smaller : goal.loop-smaller
loop-smaller g c =
    let h = c.loop.invariant.read in
    let next : (piece : Record) × HasReadmitted c.loop.register.history.limits (h.0 ++ piece ∷ []) c.read_next.new.register c.read_next.new.opening =
    rw c.if-branch.true at c.in_ok-read_next.ensures.reads h.0 h.1 in
    let moves = gate_moves h.0 next.0 _ _ c.read_next.ensures.format h.1.read next.1.read in
    let within = c.in_ok-read_next.ensures.within (ap (λ (b : Bool). Ok b) c.if-branch.true) in
    omega arith

pub loop-preserved : goal.loop-preserved
loop-preserved g c =
    let h = c.loop.invariant.read in
    let same = c.in_ok-read_next.ensures.limits in
    let next : (piece : Record) × HasReadmitted c.loop.register.history.limits (h.0 ++ piece ∷ []) c.read_next.new.register c.read_next.new.opening =
    rw c.if-branch.true at c.in_ok-read_next.ensures.reads h.0 h.1 in
    record {
      read = (h.0 ++ next.0 ∷ [], of_limits _ _ (h.0 ++ next.0 ∷ []) _ _ (sym same) next.1);
      limits = same ∙ c.loop.invariant.limits;
      disk = reads_on g.D.Disk _ _ _ c.loop.invariant.disk c.in_ok-read_next.ensures.disk;
      done = c.in_ok-read_next.ensures.done ∙ c.loop.invariant.done;
    }

pub returns-clause-all : goal.returns-clause-all
returns-clause-all g c =
    let h = c.loop.invariant.read in
    let all : HasReadmittedAll c.loop.register.history.limits h.0 c.read_next.new.register c.read_next.new.opening =
    rw c.if-branch.false at c.in_ok-read_next.ensures.reads h.0 h.1 in
    (h.0, all_of_limits _ _ h.0 _ _ c.loop.invariant.limits all)
