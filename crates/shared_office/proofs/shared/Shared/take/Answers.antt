use Rattle.std.proofs.Common.{refl}
use Rattle.office.proofs.CountLemmas.{counted_step}
use Rattle.office.specs.Steps.{AnEdit}
use Rattle.shared_office.proofs.EntryLemmas.{go_on_by}
use Rattle.std.proofs.Math.Logic.{∥∥₁_map}
use Rattle.shared_office.proofs.PassageLemmas.{passes_told}
use Rattle.shared_office.proofs.StretchLemmas.{passes_more}
use Rattle.shared_office.proofs.ShareLemmas.{can_end_kept, ending_kept, grown}
use Rattle.shared_office.proofs.shared.Shared.take.Goals as goal

pub invariant_of-self-clause-ended : goal.invariant_of-self-clause-ended
invariant_of-self-clause-ended g c =
    ending_kept c.args.self.now.office.register (AnEdit c.args.edit c.take.result) c.take.new.self.register tt c.args.self.now.ending c.take.ensures.step
    c.args.self.now.ended

pub invariant_of-self-clause-can_end : goal.invariant_of-self-clause-can_end
invariant_of-self-clause-can_end g c =
    can_end_kept c.args.self.now.office.register (AnEdit c.args.edit c.take.result) c.take.new.self.register tt c.take.ensures.step c.args.self.now.can_end

pub invariant_of-self-clause-counted : goal.invariant_of-self-clause-counted
invariant_of-self-clause-counted g c =
    counted_step c.args.self.now.office.register (AnEdit c.args.edit c.take.result) c.take.new.self.register _ _ c.take.ensures.step c.take.ensures.counts
    c.args.self.now.counted

pub returns-clause-list : goal.returns-clause-list
returns-clause-list g c =
    let more = grown c.args.self.now.office.register (AnEdit c.args.edit c.take.result) c.take.new.self.register tt c.take.ensures.step in (
      more.0,
      go_on_by c.args.self.now.office.register.history c.args.self.now.ending c.take.new.self.register.history c.args.self.now.ending more.0 c.args.self.now.ended
          more.1 refl,
    )

pub invariant_of-self-clause-passed : goal.invariant_of-self-clause-passed
invariant_of-self-clause-passed g c =
    let old = c.args.self.now in
    let taken = c.take.ensures in
    ∥∥₁_map old.passed (λ p.
    passes_more g.D.Disk old.begun.value.register.history old.office.register.history c.take.new.self.register.history old.begun.value.disk old.office.disk
    c.take.new.self.disk p
    (passes_told g.D.Disk old.office.register.history c.take.new.self.register.history c.args.edit c.take.result old.office.disk c.take.new.self.disk
    taken.edited taken.counted taken.cause taken.any_moment taken.told))
