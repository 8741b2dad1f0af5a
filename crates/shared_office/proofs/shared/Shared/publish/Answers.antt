use Rattle.std.proofs.Common.{ap, subst, sym}
use Rattle.std.proofs.Math.Logic.{∥∥₁_map}
use Rattle.office.specs.Offices.{Officed}
use Rattle.register.specs.Asked.{day_of}
use Rattle.shared_office.proofs.PassageLemmas.{passes_published, published_some}
use Rattle.shared_office.proofs.StretchLemmas.{passes_more}
use Rattle.shared_office.specs.Passages.{Passes}
use Rattle.office.proofs.CountLemmas.{counted_step}
use Rattle.office.specs.Steps.{APublication}
use Rattle.shared_office.proofs.ShareLemmas.{can_end_kept, ending_kept}
use Rattle.shared_office.proofs.shared.Shared.publish.Goals as goal

pub invariant_of-self-clause-ended : goal.invariant_of-self-clause-ended
invariant_of-self-clause-ended g c =
    ending_kept c.args.self.now.office.register (APublication c.args.done.job c.publish.result) c.publish.new.self.register tt c.args.self.now.ending
    c.publish.ensures.step c.args.self.now.ended

pub invariant_of-self-clause-can_end : goal.invariant_of-self-clause-can_end
invariant_of-self-clause-can_end g c =
    can_end_kept c.args.self.now.office.register (APublication c.args.done.job c.publish.result) c.publish.new.self.register tt c.publish.ensures.step
    c.args.self.now.can_end

pub invariant_of-self-clause-counted : goal.invariant_of-self-clause-counted
invariant_of-self-clause-counted g c =
    counted_step c.args.self.now.office.register (APublication c.args.done.job c.publish.result) c.publish.new.self.register _ _ c.publish.ensures.step
    (ap g.D.Disk.faults c.publish.ensures.disk) c.args.self.now.counted

pub invariant_of-self-clause-passed : goal.invariant_of-self-clause-passed
invariant_of-self-clause-passed g c =
    let old = c.args.self.now in
    let h = old.office.register.history in
    let after = c.publish.new.self.register.history in
    let days = published_some c.publish.result h after (day_of c.args.done.job) c.publish.ensures.published
    (λ other. ap (λ (o : Officed g.row.D.Denot). o.register.history) (c.publish.ensures.others other)) in
    let only = g.met.D.Disk.only_now in
    ∥∥₁_map old.passed (λ p.
    passes_more g.D.Disk old.begun.value.register.history h after old.begun.value.disk old.office.disk c.publish.new.self.disk p
    (subst (λ (d : g.row.D.Denot). Passes g.D.Disk h after old.office.disk d) (sym c.publish.ensures.disk)
    (passes_published g.D.Disk h after old.office.disk (only old.office.disk) c.an_office_stands_on_its_disk.ensures.images days)))
