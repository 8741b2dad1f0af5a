-- Day after day is asked for the edit that it awaits.
use Rattle.std.specs.Prelude.{Some, ℤ}
use Rattle.std.proofs.Common.{ap, ◌∙◌, to_z, w32}
use Rattle.depend.proofs.DayNumbers.{behind_the_way, first_number, on_the_way}
use Rattle.history.specs.Awaited.{is_pending}
use Rattle.office_inputs.specs.declared.refusals.Refusal.TheVariants.{Awaits}
use Rattle.register.proofs.ReviewLemmas.{awaited_seen, cells_seen, first_awaited, none_awaited, none_sought, sought_after, sought_first}
use Rattle.register.proofs.registers.Register.awaiting.Goals as goal

pub loop-number-init : goal.loop-number-init
loop-number-init c =
    sought_first (is_pending c.args.self.now.history.events c.args.site) c.args.from c.args.to _
    (first_number c.args.from c.get-number.result c.get-number.ensures.range c.get-number.ensures.value)

pub day_of-day-requires : goal.day_of-day-requires
day_of-day-requires c =
    (on_the_way c.args.from c.args.to _ _ c.get-number.ensures.range.low c.loop-number.invariant.low c.get-number-end.ensures.range c.get-number-end.ensures.value c.loop-number-test.true).day

pub returns-in-Some : goal.returns-in-Some
returns-in-Some c =
    let number : ℤ = to_z w32 c.loop-number.number-bits in
    let way = on_the_way c.args.from c.args.to _ _ c.get-number.ensures.range.low c.loop-number.invariant.low c.get-number-end.ensures.range c.get-number-end.ensures.value c.loop-number-test.true in
    let tells = cells_seen _ c.args.self.now c.self.view_is c.self.invariant.cells_tell in
    let own = awaited_seen _ c.args.self.now c.self.view_is c.args.site c.day_of-day.result number c.day_of-day.ensures c.awaited.result c.awaited.ensures in
    ap (λ (d : ℤ). Some (Awaits d c.in-Some.edit)) c.day_of-day.ensures
    ∙ first_awaited c.args.self.now.history.events c.args.self.now.cells tells c.args.site c.args.from c.args.to number c.awaited.result c.in-Some.edit way.day way.within
    c.loop-number.invariant own c.in-Some.is

pub loop-number-preserved : goal.loop-number-preserved
loop-number-preserved c =
    let number : ℤ = to_z w32 c.loop-number.number-bits in
    let way = on_the_way c.args.from c.args.to _ _ c.get-number.ensures.range.low c.loop-number.invariant.low c.get-number-end.ensures.range c.get-number-end.ensures.value c.loop-number-test.true in
    let tells = cells_seen _ c.args.self.now c.self.view_is c.self.invariant.cells_tell in
    let own = awaited_seen _ c.args.self.now c.self.view_is c.args.site c.day_of-day.result number c.day_of-day.ensures c.awaited.result c.awaited.ensures in
    sought_after (is_pending c.args.self.now.history.events c.args.site) c.args.from c.args.to number _ way.next
    (none_awaited c.args.self.now.history.events c.args.self.now.cells tells c.args.site c.args.from c.args.to number c.awaited.result way.day own c.in_default.is)
    c.loop-number.invariant

pub returns : goal.returns
returns c =
    let tells = cells_seen _ c.args.self.now c.self.view_is c.self.invariant.cells_tell in
    none_sought c.args.self.now.history.events c.args.self.now.cells tells c.args.site c.args.from c.args.to _
    (behind_the_way c.args.to _ _ c.get-number-end.ensures.range c.get-number-end.ensures.value c.loop-number-test.false) c.loop-number.invariant
