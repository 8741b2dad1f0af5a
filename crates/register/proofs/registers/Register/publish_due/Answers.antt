-- What is due was pending; behind it the cells tell what is read off the history, and one event more can be counted.
use Rattle.std.proofs.Common.{◌≡◌, ◌+◌, ◌-◌, ◌<◌, ◌^◌, arith, ◌++◌, ◌∷◌, [], sym, subst, ap, ◌∙◌, List, length}
use Rattle.std.specs.Vec.{vec_capacity, vec_len}
use Rattle.daily_values.specs.DayValue.{day_value}
use Rattle.fixed_units.specs.Quantities.{IsDay}
use Rattle.history.specs.Awaited.{pending_days}
use Rattle.history.specs.Events.{Event, Published}
use Rattle.office_inputs.specs.Kept.{in_force}
use Rattle.office_inputs.specs.Stations.{inputs_of_day}
use Rattle.recompute.specs.Jobs.{outcome_of}
use Rattle.recompute.specs.declared.jobs.Publish.TheVariants as publish
use Rattle.register.specs.Asked.{outcome_at}
use Rattle.register.specs.Keeping.{Keeps}
use Rattle.register.specs.Registered.{Registered, registered}
use Rattle.register.proofs.PublishLemmas.{told_of_cells, due_awaits, due_inputs, room, kept_published, one_less}
use Rattle.register.proofs.registers.Register.publish_due.Goals as goal
use Rattle.register.proofs.registers.Register.publish_due.Goals.{After-pending_days_stand_by_site-2}

-- what the history tells of the publication the cells tell too
pub publish_due-requires : goal.publish_due-requires
publish_due-requires c =
    let same_day : c.day-day.result ≡ c.args.done.job.day = cc in
    due_awaits c.self.inside.cells (in_force c.self.inside.inputs) c.args.done.job
    (told_of_cells _ _ _ _ _ _ _ _ _ _ _ c.self.invariant c.args.done.job (subst IsDay same_day c.day_is_in_range.ensures)
    (ap (λ (r : Registered). outcome_at r.history.events c.args.done.job) c.self.view_is ∙ c.requires))

module _ (c : After-pending_days_stand_by_site-2) where
  its_day : IsDay c.args.done.job.day
  its_day =
      let same_day : c.day-day.result ≡ c.args.done.job.day = cc in
      subst IsDay same_day c.day_is_in_range.ensures

  told : outcome_of c.self.inside.cells (in_force c.self.inside.inputs) c.args.done.job ≡ publish.Published
  told =
      told_of_cells _ _ _ _ _ _ _ _ _ _ _ c.self.invariant c.args.done.job its_day
      (ap (λ (r : Registered). outcome_at r.history.events c.args.done.job) c.self.view_is ∙ c.requires)

  computed : c.args.done.value ≡ day_value (inputs_of_day (in_force c.self.inside.inputs) c.args.done.job.site c.args.done.job.day)
  computed = c.publish_due.ensures.value ∙ ap day_value (due_inputs c.self.inside.cells (in_force c.self.inside.inputs) c.args.done.job told)

pub overflow_add-self : goal.overflow_add-self
overflow_add-self c =
    let w = (goal.at.overflow_add-self c).After-pending_days_stand_by_site-2 in
    let counted : c.self.inside.events + 1 < 2 ^ 64 =
    room _ _ _ _ _ _ _ _ _ _ _ c.self.invariant c.stations_keep_to_their_ranges.ensures c.pending_days_stand_by_site.ensures.rising
    _ c.pending_days_stand_by_site-2.ensures.rising c.args.done.job c.args.done.value (its_day w) (told w) c.publish_due.ensures.published (computed w) in
    omega arith

pub invariant_of-self : goal.invariant_of-self
invariant_of-self c =
    let w = (goal.at.invariant_of-self c).After-pending_days_stand_by_site-2 in
    let more : c.record_publication.new.past ≡ c.self.inside.past ++ Published c.args.done.job.site c.args.done.job.day ∷ [] = cc in
    let r = c.self.inside in
    subst (λ (events : List Event). Keeps (registered r.opened r.format r.inputs c.publish_due.new.self r.references r.statuses (vec_capacity r.pieces - vec_len r.pieces) events)
    r.pieces.items (r.events + 1) r.journal_bytes) (sym more)
    (kept_published _ _ _ _ _ _ _ _ _ _ _ c.self.invariant c.stations_keep_to_their_ranges.ensures c.pending_days_stand_by_site.ensures.rising
    _ c.pending_days_stand_by_site-2.ensures.rising c.args.done.job c.args.done.value (its_day w) (told w) c.publish_due.ensures.published (computed w))

pub returns-clause-pending : goal.returns-clause-pending
returns-clause-pending c =
    let w = (goal.at.returns-clause-pending c).After-pending_days_stand_by_site-2 in
    let more : c.record_publication.new.past ≡ c.self.inside.past ++ Published c.args.done.job.site c.args.done.job.day ∷ [] = cc in
    ap (λ (events : List Event). length (pending_days events) + 1) more
    ∙ one_less _ _ _ _ _ _ _ _ _ _ _ c.self.invariant c.stations_keep_to_their_ranges.ensures c.pending_days_stand_by_site.ensures.rising
    _ c.pending_days_stand_by_site-2.ensures.rising c.args.done.job c.args.done.value (its_day w) (told w) c.publish_due.ensures.published (computed w)
    ∙ ap (λ (r : Registered). length (pending_days r.history.events)) c.self.view_is
