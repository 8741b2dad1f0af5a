-- What is published was pending; behind it the cells tell what is read off the history, and one event more can be counted.
use Rattle.std.proofs.Common.{◌≡◌, ◌+◌, ◌-◌, ◌<◌, ◌^◌, arith, ◌++◌, ◌∷◌, [], refl, sym, subst, List}
use Rattle.std.specs.Vec.{vec_capacity, vec_len}
use Rattle.fixed_units.specs.Quantities.{IsDay}
use Rattle.history.specs.Events.{Event, Published}
use Rattle.register.specs.Keeping.{Keeps}
use Rattle.register.specs.Registered.{registered}
use Rattle.register.proofs.PublishLemmas.{room, kept_published}
use Rattle.register.proofs.registers.Register.publish.Goals as goal

pub overflow_add-self : goal.overflow_add-self
overflow_add-self c =
    let same_day : c.day-day.result ≡ c.args.done.job.day = cc in
    let counted : c.self.inside.events + 1 < 2 ^ 64 =
    room _ _ _ _ _ _ _ _ _ _ _ c.self.invariant c.stations_keep_to_their_ranges.ensures c.pending_days_stand_by_site.ensures.rising
    _ c.pending_days_stand_by_site-2.ensures.rising c.args.done.job c.args.done.value (subst IsDay same_day c.day_is_in_range.ensures)
    (sym c.in-Published.ensures.outcome) (c.in-Published.ensures.published refl) (c.in-Published.ensures.value refl) in
    omega arith

pub invariant_of-self-2 : goal.invariant_of-self-2
invariant_of-self-2 c =
    let same_day : c.day-day.result ≡ c.args.done.job.day = cc in
    let more : c.record_publication.new.past ≡ c.self.inside.past ++ Published c.args.done.job.site c.args.done.job.day ∷ [] = cc in
    let r = c.self.inside in
    subst (λ (events : List Event). Keeps (registered r.opened r.format r.inputs c.publish-told.new.self r.references r.statuses (vec_capacity r.pieces - vec_len r.pieces) events)
    r.pieces.items (r.events + 1) r.journal_bytes) (sym more)
    (kept_published _ _ _ _ _ _ _ _ _ _ _ c.self.invariant c.stations_keep_to_their_ranges.ensures c.pending_days_stand_by_site.ensures.rising
    _ c.pending_days_stand_by_site-2.ensures.rising c.args.done.job c.args.done.value (subst IsDay same_day c.day_is_in_range.ensures)
    (sym c.in-Published.ensures.outcome) (c.in-Published.ensures.published refl) (c.in-Published.ensures.value refl))
