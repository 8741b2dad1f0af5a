-- The days of a review or a decision are exchanged, and of any other edit the changed ones in review are taken out.
use Rattle.std.specs.Prelude.{List}
use Rattle.std.proofs.Common.{ap, subst, sym, ◌∙◌}
use Rattle.edits.specs.declared.content.What.{What}
use Rattle.edits.specs.declared.content.What.TheVariants.{Review, Decide}
use Rattle.edits.specs.declared.decisions.Decision.{Decision}
use Rattle.edits.specs.declared.decisions.Decision.TheVariants.{Approve, Rescind}
use Rattle.rising.specs.Lists.{IsRising}
use Rattle.std.specs.List.{list_any}
use Rattle.std.specs.Ordering.{int_eq}
use Rattle.approval.specs.Kept.{KeptSite, day_place, standing_at}
use Rattle.approval.specs.Statuses.{after_what}
use Rattle.approval.specs.declared.days.DayStanding.{DayStanding}
use Rattle.approval.specs.declared.status.Status.TheVariants.{InReview, Approved}
use Rattle.approval.proofs.SpanLemmas.{put_rises, put_standing, taken_rises, taken_standing}
use Rattle.approval.proofs.sites.SiteStandings.apply.Goals as goal

pub invariant_of-self : goal.invariant_of-self
invariant_of-self c =
    let lawful = rw c.in-Review.is at c.requires.lawful in
    subst (λ (l : List DayStanding). IsRising day_place l) (sym c.put_span.ensures.items)
    (put_rises c.in-Review.from c.in-Review.to c.self.inside.days.items (InReview c.copy.result) c.args.number lawful.ordered c.self.invariant)

pub invariant_of-self-in-Approve : goal.invariant_of-self-in-Approve
invariant_of-self-in-Approve c =
    let lawful = rw c.in-Decide.is at c.requires.lawful in
    subst (λ (l : List DayStanding). IsRising day_place l) (sym c.put_span-in-Approve.ensures.items)
    (put_rises c.in-Decide.from c.in-Decide.to c.self.inside.days.items (Approved c.copy-in-Approve.result) c.args.number lawful.ordered c.self.invariant)

pub invariant_of-self-in-Rescind : goal.invariant_of-self-in-Rescind
invariant_of-self-in-Rescind c =
    let lawful = rw c.in-Decide.is at c.requires.lawful in
    subst (λ (l : List DayStanding). IsRising day_place l) (sym c.take_span.ensures.items)
    (taken_rises c.in-Decide.from c.in-Decide.to c.self.inside.days.items lawful.ordered c.self.invariant)

pub returns-in-Review-clause-standings : goal.returns-in-Review-clause-standings
returns-in-Review-clause-standings c =
    let lawful = rw c.in-Review.is at c.requires.lawful in
    λ day.
    ap (λ (l : List DayStanding). standing_at l day) (rw c.copy.ensures at c.put_span.ensures.items)
    ∙ put_standing c.in-Review.from c.in-Review.to day c.self.inside.days.items (InReview c.args.by.now) c.args.number lawful.ordered
    ∙ ap (λ (k : KeptSite). after_what c.args.number c.args.by.now (Review c.in-Review.from c.in-Review.to) (list_any (λ d. int_eq d day) c.args.changed.now) day (standing_at k.days day)) c.self.view_is
    ∙ ap (λ (w : What). after_what c.args.number c.args.by.now w (list_any (λ d. int_eq d day) c.args.changed.now) day (standing_at c.args.self.now.days day)) (sym c.in-Review.is)

pub returns-in-Approve-clause-standings : goal.returns-in-Approve-clause-standings
returns-in-Approve-clause-standings c =
    let lawful = rw c.in-Decide.is at c.requires.lawful in
    let decided = c.in-Decide.is ∙ ap (λ (d : Decision). Decide c.in-Decide.from c.in-Decide.to d) c.in-Approve.is in
    λ day.
    ap (λ (l : List DayStanding). standing_at l day) (rw c.copy-in-Approve.ensures at c.put_span-in-Approve.ensures.items)
    ∙ put_standing c.in-Decide.from c.in-Decide.to day c.self.inside.days.items (Approved c.args.by.now) c.args.number lawful.ordered
    ∙ ap (λ (k : KeptSite). after_what c.args.number c.args.by.now (Decide c.in-Decide.from c.in-Decide.to Approve) (list_any (λ d. int_eq d day) c.args.changed.now) day (standing_at k.days day)) c.self.view_is
    ∙ ap (λ (w : What). after_what c.args.number c.args.by.now w (list_any (λ d. int_eq d day) c.args.changed.now) day (standing_at c.args.self.now.days day)) (sym decided)

pub returns-in-Rescind-clause-standings : goal.returns-in-Rescind-clause-standings
returns-in-Rescind-clause-standings c =
    let lawful = rw c.in-Decide.is at c.requires.lawful in
    let decided = c.in-Decide.is ∙ ap (λ (d : Decision). Decide c.in-Decide.from c.in-Decide.to d) c.in-Rescind.is in
    λ day.
    ap (λ (l : List DayStanding). standing_at l day) c.take_span.ensures.items
    ∙ taken_standing c.in-Decide.from c.in-Decide.to day c.self.inside.days.items lawful.ordered
    ∙ ap (λ (k : KeptSite). after_what c.args.number c.args.by.now (Decide c.in-Decide.from c.in-Decide.to Rescind) (list_any (λ d. int_eq d day) c.args.changed.now) day (standing_at k.days day)) c.self.view_is
    ∙ ap (λ (w : What). after_what c.args.number c.args.by.now w (list_any (λ d. int_eq d day) c.args.changed.now) day (standing_at c.args.self.now.days day)) (sym decided)
