-- What `retain` keeps, and why it need not be called where no changed day is in review.
use Rattle.std.specs.Prelude.{◌≡◌, false, List, filter, find, Option, Some, None, is_some}
use Rattle.std.proofs.Common.{rules, ap, refl, subst, sym, ◌∙◌}
use Rattle.std.proofs.lemmas.Fn.{filter_same}
use Rattle.rising.specs.Lists.{IsRising}
use Rattle.rising.proofs.Placing.{filter_rises}
use Rattle.approval.specs.Kept.{day_place, standing_at}
use Rattle.approval.specs.Statuses.{is_in_review}
use Rattle.approval.specs.declared.days.DayStanding.{DayStanding}
use Rattle.approval.proofs.ChangedLemmas.{all_stay, standings_left, stays}
use Rattle.approval.proofs.changed.take_changed.Goals as goal

none_of : {X : Type 0} (o : Option X) → is_some o ≡ false → o ≡ None
none_of None e = refl
none_of (Some x) e = absurd (cc)

pub returns-then-is_some-clause-rising : goal.returns-then-is_some-clause-rising
returns-then-is_some-clause-rising c =
    let left : c.retain.new.self.items ≡ filter (stays c.args.changed.now) c.args.list.now.items =
    filter_same _ (stays c.args.changed.now) _ (λ x b q k. search rules) _ _ c.retain.ensures.filtered in
    subst (λ (l : List DayStanding). IsRising day_place l) (sym left) (filter_rises day_place (stays c.args.changed.now) c.args.list.now.items c.requires.rising)

pub returns-then-is_some-clause-standings : goal.returns-then-is_some-clause-standings
returns-then-is_some-clause-standings c =
    let left : c.retain.new.self.items ≡ filter (stays c.args.changed.now) c.args.list.now.items =
    filter_same _ (stays c.args.changed.now) _ (λ x b q k. search rules) _ _ c.retain.ensures.filtered in
    λ day. standings_left c.args.changed.now c.args.list.now.items c.retain.new.self.items day c.requires.rising left

pub returns-else-is_some-clause-standings : goal.returns-else-is_some-clause-standings
returns-else-is_some-clause-standings c =
    λ day. all_stay c.args.changed.now c.args.list.now.items day
    (ap (λ (l : List DayStanding). find (λ d. is_in_review (standing_at l d).status) c.args.changed.now) (sym c.deref.ensures.value)
    ∙ sym c.first_of_days.ensures ∙ none_of c.first_of_days.result (sym c.is_some.ensures ∙ c.if-is_some.false))
