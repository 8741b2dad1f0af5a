-- The period in force is the last that has begun, if it has not ended.
use Rattle.std.proofs.Common.{◌≡◌, refl, ◌∙◌, ap, sym, List, Option, Some, None, true, false, ℤ}
use Rattle.std.specs.Prelude.{filter, int_le}
use Rattle.ratings.specs.Spans.{Span}
use Rattle.rising.specs.Lists.{Kept}
use Rattle.ratings.specs.Periods.{AreApart, in_force, is_before_end}
use Rattle.rising.specs.Ends.{last}
use Rattle.ratings.proofs.PeriodLemmas.{in_force_last, held}
use Rattle.ratings.proofs.periods.Periods.at.Goals as goal

-- what is in force, by the part of the list that has begun
by_front : (at : ℤ) (kept list front : List Span) (o : Option Span) → list ≡ kept → AreApart kept → front ≡ filter (λ (p : Span). int_le p.from at) list
    → o ≡ last front → held at o ≡ in_force at kept
by_front at kept list front o same apart e h =
    ap (held at) (h ∙ ap last (e ∙ ap (filter (λ (p : Span). int_le p.from at)) same)) ∙ sym (in_force_last at kept apart)

held_in : (at : ℤ) (p : Span) → is_before_end at p.until ≡ true → Some p ≡ held at (Some p)
held_in at p h = rw h refl

held_out : (at : ℤ) (p : Span) → is_before_end at p.until ≡ false → None ≡ held at (Some p)
held_out at p h = rw h refl

pub returns-in_err-last : goal.returns-in_err-last
returns-in_err-last c =
    c.from_residual.ensures ∙ by_front c.args.at c.self.inside.list.list c.as_slice-list.result.now c.split_at.result.0.now None c.as_slice-list.ensures.list c.self.invariant
    (c.split_at.ensures.front ∙ c.count_to.ensures.front) c.in_err-last.ensures.value
    ∙ ap (λ (k : Kept Span). in_force c.args.at k.list) c.self.view_is

pub returns-then-is_before_end : goal.returns-then-is_before_end
returns-then-is_before_end c =
    let last : is_before_end c.args.at c.in_ok-last.last.now.until ≡ true =
    ap (λ (s : Span). is_before_end c.args.at s.until) (sym c.last-2.view_is) ∙ (sym c.is_before_end.ensures ∙ c.if-is_before_end.true) in
    ap Some c.last-2.view_is ∙ held_in c.args.at c.in_ok-last.last.now last
    ∙ by_front c.args.at c.self.inside.list.list c.as_slice-list.result.now c.split_at.result.0.now (Some c.in_ok-last.last.now) c.as_slice-list.ensures.list c.self.invariant
    (c.split_at.ensures.front ∙ c.count_to.ensures.front) c.in_ok-last.ensures.value
    ∙ ap (λ (k : Kept Span). in_force c.args.at k.list) c.self.view_is

pub returns-else-is_before_end : goal.returns-else-is_before_end
returns-else-is_before_end c =
    let last : is_before_end c.args.at c.in_ok-last.last.now.until ≡ false =
    ap (λ (s : Span). is_before_end c.args.at s.until) (sym c.last-2.view_is) ∙ (sym c.is_before_end.ensures ∙ c.if-is_before_end.false) in
    held_out c.args.at c.in_ok-last.last.now last
    ∙ by_front c.args.at c.self.inside.list.list c.as_slice-list.result.now c.split_at.result.0.now (Some c.in_ok-last.last.now) c.as_slice-list.ensures.list c.self.invariant
    (c.split_at.ensures.front ∙ c.count_to.ensures.front) c.in_ok-last.ensures.value
    ∙ ap (λ (k : Kept Span). in_force c.args.at k.list) c.self.view_is
