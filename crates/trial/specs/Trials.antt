-- How a trial goes on, order by order.
use Rattle.std.specs.Prelude.{◌≡◌, ℕ, ◌+◌, List, [], ◌∷◌}
use Rattle.edits.specs.declared.content.Edit.{Edit}
use Rattle.history.specs.After.{after_edit, after_settlement, reopen}
use Rattle.history.specs.Events.{History}
use Rattle.history.specs.Verdicts.{Verdict, Accepts, Refuses, Repeats, verdict}
use Rattle.office_inputs.specs.Usual.{usual}
use Rattle.records.specs.declared.formats.Format.TheVariants.{Second}
use Rattle.trial.specs.Refusals.{locks}
use Rattle.trial_orders.specs.Orders.{Order, Ask, Settle}
use Rattle.trial_orders.specs.References.{IsAsked}

-- what has happened in the office, how many edits were asked of it, and how many of them were refused as locked
pub record Trial : Type 0 where
  pub history : History
  pub asked : ℕ
  pub locked : ℕ

-- before the first order: an office that is opened on a journal of no records, of the second format
abbrev pub beginning : Trial
beginning = record { history = reopen usual Second []; asked = 0; locked = 0 }

-- one edit more was asked, and this was said to it
abbrev pub after_verdict : Verdict → Trial → Edit → Trial
after_verdict (Repeats earlier) t edit = record { history = t.history; asked = t.asked + 1; locked = t.locked }
after_verdict (Refuses refusal) t edit = record { history = t.history; asked = t.asked + 1; locked = t.locked + locks refusal }
after_verdict Accepts t edit = record { history = after_edit t.history edit; asked = t.asked + 1; locked = t.locked }

unfoldable pub after_asking : Trial → Edit → Trial
after_asking t edit = after_verdict (verdict t.history edit) t edit

-- every pending day was published
unfoldable pub after_settling : Trial → Trial
after_settling t = record { history = after_settlement t.history; asked = t.asked; locked = t.locked }

-- the trial goes on by an order: an edit is asked under the next number, also where it will be refused
abbrev pub Follows : Trial → Order → Trial → Type 0
Follows t (Ask by site what) next = (edit : Edit) × IsAsked (t.asked + 1) by site what edit × (next ≡ after_asking t edit)
Follows t Settle next = next ≡ after_settling t

-- and by these orders, one behind another
abbrev pub FollowsAll : Trial → List Order → Trial → Type 0
FollowsAll t [] after = after ≡ t
FollowsAll t (order ∷ orders) after = (next : Trial) × Follows t order next × FollowsAll next orders after
