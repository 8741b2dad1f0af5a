-- A call keeps what a shared office keeps to.
use Rattle.std.specs.Prelude.{◌≡◌, ℕ, ◌≤◌, List, length, Option}
use Rattle.std.specs.Option.{ForSome}
use Rattle.std.proofs.Common.{arith, ap, subst, inl, inr, length-append}
use Rattle.history.specs.After.{go_on}
use Rattle.history.specs.Events.{Event, History}
use Rattle.office.specs.Steps.{Step, IsStep, IsCall}
use Rattle.office.proofs.StepLemmas.{step_course}
use Rattle.register.specs.Registered.{Registered}
use Rattle.shared_office.specs.Entries.{CanEnd}
use Rattle.shared_office.proofs.CountLemmas.{can_end_after, goes_on}

-- a call goes on by some events
pub grown : (old : Registered) (step : Step) (new : Registered) → IsCall step → IsStep old step new → (added : List Event) × (new.history ≡ go_on old.history added)
grown old step new call is = elim (step_course old step new is) [
  | inl course ↦ goes_on old.history _ _ new.history course
  | inr stop ↦ absurd (subst IsCall stop.2 call)
]

longer : (old new : History) (added : List Event) → new ≡ go_on old added → length old.events ≤ length new.events
longer old new added e = let a = ap (λ (h : History). length h.events) e in let b = length-append old.events added in omega (arith, a, b)

pub ending_kept : (old : Registered) (step : Step) (new : Registered) → IsCall step → (ending : Option ℕ) → IsStep old step new
    → ForSome ending (λ n. n ≤ length old.history.events) → ForSome ending (λ n. n ≤ length new.history.events)
ending_kept old step new call ending is few = λ n e.
    let more = grown old step new call is in
    let a = longer old.history new.history more.0 more.1 in
    let b = few n e in
    omega (arith, a, b)

pub can_end_kept : (old : Registered) (step : Step) (new : Registered) → IsCall step → IsStep old step new → CanEnd old.history → CanEnd new.history
can_end_kept old step new call is k = elim (step_course old step new is) [
  | inl course ↦ can_end_after old.history _ _ new.history course k
  | inr stop ↦ absurd (subst IsCall stop.2 call)
]
