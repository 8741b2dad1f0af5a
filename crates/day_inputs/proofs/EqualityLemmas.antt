-- The test of equality decides it. A further member is a line in each of `AreSame`, `remade`, `from_parts`, `to_parts` and
-- `Decides-same_members`.
use Rattle.std.specs.Prelude.{◌≡◌, Bool, Option, Some, None, ℤ}
use Rattle.std.specs.Bool.{Decides}
use Rattle.std.proofs.Common.{refl, ap, sym, subst}
use Rattle.std.proofs.lemmas.Slice.Eq.{bytes_eq-Decides}
use Rattle.std.proofs.lemmas.Bool.Decides.{Decides-eqb, Decides-int_eq, Decides-and, Decides-like}
use Rattle.editions.proofs.CoverLemmas.{leasts_decide}
use Rattle.readings.proofs.EqualityLemmas.{lists_decide}
use Rattle.curves.proofs.EqualityLemmas.{lists_decide as entries_decide}
use Rattle.ratings.proofs.PartEqualityLemmas.{lists_decide as periods_decide}
use Rattle.day_inputs.specs.declared.day_inputs.DayInputs.{DayInputs}
use Rattle.day_inputs.specs.declared.day_inputs.DayInputs.TheVariants.{Empty, Day}
use Rattle.day_inputs.specs.declared.day_inputs.DayParts.{DayParts}
use Rattle.day_inputs.specs.Equality.{same_estimate, same_members, same_inputs}

-- one estimate, or none, is another
pub estimates_decide : (x y : Option ℤ) → Decides (same_estimate x y) (x ≡ y)
estimates_decide None None = (λ k. refl, λ e. refl)
estimates_decide None (Some b) = (λ k. absurd (cc), λ e. absurd (cc))
estimates_decide (Some a) None = (λ k. absurd (cc), λ e. absurd (cc))
estimates_decide (Some a) (Some b) = Decides-like _ (λ e. ap Some e) (λ e. cc) (Decides-int_eq a b)

-- the parts in their order
abbrev pub AreSame : DayParts → DayParts → Type 0
AreSame p q =
    (p.gap ≡ q.gap) × ((p.stage_array ≡ q.stage_array) × ((p.discharge_array ≡ q.discharge_array) × ((p.from ≡ q.from) × ((p.until ≡ q.until) × ((p.window ≡ q.window) × ((p.first ≡ q.first) × ((p.second ≡ q.second) × ((p.third ≡ q.third) × ((p.shifts ≡ q.shifts) × ((p.periods ≡ q.periods) × ((p.estimate ≡ q.estimate) × (p.least ≡ q.least))))))))))))

abbrev remade : DayParts → DayParts
remade p = record { gap = p.gap; stage_array = p.stage_array; discharge_array = p.discharge_array; from = p.from; until = p.until; window = p.window; first = p.first; second = p.second; third = p.third; shifts = p.shifts; periods = p.periods; estimate = p.estimate; least = p.least }

pub from_parts : (p q : DayParts) → AreSame p q → p ≡ q
from_parts p q h =
    let e : remade p ≡ remade q =
    rw (h.0, h.1.0, h.1.1.0, h.1.1.1.0, h.1.1.1.1.0, h.1.1.1.1.1.0, h.1.1.1.1.1.1.0, h.1.1.1.1.1.1.1.0, h.1.1.1.1.1.1.1.1.0, h.1.1.1.1.1.1.1.1.1.0, h.1.1.1.1.1.1.1.1.1.1.0, h.1.1.1.1.1.1.1.1.1.1.1.0, h.1.1.1.1.1.1.1.1.1.1.1.1) refl in
    e

pub to_parts : (p q : DayParts) → p ≡ q → AreSame p q
to_parts p q e = (ap (λ (x : DayParts). x.gap) e, (ap (λ (x : DayParts). x.stage_array) e, (ap (λ (x : DayParts). x.discharge_array) e, (ap (λ (x : DayParts). x.from) e, (ap (λ (x : DayParts). x.until) e, (ap (λ (x : DayParts). x.window) e, (ap (λ (x : DayParts). x.first) e, (ap (λ (x : DayParts). x.second) e, (ap (λ (x : DayParts). x.third) e, (ap (λ (x : DayParts). x.shifts) e, (ap (λ (x : DayParts). x.periods) e, (ap (λ (x : DayParts). x.estimate) e, ap (λ (x : DayParts). x.least) e))))))))))))

pub Decides-same_members : (p q : DayParts) → Decides (same_members p q) (p ≡ q)
Decides-same_members p q =
    Decides-like (same_members p q) (from_parts p q) (to_parts p q)
    (Decides-and _ _ (Decides-eqb p.gap q.gap)
    (Decides-and _ _ (bytes_eq-Decides p.stage_array q.stage_array)
    (Decides-and _ _ (bytes_eq-Decides p.discharge_array q.discharge_array)
    (Decides-and _ _ (Decides-int_eq p.from q.from)
    (Decides-and _ _ (Decides-int_eq p.until q.until)
    (Decides-and _ _ (lists_decide p.window q.window)
    (Decides-and _ _ (entries_decide p.first q.first)
    (Decides-and _ _ (entries_decide p.second q.second)
    (Decides-and _ _ (entries_decide p.third q.third)
    (Decides-and _ _ (entries_decide p.shifts q.shifts)
    (Decides-and _ _ (periods_decide p.periods q.periods)
    (Decides-and _ _ (estimates_decide p.estimate q.estimate)
    (leasts_decide p.least q.least)))))))))))))

day_from : (p q : DayParts) → p ≡ q → Day p ≡ Day q
day_from p q e = ap Day e

day_to : (p q : DayParts) → Day p ≡ Day q → p ≡ q
day_to p q e = cc

pub Decides-same_inputs : (p q : DayInputs) → Decides (same_inputs p q) (p ≡ q)
Decides-same_inputs Empty Empty = (λ h. refl, λ e. refl)
Decides-same_inputs Empty (Day q) = (λ h. absurd (cc), λ e. absurd (cc))
Decides-same_inputs (Day p) Empty = (λ h. absurd (cc), λ e. absurd (cc))
Decides-same_inputs (Day p) (Day q) = Decides-like (same_members p q) (day_from p q) (day_to p q) (Decides-same_members p q)

-- a test that answers the same tells whether they are equal
pub told_inputs : (p q : DayInputs) (b : Bool) → b ≡ same_inputs p q → Decides b (p ≡ q)
told_inputs p q b e = subst (λ (x : Bool). Decides x (p ≡ q)) (sym e) (Decides-same_inputs p q)
