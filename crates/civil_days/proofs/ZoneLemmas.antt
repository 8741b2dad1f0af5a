-- That a text is a zone has at most one proof, so that a value can keep it.
use Rattle.std.proofs.Common.{◌≡◌, ◌∙◌, ap, sym, subst, ℕ, ℤ, List, Some}
use Rattle.std.proofs.Props.{props}
use Rattle.fixed_units.specs.Quantities.{IsDay}
use Rattle.jiff_tz.specs.PosixText.{TzText}
use Rattle.civil_days.specs.Starts.{IsZone, LastsWell, zone_rule}

-- every day of the calendar lasts well by the rule
abbrev AllLast : TzText → Type 0
AllLast rule = (day : ℤ) → IsDay day → LastsWell rule day

abbrev zone_by : (text : List ℕ) (rule : TzText) → zone_rule text ≡ Some rule → AllLast rule → IsZone text
zone_by text rule read days = record { rule = rule; read = read; days = days }

read_prop : (text : List ℕ) (rule : TzText) → IsProp (zone_rule text ≡ Some rule)
read_prop text rule = Prim.hlevel props

days_prop : (rule : TzText) → IsProp (AllLast rule)
days_prop rule = Prim.hlevel props

some_is : (a b : TzText) → Some a ≡ Some b → a ≡ b
some_is a b e = cc

same_zone : (text : List ℕ) (r s : TzText) (p : zone_rule text ≡ Some r) (d : AllLast r) (q : zone_rule text ≡ Some s) (f : AllLast s) → r ≡ s → zone_by text r p d ≡ zone_by text s q f
same_zone text r s p d q f e =
    subst (λ (k : TzText). (m : zone_rule text ≡ Some k) (n : AllLast k) → zone_by text r p d ≡ zone_by text k m n) e
    (λ m n. ap (λ (x : zone_rule text ≡ Some r). zone_by text r x d) (read_prop text r p m) ∙ ap (λ (x : AllLast r). zone_by text r m x) (days_prop r d n)) q f

pub IsZone-prop : (text : List ℕ) → IsProp (IsZone text)
IsZone-prop text a b = same_zone text a.rule b.rule a.read a.days b.read b.days (some_is a.rule b.rule (sym a.read ∙ b.read))
