-- The entries, the rating periods and the least cover of a day are told from those of the station.
use Rattle.std.specs.Prelude.{◌≡◌, true, ℕ, List, Option, ℤ}
use Rattle.std.specs.Bool.{Decides}
use Rattle.std.proofs.Common.{refl, ap, sym, subst, ◌∙◌}
use Rattle.std.proofs.lemmas.Bool.Decides.{Decides-and}
use Rattle.editions.proofs.CoverLemmas.{leasts_decide}
use Rattle.fixed_units.specs.declared.readings.Reading.{Reading}
use Rattle.curves.specs.declared.entries.Entry.{Entry}
use Rattle.curves.specs.Corrections.{Corrections}
use Rattle.curves.proofs.EqualityLemmas.{lists_decide}
use Rattle.ratings.specs.Numbered.{StationRatings}
use Rattle.ratings.proofs.PartEqualityLemmas.{lists_decide as periods_decide}
use Rattle.day_inputs.specs.declared.day_inputs.DayParts.{DayParts}
use Rattle.day_inputs.specs.DayInputs.{bearing_on, least_on, parts_on, window_ends}
use Rattle.day_inputs.specs.Equality.{has_rules, has_rules_on}
use Rattle.day_inputs.proofs.EqualityLemmas.{from_parts}
use Rattle.day_inputs.proofs.WindowEnds.{parts_with}

module _ (gap : ℕ) (stages discharges : List ℕ) (from until : ℤ) (c : Corrections) (shifts : List Entry) (ratings : StationRatings) (estimate : Option ℤ) (least : Option ℕ) where
  -- the five lists and the least cover are those that count for the time
  abbrev AreOn : DayParts → Option (ℤ × ℤ) → Type 0
  AreOn p span = (p.first ≡ bearing_on span c.first) × ((p.second ≡ bearing_on span c.second) × ((p.third ≡ bearing_on span c.third) × ((p.shifts ≡ bearing_on span shifts) × ((p.periods ≡ parts_on span ratings) × (p.least ≡ least_on span least)))))

  on_decide : (p : DayParts) (span : Option (ℤ × ℤ)) → Decides (has_rules_on c shifts ratings least p span) (AreOn p span)
  on_decide p span =
      Decides-and _ _ (lists_decide p.first (bearing_on span c.first))
      (Decides-and _ _ (lists_decide p.second (bearing_on span c.second))
      (Decides-and _ _ (lists_decide p.third (bearing_on span c.third))
      (Decides-and _ _ (lists_decide p.shifts (bearing_on span shifts))
      (Decides-and _ _ (periods_decide p.periods (parts_on span ratings)) (leasts_decide p.least (least_on span least))))))

  pub rules_told : (p : DayParts) (w : List Reading) → p ≡ parts_with gap stages discharges from until c shifts ratings estimate least w (window_ends w) → has_rules c shifts ratings least p ≡ true
  rules_told p w e =
      subst (λ (q : DayParts). has_rules c shifts ratings least q ≡ true) (sym e)
      ((on_decide (parts_with gap stages discharges from until c shifts ratings estimate least w (window_ends w)) (window_ends w)).1 (refl, (refl, (refl, (refl, (refl, refl))))))

  pub rules_are : (p : DayParts) (w : List Reading) → p.gap ≡ gap → p.stage_array ≡ stages → p.discharge_array ≡ discharges → p.from ≡ from → p.until ≡ until
      → p.window ≡ w → p.estimate ≡ estimate → has_rules c shifts ratings least p ≡ true → p ≡ parts_with gap stages discharges from until c shifts ratings estimate least w (window_ends w)
  rules_are p w g s d a b k q h =
      let same = (on_decide p (window_ends w)).0 (sym (ap (λ (x : List Reading). has_rules_on c shifts ratings least p (window_ends x)) k) ∙ h) in
      from_parts p (parts_with gap stages discharges from until c shifts ratings estimate least w (window_ends w))
      (g, (s, (d, (a, (b, (k, (same.0, (same.1.0, (same.1.1.0, (same.1.1.1.0, (same.1.1.1.1.0, (q, same.1.1.1.1.1))))))))))))
