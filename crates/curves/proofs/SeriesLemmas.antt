-- The bearing entries of a series keep to what the series does.
use Rattle.std.specs.Prelude.{Bool, true, false, ◌||◌, cond, List, [], ◌∷◌, ◌++◌, ℤ, All}
use Rattle.std.proofs.lemmas.List.Elements.{All-head, All-tail, All-cons, All-nil}
use Rattle.fixed_units.specs.Quantities.{IsAmount}
use Rattle.rising.specs.Ends.{first}
use Rattle.curves.specs.Bearing.{bearing, bearing_led, bears, leads}
use Rattle.curves.specs.Entries.{IsSeries, AreAmounts}
use Rattle.curves.specs.declared.entries.Entry.{Entry}
use Rattle.curves.proofs.BearingRuns.{bearing_rises}

module _ (P : Entry → Type 0) (lo hi : ℤ) where
  front_keeps : (b : Bool) (e : Entry) (es : List Entry) → P e → All P es → All P (cond b (e ∷ []) [] ++ es)
  front_keeps true e es h k = All-cons P e es h k
  front_keeps false e es h k = k

  led_keeps : (led : Bool) (es : List Entry) → All P es → All P (bearing_led lo hi led es)
  led_keeps led [] h = All-nil P
  led_keeps led (e ∷ es) h =
      front_keeps (bears lo hi e (first es) || led) e (bearing_led lo hi (leads lo hi e (first es)) es) (All-head P e es h)
      (led_keeps (leads lo hi e (first es)) es (All-tail P e es h))

pub bearing_amounts : (lo hi : ℤ) (es : List Entry) → AreAmounts es → AreAmounts (bearing lo hi es)
bearing_amounts lo hi es h = led_keeps (λ e. All (λ p. IsAmount p.1) e.curve) lo hi false es h

pub bearing_series : (lo hi : ℤ) (es : List Entry) → IsSeries es → IsSeries (bearing lo hi es)
bearing_series lo hi es h = record { rising = bearing_rises lo hi es h.rising; amounts = bearing_amounts lo hi es h.amounts }
