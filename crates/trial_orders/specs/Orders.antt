-- The orders of a trial: all that is asked of an office, in order.
use Rattle.std.specs.Prelude.{ℕ, List, [], ◌∷◌, ◌++◌, map, codes}
use Rattle.std.specs.List.{range_with_len, flat_map}
use Rattle.edits.specs.declared.content.What.{What}
use Rattle.fixed_units.specs.Quantities.{SiteNumber}
use Rattle.trial_orders.specs.Questions.{site_of, addition, rating, period, part_put, first_correction, second_correction, shift, review, approval, flagging, approved_instant, open_instant}

pub data Order : Type 0 where
  -- an edit of a site, by a person
  Ask : List ℕ → SiteNumber → What → Order
  -- the publication of every pending day
  Settle : Order

-- an edit of a station by the person who makes all of the trial but its approval
abbrev pub trial_asks : ℕ → What → Order
trial_asks station what = Ask (codes "TR") (site_of station) what

-- a station is set up, and its readings are put, in eight parts
abbrev pub setting_up : ℕ → List Order
setting_up station = trial_asks station (addition station) ∷ trial_asks station rating ∷ trial_asks station period ∷ []

abbrev pub putting_part : ℕ → ℕ → ℕ → Order
putting_part number station part = trial_asks station (part_put number station part)

abbrev pub parts_of_station : ℕ
parts_of_station = 8

unfoldable pub putting_readings : ℕ → ℕ → List Order
putting_readings number station = map (putting_part number station) (range_with_len 0 parts_of_station)

-- it is corrected and shifted
abbrev pub correcting : ℕ → List Order
correcting station = trial_asks station first_correction ∷ trial_asks station second_correction ∷ trial_asks station shift ∷ []

-- days of it are reviewed by one person and approved by another
abbrev pub approving : ℕ → List Order
approving station = Ask (codes "RA") (site_of station) review ∷ Ask (codes "AB") (site_of station) approval ∷ []

-- readings of it are flagged
abbrev pub flagging_readings : ℕ → List Order
flagging_readings station = trial_asks station (flagging approved_instant) ∷ trial_asks station (flagging open_instant) ∷ []

-- the same for each of the four stations
abbrev pub stations : List ℕ
stations = range_with_len 1 4

unfoldable pub for_each_station : (ℕ → List Order) → List Order
for_each_station of_station = flat_map of_station stations

-- the orders of the trial of a number
unfoldable pub orders : ℕ → List Order
orders number =
    for_each_station setting_up
    ++ (for_each_station (putting_readings number)
    ++ (for_each_station correcting
    ++ (Settle ∷ (for_each_station approving
    ++ (for_each_station flagging_readings
    ++ (Settle ∷ []))))))
