-- What a trial asks of an office, station by station.
use Rattle.std.specs.Prelude.{ℕ, ◌+◌, ◌*◌, ◌-◌, ◌%◌, ◌==◌, true, false, if◌then◌else◌, List, [], ◌∷◌, ◌++◌, map, codes, decimal, None, ℤ, pos, neg_ℤ}
use Rattle.std.specs.List.{range_with_len}
use Rattle.edits.specs.declared.content.What.{What}
use Rattle.edits.specs.declared.content.What.TheVariants.{AddStation, AddRating, PutPeriod, PutReadings, PutCorrection, PutShift, Review, Decide, FlagReadings}
use Rattle.edits.specs.declared.decisions.Decision.TheVariants.{Approve}
use Rattle.fixed_units.specs.Quantities.{SiteNumber}
use Rattle.fixed_units.specs.declared.readings.Flag.TheVariants.{Usable, Erroneous}
use Rattle.fixed_units.specs.declared.readings.Reading.{Reading}
use Rattle.trial_orders.specs.Draws.{draw_at}

-- the site of a station, from 1 on: eight digits
abbrev pub site_of : ℕ → SiteNumber
site_of station = record { digits = 8; value = station }

abbrev pub name_of : ℕ → List ℕ
name_of station = codes "TRIAL " ++ decimal station

abbrev pub zone_of : ℕ → List ℕ
zone_of station =
    if station == 1 then codes "EST5EDT,M3.2.0,M11.1.0"
    else (if station == 2 then codes "CST6CDT,M3.2.0,M11.1.0"
    else (if station == 3 then codes "-07:00" else codes "+00:00"))

-- the station is added
abbrev pub addition : ℕ → What
addition station = AddStation (name_of station) (zone_of station) 60 (codes "9999999992") (codes "0222233332")

-- a row of the rating: at a stage of so many feet ten times as many cubic feet per second as its square
abbrev pub rating_row : ℕ → ℤ × ℤ
rating_row feet = (pos (1_000_000 * feet), pos (1_000_000 * (10 * feet * feet)))

-- the rating, from 0 to 20 feet, and its period from 2023-01-01T00:00:00Z without end
unfoldable pub rating_rows : List (ℤ × ℤ)
rating_rows = map rating_row (range_with_len 0 21)

abbrev pub rating : What
rating = AddRating 1 rating_rows

abbrev pub period : What
period = PutPeriod (record { from = pos 1_672_531_200; until = None; rating = 1 })

-- how many draws come before those of a part of a station's readings, counted from 0: a station has 19,200 readings, and a part 2,400
abbrev pub draws_before : ℕ → ℕ → ℕ
draws_before station part = 19_200 * (station - 1) + 2_400 * part

-- how many readings an edit puts
unfoldable pub readings_of_part : ℕ
readings_of_part = 2_400

-- the reading of a place, from 0 on, in the trial of a number: half an hour after the one before, from 2023-01-03T00:00:00Z on, at a
-- stage from 2 feet to below 17
abbrev pub reading_of : ℕ → ℕ → ℕ → Reading
reading_of number station place = record {
  at = pos (1_672_704_000 + 1_800 * place);
  raw = pos (2_000_000 + draw_at number (19_200 * (station - 1) + place + 1) % 15_000_000);
  flag = Usable;
}

-- the readings of a part
unfoldable pub part_readings : ℕ → ℕ → ℕ → List Reading
part_readings number station part = map (reading_of number station) (range_with_len (2_400 * part) readings_of_part)

abbrev pub part_put : ℕ → ℕ → ℕ → What
part_put number station part = PutReadings (part_readings number station part)

-- no correction from 2023-06-01T00:00:00Z on, which goes over to a tenth of a foot from 2023-09-01T00:00:00Z on
abbrev pub first_correction : What
first_correction = PutCorrection 1 (pos 1_685_577_600) ((pos 0, pos 0) ∷ []) true

abbrev pub second_correction : What
second_correction = PutCorrection 1 (pos 1_693_526_400) ((pos 0, pos 100_000) ∷ []) false

-- a shift from 2023-04-01T00:00:00Z on: most at 5 feet, five hundredths of a foot down, and none from 10 feet on
abbrev pub shift : What
shift = PutShift (pos 1_680_307_200) ((pos 0, pos 0) ∷ (pos 5_000_000, neg_ℤ (pos 50_000)) ∷ (pos 10_000_000, pos 0) ∷ []) false

-- the days from 2023-01-05 to 2023-04-14 are reviewed and approved
abbrev pub first_reviewed : ℤ
first_reviewed = pos 19_362

abbrev pub last_reviewed : ℤ
last_reviewed = pos 19_461

abbrev pub review : What
review = Review first_reviewed last_reviewed

abbrev pub approval : What
approval = Decide first_reviewed last_reviewed Approve

-- the reading of an instant is flagged as erroneous: of 2023-02-01T12:00:00Z, which an approved day has, and of 2023-07-01T12:00:00Z
abbrev pub flagging : ℤ → What
flagging at = FlagReadings at at Erroneous

abbrev pub approved_instant : ℤ
approved_instant = pos 1_675_252_800

abbrev pub open_instant : ℤ
open_instant = pos 1_688_212_800
