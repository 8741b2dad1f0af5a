-- The ranges of quantities, instants, days and sites, and the greatest gap tolerance and rating number. A number is that of millionths,
-- seconds or days.
use Rattle.std.specs.Prelude.{ℕ, ◌+◌, ◌*◌, ◌^◌, ◌<◌, ◌≤◌, Bool, ◌&&◌, ℤ, pos, neg_ℤ, ◌≤ℤ◌, int_le}
use Rattle.std.specs.Ordering.{nat_cmp, ordering_then, int_eq}
use Rattle.std.specs.declared.cmp.Ordering.{Ordering}

-- a number from the least to the greatest of a range, and the test of it
pub record IsWithin (least greatest n : ℤ) : Type 0 where
  pub low : least ≤ℤ n
  pub high : n ≤ℤ greatest

abbrev pub is_within : ℤ → ℤ → ℤ → Bool
is_within least greatest n = int_le least n && int_le n greatest

-- the greatest magnitudes: of any amount in millionths, of one that a text may state, and of an instant
abbrev pub most_millionths : ℕ
most_millionths = 10 ^ 17

abbrev pub most_stated : ℕ
most_stated = 10 ^ 13

abbrev pub most_seconds : ℕ
most_seconds = 10 ^ 10

-- an amount in millionths
abbrev pub IsMicro : ℤ → Type 0
IsMicro n = IsWithin (neg_ℤ (pos most_millionths)) (pos most_millionths) n

-- an instant in seconds
abbrev pub IsSecond : ℤ → Type 0
IsSecond n = IsWithin (neg_ℤ (pos most_seconds)) (pos most_seconds) n

-- a day of the calendar, from 1900-01-01 to 2099-12-31
abbrev pub first_day : ℤ
first_day = neg_ℤ (pos 25_567)

abbrev pub last_day : ℤ
last_day = pos 47_481

abbrev pub IsDay : ℤ → Type 0
IsDay n = IsWithin first_day last_day n

abbrev pub is_day : ℤ → Bool
is_day n = is_within first_day last_day n

-- a stamp: an instant from 1900-01-03T00:00:00Z to 2099-12-28T23:59:59Z
abbrev pub first_stamp : ℤ
first_stamp = neg_ℤ (pos 2_208_816_000)

abbrev pub last_stamp : ℤ
last_stamp = pos 4_102_185_599

abbrev pub IsStamp : ℤ → Type 0
IsStamp n = IsWithin first_stamp last_stamp n

abbrev pub is_stamp : ℤ → Bool
is_stamp n = is_within first_stamp last_stamp n

-- a stage or a mean of stages in millionths of a foot: at most 100,000 feet either way
abbrev pub most_stage : ℕ
most_stage = 10 ^ 11

abbrev pub IsStage : ℤ → Type 0
IsStage n = IsWithin (neg_ℤ (pos most_stage)) (pos most_stage) n

abbrev pub is_stage : ℤ → Bool
is_stage n = is_within (neg_ℤ (pos most_stage)) (pos most_stage) n

-- a discharge in millionths of a cubic foot per second: at most 10,000,000, and not below 0
abbrev pub most_discharge : ℕ
most_discharge = 10 ^ 13

abbrev pub IsDischarge : ℤ → Type 0
IsDischarge n = IsWithin (pos 0) (pos most_discharge) n

abbrev pub is_discharge : ℤ → Bool
is_discharge n = is_within (pos 0) (pos most_discharge) n

-- an amount of a correction or of a shift in millionths of a foot: at most 1,000 feet either way
abbrev pub most_amount : ℕ
most_amount = 10 ^ 9

abbrev pub IsAmount : ℤ → Type 0
IsAmount n = IsWithin (neg_ℤ (pos most_amount)) (pos most_amount) n

abbrev pub is_amount : ℤ → Bool
is_amount n = is_within (neg_ℤ (pos most_amount)) (pos most_amount) n

-- the greatest gap tolerance, in minutes
abbrev pub most_gap : ℕ
most_gap = 720

-- the greatest number of a rating
abbrev pub most_rating_number : ℕ
most_rating_number = 999_999

-- a site number, as contracts see it
pub record SiteNumber : Type 0 where
  pub digits : ℕ
  pub value : ℕ

-- a site number of 8 to 15 decimal digits, of which zeros in front count
pub record IsSite (site : SiteNumber) : Type 0 where
  pub shortest : 8 ≤ site.digits
  pub longest : site.digits ≤ 15
  pub written : site.value < 10 ^ site.digits

-- the order of sites: fewer digits come first, and of as many the lesser value
abbrev pub site_order : SiteNumber → SiteNumber → Ordering
site_order a b = ordering_then (nat_cmp a.digits b.digits) (nat_cmp a.value b.value)

-- the number that a site stands at in that order
abbrev pub site_place : SiteNumber → ℤ
site_place site = pos (site.digits * 10 ^ 15 + site.value)

-- two sites are one: they stand at one number
abbrev pub same_site : SiteNumber → SiteNumber → Bool
same_site a b = int_eq (site_place a) (site_place b)
