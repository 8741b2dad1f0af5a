-- How statuses are kept: by site, of the days alone that are in review or approved.
use Rattle.std.specs.Prelude.{ℕ, ◌≤◌, List, [], map, Option, Some, None, ℤ, pos, ◌+ℤ◌, ◌-ℤ◌, unsigned_abs, if◌then◌else◌}
use Rattle.fixed_units.specs.Calendar.{days_from}
use Rattle.fixed_units.specs.Quantities.{SiteNumber, site_place}
use Rattle.rising.specs.Lists as lists
use Rattle.edits.specs.declared.content.Edit.{Edit}
use Rattle.edits.specs.declared.content.What.{What}
use Rattle.edits.specs.declared.content.What.TheVariants.{Review, Decide}
use Rattle.edits.specs.declared.decisions.Decision.TheVariants.{Approve}
use Rattle.approval.specs.declared.days.DayStanding.{DayStanding}
use Rattle.approval.specs.declared.status.Status.{Status}
use Rattle.approval.specs.Statuses.{Standing, is_approved, worked}

-- the standings of the days of a site, and for how many more there is room
pub record KeptSite : Type 0 where
  pub site : SiteNumber
  pub days : List DayStanding
  pub spare : ℕ

-- the numbers that a day and a site stand at
abbrev pub day_place : DayStanding → ℤ
day_place s = s.day

abbrev pub kept_place : KeptSite → ℤ
kept_place kept = site_place kept.site

-- the standing of a day that is kept: worked where it is not
abbrev pub standing_of : Option DayStanding → Standing
standing_of None = worked
standing_of (Some s) = record { status = s.status; edit = s.edit }

-- the standing of a day among those of its site
abbrev pub standing_at : List DayStanding → ℤ → Standing
standing_at days day = standing_of (lists.at day_place day days)

-- what is kept of a site, and its days
abbrev pub kept_of : List KeptSite → SiteNumber → Option KeptSite
kept_of sites site = lists.at kept_place (site_place site) sites

abbrev pub days_of : Option KeptSite → List DayStanding
days_of None = []
days_of (Some kept) = kept.days

-- the standing of a day of a site
abbrev pub standing_in : List KeptSite → SiteNumber → ℤ → Standing
standing_in sites site day = standing_at (days_of (kept_of sites site)) day

-- the number of the edit that approved a day which stands so
abbrev pub approval_of : Standing → Option ℕ
approval_of standing = if is_approved standing.status then Some standing.edit else None

-- how many days there are from one to another that is not before it
abbrev pub span_length : ℤ → ℤ → ℕ
span_length from to = unsigned_abs (to +ℤ pos 1 -ℤ from)

-- the standings of so many days from one on
abbrev pub standings_from : ℤ → ℕ → Status → ℕ → List DayStanding
standings_from from count status edit = map (λ day. record { day = day; status = status; edit = edit }) (days_from from count)

-- there is room for the days from one to another, whatever stands there
abbrev pub HasSpanRoom : Option KeptSite → ℤ → ℤ → Type 0
HasSpanRoom None from to = ⊥
HasSpanRoom (Some kept) from to = span_length from to ≤ kept.spare

-- room is made for an edit: a review or an approval puts its days
abbrev pub HasRoomFor : Option KeptSite → What → Type 0
HasRoomFor kept (Review from to) = HasSpanRoom kept from to
HasRoomFor kept (Decide from to Approve) = HasSpanRoom kept from to
HasRoomFor kept _ = Unit {0}

abbrev pub HasRoom : List KeptSite → Edit → Type 0
HasRoom sites edit = HasRoomFor (kept_of sites edit.site) edit.what
