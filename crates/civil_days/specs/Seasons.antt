-- What a rule says of the midnights of days.
use Rattle.std.specs.Prelude.{◌≡◌, ℤ, pos, ◌*ℤ◌, ◌≤ℤ◌, ◌<ℤ◌}
use Rattle.jiff_core.specs.Timestamp.{IsOffsetSeconds}
use Rattle.jiff_tz.specs.PosixText.{TzText}
use Rattle.civil_days.specs.Rule.{seconds_by}
use Rattle.civil_days.specs.Starts.{offset_on}
use Rattle.civil_days.specs.declared.seasons.Season.{Season}
use Rattle.civil_days.specs.declared.stretches.Stretch.{Stretch}

-- the season's window gives the offsets of all its days by the rule
pub record IsSeason (rule : TzText) (season : Season) : Type 0 where
  pub offsets : (day : ℤ) → season.first ≤ℤ day → day <ℤ season.next
      → offset_on rule day ≡ seconds_by season.std season.dst (season.start, season.end) (day *ℤ pos 86_400_000_000_000)

-- the stretch's offset is that of all its days by the rule
pub record IsStretch (rule : TzText) (stretch : Stretch) : Type 0 where
  pub some : stretch.first <ℤ stretch.next
  pub most : stretch.next ≤ℤ pos 48_000
  pub offset_in : IsOffsetSeconds stretch.offset
  pub offsets : (day : ℤ) → stretch.first ≤ℤ day → day <ℤ stretch.next → offset_on rule day ≡ stretch.offset
