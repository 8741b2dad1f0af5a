-- What the table of a station states: the edit that adds it.
use Rattle.std.specs.Prelude.{◌≡◌, ℕ, pos, List, [], codes, bytes_eq, Bool, true, ◌||◌, Some, option_and_then}
use Rattle.edits.specs.Lawful.{IsGap, IsStationZone}
use Rattle.edits.specs.Texts.{IsName, IsReference}
use Rattle.edits.specs.declared.content.Edit.{Edit}
use Rattle.edits.specs.declared.content.What.{What}
use Rattle.edits.specs.declared.content.What.TheVariants.{AddStation}
use Rattle.fixed_units.specs.RoundingArray.{IsRoundingArray}
use Rattle.site_texts.specs.SiteText.{site_of_text}
use Rattle.station_documents.specs.Members.{HasText, all_keys, string_at, whole_at}
use Rattle.toml.specs.Data.{Members}

-- the keys that the table of a station has
abbrev pub is_station_key : List ℕ → Bool
is_station_key key =
    bytes_eq key (codes "site") || (bytes_eq key (codes "ref") || (bytes_eq key (codes "name") || (bytes_eq key (codes "zone")
    || (bytes_eq key (codes "gap") || (bytes_eq key (codes "stage_array") || bytes_eq key (codes "discharge_array"))))))

-- a whole number of minutes that is a gap tolerance
pub record HasGap (table : Members) (gap : ℕ) : Type 0 where
  pub there : whole_at (codes "gap") table ≡ Some (pos gap)
  pub near : IsGap gap

-- the table has a name, a zone, a gap tolerance and two rounding arrays, and the station of these is what is added
pub record StatesAddition (table : Members) (what : What) : Type 0 where
  pub name : List ℕ
  pub zone : List ℕ
  pub gap : ℕ
  pub stages : List ℕ
  pub discharges : List ℕ
  pub named : HasText IsName (codes "name") table name
  pub zoned : HasText IsStationZone (codes "zone") table zone
  pub near : HasGap table gap
  pub stage_array : HasText IsRoundingArray (codes "stage_array") table stages
  pub discharge_array : HasText IsRoundingArray (codes "discharge_array") table discharges
  pub adds : what ≡ AddStation name zone gap stages discharges

-- the table has a reference, a site and what is added, and no further member: the edit is of these, by the person of these initials,
-- with an empty comment
pub record StatesStation (initials : List ℕ) (table : Members) (edit : Edit) : Type 0 where
  pub alone : all_keys is_station_key table ≡ true
  pub by : edit.by ≡ initials
  pub reference : HasText IsReference (codes "ref") table edit.reference
  pub site : option_and_then site_of_text (string_at (codes "site") table) ≡ Some edit.site
  pub comment : edit.comment ≡ []
  pub what : StatesAddition table edit.what
