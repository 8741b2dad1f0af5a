-- The profile that a table in TOML states.
use Rattle.std.specs.Prelude.{◌≡◌, ℕ, ◌≤◌, ◌||◌, Bool, true, false, List, [], ◌∷◌, codes, bytes_eq, ℤ, pos, int_lt, Option, Some, None, option_and_then}
use Rattle.std.specs.Result.{result_ok}
use Rattle.edits.specs.Texts.{AreInitials}
use Rattle.fixed_units.specs.Decimals.{decimal_of}
use Rattle.civil_days.specs.Spelling.{only}
use Rattle.civil_days.specs.Starts.{offset_seconds}
use Rattle.site_texts.specs.SiteText.{site_of_text}
use Rattle.station_documents.specs.Members.{HasText, all_keys, string_at, whole_at}
use Rattle.toml.specs.Data.{Members}
use Rattle.logger_files.specs.declared.profiles.Profile.{Profile}
use Rattle.logger_files.specs.declared.profiles.ProfileFault.{ProfileFault}
use Rattle.logger_files.specs.declared.profiles.ProfileFault.TheVariants as lack
use Rattle.logger_files.specs.declared.values.Unit.{Unit}

-- the keys that a profile has
abbrev pub is_profile_key : List ℕ → Bool
is_profile_key key =
    bytes_eq key (codes "site") || (bytes_eq key (codes "by") || (bytes_eq key (codes "skip") || (bytes_eq key (codes "separator")
    || (bytes_eq key (codes "time") || (bytes_eq key (codes "value") || (bytes_eq key (codes "date") || (bytes_eq key (codes "clock")
    || (bytes_eq key (codes "factor") || (bytes_eq key (codes "divisor") || (bytes_eq key (codes "offset") || bytes_eq key (codes "none")))))))))))

-- the byte that a text of one byte is
abbrev pub only_byte : List ℕ → Option ℕ
only_byte [] = None
only_byte (b ∷ []) = Some b
only_byte (b ∷ c ∷ text) = None

-- the quantity that stands at a key, in decimals
abbrev pub number_read : List ℕ → Option ℤ
number_read text = result_ok (decimal_of text)

abbrev pub decimal_at : List ℕ → Members → Option ℤ
decimal_at key table = option_and_then number_read (string_at key table)

-- one that is above 0
abbrev pub is_positive : ℤ → Bool
is_positive n = int_lt (pos 0) n

abbrev pub positive_at : List ℕ → Members → Option ℤ
positive_at key table = only is_positive (decimal_at key table)

-- a whole number of lines, at most 1,000, stands at the key
pub record HasLines (table : Members) (skip : ℕ) : Type 0 where
  pub there : whole_at (codes "skip") table ≡ Some (pos skip)
  pub few : skip ≤ 1000

-- the members of a table that say how numbers become feet
pub record StatesUnit (table : Members) (unit : Unit) : Type 0 where
  pub factor : decimal_at (codes "factor") table ≡ Some unit.factor
  pub divisor : positive_at (codes "divisor") table ≡ Some unit.divisor
  pub offset : decimal_at (codes "offset") table ≡ Some unit.offset

-- a table has the members of a profile, each of its grammar, and no further one
pub record StatesProfile (table : Members) (profile : Profile) : Type 0 where
  pub alone : all_keys is_profile_key table ≡ true
  pub site : option_and_then site_of_text (string_at (codes "site") table) ≡ Some profile.site
  pub by : HasText AreInitials (codes "by") table profile.by
  pub skip : HasLines table profile.skip
  pub separator : option_and_then only_byte (string_at (codes "separator") table) ≡ Some profile.separator
  pub time : string_at (codes "time") table ≡ Some profile.time.now
  pub value : string_at (codes "value") table ≡ Some profile.value.now
  pub date : string_at (codes "date") table ≡ Some profile.date.now
  pub clock : option_and_then offset_seconds (string_at (codes "clock") table) ≡ Some profile.clock
  pub unit : StatesUnit table profile.unit
  pub none : string_at (codes "none") table ≡ Some profile.none.now

-- what a table lacks of a profile, or has over it
abbrev pub Lacks : Members → ProfileFault → Type 0
Lacks table lack.Further = all_keys is_profile_key table ≡ false
Lacks table lack.Site = option_and_then site_of_text (string_at (codes "site") table) ≡ None
Lacks table lack.By = (by : List ℕ) → ¬ HasText AreInitials (codes "by") table by
Lacks table lack.Skip = (skip : ℕ) → ¬ HasLines table skip
Lacks table lack.Separator = option_and_then only_byte (string_at (codes "separator") table) ≡ None
Lacks table lack.Time = string_at (codes "time") table ≡ None
Lacks table lack.Value = string_at (codes "value") table ≡ None
Lacks table lack.Date = string_at (codes "date") table ≡ None
Lacks table lack.Clock = option_and_then offset_seconds (string_at (codes "clock") table) ≡ None
Lacks table lack.Factor = decimal_at (codes "factor") table ≡ None
Lacks table lack.Divisor = positive_at (codes "divisor") table ≡ None
Lacks table lack.Offset = decimal_at (codes "offset") table ≡ None
Lacks table lack.Words = string_at (codes "none") table ≡ None
