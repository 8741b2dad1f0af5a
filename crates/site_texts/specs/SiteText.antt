-- The text of a site number.
use Rattle.std.specs.Prelude.{ℕ, ◌-◌, Bool, ◌&&◌, nat_le, List, ◌++◌, length, replicate, decimal, Option, Some, None, if◌then◌else◌}
use Rattle.std.specs.List.{list_all}
use Rattle.std.specs.Char.{is_ascii_digit}
use Rattle.std.specs.Str.Parse.{digits_value}
use Rattle.fixed_units.specs.Quantities.{SiteNumber}

-- 8 to 15 decimal digits
abbrev pub is_site_text : List ℕ → Bool
is_site_text text = nat_le 8 (length text) && nat_le (length text) 15 && list_all is_ascii_digit text

-- the site of such a text, of which zeros in front count; any other text is none
abbrev pub site_of_text : List ℕ → Option SiteNumber
site_of_text text =
    if is_site_text text then Some (record { digits = length text; value = digits_value 10 text }) else None

-- its text: the value behind as many zeros as make up its digits
abbrev pub site_text : SiteNumber → List ℕ
site_text site = replicate (site.digits - length (decimal site.value)) 48 ++ decimal site.value
