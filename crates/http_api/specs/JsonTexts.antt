-- Parts of JSON texts; a string in quotes is that of `json`.
use Rattle.std.specs.Prelude.{ℕ, Bool, true, false, List, ◌++◌, codes, Option, Some, None, ℤ}
use Rattle.fixed_units.specs.PublishedText.{micro_text}

abbrev pub bool_text : Bool → List ℕ
bool_text true = codes "true"
bool_text false = codes "false"

-- a quantity with its six decimals in quotes, or null
abbrev pub micro_or_null : Option ℤ → List ℕ
micro_or_null None = codes "null"
micro_or_null (Some millionths) = codes "\"" ++ micro_text millionths ++ codes "\""
