-- The members of a table in TOML: what stands at a key, and which keys there are.
use Rattle.std.specs.Prelude.{◌≡◌, ℕ, ℤ, List, Bool, true, ◌&&◌, Option, Some, option_and_then}
use Rattle.toml.specs.Data.{Members, no_members, member, Items, get_member, as_str, as_integer, as_array}

-- the string, the whole number and the array at a key
abbrev pub string_at : List ℕ → Members → Option (List ℕ)
string_at key table = option_and_then as_str (get_member key table)

abbrev pub whole_at : List ℕ → Members → Option ℤ
whole_at key table = option_and_then as_integer (get_member key table)

abbrev pub array_at : List ℕ → Members → Option Items
array_at key table = option_and_then as_array (get_member key table)

-- each key passes
abbrev pub all_keys : (List ℕ → Bool) → Members → Bool
all_keys test no_members = true
all_keys test (member key value others) = test key && all_keys test others

-- at the key stands a string, and it is this text of the grammar
pub record HasText (Grammar : List ℕ → Type 0) (key : List ℕ) (table : Members) (text : List ℕ) : Type 0 where
  pub there : string_at key table ≡ Some text
  pub formed : Grammar text
