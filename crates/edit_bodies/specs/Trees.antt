-- What serde_json states of a tree over borrowed text, where floats hold all its numbers.
use Rattle.std.specs.Prelude.{◌≡◌, ℕ, ◌<◌, List, length, bytes_eq, All, Bool, true, false, ◌&&◌, Option, Some, None, is_some, Vec}
use Rattle.std.specs.Float.{float_zero}
use Rattle.std.specs.List.{AllWithin, HoldsAt}
use Rattle.std.specs.Borrow.{Bor}
use Rattle.std.specs.declared.alloc.Global.{Global}
use Rattle.json.specs.Json as json
use Rattle.json.specs.Value.{value_view, items_view, members_view}
use Rattle.json.specs.declared.value.Value.{Value}
use Rattle.serde_json.specs.Data.{Num, float, Data, null, boolean, number, string, array, object, Items, no_items, item, Members, no_members, put}
use Rattle.serde_json.specs.Read.{number_of}

-- a number, if a float holds it; where none does, it is told as a float: as no whole number, and as nothing else than a number
abbrev pub number_or_float : Option Num → Data
number_or_float (Some n) = number n
number_or_float None = number (float float_zero)

-- the value of a tree; of members of one name the last stays
abbrev mutual
  pub data_of : json.Json → Data
  data_of json.null = null
  data_of (json.boolean b) = boolean b
  data_of (json.number s) = number_or_float (number_of s)
  data_of (json.string s) = string s
  data_of (json.array js) = array (items_of js)
  data_of (json.object ms) = object (members_of ms no_members)

  pub items_of : json.Items → Items
  items_of json.no_items = no_items
  items_of (json.item j js) = item (data_of j) (items_of js)

  pub members_of : json.Members → Members → Members
  members_of json.no_members found = found
  members_of (json.member k j ms) found = members_of ms (put k (data_of j) found)

-- floats hold all numbers of a tree
abbrev mutual
  pub is_held : json.Json → Bool
  is_held json.null = true
  is_held (json.boolean b) = true
  is_held (json.number s) = is_some (number_of s)
  is_held (json.string s) = true
  is_held (json.array js) = are_items_held js
  is_held (json.object ms) = are_members_held ms

  pub are_items_held : json.Items → Bool
  are_items_held json.no_items = true
  are_items_held (json.item j js) = is_held j && are_items_held js

  pub are_members_held : json.Members → Bool
  are_members_held json.no_members = true
  are_members_held (json.member k j ms) = is_held j && are_members_held ms

-- a tree over borrowed text, and the members of one
abbrev pub Tree : Type 0
Tree = Value Global

abbrev pub Field : Type 0
Field = Bor (List ℕ) × Tree

abbrev pub Fields : Type 0
Fields = Vec Field Global

-- what serde_json states of them
abbrev pub stated : Tree → Data
stated tree = data_of (value_view tree)

abbrev pub items_stated : List Tree → Items
items_stated trees = items_of (items_view trees)

abbrev pub members_stated : List Field → Members
members_stated fields = members_of (members_view fields) no_members

-- the members that were not taken out yet
abbrev pub left : Fields → Members
left fields = members_stated fields.items

-- a field has a name
abbrev pub is_named : List ℕ → Field → Bool
is_named name field = bytes_eq field.0.now name

-- the first place of a name among fields, or none where it is missing
abbrev pub IsFirstPlace : List ℕ → List Field → Option ℕ → Type 0
IsFirstPlace name fields None = All (λ field. is_named name field ≡ false) fields
IsFirstPlace name fields (Some place) =
    (place < length fields) × HoldsAt (λ field. is_named name field ≡ true) fields place
    × AllWithin (λ field. is_named name field ≡ false) fields 0 place
