-- Where the accepted edits stand that references name.
use Rattle.std.specs.Prelude.{◌≡◌, ℕ, ◌+◌, ◌/◌, ◌%◌, ◌^◌, ◌<◌, ◌==◌, Bool, true, false, List, find, slice_get, bytes_eq, Option, Some, None, IsSome, option_map}
use Rattle.std.specs.Hash.FoldHasher.{initial, write, finish}
use Rattle.records.specs.Sheets.{Record}

-- a key, and the place among the accepted edits that is kept under it: that of the first edit is 0
pub record Placed : Type 0 where
  pub key : ℕ
  pub place : ℕ

abbrev pub place_at : List Placed → ℕ → Option ℕ
place_at kept key = option_map (λ (p : Placed). p.place) (find (λ (p : Placed). key == p.key) kept)

-- no place is kept under a key but this one
abbrev pub is_place : ℕ → Option ℕ → Bool
is_place place None = true
is_place place (Some kept) = kept == place

abbrev pub is_free_in : List Placed → ℕ → ℕ → Bool
is_free_in kept key place = is_place place (place_at kept key)

-- the hash of a reference in 32 bits
unfoldable pub hash_of : List ℕ → ℕ
hash_of reference = finish (write initial reference) / 2 ^ 32

-- the keys of a reference: its hash, and in turn the numbers of 32 bits that come after it
abbrev pub key_of : List ℕ → ℕ → ℕ
key_of reference turn = (hash_of reference + turn) % 2 ^ 32

-- a place is kept for a reference: under its key of some turn, where each key of a turn before keeps a place as well
pub record IsPlacedFor (kept : List Placed) (reference : List ℕ) (place : ℕ) : Type 0 where
  pub turn : ℕ
  pub in_range : turn + 1 < 2 ^ 32
  pub here : place_at kept (key_of reference turn) ≡ Some place
  pub before : (earlier : ℕ) → earlier < turn → IsSome (place_at kept (key_of reference earlier))

-- the record at a place has the reference
abbrev pub is_its : List ℕ → Option Record → Bool
is_its reference None = false
is_its reference (Some piece) = bytes_eq piece.edit.reference reference

abbrev pub has_reference : List Record → List ℕ → ℕ → Bool
has_reference pieces reference place = is_its reference (slice_get pieces place)
