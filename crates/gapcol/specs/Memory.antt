-- What the places of a block own and lend, for values of the row R.
use Rattle.std.specs.Prelude.{ℕ, ◌+◌, ◌*◌, ◌^◌, List, [], ◌∷◌, length, Option, Some, None}
use Rattle.std.specs.Mem.{type_size}
use base.Fraction.{full_share}
use base.Fml.{Lft, Fml, ftrue, ffalse, fsep, flt, froom}
use mir.Syntax.{Ty, ty_array}
use mir.Raw.{raw}
use denote.RattleType.{RattleType}
use denote.Memory.{lone, part_at, shared_of}
use denote.Sharing.{nothing, said, beside}
use denote.RawPtr.{Ptr, block_ptr, null_ptr}

module _ (R : RattleType) where
  -- the place o bytes into the block b: its value, or bare room for one
  abbrev pub place_owned : ℕ → ℕ → Option R.Denot → Fml
  place_owned b o (Some x) = part_at R full_share x b o
  place_owned b o None = froom (raw (lone R.mir)) b o

  -- places one behind the other, the first of them there
  abbrev pub places_owned : ℕ → ℕ → List (Option R.Denot) → Fml
  places_owned b o [] = ftrue
  places_owned b o (c ∷ cs) = fsep (place_owned b o c) (places_owned b (o + type_size R) cs)

  -- a filled place lends its value, an empty one nothing
  abbrev pub place_lent : ℕ → ℕ → Option R.Denot → Lft → Fml
  place_lent b o (Some x) = shared_of R x b o
  place_lent b o None = nothing

  abbrev pub places_lent : ℕ → ℕ → List (Option R.Denot) → Lft → Fml
  places_lent b o [] = nothing
  places_lent b o (c ∷ cs) = beside (place_lent b o c) (places_lent b (o + type_size R) cs)

  -- no place lies 2 ^ 63 bytes or more from the first
  abbrev pub near : List (Option R.Denot) → Fml
  near cs = flt (length cs * type_size R) (2 ^ 63)

  -- what the places from a pointer on own
  abbrev pub cells_owned : Ptr → List (Option R.Denot) → Fml
  cells_owned (block_ptr b o) cs = fsep (near cs) (places_owned b o cs)
  cells_owned null_ptr cs = ffalse

  -- what they lend
  abbrev pub cells_lent : Ptr → List (Option R.Denot) → Lft → Fml
  cells_lent (block_ptr b o) cs = beside (said (near cs)) (places_lent b o cs)
  cells_lent null_ptr cs = said ffalse

  -- the allocator's leave to free a block of n places
  abbrev pub deed_owned : (Ty → Ptr → Fml) → Ptr → ℕ → Fml
  deed_owned leave p n = leave (raw (ty_array (lone R.mir) n)) p
