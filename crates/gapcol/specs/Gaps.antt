-- What holds of the fields behind a column.
use Rattle.std.specs.Prelude.{◌≡◌, ℕ, ◌+◌, ◌-◌, ◌^◌, ◌<◌, ◌≤◌, List, ◌++◌, length, take, drop, MatchOption}
use Rattle.gapcol.specs.Places.{somes, gapped}
use Rattle.gapcol.specs.declared.gap.Gap.{Gap}

module _ {X : Type 0} where
  -- how many places the gap has
  abbrev pub gap_room : Gap X → ℕ
  gap_room g = g.capacity - g.len

  -- the values before the gap
  unfoldable pub gap_front : Gap X → List X
  gap_front g = somes (take g.front g.cells.slots)

  -- the values behind it
  unfoldable pub gap_back : Gap X → List X
  gap_back g = somes (drop g.front g.cells.slots)

  -- all values, in order
  abbrev pub gap_list : Gap X → List X
  gap_list g = gap_front g ++ gap_back g

  -- the value at the index i lies at the place p
  pub record IsPlace (g : Gap X) (i p : ℕ) : Type 0 where
    pub before : i < g.front → p ≡ i
    pub behind : g.front ≤ i → p ≡ i + gap_room g

  -- the fields tell one block, filled but for one gap
  pub record IsGap (g : Gap X) : Type 0 where
    -- the places are those at the base, and where there is a block, the deed is of that block, its length and its allocator
    pub block : (g.cells.at ≡ g.base.ptr) × MatchOption g.deed Unit (λ d. (d.at ≡ g.base.ptr) × (d.len ≡ g.capacity) × (d.alloc ≡ g.alloc))
    pub sizes : (g.len ≤ g.capacity) × (g.capacity < 2 ^ 63)
    pub front : g.front ≡ length (gap_front g)
    pub back : g.len ≡ g.front + length (gap_back g)
    pub laid : g.cells.slots ≡ gapped (gap_front g) (gap_room g) (gap_back g)

  -- h is g with as many places, the values xs before the gap and ys behind it
  abbrev pub Becomes : Gap X → Gap X → List X → List X → Type 0
  Becomes g h xs ys = IsGap h × (h.capacity ≡ g.capacity) × (gap_front h ≡ xs) × (gap_back h ≡ ys)
