-- A column's fields are made a gap again by the runs before and behind it.
use Rattle.std.proofs.Common.{◌≡◌, ℕ, ◌+◌, ◌-◌, ◌^◌, ◌<◌, ◌≤◌, List, [], ◌∷◌, ◌++◌, length, take, drop, set, get_or, slice_get, Some, None, replicate, map, length-set, refl, sym, ap, ◌∙◌, inl, inr, arith, length-append}
use Rattle.std.specs.Prelude.{MatchOption, slice_range}
use Rattle.gapcol.specs.Places.{somes, gapped, IsFilled}
use Rattle.gapcol.specs.Gaps.{gap_room, gap_front, gap_back, gap_list, IsGap, IsPlace}
use Rattle.gapcol.specs.declared.gap.Gap.{Gap}
use Rattle.gapcol.specs.declared.cells.Cells.{Cells}
use Rattle.std.proofs.lemmas.List.{set-append_left, set-append_right}
use Rattle.gapcol.proofs.Lists.{gapped-nil, set_before, set_behind, slice_get-some, run_before, run_behind, parts_join, same_values, run_of_one, length-gapped, front_of, back_of, item_before, item_behind, below_or_not}

module _ {X : Type 0} (g : Gap X) where
  abbrev pub Owns : Type 0
  Owns = (g.cells.at ≡ g.base.ptr) × MatchOption g.deed Unit (λ d. (d.at ≡ g.base.ptr) × (d.len ≡ g.capacity) × (d.alloc ≡ g.alloc))

  pub relaid : (xs ys : List X) → Owns → g.len ≤ g.capacity → g.capacity < 2 ^ 63 → g.front ≡ length xs → g.len ≡ g.front + length ys
      → g.cells.slots ≡ gapped xs (gap_room g) ys → IsGap g × (gap_front g ≡ xs) × (gap_back g ≡ ys)
  unfolding gap_front gap_back
  relaid xs ys block fits small front back laid =
      let before : gap_front g ≡ xs = ap (λ l. somes (take g.front l)) laid ∙ front_of xs (gap_room g) ys g.front (sym front) in
      let behind : gap_back g ≡ ys = ap (λ l. somes (drop g.front l)) laid ∙ back_of xs (gap_room g) ys g.front (sym front) in (
        record {
          block = block;
          sizes = (fits, small);
          front = front ∙ ap length (sym before);
          back = back ∙ ap (λ l. g.front + length l) (sym behind);
          laid = laid ∙ (λ i. gapped (sym before i) (gap_room g) (sym behind i));
        },
        before,
        behind,
      )

  module _ (h : IsGap g) where
    pub places : length g.cells.slots ≡ g.capacity
    places = let fits = h.sizes.0 in omega (arith, ap length h.laid, length-gapped (gap_front g) (gap_room g) (gap_back g), h.front, h.back)

    pub count : length (gap_list g) ≡ g.len
    count = omega (arith, length-append (gap_front g) (gap_back g), h.front, h.back)

    -- the place of an item holds it
    pub holds : (i p : ℕ) → IsPlace g i p → get_or g.cells.slots p None ≡ slice_get (gap_list g) i
    holds i p at = ap (λ l. get_or l p None) h.laid ∙ elim (below_or_not i g.front) [
      | inl lt ↦ ap (λ k. get_or (gapped (gap_front g) (gap_room g) (gap_back g)) k None) (at.before lt) ∙ item_before (gap_front g) (gap_room g) (gap_back g) i (omega (arith, h.front))
      | inr ge ↦ ap (λ k. get_or (gapped (gap_front g) (gap_room g) (gap_back g)) k None) (at.behind ge) ∙ item_behind (gap_front g) (gap_room g) (gap_back g) i (omega (arith, h.front))
    ]

    -- and is a run of one
    pub alone : (i p : ℕ) → i < g.len → IsPlace g i p → (p + 1 ≤ length g.cells.slots) × ((x : X) × (slice_get (gap_list g) i ≡ Some x) × (take 1 (drop p g.cells.slots) ≡ map Some (x ∷ [])))
    alone i p lt at =
        let x = slice_get-some (gap_list g) i (omega (arith, count)) in let run = run_of_one g.cells.slots p x.0 (holds i p at ∙ x.1) in (run.0, (x.0, x.1, run.1))

    pub filled : (i p : ℕ) → i < g.len → IsPlace g i p → IsFilled g.cells.slots p
    filled i p lt at = let x = slice_get-some (gap_list g) i (omega (arith, count)) in (x.0, holds i p at ∙ x.1)

    pub within : (i p : ℕ) → i < g.len → IsPlace g i p → p < length g.cells.slots
    within i p lt at = let fits = h.sizes.0 in elim (below_or_not i g.front) [ inl low ↦ omega (arith, places, at.before low) | inr high ↦ omega (arith, places, at.behind high) ]

    -- a part before the gap, and one behind it
    pub run_front : (from m : ℕ) → (0 < m → from + m ≤ g.front) → take m (drop from g.cells.slots) ≡ map Some (take m (drop from (gap_front g)))
    run_front from m le = ap (λ l. take m (drop from l)) h.laid ∙ run_before (gap_front g) (gap_room g) (gap_back g) from m (λ some. let low = le some in omega (arith, h.front))

    pub run_back : (at m : ℕ) → (0 < m → g.front ≤ at) → take m (drop (at + gap_room g) g.cells.slots) ≡ map Some (take m (drop (at - g.front) (gap_back g)))
    run_back at m le =
        let is : at - length (gap_front g) ≡ at - g.front = omega (arith, h.front) in
        ap (λ l. take m (drop (at + gap_room g) l)) h.laid ∙ run_behind (gap_front g) (gap_room g) (gap_back g) at m (λ some. let low = le some in omega (arith, h.front))
        ∙ ap (λ k. map Some (take m (drop k (gap_back g)))) is

    pub joined : (from mid to : ℕ) (xs ys : List X) → from ≤ mid → mid ≤ to → (from < mid → mid ≤ g.front) → (mid < to → g.front ≤ mid)
        → take (mid - from) (drop from g.cells.slots) ≡ map Some xs → take (to - mid) (drop (mid + gap_room g) g.cells.slots) ≡ map Some ys → xs ++ ys ≡ slice_range (gap_list g) from to
    joined from mid to xs ys low high one two front back =
        let is : mid - g.front ≡ mid - length (gap_front g) = omega (arith, h.front) in
        let first = same_values xs (take (mid - from) (drop from (gap_front g))) (sym front ∙ run_front from (mid - from) (λ some. let le = one (omega arith) in omega arith)) in
        let second = same_values ys (take (to - mid) (drop (mid - g.front) (gap_back g))) (sym back ∙ run_back mid (to - mid) (λ some. two (omega arith))) in
        (λ i. first i ++ (second ∙ ap (λ k. take (to - mid) (drop k (gap_back g))) is) i)
        ∙ parts_join (gap_front g) (gap_back g) from mid to low high (λ some. let le = one some in omega (arith, h.front)) (λ some. let le = two some in omega (arith, h.front))

-- the item at i is written over
pub written : {X : Type 0} (g : Gap X) → IsGap g → (i p : ℕ) (v : X) (n : Cells X) → i < g.len → IsPlace g i p → n.at ≡ g.cells.at → n.slots ≡ set g.cells.slots p (Some v)
    → let new = record g { cells = n } in IsGap new × (gap_list new ≡ set (gap_list g) i v)
written g h i p v n lt at base e =
    let new = record g { cells = n } in let f = gap_front g in let b = gap_back g in elim (below_or_not i g.front) [
      | inl low ↦ let less : i < length f = omega (arith, h.front) in
          let made = relaid new (set f i v) b (base ∙ h.block.0, h.block.1) h.sizes.0 h.sizes.1 (h.front ∙ sym (length-set f i v)) h.back
          (e ∙ (λ j. set (h.laid j) (at.before low j) (Some v)) ∙ set_before f (gap_room g) b i v less) in
          (made.0, (λ j. made.1 j ++ made.2 j) ∙ sym (set-append_left f b i v less))
      | inr high ↦ let more : length f ≤ i = omega (arith, h.front) in let ys = set b (i - length f) v in
          let made = relaid new f ys (base ∙ h.block.0, h.block.1) h.sizes.0 h.sizes.1 h.front (h.back ∙ ap (λ k. g.front + k) (sym (length-set b (i - length f) v)))
          (e ∙ (λ j. set (h.laid j) (at.behind high j) (Some v)) ∙ set_behind f (gap_room g) b i v more) in
          (made.0, (λ j. made.1 j ++ made.2 j) ∙ sym (set-append_right f b (length f) i v refl more))
    ]

-- nothing is in the places yet
pub fresh : {X : Type 0} (g : Gap X) → Owns g → g.capacity < 2 ^ 63 → g.len ≡ 0 → g.front ≡ 0 → g.cells.slots ≡ replicate g.capacity None → IsGap g × (gap_front g ≡ []) × (gap_back g ≡ [])
fresh g block small len front laid =
    let all : g.capacity ≡ gap_room g = omega arith in
    relaid g [] [] block (omega arith) small front (omega arith) (laid ∙ ap (λ n. replicate n None) all ∙ gapped-nil (gap_room g))
