-- What a value that is put or taken at an end of the gap does to the places.
use Rattle.std.proofs.Common.{◌≡◌, suc, ◌+◌, ◌-◌, ◌<◌, List, [], ◌∷◌, ◌++◌, length, set, get_or, Some, None, sym, ap, ◌∙◌, arith, length-append}
use Rattle.gapcol.specs.Places.{gapped}
use Rattle.gapcol.specs.Gaps.{gap_room, gap_front, gap_back, IsGap}
use Rattle.gapcol.specs.declared.cells.Cells.{Cells}
use Rattle.gapcol.specs.declared.gap.Gap.{Gap}
use Rattle.gapcol.proofs.Lists.{cut_end, cut_front, empty_at, put_first, put_last, unput_first, unput_last, seen_first, seen_last}
use Rattle.gapcol.proofs.Gaps.{relaid}

module _ {X : Type 0} (g : Gap X) (h : IsGap g) where
  -- the gap's first place is empty, and so is its last
  pub first_is_empty : g.len < g.capacity → get_or g.cells.slots g.front None ≡ None
  first_is_empty some = ap (λ l. get_or l g.front None) h.laid ∙ empty_at (gap_front g) (gap_room g) (gap_back g) g.front (omega (arith, h.front)) (omega (arith, h.front))

  pub last_is_empty : g.len < g.capacity → get_or g.cells.slots (g.front + gap_room g - 1) None ≡ None
  last_is_empty some =
      let p = g.front + gap_room g - 1 in ap (λ l. get_or l p None) h.laid ∙ empty_at (gap_front g) (gap_room g) (gap_back g) p (omega (arith, h.front)) (omega (arith, h.front))

  -- the last value before the gap, and the place that has it
  pub last_before : 0 < g.front → (us : List X) × (x : X) × (gap_front g ≡ us ++ x ∷ []) × (get_or g.cells.slots (g.front - 1) None ≡ Some x)
  last_before some =
      let cut = cut_end (gap_front g) (omega (arith, h.front)) in let us = cut.0 in let x = cut.1 in (
        us,
        x,
        cut.2,
        ap (λ l. get_or l (g.front - 1) None) (h.laid ∙ ap (λ l. gapped l (gap_room g) (gap_back g)) cut.2)
            ∙ seen_first us (gap_room g) (gap_back g) (g.front - 1) x (omega (arith, h.front, ap length cut.2, length-append us (x ∷ []))),
      )

  -- the first value behind the gap, and the place that has it
  pub first_behind : g.front < g.len → (x : X) × (us : List X) × (gap_back g ≡ x ∷ us) × (get_or g.cells.slots (g.front + gap_room g) None ≡ Some x)
  first_behind some =
      let cut = cut_front (gap_back g) (omega (arith, h.back)) in let x = cut.0 in let us = cut.1 in let p = g.front + gap_room g in
      (x, us, cut.2, ap (λ l. get_or l p None) (h.laid ∙ ap (gapped (gap_front g) (gap_room g)) cut.2) ∙ seen_last (gap_front g) (gap_room g) us p x (omega (arith, h.front)))

  module _ (n : Cells X) (base : n.at ≡ g.cells.at) (x : X) where
    pub put_before : g.len < g.capacity → n.slots ≡ set g.cells.slots g.front (Some x)
        → let new = record g { len = g.len + 1; front = g.front + 1; cells = n } in IsGap new × (gap_front new ≡ gap_front g ++ x ∷ []) × (gap_back new ≡ gap_back g)
    put_before some is =
        let new = record g { len = g.len + 1; front = g.front + 1; cells = n } in let one : gap_room g ≡ suc (gap_room new) = omega arith in
        relaid new (gap_front g ++ x ∷ []) (gap_back g) (base ∙ h.block.0, h.block.1) (omega arith) h.sizes.1 (omega (arith, h.front, length-append (gap_front g) (x ∷ []))) (omega (arith, h.back))
        (is ∙ ap (λ l. set l g.front (Some x)) h.laid ∙ put_first (gap_front g) (gap_room g) (gap_room new) (gap_back g) g.front x one (sym h.front))

    pub put_behind : g.len < g.capacity → n.slots ≡ set g.cells.slots (g.front + gap_room g - 1) (Some x)
        → let new = record g { len = g.len + 1; cells = n } in IsGap new × (gap_front new ≡ gap_front g) × (gap_back new ≡ x ∷ gap_back g)
    put_behind some is =
        let new = record g { len = g.len + 1; cells = n } in let one : gap_room g ≡ suc (gap_room new) = omega arith in let p = g.front + gap_room g - 1 in
        relaid new (gap_front g) (x ∷ gap_back g) (base ∙ h.block.0, h.block.1) (omega arith) h.sizes.1 h.front (omega (arith, h.back))
        (is ∙ ap (λ l. set l p (Some x)) h.laid ∙ put_last (gap_front g) (gap_room g) (gap_room new) (gap_back g) p x one (omega (arith, h.front)))

    pub taken_before : (us : List X) → 0 < g.front → gap_front g ≡ us ++ x ∷ [] → n.slots ≡ set g.cells.slots (g.front - 1) None
        → let new = record g { len = g.len - 1; front = g.front - 1; cells = n } in IsGap new × (gap_front new ≡ us) × (gap_back new ≡ gap_back g)
    taken_before us some cut is =
        let new = record g { len = g.len - 1; front = g.front - 1; cells = n } in let p = g.front - 1 in
        let long : length us ≡ p = omega (arith, h.front, ap length cut, length-append us (x ∷ [])) in
        let more : suc (gap_room g) ≡ gap_room new = omega (arith, h.sizes.0, h.back) in
        relaid new us (gap_back g) (base ∙ h.block.0, h.block.1) (omega (arith, h.sizes.0)) h.sizes.1 (sym long) (omega (arith, h.back))
        (is ∙ ap (λ l. set l p None) (h.laid ∙ ap (λ l. gapped l (gap_room g) (gap_back g)) cut) ∙ unput_first us (gap_room g) (gap_back g) p x long ∙ ap (λ k. gapped us k (gap_back g)) more)

    pub taken_behind : (us : List X) → g.front < g.len → gap_back g ≡ x ∷ us → n.slots ≡ set g.cells.slots (g.front + gap_room g) None
        → let new = record g { len = g.len - 1; cells = n } in IsGap new × (gap_front new ≡ gap_front g) × (gap_back new ≡ us)
    taken_behind us some cut is =
        let new = record g { len = g.len - 1; cells = n } in let p = g.front + gap_room g in let more : suc (gap_room g) ≡ gap_room new = omega (arith, h.sizes.0, h.back) in
        relaid new (gap_front g) us (base ∙ h.block.0, h.block.1) (omega (arith, h.sizes.0)) h.sizes.1 h.front (omega (arith, h.back, ap length cut))
        (is ∙ ap (λ l. set l p None) (h.laid ∙ ap (gapped (gap_front g) (gap_room g)) cut) ∙ unput_last (gap_front g) (gap_room g) us p x (omega (arith, h.front)) ∙ ap (λ k. gapped (gap_front g) k us) more)
