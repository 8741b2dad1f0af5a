-- Which parts a rating or a period changes: those of the periods before and after it stay.
use Rattle.std.specs.Prelude.{◌≡◌, Bool, true, false, cond, not, ◌==◌, List, [], ◌∷◌, ◌++◌, ℤ, pos, Option, None, Some, IsSome, option_to_list, filter, map, All}
use Rattle.std.specs.Bool.{Decides}
use Rattle.std.specs.Int.{int_max}
use Rattle.std.specs.Ordering.{int_eq}
use Rattle.std.proofs.Common.{refl, ap, sym, ◌∙◌, subst}
use Rattle.std.proofs.lemmas.Bool.Decides.{Decides-int_eq, Decides-eqb, Decides-and, Decides-like, same_from_decides}
use Rattle.std.proofs.lemmas.List.{append_cancel_left, append_cancel_right, map-append}
use Rattle.std.proofs.lemmas.List.Elements.{All-head, All-tail, All-filter, filter-append}
use Rattle.rising.specs.Lists as lists
use Rattle.rising.specs.Lists.{IsRising, before, after, put, without}
use Rattle.rising.proofs.Placing.{at_put_other}
use Rattle.rising.proofs.Splitting.{whole, at_is_at}
use Rattle.ratings.specs.Numbered.{KeptRatings, Numbered, StationRatings, AreRatings, number_of, period_from, rating_of, rows_found, rows_of, with_table}
use Rattle.ratings.specs.PartEquality.{same_parts}
use Rattle.ratings.specs.Parts.{Part, cut_end, meets, part_of, parts}
use Rattle.ratings.proofs.PeriodChanges.{cut_alike, stays_in_place, stays_with, stays_with_period, stays_without, stays_without_period}
use Rattle.ratings.specs.Periods.{begin}
use Rattle.ratings.specs.Spans.{Span}
use Rattle.rating_tables.specs.Table.{Row}
use Rattle.ratings.proofs.CuttingLemmas.{IsKnown}
use Rattle.ratings.proofs.PartEqualityLemmas.{lists_decide}

module _ (lo hi : ℤ) (tables : List Numbered) where
  -- the parts of a period, if there is one
  abbrev own : Option Span → List Part
  own o = parts lo hi tables (option_to_list o)

  abbrev parts_in : List Span → List Part
  parts_in periods = parts lo hi tables periods

  parts_append : (front back : List Span) → parts_in (front ++ back) ≡ parts_in front ++ parts_in back
  parts_append front back =
      ap (map (part_of lo hi tables)) (filter-append (meets lo hi) front back) ∙ map-append (part_of lo hi tables) (filter (meets lo hi) front) (filter (meets lo hi) back)

  framed : (front back : List Span) (o : Option Span) → parts_in (front ++ (option_to_list o ++ back)) ≡ parts_in front ++ (own o ++ parts_in back)
  framed front back o = parts_append front (option_to_list o ++ back) ∙ ap (λ (l : List Part). parts_in front ++ l) (parts_append (option_to_list o) back)

  -- lists of periods that differ in one alone have the parts of one another where these periods have
  framed_decides : (front back kept now : List Span) (o new : Option Span) (b : Bool) → kept ≡ front ++ (option_to_list o ++ back) → now ≡ front ++ (option_to_list new ++ back)
      → Decides b (own o ≡ own new) → same_parts (parts_in kept) (parts_in now) ≡ b
  framed_decides front back kept now o new b e f h =
      same_from_decides (same_parts (parts_in kept) (parts_in now)) b (lists_decide (parts_in kept) (parts_in now))
      (Decides-like b (λ k. was ∙ ap (λ (l : List Part). parts_in front ++ (l ++ parts_in back)) k ∙ sym is)
      (λ k. append_cancel_right (own o) (own new) (parts_in back) (append_cancel_left (parts_in front) (own o ++ parts_in back) (own new ++ parts_in back) (sym was ∙ k ∙ is))) h)
    where
      was : parts_in kept ≡ parts_in front ++ (own o ++ parts_in back)
      was = ap parts_in e ∙ framed front back o

      is : parts_in now ≡ parts_in front ++ (own new ++ parts_in back)
      is = ap parts_in f ∙ framed front back new

  -- two periods of one start have one part where they are cut alike
  one_part : (p q : Span) → p.from ≡ q.from → cut_end hi p.until ≡ cut_end hi q.until → p.rating ≡ q.rating → part_of lo hi tables p ≡ part_of lo hi tables q
  one_part p q e f g =
      let k : ◌≡◌ {A = Part} (record { from = int_max p.from lo; until = cut_end hi p.until; rating = p.rating; rows = rows_of p.rating tables })
      (record { from = int_max q.from lo; until = cut_end hi q.until; rating = q.rating; rows = rows_of q.rating tables }) = rw (e, f, g) refl in
      k

  alike_decides : (p q : Span) → p.from ≡ q.from → Decides (cut_alike hi p q) (part_of lo hi tables p ∷ [] ≡ part_of lo hi tables q ∷ [])
  alike_decides p q e =
      Decides-like (cut_alike hi p q) (λ h. ap (λ (x : Part). x ∷ []) (one_part p q e h.0 h.1))
      (λ h. let same : part_of lo hi tables p ≡ part_of lo hi tables q = cc in (ap (λ (x : Part). x.until) same, ap (λ (x : Part). x.rating) same))
      (Decides-and (int_eq (cut_end hi p.until) (cut_end hi q.until)) (p.rating == q.rating) (Decides-int_eq (cut_end hi p.until) (cut_end hi q.until)) (Decides-eqb p.rating q.rating))

  -- the part of one, by whether it meets the time
  abbrev if_met : Bool → Span → List Part
  if_met b p = map (part_of lo hi tables) (cond b (p ∷ []) [])

  in_place_decides : (b c : Bool) (p q : Span) → p.from ≡ q.from → Decides (stays_in_place lo hi b c p q) (if_met b p ≡ if_met c q)
  in_place_decides true true p q e = alike_decides p q e
  in_place_decides true false p q e = (λ h. absurd (cc), λ h. absurd (cc))
  in_place_decides false true p q e = (λ h. absurd (cc), λ h. absurd (cc))
  in_place_decides false false p q e = (λ h. refl, λ h. refl)

  missed_decides : (b : Bool) (p : Span) → Decides (not b) ([] ≡ if_met b p)
  missed_decides true p = (λ h. absurd (cc), λ h. absurd (cc))
  missed_decides false p = (λ h. refl, λ h. refl)

  left_decides : (b : Bool) (p : Span) → Decides (not b) (if_met b p ≡ [])
  left_decides true p = (λ h. absurd (cc), λ h. absurd (cc))
  left_decides false p = (λ h. refl, λ h. refl)

  with_decides : (p : Span) (o : Option Span) → All (λ (q : Span). q.from ≡ p.from) (option_to_list o) → Decides (stays_with lo hi p o) (own o ≡ own (Some p))
  with_decides p None h = missed_decides (meets lo hi p) p
  with_decides p (Some q) h = in_place_decides (meets lo hi q) (meets lo hi p) q p (All-head (λ (r : Span). r.from ≡ p.from) q [] h)

  without_decides : (o : Option Span) → Decides (stays_without lo hi o) (own o ≡ own None)
  without_decides None = (λ h. refl, λ h. refl)
  without_decides (Some q) = left_decides (meets lo hi q) q

  -- the parts stay with a period put among others, and without one, where its own stay
  pub put_framed : (p : Span) (periods : List Span) → IsRising begin periods
      → same_parts (parts_in periods) (parts_in (put begin p periods)) ≡ same_parts (own (period_from p.from periods)) (own (Some p))
  put_framed p periods h =
      let o = period_from p.from periods in
      framed_decides (before begin p.from periods) (after begin p.from periods) periods (put begin p periods) o (Some p) (same_parts (own o) (own (Some p)))
      (whole begin p.from periods h) refl (lists_decide (own o) (own (Some p)))

  pub taken_framed : (from : ℤ) (periods : List Span) → IsRising begin periods
      → same_parts (parts_in periods) (parts_in (without begin from periods)) ≡ same_parts (own (period_from from periods)) []
  taken_framed from periods h =
      let o = period_from from periods in
      framed_decides (before begin from periods) (after begin from periods) periods (without begin from periods) o None (same_parts (own o) [])
      (whole begin from periods h) refl (lists_decide (own o) [])

  pub missed : (p : Span) → same_parts [] (own (Some p)) ≡ not (meets lo hi p)
  missed p = same_from_decides (same_parts [] (own (Some p))) (not (meets lo hi p)) (lists_decide [] (own (Some p))) (missed_decides (meets lo hi p) p)

  pub left : (p : Span) → same_parts (own (Some p)) [] ≡ not (meets lo hi p)
  left p = same_from_decides (same_parts (own (Some p)) []) (not (meets lo hi p)) (lists_decide (own (Some p)) []) (left_decides (meets lo hi p) p)

  pub in_place : (p q : Span) → p.from ≡ q.from → same_parts (own (Some p)) (own (Some q)) ≡ stays_in_place lo hi (meets lo hi p) (meets lo hi q) p q
  in_place p q e =
      same_from_decides (same_parts (own (Some p)) (own (Some q))) (stays_in_place lo hi (meets lo hi p) (meets lo hi q) p q) (lists_decide (own (Some p)) (own (Some q)))
      (in_place_decides (meets lo hi p) (meets lo hi q) p q e)

  -- two periods of one start that meet the time
  pub both_met : (p q : Span) (b : Bool) → true ≡ meets lo hi p → true ≡ meets lo hi q → p.from ≡ q.from → b ≡ cut_alike hi p q
      → b ≡ same_parts (own (Some p)) (own (Some q))
  both_met p q b h k e f =
      f ∙ (ap (λ (x : Bool). stays_in_place lo hi x true p q) h ∙ (ap (λ (x : Bool). stays_in_place lo hi (meets lo hi p) x p q) k ∙ sym (in_place p q e)))

  pub put_changes : (p : Span) (periods : List Span) → IsRising begin periods → same_parts (parts_in periods) (parts_in (put begin p periods)) ≡ stays_with_period lo hi p periods
  put_changes p periods h =
      framed_decides (before begin p.from periods) (after begin p.from periods) periods (put begin p periods) (period_from p.from periods) (Some p) (stays_with_period lo hi p periods)
      (whole begin p.from periods h) refl (with_decides p (period_from p.from periods) (at_is_at begin p.from periods))

  pub taken_changes : (from : ℤ) (periods : List Span) → IsRising begin periods → same_parts (parts_in periods) (parts_in (without begin from periods)) ≡ stays_without_period lo hi from periods
  taken_changes from periods h =
      framed_decides (before begin from periods) (after begin from periods) periods (without begin from periods) (period_from from periods) None (stays_without_period lo hi from periods)
      (whole begin from periods h) refl (without_decides (period_from from periods))

-- the period that is found begins at the instant that is asked for
pub found_begins : (from : ℤ) (periods : List Span) (q : Span) → Some q ≡ period_from from periods → q.from ≡ from
found_begins from periods q e =
    All-head (λ (r : Span). r.from ≡ from) q [] (subst (λ (o : Option Span). All (λ (r : Span). r.from ≡ from) (option_to_list o)) (sym e) (at_is_at begin from periods))

-- what is told of ratings where a period is put, and where one is taken out
abbrev pub StayWith : ℤ → ℤ → Span → Bool → KeptRatings → Type 0
StayWith lo hi p b kept =
    b ≡ same_parts (parts lo hi kept.ratings.tables kept.ratings.periods) (parts lo hi kept.ratings.tables (put begin p kept.ratings.periods))

abbrev pub StayWithout : ℤ → ℤ → ℤ → Bool → KeptRatings → Type 0
StayWithout lo hi from b kept =
    b ≡ same_parts (parts lo hi kept.ratings.tables kept.ratings.periods) (parts lo hi kept.ratings.tables (without begin from kept.ratings.periods))

module _ (lo hi : ℤ) (kept now : KeptRatings) (same : kept ≡ now) (are : AreRatings kept.ratings) (b : Bool) where
  pub put_found : (p q : Span) → Some q ≡ period_from p.from kept.ratings.periods
      → ((tables : List Numbered) → b ≡ same_parts (parts lo hi tables (q ∷ [])) (parts lo hi tables (p ∷ []))) → StayWith lo hi p b now
  put_found p q e h =
      subst (StayWith lo hi p b) same
      (h kept.ratings.tables
      ∙ (ap (λ (o : Option Span). same_parts (parts lo hi kept.ratings.tables (option_to_list o)) (parts lo hi kept.ratings.tables (p ∷ []))) e
      ∙ sym (put_framed lo hi kept.ratings.tables p kept.ratings.periods are.apart.rising)))

  pub put_alone : (p : Span) → None ≡ period_from p.from kept.ratings.periods → b ≡ not (meets lo hi p) → StayWith lo hi p b now
  put_alone p e h =
      subst (StayWith lo hi p b) same
      (h ∙ (sym (missed lo hi kept.ratings.tables p)
      ∙ (ap (λ (o : Option Span). same_parts (parts lo hi kept.ratings.tables (option_to_list o)) (parts lo hi kept.ratings.tables (p ∷ []))) e
      ∙ sym (put_framed lo hi kept.ratings.tables p kept.ratings.periods are.apart.rising))))

  pub taken_found : (from : ℤ) (q : Span) → Some q ≡ period_from from kept.ratings.periods → b ≡ not (meets lo hi q) → StayWithout lo hi from b now
  taken_found from q e h =
      subst (StayWithout lo hi from b) same
      (h ∙ (sym (left lo hi kept.ratings.tables q)
      ∙ (ap (λ (o : Option Span). same_parts (parts lo hi kept.ratings.tables (option_to_list o)) []) e
      ∙ sym (taken_framed lo hi kept.ratings.tables from kept.ratings.periods are.apart.rising))))

  pub none_taken : (from : ℤ) → None ≡ period_from from kept.ratings.periods → b ≡ true → StayWithout lo hi from b now
  none_taken from e h =
      subst (StayWithout lo hi from b) same
      (h ∙ (ap (λ (o : Option Span). same_parts (parts lo hi kept.ratings.tables (option_to_list o)) []) e
      ∙ sym (taken_framed lo hi kept.ratings.tables from kept.ratings.periods are.apart.rising)))

-- the parts of periods whose ratings are there stay with another rating
one_more_part : (lo hi : ℤ) (x : Numbered) (tables : List Numbered) (p : Span) → rating_of x.number tables ≡ None → IsKnown tables p
    → part_of lo hi (put number_of x tables) p ≡ part_of lo hi tables p
one_more_part lo hi x tables p none known =
    ap (λ (o : Option Numbered). part_with (rows_found o))
    (at_put_other number_of x (pos p.rating) tables
    (λ e. let there : IsSome (rating_of x.number tables) = subst (λ (n : ℤ). IsSome (lists.at number_of n tables)) (sym e) known in absurd (cc)))
  where
    part_with : List Row → Part
    part_with rows = record { from = int_max p.from lo; until = cut_end hi p.until; rating = p.rating; rows = rows }

map_same : {X Y : Type 0} (f g : X → Y) (P : X → Type 0) → ((x : X) → P x → f x ≡ g x) → (xs : List X) → All P xs → map f xs ≡ map g xs
map_same f g P h [] k = refl
map_same f g P h (x ∷ xs) k = ap (λ y. y ∷ map f xs) (h x (All-head P x xs k)) ∙ ap (λ ys. g x ∷ ys) (map_same f g P h xs (All-tail P x xs k))

more_tables : (lo hi : ℤ) (x : Numbered) (tables : List Numbered) (periods : List Span) (o : Option Numbered) → rating_of x.number tables ≡ o → All (IsKnown tables) periods
    → parts lo hi (with_table o x tables) periods ≡ parts lo hi tables periods
more_tables lo hi x tables periods (Some kept) e h = refl
more_tables lo hi x tables periods None e h =
    map_same (part_of lo hi (put number_of x tables)) (part_of lo hi tables) (IsKnown tables) (λ p k. one_more_part lo hi x tables p e k)
    (filter (meets lo hi) periods) (All-filter (meets lo hi) (IsKnown tables) periods h)

pub rating_changes_none : (lo hi : ℤ) (x : Numbered) (ratings : StationRatings) → AreRatings ratings
    → parts lo hi (with_table (rating_of x.number ratings.tables) x ratings.tables) ratings.periods ≡ parts lo hi ratings.tables ratings.periods
rating_changes_none lo hi x ratings h = more_tables lo hi x ratings.tables ratings.periods (rating_of x.number ratings.tables) refl h.known
