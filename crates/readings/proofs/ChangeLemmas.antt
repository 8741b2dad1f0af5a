-- Readings without those of a span, or with those of a span flagged anew: the part at some instants, and when the used readings stay.
use Rattle.std.specs.Prelude.{◌≡◌, Bool, true, false, not, List, [], ◌∷◌, ℤ, filter, find, map, None, All, cond}
use Rattle.std.proofs.Common.{refl, ap, sym, ◌∙◌, subst}
use Rattle.std.proofs.lemmas.List.Elements.{All-head, All-tail, All-weaker, All-filter, filter_passes}
use Rattle.fixed_units.specs.declared.readings.Reading.{Reading}
use Rattle.fixed_units.specs.declared.readings.Flag.{Flag}
use Rattle.fixed_units.specs.declared.readings.Flag.TheVariants.{Usable, Erroneous, Affected}
use Rattle.rising.proofs.Selecting.{filter_all, filter_none, none_found}
use Rattle.rising.proofs.Placing.{filter_rises}
use Rattle.readings.specs.Readings.{IsRising, instant_of, is_used, is_within, in_span, without_span, flagged_where, with_flag}
use Rattle.readings.proofs.Selecting.{find_none, none_kept}
use Rattle.readings.proofs.Standing.{is_at, here, all_here}
use Rattle.readings.proofs.UnionLemmas.{filters_swap}

-- a list without a span is of the rest
abbrev outside : ℤ → ℤ → Reading → Bool
outside from to r = not (is_within from to r)

pub without_rises : (from to : ℤ) (rs : List Reading) → IsRising rs → IsRising (without_span from to rs)
without_rises from to rs h = filter_rises instant_of (outside from to) rs h

pub part_without : (passes : ℤ → Bool) (from to : ℤ) (rs : List Reading)
    → filter (λ r. passes r.at) (without_span from to rs) ≡ without_span from to (filter (λ r. passes r.at) rs)
part_without passes from to rs = filters_swap (λ r. passes r.at) (outside from to) rs

not_true : (b : Bool) → not b ≡ true → b ≡ false
not_true true e = absurd (cc)
not_true false e = refl

-- where none of the span is used, the used readings stay
pub unused_leave : (from to : ℤ) (rs : List Reading) → find is_used (in_span from to rs) ≡ None
    → filter is_used (without_span from to rs) ≡ filter is_used rs
unused_leave from to rs e =
    let none : filter (is_within from to) (filter is_used rs) ≡ [] =
    filters_swap (is_within from to) is_used rs ∙ filter_none is_used (in_span from to rs) (none_found is_used (in_span from to rs) e) in
    filters_swap is_used (outside from to) rs
    ∙ filter_all (outside from to) (filter is_used rs)
    (All-weaker (λ r. is_within from to r ≡ false) (λ r. outside from to r ≡ true) (λ r k. ap not k) (filter is_used rs)
    (none_kept (is_within from to) (filter is_used rs) none))

-- and where they stay, none is
pub left_unused : (from to : ℤ) (rs : List Reading) → filter is_used (without_span from to rs) ≡ filter is_used rs
    → find is_used (in_span from to rs) ≡ None
left_unused from to rs e =
    let stay : filter (outside from to) (filter is_used rs) ≡ filter is_used rs = sym (filters_swap is_used (outside from to) rs) ∙ e in
    let out : All (λ r. outside from to r ≡ true) (filter is_used rs) =
    subst (λ (l : List Reading). All (λ r. outside from to r ≡ true) l) stay (filter_passes (outside from to) (filter is_used rs)) in
    let none : filter is_used (in_span from to rs) ≡ [] =
    filters_swap is_used (is_within from to) rs
    ∙ filter_none (is_within from to) (filter is_used rs)
    (All-weaker (λ r. outside from to r ≡ true) (λ r. is_within from to r ≡ false) (λ r k. not_true (is_within from to r) k) (filter is_used rs) out) in
    find_none is_used (in_span from to rs) (none_kept is_used (in_span from to rs) none)

-- a filter that sees no difference takes the same of what is mapped
filter_map_step : {X : Type 0} (p : X → Bool) (g : X → X) (x : X) (b : Bool) (xs ys : List X) → p (g x) ≡ b → xs ≡ map g ys
    → cond (p (g x)) (g x ∷ xs) xs ≡ map g (cond b (x ∷ ys) ys)
filter_map_step p g x true xs ys e h = rw (e, h) refl
filter_map_step p g x false xs ys e h = rw (e, h) refl

pub filter_map_swap : {X : Type 0} (p : X → Bool) (g : X → X) → ((x : X) → p (g x) ≡ p x) → (xs : List X) → filter p (map g xs) ≡ map g (filter p xs)
filter_map_swap p g h [] = refl
filter_map_swap p g h (x ∷ xs) = filter_map_step p g x (p x) (filter p (map g xs)) (filter p xs) (h x) (filter_map_swap p g h xs)

-- flagging changes no instant
abbrev flagged : ℤ → ℤ → Flag → Reading → Reading
flagged from to flag r = flagged_where (is_within from to r) flag r

pub part_flagged : (passes : ℤ → Bool) (from to : ℤ) (flag : Flag) (rs : List Reading)
    → filter (λ r. passes r.at) (with_flag from to flag rs) ≡ with_flag from to flag (filter (λ r. passes r.at) rs)
part_flagged passes from to flag rs = filter_map_swap (λ r. passes r.at) (flagged from to flag) (λ r. refl) rs

-- where each of the span has the flag already, nothing changes
flag_kept : (b : Bool) (flag : Flag) (r : Reading) → (b ≡ true → r.flag ≡ flag) → flagged_where b flag r ≡ r
flag_kept true flag r h = let e = h refl in rw (← e) refl
flag_kept false flag r h = refl

flagged_step : (from to : ℤ) (flag : Flag) (r : Reading) (rs : List Reading) (b : Bool) → is_within from to r ≡ b
    → All (λ s. s.flag ≡ flag) (cond b (r ∷ in_span from to rs) (in_span from to rs))
    → (All (λ s. s.flag ≡ flag) (in_span from to rs) → with_flag from to flag rs ≡ rs) → flagged from to flag r ∷ with_flag from to flag rs ≡ r ∷ rs
flagged_step from to flag r rs true e h rest =
    let i : flagged from to flag r ≡ r = flag_kept (is_within from to r) flag r (λ _. All-head (λ s. s.flag ≡ flag) r (in_span from to rs) h) in
    let j = rest (All-tail (λ s. s.flag ≡ flag) r (in_span from to rs) h) in
    rw (i, j) refl
flagged_step from to flag r rs false e h rest =
    let i : flagged from to flag r ≡ r = flag_kept (is_within from to r) flag r (λ k. absurd (cc)) in
    let j = rest h in
    rw (i, j) refl

pub flagged_already : (from to : ℤ) (flag : Flag) (rs : List Reading) → All (λ r. r.flag ≡ flag) (in_span from to rs) → with_flag from to flag rs ≡ rs
flagged_already from to flag [] h = refl
flagged_already from to flag (r ∷ rs) h = flagged_step from to flag r rs (is_within from to r) refl h (flagged_already from to flag rs)

-- and where the used readings stay, each has
same_use : (at raw : ℤ) (f g : Flag) → filter is_used (record { at = at; raw = raw; flag = f } ∷ []) ≡ filter is_used (record { at = at; raw = raw; flag = g } ∷ []) → g ≡ f
same_use at raw Usable Usable e = refl
same_use at raw Usable Erroneous e = absurd (cc)
same_use at raw Usable Affected e = let k : Usable ∷ [] ≡ Affected ∷ [] = ap (map (λ (r : Reading). r.flag)) e in absurd (cc)
same_use at raw Erroneous Usable e = absurd (cc)
same_use at raw Erroneous Erroneous e = refl
same_use at raw Erroneous Affected e = absurd (cc)
same_use at raw Affected Usable e = let k : Affected ∷ [] ≡ Usable ∷ [] = ap (map (λ (r : Reading). r.flag)) e in absurd (cc)
same_use at raw Affected Erroneous e = absurd (cc)
same_use at raw Affected Affected e = refl

had_flag : (from to : ℤ) (flag : Flag) (rs : List Reading) (r : Reading) → filter is_used (with_flag from to flag rs) ≡ filter is_used rs
    → here r.at rs ≡ r ∷ [] → is_within from to r ≡ true → r.flag ≡ flag
had_flag from to flag rs r e alone within =
    let now : here r.at (with_flag from to flag rs) ≡ flagged_where true flag r ∷ [] =
    filter_map_swap (is_at r.at) (flagged from to flag) (λ s. refl) rs
    ∙ ap (map (flagged from to flag)) alone
    ∙ ap (λ (b : Bool). flagged_where b flag r ∷ []) within in
    same_use r.at r.raw flag r.flag
    (ap (filter is_used) (sym now)
    ∙ filters_swap is_used (is_at r.at) (with_flag from to flag rs)
    ∙ ap (here r.at) e
    ∙ filters_swap (is_at r.at) is_used rs
    ∙ ap (filter is_used) alone)

pub left_flagged : (from to : ℤ) (flag : Flag) (rs : List Reading) → IsRising rs → filter is_used (with_flag from to flag rs) ≡ filter is_used rs
    → All (λ r. r.flag ≡ flag) (in_span from to rs)
left_flagged from to flag rs h e = λ k d l.
    had_flag from to flag rs _ e (All-filter (is_within from to) (λ r. here r.at rs ≡ r ∷ []) rs (all_here rs h) k d l)
    (filter_passes (is_within from to) rs k d l)
