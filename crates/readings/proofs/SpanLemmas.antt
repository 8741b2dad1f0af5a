-- A rising list as what stands before a span, in it and after it.
use Rattle.std.specs.Prelude.{◌≡◌, Bool, true, false, not, ◌&&◌, List, [], ◌∷◌, ◌++◌, ◌+◌, ◌-◌, ◌≤◌, ℕ, ℤ, take, drop, map, length, filter, int_le, All}
use Rattle.std.proofs.Common.{arith, refl, ap, sym, ◌∙◌, length-append, take_at, drop_at, append_assoc}
use Rattle.std.proofs.lemmas.Int.{ints, by_lt_z}
use Rattle.std.proofs.lemmas.List.{map-append}
use Rattle.std.proofs.lemmas.List.Elements.{filter-append, filter_passes, All-weaker, All-head, All-tail}
use Rattle.rising.specs.Lists.{up_to}
use Rattle.rising.proofs.Selecting.{filter_all, filter_none, filter_both}
use Rattle.rising.proofs.Parting.{IsAfter, lt_yes, lt_no, le_yes, le_no, all_after, none_up_to, after_is_after}
use Rattle.rising.proofs.Placing.{IsBefore, before_is_before, filter_rises}
use Rattle.rising.proofs.Splitting.{rest_rises, rest_is_later}
use Rattle.fixed_units.specs.declared.readings.Reading.{Reading}
use Rattle.fixed_units.specs.declared.readings.Flag.{Flag}
use Rattle.readings.specs.Readings.{IsRising, instant_of, before_instant, from_instant, after_instant, is_within, in_span, without_span, flagged_where, with_flag}
use Rattle.readings.proofs.HalvesLemmas.{cut}

-- a rising list is its readings up to an instant and those after it
pub cut_to : (at : ℤ) (rs : List Reading) → IsRising rs → rs ≡ up_to instant_of at rs ++ after_instant at rs
cut_to at [] h = refl
cut_to at (r ∷ rs) h =
    by_lt_z at r.at
    (λ l. let a = lt_yes at r.at l in
    let b : int_le r.at at ≡ false = le_no r.at at l in
    let later : All (IsAfter instant_of at) rs = All-weaker (IsAfter instant_of r.at) (IsAfter instant_of at) (λ s k. omega (arith, ints, l, k)) rs (rest_is_later instant_of r rs h) in
    let none : up_to instant_of at rs ≡ [] = none_up_to instant_of at rs later in
    let all : after_instant at rs ≡ rs = all_after instant_of at rs later in
    rw (a, b, none, all) refl)
    (λ l. let a = lt_no at r.at l in
    let b : int_le r.at at ≡ true = le_yes r.at at l in
    rw (a, b) (ap (λ k. r ∷ k) (cut_to at rs (rest_rises instant_of r rs h))))

pub front_to : (at : ℤ) (rs : List Reading) (n : ℕ) → IsRising rs → length (up_to instant_of at rs) ≡ n → take n rs ≡ up_to instant_of at rs
front_to at rs n h e = ap (take n) (cut_to at rs h) ∙ take_at (up_to instant_of at rs) (after_instant at rs) n e

pub back_to : (at : ℤ) (rs : List Reading) (n : ℕ) → IsRising rs → length (up_to instant_of at rs) ≡ n → drop n rs ≡ after_instant at rs
back_to at rs n h e = ap (drop n) (cut_to at rs h) ∙ drop_at (up_to instant_of at rs) (after_instant at rs) n e

-- those after a span
abbrev pub behind_span : ℤ → ℤ → List Reading → List Reading
behind_span from to rs = after_instant to (from_instant from rs)

pub parted : (from to : ℤ) (rs : List Reading) → IsRising rs → rs ≡ before_instant from rs ++ (in_span from to rs ++ behind_span from to rs)
parted from to rs h =
    let F = from_instant from rs in
    let rest : F ≡ in_span from to rs ++ behind_span from to rs =
    cut_to to F (filter_rises instant_of (λ r. int_le from r.at) rs h)
    ∙ ap (λ (l : List Reading). l ++ behind_span from to rs) (filter_both (λ r. int_le from r.at) (λ r. int_le r.at to) rs) in
    cut from rs h ∙ ap (λ (l : List Reading). before_instant from rs ++ l) rest

pub within : (from to : ℤ) (rs : List Reading) → IsRising rs → length (before_instant from rs) + length (in_span from to rs) ≤ length rs
within from to rs h =
    omega (
      arith,
      ap length (parted from to rs h),
      length-append (before_instant from rs) (in_span from to rs ++ behind_span from to rs),
      length-append (in_span from to rs) (behind_span from to rs),
    )

-- which stand in the span
and_false : (b : Bool) → (b && false) ≡ false
and_false true = refl
and_false false = refl

early_without : (from to : ℤ) (rs : List Reading) → All (λ r. is_within from to r ≡ false) (before_instant from rs)
early_without from to rs =
    All-weaker (IsBefore instant_of from) (λ r. is_within from to r ≡ false)
    (λ r k. let e = le_no from r.at k in rw e refl) (before_instant from rs) (before_is_before instant_of from rs)

late_without : (from to : ℤ) (rs : List Reading) → All (λ r. is_within from to r ≡ false) (behind_span from to rs)
late_without from to rs =
    All-weaker (IsAfter instant_of to) (λ r. is_within from to r ≡ false)
    (λ r k. let e = le_no r.at to k in rw e (and_false (int_le from r.at))) (behind_span from to rs) (after_is_after instant_of to (from_instant from rs))

span_within : (from to : ℤ) (rs : List Reading) → All (λ r. is_within from to r ≡ true) (in_span from to rs)
span_within from to rs = filter_passes (is_within from to) rs

pub without_parts : (from to : ℤ) (rs : List Reading) → IsRising rs → without_span from to rs ≡ before_instant from rs ++ behind_span from to rs
without_parts from to rs h =
    let B = before_instant from rs in
    let S = in_span from to rs in
    let A = behind_span from to rs in
    let out = λ (r : Reading). not (is_within from to r) in
    let b : filter out B ≡ B = filter_all out B (All-weaker (λ r. is_within from to r ≡ false) (λ r. out r ≡ true) (λ r k. ap not k) B (early_without from to rs)) in
    let s : filter out S ≡ [] = filter_none out S (All-weaker (λ r. is_within from to r ≡ true) (λ r. out r ≡ false) (λ r k. ap not k) S (span_within from to rs)) in
    let a : filter out A ≡ A = filter_all out A (All-weaker (λ r. is_within from to r ≡ false) (λ r. out r ≡ true) (λ r k. ap not k) A (late_without from to rs)) in
    let e : filter out (B ++ (S ++ A)) ≡ filter out B ++ (filter out S ++ filter out A) =
    filter-append out B (S ++ A) ∙ ap (λ (l : List Reading). filter out B ++ l) (filter-append out S A) in
    ap (filter out) (parted from to rs h) ∙ e ∙ rw (b, s, a) refl

map_same : (f g : Reading → Reading) (rs : List Reading) → All (λ r. f r ≡ g r) rs → map f rs ≡ map g rs
map_same f g [] h = refl
map_same f g (r ∷ rs) h =
    let e = All-head (λ r. f r ≡ g r) r rs h in
    let k = map_same f g rs (All-tail (λ r. f r ≡ g r) r rs h) in
    rw (e, k) refl

map_kept : (f : Reading → Reading) (rs : List Reading) → All (λ r. f r ≡ r) rs → map f rs ≡ rs
map_kept f [] h = refl
map_kept f (r ∷ rs) h =
    let e = All-head (λ r. f r ≡ r) r rs h in
    let k = map_kept f rs (All-tail (λ r. f r ≡ r) r rs h) in
    rw (e, k) refl

pub flag_parts : (from to : ℤ) (flag : Flag) (rs : List Reading) → IsRising rs
    → with_flag from to flag rs ≡ before_instant from rs ++ (map (flagged_where true flag) (in_span from to rs) ++ behind_span from to rs)
flag_parts from to flag rs h =
    let B = before_instant from rs in
    let S = in_span from to rs in
    let A = behind_span from to rs in
    let f = λ (r : Reading). flagged_where (is_within from to r) flag r in
    let b : map f B ≡ B = map_kept f B (All-weaker (λ r. is_within from to r ≡ false) (λ r. f r ≡ r) (λ r k. rw k refl) B (early_without from to rs)) in
    let s : map f S ≡ map (flagged_where true flag) S =
    map_same f (flagged_where true flag) S (All-weaker (λ r. is_within from to r ≡ true) (λ r. f r ≡ flagged_where true flag r) (λ r k. rw k refl) S (span_within from to rs)) in
    let a : map f A ≡ A = map_kept f A (All-weaker (λ r. is_within from to r ≡ false) (λ r. f r ≡ r) (λ r k. rw k refl) A (late_without from to rs)) in
    let e : map f (B ++ (S ++ A)) ≡ map f B ++ (map f S ++ map f A) =
    map-append f B (S ++ A) ∙ ap (λ (l : List Reading). map f B ++ l) (map-append f S A) in
    ap (map f) (parted from to rs h) ∙ e ∙ rw (b, s, a) refl

-- the places of a span
pub front_part : (from to : ℤ) (rs : List Reading) (first : ℕ) → IsRising rs → first ≡ length (before_instant from rs) → take first rs ≡ before_instant from rs
front_part from to rs first h e =
    ap (take first) (parted from to rs h) ∙ take_at (before_instant from rs) (in_span from to rs ++ behind_span from to rs) first (sym e)

pub span_part : (from to : ℤ) (rs : List Reading) (first count : ℕ) → IsRising rs → first ≡ length (before_instant from rs) → count ≡ length (in_span from to rs)
    → take count (drop first rs) ≡ in_span from to rs
span_part from to rs first count h e f =
    ap (λ (l : List Reading). take count (drop first l)) (parted from to rs h)
    ∙ ap (take count) (drop_at (before_instant from rs) (in_span from to rs ++ behind_span from to rs) first (sym e))
    ∙ take_at (in_span from to rs) (behind_span from to rs) count (sym f)

pub back_part : (from to : ℤ) (rs : List Reading) (end : ℕ) → IsRising rs → end ≡ length (before_instant from rs) + length (in_span from to rs)
    → drop end rs ≡ behind_span from to rs
back_part from to rs end h e =
    let B = before_instant from rs in
    let S = in_span from to rs in
    let A = behind_span from to rs in
    ap (drop end) (parted from to rs h ∙ sym (append_assoc B S A))
    ∙ drop_at (B ++ S) A end (length-append B S ∙ sym e)

-- the list without a span, and with a span flagged, by the places of the span
pub dropped : (from to : ℤ) (rs : List Reading) (first end : ℕ) → IsRising rs → first ≡ length (before_instant from rs)
    → end ≡ first + length (in_span from to rs) → take first rs ++ drop end rs ≡ without_span from to rs
dropped from to rs first end h e f =
    let a = front_part from to rs first h e in
    let b = back_part from to rs end h (omega (arith, e, f)) in
    rw (a, b) (sym (without_parts from to rs h))

pub flagged : (from to : ℤ) (flag : Flag) (rs : List Reading) (first end : ℕ) → IsRising rs → first ≡ length (before_instant from rs)
    → end ≡ first + length (in_span from to rs)
    → take first rs ++ (map (flagged_where true flag) (take (end - first) (drop first rs)) ++ drop end rs) ≡ with_flag from to flag rs
flagged from to flag rs first end h e f =
    let a = front_part from to rs first h e in
    let s = span_part from to rs first (end - first) h e (omega (arith, f)) in
    let b = back_part from to rs end h (omega (arith, e, f)) in
    rw (a, s, b) (sym (flag_parts from to flag rs h))
