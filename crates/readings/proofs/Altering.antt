-- What the comparisons of a change say of the used readings, and of the window.
use Rattle.std.specs.Prelude.{◌≡◌, ◌≢◌, Bool, true, false, not, ◌&&◌, ◌||◌, List, [], ◌∷◌, ◌++◌, ℤ, ◌≤ℤ◌, int_le, int_lt, filter, find, is_some, Option, Some, None, option_to_list, All}
use Rattle.std.specs.List.{list_any}
use Rattle.std.proofs.Common.{arith, refl, ap, sym, ◌∙◌}
use Rattle.std.proofs.lemmas.Bool.{and_parts}
use Rattle.std.proofs.lemmas.Int.{ints}
use Rattle.std.proofs.lemmas.Option.{MatchOption-at_some}
use Rattle.std.proofs.lemmas.List.Elements.{All-head, All-tail, All-cons, All-nil, All-weaker, filter_passes}
use Rattle.fixed_units.specs.declared.readings.Reading.{Reading}
use Rattle.fixed_units.specs.declared.readings.Flag.{Flag}
use Rattle.rising.proofs.Parting.{yes_lt, yes_le}
use Rattle.rising.proofs.Selecting.{none_found, filter_none}
use Rattle.readings.specs.Readings.{IsRising, at_instant, before_instant, from_instant, put_all, is_used, in_span, without_span, with_flag}
use Rattle.readings.specs.Window.{is_of_day, of_day, inner}
use Rattle.readings.specs.Equality.{same_flag, same_readings}
use Rattle.readings.specs.Changes.{changed, changed_by, put_list, IsRisingChange}
use Rattle.readings.specs.declared.changes.Change.{Change}
use Rattle.readings.specs.declared.changes.Change.TheVariants.{Put, Drop, Flag as Flagged}
use Rattle.readings.proofs.EqualityLemmas.{flags_decide}
use Rattle.readings.proofs.NearLemmas.{before_from}
use Rattle.readings.proofs.Selecting.{find_none, find_kept, none_kept}
use Rattle.readings.proofs.WindowParts.{inner_found}
use Rattle.readings.proofs.UnionLemmas.{part_put_all, IsUsedAlike, used_stay, used_stayed}
use Rattle.readings.proofs.ChangeLemmas.{without_rises, part_without, unused_leave, left_unused, part_flagged, flagged_already, left_flagged}
use Rattle.readings.proofs.PuttingLemmas.{put_all_rises}
use Rattle.readings.proofs.RunLemmas.{with_flag_rises}
use Rattle.readings.proofs.Comparing.{differs_false, tell_other, tell_same}

-- readings after a change rise
pub changed_rises : (change : Change) (rs : List Reading) → IsRisingChange change → IsRising rs → IsRising (changed change rs)
changed_rises (Put list) rs h k = put_all_rises list.now rs k
changed_rises (Drop from to) rs h k = without_rises from to rs k
changed_rises (Flagged from to flag) rs h k = with_flag_rises from to flag rs k

pub list_rises : (change : Change) → IsRisingChange change → IsRising (put_list change)
list_rises (Put list) h = h
list_rises (Drop from to) h = λ i j d k l. absurd (omega arith)
list_rises (Flagged from to flag) h = λ i j d k l. absurd (omega arith)

-- whether some element passes
none_first : (x y : Bool) → (x || y) ≡ false → x ≡ false
none_first true y e = absurd (cc)
none_first false y e = refl

none_rest : (x y : Bool) → (x || y) ≡ false → y ≡ false
none_rest true y e = absurd (cc)
none_rest false y e = e

any_none : (p : Reading → Bool) (rs : List Reading) → list_any p rs ≡ false → All (λ r. p r ≡ false) rs
any_none p [] e = All-nil (λ r. p r ≡ false)
any_none p (r ∷ rs) e =
    All-cons (λ r. p r ≡ false) r rs (none_first (p r) (list_any p rs) e) (any_none p rs (none_rest (p r) (list_any p rs) e))

none_any : (p : Reading → Bool) (rs : List Reading) → All (λ r. p r ≡ false) rs → list_any p rs ≡ false
none_any p [] h = refl
none_any p (r ∷ rs) h =
    let e = All-head (λ r. p r ≡ false) r rs h in
    rw e (none_any p rs (All-tail (λ r. p r ≡ false) r rs h))

any_step : (b x y z : Bool) → x ≡ (y || z) → (b || x) ≡ ((b || y) || z)
any_step true x y z e = refl
any_step false x y z e = e

pub any_append : (p : Reading → Bool) (xs ys : List Reading) → list_any p (xs ++ ys) ≡ (list_any p xs || list_any p ys)
any_append p [] ys = refl
any_append p (x ∷ xs) ys = any_step (p x) (list_any p (xs ++ ys)) (list_any p xs) (list_any p ys) (any_append p xs ys)

-- readings put alter the used ones where one of them is used otherwise than what stands at its instant
abbrev pub used_anew : List Reading → Reading → Bool
used_anew rs r = not (same_readings (filter is_used (option_to_list (at_instant r.at rs))) (filter is_used (r ∷ [])))

pub put_told : (list rs : List Reading) (b : Bool) → IsRising list → IsRising rs → b ≡ list_any (used_anew rs) list
    → b ≡ not (same_readings (filter is_used rs) (filter is_used (put_all list rs)))
put_told list rs false h k e =
    tell_same (filter is_used rs) (filter is_used (put_all list rs))
    (sym (used_stay list rs h k
    (All-weaker (λ r. used_anew rs r ≡ false) (IsUsedAlike rs)
    (λ r f. differs_false (filter is_used (option_to_list (at_instant r.at rs))) (filter is_used (r ∷ [])) (sym f)) list (any_none (used_anew rs) list (sym e)))))
put_told list rs true h k e =
    tell_other (filter is_used rs) (filter is_used (put_all list rs))
    (λ same. let none : list_any (used_anew rs) list ≡ false =
    none_any (used_anew rs) list
    (All-weaker (IsUsedAlike rs) (λ r. used_anew rs r ≡ false)
    (λ r f. sym (tell_same (filter is_used (option_to_list (at_instant r.at rs))) (filter is_used (r ∷ [])) f)) list (used_stayed list rs h k (sym same))) in
    let wrong : true ≡ false = e ∙ none in cc)

-- readings taken out where one of them is used
drop_by : (from to : ℤ) (rs : List Reading) (o : Option Reading) → o ≡ find is_used (in_span from to rs)
    → is_some o ≡ not (same_readings (filter is_used rs) (filter is_used (without_span from to rs)))
drop_by from to rs None e =
    tell_same (filter is_used rs) (filter is_used (without_span from to rs)) (sym (unused_leave from to rs (sym e)))
drop_by from to rs (Some r) e =
    tell_other (filter is_used rs) (filter is_used (without_span from to rs))
    (λ same. let wrong : Some r ≡ None = e ∙ left_unused from to rs (sym same) in cc)

pub drop_told : (from to : ℤ) (rs span : List Reading) (o : Option Reading) (b : Bool) → b ≡ is_some o → o ≡ find is_used span → span ≡ in_span from to rs
    → b ≡ not (same_readings (filter is_used rs) (filter is_used (without_span from to rs)))
drop_told from to rs span o b e f g = e ∙ drop_by from to rs o (f ∙ ap (find is_used) g)

-- and readings flagged where one of them has another flag
abbrev pub other_flag : Flag → Reading → Bool
other_flag flag r = not (same_flag r.flag flag)

not_false : (b : Bool) → not b ≡ false → b ≡ true
not_false true e = refl
not_false false e = absurd (cc)

pub flag_told : (from to : ℤ) (flag : Flag) (rs span : List Reading) (b : Bool) → IsRising rs → b ≡ list_any (other_flag flag) span → span ≡ in_span from to rs
    → b ≡ not (same_readings (filter is_used rs) (filter is_used (with_flag from to flag rs)))
flag_told from to flag rs span false h e f =
    tell_same (filter is_used rs) (filter is_used (with_flag from to flag rs))
    (ap (filter is_used)
    (sym (flagged_already from to flag rs
    (All-weaker (λ r. other_flag flag r ≡ false) (λ r. r.flag ≡ flag)
    (λ r k. (flags_decide r.flag flag).0 (not_false (same_flag r.flag flag) k)) (in_span from to rs)
    (any_none (other_flag flag) (in_span from to rs) (ap (list_any (other_flag flag)) (sym f) ∙ sym e))))))
flag_told from to flag rs span true h e f =
    tell_other (filter is_used rs) (filter is_used (with_flag from to flag rs))
    (λ same. let none : list_any (other_flag flag) (in_span from to rs) ≡ false =
    none_any (other_flag flag) (in_span from to rs)
    (All-weaker (λ r. r.flag ≡ flag) (λ r. other_flag flag r ≡ false) (λ r k. ap not ((flags_decide r.flag flag).1 k)) (in_span from to rs)
    (left_flagged from to flag rs h (sym same))) in
    let wrong : true ≡ false = e ∙ ap (list_any (other_flag flag)) f ∙ none in cc)

-- what is told of a part is told of the used readings of its time
pub part_told : (a b : ℤ) (rs ss part next : List Reading) (t : Bool) → part ≡ of_day a b rs → next ≡ of_day a b ss
    → t ≡ not (same_readings (filter is_used part) (filter is_used next)) → t ≡ not (same_readings (inner a b rs) (inner a b ss))
part_told a b rs ss part next t e f told =
    told
    ∙ ap (λ (l : List Reading). not (same_readings l (filter is_used next))) (ap (filter is_used) e ∙ inner_found a b rs)
    ∙ ap (λ (l : List Reading). not (same_readings (inner a b rs) l)) (ap (filter is_used) f ∙ inner_found a b ss)

part_changed : (passes : ℤ → Bool) (change : Change) (list rs : List Reading) → IsRising rs
    → filter (λ r. passes r.at) (changed_by change list rs) ≡ changed_by change (filter (λ r. passes r.at) list) (filter (λ r. passes r.at) rs)
part_changed passes (Put _) list rs h = part_put_all passes list rs h
part_changed passes (Drop from to) list rs h = part_without passes from to rs
part_changed passes (Flagged from to flag) list rs h = part_flagged passes from to flag rs

pub change_told : (a b : ℤ) (change : Change) (list rs put part : List Reading) (t : Bool) → IsRising rs → part ≡ of_day a b rs → put ≡ of_day a b list
    → t ≡ not (same_readings (filter is_used part) (filter is_used (changed_by change put part)))
    → t ≡ not (same_readings (inner a b rs) (inner a b (changed_by change list rs)))
change_told a b change list rs put part t h e f told =
    part_told a b rs (changed_by change list rs) part (changed_by change put part) t e
    (ap (λ (l : List Reading). changed_by change l part) f ∙ ap (changed_by change (of_day a b list)) e
    ∙ sym (part_changed (λ n. int_le a n && int_lt n b) change list rs h))
    told

-- the same of what a change puts, parted at the day's start and at its end
pub told_of_day : (a b : ℤ) (change : Change) (rs part put rest list : List Reading) (t : Bool) → IsRising rs → part ≡ of_day a b rs → list ≡ put_list change
    → rest ≡ from_instant a list → put ≡ before_instant b rest
    → t ≡ not (same_readings (filter is_used part) (filter is_used (changed_by change put part)))
    → t ≡ not (same_readings (inner a b rs) (inner a b (changed change rs)))
told_of_day a b change rs part put rest list t h e f g k told =
    let day : put ≡ of_day a b (put_list change) = k ∙ ap (before_instant b) (g ∙ ap (from_instant a) f) ∙ before_from b a (put_list change) in
    change_told a b change (put_list change) rs put part t h e day told

-- a day whose readings are all unused, and one that has a used reading
none_by : (o : Option Reading) → is_some o ≡ false → o ≡ None
none_by None e = refl
none_by (Some r) e = absurd (cc)

pub unused_day : (a b : ℤ) (rs part : List Reading) (o : Option Reading) → is_some o ≡ false → o ≡ find is_used part → part ≡ of_day a b rs → inner a b rs ≡ []
unused_day a b rs part o e f g =
    sym (inner_found a b rs)
    ∙ filter_none is_used (of_day a b rs) (none_found is_used (of_day a b rs) (ap (find is_used) (sym g) ∙ sym f ∙ none_by o e))

pub used_day : (a b : ℤ) (rs part : List Reading) (o : Option Reading) → is_some o ≡ true → o ≡ find is_used part → part ≡ of_day a b rs → inner a b rs ≢ []
used_day a b rs part o e f g none =
    let found : find is_used (of_day a b rs) ≡ None =
    find_none is_used (of_day a b rs) (none_kept is_used (of_day a b rs) (inner_found a b rs ∙ none)) in
    let wrong : false ≡ true = sym (ap is_some (f ∙ ap (find is_used) g ∙ found)) ∙ e in
    cc

-- a used reading of a day begins it before it ends
in_order : (a b : ℤ) (rs : List Reading) (r : Reading) → find is_used (of_day a b rs) ≡ Some r → a ≤ℤ b
in_order a b rs r e =
    let within : is_of_day a b r ≡ true =
    MatchOption-at_some (Unit {0}) (λ r. is_of_day a b r ≡ true) r e (find_kept (λ r. is_of_day a b r ≡ true) is_used (of_day a b rs) (filter_passes (is_of_day a b) rs)) in
    let start = yes_le a r.at ((and_parts (int_le a r.at) (int_lt r.at b) within).0) in
    let end = yes_lt r.at b ((and_parts (int_le a r.at) (int_lt r.at b) within).1) in
    omega (arith, ints, start, end)

pub day_order : (a b : ℤ) (rs part : List Reading) (o : Option Reading) → is_some o ≡ true → o ≡ find is_used part → part ≡ of_day a b rs → a ≤ℤ b
day_order a b rs part None e f g = absurd (cc)
day_order a b rs part (Some r) e f g = in_order a b rs r (sym (f ∙ ap (find is_used) g))
