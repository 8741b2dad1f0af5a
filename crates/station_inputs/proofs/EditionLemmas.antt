-- Which edition is in force on a day.
use Rattle.std.specs.Option.{option_or}
use Rattle.std.specs.Prelude.{◌≡◌, Bool, true, false, cond, ◌&&◌, List, [], ◌∷◌, ◌++◌, filter, option_map, option_to_list, Option, Some, None, All, ℤ, int_le, ◌≤ℤ◌, ◌<ℤ◌}
use Rattle.std.proofs.Common.{arith, refl, ap, sym, ◌∙◌, append_assoc, inl, inr}
use Rattle.std.proofs.lemmas.Bool.{and_parts}
use Rattle.std.proofs.lemmas.Int.{ints}
use Rattle.std.proofs.lemmas.List.{append-nil}
use Rattle.std.proofs.lemmas.List.Elements.{All-append, All-filter, All-weaker, filter-append}
use Rattle.rising.specs.Ends.{first, last}
use Rattle.rising.specs.Lists.{IsRising, after, at, before, put, up_to}
use Rattle.rising.proofs.Ends.{last-append, last-cons, last-kept}
use Rattle.rising.proofs.Parting.{IsAfter, IsUpTo, all_up_to, le_no, le_yes, none_up_to, yes_le}
use Rattle.rising.proofs.Placing.{IsBefore}
use Rattle.rising.proofs.Splitting.{IsAt, about, compared, whole}
use Rattle.station_inputs.specs.Stations.{edition_after, edition_day, edition_on, governs}
use Rattle.station_inputs.specs.declared.station_editions.Edition.{Edition}

-- the editions up to a day, those before some day, of it and after it apart
split : (n day : ℤ) (xs : List Edition) → IsRising edition_day xs
    → up_to edition_day day xs
    ≡ up_to edition_day day (before edition_day n xs) ++ (up_to edition_day day (option_to_list (at edition_day n xs)) ++ up_to edition_day day (after edition_day n xs))
split n day xs h =
    let p : Edition → Bool = λ x. int_le x.day day in
    let bs = before edition_day n xs in
    let hs = option_to_list (at edition_day n xs) in
    let cs = after edition_day n xs in
    ap (filter p) (whole edition_day n xs h) ∙ filter-append p bs (hs ++ cs) ∙ ap (λ (t : List Edition). filter p bs ++ t) (filter-append p hs cs)

-- those up to a day are those before it, and the one of it
on_parts : (day : ℤ) (xs : List Edition) → IsRising edition_day xs → up_to edition_day day xs ≡ before edition_day day xs ++ option_to_list (at edition_day day xs)
on_parts day xs h =
    let bs = before edition_day day xs in
    let hs = option_to_list (at edition_day day xs) in
    let cs = after edition_day day xs in
    let k = about edition_day day xs in
    let b = all_up_to edition_day day bs (All-weaker (IsBefore edition_day day) (IsUpTo edition_day day) (λ x l. omega (arith, ints, l)) bs k.below) in
    let i = all_up_to edition_day day hs (All-weaker (IsAt edition_day day) (IsUpTo edition_day day) (λ x l. omega (arith, ints, l)) hs k.here) in
    let a = none_up_to edition_day day cs k.above in
    split day day xs h ∙ ap (λ (t : List Edition). t ++ (up_to edition_day day hs ++ up_to edition_day day cs)) b
    ∙ ap (λ (t : List Edition). bs ++ (t ++ up_to edition_day day cs)) i ∙ ap (λ (t : List Edition). bs ++ (hs ++ t)) a
    ∙ ap (λ (t : List Edition). bs ++ t) (append-nil hs)

-- so the one in force is that of the day, or else the last before it
abbrev pub or_else : Option Edition → Option Edition → Option Edition
or_else None other = other
or_else (Some e) other = Some e

last_or : (bs : List Edition) (o : Option Edition) → last (bs ++ option_to_list o) ≡ or_else o (last bs)
last_or bs None = ap last (append-nil bs)
last_or bs (Some e) = last-append bs e []

pub in_force : (day : ℤ) (xs : List Edition) → IsRising edition_day xs → edition_on day xs ≡ or_else (at edition_day day xs) (last (before edition_day day xs))
in_force day xs h = ap last (on_parts day xs h) ∙ last_or (before edition_day day xs) (at edition_day day xs)

-- the same as it is looked up: that of the day where it is there, or else the last before it
pub found_in_force : {R : Type 0} (now : R → Edition) (here late : Option R) (day : ℤ) (xs : List Edition) → IsRising edition_day xs
    → option_map now here ≡ at edition_day day xs → option_map now late ≡ last (before edition_day day xs)
    → option_map now (option_or here late) ≡ edition_on day xs
found_in_force now None late day xs h e f = f ∙ ap (λ (o : Option Edition). or_else o (last (before edition_day day xs))) e ∙ sym (in_force day xs h)
found_in_force now (Some r) late day xs h e f = ap (λ (o : Option Edition). or_else o (last (before edition_day day xs))) e ∙ sym (in_force day xs h)

-- an edition is not of a later day than another one
abbrev latest : ℤ → Option Edition → Bool
latest own None = true
latest own (Some kept) = int_le kept.day own

governs_yes : (own day : ℤ) (o : Option Edition) → int_le own day ≡ true → governs own day o ≡ latest own o
governs_yes own day None e = e
governs_yes own day (Some k) e = rw e refl

governs_no : (own day : ℤ) (o : Option Edition) → int_le own day ≡ false → governs own day o ≡ false
governs_no own day None e = e
governs_no own day (Some k) e = rw e refl

-- the last of those that are not later is not later, and the last of those that are is
early_step : (own : ℤ) (zs : List Edition) (o : Option Edition) → last zs ≡ o → All (IsUpTo edition_day own) zs → latest own o ≡ true
early_step own zs None e h = refl
early_step own zs (Some k) e h = le_yes k.day own (last-kept (IsUpTo edition_day own) zs k h e)

some_last : (y : Edition) (ys : List Edition) → (k : Edition) × (last (y ∷ ys) ≡ Some k)
some_last y [] = (y, refl)
some_last y (z ∷ zs) = let r = some_last z zs in (r.0, last-cons y z zs ∙ r.1)

-- the last with an edition put behind those that are not later and before those that are
ends : (e : Edition) (bs hs cs : List Edition) → All (IsUpTo edition_day e.day) (bs ++ hs) → All (IsAfter edition_day e.day) cs
    → last (bs ++ e ∷ cs) ≡ cond (latest e.day (last (bs ++ (hs ++ cs)))) (Some e) (last (bs ++ (hs ++ cs)))
ends e bs hs [] h k =
    let none : bs ++ (hs ++ []) ≡ bs ++ hs = ap (λ (t : List Edition). bs ++ t) (append-nil hs) in
    let early = early_step e.day (bs ++ hs) (last (bs ++ hs)) refl h in
    last-append bs e [] ∙ sym (ap (λ (b : Bool). cond b (Some e) (last (bs ++ (hs ++ [])))) (ap (λ (t : List Edition). latest e.day (last t)) none ∙ early))
ends e bs hs (y ∷ ys) h k =
    let found = some_last y ys in
    let old : last (bs ++ (hs ++ y ∷ ys)) ≡ Some found.0 = ap last (sym (append_assoc bs hs (y ∷ ys))) ∙ last-append (bs ++ hs) y ys ∙ found.1 in
    let late = le_no found.0.day e.day (last-kept (IsAfter edition_day e.day) (y ∷ ys) found.0 k found.1) in
    last-append bs e (y ∷ ys) ∙ last-cons e y ys ∙ found.1 ∙ sym old
    ∙ sym (ap (λ (b : Bool). cond b (Some e) (last (bs ++ (hs ++ y ∷ ys)))) (ap (latest e.day) old ∙ late))

own_case : (e : Edition) (day : ℤ) (xs : List Edition) → IsRising edition_day xs → e.day ≤ℤ day
    → edition_on day (put edition_day e xs) ≡ cond (governs e.day day (edition_on day xs)) (Some e) (edition_on day xs)
own_case e day xs h l =
    let p : Edition → Bool = λ x. int_le x.day day in
    let n = e.day in
    let bs = before edition_day n xs in
    let hs = option_to_list (at edition_day n xs) in
    let cs = after edition_day n xs in
    let k = about edition_day n xs in
    let yes = le_yes n day l in
    let put_is : filter p (bs ++ e ∷ cs) ≡ filter p bs ++ e ∷ filter p cs =
    filter-append p bs (e ∷ cs) ∙ ap (λ (b : Bool). filter p bs ++ cond b (e ∷ filter p cs) (filter p cs)) yes in
    let low = All-append (IsUpTo edition_day n) (filter p bs) (filter p hs)
    (All-filter p (IsUpTo edition_day n) bs (All-weaker (IsBefore edition_day n) (IsUpTo edition_day n) (λ x m. omega (arith, ints, m)) bs k.below))
    (All-filter p (IsUpTo edition_day n) hs (All-weaker (IsAt edition_day n) (IsUpTo edition_day n) (λ x m. omega (arith, ints, m)) hs k.here)) in
    let high = All-filter p (IsAfter edition_day n) cs k.above in
    let old : last (filter p bs ++ (filter p hs ++ filter p cs)) ≡ edition_on day xs = ap last (sym (split n day xs h)) in
    ap last put_is ∙ ends e (filter p bs) (filter p hs) (filter p cs) low high
    ∙ ap (λ (o : Option Edition). cond (latest n o) (Some e) o) old
    ∙ ap (λ (b : Bool). cond b (Some e) (edition_on day xs)) (sym (governs_yes n day (edition_on day xs) yes))

later_case : (e : Edition) (day : ℤ) (xs : List Edition) → IsRising edition_day xs → day <ℤ e.day
    → edition_on day (put edition_day e xs) ≡ cond (governs e.day day (edition_on day xs)) (Some e) (edition_on day xs)
later_case e day xs h l =
    let p : Edition → Bool = λ x. int_le x.day day in
    let n = e.day in
    let bs = before edition_day n xs in
    let hs = option_to_list (at edition_day n xs) in
    let cs = after edition_day n xs in
    let k = about edition_day n xs in
    let no = le_no n day l in
    let a = none_up_to edition_day day cs (All-weaker (IsAfter edition_day n) (IsAfter edition_day day) (λ x m. omega (arith, ints, m, l)) cs k.above) in
    let i = none_up_to edition_day day hs (All-weaker (IsAt edition_day n) (IsAfter edition_day day) (λ x m. omega (arith, ints, m, l)) hs k.here) in
    let put_is : filter p (bs ++ e ∷ cs) ≡ filter p bs ++ [] =
    filter-append p bs (e ∷ cs) ∙ ap (λ (b : Bool). filter p bs ++ cond b (e ∷ filter p cs) (filter p cs)) no ∙ ap (λ (t : List Edition). filter p bs ++ t) a in
    let old : filter p xs ≡ filter p bs ++ [] =
    split n day xs h ∙ ap (λ (t : List Edition). filter p bs ++ (t ++ filter p cs)) i ∙ ap (λ (t : List Edition). filter p bs ++ t) a in
    ap last (put_is ∙ sym old) ∙ ap (λ (b : Bool). cond b (Some e) (edition_on day xs)) (sym (governs_no n day (edition_on day xs) no))

-- an edition that is put is in force where it governs, and else the one that was
pub on_put : (e : Edition) (day : ℤ) (xs : List Edition) → IsRising edition_day xs
    → edition_on day (put edition_day e xs) ≡ cond (governs e.day day (edition_on day xs)) (Some e) (edition_on day xs)
on_put e day xs h =
    elim (compared e.day day) [
      | inl l ↦ own_case e day xs h (omega (arith, ints, l))
      | inr (inl q) ↦ own_case e day xs h (omega (arith, ints, q))
      | inr (inr g) ↦ later_case e day xs h g
    ]

-- where an edition governs a day, this is not before its own, and before that of the next one
governs_parts : (own day : ℤ) (o : Option Edition) → governs own day o ≡ true → (own ≤ℤ day) × (latest own o ≡ true)
governs_parts own day None e = (yes_le own day e, refl)
governs_parts own day (Some k) e = let both = and_parts (int_le own day) (int_le k.day own) e in (yes_le own day both.0, both.1)

behind : (own day : ℤ) (next : Edition) (bs hs cs : List Edition) → first cs ≡ Some next → All (IsAfter edition_day own) cs → next.day ≤ℤ day
    → latest own (last (bs ++ (hs ++ filter (λ (x : Edition). int_le x.day day) cs))) ≡ true → ⊥
behind own day next bs hs [] f k l e = absurd (cc)
behind own day next bs hs (x ∷ xs) f k l e =
    let p : Edition → Bool = λ z. int_le z.day day in
    let same : next ≡ x = cc in
    let yes : int_le x.day day ≡ true = ap (λ (z : Edition). int_le z.day day) (sym same) ∙ le_yes next.day day l in
    let kept : filter p (x ∷ xs) ≡ x ∷ filter p xs = ap (λ (b : Bool). cond b (x ∷ filter p xs) (filter p xs)) yes in
    let found = some_last x (filter p xs) in
    let old : last (bs ++ (hs ++ filter p (x ∷ xs))) ≡ Some found.0 =
    ap (λ (t : List Edition). last (bs ++ (hs ++ t))) kept ∙ ap last (sym (append_assoc bs hs (x ∷ filter p xs))) ∙ last-append (bs ++ hs) x (filter p xs) ∙ found.1 in
    let high = All-filter p (IsAfter edition_day own) (x ∷ xs) k in
    let late = le_no found.0.day own (last-kept (IsAfter edition_day own) (filter p (x ∷ xs)) found.0 high (ap last kept ∙ found.1)) in
    let t : false ≡ true = sym late ∙ ap (latest own) (sym old) ∙ e in
    absurd (cc)

pub governed_days : (own day : ℤ) (xs : List Edition) → IsRising edition_day xs → governs own day (edition_on day xs) ≡ true
    → (own ≤ℤ day) × ((next : Edition) → edition_after own xs ≡ Some next → day <ℤ next.day)
governed_days own day xs h e =
    let both = governs_parts own day (edition_on day xs) e in
    let p : Edition → Bool = λ z. int_le z.day day in
    let bs = before edition_day own xs in
    let hs = option_to_list (at edition_day own xs) in
    let cs = after edition_day own xs in
    let old : latest own (last (filter p bs ++ (filter p hs ++ filter p cs))) ≡ true = ap (λ (t : List Edition). latest own (last t)) (sym (split own day xs h)) ∙ both.1 in (
      both.0,
      λ next f.
          elim (compared next.day day) [
            | inl l ↦ absurd (behind own day next (filter p bs) (filter p hs) cs f (about edition_day own xs).above (omega (arith, ints, l)) old)
            | inr (inl q) ↦ absurd (behind own day next (filter p bs) (filter p hs) cs f (about edition_day own xs).above (omega (arith, ints, q)) old)
            | inr (inr g) ↦ g
          ],
    )
