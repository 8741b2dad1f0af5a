-- An entry put among others, or taken out, changes the entries that bear on a span exactly where one at its instant bears on it.
use Rattle.std.specs.Prelude.{◌≡◌, ◌≢◌, Bool, true, false, cond, not, ◌&&◌, ◌||◌, List, [], ◌∷◌, ◌++◌, ℤ, ◌<ℤ◌, ◌≤ℤ◌, int_lt, int_le, Option, Some, None, option_to_list, is_some, All, Contains}
use Rattle.std.proofs.Common.{arith, refl, ap, sym, ◌∙◌, subst, inl, inr}
use Rattle.std.proofs.lemmas.Int.{ints, by_lt_z}
use Rattle.std.proofs.lemmas.List.Elements.{All-head, All-weaker, All-append, All-contains}
use Rattle.rising.specs.Lists as lists
use Rattle.rising.specs.Ends.{first, last}
use Rattle.rising.proofs.Parting.{IsAfter, le_yes, lt_yes, lt_no, yes_le, yes_lt, after_is_after}
use Rattle.rising.proofs.Placing.{IsBefore, before_is_before, put_rises}
use Rattle.rising.proofs.Splitting.{whole, put_same, not_there, at_is_at}
use Rattle.rising.proofs.Ends.{first-kept, last-kept, last-cons}
use Rattle.curves.specs.Entries.{IsRising, instant_of, stands_at, put, without}
use Rattle.curves.specs.Bearing.{is_next_after, reaches, bears, leads, bearing_led, bearing, is_led_to, bears_at}
use Rattle.curves.specs.Equality.{same_entries, is_found, has_entry}
use Rattle.curves.specs.declared.entries.Entry.{Entry}
use Rattle.curves.proofs.BearingCases.{both, either_one, led_of, same_led, by_tests, bearing_kept}
use Rattle.curves.proofs.EqualityLemmas.{entries_decide, lists_decide}

neither : (a b : Bool) → (a || b) ≡ false → (a ≡ false) × (b ≡ false)
neither true b h = absurd (cc)
neither false b h = (refl, h)

second_not : (a b : Bool) → a ≡ true → (a && b) ≡ false → b ≡ false
second_not true b e h = h
second_not false b e h = absurd (cc)

not_true : (b : Bool) → (b ≡ true → ⊥) → b ≡ false
not_true true h = absurd (h refl)
not_true false h = refl

-- an entry that neither bears nor is led to is passed over, where the next test of the one before it stays the same without it
passed_over : (lo hi : ℤ) (led : Bool) (front back : List Entry) (e : Entry) → (bears lo hi e (first back) || led_of lo hi led (last front) e) ≡ false
    → int_lt lo e.at ≡ is_next_after lo (first back) → bearing_led lo hi led (front ++ e ∷ back) ≡ bearing_led lo hi led (front ++ back)
passed_over lo hi led [] back e h n =
    let both = neither (bears lo hi e (first back)) led h in
    let own = both.0 in
    let other = both.1 in
    rw (own, other) refl
passed_over lo hi led (x ∷ []) back e h n =
    ap (λ l. cond (bears lo hi x (Some e) || led) (x ∷ []) [] ++ l) (passed_over lo hi (leads lo hi x (Some e)) [] back e h n)
    ∙ ap (λ b. cond ((int_le x.at hi && b) || led) (x ∷ []) [] ++ bearing_led lo hi ((int_le x.at hi && b) && x.prorate) back) n
passed_over lo hi led (x ∷ y ∷ ys) back e h n =
    let same : led_of lo hi (leads lo hi x (Some y)) (last (y ∷ ys)) e ≡ led_of lo hi led (last (x ∷ y ∷ ys)) e =
    same_led lo hi (leads lo hi x (Some y)) led y ys e ∙ ap (λ (o : Option Entry). led_of lo hi led o e) (sym (last-cons x y ys)) in
    ap (λ l. cond (bears lo hi x (Some y) || led) (x ∷ []) [] ++ l)
    (passed_over lo hi (leads lo hi x (Some y)) (y ∷ ys) back e (ap (λ b. bears lo hi e (first back) || b) same ∙ h) n)

-- the test stays the same without an entry that does not bear by itself
next_same : (lo hi : ℤ) (e : Entry) (back : List Entry) → lo ≤ℤ hi → All (IsAfter instant_of e.at) back → bears lo hi e (first back) ≡ false
    → int_lt lo e.at ≡ is_next_after lo (first back)
next_same lo hi e [] h k n =
    by_lt_z lo e.at (λ l. lt_yes lo e.at l) (λ l. let t = le_yes e.at hi (omega (arith, ints, h, l)) in absurd (let f = second_not (int_le e.at hi) true t n in cc))
next_same lo hi e (m ∷ ms) h k n =
    let later = All-head (IsAfter instant_of e.at) m ms k in
    by_lt_z lo e.at (λ l. lt_yes lo e.at l ∙ sym (lt_yes lo m.at (omega (arith, ints, l, later))))
    (λ l. lt_no lo e.at l ∙ sym (second_not (int_le e.at hi) (int_lt lo m.at) (le_yes e.at hi (omega (arith, ints, h, l))) n))

-- whether an entry at an instant between these bears
abbrev between : ℤ → ℤ → List Entry → List Entry → ℤ → Bool
between lo hi front back at = reaches lo hi at (first back) || is_led_to lo hi (last front) at

led_is : (lo hi : ℤ) (before : Option Entry) (e : Entry) → led_of lo hi false before e ≡ is_led_to lo hi before e.at
led_is lo hi None e = refl
led_is lo hi (Some p) e = refl

unchanged : (lo hi : ℤ) (front back : List Entry) (e : Entry) → lo ≤ℤ hi → All (IsAfter instant_of e.at) back → between lo hi front back e.at ≡ false
    → bearing lo hi (front ++ e ∷ back) ≡ bearing lo hi (front ++ back)
unchanged lo hi front back e h k n =
    let own = (neither (bears lo hi e (first back)) (is_led_to lo hi (last front) e.at) n).0 in
    passed_over lo hi false front back e (ap (λ b. bears lo hi e (first back) || b) (led_is lo hi (last front) e) ∙ n) (next_same lo hi e back h k own)

-- an entry that bears is among those of the one list and not of another one that lacks it
changed : (lo hi : ℤ) (front back others : List Entry) (e : Entry) → IsRising (front ++ e ∷ back) → All (λ y. y ≢ e) others
    → between lo hi front back e.at ≡ true → bearing lo hi others ≡ bearing lo hi (front ++ e ∷ back) → ⊥
changed lo hi front back others e h k t same =
    let there = (by_tests lo hi false front back e h).1 (ap (λ b. bears lo hi e (first back) || b) (led_is lo hi (last front) e) ∙ t) in
    All-contains (λ y. y ≢ e) (bearing lo hi others) e (bearing_kept (λ y. y ≢ e) lo hi false others k)
    (subst (λ (l : List Entry). Contains l e) (sym same) there) refl

-- the entries about an instant
abbrev front_of : ℤ → List Entry → List Entry
front_of at es = lists.before instant_of at es

abbrev back_of : ℤ → List Entry → List Entry
back_of at es = lists.after instant_of at es

whole_at : (at : ℤ) (es : List Entry) (o : Option Entry) → IsRising es → lists.at instant_of at es ≡ o
    → es ≡ front_of at es ++ (option_to_list o ++ back_of at es)
whole_at at es o h e = whole instant_of at es h ∙ ap (λ (p : Option Entry). front_of at es ++ (option_to_list p ++ back_of at es)) e

found_at : (at : ℤ) (es : List Entry) (o : Entry) → lists.at instant_of at es ≡ Some o → o.at ≡ at
found_at at es o e =
    All-head (λ (x : Entry). x.at ≡ at) o [] (subst (λ (p : Option Entry). All (λ (x : Entry). x.at ≡ at) (option_to_list p)) e (at_is_at instant_of at es))

behind_at : (at : ℤ) (es : List Entry) (o : Entry) → o.at ≡ at → All (IsAfter instant_of o.at) (back_of at es)
behind_at at es o e = subst (λ (n : ℤ). All (IsAfter instant_of n) (back_of at es)) (sym e) (after_is_after instant_of at es)

others_at : (at : ℤ) (es : List Entry) (o : Entry) → o.at ≡ at → All (λ y. y ≢ o) (front_of at es ++ back_of at es)
others_at at es o e =
    All-append (λ y. y ≢ o) (front_of at es) (back_of at es)
    (All-weaker (IsBefore instant_of at) (λ y. y ≢ o) (λ y l k. let f : y.at ≡ o.at = ap (λ (z : Entry). z.at) k in absurd (omega (arith, ints, l, f, e))) (front_of at es) (before_is_before instant_of at es))
    (All-weaker (IsAfter instant_of at) (λ y. y ≢ o) (λ y l k. let f : y.at ≡ o.at = ap (λ (z : Entry). z.at) k in absurd (omega (arith, ints, l, f, e))) (back_of at es) (after_is_after instant_of at es))

-- taken out
pub without_unchanged : (lo hi at : ℤ) (es : List Entry) (o : Option Entry) → IsRising es → lo ≤ℤ hi → lists.at instant_of at es ≡ o
    → bears_at lo hi at es ≡ false → bearing lo hi es ≡ bearing lo hi (without at es)
without_unchanged lo hi at es None h l e t = ap (bearing lo hi) (whole_at at es None h e)
without_unchanged lo hi at es (Some o) h l e t =
    let there = found_at at es o e in
    ap (bearing lo hi) (whole_at at es (Some o) h e)
    ∙ unchanged lo hi (front_of at es) (back_of at es) o l (behind_at at es o there) (ap (between lo hi (front_of at es) (back_of at es)) there ∙ t)

taken_cases : (lo hi at : ℤ) (es : List Entry) (o : Entry) (b : Bool) → IsRising es → lo ≤ℤ hi → lists.at instant_of at es ≡ Some o
    → between lo hi (front_of at es) (back_of at es) at ≡ b → same_entries (bearing lo hi es) (bearing lo hi (without at es)) ≡ not b
taken_cases lo hi at es o false h l e t =
    (lists_decide (bearing lo hi es) (bearing lo hi (without at es))).1 (without_unchanged lo hi at es (Some o) h l e t)
taken_cases lo hi at es o true h l e t =
    let there = found_at at es o e in
    let parts = whole_at at es (Some o) h e in
    not_true (same_entries (bearing lo hi es) (bearing lo hi (without at es)))
    (λ s. changed lo hi (front_of at es) (back_of at es) (without at es) o (subst IsRising parts h) (others_at at es o there)
    (ap (between lo hi (front_of at es) (back_of at es)) there ∙ t)
    (sym ((lists_decide (bearing lo hi es) (bearing lo hi (without at es))).0 s) ∙ ap (bearing lo hi) parts))

taken_found : (lo hi at : ℤ) (es : List Entry) (o : Option Entry) → IsRising es → lo ≤ℤ hi → lists.at instant_of at es ≡ o → is_some o ≡ true
    → same_entries (bearing lo hi es) (bearing lo hi (without at es)) ≡ not (bears_at lo hi at es)
taken_found lo hi at es None h l e k = absurd (cc)
taken_found lo hi at es (Some o) h l e k = taken_cases lo hi at es o (bears_at lo hi at es) h l e refl

pub bearing_without : (lo hi at : ℤ) (es : List Entry) → IsRising es → lo ≤ℤ hi → stands_at at es ≡ true
    → same_entries (bearing lo hi es) (bearing lo hi (without at es)) ≡ not (bears_at lo hi at es)
bearing_without lo hi at es h l k = taken_found lo hi at es (lists.at instant_of at es) h l refl k

-- put
pub put_unchanged : (lo hi : ℤ) (e : Entry) (es : List Entry) (o : Option Entry) → IsRising es → lo ≤ℤ hi → lists.at instant_of e.at es ≡ o
    → bears_at lo hi e.at es ≡ false → bearing lo hi es ≡ bearing lo hi (put e es)
put_unchanged lo hi e es None h l f t =
    ap (bearing lo hi) (whole_at e.at es None h f)
    ∙ sym (unchanged lo hi (front_of e.at es) (back_of e.at es) e l (after_is_after instant_of e.at es) t)
put_unchanged lo hi e es (Some o) h l f t =
    let there = found_at e.at es o f in
    ap (bearing lo hi) (whole_at e.at es (Some o) h f)
    ∙ unchanged lo hi (front_of e.at es) (back_of e.at es) o l (behind_at e.at es o there) (ap (between lo hi (front_of e.at es) (back_of e.at es)) there ∙ t)
    ∙ sym (unchanged lo hi (front_of e.at es) (back_of e.at es) e l (after_is_after instant_of e.at es) t)

found_not : (e : Entry) (o : Option Entry) → is_found e o ≡ false → o ≡ Some e → ⊥
found_not e None h k = absurd (cc)
found_not e (Some f) h k =
    let same : e ≡ f = cc in
    let t = (entries_decide e f).1 same in
    absurd (cc)

found_is : (e : Entry) (o : Option Entry) → is_found e o ≡ true → o ≡ Some e
found_is e None h = absurd (cc)
found_is e (Some f) h = ap Some (sym ((entries_decide e f).0 h))

put_cases : (lo hi : ℤ) (e : Entry) (es : List Entry) (b c : Bool) → IsRising es → lo ≤ℤ hi → bears_at lo hi e.at es ≡ b → has_entry e es ≡ c
    → same_entries (bearing lo hi es) (bearing lo hi (put e es)) ≡ (not b || c)
put_cases lo hi e es false c h l t f =
    (lists_decide (bearing lo hi es) (bearing lo hi (put e es))).1 (put_unchanged lo hi e es (lists.at instant_of e.at es) h l refl t)
put_cases lo hi e es true true h l t f =
    (lists_decide (bearing lo hi es) (bearing lo hi (put e es))).1
    (ap (bearing lo hi) (sym (put_same instant_of e es h (found_is e (lists.at instant_of e.at es) f))))
put_cases lo hi e es true false h l t f =
    not_true (same_entries (bearing lo hi es) (bearing lo hi (put e es)))
    (λ s. changed lo hi (front_of e.at es) (back_of e.at es) es e (put_rises instant_of e es h)
    (not_there instant_of e es h (found_not e (lists.at instant_of e.at es) f)) t
    ((lists_decide (bearing lo hi es) (bearing lo hi (put e es))).0 s))

pub bearing_put : (lo hi : ℤ) (e : Entry) (es : List Entry) → IsRising es → lo ≤ℤ hi
    → same_entries (bearing lo hi es) (bearing lo hi (put e es)) ≡ (not (bears_at lo hi e.at es) || has_entry e es)
bearing_put lo hi e es h l = put_cases lo hi e es (bears_at lo hi e.at es) (has_entry e es) h l refl refl

-- where an entry that bears has a say
led_parts : (lo hi at : ℤ) (p : Entry) → is_led_to lo hi (Some p) at ≡ true → (p.at ≤ℤ hi) × ((lo <ℤ at) × (p.prorate ≡ true))
led_parts lo hi at p h =
    let outer = both (int_le p.at hi && int_lt lo at) p.prorate h in
    let inner = both (int_le p.at hi) (int_lt lo at) outer.0 in
    (yes_le p.at hi inner.0, (yes_lt lo at inner.1, outer.1))

reach_begins : (lo hi at : ℤ) (next : Option Entry) → reaches lo hi at next ≡ true → at ≤ℤ hi
reach_begins lo hi at next h = yes_le at hi ((both (int_le at hi) (is_next_after lo next) h).0)

say_led : (lo hi at : ℤ) (before next : Option Entry) (e : Entry) → (reaches lo hi at next || is_led_to lo hi before at) ≡ true → before ≡ Some e → e.at <ℤ at → e.at ≤ℤ hi
say_led lo hi at before next e h k l =
    elim (either_one (reaches lo hi at next) (is_led_to lo hi before at) h) [
      | inl t ↦ let own = reach_begins lo hi at next t in omega (arith, ints, own, l)
      | inr t ↦ (led_parts lo hi at e (ap (λ (o : Option Entry). is_led_to lo hi o at) (sym k) ∙ t)).0
    ]

say_alone : (lo hi at : ℤ) (before next : Option Entry) → (reaches lo hi at next || is_led_to lo hi before at) ≡ true → ((e : Entry) → before ≡ Some e → e.prorate ≡ false) → at ≤ℤ hi
say_alone lo hi at None next h k =
    elim (either_one (reaches lo hi at next) false h) [
      | inl t ↦ reach_begins lo hi at next t
      | inr t ↦ absurd (cc)
    ]
say_alone lo hi at (Some p) next h k =
    elim (either_one (reaches lo hi at next) (is_led_to lo hi (Some p) at) h) [
      | inl t ↦ reach_begins lo hi at next t
      | inr t ↦ let f = (led_parts lo hi at p t).1.1 in let g = k p refl in absurd (cc)
    ]

led_after : (lo hi at : ℤ) (before : Option Entry) → is_led_to lo hi before at ≡ true → lo <ℤ at
led_after lo hi at None h = absurd (cc)
led_after lo hi at (Some p) h = (led_parts lo hi at p h).1.0

say_until : (lo hi at : ℤ) (before next : Option Entry) (e : Entry) → (reaches lo hi at next || is_led_to lo hi before at) ≡ true → next ≡ Some e → at <ℤ e.at → lo <ℤ e.at
say_until lo hi at before next e h k l =
    elim (either_one (reaches lo hi at next) (is_led_to lo hi before at) h) [
      | inl t ↦ yes_lt lo e.at ((both (int_le at hi) (int_lt lo e.at) (ap (reaches lo hi at) (sym k) ∙ t)).1)
      | inr t ↦ let own = led_after lo hi at before t in omega (arith, ints, own, l)
    ]

pub says_led : (lo hi at : ℤ) (es : List Entry) (e : Entry) → bears_at lo hi at es ≡ true → last (lists.before instant_of at es) ≡ Some e → e.prorate ≡ true → e.at ≤ℤ hi
says_led lo hi at es e h k p =
    say_led lo hi at (last (front_of at es)) (first (back_of at es)) e h k
    (last-kept (IsBefore instant_of at) (front_of at es) e (before_is_before instant_of at es) k)

pub says_alone : (lo hi at : ℤ) (es : List Entry) → bears_at lo hi at es ≡ true → ((e : Entry) → last (lists.before instant_of at es) ≡ Some e → e.prorate ≡ false) → at ≤ℤ hi
says_alone lo hi at es h k = say_alone lo hi at (last (front_of at es)) (first (back_of at es)) h k

pub says_until : (lo hi at : ℤ) (es : List Entry) (e : Entry) → bears_at lo hi at es ≡ true → first (lists.after instant_of at es) ≡ Some e → lo <ℤ e.at
says_until lo hi at es e h k =
    say_until lo hi at (last (front_of at es)) (first (back_of at es)) e h k
    (first-kept (IsAfter instant_of at) (back_of at es) e (after_is_after instant_of at es) k)
