-- The entries that bear on a span: those before them do not, they all do, and of those after the span at most the first one does.
use Rattle.std.specs.Prelude.{◌≡◌, Bool, true, false, cond, ◌&&◌, List, [], ◌∷◌, ◌++◌, ℤ, ◌<ℤ◌, ◌≤ℤ◌, int_lt, int_le, take, All, ◌⊎◌, Option, Some}
use Rattle.std.proofs.Common.{arith, refl, ap, sym, ◌∙◌, subst, inl, inr}
use Rattle.std.proofs.lemmas.Int.{ints}
use Rattle.std.proofs.lemmas.List.{append-nil}
use Rattle.std.proofs.lemmas.List.Elements.{All-head, All-tail, All-nil, All-weaker, All-take, filter-append}
use Rattle.rising.specs.Lists.{up_to, after}
use Rattle.rising.specs.Ends.{first, last}
use Rattle.curves.specs.Entries.{instant_of, amount_in_force, series_value}
use Rattle.curves.specs.Bearing.{is_next_after, bears, bearing_led, bearing}
use Rattle.curves.specs.declared.entries.Entry.{Entry}
use Rattle.rising.proofs.Parting.{IsUpTo, IsAfter, le_yes, le_no, lt_yes, lt_no, none_up_to, all_after, none_after}
use Rattle.rising.proofs.Ends.{last-append, last-cons}

and_false : (b : Bool) → (b && false) ≡ false
and_false true = refl
and_false false = refl

-- entries up to lo, behind which another one stands up to lo
early_step : (lo hi : ℤ) (x y : Entry) (ys : List Entry) → y.at ≤ℤ lo → bearing lo hi (x ∷ y ∷ ys) ≡ bearing lo hi (y ∷ ys)
early_step lo hi x y ys h =
    let e : int_lt lo y.at ≡ false = lt_no lo y.at h in
    let f : bears lo hi x (Some y) ≡ false = ap (λ b. int_le x.at hi && b) e ∙ and_false (int_le x.at hi) in
    rw f refl

pub early : (lo hi : ℤ) (xs : List Entry) (z : Entry) (zs : List Entry) → All (IsUpTo instant_of lo) xs → z.at ≤ℤ lo
    → bearing lo hi (xs ++ z ∷ zs) ≡ bearing lo hi (z ∷ zs)
early lo hi [] z zs h k = refl
early lo hi (x ∷ []) z zs h k = early_step lo hi x z zs k
early lo hi (x ∷ y ∷ ys) z zs h k =
    let rest = All-tail (IsUpTo instant_of lo) x (y ∷ ys) h in
    early_step lo hi x y (ys ++ z ∷ zs) (All-head (IsUpTo instant_of lo) y ys rest) ∙ early lo hi (y ∷ ys) z zs rest k

-- entries up to hi, behind which none stands up to lo; the last one may lead
next_after : (lo : ℤ) (es : List Entry) → All (IsAfter instant_of lo) es → is_next_after lo (first es) ≡ true
next_after lo [] h = refl
next_after lo (e ∷ es) h = lt_yes lo e.at (All-head (IsAfter instant_of lo) e es h)

abbrev pub last_prorates : Entry → List Entry → Bool
last_prorates m [] = m.prorate
last_prorates m (n ∷ ns) = last_prorates n ns

does_bear : (lo hi : ℤ) (m : Entry) (es : List Entry) → m.at ≤ℤ hi → All (IsAfter instant_of lo) es → bears lo hi m (first es) ≡ true
does_bear lo hi m es h k = let e = le_yes m.at hi h in let f = next_after lo es k in rw (e, f) refl

pub due : (lo hi : ℤ) (led : Bool) (m : Entry) (ms ys : List Entry) → All (IsUpTo instant_of hi) (m ∷ ms) → All (IsAfter instant_of lo) (ms ++ ys)
    → bearing_led lo hi led ((m ∷ ms) ++ ys) ≡ (m ∷ ms) ++ bearing_led lo hi (last_prorates m ms) ys
due lo hi led m [] ys h k =
    let e = does_bear lo hi m ys (All-head (IsUpTo instant_of hi) m [] h) k in
    rw e refl
due lo hi led m (n ∷ ns) ys h k =
    let e = does_bear lo hi m ((n ∷ ns) ++ ys) (All-head (IsUpTo instant_of hi) m (n ∷ ns) h) k in
    let f = due lo hi m.prorate n ns ys (All-tail (IsUpTo instant_of hi) m (n ∷ ns) h) (All-tail (IsAfter instant_of lo) n (ns ++ ys) k) in
    rw (e, f) refl

-- entries after hi
not_bear : (lo hi : ℤ) (e : Entry) (next : Option Entry) → hi <ℤ e.at → bears lo hi e next ≡ false
not_bear lo hi e next h = let f = le_no e.at hi h in rw f refl

pub late_none : (lo hi : ℤ) (ys : List Entry) → All (IsAfter instant_of hi) ys → bearing lo hi ys ≡ []
late_none lo hi [] h = refl
late_none lo hi (y ∷ ys) h =
    let e = not_bear lo hi y (first ys) (All-head (IsAfter instant_of hi) y ys h) in
    let f = late_none lo hi ys (All-tail (IsAfter instant_of hi) y ys h) in
    rw (e, f) refl

pub late : (lo hi : ℤ) (led : Bool) (ys : List Entry) → All (IsAfter instant_of hi) ys → bearing_led lo hi led ys ≡ cond led (take 1 ys) []
late lo hi false ys h = late_none lo hi ys h
late lo hi true [] h = refl
late lo hi true (y ∷ ys) h =
    let e = not_bear lo hi y (first ys) (All-head (IsAfter instant_of hi) y ys h) in
    let f = late_none lo hi ys (All-tail (IsAfter instant_of hi) y ys h) in
    rw (e, f) refl

-- a series as the entries that are over before the span, those that bear by themselves, and those after it
pub record IsCut (lo hi : ℤ) (es xs : List Entry) (m : Entry) (ms ys : List Entry) : Type 0 where
  pub whole : es ≡ xs ++ ((m ∷ ms) ++ ys)
  pub over : All (IsUpTo instant_of lo) xs
  pub lead : (xs ≡ []) ⊎ (m.at ≤ℤ lo)
  pub due : All (IsUpTo instant_of hi) (m ∷ ms)
  pub next : All (IsAfter instant_of lo) (ms ++ ys)
  pub late : All (IsAfter instant_of hi) ys

led_in : (lo hi : ℤ) (xs : List Entry) (m : Entry) (es : List Entry) → All (IsUpTo instant_of lo) xs → (xs ≡ []) ⊎ (m.at ≤ℤ lo)
    → bearing lo hi (xs ++ m ∷ es) ≡ bearing lo hi (m ∷ es)
led_in lo hi xs m es h (inl e) = rw e refl
led_in lo hi xs m es h (inr k) = early lo hi xs m es h k

pub bearing_cut : (lo hi : ℤ) (es xs : List Entry) (m : Entry) (ms ys : List Entry) → IsCut lo hi es xs m ms ys
    → bearing lo hi es ≡ (m ∷ ms) ++ cond (last_prorates m ms) (take 1 ys) []
bearing_cut lo hi es xs m ms ys c =
    ap (bearing lo hi) c.whole
    ∙ (led_in lo hi xs m (ms ++ ys) c.over c.lead
    ∙ (due lo hi false m ms ys c.due c.next
    ∙ ap (λ l. (m ∷ ms) ++ l) (late lo hi (last_prorates m ms) ys c.late)))

-- the last entry up to an instant of the span is one that bears by itself
last_due : (at : ℤ) (xs : List Entry) (m : Entry) (ms : List Entry) → (xs ≡ []) ⊎ (m.at ≤ℤ at)
    → last (up_to instant_of at (xs ++ m ∷ ms)) ≡ last (up_to instant_of at (m ∷ ms))
last_due at xs m ms (inl e) = rw e refl
last_due at xs m ms (inr k) =
    let e = le_yes m.at at k in
    let f = filter-append (λ (x : Entry). int_le x.at at) xs (m ∷ ms) in
    let g : up_to instant_of at (m ∷ ms) ≡ m ∷ up_to instant_of at ms = rw e refl in
    rw (f, g) (last-append (up_to instant_of at xs) m (up_to instant_of at ms))

lead_to : (lo at : ℤ) (xs : List Entry) (m : Entry) → lo ≤ℤ at → (xs ≡ []) ⊎ (m.at ≤ℤ lo) → (xs ≡ []) ⊎ (m.at ≤ℤ at)
lead_to lo at xs m h (inl e) = inl e
lead_to lo at xs m h (inr k) = inr (omega (arith, ints, h, k))

-- entries behind the span do not govern in it
up_to_front : (at : ℤ) (es ys : List Entry) → All (IsAfter instant_of at) ys → up_to instant_of at (es ++ ys) ≡ up_to instant_of at es
up_to_front at es ys h =
    let e = filter-append (λ (x : Entry). int_le x.at at) es ys in
    let f = none_up_to instant_of at ys h in
    rw (e, f) (append-nil (up_to instant_of at es))

after_back : (at : ℤ) (xs es : List Entry) → All (IsUpTo instant_of at) xs → after instant_of at (xs ++ es) ≡ after instant_of at es
after_back at xs es h =
    let e = filter-append (λ (x : Entry). int_lt at x.at) xs es in
    let f = none_after instant_of at xs h in
    rw (e, f) refl

after_both : (at : ℤ) (es ys : List Entry) → All (IsAfter instant_of at) ys → after instant_of at (es ++ ys) ≡ after instant_of at es ++ ys
after_both at es ys h =
    let e = filter-append (λ (x : Entry). int_lt at x.at) es ys in
    let f = all_after instant_of at ys h in
    rw (e, f) refl

-- where it does not prorate no next one counts, and where it does the first one after the span bears too
next_same : (at stage : ℤ) (e : Entry) (b : Bool) (ys : List Entry) → e.prorate ≡ b
    → amount_in_force (Some e) (first (cond b (take 1 ys) [])) at stage ≡ amount_in_force (Some e) (first ys) at stage
next_same at stage e true [] h = refl
next_same at stage e true (y ∷ ys) h = refl
next_same at stage e false [] h = refl
next_same at stage e false (y ∷ ys) h = rw h refl

last_there : (m : Entry) (ms : List Entry) (P : Option Entry → Type 0) → ((e : Entry) → e.prorate ≡ last_prorates m ms → P (Some e)) → P (last (m ∷ ms))
last_there m [] P h = h m refl
last_there m (n ∷ ns) P h = subst P (sym (last-cons m n ns)) (last_there n ns P h)

-- where none stands after an instant, all stand up to it
left_step : (at : ℤ) (e : Entry) (es : List Entry) (b : Bool) → int_lt at e.at ≡ b → cond b (e ∷ after instant_of at es) (after instant_of at es) ≡ []
    → (after instant_of at es ≡ [] → up_to instant_of at es ≡ es) → up_to instant_of at (e ∷ es) ≡ e ∷ es
left_step at e es true h k f = absurd (cc)
left_step at e es false h k f =
    let g : int_le e.at at ≡ true = grind (arith, ints, h) in
    let i = f k in
    rw (g, i) refl

none_left : (at : ℤ) (es : List Entry) → after instant_of at es ≡ [] → up_to instant_of at es ≡ es
none_left at [] h = refl
none_left at (e ∷ es) h = left_step at e es (int_lt at e.at) refl h (none_left at es)

both_same : (at stage : ℤ) (m : Entry) (ms ys rest : List Entry) → rest ≡ after instant_of at (m ∷ ms)
    → amount_in_force (last (up_to instant_of at (m ∷ ms))) (first (rest ++ cond (last_prorates m ms) (take 1 ys) [])) at stage
    ≡ amount_in_force (last (up_to instant_of at (m ∷ ms))) (first (rest ++ ys)) at stage
both_same at stage m ms ys (r ∷ rs) e = refl
both_same at stage m ms ys [] e =
    let f = none_left at (m ∷ ms) (sym e) in
    rw f (last_there m ms (λ o. amount_in_force o (first (cond (last_prorates m ms) (take 1 ys) [])) at stage ≡ amount_in_force o (first ys) at stage)
    (λ l k. next_same at stage l (last_prorates m ms) ys k))

-- a list that is short of what comes after the span
taken_later : (hi at : ℤ) (b : Bool) (ys : List Entry) → at ≤ℤ hi → All (IsAfter instant_of hi) ys → All (IsAfter instant_of at) (cond b (take 1 ys) [])
taken_later hi at true ys h k =
    All-take (IsAfter instant_of at) 1 ys (All-weaker (IsAfter instant_of hi) (IsAfter instant_of at) (λ y l. omega (arith, ints, h, l)) ys k)
taken_later hi at false ys h k = All-nil (IsAfter instant_of at)

-- the bearing entries have the series value of the whole series
value_of_parts : (at stage : ℤ) (m : Entry) (ms ys : List Entry) → All (IsAfter instant_of at) ys
    → series_value ((m ∷ ms) ++ ys) at stage
    ≡ amount_in_force (last (up_to instant_of at (m ∷ ms))) (first (after instant_of at (m ∷ ms) ++ ys)) at stage
value_of_parts at stage m ms ys h =
    let e = up_to_front at (m ∷ ms) ys h in
    let f = after_both at (m ∷ ms) ys h in
    rw (e, f) refl

value_skips : (lo at stage : ℤ) (xs : List Entry) (m : Entry) (es : List Entry) → lo ≤ℤ at → All (IsUpTo instant_of lo) xs → (xs ≡ []) ⊎ (m.at ≤ℤ lo)
    → series_value (xs ++ m ∷ es) at stage ≡ series_value (m ∷ es) at stage
value_skips lo at stage xs m es h over lead =
    let e = last_due at xs m es (lead_to lo at xs m h lead) in
    let f = after_back at xs (m ∷ es) (All-weaker (IsUpTo instant_of lo) (IsUpTo instant_of at) (λ x l. omega (arith, ints, h, l)) xs over) in
    rw (e, f) refl

pub suffices_cut : (lo hi at stage : ℤ) (es xs : List Entry) (m : Entry) (ms ys : List Entry) → IsCut lo hi es xs m ms ys → lo ≤ℤ at → at ≤ℤ hi
    → series_value (bearing lo hi es) at stage ≡ series_value es at stage
suffices_cut lo hi at stage es xs m ms ys c from until =
    let later : All (IsAfter instant_of at) ys = All-weaker (IsAfter instant_of hi) (IsAfter instant_of at) (λ y l. omega (arith, ints, until, l)) ys c.late in
    let taken = taken_later hi at (last_prorates m ms) ys until c.late in
    ap (λ l. series_value l at stage) (bearing_cut lo hi es xs m ms ys c)
    ∙ (value_of_parts at stage m ms (cond (last_prorates m ms) (take 1 ys) []) taken
    ∙ (both_same at stage m ms ys (after instant_of at (m ∷ ms)) refl
    ∙ (sym (value_of_parts at stage m ms ys later)
    ∙ (sym (value_skips lo at stage xs m (ms ++ ys) from c.over c.lead)
    ∙ ap (λ l. series_value l at stage) (sym c.whole)))))
