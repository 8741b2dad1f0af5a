-- The places of the bearing entries, by how many entries stand up to either end of the span.
use Rattle.std.specs.Prelude.{◌≡◌, Bool, true, false, cond, List, [], ◌∷◌, ◌++◌, ℕ, zero, suc, ◌+◌, ◌-◌, ◌<◌, ◌≤◌, ℤ, pos, ◌<ℤ◌, ◌≤ℤ◌, take, drop, length, slice_range, All, ◌⊎◌}
use Rattle.std.proofs.Common.{arith, refl, ap, sym, ◌∙◌, get_or, get_or-take, subst, inl, inr, drop-cons}
use Rattle.std.proofs.Math.Seq.{take-append-add}
use Rattle.std.proofs.lemmas.Int.{ints, by_lt_z}
use Rattle.std.proofs.lemmas.List.{take-append-drop, drop-take, drop-drop, get_or-drop, length-take-le, length-drop, append-nil, drop_all}
use Rattle.std.proofs.lemmas.List.Elements.{All-drop, All-cons, All-nil, All-weaker}
use Rattle.rising.specs.Lists.{up_to, after}
use Rattle.curves.specs.Entries.{IsRising, instant_of, series_value}
use Rattle.curves.specs.Bearing.{bearing, IsRun}
use Rattle.curves.specs.declared.entries.Entry.{Entry}
use Rattle.rising.proofs.Selecting.{AllPairs-head, AllPairs-tail, AllPairs-front, AllPairs-back}
use Rattle.rising.proofs.Parting.{IsUpTo, IsAfter, up_to_is_up_to, after_is_after, none_up_to}
use Rattle.curves.proofs.BearingLemmas.{IsCut, bearing_cut, early, late_none, last_prorates, suffices_cut}

-- so many entries stand up to an instant
pub record IsCount (at : ℤ) (es : List Entry) (n : ℕ) : Type 0 where
  pub within : n ≤ length es
  pub front : All (IsUpTo instant_of at) (take n es)
  pub back : All (IsAfter instant_of at) (drop n es)

pub count : (at : ℤ) (es : List Entry) (n : ℕ) → n ≤ length es → take n es ≡ up_to instant_of at es → drop n es ≡ after instant_of at es → IsCount at es n
count at es n within front back = record {
  within = within;
  front = subst (λ (l : List Entry). All (IsUpTo instant_of at) l) (sym front) (up_to_is_up_to instant_of at es);
  back = subst (λ (l : List Entry). All (IsAfter instant_of at) l) (sym back) (after_is_after instant_of at es);
}

-- the entry in a place before the count
at_most : (at : ℤ) (es : List Entry) (n i : ℕ) (d : Entry) → IsCount at es n → i < n → (get_or es i d).at ≤ℤ at
at_most at es n i d c h =
    let e : get_or (take n es) i d ≡ get_or es i d = get_or-take n es i d h in
    let l : i < length (take n es) = omega (arith, length-take-le n es c.within, h) in
    subst (λ (x : Entry). x.at ≤ℤ at) e (c.front i d l)

-- fewer entries than stand up to the instant stand there too, and those from a later place on after it
fewer : (at : ℤ) (es : List Entry) (n i : ℕ) → IsCount at es n → i ≤ n → All (IsUpTo instant_of at) (take i es)
fewer at es n i c h = λ k d l.
    let e : get_or (take i es) k d ≡ get_or es k d = get_or-take i es k d (omega (arith, l, length-take-le i es (omega (arith, c.within, h)))) in
    subst (λ (x : Entry). x.at ≤ℤ at) (sym e) (at_most at es n k d c (omega (arith, l, h, length-take-le i es (omega (arith, c.within, h)))))

more : (at : ℤ) (es : List Entry) (n i : ℕ) → IsCount at es n → n ≤ i → All (IsAfter instant_of at) (drop i es)
more at es n i c h =
    let n_i : n + (i - n) ≡ i = omega (arith, h) in
    subst (λ (l : List Entry). All (IsAfter instant_of at) l) (drop-drop (i - n) n es ∙ ap (λ j. drop j es) n_i) (All-drop (IsAfter instant_of at) (i - n) (drop n es) c.back)

-- a part of a list as its first element and the others
range_parts : (es : List Entry) (s d : ℕ) (z : Entry) → s < d → d ≤ length es
    → slice_range es s d ≡ get_or es s z ∷ slice_range es (suc s) d
range_parts es s d z h l =
    let e : d - s ≡ suc (d - suc s) = omega (arith, h) in
    let f : drop s es ≡ get_or es s z ∷ drop (suc s) es = drop-cons es s z (omega (arith, h, l)) in
    rw (e, f) refl

range_rest : (es : List Entry) (s d : ℕ) → s ≤ d → slice_range es s d ++ drop d es ≡ drop s es
range_rest es s d h =
    let e : s + (d - s) ≡ d = omega (arith, h) in
    ap (λ l. slice_range es s d ++ l) (ap (λ j. drop j es) (sym e) ∙ sym (drop-drop (d - s) s es)) ∙ take-append-drop (d - s) (drop s es)

range_due : (at : ℤ) (es : List Entry) (s d : ℕ) → IsCount at es d → s ≤ d → All (IsUpTo instant_of at) (slice_range es s d)
range_due at es s d c h =
    let e : s + (d - s) ≡ d = omega (arith, h) in
    let f : drop s (take d es) ≡ slice_range es s d = rw e at (drop-take s (d - s) es) in
    subst (λ (l : List Entry). All (IsUpTo instant_of at) l) f (All-drop (IsUpTo instant_of at) s (take d es) c.front)

-- the places cut the series
lead_at : (lo : ℤ) (es : List Entry) (c s : ℕ) (z : Entry) → IsCount lo es c → s ≤ c - 1 → (take s es ≡ []) ⊎ ((get_or es s z).at ≤ℤ lo)
lead_at lo es c zero z k h = inl refl
lead_at lo es c (suc s) z k h = inr (at_most lo es c (suc s) z k (omega (arith, h)))

pub cut : (lo hi : ℤ) (es : List Entry) (c d s : ℕ) (z : Entry) → IsCount lo es c → IsCount hi es d → s < d → s ≤ c - 1 → c - 1 ≤ s
    → IsCut lo hi es (take s es) (get_or es s z) (slice_range es (suc s) d) (drop d es)
cut lo hi es c d s z k l h m n = record {
  whole =
      let e = range_parts es s d z h l.within in
      let f : slice_range es s d ++ drop d es ≡ drop s es = range_rest es s d (omega (arith, h)) in
      sym (ap (λ x. take s es ++ (x ++ drop d es)) (sym e) ∙ (ap (λ x. take s es ++ x) f ∙ take-append-drop s es));
  over = fewer lo es c s k (omega (arith, m));
  lead = lead_at lo es c s z k m;
  due = subst (λ (x : List Entry). All (IsUpTo instant_of hi) x) (range_parts es s d z h l.within) (range_due hi es s d l (omega (arith, h)));
  next =
      let f : slice_range es (suc s) d ++ drop d es ≡ drop (suc s) es = range_rest es (suc s) d (omega (arith, h)) in
      subst (λ (x : List Entry). All (IsAfter instant_of lo) x) (sym f) (more lo es c (suc s) k (omega (arith, n)));
  late = l.back;
}

-- whether the last of a part prorates
last_at : (m : Entry) (ms : List Entry) (z : Entry) → last_prorates m ms ≡ (get_or (m ∷ ms) (length ms) z).prorate
last_at m [] z = refl
last_at m (n ∷ ns) z = last_at n ns z

range_last : (es : List Entry) (s d : ℕ) (z : Entry) → s < d → d ≤ length es
    → last_prorates (get_or es s z) (slice_range es (suc s) d) ≡ (get_or es (d - 1) z).prorate
range_last es s d z h l =
    let n : length (slice_range es (suc s) d) ≡ d - suc s = length-take-le (d - suc s) (drop (suc s) es) (omega (arith, length-drop (suc s) es, h, l)) in
    let e : get_or es s z ∷ slice_range es (suc s) d ≡ slice_range es s d = sym (range_parts es s d z h l) in
    let f : get_or (slice_range es s d) (d - suc s) z ≡ get_or (drop s es) (d - suc s) z = get_or-take (d - s) (drop s es) (d - suc s) z (omega (arith, h)) in
    let g : get_or (drop s es) (d - suc s) z ≡ get_or es (s + (d - suc s)) z = get_or-drop s es (d - suc s) z in
    let i : s + (d - suc s) ≡ d - 1 = omega (arith, h) in
    last_at (get_or es s z) (slice_range es (suc s) d) z
    ∙ ap (λ (x : Entry). x.prorate) (ap (λ j. get_or (get_or es s z ∷ slice_range es (suc s) d) j z) n ∙ (ap (λ x. get_or x (d - suc s) z) e ∙ (f ∙ (g ∙ ap (λ j. get_or es j z) i))))

-- the bearing entries by their places
pub bearing_places : (lo hi : ℤ) (es : List Entry) (c d s : ℕ) (z : Entry) → IsCount lo es c → IsCount hi es d → s < d → s ≤ c - 1 → c - 1 ≤ s
    → bearing lo hi es ≡ slice_range es s d ++ cond (get_or es (d - 1) z).prorate (take 1 (drop d es)) []
bearing_places lo hi es c d s z k l h m n =
    bearing_cut lo hi es (take s es) (get_or es s z) (slice_range es (suc s) d) (drop d es) (cut lo hi es c d s z k l h m n)
    ∙ (ap (λ x. x ++ cond (last_prorates (get_or es s z) (slice_range es (suc s) d)) (take 1 (drop d es)) []) (sym (range_parts es s d z h l.within))
    ∙ ap (λ b. slice_range es s d ++ cond b (take 1 (drop d es)) []) (range_last es s d z h l.within))

-- where no entry bears by itself none bears
none_from : (lo hi : ℤ) (xs ys : List Entry) → All (IsUpTo instant_of lo) xs → All (IsAfter instant_of hi) ys
    → ((xs ≡ []) ⊎ ((z : Entry) × (zs : List Entry) × (ys ≡ z ∷ zs) × (z.at ≤ℤ lo))) → bearing lo hi (xs ++ ys) ≡ []
none_from lo hi xs ys h k (inl e) = rw e (late_none lo hi ys k)
none_from lo hi xs ys h k (inr p) =
    let e = p.2 in
    ap (λ l. bearing lo hi (xs ++ l)) e ∙ (early lo hi xs p.0 p.1 h p.3 ∙ (ap (bearing lo hi) (sym e) ∙ late_none lo hi ys k))

split_at : (lo : ℤ) (es : List Entry) (c d : ℕ) → IsCount lo es c → d ≤ c - 1
    → (take d es ≡ []) ⊎ ((z : Entry) × (zs : List Entry) × (drop d es ≡ z ∷ zs) × (z.at ≤ℤ lo))
split_at lo es c zero k h = inl refl
split_at lo [] c (suc d) k h = inl refl
split_at lo (e ∷ es) c (suc d) k h =
    inr (get_or (e ∷ es) (suc d) e, drop (suc (suc d)) (e ∷ es), drop-cons (e ∷ es) (suc d) e (omega (arith, h, k.within)), at_most lo (e ∷ es) c (suc d) e k (omega (arith, h)))

pub bearing_none : (lo hi : ℤ) (es : List Entry) (c d : ℕ) → IsCount lo es c → IsCount hi es d → d ≤ c - 1 → bearing lo hi es ≡ []
bearing_none lo hi es c d k l h =
    ap (bearing lo hi) (sym (take-append-drop d es))
    ∙ none_from lo hi (take d es) (drop d es) (fewer lo es c d k (omega (arith, h))) l.back (split_at lo es c d k h)

-- a part and the next element
pub range_more : (es : List Entry) (s d : ℕ) → s ≤ d → d ≤ length es → slice_range es s (d + 1) ≡ slice_range es s d ++ take 1 (drop d es)
range_more es s d h l =
    let n : length (slice_range es s d) ≡ d - s = length-take-le (d - s) (drop s es) (omega (arith, length-drop s es, h, l)) in
    let e : d + 1 - s ≡ length (slice_range es s d) + 1 = omega (arith, n, h) in
    let f : drop s es ≡ slice_range es s d ++ drop d es = sym (range_rest es s d h) in
    ap (λ j. take j (drop s es)) e ∙ (ap (λ x. take (length (slice_range es s d) + 1) x) f ∙ take-append-add (slice_range es s d) (drop d es) 1)

-- the bearing entries, where the last one that bears by itself leads to another one, and where it does not
pub bearing_led_on : (lo hi : ℤ) (es : List Entry) (c d s : ℕ) (z : Entry) → IsCount lo es c → IsCount hi es d → s < d → s ≤ c - 1 → c - 1 ≤ s
    → (get_or es (d - 1) z).prorate ≡ true → slice_range es s (d + 1) ≡ bearing lo hi es
bearing_led_on lo hi es c d s z k l h m n e =
    range_more es s d (omega (arith, h)) l.within
    ∙ sym (bearing_places lo hi es c d s z k l h m n ∙ ap (λ b. slice_range es s d ++ cond b (take 1 (drop d es)) []) e)

pub bearing_held : (lo hi : ℤ) (es : List Entry) (c d s : ℕ) (z : Entry) → IsCount lo es c → IsCount hi es d → s < d → s ≤ c - 1 → c - 1 ≤ s
    → (get_or es (d - 1) z).prorate ≡ false → slice_range es s d ≡ bearing lo hi es
bearing_held lo hi es c d s z k l h m n e =
    sym (append-nil (slice_range es s d))
    ∙ sym (bearing_places lo hi es c d s z k l h m n ∙ ap (λ b. slice_range es s d ++ cond b (take 1 (drop d es)) []) e)

cond_none : (b : Bool) (ys : List Entry) → ys ≡ [] → cond b (take 1 ys) [] ≡ []
cond_none true ys e = rw e refl
cond_none false ys e = refl

pub bearing_to_end : (lo hi : ℤ) (es : List Entry) (c d s : ℕ) → IsCount lo es c → IsCount hi es d → s < d → s ≤ c - 1 → c - 1 ≤ s
    → length es ≤ d → slice_range es s d ≡ bearing lo hi es
bearing_to_end lo hi [] c d s k l h m n e = absurd (omega (arith, h, l.within))
bearing_to_end lo hi (x ∷ xs) c d s k l h m n e =
    sym (append-nil (slice_range (x ∷ xs) s d))
    ∙ sym (bearing_places lo hi (x ∷ xs) c d s x k l h m n
    ∙ ap (λ y. slice_range (x ∷ xs) s d ++ y) (cond_none (get_or (x ∷ xs) (d - 1) x).prorate (drop d (x ∷ xs)) (drop_all d (x ∷ xs) e)))

pub bearing_empty : (lo hi : ℤ) (es : List Entry) (c d s : ℕ) → IsCount lo es c → IsCount hi es d → d ≤ s → d ≤ c - 1
    → slice_range es s d ≡ bearing lo hi es
bearing_empty lo hi es c d s k l h m =
    let e : d - s ≡ 0 = omega (arith, h) in
    ap (λ j. take j (drop s es)) e ∙ sym (bearing_none lo hi es c d k l m)

-- a rising list has a count
abbrev pub IsCounted : ℤ → List Entry → Type 0
IsCounted at es = (n : ℕ) × IsCount at es n

counted_step : (at : ℤ) (e : Entry) (es : List Entry) → IsRising (e ∷ es) → IsCounted at es → (e.at ≤ℤ at) ⊎ (at <ℤ e.at) → IsCounted at (e ∷ es)
counted_step at e es h p (inl k) = (
  suc p.0,
  record {
    within = omega (arith, p.1.within);
    front = All-cons (IsUpTo instant_of at) e (take p.0 es) k p.1.front;
    back = p.1.back;
  },
)
counted_step at e es h p (inr k) = (
  0,
  record {
    within = omega arith;
    front = All-nil (IsUpTo instant_of at);
    back = All-cons (IsAfter instant_of at) e es k
        (All-weaker (λ f. e.at <ℤ f.at) (IsAfter instant_of at) (λ f l. omega (arith, ints, k, l)) es (AllPairs-head (λ a b. a.at <ℤ b.at) e es h));
  },
)

either_way : (x y : ℤ) → (x ≤ℤ y) ⊎ (y <ℤ x)
either_way x y = by_lt_z y x (λ h. inr h) (λ h. inl h)

pub counted : (at : ℤ) (es : List Entry) → IsRising es → IsCounted at es
counted at [] h = (0, record { within = omega arith; front = All-nil (IsUpTo instant_of at); back = All-nil (IsAfter instant_of at) })
counted at (e ∷ es) h =
    counted_step at e es h (counted at es (AllPairs-tail (λ a b. a.at <ℤ b.at) e es h)) (either_way e.at at)

-- a part of a list is a run of it
run_of : (es run : List Entry) (s d : ℕ) → s ≤ d → slice_range es s d ≡ run → IsRun run es
run_of es run s d h e =
    (take s es, drop d es, sym (ap (λ l. take s es ++ (l ++ drop d es)) (sym e) ∙ (ap (λ l. take s es ++ l) (range_rest es s d h) ∙ take-append-drop s es)))

run_step : (lo hi : ℤ) (es : List Entry) (c d : ℕ) (z : Entry) (b : Bool) → IsCount lo es c → IsCount hi es d → c - 1 < d
    → (get_or es (d - 1) z).prorate ≡ b → IsRun (bearing lo hi es) es
run_step lo hi es c d z true k l h e =
    run_of es (bearing lo hi es) (c - 1) (d + 1) (omega (arith, h)) (bearing_led_on lo hi es c d (c - 1) z k l h (omega arith) (omega arith) e)
run_step lo hi es c d z false k l h e =
    run_of es (bearing lo hi es) (c - 1) d (omega (arith, h)) (bearing_held lo hi es c d (c - 1) z k l h (omega arith) (omega arith) e)

less_or_not : (n m : ℕ) → (n < m) ⊎ (m ≤ n)
less_or_not n m = grind arith

run_cases : (lo hi : ℤ) (es : List Entry) (c d : ℕ) (z : Entry) → IsCount lo es c → IsCount hi es d → (c - 1 < d) ⊎ (d ≤ c - 1)
    → IsRun (bearing lo hi es) es
run_cases lo hi es c d z k l (inl h) = run_step lo hi es c d z (get_or es (d - 1) z).prorate k l h refl
run_cases lo hi es c d z k l (inr h) =
    run_of es (bearing lo hi es) d d (omega arith) (bearing_empty lo hi es c d d k l (omega arith) h)

pub bearing_run : (lo hi : ℤ) (es : List Entry) → IsRising es → IsRun (bearing lo hi es) es
bearing_run lo hi [] h = ([], [], refl)
bearing_run lo hi (e ∷ es) h =
    let k = counted lo (e ∷ es) h in
    let l = counted hi (e ∷ es) h in
    run_cases lo hi (e ∷ es) k.0 l.0 e k.1 l.1 (less_or_not (k.0 - 1) l.0)

run_rises : (run es : List Entry) → IsRising es → IsRun run es → IsRising run
run_rises run es h r =
    AllPairs-front (λ a b. a.at <ℤ b.at) run r.1 (AllPairs-back (λ a b. a.at <ℤ b.at) r.0 (run ++ r.1) (subst IsRising r.2 h))

pub bearing_rises : (lo hi : ℤ) (es : List Entry) → IsRising es → IsRising (bearing lo hi es)
bearing_rises lo hi es h = run_rises (bearing lo hi es) es h (bearing_run lo hi es h)

-- no fewer entries stand up to hi than up to lo
in_order : (lo hi : ℤ) (es : List Entry) (c d : ℕ) (z : Entry) → IsCount lo es c → IsCount hi es d → lo ≤ℤ hi → d < c → ⊥
in_order lo hi es c d z k l h m =
    let one : (get_or es d z).at ≤ℤ lo = at_most lo es c d z k m in
    let n : 0 < length (drop d es) = omega (arith, length-drop d es, m, k.within) in
    let zero_more : d + 0 ≡ d = omega arith in
    let e : get_or (drop d es) 0 z ≡ get_or es d z = get_or-drop d es 0 z ∙ ap (λ j. get_or es j z) zero_more in
    let other : hi <ℤ (get_or es d z).at = subst (λ (x : Entry). hi <ℤ x.at) e (l.back 0 z n) in
    omega (arith, ints, one, other, h)

none_value : (hi at stage : ℤ) (es : List Entry) → at ≤ℤ hi → All (IsAfter instant_of hi) es → pos 0 ≡ series_value es at stage
none_value hi at stage es h k =
    let e = none_up_to instant_of at es (All-weaker (IsAfter instant_of hi) (IsAfter instant_of at) (λ y l. omega (arith, ints, h, l)) es k) in
    rw e refl

suffices_none : (lo hi at stage : ℤ) (es : List Entry) (c d : ℕ) (z : Entry) → IsCount lo es c → IsCount hi es d → lo ≤ℤ hi → at ≤ℤ hi → d ≤ c - 1
    → series_value (bearing lo hi es) at stage ≡ series_value es at stage
suffices_none lo hi at stage es zero d z k l h m n =
    let e : d ≡ 0 = omega (arith, n) in
    let all : All (IsAfter instant_of hi) es = subst (λ (j : ℕ). All (IsAfter instant_of hi) (drop j es)) e l.back in
    ap (λ x. series_value x at stage) (bearing_none lo hi es zero d k l n) ∙ none_value hi at stage es m all
suffices_none lo hi at stage es (suc c) d z k l h m n = absurd (in_order lo hi es (suc c) d z k l h (omega (arith, n)))

suffices_cases : (lo hi at stage : ℤ) (es : List Entry) (c d : ℕ) (z : Entry) → IsCount lo es c → IsCount hi es d → lo ≤ℤ at → at ≤ℤ hi
    → (c - 1 < d) ⊎ (d ≤ c - 1) → series_value (bearing lo hi es) at stage ≡ series_value es at stage
suffices_cases lo hi at stage es c d z k l from until (inl h) =
    suffices_cut lo hi at stage es (take (c - 1) es) (get_or es (c - 1) z) (slice_range es (suc (c - 1)) d) (drop d es)
    (cut lo hi es c d (c - 1) z k l h (omega arith) (omega arith)) from until
suffices_cases lo hi at stage es c d z k l from until (inr h) =
    suffices_none lo hi at stage es c d z k l (omega (arith, ints, from, until)) until h

pub bearing_suffices : (lo hi at stage : ℤ) (es : List Entry) → IsRising es → lo ≤ℤ at → at ≤ℤ hi
    → series_value (bearing lo hi es) at stage ≡ series_value es at stage
bearing_suffices lo hi at stage [] h from until = refl
bearing_suffices lo hi at stage (e ∷ es) h from until =
    let k = counted lo (e ∷ es) h in
    let l = counted hi (e ∷ es) h in
    suffices_cases lo hi at stage (e ∷ es) k.0 l.0 e k.1 l.1 from until (less_or_not (k.0 - 1) l.0)
