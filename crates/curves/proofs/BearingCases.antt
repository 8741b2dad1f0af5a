-- Which entries bear on a span, by the cases of the rule.
use Rattle.std.specs.Prelude.{◌≡◌, ◌≢◌, Bool, true, false, cond, ◌&&◌, ◌||◌, List, [], ◌∷◌, ◌++◌, ℤ, ◌<ℤ◌, int_lt, int_le, Option, Some, None, All, Contains, ◌⊎◌, ◌↔◌}
use Rattle.std.proofs.Common.{arith, refl, ap, sym, ◌∙◌, subst, inl, inr}
use Rattle.std.proofs.lemmas.Int.{ints}
use Rattle.std.proofs.lemmas.List.Elements.{All-head, All-tail, All-cons, All-nil, All-append, All-weaker, All-contains, All-contains_itself, Contains-append_left, Contains-append_right, Contains-append_cases}
use Rattle.rising.specs.Ends.{first, last}
use Rattle.curves.specs.Entries.{IsRising, instant_of}
use Rattle.curves.specs.Bearing.{bears, leads, bearing_led, bearing, Reaches, IsLed, IsBearing}
use Rattle.curves.specs.declared.entries.Entry.{Entry}
use Rattle.rising.proofs.Selecting.{All-back}
use Rattle.rising.proofs.Parting.{le_yes, lt_yes, yes_le, yes_lt}
use Rattle.rising.proofs.Splitting.{rest_rises, rest_is_later}
use Rattle.rising.proofs.Ends.{last-cons}

pub both : (a b : Bool) → (a && b) ≡ true → (a ≡ true) × (b ≡ true)
both true b h = (refl, h)
both false b h = absurd (cc)

pub either_one : (a b : Bool) → (a || b) ≡ true → (a ≡ true) ⊎ (b ≡ true)
either_one true b h = inl refl
either_one false b h = inr h

first_one : (a b : Bool) → a ≡ true → (a || b) ≡ true
first_one true b h = refl
first_one false b h = absurd (cc)

second_one : (a b : Bool) → b ≡ true → (a || b) ≡ true
second_one true b h = refl
second_one false b h = h

-- the test of an entry tells whether it reaches the span
reaches : (lo hi : ℤ) (e : Entry) (next : Option Entry) → bears lo hi e next ≡ true → Reaches lo hi e next
reaches lo hi e None h = record { begins = yes_le e.at hi ((both (int_le e.at hi) true h).0); lasts = λ n k. absurd (cc) }
reaches lo hi e (Some m) h =
    let t = both (int_le e.at hi) (int_lt lo m.at) h in
    record {
      begins = yes_le e.at hi t.0;
      lasts = λ n k. let f : m ≡ n = cc in subst (λ (x : Entry). lo <ℤ x.at) f (yes_lt lo m.at t.1);
    }

does_reach : (lo hi : ℤ) (e : Entry) (next : Option Entry) → Reaches lo hi e next → bears lo hi e next ≡ true
does_reach lo hi e None r = let f = le_yes e.at hi r.begins in rw f refl
does_reach lo hi e (Some m) r = let f = le_yes e.at hi r.begins in let g = lt_yes lo m.at (r.lasts m refl) in rw (f, g) refl

-- whether an entry is led to, by the one before it or else by what was told
abbrev pub led_of : ℤ → ℤ → Bool → Option Entry → Entry → Bool
led_of lo hi led None e = led
led_of lo hi led (Some p) e = leads lo hi p (Some e)

is_led : (lo hi : ℤ) (before : Option Entry) (e : Entry) → led_of lo hi false before e ≡ true → IsLed lo hi before e
is_led lo hi None e h = absurd (cc)
is_led lo hi (Some p) e h =
    let t = both (bears lo hi p (Some e)) p.prorate h in
    record { lead = p; is = refl; prorates = t.1; reaches = reaches lo hi p (Some e) t.0 }

does_lead : (lo hi : ℤ) (before : Option Entry) (e : Entry) → IsLed lo hi before e → led_of lo hi false before e ≡ true
does_lead lo hi before e l =
    let f = does_reach lo hi l.lead (Some e) l.reaches in
    let g : leads lo hi l.lead (Some e) ≡ true = ap (λ b. b && l.lead.prorate) f ∙ l.prorates in
    ap (λ (o : Option Entry). led_of lo hi false o e) l.is ∙ g

pub same_led : (lo hi : ℤ) (a b : Bool) (y : Entry) (ys : List Entry) (e : Entry) → led_of lo hi a (last (y ∷ ys)) e ≡ led_of lo hi b (last (y ∷ ys)) e
same_led lo hi a b y [] e = refl
same_led lo hi a b y (z ∷ zs) e =
    ap (λ (o : Option Entry). led_of lo hi a o e) (last-cons y z zs) ∙ same_led lo hi a b z zs e
    ∙ sym (ap (λ (o : Option Entry). led_of lo hi b o e) (last-cons y z zs))

-- what holds of each entry holds of each that bears
one_kept : (P : Entry → Type 0) (b : Bool) (x : Entry) → P x → All P (cond b (x ∷ []) [])
one_kept P true x h = All-cons P x [] h (All-nil P)
one_kept P false x h = All-nil P

pub bearing_kept : (P : Entry → Type 0) (lo hi : ℤ) (led : Bool) (es : List Entry) → All P es → All P (bearing_led lo hi led es)
bearing_kept P lo hi led [] h = All-nil P
bearing_kept P lo hi led (x ∷ xs) h =
    All-append P (cond (bears lo hi x (first xs) || led) (x ∷ []) []) (bearing_led lo hi (leads lo hi x (first xs)) xs)
    (one_kept P (bears lo hi x (first xs) || led) x (All-head P x xs h))
    (bearing_kept P lo hi (leads lo hi x (first xs)) xs (All-tail P x xs h))

-- an entry at the front of a list is there where its test says so, and one behind it where it is there without it
told_in : (b : Bool) (e : Entry) (rest : List Entry) → All (λ y. y ≢ e) rest → Contains (cond b (e ∷ []) [] ++ rest) e → b ≡ true
told_in true e rest h k = refl
told_in false e rest h k = absurd (All-contains (λ y. y ≢ e) rest e h k refl)

in_told : (b : Bool) (e : Entry) (rest : List Entry) → b ≡ true → Contains (cond b (e ∷ []) [] ++ rest) e
in_told true e rest h = Contains-append_left (e ∷ []) rest e (All-head (Contains (e ∷ [])) e [] (All-contains_itself (e ∷ [])))
in_told false e rest h = absurd (cc)

passed : (b : Bool) (x e : Entry) (rest : List Entry) → x ≢ e → Contains (cond b (x ∷ []) [] ++ rest) e → Contains rest e
passed true x e rest ne k =
    elim (Contains-append_cases (x ∷ []) rest e k) [
      | inl c ↦ absurd (All-contains (λ y. y ≢ e) (x ∷ []) e (All-cons (λ y. y ≢ e) x [] ne (All-nil (λ y. y ≢ e))) c refl)
      | inr c ↦ c
    ]
passed false x e rest ne k = k

behind_others : (e : Entry) (back : List Entry) → IsRising (e ∷ back) → All (λ y. y ≢ e) back
behind_others e back h =
    All-weaker (λ (y : Entry). e.at <ℤ y.at) (λ y. y ≢ e) (λ y l k. let f : y.at ≡ e.at = ap (λ (z : Entry). z.at) k in absurd (omega (arith, ints, l, f))) back
    (rest_is_later instant_of e back h)

other_front : (x e : Entry) (fs back : List Entry) → IsRising (x ∷ fs ++ e ∷ back) → x ≢ e
other_front x e fs back h k =
    let l : x.at <ℤ e.at =
    All-head (λ (y : Entry). x.at <ℤ y.at) e back (All-back (λ (y : Entry). x.at <ℤ y.at) fs (e ∷ back) (rest_is_later instant_of x (fs ++ e ∷ back) h)) in
    let f : x.at ≡ e.at = ap (λ (z : Entry). z.at) k in
    absurd (omega (arith, ints, l, f))

-- an entry is among those that bear where its own test or that of the one before it says so
pub by_tests : (lo hi : ℤ) (led : Bool) (front back : List Entry) (e : Entry) → IsRising (front ++ e ∷ back)
    → Contains (bearing_led lo hi led (front ++ e ∷ back)) e ↔ ((bears lo hi e (first back) || led_of lo hi led (last front) e) ≡ true)
by_tests lo hi led [] back e h =
    let rest = bearing_led lo hi (leads lo hi e (first back)) back in (
      told_in (bears lo hi e (first back) || led) e rest (bearing_kept (λ y. y ≢ e) lo hi (leads lo hi e (first back)) back (behind_others e back h)),
      in_told (bears lo hi e (first back) || led) e rest,
    )
by_tests lo hi led (x ∷ []) back e h =
    let r = by_tests lo hi (leads lo hi x (Some e)) [] back e (rest_rises instant_of x (e ∷ back) h) in
    let rest = bearing_led lo hi (leads lo hi x (Some e)) (e ∷ back) in (
      λ k. r.0 (passed (bears lo hi x (Some e) || led) x e rest (other_front x e [] back h) k),
      λ k. Contains-append_right (cond (bears lo hi x (Some e) || led) (x ∷ []) []) rest e (r.1 k),
    )
by_tests lo hi led (x ∷ y ∷ ys) back e h =
    let r = by_tests lo hi (leads lo hi x (Some y)) (y ∷ ys) back e (rest_rises instant_of x (y ∷ ys ++ e ∷ back) h) in
    let rest = bearing_led lo hi (leads lo hi x (Some y)) (y ∷ ys ++ e ∷ back) in
    let same : (bears lo hi e (first back) || led_of lo hi (leads lo hi x (Some y)) (last (y ∷ ys)) e) ≡ (bears lo hi e (first back) || led_of lo hi led (last (x ∷ y ∷ ys)) e) =
    ap (λ b. bears lo hi e (first back) || b)
    (same_led lo hi (leads lo hi x (Some y)) led y ys e ∙ ap (λ (o : Option Entry). led_of lo hi led o e) (sym (last-cons x y ys))) in (
      λ k. sym same ∙ r.0 (passed (bears lo hi x (Some y) || led) x e rest (other_front x e (y ∷ ys) back h) k),
      λ k. Contains-append_right (cond (bears lo hi x (Some y) || led) (x ∷ []) []) rest e (r.1 (same ∙ k)),
    )

pub by_cases : (lo hi : ℤ) (front back : List Entry) (e : Entry) → IsRising (front ++ e ∷ back)
    → Contains (bearing lo hi (front ++ e ∷ back)) e ↔ IsBearing lo hi (last front) e (first back)
by_cases lo hi front back e h =
    let own = bears lo hi e (first back) in
    let led = led_of lo hi false (last front) e in
    let t = by_tests lo hi false front back e h in (
      λ k. elim (either_one own led (t.0 k)) [
        | inl m ↦ inl (reaches lo hi e (first back) m)
        | inr m ↦ inr (is_led lo hi (last front) e m)
      ],
      λ k. elim k [
        | inl m ↦ t.1 (first_one own led (does_reach lo hi e (first back) m))
        | inr m ↦ t.1 (second_one own led (does_lead lo hi (last front) e m))
      ],
    )
