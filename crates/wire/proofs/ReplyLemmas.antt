-- The statuses of replies, and a text to which a reply's head is added part by part.
use Rattle.std.proofs.Common.{◌≡◌, ℕ, ◌≤◌, Bool, true, ◌&&◌, List, [], ◌∷◌, ◌++◌, length, take, append_assoc, ap, ◌∙◌, subst, sym, eqb, leb, ltb, refl, arith, ⊎_elim, Result, Ok, Err}
use Rattle.std.specs.Prelude.{OnErr}
use Rattle.std.specs.List.{list_any, list_all}
use Rattle.std.proofs.lemmas.Bool.{false≢true, and_parts, or_cases, eqb-true, leb-true, ltb-true}
use Rattle.std.proofs.lemmas.List.{length-take, take_all, take-append-le, take-take}
use Rattle.http.specs.StatusCode.{IsStatusCode}
use Rattle.wire.specs.ReplyHead.{is_reply_status}

-- ---- statuses

abbrev is_code : ℕ → Bool
is_code n = leb 100 n && ltb n 1000

one_is_code : (status : ℕ) (ns : List ℕ) → list_all is_code ns ≡ true → list_any (λ n. eqb n status) ns ≡ true → IsStatusCode status
one_is_code status [] all any = absurd (false≢true any)
one_is_code status (n ∷ ns) all any =
    let parts = and_parts (is_code n) (list_all is_code ns) all in
    let bounds = and_parts (leb 100 n) (ltb n 1000) parts.0 in
    let code : IsStatusCode n = (leb-true 100 n bounds.0, ltb-true n 1000 bounds.1) in
    ⊎_elim (λ (here : eqb n status ≡ true). subst IsStatusCode (eqb-true n status here) code) (one_is_code status ns parts.1)
    (or_cases (eqb n status) (list_any (λ m. eqb m status) ns) any)

-- the status of a reply has three digits
pub reply_status_is_code : (status : ℕ) → is_reply_status status ≡ true → IsStatusCode status
reply_status_is_code status is_one =
    one_is_code status (200 ∷ 400 ∷ 404 ∷ 405 ∷ 409 ∷ 411 ∷ 413 ∷ 423 ∷ 503 ∷ 507 ∷ []) refl is_one

-- ---- texts that grow

-- the text begins with what it held before
abbrev pub Begins : List ℕ → List ℕ → Type 0
Begins old new = take (length old) new ≡ old

pub begins_itself : (old : List ℕ) → Begins old old
begins_itself old = take_all (length old) old (omega arith)

pub begins_grown : (old before more new : List ℕ) → Begins old before → new ≡ before ++ more → Begins old new
begins_grown old before more new begins grows =
    let long : length old ≤ length before = omega (arith, ap length begins, length-take (length old) before) in
    ap (take (length old)) grows ∙ take-append-le (length old) before more long ∙ begins

-- a call may leave the text as it was, or with a part added
pub begins_kept : (old before new : List ℕ) → Begins old before → new ≡ before → Begins old new
begins_kept old before new begins same = ap (take (length old)) same ∙ begins

pub begins_through : (old before new : List ℕ) → Begins old before → Begins before new → Begins old new
begins_through old before new first second =
    let long : length old ≤ length before = omega (arith, ap length first, length-take (length old) before) in
    sym (take-take (length old) (length before) new long) ∙ ap (take (length old)) second ∙ first

-- a fact holds after any answer
pub after_any : {T E P : Type 0} (result : Result T E) → P → OnErr result P
after_any (Ok done) fact = tt
after_any (Err error) fact = fact

-- three parts, and four of which the last is two
pub three_added : (old x y z first second third : List ℕ) → first ≡ old ++ x → second ≡ first ++ y → third ≡ second ++ z
    → third ≡ old ++ (x ++ y ++ z)
three_added old x y z first second third one two three =
    three ∙ ap (λ (t : List ℕ). t ++ z) (two ∙ ap (λ (t : List ℕ). t ++ y) one) ∙ join
  where
    join : ((old ++ x) ++ y) ++ z ≡ old ++ (x ++ y ++ z)
    join = simp append_assoc

pub four_added : (old x y z u v first second third fourth : List ℕ)
    → first ≡ old ++ x → second ≡ first ++ y → third ≡ second ++ z → fourth ≡ third ++ u ++ v
    → fourth ≡ old ++ (x ++ y ++ z ++ u ++ v)
four_added old x y z u v first second third fourth one two three four =
    four ∙ ap (λ (t : List ℕ). t ++ u ++ v) (three_added old x y z first second third one two three) ∙ join
  where
    join : (old ++ (x ++ y ++ z)) ++ u ++ v ≡ old ++ (x ++ y ++ z ++ u ++ v)
    join = simp append_assoc
