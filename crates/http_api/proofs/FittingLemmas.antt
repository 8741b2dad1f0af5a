-- A row that is found is one whose tokens spell the target.
use Rattle.std.proofs.Common.{◌≡◌, ◌<◌, refl, sym, ◌∙◌, ap, ℕ, zero, suc, ◌-◌, ◌⊎◌, inl, inr, Bool, true, false, ◌&&◌, not, cond, ◌==◌, ltb, List, [], ◌∷◌, length, take, drop, Option, Some, None, IfSome, subst, arith}
use Rattle.std.specs.List.{list_all}
use Rattle.std.proofs.lemmas.Bool.{and_parts, ltb-true}
use Rattle.std.proofs.lemmas.Bool.Decides.{nat_tests}
use Rattle.std.proofs.lemmas.List.{take-append-drop, take_all}
use Rattle.matchit.proofs.ParamLemmas.{better-short}
use Rattle.matchit.specs.Rows.{RowsOf, param_token, catch_all_token}
use Rattle.matchit.specs.Seek.{slash, has_slash, segment, better, own, step, or_else, longest_from, longest_suffix, with_suffix, same_text, param_step, seek}
use Rattle.http_api.specs.Routes.{Begins, IsSpelled}

-- ---- how far a parameter goes

part_before_slash : (n : ℕ) (path : List ℕ) → n < length (segment path) → has_slash (take n path) ≡ false
part_before_slash zero path within = refl
part_before_slash (suc n) [] within = refl
part_before_slash (suc n) (b ∷ path) within = by (b == slash) within (part_before_slash n path)
  where
    by : (test : Bool) → suc n < length (cond test (b ∷ []) (b ∷ segment path)) → (n < length (segment path) → has_slash (take n path) ≡ false)
        → cond test true (has_slash (take n path)) ≡ false
    by true one before = absurd (omega (arith, one))
    by false more before = before (omega (arith, more))

module _ {K : Type 0} where
  longest_short : (seg best : List ℕ) (rows : RowsOf K) → (length best ≡ 0) ⊎ (length best < length seg)
      → (length (longest_from seg best rows) ≡ 0) ⊎ (length (longest_from seg best rows) < length seg)
  longest_short seg best [] h = h
  longest_short seg best ((tokens, key) ∷ rest) h =
      longest_short seg (better seg best (segment tokens)) rest (better-short seg best (segment tokens) h)

-- ---- rows whose tokens spell the rest of a target

abbrev IsPlain : List ℕ → Type 0
IsPlain tokens = list_all (λ x. not (x == catch_all_token)) tokens ≡ true

-- a token goes before what goes on so
abbrev Leads : ℕ → List ℕ → List ℕ → Type 1
Leads token target rest = (GoesOn : List ℕ → Type 0) → GoesOn rest → Begins (token == param_token) token GoesOn target

module _ {K : Type 0} (P : K → Type 0) where
  abbrev pub AllSpelled : RowsOf K → List ℕ → Type 0
  AllSpelled [] target = Unit {0}
  AllSpelled ((tokens, key) ∷ rest) target = IsPlain tokens × (IsSpelled tokens target → P key) × AllSpelled rest target

  own_spelled : (rows : RowsOf K) → AllSpelled rows [] → IfSome (own rows) P
  own_spelled [] h = tt
  own_spelled (([], key) ∷ rest) h = h.1 refl
  own_spelled ((x ∷ tokens, key) ∷ rest) h = own_spelled rest h.2

  no_catch_all : (rows : RowsOf K) (target : List ℕ) → AllSpelled rows target → IfSome (own (step catch_all_token rows)) P
  no_catch_all [] target h = tt
  no_catch_all (([], key) ∷ rest) target h = no_catch_all rest target h.2
  no_catch_all ((x ∷ tokens, key) ∷ rest) target h = by (x == catch_all_token) h.0 (no_catch_all rest target h.2)
    where
      by : (test : Bool) → (not test && list_all (λ y. not (y == catch_all_token)) tokens) ≡ true → IfSome (own (step catch_all_token rest)) P
          → IfSome (own (cond test ((tokens, key) ∷ step catch_all_token rest) (step catch_all_token rest))) P
      by true plain later = absurd (cc)
      by false plain later = later

  step_spelled : (token : ℕ) (target behind : List ℕ) → Leads token target behind → (rows : RowsOf K) → AllSpelled rows target
      → AllSpelled (step token rows) behind
  step_spelled token target behind leads [] h = tt
  step_spelled token target behind leads (([], key) ∷ rest) h = step_spelled token target behind leads rest h.2
  step_spelled token target behind leads ((x ∷ tokens, key) ∷ rest) h =
      by (x == token) refl (step_spelled token target behind leads rest h.2)
    where
      by : (test : Bool) → (x == token) ≡ test → AllSpelled (step token rest) behind
          → AllSpelled (cond test ((tokens, key) ∷ step token rest) (step token rest)) behind
      by true e later =
          let same : token ≡ x = grind (arith, nat_tests) in
          let plain = and_parts (not (x == catch_all_token)) (list_all (λ y. not (y == catch_all_token)) tokens) h.0 in (
            plain.1,
            λ spelled. h.1 (subst (λ y. Begins (y == param_token) y (IsSpelled tokens) target) same (leads (IsSpelled tokens) spelled)),
            later,
          )
      by false e later = later

  suffix_spelled : (suffix : List ℕ) (rows : RowsOf K) (target : List ℕ) → AllSpelled rows target → AllSpelled (with_suffix suffix rows) target
  suffix_spelled suffix [] target h = tt
  suffix_spelled suffix ((tokens, key) ∷ rest) target h =
      by (same_text (segment tokens) suffix) (suffix_spelled suffix rest target h.2)
    where
      by : (test : Bool) → AllSpelled (with_suffix suffix rest) target → AllSpelled (cond test ((tokens, key) ∷ with_suffix suffix rest) (with_suffix suffix rest)) target
      by true later = (h.0, h.1, later)
      by false later = later

  else_some : (one other : Option K) → IfSome one P → IfSome other P → IfSome (or_else one other) P
  else_some None other h k = k
  else_some (Some key) other h k = h

-- ---- what a byte and a part go before

byte_leads : (test : Bool) (b : ℕ) (path : List ℕ) → (b == param_token) ≡ test → (GoesOn : List ℕ → Type 0) → GoesOn path
    → Begins test b GoesOn (b ∷ path)
byte_leads true b path e GoesOn h =
    let is : b ≡ param_token = grind (arith, nat_tests) in
    (b ∷ [], path, refl, record { some = omega arith; one = rw is refl }, h)
byte_leads false b path e GoesOn h = (path, refl, h)

part_leads : (n : ℕ) (path : List ℕ) → 0 < n → 0 < length path → has_slash (take n path) ≡ false → Leads param_token path (drop n path)
part_leads zero path positive some none = absurd (omega (arith, positive))
part_leads (suc n) [] positive some none = absurd (omega (arith, some))
part_leads (suc n) (b ∷ path) positive some none =
    λ GoesOn h. (take (suc n) (b ∷ path), drop (suc n) (b ∷ path), sym (take-append-drop (suc n) (b ∷ path)), record { some = omega arith; one = none }, h)

pub less : (n : ℕ) (b : ℕ) (path : List ℕ) → 0 < n → drop n (b ∷ path) ≡ drop (n - 1) path
less zero b path positive = absurd (omega (arith, positive))
less (suc n) b path positive = let e : suc n - 1 ≡ n = omega arith in rw e refl

module _ {K : Type 0} (P : K → Type 0) where
  abbrev GoesOn : List ℕ → ℕ × RowsOf K → Type 0
  GoesOn path next = AllSpelled P next.1 (drop (next.0 - 1) path)

  after_part : (n b : ℕ) (path : List ℕ) (rows : RowsOf K) → 0 < n → has_slash (take n (b ∷ path)) ≡ false → AllSpelled P rows (b ∷ path)
      → AllSpelled P (step param_token rows) (drop (n - 1) path)
  after_part n b path rows positive none h =
      subst (AllSpelled P (step param_token rows)) (less n b path positive)
      (step_spelled P param_token (b ∷ path) (drop n (b ∷ path)) (part_leads n (b ∷ path) positive (omega arith) none) rows h)

  abbrev left : RowsOf K → List ℕ → List ℕ
  left rows path = longest_suffix (segment path) (step param_token rows)

  param_spelled : (rows : RowsOf K) (b : ℕ) (path : List ℕ) → AllSpelled P rows (b ∷ path) → GoesOn path (param_step (step param_token rows) (b ∷ path))
  unfolding param_step
  param_spelled rows b path h = by_suffix (ltb 0 (length (left rows (b ∷ path)))) refl
    where
      by_slash : (test : Bool) → has_slash (b ∷ path) ≡ test → GoesOn path (cond test (0, []) (length (b ∷ path), step param_token rows))
      by_slash true e = tt
      by_slash false e =
          after_part (length (b ∷ path)) b path rows (omega arith) (ap has_slash (take_all (length (b ∷ path)) (b ∷ path) (omega arith)) ∙ e) h

      by_suffix : (test : Bool) → ltb 0 (length (left rows (b ∷ path))) ≡ test → GoesOn path (cond test (length (segment (b ∷ path)) - length (left rows (b ∷ path)), with_suffix (left rows (b ∷ path)) (step param_token rows)) (cond (has_slash (b ∷ path)) (0, []) (length (b ∷ path), step param_token rows)))
      by_suffix true e =
          let some : 0 < length (left rows (b ∷ path)) = ltb-true _ _ e in
          let short : length (left rows (b ∷ path)) < length (segment (b ∷ path)) =
          elim (longest_short (segment (b ∷ path)) [] (step param_token rows) (inl refl)) [
            | inl none ↦ absurd (omega (arith, some, none))
            | inr fewer ↦ fewer
          ] in
          suffix_spelled P (left rows (b ∷ path)) (step param_token rows) _
          (after_part (length (segment (b ∷ path)) - length (left rows (b ∷ path))) b path rows (omega (arith, short))
          (part_before_slash (length (segment (b ∷ path)) - length (left rows (b ∷ path))) (b ∷ path) (omega (arith, some, short))) h)
      by_suffix false e = by_slash (has_slash (b ∷ path)) refl

  pub seek_spelled : (skip : ℕ) (rows : RowsOf K) (path : List ℕ) → AllSpelled P rows (drop skip path) → IfSome (seek skip rows path) P
  unfolding seek
  seek_spelled zero rows [] h = own_spelled P rows h
  seek_spelled (suc skip) rows [] h = own_spelled P rows h
  seek_spelled (suc skip) rows (b ∷ path) h = seek_spelled skip rows path h
  seek_spelled zero rows (b ∷ path) h =
      else_some P _ _ (seek_spelled 0 (step b rows) path (step_spelled P b (b ∷ path) path (byte_leads (b == param_token) b path refl) rows h))
      (else_some P _ _
      (seek_spelled ((param_step (step param_token rows) (b ∷ path)).0 - 1) (param_step (step param_token rows) (b ∷ path)).1 path
      (param_spelled rows b path h))
      (no_catch_all P rows (b ∷ path) h))
