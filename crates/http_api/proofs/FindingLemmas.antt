-- A target that the tokens of a row spell finds a row, where each parameter runs to a slash or to the target's end.
use Rattle.std.proofs.Common.{◌≡◌, ◌<◌, refl, sym, ◌∙◌, ap, ℕ, zero, suc, ◌-◌, ◌⊎◌, inl, inr, Bool, true, false, ◌&&◌, cond, ◌==◌, ltb, List, [], ◌∷◌, ◌++◌, length, take, drop, Option, Some, None, IsSome, subst, arith, append-nil, length-append}
use Rattle.std.proofs.Math.Seq.{drop-append_seam}
use Rattle.std.proofs.lemmas.Bool.{and_parts, and_from, lt-ltb}
use Rattle.std.proofs.lemmas.Bool.Decides.{nat_tests, Decides-eqb}
use Rattle.std.proofs.lemmas.Slice.Eq.{ends_is}
use Rattle.matchit.proofs.ConflictLemmas.{head-of, tail-of}
use Rattle.matchit.proofs.ParamLemmas.{drop-length}
use Rattle.matchit.specs.Rows.{RowsOf, param_token}
use Rattle.matchit.specs.Seek.{slash, has_slash, segment, cuts, own, step, or_else, longest_from, longest_suffix, with_suffix, same_text, param_step, seek}
use Rattle.http_api.proofs.ApartLemmas.{ends_part, IsEnded, ended, not_empty}
use Rattle.http_api.proofs.FittingLemmas.{less}
use Rattle.http_api.specs.Routes.{IsPart, Begins, IsSpelled}

-- ---- segments

whole_segment : (path : List ℕ) → has_slash path ≡ false → segment path ≡ path
whole_segment [] none = refl
whole_segment (b ∷ path) none = by (b == slash) none (whole_segment path)
  where
    by : (test : Bool) → cond test true (has_slash path) ≡ false → (has_slash path ≡ false → segment path ≡ path)
        → cond test (b ∷ []) (b ∷ segment path) ≡ b ∷ path
    by true found later = absurd (cc)
    by false rest later = ap (λ bytes. b ∷ bytes) (later rest)

part_segment : (part rest : List ℕ) → has_slash part ≡ false → segment (part ++ slash ∷ rest) ≡ part ++ slash ∷ []
part_segment [] rest none = refl
part_segment (b ∷ part) rest none = by (b == slash) none (part_segment part rest)
  where
    by : (test : Bool) → cond test true (has_slash part) ≡ false → (has_slash part ≡ false → segment (part ++ slash ∷ rest) ≡ part ++ slash ∷ [])
        → cond test (b ∷ []) (b ∷ segment (part ++ slash ∷ rest)) ≡ b ∷ (part ++ slash ∷ [])
    by true found later = absurd (cc)
    by false more later = ap (λ bytes. b ∷ bytes) (later more)

slash_at_end : (front : List ℕ) → has_slash (front ++ slash ∷ []) ≡ true
slash_at_end [] = refl
slash_at_end (b ∷ front) = by (b == slash) (slash_at_end front)
  where
    by : (test : Bool) → has_slash (front ++ slash ∷ []) ≡ true → cond test true (has_slash (front ++ slash ∷ [])) ≡ true
    by true later = refl
    by false later = later

no_cut : (test : Bool) (seg : List ℕ) → cuts seg (slash ∷ []) ≡ test → has_slash seg ≡ false → test ≡ false
no_cut false seg e none = refl
no_cut true seg e none =
    let both = and_parts (ltb 1 (length seg)) _ e in
    let split = (ends_is Decides-eqb seg (slash ∷ []) _ refl).0 both.1 in
    let found : has_slash seg ≡ true = ap has_slash split ∙ slash_at_end (take (length seg - 1) seg) in
    absurd (let both : true ≡ false = sym found ∙ none in cc)

is_cut : (part : List ℕ) → 0 < length part → cuts (part ++ slash ∷ []) (slash ∷ []) ≡ true
is_cut part some =
    and_from (ltb 1 (length (part ++ slash ∷ []))) _ (lt-ltb _ _ (omega (arith, some, length-append part (slash ∷ []))))
    ((ends_is Decides-eqb (part ++ slash ∷ []) (slash ∷ []) _ refl).1 part refl)

slash_first : (x : ℕ) → (x == slash) ≡ true → x ≡ slash
slash_first x e = grind (arith, nat_tests)

-- ---- rows of which one is spelled

-- behind each parameter of the tokens is their end or a slash
abbrev ends_parts : List ℕ → Bool
ends_parts [] = true
ends_parts (token ∷ tokens) = cond (token == param_token) (ends_part tokens) true && ends_parts tokens

module _ {K : Type 0} where
  abbrev pub AllEnded : RowsOf K → Type 0
  AllEnded [] = Unit {0}
  AllEnded ((tokens, key) ∷ rest) = (ends_parts tokens ≡ true) × AllEnded rest

  abbrev AllTails : RowsOf K → Type 0
  AllTails [] = Unit {0}
  AllTails ((tokens, key) ∷ rest) = (ends_part tokens ≡ true) × AllTails rest

  -- the tokens of a row spell the target
  abbrev pub HasSpelled : RowsOf K → List ℕ → Type 0
  HasSpelled [] target = ⊥
  HasSpelled ((tokens, key) ∷ rest) target = IsSpelled tokens target ⊎ HasSpelled rest target

  more_spelled : (test : Bool) (tokens : List ℕ) (key : K) (rows : RowsOf K) (target : List ℕ) → HasSpelled rows target
      → HasSpelled (cond test ((tokens, key) ∷ rows) rows) target
  more_spelled true tokens key rows target h = inr h
  more_spelled false tokens key rows target h = h

  own_found : (rows : RowsOf K) → HasSpelled rows [] → IsSome (own rows)
  own_found [] h = elim h [ ]
  own_found (([], key) ∷ rest) h = refl
  own_found ((x ∷ tokens, key) ∷ rest) (inl spelled) = absurd (not_empty (x == param_token) x (IsSpelled tokens) [] refl spelled)
  own_found ((x ∷ tokens, key) ∷ rest) (inr later) = own_found rest later

  cond_ended : (test : Bool) (tokens : List ℕ) (key : K) (rows : RowsOf K) → ends_parts tokens ≡ true → AllEnded rows
      → AllEnded (cond test ((tokens, key) ∷ rows) rows)
  cond_ended true tokens key rows e h = (e, h)
  cond_ended false tokens key rows e h = h

  step_ended : (token : ℕ) (rows : RowsOf K) → AllEnded rows → AllEnded (step token rows)
  step_ended token [] h = tt
  step_ended token (([], key) ∷ rest) h = step_ended token rest h.1
  step_ended token ((x ∷ tokens, key) ∷ rest) h =
      cond_ended (x == token) tokens key (step token rest) (and_parts (cond (x == param_token) (ends_part tokens) true) (ends_parts tokens) h.0).1 (step_ended token rest h.1)

  suffix_ended : (suffix : List ℕ) (rows : RowsOf K) → AllEnded rows → AllEnded (with_suffix suffix rows)
  suffix_ended suffix [] h = tt
  suffix_ended suffix ((tokens, key) ∷ rest) h =
      cond_ended (same_text (segment tokens) suffix) tokens key (with_suffix suffix rest) h.0 (suffix_ended suffix rest h.1)

  step_tails : (rows : RowsOf K) → AllEnded rows → AllTails (step param_token rows)
  step_tails [] h = tt
  step_tails (([], key) ∷ rest) h = step_tails rest h.1
  step_tails ((x ∷ tokens, key) ∷ rest) h =
      by (x == param_token) (and_parts (cond (x == param_token) (ends_part tokens) true) (ends_parts tokens) h.0).0 (step_tails rest h.1)
    where
      by : (test : Bool) → cond test (ends_part tokens) true ≡ true → AllTails (step param_token rest)
          → AllTails (cond test ((tokens, key) ∷ step param_token rest) (step param_token rest))
      by true e later = (e, later)
      by false e later = later

  -- the path goes on by a part for a parameter
  abbrev HasPart : RowsOf K → List ℕ → Type 0
  HasPart rows path = (part : List ℕ) × (rest : List ℕ) × (path ≡ part ++ rest) × IsPart part × IsEnded rest × HasSpelled (step param_token rows) rest

  heads : (b : ℕ) (path : List ℕ) (rows : RowsOf K) → AllEnded rows → HasSpelled rows (b ∷ path)
      → HasSpelled (step b rows) path ⊎ HasPart rows (b ∷ path)
  heads b path [] h spelled = elim spelled [ ]
  heads b path (([], key) ∷ rest) h (inl e) = absurd (cc)
  heads b path (([], key) ∷ rest) h (inr later) = heads b path rest h.1 later
  heads b path ((x ∷ tokens, key) ∷ rest) h (inl spelled) =
      by (x == param_token) refl (and_parts (cond (x == param_token) (ends_part tokens) true) (ends_parts tokens) h.0).0 spelled
    where
      by : (test : Bool) → (x == param_token) ≡ test → cond test (ends_part tokens) true ≡ true → Begins test x (IsSpelled tokens) (b ∷ path)
          → HasSpelled (step b ((x ∷ tokens, key) ∷ rest)) path ⊎ HasPart ((x ∷ tokens, key) ∷ rest) (b ∷ path)
      by true e ends s = inr (s.0, s.1, s.2, s.3, ended tokens s.1 ends s.4, rw e (inl s.4))
      by false e ends s =
          let same : (x == b) ≡ true = let is = head-of b x path s.0 s.1 in grind (arith, nat_tests) in
          let behind : IsSpelled tokens path = subst (IsSpelled tokens) (sym (tail-of b x path s.0 s.1)) s.2 in
          inl (rw same (inl behind))
  heads b path ((x ∷ tokens, key) ∷ rest) h (inr later) =
      elim (heads b path rest h.1 later) [
        | inl found ↦ inl (more_spelled (x == b) tokens key (step b rest) path found)
        | inr found ↦ inr (found.0, found.1, found.2, found.3, found.4, more_spelled (x == param_token) tokens key (step param_token rest) found.1 found.5)
      ]

  -- ---- what a parameter leaves

  none_left : (seg : List ℕ) (rows : RowsOf K) → AllTails rows → has_slash seg ≡ false → longest_from seg [] rows ≡ []
  none_left seg [] h none = refl
  none_left seg (([], key) ∷ rest) h none = none_left seg rest h.1 none
  none_left seg ((x ∷ tokens, key) ∷ rest) h none =
      rw (slash_first x h.0, no_cut (cuts seg (slash ∷ [])) seg refl none) (none_left seg rest h.1 none)

  slash_kept : (seg : List ℕ) (rows : RowsOf K) → AllTails rows → longest_from seg (slash ∷ []) rows ≡ slash ∷ []
  slash_kept seg [] h = refl
  slash_kept seg (([], key) ∷ rest) h = slash_kept seg rest h.1
  slash_kept seg ((x ∷ tokens, key) ∷ rest) h = rw (slash_first x h.0) (slash_kept seg rest h.1)

  slash_left : (seg rest : List ℕ) (rows : RowsOf K) → AllTails rows → cuts seg (slash ∷ []) ≡ true → HasSpelled rows (slash ∷ rest)
      → longest_from seg [] rows ≡ slash ∷ []
  slash_left seg rest [] h cut spelled = elim spelled [ ]
  slash_left seg rest (([], key) ∷ rows) h cut (inl e) = absurd (cc)
  slash_left seg rest (([], key) ∷ rows) h cut (inr later) = slash_left seg rest rows h.1 cut later
  slash_left seg rest ((x ∷ tokens, key) ∷ rows) h cut spelled = rw (slash_first x h.0, cut) (slash_kept seg rows h.1)

  kept_spelled : (rest : List ℕ) (rows : RowsOf K) → AllTails rows → HasSpelled rows (slash ∷ rest)
      → HasSpelled (with_suffix (slash ∷ []) rows) (slash ∷ rest)
  kept_spelled rest [] h spelled = spelled
  kept_spelled rest (([], key) ∷ rows) h (inl e) = absurd (cc)
  kept_spelled rest (([], key) ∷ rows) h (inr later) = kept_spelled rest rows h.1 later
  kept_spelled rest ((x ∷ tokens, key) ∷ rows) h (inl spelled) =
      let is : same_text (segment (x ∷ tokens)) (slash ∷ []) ≡ true = rw (slash_first x h.0) refl in
      rw is (inl spelled)
  kept_spelled rest ((x ∷ tokens, key) ∷ rows) h (inr later) =
      more_spelled (same_text (segment (x ∷ tokens)) (slash ∷ [])) (x ∷ tokens) key (with_suffix (slash ∷ []) rows) (slash ∷ rest) (kept_spelled rest rows h.1 later)

  abbrev Finds : List ℕ → ℕ × RowsOf K → Type 0
  Finds path next = AllEnded next.1 × HasSpelled next.1 (drop (next.0 - 1) path)

  -- what a parameter goes on with, for the longest suffix that is left
  abbrev goes_on : List ℕ → List ℕ → RowsOf K → ℕ × RowsOf K
  goes_on suffix path rows =
      cond (ltb 0 (length suffix)) (length (segment path) - length suffix, with_suffix suffix rows)
      (cond (has_slash path) (0, []) (length path, rows))

  by_goes_on : (b : ℕ) (path : List ℕ) (rows : RowsOf K) (suffix : List ℕ) → longest_suffix (segment (b ∷ path)) rows ≡ suffix
      → Finds path (goes_on suffix (b ∷ path) rows) → Finds path (param_step rows (b ∷ path))
  unfolding param_step
  by_goes_on b path rows suffix e h = subst (λ s. Finds path (goes_on s (b ∷ path) rows)) (sym e) h

  part_found : (b : ℕ) (path : List ℕ) (rows : RowsOf K) (part rest : List ℕ) → AllEnded rows → AllTails rows → b ∷ path ≡ part ++ rest → IsPart part
      → IsEnded rest → HasSpelled rows rest → Finds path (param_step rows (b ∷ path))
  part_found b path rows part [] h tails split is end spelled =
      let whole : b ∷ path ≡ part = split ∙ append-nil part in
      let none : has_slash (b ∷ path) ≡ false = ap has_slash whole ∙ is.one in
      let all : drop (length (b ∷ path) - 1) path ≡ [] = sym (less (length (b ∷ path)) b path (omega arith)) ∙ drop-length (b ∷ path) in
      let found : Finds path (length (b ∷ path), rows) = (h, subst (HasSpelled rows) (sym all) spelled) in
      by_goes_on b path rows [] (none_left (segment (b ∷ path)) rows tails (ap has_slash (whole_segment (b ∷ path) none) ∙ none))
      (subst (λ (test : Bool). Finds path (cond test (0, []) (length (b ∷ path), rows))) (sym none) found)
  part_found b path rows part (c ∷ rest) h tails split is end spelled =
      let first_part : b ∷ path ≡ part ++ slash ∷ rest = rw end at split in
      let seg : segment (b ∷ path) ≡ part ++ slash ∷ [] = ap segment first_part ∙ part_segment part rest is.one in
      let behind : HasSpelled rows (slash ∷ rest) = rw end at spelled in
      let count : length (segment (b ∷ path)) - 1 ≡ length part = let n = length-append part (slash ∷ []) in rw seg (omega (arith, n)) in
      let left : drop (length part - 1) path ≡ slash ∷ rest =
      sym (less (length part) b path is.some) ∙ ap (drop (length part)) first_part ∙ drop-append_seam part (slash ∷ rest) in
      by_goes_on b path rows (slash ∷ [])
      (slash_left (segment (b ∷ path)) rest rows tails (ap (λ s. cuts s (slash ∷ [])) seg ∙ is_cut part is.some) behind) (
        suffix_ended (slash ∷ []) rows h,
        subst (λ n. HasSpelled (with_suffix (slash ∷ []) rows) (drop (n - 1) path)) (sym count)
            (subst (HasSpelled (with_suffix (slash ∷ []) rows)) (sym left) (kept_spelled rest rows tails behind)),
      )

  first_some : (one other : Option K) → IsSome one → IsSome (or_else one other)
  first_some None other h = absurd (cc)
  first_some (Some key) other h = refl

  second_some : (one other : Option K) → IsSome other → IsSome (or_else one other)
  second_some None other h = h
  second_some (Some key) other h = refl

  pub seek_found : (skip : ℕ) (rows : RowsOf K) (path : List ℕ) → AllEnded rows → HasSpelled rows (drop skip path) → IsSome (seek skip rows path)
  unfolding seek
  seek_found zero rows [] h spelled = own_found rows spelled
  seek_found (suc skip) rows [] h spelled = own_found rows spelled
  seek_found (suc skip) rows (b ∷ path) h spelled = seek_found skip rows path h spelled
  seek_found zero rows (b ∷ path) h spelled =
      elim (heads b path rows h spelled) [
        | inl found ↦ first_some _ _ (seek_found 0 (step b rows) path (step_ended b rows h) found)
        | inr found ↦
            let next = part_found b path (step param_token rows) found.0 found.1 (step_ended param_token rows h) (step_tails rows h) found.2 found.3 found.4 found.5 in
            second_some _ _ (first_some _ _ (seek_found ((param_step (step param_token rows) (b ∷ path)).0 - 1) (param_step (step param_token rows) (b ∷ path)).1 path next.0 next.1))
      ]
