-- How the places of a block hold two runs of items with a gap between them.
use Rattle.std.proofs.Common.{◌≡◌, ℕ, zero, suc, ◌+◌, ◌-◌, ◌<◌, ◌≤◌, ◌⊎◌, List, [], ◌∷◌, ◌++◌, map, length, take, drop, set, get_or, replicate, slice_get, Option, Some, None, refl, sym, ap, ◌∙◌, inl, inr, arith, length-append, length-drop, append_assoc, append-nil, take_at, drop_at, drop-drop, take-add, set-set, get_or-set_same}
use Rattle.std.proofs.lemmas.List.{length-map, length-replicate, get_or_append_left, get_or-append_right, map-append, set_at, set-append_left, set-append_right, map-set, set-get_or, take-append-le, drop-append-le, take-map, drop-map}
use Rattle.gapcol.specs.Places.{somes, gapped}

pub below_or_not : (a b : ℕ) → (a < b) ⊎ (b ≤ a)
below_or_not zero zero = inr (omega arith)
below_or_not zero (suc b) = inl (omega arith)
below_or_not (suc a) zero = inr (omega arith)
below_or_not (suc a) (suc b) = elim (below_or_not a b) [ inl h ↦ inl (omega arith) | inr h ↦ inr (omega arith) ]

module _ {X : Type 0} where
  pub cut_end : (xs : List X) → 0 < length xs → (us : List X) × (x : X) × (xs ≡ us ++ x ∷ [])
  cut_end [] h = absurd (omega arith)
  cut_end (x ∷ []) h = ([], x, refl)
  cut_end (x ∷ y ∷ xs) h = let on = cut_end (y ∷ xs) (omega arith) in (x ∷ on.0, on.1, ap (λ l. x ∷ l) on.2)

  pub cut_front : (xs : List X) → 0 < length xs → (x : X) × (us : List X) × (xs ≡ x ∷ us)
  cut_front [] h = absurd (omega arith)
  cut_front (x ∷ xs) h = (x, xs, refl)

  pub slice_get-append_left : (xs ys : List X) (i : ℕ) → i < length xs → slice_get (xs ++ ys) i ≡ slice_get xs i
  slice_get-append_left [] ys i h = absurd (omega arith)
  slice_get-append_left (x ∷ xs) ys zero h = refl
  slice_get-append_left (x ∷ xs) ys (suc i) h = slice_get-append_left xs ys i (omega arith)

  pub slice_get-append_right : (xs ys : List X) (i k : ℕ) → i ≡ length xs + k → slice_get (xs ++ ys) i ≡ slice_get ys k
  slice_get-append_right [] ys i k e = let same : i ≡ k = omega arith in ap (slice_get ys) same
  slice_get-append_right (x ∷ xs) ys zero k e = absurd (omega arith)
  slice_get-append_right (x ∷ xs) ys (suc i) k e = slice_get-append_right xs ys i k (omega arith)

  pub slice_get-some : (xs : List X) (i : ℕ) → i < length xs → (x : X) × (slice_get xs i ≡ Some x)
  slice_get-some [] i h = absurd (omega arith)
  slice_get-some (x ∷ xs) zero h = (x, refl)
  slice_get-some (x ∷ xs) (suc i) h = slice_get-some xs i (omega arith)

  get_some : (xs : List X) (i : ℕ) → get_or (map Some xs) i None ≡ slice_get xs i
  get_some [] i = refl
  get_some (x ∷ xs) zero = refl
  get_some (x ∷ xs) (suc i) = get_some xs i

  get_none : (n i : ℕ) → let none : Option X = None in get_or (replicate n none) i none ≡ none
  get_none zero i = refl
  get_none (suc n) zero = refl
  get_none (suc n) (suc i) = get_none n i

  somes_skip : (n : ℕ) (cs : List (Option X)) → somes (replicate n None ++ cs) ≡ somes cs
  somes_skip zero cs = refl
  somes_skip (suc n) cs = somes_skip n cs

  pub somes-map : (xs : List X) → somes (map Some xs) ≡ xs
  somes-map [] = refl
  somes-map (x ∷ xs) = ap (λ l. x ∷ l) (somes-map xs)

  pub same_values : (xs ys : List X) → map Some xs ≡ map Some ys → xs ≡ ys
  same_values xs ys e = sym (somes-map xs) ∙ ap somes e ∙ somes-map ys

  pub one_value : (x y : X) → Some x ≡ Some y → x ∷ [] ≡ y ∷ []
  one_value x y e = ap (λ o. somes (o ∷ [])) e

  -- a filled place is a run of one
  pub run_of_one : (cs : List (Option X)) (p : ℕ) (x : X) → get_or cs p None ≡ Some x → (p + 1 ≤ length cs) × (take 1 (drop p cs) ≡ map Some (x ∷ []))
  run_of_one [] p x e = cc
  run_of_one (c ∷ cs) zero x e = (omega arith, ap (λ d. d ∷ []) e)
  run_of_one (c ∷ cs) (suc p) x e = let on = run_of_one cs p x e in let le = on.0 in (omega arith, on.1)

  last_none : (m : ℕ) (cs : List (Option X)) → replicate (suc m) None ++ cs ≡ replicate m None ++ None ∷ cs
  last_none zero cs = refl
  last_none (suc m) cs = ap (λ l. None ∷ l) (last_none m cs)

  module _ (xs : List X) (n : ℕ) (ys : List X) where
    abbrev tail : List (Option X)
    tail = replicate n None ++ map Some ys

    pub length-gapped : length (gapped xs n ys) ≡ length xs + n + length ys
    unfolding gapped
    length-gapped = let none : Option X = None in omega (arith, length-append (map Some xs) tail, length-append (replicate n none) (map Some ys), length-map xs Some, length-map ys Some, length-replicate n none)

    pub front_of : (k : ℕ) → length xs ≡ k → somes (take k (gapped xs n ys)) ≡ xs
    unfolding gapped
    front_of k e = ap somes (take_at (map Some xs) tail k (length-map xs Some ∙ e)) ∙ somes-map xs

    pub back_of : (k : ℕ) → length xs ≡ k → somes (drop k (gapped xs n ys)) ≡ ys
    unfolding gapped
    back_of k e = ap somes (drop_at (map Some xs) tail k (length-map xs Some ∙ e)) ∙ somes_skip n (map Some ys) ∙ somes-map ys

    -- a place in the gap is empty
    pub empty_at : (k : ℕ) → length xs ≤ k → k < length xs + n → get_or (gapped xs n ys) k None ≡ None
    unfolding gapped
    empty_at k low high =
        let none : Option X = None in
        get_or-append_right (map Some xs) tail (length xs) k None (length-map xs Some) low
        ∙ get_or_append_left (replicate n None) (map Some ys) None (k - length xs) (omega (arith, length-replicate n none)) ∙ get_none n (k - length xs)

    pub item_before : (i : ℕ) → i < length xs → get_or (gapped xs n ys) i None ≡ slice_get (xs ++ ys) i
    unfolding gapped
    item_before i lt = get_or_append_left (map Some xs) tail None i (omega (arith, length-map xs Some)) ∙ get_some xs i ∙ sym (slice_get-append_left xs ys i lt)

    pub item_behind : (i : ℕ) → length xs ≤ i → get_or (gapped xs n ys) (i + n) None ≡ slice_get (xs ++ ys) i
    unfolding gapped
    item_behind i le =
        get_or-append_right (map Some xs) tail (length xs) (i + n) None (length-map xs Some) (omega arith)
        ∙ get_or-append_right (replicate n None) (map Some ys) n (i + n - length xs) None (length-replicate n None) (omega arith)
        ∙ get_some ys (i + n - length xs - n) ∙ sym (slice_get-append_right xs ys i (i + n - length xs - n) (omega arith))

    pub set_before : (i : ℕ) (v : X) → i < length xs → set (gapped xs n ys) i (Some v) ≡ gapped (set xs i v) n ys
    unfolding gapped
    set_before i v lt = set-append_left (map Some xs) tail i (Some v) (omega (arith, length-map xs Some)) ∙ ap (λ l. l ++ tail) (sym (map-set Some xs i v))

    pub set_behind : (i : ℕ) (v : X) → length xs ≤ i → set (gapped xs n ys) (i + n) (Some v) ≡ gapped xs n (set ys (i - length xs) v)
    unfolding gapped
    set_behind i v le =
        let at : i + n - length xs - n ≡ i - length xs = omega arith in
        set-append_right (map Some xs) tail (length xs) (i + n) (Some v) (length-map xs Some) (omega arith)
        ∙ ap (λ l. map Some xs ++ l) (
        set-append_right (replicate n None) (map Some ys) n (i + n - length xs) (Some v) (length-replicate n None) (omega arith)
        ∙ ap (λ l. replicate n None ++ l) (ap (λ k. set (map Some ys) k (Some v)) at ∙ sym (map-set Some ys (i - length xs) v))
        )

    pub run_before : (from m : ℕ) → (0 < m → from + m ≤ length xs) → take m (drop from (gapped xs n ys)) ≡ map Some (take m (drop from xs))
    unfolding gapped
    run_before from zero le = refl
    run_before from (suc m) le =
        let within : from + suc m ≤ length xs = le (omega arith) in
        ap (take (suc m)) (drop-append-le from (map Some xs) tail (omega (arith, length-map xs Some)))
        ∙ take-append-le (suc m) (drop from (map Some xs)) tail (omega (arith, length-drop from (map Some xs), length-map xs Some))
        ∙ ap (take (suc m)) (drop-map Some from xs) ∙ take-map Some (suc m) (drop from xs)

    pub run_behind : (at m : ℕ) → (0 < m → length xs ≤ at) → take m (drop (at + n) (gapped xs n ys)) ≡ map Some (take m (drop (at - length xs) ys))
    unfolding gapped
    run_behind at zero le = refl
    run_behind at (suc m) le =
        let past : length xs ≤ at = le (omega arith) in
        let j = at - length xs in let two : at + n ≡ length xs + (n + j) = omega arith in
        let whole = map Some xs ++ tail in
        ap (take (suc m)) (
        ap (λ k. drop k whole) two ∙ sym (drop-drop (n + j) (length xs) whole) ∙ ap (drop (n + j)) (drop_at (map Some xs) tail (length xs) (length-map xs Some))
        ∙ sym (drop-drop j n tail) ∙ ap (drop j) (drop_at (replicate n None) (map Some ys) n (length-replicate n None)) ∙ drop-map Some j ys
        ) ∙ take-map Some (suc m) (drop j ys)

  -- an item fills the first place of the gap, or the last
  pub put_first : (xs : List X) (n m : ℕ) (ys : List X) (k : ℕ) (x : X) → n ≡ suc m → length xs ≡ k → set (gapped xs n ys) k (Some x) ≡ gapped (xs ++ x ∷ []) m ys
  unfolding gapped
  put_first xs n m ys k x e at =
      let rest = replicate m None ++ map Some ys in
      ap (λ j. set (gapped xs j ys) k (Some x)) e ∙ set_at (map Some xs) None rest (Some x) k (length-map xs Some ∙ at)
      ∙ sym (ap (λ l. l ++ rest) (map-append Some xs (x ∷ [])) ∙ append_assoc (map Some xs) (Some x ∷ []) rest)

  pub put_last : (xs : List X) (n m : ℕ) (ys : List X) (k : ℕ) (x : X) → n ≡ suc m → k ≡ length xs + m → set (gapped xs n ys) k (Some x) ≡ gapped xs m (x ∷ ys)
  unfolding gapped
  put_last xs n m ys k x e at =
      ap (λ j. set (gapped xs j ys) k (Some x)) e ∙ ap (λ l. set (map Some xs ++ l) k (Some x)) (last_none m (map Some ys))
      ∙ set-append_right (map Some xs) (replicate m None ++ None ∷ map Some ys) (length xs) k (Some x) (length-map xs Some) (omega arith)
      ∙ ap (λ l. map Some xs ++ l) (set_at (replicate m None) None (map Some ys) (Some x) (k - length xs) (length-replicate m None ∙ omega arith))

  -- a place that was filled is emptied again
  unput : (cs ds : List (Option X)) (k : ℕ) (c : Option X) → set cs k c ≡ ds → get_or cs k None ≡ None → set ds k None ≡ cs
  unput cs ds k c e none = ap (λ l. set l k None) (sym e) ∙ set-set cs k c None ∙ ap (set cs k) (sym none) ∙ set-get_or cs k None

  module _ (xs : List X) (n : ℕ) (ys : List X) (k : ℕ) (x : X) where
    pub unput_first : length xs ≡ k → set (gapped (xs ++ x ∷ []) n ys) k None ≡ gapped xs (suc n) ys
    unput_first at = unput (gapped xs (suc n) ys) (gapped (xs ++ x ∷ []) n ys) k (Some x) (put_first xs (suc n) n ys k x refl at) (empty_at xs (suc n) ys k (omega arith) (omega arith))

    pub seen_first : length xs ≡ k → get_or (gapped (xs ++ x ∷ []) n ys) k None ≡ Some x
    seen_first at =
        ap (λ l. get_or l k None) (sym (put_first xs (suc n) n ys k x refl at))
        ∙ get_or-set_same (gapped xs (suc n) ys) k (Some x) None (omega (arith, length-gapped xs (suc n) ys))

    pub unput_last : k ≡ length xs + n → set (gapped xs n (x ∷ ys)) k None ≡ gapped xs (suc n) ys
    unput_last at = unput (gapped xs (suc n) ys) (gapped xs n (x ∷ ys)) k (Some x) (put_last xs (suc n) n ys k x refl at) (empty_at xs (suc n) ys k (omega arith) (omega arith))

    pub seen_last : k ≡ length xs + n → get_or (gapped xs n (x ∷ ys)) k None ≡ Some x
    seen_last at =
        ap (λ l. get_or l k None) (sym (put_last xs (suc n) n ys k x refl at))
        ∙ get_or-set_same (gapped xs (suc n) ys) k (Some x) None (omega (arith, length-gapped xs (suc n) ys))

  -- a part of two lists, cut where the first ends
  pub parts_join : (xs ys : List X) (from mid to : ℕ) → from ≤ mid → mid ≤ to → (from < mid → mid ≤ length xs) → (mid < to → length xs ≤ mid)
      → take (mid - from) (drop from xs) ++ take (to - mid) (drop (mid - length xs) ys) ≡ take (to - from) (drop from (xs ++ ys))
  parts_join xs ys from mid to low high one two =
      let all = xs ++ ys in let m = mid - from in let j = to - mid in
      let sum : to - from ≡ m + j = omega arith in let on : from + m ≡ mid = omega arith in
      let first : take m (drop from xs) ≡ take m (drop from all) = elim (below_or_not from mid) [
        | inl lt ↦ let le = one lt in sym (ap (take m) (drop-append-le from xs ys (omega arith)) ∙ take-append-le m (drop from xs) ys (omega (arith, length-drop from xs)))
        | inr ge ↦ let none : m ≡ 0 = omega arith in ap (λ k. take k (drop from xs)) none ∙ ap (λ k. take k (drop from all)) (sym none)
      ] in
      let second : take j (drop (mid - length xs) ys) ≡ take j (drop mid all) = elim (below_or_not mid to) [
        | inl lt ↦ let le = two lt in let whole : length xs + (mid - length xs) ≡ mid = omega arith in
            ap (take j) (ap (drop (mid - length xs)) (sym (drop_at xs ys (length xs) refl)) ∙ drop-drop (mid - length xs) (length xs) all ∙ ap (λ k. drop k all) whole)
        | inr ge ↦ let none : j ≡ 0 = omega arith in ap (λ k. take k (drop (mid - length xs) ys)) none ∙ ap (λ k. take k (drop mid all)) (sym none)
      ] in
      (λ i. first i ++ second i)
      ∙ sym (ap (λ k. take k (drop from all)) sum ∙ take-add m j (drop from all) ∙ ap (λ l. take m (drop from all) ++ take j l) (drop-drop m from all ∙ ap (λ k. drop k all) on))

  pub gapped-nil : (n : ℕ) → let none : Option X = None in replicate n none ≡ gapped [] n []
  unfolding gapped
  gapped-nil n = sym (append-nil (replicate n None))

  pub head_is : (k : ℕ) (xs : List X) (x : X) (ys : List X) → drop k xs ≡ x ∷ ys → (slice_get xs k ≡ Some x) × (drop (suc k) xs ≡ ys)
  head_is zero [] x ys e = cc
  head_is zero (y ∷ xs) x ys e = let one : y ≡ x = cc in let rest : xs ≡ ys = cc in (ap Some one, rest)
  head_is (suc k) [] x ys e = cc
  head_is (suc k) (y ∷ xs) x ys e = head_is k xs x ys e
