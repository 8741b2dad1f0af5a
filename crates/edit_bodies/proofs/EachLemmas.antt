-- The items of an array, read one after another.
use Rattle.std.proofs.Common.{◌≡◌, ℕ, suc, ◌+◌, ◌<◌, ◌≤◌, List, [], ◌∷◌, ◌++◌, length, drop, get_or, All, Bool, false, Option, Some, None, option_and_then, option_map, if◌then◌else◌, refl, sym, ap, ◌∙◌, subst, append_assoc}
use Rattle.std.proofs.lemmas.List.{append-nil, drop_all, drop_more}
use Rattle.std.proofs.lemmas.List.Elements.{All-cons, All-nil}
use Rattle.edit_bodies.specs.Grammars.{each_of, kept_if}
use Rattle.edit_bodies.specs.Trees.{Tree, items_stated, stated}
use Rattle.serde_json.specs.Data.{Data, Items, no_items, item}

-- what was read, and what is read of the items behind
abbrev pub behind : {A : Type 0} → List A → Option (List A) → Option (List A)
behind front more = option_map (λ xs. front ++ xs) more

-- one item more that was read
one_more : {A : Type 0} (front : List A) (x : A) (more : Option (List A)) → behind (front ++ x ∷ []) more ≡ behind front (option_map (λ xs. x ∷ xs) more)
one_more front x None = refl
one_more front x (Some xs) = ap Some (append_assoc front (x ∷ []) xs)

module _ {A : Type 0} (read : Data → Option A) where
  pub item_read : (front : List A) (vs : List Tree) (i : ℕ) (v : Tree) (x : A) → i < length vs → v ≡ get_or vs i v → Some x ≡ read (stated v)
      → behind (front ++ x ∷ []) (each_of read (items_stated (drop (i + 1) vs))) ≡ behind front (each_of read (items_stated (drop i vs)))
  item_read front vs i v x lt is e =
      let there : drop i vs ≡ v ∷ drop (i + 1) vs = drop_more vs i v lt ∙ ap (λ (w : Tree). w ∷ drop (i + 1) vs) (sym is) in
      let next : option_and_then (λ x. option_map (λ xs. x ∷ xs) (each_of read (items_stated (drop (i + 1) vs)))) (read (stated v)) ≡ each_of read (items_stated (drop i vs)) =
      ap (λ (ws : List Tree). each_of read (items_stated ws)) (sym there) in
      one_more front x (each_of read (items_stated (drop (i + 1) vs)))
      ∙ ap (behind front) (ap (option_and_then (λ x. option_map (λ xs. x ∷ xs) (each_of read (items_stated (drop (i + 1) vs))))) e ∙ next)

  -- one item that states nothing, and the end of them
  pub none_read : (front : List A) (vs : List Tree) (i : ℕ) (v : Tree) → i < length vs → v ≡ get_or vs i v → None ≡ read (stated v)
      → None ≡ behind front (each_of read (items_stated (drop i vs)))
  none_read front vs i v lt is e =
      let there : drop i vs ≡ v ∷ drop (i + 1) vs = drop_more vs i v lt ∙ ap (λ (w : Tree). w ∷ drop (i + 1) vs) (sym is) in
      ap (λ (o : Option A). behind front (option_and_then (λ x. option_map (λ xs. x ∷ xs) (each_of read (items_stated (drop (i + 1) vs)))) o)) e
      ∙ ap (λ (ws : List Tree). behind front (each_of read (items_stated ws))) (sym there)

  pub all_read : (front : List A) (vs : List Tree) (i : ℕ) → length vs ≤ i → Some front ≡ behind front (each_of read (items_stated (drop i vs)))
  all_read front vs i past =
      ap Some (sym (append-nil front)) ∙ ap (λ (ws : List Tree). behind front (each_of read (items_stated ws))) (sym (drop_all i vs past))

  -- as many are read as there are
  each-length : (vs : List Tree) (found : List A) → each_of read (items_stated vs) ≡ Some found → length found ≡ length vs
  each-length [] found e = let same : [] ≡ found = cc in ap length (sym same)
  each-length (v ∷ vs) found e = by (read (stated v)) (each_of read (items_stated vs)) (each-length vs) e
    where
      by : (o : Option A) (more : Option (List A)) → ((xs : List A) → more ≡ Some xs → length xs ≡ length vs)
          → option_and_then (λ x. option_map (λ xs. x ∷ xs) more) o ≡ Some found → length found ≡ suc (length vs)
      by None more further e = absurd cc
      by (Some x) None further e = absurd cc
      by (Some x) (Some xs) further e = let same : x ∷ xs ≡ found = cc in ap length (sym same) ∙ ap suc (further xs refl)

  -- where no list of that length passes, none is kept
  pub none_kept : (test : List A → Bool) (vs : List Tree) → ((xs : List A) → length xs ≡ length vs → test xs ≡ false)
      → option_and_then (kept_if test) (each_of read (items_stated vs)) ≡ None
  none_kept test vs other = by (each_of read (items_stated vs)) (each-length vs)
    where
      by : (o : Option (List A)) → ((xs : List A) → o ≡ Some xs → length xs ≡ length vs) → option_and_then (kept_if test) o ≡ None
      by None count = refl
      by (Some xs) count = ap (λ (b : Bool). if b then Some xs else None) (other xs (count xs refl))

  -- what holds of each that may be read holds of each that is
  pub each-holds : (P : A → Type 0) → ((value : Data) (x : A) → read value ≡ Some x → P x) → (rows : Items) (found : List A) → each_of read rows ≡ Some found → All P found
  each-holds P holds no_items found e = let same : [] ≡ found = cc in subst (All P) same (All-nil P)
  each-holds P holds (item value rest) found e = by (read value) (each_of read rest) refl (each-holds P holds rest) e
    where
      by : (o : Option A) (more : Option (List A)) → read value ≡ o → ((xs : List A) → more ≡ Some xs → All P xs)
          → option_and_then (λ x. option_map (λ xs. x ∷ xs) more) o ≡ Some found → All P found
      by None more is further e = absurd cc
      by (Some x) None is further e = absurd cc
      by (Some x) (Some xs) is further e =
          let same : x ∷ xs ≡ found = cc in
          subst (All P) same (All-cons P x xs (holds value x is) (further xs refl))
