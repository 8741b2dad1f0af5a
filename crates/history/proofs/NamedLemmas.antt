-- The accepted edit that a reference names, and with one edit more.
use Rattle.std.specs.Prelude.{◌≡◌, ℕ, zero, suc, ◌+◌, Bool, true, false, cond, List, [], ◌∷◌, ◌++◌, length, find, slice_get, bytes_eq, Option, Some, None}
use Rattle.std.proofs.Common.{arith, refl, ap, sym, subst, ◌∙◌}
use Rattle.edits.specs.declared.content.Edit.{Edit}
use Rattle.history.specs.Accepted.{Numbered, numbered_from, named}

module _ (reference : List ℕ) where
  abbrev found_from : ℕ → List Edit → Option Numbered
  found_from k edits = find (λ (n : Numbered). bytes_eq n.edit.reference reference) (numbered_from k edits)

  -- where a named edit stands
  pub record StandsAt (k : ℕ) (edits : List Edit) (n : Numbered) : Type 0 where
    pub place : ℕ
    pub number_is : n.number ≡ k + place
    pub edit_is : slice_get edits place ≡ Some n.edit
    pub reference_is : bytes_eq n.edit.reference reference ≡ true

  stands_step : (k : ℕ) (edit : Edit) (edits : List Edit) (n : Numbered) (b : Bool) → bytes_eq edit.reference reference ≡ b
      → cond b (Some (record { number = k; edit = edit })) (found_from (k + 1) edits) ≡ Some n
      → (found_from (k + 1) edits ≡ Some n → StandsAt (k + 1) edits n) → StandsAt k (edit ∷ edits) n
  stands_step k edit edits n true e h rec =
      let same : record { number = k; edit = edit } ≡ n = cc in
      record {
        place = 0;
        number_is = sym (ap (λ (m : Numbered). m.number) same) ∙ omega arith;
        edit_is = ap (λ (m : Numbered). Some m.edit) same;
        reference_is = ap (λ (m : Numbered). bytes_eq m.edit.reference reference) (sym same) ∙ e;
      }
  stands_step k edit edits n false e h rec =
      let r = rec h in
      let number = r.number_is in
      record { place = suc r.place; number_is = number ∙ omega arith; edit_is = r.edit_is; reference_is = r.reference_is }

  stands : (k : ℕ) (edits : List Edit) (n : Numbered) → found_from k edits ≡ Some n → StandsAt k edits n
  unfolding numbered_from
  stands k [] n h = absurd (cc)
  stands k (edit ∷ edits) n h = stands_step k edit edits n (bytes_eq edit.reference reference) refl h (stands (k + 1) edits n)

  pub named_stands : (edits : List Edit) (n : Numbered) → named edits reference ≡ Some n → StandsAt 1 edits n
  named_stands edits n h = stands 1 edits n h

  -- where none is named, no edit has the reference
  none_step : (k : ℕ) (edit : Edit) (edits : List Edit) (place : ℕ) (other : Edit) (b : Bool) → bytes_eq edit.reference reference ≡ b
      → cond b (Some (record { number = k; edit = edit })) (found_from (k + 1) edits) ≡ None
      → ((place : ℕ) → found_from (k + 1) edits ≡ None → slice_get edits place ≡ Some other → bytes_eq other.reference reference ≡ false)
      → slice_get (edit ∷ edits) place ≡ Some other → bytes_eq other.reference reference ≡ false
  none_step k edit edits place other true e h rec s = absurd (cc)
  none_step k edit edits zero other false e h rec s =
      let same : edit ≡ other = cc in
      subst (λ (x : Edit). bytes_eq x.reference reference ≡ false) same e
  none_step k edit edits (suc place) other false e h rec s = rec place h s

  none_has : (k : ℕ) (edits : List Edit) (place : ℕ) (other : Edit) → found_from k edits ≡ None → slice_get edits place ≡ Some other
      → bytes_eq other.reference reference ≡ false
  unfolding numbered_from
  none_has k [] place other h s = absurd (cc)
  none_has k (edit ∷ edits) place other h s =
      none_step k edit edits place other (bytes_eq edit.reference reference) refl h (λ p e t. none_has (k + 1) edits p other e t) s

  pub none_named : (edits : List Edit) (place : ℕ) (other : Edit) → named edits reference ≡ None → slice_get edits place ≡ Some other
      → bytes_eq other.reference reference ≡ false
  none_named edits place other h s = none_has 1 edits place other h s

  -- one edit more
  kept_step : (c : Bool) (own n : Numbered) (old new : Option Numbered) → cond c (Some own) old ≡ Some n → (old ≡ Some n → new ≡ Some n)
      → cond c (Some own) new ≡ Some n
  kept_step true own n old new h rec = h
  kept_step false own n old new h rec = rec h

  found_kept : (k : ℕ) (edits : List Edit) (edit : Edit) (n : Numbered) → found_from k edits ≡ Some n → found_from k (edits ++ edit ∷ []) ≡ Some n
  unfolding numbered_from
  found_kept k [] edit n h = absurd (cc)
  found_kept k (own ∷ edits) edit n h =
      kept_step (bytes_eq own.reference reference) (record { number = k; edit = own }) n (found_from (k + 1) edits) (found_from (k + 1) (edits ++ edit ∷ [])) h
      (found_kept (k + 1) edits edit n)

  new_step : (c : Bool) (own : Numbered) (old new last : Option Numbered) → cond c (Some own) old ≡ None → (old ≡ None → new ≡ last)
      → cond c (Some own) new ≡ last
  new_step true own old new last h rec = absurd (cc)
  new_step false own old new last h rec = rec h

  found_new : (k : ℕ) (edits : List Edit) (edit : Edit) → found_from k edits ≡ None
      → found_from k (edits ++ edit ∷ []) ≡ cond (bytes_eq edit.reference reference) (Some (record { number = k + length edits; edit = edit })) None
  unfolding numbered_from
  found_new k [] edit h = ap (λ i. cond (bytes_eq edit.reference reference) (Some (record { number = i; edit = edit })) None) (omega arith)
  found_new k (own ∷ edits) edit h =
      new_step (bytes_eq own.reference reference) (record { number = k; edit = own }) (found_from (k + 1) edits) (found_from (k + 1) (edits ++ edit ∷ []))
      (cond (bytes_eq edit.reference reference) (Some (record { number = k + length (own ∷ edits); edit = edit })) None) h
      (λ e. found_new (k + 1) edits edit e
      ∙ ap (λ i. cond (bytes_eq edit.reference reference) (Some (record { number = i; edit = edit })) None) (omega arith))

  -- an edit more leaves what is named, and names itself where nothing was
  pub named_kept : (edits : List Edit) (edit : Edit) (n : Numbered) → named edits reference ≡ Some n → named (edits ++ edit ∷ []) reference ≡ Some n
  named_kept edits edit n h = found_kept 1 edits edit n h

  pub named_new : (edits : List Edit) (edit : Edit) → named edits reference ≡ None
      → named (edits ++ edit ∷ []) reference ≡ cond (bytes_eq edit.reference reference) (Some (record { number = 1 + length edits; edit = edit })) None
  named_new edits edit h = found_new 1 edits edit h
