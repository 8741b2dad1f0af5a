-- The members of an object in the order of its text, and what serde_json states of them.
use Rattle.std.proofs.Common.{◌≡◌, ℕ, zero, suc, is_some, All, None, List, [], ◌∷◌, ◌++◌, length, get_or, take, ◌+◌, ◌<◌, ◌==◌, Option, Some, Bool, true, false, not, bytes_eq, is_eq, nat_cmp, Ordering, Less, Equal, Greater, filter, if◌then◌else◌, refl, sym, subst, ap, ◌∙◌, arith, true≢false, ne_eqb}
use Rattle.std.proofs.lemmas.Cmp.{nat_list_cmp_total}
use Rattle.std.proofs.lemmas.List.{take_more}
use Rattle.std.proofs.lemmas.List.Elements.{All-from_all_within, All-head, All-tail}
use Rattle.std.proofs.lemmas.Map.Text.{is_eq-slice_cmp}
use Rattle.std.proofs.lemmas.Slice.Eq.{bytes_eq-Decides}
use Rattle.std.specs.Cmp.Lexicographic.{slice_cmp}
use Rattle.std.specs.List.{AllWithin, HoldsAt, remove}
use Rattle.std.specs.Option.{MatchOption}
use Rattle.std.specs.Ordering.{match_ordering, ordering_reverse}
use Rattle.edit_bodies.specs.Members.{without, is_none_left}
use Rattle.edit_bodies.specs.Trees.{Field, IsFirstPlace, is_named, members_of, members_stated, stated}
use Rattle.json.specs.Value.{members_view}
use Rattle.serde_json.specs.Data.{Data, Members, no_members, member, put}
use Rattle.serde_json.specs.Find.{get_member}
use Rattle.serde_json.proofs.Views.{get_member-put, get_member-put_other}

-- ---- texts

same : (k : List ℕ) → bytes_eq k k ≡ true
same k = (bytes_eq-Decides k k).1 refl

differ : (k l : List ℕ) (b : Bool) → bytes_eq k l ≡ b → (k ≡ l → ⊥) → b ≡ false
differ k l true e other = absurd (other ((bytes_eq-Decides k l).0 e))
differ k l false e other = refl

apart : (k l : List ℕ) → (k ≡ l → ⊥) → bytes_eq k l ≡ false
apart k l other = differ k l _ refl other

turned : (k l : List ℕ) (b : Bool) → bytes_eq k l ≡ b → bytes_eq l k ≡ b
turned k l true e = let is = (bytes_eq-Decides k l).0 e in (bytes_eq-Decides l k).1 (sym is)
turned k l false e = apart l k (λ is. true≢false (sym ((bytes_eq-Decides k l).1 (sym is)) ∙ e))

below : (k l : List ℕ) → slice_cmp nat_cmp k l ≡ Less → bytes_eq k l ≡ false
below k l e = sym (is_eq-slice_cmp k l) ∙ ap is_eq e

above : (k l : List ℕ) → slice_cmp nat_cmp k l ≡ Greater → bytes_eq k l ≡ false
above k l e = sym (is_eq-slice_cmp k l) ∙ ap is_eq e

equal : (k l : List ℕ) → slice_cmp nat_cmp k l ≡ Equal → k ≡ l
equal k l e = (bytes_eq-Decides k l).0 (sym (is_eq-slice_cmp k l) ∙ ap is_eq e)

-- ---- names that rise

abbrev IsAbove : List ℕ → Members → Type 0
IsAbove k no_members = Unit {0}
IsAbove k (member l e ms) = (slice_cmp nat_cmp k l ≡ Less) × IsAbove k ms

abbrev Rises : Members → Type 0
Rises no_members = Unit {0}
Rises (member l e ms) = IsAbove l ms × Rises ms

IsAbove-further : (k l : List ℕ) (ms : Members) → slice_cmp nat_cmp k l ≡ Less → IsAbove l ms → IsAbove k ms
IsAbove-further k l no_members e h = tt
IsAbove-further k l (member n d ms) e h = (nat_list_cmp_total.trans k l n e h.0, IsAbove-further k l ms e h.1)

-- a name that is put stands above each that it is above
put_at : (l k n : List ℕ) (d f : Data) (ms : Members) (o : Ordering) → slice_cmp nat_cmp l k ≡ Less → (slice_cmp nat_cmp l n ≡ Less) × IsAbove l ms → IsAbove l (put k d ms)
    → IsAbove l (match_ordering o (member k d (member n f ms)) (member n d ms) (member n f (put k d ms)))
put_at l k n d f ms Less e h further = (e, h)
put_at l k n d f ms Equal e h further = h
put_at l k n d f ms Greater e h further = (h.0, further)

IsAbove-put : (l k : List ℕ) (d : Data) (ms : Members) → slice_cmp nat_cmp l k ≡ Less → IsAbove l ms → IsAbove l (put k d ms)
IsAbove-put l k d no_members e h = (e, tt)
IsAbove-put l k d (member n f ms) e h = put_at l k n d f ms (slice_cmp nat_cmp k n) e h (IsAbove-put l k d ms e h.1)

rises_at : (k l : List ℕ) (d e : Data) (ms : Members) (o : Ordering) → slice_cmp nat_cmp k l ≡ o → Rises (member l e ms) → Rises (put k d ms)
    → Rises (match_ordering o (member k d (member l e ms)) (member l d ms) (member l e (put k d ms)))
rises_at k l d e ms Less is h further = ((is, IsAbove-further k l ms is h.0), h)
rises_at k l d e ms Equal is h further = h
rises_at k l d e ms Greater is h further =
    let turned : slice_cmp nat_cmp l k ≡ Less = nat_list_cmp_total.antisymm l k ∙ ap ordering_reverse is in
    (IsAbove-put l k d ms turned h.0, further)

Rises-put : (k : List ℕ) (d : Data) (ms : Members) → Rises ms → Rises (put k d ms)
Rises-put k d no_members h = (tt, tt)
Rises-put k d (member l e ms) h = rises_at k l d e ms (slice_cmp nat_cmp k l) refl h (Rises-put k d ms h.1)

-- ---- members without a name

without-above : (name : List ℕ) (ms : Members) → IsAbove name ms → without name ms ≡ ms
without-above name no_members h = refl
without-above name (member l e ms) h = rw (below name l h.0) (ap (member l e) (without-above name ms h.1))

put-above : (k : List ℕ) (d : Data) (ms : Members) → IsAbove k ms → put k d ms ≡ member k d ms
put-above k d no_members h = refl
put-above k d (member l e ms) h = rw h.0 refl

-- what is put at the name is taken out with it
without_at : (name l : List ℕ) (d e : Data) (ms : Members) (o : Ordering) → slice_cmp nat_cmp name l ≡ o → Rises (member l e ms) → without name (put name d ms) ≡ without name ms
    → without name (match_ordering o (member name d (member l e ms)) (member l d ms) (member l e (put name d ms))) ≡ without name (member l e ms)
without_at name l d e ms Less is h further = rw (same name) (sym (without-above name (member l e ms) (is, IsAbove-further name l ms is h.0)))
without_at name l d e ms Equal is h further = let there : bytes_eq name l ≡ true = (bytes_eq-Decides name l).1 (equal name l is) in rw there refl
without_at name l d e ms Greater is h further = rw (above name l is) (ap (member l e) further)

without-put : (name : List ℕ) (d : Data) (ms : Members) → Rises ms → without name (put name d ms) ≡ without name ms
without-put name d no_members h = rw (same name) refl
without-put name d (member l e ms) h = without_at name l d e ms (slice_cmp nat_cmp name l) refl h (without-put name d ms h.1)

-- what is put at another name stays
module _ (name k l : List ℕ) (d e : Data) (ms : Members) (other : bytes_eq name k ≡ false) (h : Rises (member l e ms)) (further : without name (put k d ms) ≡ put k d (without name ms)) where
  put_first : slice_cmp nat_cmp k l ≡ Less → (b : Bool)
      → member k d (if b then ms else member l e (without name ms)) ≡ put k d (if b then ms else member l e (without name ms))
  put_first is true = sym (put-above k d ms (IsAbove-further k l ms is h.0))
  put_first is false = rw is refl

  put_later : slice_cmp nat_cmp k l ≡ Greater → (b : Bool)
      → (if b then put k d ms else member l e (without name (put k d ms))) ≡ put k d (if b then ms else member l e (without name ms))
  put_later is true = refl
  put_later is false = rw is (ap (member l e) further)

  other_at : (o : Ordering) → slice_cmp nat_cmp k l ≡ o
      → without name (match_ordering o (member k d (member l e ms)) (member l d ms) (member l e (put k d ms))) ≡ put k d (without name (member l e ms))
  other_at Less is = rw other (put_first is (bytes_eq name l))
  other_at Equal is =
      let here : bytes_eq name l ≡ false = ap (bytes_eq name) (sym (equal k l is)) ∙ other in
      rw (here, is) refl
  other_at Greater is = put_later is (bytes_eq name l)

without-put_other : (name k : List ℕ) (d : Data) (ms : Members) → bytes_eq name k ≡ false → Rises ms → without name (put k d ms) ≡ put k d (without name ms)
without-put_other name k d no_members other h = rw other refl
without-put_other name k d (member l e ms) other h = other_at name k l d e ms other h (without-put_other name k d ms other h.1) (slice_cmp nat_cmp k l) refl

-- ---- in the order of the text

abbrev others : List ℕ → List Field → List Field
others name fs = filter (λ (f : Field). not (bytes_eq f.0.now name)) fs

-- the fields of other names are the members without the name
module _ (name : List ℕ) (f : Field) (fs : List Field) (found : Members) (h : Rises found)
    (further : members_of (members_view (others name fs)) (without name (put f.0.now (stated f.1) found)) ≡ without name (members_of (members_view fs) (put f.0.now (stated f.1) found))) where
  without_field : (b : Bool) → bytes_eq f.0.now name ≡ b
      → members_of (members_view (if not b then f ∷ others name fs else others name fs)) (without name found) ≡ without name (members_of (members_view fs) (put f.0.now (stated f.1) found))
  without_field true is =
      let named : f.0.now ≡ name = (bytes_eq-Decides f.0.now name).0 is in
      let gone : without name (put f.0.now (stated f.1) found) ≡ without name found = ap (λ k. without name (put k (stated f.1) found)) named ∙ without-put name (stated f.1) found h in
      ap (members_of (members_view (others name fs))) (sym gone) ∙ further
  without_field false is =
      ap (members_of (members_view (others name fs))) (sym (without-put_other name f.0.now (stated f.1) found (turned f.0.now name false is) h)) ∙ further

without-members_of : (name : List ℕ) (fs : List Field) (found : Members) → Rises found
    → members_of (members_view (others name fs)) (without name found) ≡ without name (members_of (members_view fs) found)
without-members_of name [] found h = refl
without-members_of name (f ∷ fs) found h =
    without_field name f fs found h (without-members_of name fs (put f.0.now (stated f.1) found) (Rises-put f.0.now (stated f.1) found h)) (bytes_eq f.0.now name) refl

pub members_stated-filter : (name : List ℕ) (fs : List Field) → members_stated (filter (λ (f : Field). not (bytes_eq f.0.now name)) fs) ≡ without name (members_stated fs)
members_stated-filter name fs = without-members_of name fs no_members tt

-- without the first field of a name the same fields of other names are left
others-removed : (name : List ℕ) (fs : List Field) (i : ℕ) → i < length fs → HoldsAt (λ f. is_named name f ≡ true) fs i → others name (remove fs i) ≡ others name fs
others-removed name [] i h k = absurd (omega (arith, h))
others-removed name (f ∷ fs) zero h k = let e : bytes_eq f.0.now name ≡ true = k f in rw e refl
others-removed name (f ∷ fs) (suc i) h k =
    ap (λ (rest : List Field). if not (bytes_eq f.0.now name) then f ∷ rest else rest) (others-removed name fs i (omega (arith, h)) k)

without-removed : (name : List ℕ) (fs rest : List Field) (i : ℕ) → rest ≡ remove fs i → i < length fs → HoldsAt (λ f. is_named name f ≡ true) fs i
    → without name (members_stated rest) ≡ without name (members_stated fs)
without-removed name fs rest i e h k =
    sym (members_stated-filter name rest) ∙ ap members_stated (ap (others name) e ∙ others-removed name fs i h k) ∙ members_stated-filter name fs

-- without a field of a name nothing is taken out
others-none : (name : List ℕ) (fs : List Field) → All (λ f. is_named name f ≡ false) fs → others name fs ≡ fs
others-none name [] h = refl
others-none name (f ∷ fs) h =
    let e : bytes_eq f.0.now name ≡ false = All-head (λ (g : Field). is_named name g ≡ false) f fs h in
    rw e (ap (λ (rest : List Field). f ∷ rest) (others-none name fs (All-tail (λ (g : Field). is_named name g ≡ false) f fs h)))

without-none : (name : List ℕ) (fs : List Field) → All (λ f. is_named name f ≡ false) fs → members_stated fs ≡ without name (members_stated fs)
without-none name fs h = ap members_stated (sym (others-none name fs h)) ∙ members_stated-filter name fs

-- a search finds the first place
pub first_place : (name : List ℕ) (fs : List Field) (found : Option ℕ)
    → MatchOption found (AllWithin (λ f. is_named name f ≡ false) fs 0 (length fs)) (λ i. (i < length fs) × HoldsAt (λ f. is_named name f ≡ true) fs i × AllWithin (λ f. is_named name f ≡ false) fs 0 i)
    → IsFirstPlace name fs found
first_place name fs None h = All-from_all_within (λ (f : Field). is_named name f ≡ false) fs h
first_place name fs (Some i) h = h

pub none_found : (name : List ℕ) (fs : List Field) (found : Option ℕ) → IsFirstPlace name fs found → is_some found ≡ false → members_stated fs ≡ without name (members_stated fs)
none_found name fs None h e = without-none name fs h
none_found name fs (Some i) h e = absurd (cc)

pub without-found : (name : List ℕ) (fs rest : List Field) (found : Option ℕ) (i : ℕ) → IsFirstPlace name fs found → found ≡ Some i → rest ≡ remove fs i
    → without name (members_stated rest) ≡ without name (members_stated fs)
without-found name fs rest found i h is e =
    let there : IsFirstPlace name fs (Some i) = subst (λ (o : Option ℕ). IsFirstPlace name fs o) is h in
    without-removed name fs rest i e there.0 there.1

-- one more field is put in
members_of-push : (fs : List Field) (f : Field) (found : Members) → members_of (members_view (fs ++ f ∷ [])) found ≡ put f.0.now (stated f.1) (members_of (members_view fs) found)
members_of-push [] f found = refl
members_of-push (g ∷ fs) f found = members_of-push fs f (put g.0.now (stated g.1) found)

found_at : (name : List ℕ) (f : Field) (before : Members) (b : Bool) → bytes_eq f.0.now name ≡ b
    → get_member name (put f.0.now (stated f.1) before) ≡ (if b then Some (stated f.1) else get_member name before)
found_at name f before true is =
    let named : f.0.now ≡ name = (bytes_eq-Decides f.0.now name).0 is in
    ap (λ k. get_member k (put f.0.now (stated f.1) before)) (sym named) ∙ get_member-put f.0.now (stated f.1) before
found_at name f before false is = get_member-put_other name f.0.now (stated f.1) before (λ e. true≢false (sym ((bytes_eq-Decides f.0.now name).1 (sym e)) ∙ is))

one_more_field : (name : List ℕ) (fs : List Field) (i : ℕ) (none : Field) → i < length fs
    → get_member name (members_stated (take (i + 1) fs)) ≡ (if bytes_eq (get_or fs i none).0.now name then Some (stated (get_or fs i none).1) else get_member name (members_stated (take i fs)))
one_more_field name fs i none lt =
    ap (λ l. get_member name (members_stated l)) (take_more fs i none lt) ∙ ap (get_member name) (members_of-push (take i fs) (get_or fs i none) no_members)
    ∙ found_at name (get_or fs i none) (members_stated (take i fs)) (bytes_eq (get_or fs i none).0.now name) refl

-- a field of the name is the one that counts, and another is passed over
module _ (name : List ℕ) (fs : List Field) (i : ℕ) (f : Field) (lt : i < length fs) (is : f ≡ get_or fs i f) where
  abbrev next : Bool → Option Data
  next b = if b then Some (stated f.1) else get_member name (members_stated (take i fs))

  counted : get_member name (members_stated (take (i + 1) fs)) ≡ next (bytes_eq f.0.now name)
  counted = one_more_field name fs i f lt ∙ ap (λ (g : Field). if bytes_eq g.0.now name then Some (stated g.1) else get_member name (members_stated (take i fs))) (sym is)

  pub field_found : bytes_eq f.0.now name ≡ true → Some (stated f.1) ≡ get_member name (members_stated (take (i + 1) fs))
  field_found named = sym (counted ∙ ap next named)

  pub field_passed : bytes_eq f.0.now name ≡ false → get_member name (members_stated (take i fs)) ≡ get_member name (members_stated (take (i + 1) fs))
  field_passed other = sym (counted ∙ ap next other)

-- ---- none left

some_put : (k : List ℕ) (d : Data) (ms : Members) → is_none_left (put k d ms) ≡ false
some_put k d no_members = refl
some_put k d (member l e ms) = by (slice_cmp nat_cmp k l)
  where
    by : (o : Ordering) → is_none_left (match_ordering o (member k d (member l e ms)) (member l d ms) (member l e (put k d ms))) ≡ false
    by Less = refl
    by Equal = refl
    by Greater = refl

some_left : (fs : List Field) (found : Members) → is_none_left found ≡ false → is_none_left (members_of (members_view fs) found) ≡ false
some_left [] found h = h
some_left (f ∷ fs) found h = some_left fs (put f.0.now (stated f.1) found) (some_put f.0.now (stated f.1) found)

pub none_left : (none : Bool) (n : ℕ) (fs : List Field) → length fs ≡ n → none ≡ (n == 0) → none ≡ is_none_left (members_stated fs)
none_left none n [] count is = is ∙ ap (λ (m : ℕ). m == 0) (sym count)
none_left none n (f ∷ fs) count is = is ∙ ap (λ (m : ℕ). m == 0) (sym count) ∙ ne_eqb (length (f ∷ fs)) 0 (λ z. omega arith) ∙ sym (some_left fs (put f.0.now (stated f.1) no_members) refl)
