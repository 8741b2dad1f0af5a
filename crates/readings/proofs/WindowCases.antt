-- A window by cases is the window, and there is one.
use Rattle.std.specs.Prelude.{◌≡◌, Bool, true, false, List, [], ◌∷◌, ◌++◌, ℤ, ◌<ℤ◌, ◌≤ℤ◌, ◌-ℤ◌, int_le, filter, find, reverse, Option, Some, None, cond}
use Rattle.std.proofs.Common.{refl, ap, sym, ◌∙◌}
use Rattle.std.proofs.lemmas.List.{reverse-append, reverse-reverse}
use Rattle.fixed_units.specs.declared.readings.Reading.{Reading}
use Rattle.rising.proofs.Parting.{le_yes, le_no, yes_le}
use Rattle.readings.proofs.Selecting.{reverse-cons, reverse-filter}
use Rattle.readings.proofs.HalvesLemmas.{told_gt}
use Rattle.readings.specs.Window.{inner, near, lead, follow, neighbour_before, neighbour_after, with_neighbours, window, used_before, used_from, IsLead, IsFollow, IsWindow}
use Rattle.readings.proofs.WindowParts.{is_early, is_late}

-- the first of a list
abbrev head : List Reading → Option Reading
head [] = None
head (r ∷ rs) = Some r

head_step : (r : Reading) (b : Bool) (o : Option Reading) (l : List Reading) → o ≡ head l → cond b (Some r) o ≡ head (cond b (r ∷ l) l)
head_step r true o l h = refl
head_step r false o l h = h

-- what is found is the first that passes
found_head : (p : Reading → Bool) (rs : List Reading) → find p rs ≡ head (filter p rs)
found_head p [] = refl
found_head p (r ∷ rs) = head_step r (p r) (find p rs) (filter p rs) (found_head p rs)

-- a list and its reverse
turned : (rs front : List Reading) (r : Reading) → rs ≡ front ++ r ∷ [] → reverse rs ≡ r ∷ reverse front
turned rs front r e = ap reverse e ∙ reverse-append front (r ∷ [])

turned_back : (rs rest : List Reading) (r : Reading) → reverse rs ≡ r ∷ rest → rs ≡ reverse rest ++ r ∷ []
turned_back rs rest r e = sym (reverse-reverse rs) ∙ ap reverse e ∙ reverse-cons r rest

near_yes : (gap distance : ℤ) (r : Reading) → distance ≤ℤ gap → near gap distance r ≡ Some r
near_yes gap distance r h = let e = le_yes distance gap h in rw e refl

near_no : (gap distance : ℤ) (r : Reading) → gap <ℤ distance → near gap distance r ≡ None
near_no gap distance r h = let e = le_no distance gap h in rw e refl

first_same : (r q : Reading) (rs qs : List Reading) → r ∷ rs ≡ q ∷ qs → r ≡ q
first_same r q rs qs e = cc

-- the neighbour before, by the used readings before the day from the last one on
lead_one : (a gap : ℤ) (rs l : List Reading) (o : Option Reading) → reverse (used_before a rs) ≡ l → IsLead a gap rs o → o ≡ lead a gap (head l)
lead_one a gap rs [] None e h = refl
lead_one a gap rs [] (Some r) e h = let f = turned (used_before a rs) h.0.0 r h.0.1 in absurd (cc)
lead_one a gap rs (q ∷ l) None e h = sym (near_no gap (a -ℤ q.at) q (h (reverse l) q (turned_back (used_before a rs) l q e)))
lead_one a gap rs (q ∷ l) (Some r) e h =
    let same : r ≡ q = first_same r q (reverse h.0.0) l (sym (turned (used_before a rs) h.0.0 r h.0.1) ∙ e) in
    sym (near_yes gap (a -ℤ r.at) r h.1) ∙ ap (λ (s : Reading). near gap (a -ℤ s.at) s) same

lead_near : (a gap : ℤ) (rs l : List Reading) (q : Reading) (b : Bool) → reverse (used_before a rs) ≡ q ∷ l → int_le (a -ℤ q.at) gap ≡ b
    → IsLead a gap rs (cond b (Some q) None)
lead_near a gap rs l q true e k = ((reverse l, turned_back (used_before a rs) l q e), yes_le (a -ℤ q.at) gap k)
lead_near a gap rs l q false e k =
    λ front r f.
    let same : r ≡ q = first_same r q (reverse front) l (sym (turned (used_before a rs) front r f) ∙ e) in
    let far : gap <ℤ (a -ℤ q.at) = told_gt (a -ℤ q.at) gap (a -ℤ q.at) gap refl refl k in rw same far

lead_some : (a gap : ℤ) (rs l : List Reading) → reverse (used_before a rs) ≡ l → IsLead a gap rs (lead a gap (head l))
lead_some a gap rs [] e = λ front r f. let g = turned (used_before a rs) front r f in absurd (cc)
lead_some a gap rs (q ∷ l) e = lead_near a gap rs l q (int_le (a -ℤ q.at) gap) e refl

lead_is : (a gap : ℤ) (rs : List Reading) → neighbour_before a gap rs ≡ lead a gap (head (reverse (used_before a rs)))
lead_is a gap rs = ap (lead a gap) (found_head (is_early a) (reverse rs) ∙ ap head (sym (reverse-filter (is_early a) rs)))

-- the neighbour behind, by the used readings from the day's end on
follow_one : (b gap : ℤ) (rs l : List Reading) (o : Option Reading) → used_from b rs ≡ l → IsFollow b gap rs o → o ≡ follow b gap (head l)
follow_one b gap rs [] None e h = refl
follow_one b gap rs [] (Some r) e h = let f = h.0.1 in absurd (cc)
follow_one b gap rs (q ∷ l) None e h = sym (near_no gap (q.at -ℤ b) q (h l q e))
follow_one b gap rs (q ∷ l) (Some r) e h =
    let same : r ≡ q = first_same r q h.0.0 l (sym h.0.1 ∙ e) in
    sym (near_yes gap (r.at -ℤ b) r h.1) ∙ ap (λ (s : Reading). near gap (s.at -ℤ b) s) same

follow_near : (b gap : ℤ) (rs l : List Reading) (q : Reading) (c : Bool) → used_from b rs ≡ q ∷ l → int_le (q.at -ℤ b) gap ≡ c
    → IsFollow b gap rs (cond c (Some q) None)
follow_near b gap rs l q true e k = ((l, e), yes_le (q.at -ℤ b) gap k)
follow_near b gap rs l q false e k =
    λ rest r f.
    let same : r ≡ q = first_same r q rest l (sym f ∙ e) in
    let far : gap <ℤ (q.at -ℤ b) = told_gt (q.at -ℤ b) gap (q.at -ℤ b) gap refl refl k in rw same far

follow_some : (b gap : ℤ) (rs l : List Reading) → used_from b rs ≡ l → IsFollow b gap rs (follow b gap (head l))
follow_some b gap rs [] e = λ rest r f. absurd (cc)
follow_some b gap rs (q ∷ l) e = follow_near b gap rs l q (int_le (q.at -ℤ b) gap) e refl

follow_is : (b gap : ℤ) (rs : List Reading) → neighbour_after b gap rs ≡ follow b gap (head (used_from b rs))
follow_is b gap rs = ap (follow b gap) (found_head (is_late b) rs)

pub one_window : (a b gap : ℤ) (rs list : List Reading) → IsWindow a b gap rs list → list ≡ window a b gap rs
one_window a b gap rs list h =
    let e : h.before ≡ neighbour_before a gap rs = lead_one a gap rs (reverse (used_before a rs)) h.before refl h.lead ∙ sym (lead_is a gap rs) in
    let f : h.after ≡ neighbour_after b gap rs = follow_one b gap rs (used_from b rs) h.after refl h.follow ∙ sym (follow_is b gap rs) in
    h.whole
    ∙ ap (λ (o : Option Reading). with_neighbours o (inner a b rs) h.after) e
    ∙ ap (λ (o : Option Reading). with_neighbours (neighbour_before a gap rs) (inner a b rs) o) f

pub some_window : (a b gap : ℤ) (rs : List Reading) → IsWindow a b gap rs (window a b gap rs)
some_window a b gap rs = record {
  before = lead a gap (head (reverse (used_before a rs)));
  after = follow b gap (head (used_from b rs));
  lead = lead_some a gap rs (reverse (used_before a rs)) refl;
  follow = follow_some b gap rs (used_from b rs) refl;
  whole =
      ap (λ (o : Option Reading). with_neighbours o (inner a b rs) (neighbour_after b gap rs)) (lead_is a gap rs)
      ∙ ap (λ (o : Option Reading). with_neighbours (lead a gap (head (reverse (used_before a rs)))) (inner a b rs) o) (follow_is b gap rs);
}
