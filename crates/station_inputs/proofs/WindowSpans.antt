-- The instants of the first and the last reading of a day's window.
use Rattle.std.specs.Prelude.{◌≡◌, ◌*◌, Bool, true, false, cond, List, [], ◌∷◌, ◌++◌, filter, find, reverse, Option, Some, None, option_to_list, IfSome, ℤ, pos, ◌+ℤ◌, ◌≤ℤ◌, ◌<ℤ◌}
use Rattle.std.specs.Option.{unwrap_or}
use Rattle.std.proofs.Common.{arith, refl, ap, sym, subst, ◌∙◌}
use Rattle.std.proofs.lemmas.Int.{ints}
use Rattle.std.proofs.lemmas.List.{append-nil}
use Rattle.std.proofs.lemmas.List.Elements.{All-head}
use Rattle.fixed_units.specs.declared.readings.Reading.{Reading}
use Rattle.rising.specs.Ends.{first, last}
use Rattle.rising.proofs.Ends.{last-cons, last-append}
use Rattle.rising.proofs.Selecting.{AllPairs-head, AllPairs-tail}
use Rattle.readings.specs.Readings.{IsRising, is_used}
use Rattle.readings.specs.Window.{of_day, with_neighbours, window_after, window_before}
use Rattle.readings.proofs.Selecting.{reverse-cons, reverse-filter}
use Rattle.readings.proofs.WindowLemmas.{window_rises}
use Rattle.day_inputs.specs.DayInputs.{ends_of, last_at, window_ends}
use Rattle.day_inputs.proofs.WindowEnds.{ends_are}
use Rattle.station_inputs.specs.KeptStation.{IsStation, KeptStation}
use Rattle.station_inputs.specs.Stations.{StationState, day_start, station_window}
use Rattle.station_inputs.proofs.HeldInputs.{lent_window}

-- the first that is found is the first of those that pass, and the last is the last of them
first_step : {X : Type 0} (x : X) (b : Bool) (o : Option X) (xs : List X) → o ≡ first xs → cond b (Some x) o ≡ first (cond b (x ∷ xs) xs)
first_step x true o xs e = refl
first_step x false o xs e = e

first_found : {X : Type 0} (p : X → Bool) (xs : List X) → find p xs ≡ first (filter p xs)
first_found p [] = refl
first_found p (x ∷ xs) = first_step x (p x) (find p xs) (filter p xs) (first_found p xs)

first_back : {X : Type 0} (xs ys : List X) (x : X) → first ys ≡ Some x → first (ys ++ xs) ≡ Some x
first_back xs [] x e = absurd (cc)
first_back xs (y ∷ ys) x e = e

some_last : {X : Type 0} (x : X) (xs : List X) → (z : X) × (last (x ∷ xs) ≡ Some z)
some_last x [] = (x, refl)
some_last x (y ∷ ys) = let k = some_last y ys in (k.0, last-cons x y ys ∙ k.1)

last_back : {X : Type 0} (x : X) (xs : List X) → first (reverse (x ∷ xs)) ≡ last (x ∷ xs)
last_back x [] = refl
last_back x (y ∷ ys) =
    let k = some_last y ys in
    ap first (reverse-cons x (y ∷ ys)) ∙ first_back (x ∷ []) (reverse (y ∷ ys)) k.0 (last_back y ys ∙ k.1) ∙ sym k.1 ∙ sym (last-cons x y ys)

last_reversed : {X : Type 0} (xs : List X) → first (reverse xs) ≡ last xs
last_reversed [] = refl
last_reversed (x ∷ xs) = last_back x xs

last_found : {X : Type 0} (p : X → Bool) (xs : List X) → find p (reverse xs) ≡ last (filter p xs)
last_found p xs = first_found p (reverse xs) ∙ ap first (sym (reverse-filter p xs)) ∙ last_reversed (filter p xs)

-- the ends of a window with these neighbours
ends_with : (w : List Reading) (f l : Reading) → first w ≡ Some f → last w ≡ Some l → window_ends w ≡ Some (f.at, l.at)
ends_with w f l e g = sym (ends_are w) ∙ ap (λ (o : Option Reading). ends_of o (last w)) e ∙ ap (λ (o : Option Reading). ends_of (Some f) o) g

last_with : (x : Reading) (xs : List Reading) (after : Option Reading) (l : Reading) → last (x ∷ xs) ≡ Some l → last (x ∷ (xs ++ option_to_list after)) ≡ Some (unwrap_or after l)
last_with x xs None l e = ap (λ (ys : List Reading). last (x ∷ ys)) (append-nil xs) ∙ e
last_with x xs (Some s) l e = last-append (x ∷ xs) s []

lent_ends : (before after : Option Reading) (u : List Reading) (f l : Reading) → first u ≡ Some f → last u ≡ Some l
    → window_ends (with_neighbours before u after) ≡ Some ((unwrap_or before f).at, (unwrap_or after l).at)
lent_ends before after [] f l e g = absurd (cc)
lent_ends None after (x ∷ xs) f l e g = ends_with (x ∷ (xs ++ option_to_list after)) f (unwrap_or after l) e (last_with x xs after l g)
lent_ends (Some r) after (x ∷ xs) f l e g =
    ends_with (r ∷ x ∷ (xs ++ option_to_list after)) r (unwrap_or after l) refl (last-cons r x (xs ++ option_to_list after) ∙ last_with x xs after l g)

pub span_found : (before after : Option Reading) (rs : List Reading) (f l x y : Reading) → find is_used rs ≡ Some f → find is_used (reverse rs) ≡ Some l
    → x ≡ unwrap_or before f → y ≡ unwrap_or after l → Some (x.at, y.at) ≡ window_ends (with_neighbours before (filter is_used rs) after)
span_found before after rs f l x y e g h i =
    ap (λ (r : Reading). Some (r.at, y.at)) h ∙ ap (λ (r : Reading). Some ((unwrap_or before f).at, r.at)) i
    ∙ sym (lent_ends before after (filter is_used rs) f l (sym (first_found is_used rs) ∙ e) (sym (last_found is_used rs) ∙ g))

none_lent : (before after : Option Reading) (u : List Reading) → first u ≡ None → None ≡ window_ends (with_neighbours before u after)
none_lent before after [] e = refl
none_lent before after (x ∷ xs) e = absurd (cc)

pub no_span_found : (before after : Option Reading) (rs : List Reading) → find is_used rs ≡ None
    → None ≡ window_ends (with_neighbours before (filter is_used rs) after)
no_span_found before after rs e = none_lent before after (filter is_used rs) (sym (first_found is_used rs) ∙ e)

-- a window's last reading does not stand before its first
last_later : (r : Reading) (rs : List Reading) → IsRising (r ∷ rs) → r.at ≤ℤ last_at r rs
last_later r [] h = omega (arith, ints)
last_later r (s ∷ ss) h =
    let next = All-head (λ (x : Reading). r.at <ℤ x.at) s ss (AllPairs-head (λ (x y : Reading). x.at <ℤ y.at) r (s ∷ ss) h) in
    let rest = last_later s ss (AllPairs-tail (λ (x y : Reading). x.at <ℤ y.at) r (s ∷ ss) h) in
    omega (arith, ints, next, rest)

abbrev AreOrdered : Option (ℤ × ℤ) → Type 0
AreOrdered span = IfSome span (λ s. s.0 ≤ℤ s.1)

ends_ordered : (w : List Reading) → IsRising w → AreOrdered (window_ends w)
ends_ordered [] h = tt
ends_ordered (r ∷ rs) h = last_later r rs h

span_ordered : (s : StationState) (day : ℤ) (span : Option (ℤ × ℤ)) → IsStation s → span ≡ window_ends (station_window s day) → AreOrdered span
span_ordered s day span k e =
    subst AreOrdered (sym e)
    (ends_ordered (station_window s day) (window_rises (day_start s day) (day_start s (day +ℤ pos 1)) (pos (60 * s.gap)) s.readings k.readings_are.rising))

pub ordered_kept : (kept view : KeptStation) → view ≡ kept → IsStation view.station → (day : ℤ) (span : Option (ℤ × ℤ)) → span ≡ window_ends (station_window kept.station day)
    → AreOrdered span
ordered_kept kept view e k day span h = span_ordered kept.station day span (subst (λ (s : KeptStation). IsStation s.station) e k) h

-- what a station's readings lend is its window
abbrev LentSpan : ℤ → ℤ → ℤ → Option Reading → Option Reading → List Reading → Option (ℤ × ℤ) → KeptStation → KeptStation → Type 0
LentSpan day from until before after rs span view kept =
    from ≡ day_start kept.station day → until ≡ day_start kept.station (day +ℤ pos 1)
    → before ≡ window_before from until (pos (60 * view.station.gap)) view.station.readings → rs ≡ of_day from until view.station.readings
    → after ≡ window_after from until (pos (60 * view.station.gap)) view.station.readings
    → span ≡ window_ends (with_neighbours before (filter is_used rs) after) → span ≡ window_ends (station_window kept.station day)

pub lent_span : (kept view : KeptStation) → view ≡ kept → (day from until : ℤ) (before after : Option Reading) (rs : List Reading) (span : Option (ℤ × ℤ))
    → LentSpan day from until before after rs span view kept
lent_span kept view e day from until before after rs span =
    subst (λ (k : KeptStation). LentSpan day from until before after rs span view k) e
    (λ a b c d g t. t ∙ ap window_ends (lent_window view.station day from until before after rs a b c d g))
