-- A walk over readings that are put, by the days that they are of.
use Rattle.std.specs.Prelude.{◌≡◌, ℕ, ◌<◌, Bool, true, false, ◌&&◌, ◌⊎◌, List, [], ◌∷◌, ◌++◌, filter, length, take, drop, slice_get, Some, None, ℤ, pos, ◌+ℤ◌, ◌≤ℤ◌, ◌<ℤ◌, int_lt, int_le, All}
use Rattle.std.proofs.Common.{arith, refl, ap, sym, subst, inl, inr, ◌∙◌}
use Rattle.std.proofs.lemmas.Int.{ints}
use Rattle.std.proofs.lemmas.List.{append_assoc, length-append, take-append-drop}
use Rattle.std.proofs.lemmas.List.Elements.{All-cons, All-head, All-weaker, filter-append, filter_passes}
use Rattle.std.proofs.lemmas.List.Kept.{AllPairs-filter}
use Rattle.civil_days.specs.Starts.{IsIn, IsZone}
use Rattle.civil_days.proofs.RiseLemmas.{one_day}
use Rattle.edits.specs.Lawful.{IsPutReading}
use Rattle.fixed_units.specs.Quantities.{IsDay, IsStamp}
use Rattle.fixed_units.specs.declared.readings.Reading.{Reading}
use Rattle.fixed_units.proofs.CalendarLemmas.{calendar_any, calendar_any_none}
use Rattle.rising.specs.Lists as lists
use Rattle.rising.proofs.Parting.{le_yes, lt_no}
use Rattle.rising.proofs.Placing.{IsFrom, from_is_from}
use Rattle.rising.proofs.Selecting.{All-back, AllPairs-back, AllPairs-head, filter_all, filter_both, filter_none}
use Rattle.rising.proofs.Splitting.{compared}
use Rattle.readings.specs.Readings.{IsRising, instant_of, put_all}
use Rattle.readings.specs.Window.{is_of_day, of_day}
use Rattle.station_inputs.specs.Counts.{day_count, passes, passes_a_day}
use Rattle.station_inputs.specs.Stations.{StationState, day_start, with_readings}
use Rattle.station_inputs.proofs.DayCounts.{day_passes, day_put, day_twice, of_station, told_by}

-- of a day that was walked over: none of its readings is left, and it passes no limit; no reading of any other day was walked over
abbrev DayTold : StationState → ℕ → List Reading → List Reading → List Reading → ℤ → Type 0
DayTold s limit all done rest day = (of_station s day done ≡ []) ⊎ ((of_station s day rest ≡ []) × (told_by limit s day all ≡ false))

pub record AreTold (s : StationState) (limit : ℕ) (all rest : List Reading) : Type 0 where
  pub done : List Reading
  pub whole : all ≡ done ++ rest
  pub days : (day : ℤ) → IsDay day → DayTold s limit all done rest day

pub none_done : (s : StationState) (limit : ℕ) (all : List Reading) → AreTold s limit all all
none_done s limit all = record { done = []; whole = refl; days = λ day i. inl refl }

-- an instant is of a day exactly where the test says so
of_its_day : (s : StationState) (day : ℤ) (r : Reading) → IsIn s.zone day r.at → is_of_day (day_start s day) (day_start s (day +ℤ pos 1)) r ≡ true
of_its_day s day r m = let f = m.from in let u = m.until in grind (arith, ints)

is_in : (s : StationState) (day : ℤ) (r : Reading) (b : Bool) → is_of_day (day_start s day) (day_start s (day +ℤ pos 1)) r ≡ b → b ≡ true → IsIn s.zone day r.at
is_in s day r b e t = record { from = grind (arith, ints, e, t); until = grind (arith, ints, e, t) }

-- what is left from a reading on is no earlier than it
pub from_first : (rest : List Reading) (r : Reading) (a : ℤ) → Some r ≡ slice_get rest 0 → IsRising rest → a ≤ℤ r.at → All (λ x. a ≤ℤ x.at) rest
from_first [] r a e h l = absurd (cc)
from_first (x ∷ xs) r a e h l =
    let same : r ≡ x = cc in
    let own : a ≤ℤ x.at = subst (λ (y : Reading). a ≤ℤ y.at) same l in
    All-cons (λ y. a ≤ℤ y.at) x xs own
    (All-weaker (λ y. x.at <ℤ y.at) (λ y. a ≤ℤ y.at) (λ y k. omega (arith, ints, k, own)) xs (AllPairs-head (λ y z. y.at <ℤ z.at) x xs h))

-- so those before the end of its day are those of the day
pub day_of_rest : (a b : ℤ) (rest part : List Reading) → All (λ x. a ≤ℤ x.at) rest → part ≡ lists.before instant_of b rest → part ≡ of_day a b rest
day_of_rest a b rest part h e =
    let all : filter (λ (x : Reading). int_le a x.at) rest ≡ rest =
    filter_all (λ (x : Reading). int_le a x.at) rest (All-weaker (λ x. a ≤ℤ x.at) (λ x. int_le a x.at ≡ true) (λ x k. le_yes a x.at k) rest h) in
    e ∙ sym (ap (λ (l : List Reading). lists.before instant_of b l) all) ∙ filter_both (λ (x : Reading). int_le a x.at) (λ (x : Reading). int_lt x.at b) rest

-- of a day in which readings are left none was walked over
some_left : (s : StationState) (day : ℤ) (r : Reading) (rest : List Reading) → Some r ≡ slice_get rest 0 → IsIn s.zone day r.at → of_station s day rest ≡ [] → ⊥
some_left s day r [] e m n = absurd (cc)
some_left s day r (x ∷ xs) e m n =
    let same : r ≡ x = cc in
    let t : is_of_day (day_start s day) (day_start s (day +ℤ pos 1)) x ≡ true = subst (λ (y : Reading). is_of_day (day_start s day) (day_start s (day +ℤ pos 1)) y ≡ true) same (of_its_day s day r m) in
    let k : of_station s day (x ∷ xs) ≡ x ∷ of_station s day xs = rw t refl in
    absurd (let f : x ∷ of_station s day xs ≡ [] = sym k ∙ n in cc)

unwalked : (s : StationState) (limit : ℕ) (all done rest : List Reading) (day : ℤ) (r : Reading) → Some r ≡ slice_get rest 0 → IsIn s.zone day r.at
    → DayTold s limit all done rest day → of_station s day done ≡ []
unwalked s limit all done rest day r e m (inl h) = h
unwalked s limit all done rest day r e m (inr h) = absurd (some_left s day r rest e m h.0)

late_step : (b c : Bool) → c ≡ false → (b && c) ≡ false
late_step true c e = e
late_step false c e = refl

-- what is left rises, and is of readings that may be put
pub rest_rises : (s : StationState) (limit : ℕ) (all rest : List Reading) → AreTold s limit all rest → IsRising all → IsRising rest
rest_rises s limit all rest t h =
    AllPairs-back (λ (x y : Reading). x.at <ℤ y.at) t.done rest (subst (λ (l : List Reading). IsRising l) t.whole h)

pub rest_each : (s : StationState) (limit : ℕ) (all rest : List Reading) → AreTold s limit all rest → All IsPutReading all → All IsPutReading rest
rest_each s limit all rest t h = All-back IsPutReading t.done rest (subst (λ (l : List Reading). All IsPutReading l) t.whole h)

pub first_stamp : (rest : List Reading) (r : Reading) → Some r ≡ slice_get rest 0 → All IsPutReading rest → IsStamp r.at
first_stamp [] r e h = absurd (cc)
first_stamp (x ∷ xs) r e h =
    let same : r ≡ x = cc in
    subst (λ (y : Reading). IsStamp y.at) (sym same) (All-head IsPutReading x xs h).stamp

-- one day of those that are left: where it begins, and the parts before and from its end
pub record IsStep (s : StationState) (limit : ℕ) (all rest : List Reading) (day : ℤ) (r : Reading) (part later : List Reading) : Type 0 where
  pub told : AreTold s limit all rest
  pub zone : IsZone s.zone
  pub rising : IsRising rest
  pub first : Some r ≡ slice_get rest 0
  pub day_is : IsDay day
  pub day_in : IsIn s.zone day r.at
  pub parted : rest ≡ part ++ later
  pub early : part ≡ lists.before instant_of (day_start s (day +ℤ pos 1)) rest
  pub late : later ≡ lists.from instant_of (day_start s (day +ℤ pos 1)) rest

pub a_step : (s : StationState) (limit : ℕ) (all rest : List Reading) (day until : ℤ) (k : ℕ) (r : Reading) (part later : List Reading) → AreTold s limit all rest
    → IsZone s.zone → IsRising all → Some r ≡ slice_get rest 0 → IsDay day → IsIn s.zone day r.at → until ≡ day_start s (day +ℤ pos 1)
    → part ≡ take k rest → later ≡ drop k rest → take k rest ≡ lists.before instant_of until rest → drop k rest ≡ lists.from instant_of until rest
    → IsStep s limit all rest day r part later
a_step s limit all rest day until k r part later t z h f d i u p l front back = record {
  told = t;
  zone = z;
  rising = rest_rises s limit all rest t h;
  first = f;
  day_is = d;
  day_in = i;
  parted = sym (take-append-drop k rest) ∙ rw (p, l) refl;
  early = p ∙ front ∙ ap (λ (n : ℤ). lists.before instant_of n rest) u;
  late = l ∙ back ∙ ap (λ (n : ℤ). lists.from instant_of n rest) u;
}

module _ (s : StationState) (limit : ℕ) (all rest : List Reading) (day : ℤ) (r : Reading) (part later : List Reading) where
  abbrev Step : Type 0
  Step = IsStep s limit all rest day r part later

  part_is : Step → part ≡ of_station s day rest
  part_is h =
      day_of_rest (day_start s day) (day_start s (day +ℤ pos 1)) rest part (from_first rest r (day_start s day) h.first h.rising h.day_in.from) h.early

  pub part_within : Step → of_station s day part ≡ part
  part_within h =
      let p = part_is h in
      ap (of_station s day) p ∙ day_twice (day_start s day) (day_start s (day +ℤ pos 1)) rest ∙ sym p

  pub part_rises : Step → IsRising part
  part_rises h =
      subst (λ (l : List Reading). IsRising l) (sym h.early)
      (AllPairs-filter (λ (x y : Reading). x.at <ℤ y.at) (λ (x : Reading). int_lt x.at (day_start s (day +ℤ pos 1))) rest h.rising)

  -- the readings of the day that are put are those of the part
  day_of_all : Step → of_station s day all ≡ part
  day_of_all h =
      let t = h.told in
      ap (of_station s day) t.whole ∙ filter-append (is_of_day (day_start s day) (day_start s (day +ℤ pos 1))) t.done rest
      ∙ ap (λ (l : List Reading). l ++ of_station s day rest) (unwalked s limit all t.done rest day r h.first h.day_in (t.days day h.day_is))
      ∙ sym (part_is h)

  same_told : Step → IsRising s.readings → told_by limit s day part ≡ told_by limit s day all
  same_told h k =
      let a = day_start s day in
      let b = day_start s (day +ℤ pos 1) in
      let one : of_day a b (put_all part s.readings) ≡ put_all part (of_day a b s.readings) =
      day_put a b part s.readings k ∙ ap (λ (l : List Reading). put_all l (of_day a b s.readings)) (part_within h) in
      let two : of_day a b (put_all all s.readings) ≡ put_all part (of_day a b s.readings) =
      day_put a b all s.readings k ∙ ap (λ (l : List Reading). put_all l (of_day a b s.readings)) (day_of_all h) in
      ap (λ (l : List Reading). passes limit (day_count s day) (length l)) (one ∙ sym two)

  -- where the day passes the limit
  pub passed : (told : Bool) → Step → IsRising s.readings → told ≡ told_by limit s day part → told ≡ true → true ≡ passes_a_day limit s (with_readings (put_all all) s)
  passed told h k e t = sym (calendar_any (λ d. told_by limit s d all) day h.day_is (sym (same_told h k) ∙ sym e ∙ t))

  -- and where it does not
  none_later : Step → of_station s day later ≡ []
  none_later h =
      let b = day_start s (day +ℤ pos 1) in
      let a = day_start s day in
      let all_late : All (IsFrom instant_of b) later = subst (λ (l : List Reading). All (IsFrom instant_of b) l) (sym h.late) (from_is_from instant_of b rest) in
      filter_none (is_of_day a b) later
      (All-weaker (IsFrom instant_of b) (λ x. is_of_day a b x ≡ false) (λ x k. let n : int_lt x.at b ≡ false = lt_no x.at b k in late_step (int_le a x.at) (int_lt x.at b) n) later all_late)

  other_step : (d : ℤ) (x : Reading) (b : Bool) → Step → IsDay d → (d ≡ day → ⊥) → is_of_day (day_start s day) (day_start s (day +ℤ pos 1)) x ≡ true
      → is_of_day (day_start s d) (day_start s (d +ℤ pos 1)) x ≡ b → b ≡ false
  other_step d x true h i n t e = absurd (n (one_day s.zone d day x.at h.zone i h.day_is (is_in s d x true e refl) (is_in s day x true t refl)))
  other_step d x false h i n t e = refl

  none_of_other : (d : ℤ) → Step → IsDay d → (d ≡ day → ⊥) → of_station s d part ≡ []
  none_of_other d h i n =
      let own : Reading → Bool = is_of_day (day_start s day) (day_start s (day +ℤ pos 1)) in
      let its : Reading → Bool = is_of_day (day_start s d) (day_start s (d +ℤ pos 1)) in
      let all_own : All (λ x. own x ≡ true) part = subst (λ (l : List Reading). All (λ x. own x ≡ true) l) (part_within h) (filter_passes own part) in
      filter_none its part (All-weaker (λ x. own x ≡ true) (λ x. its x ≡ false) (λ x k. other_step d x (its x) h i n k refl) part all_own)

  other_told : (d : ℤ) (done : List Reading) → Step → of_station s d part ≡ [] → DayTold s limit all done rest d → DayTold s limit all (done ++ part) later d
  other_told d done h e (inl k) = inl (filter-append (is_of_day (day_start s d) (day_start s (d +ℤ pos 1))) done part ∙ rw (k, e) refl)
  other_told d done h e (inr k) =
      let cut : of_station s d rest ≡ of_station s d later =
      ap (of_station s d) h.parted ∙ filter-append (is_of_day (day_start s d) (day_start s (d +ℤ pos 1))) part later ∙ ap (λ (l : List Reading). l ++ of_station s d later) e in
      inr (sym cut ∙ k.0, k.1)

  next_day : (d : ℤ) → (d <ℤ day) ⊎ ((d ≡ day) ⊎ (day <ℤ d)) → (done : List Reading) → Step → IsDay d → told_by limit s day all ≡ false
      → DayTold s limit all done rest d → DayTold s limit all (done ++ part) later d
  next_day d (inl l) done h i f t = other_told d done h (none_of_other d h i (λ e. omega (arith, ints, l, e))) t
  next_day d (inr (inl e)) done h i f t =
      subst (λ (n : ℤ). DayTold s limit all (done ++ part) later n) (sym e) (inr (none_later h, f))
  next_day d (inr (inr l)) done h i f t = other_told d done h (none_of_other d h i (λ e. omega (arith, ints, l, e))) t

  pub next : (told : Bool) → Step → IsRising s.readings → told ≡ told_by limit s day part → told ≡ false → AreTold s limit all later
  next told h k e t =
      let w = h.told in
      record {
        done = w.done ++ part;
        whole = w.whole ∙ ap (λ (l : List Reading). w.done ++ l) h.parted ∙ sym (append_assoc w.done part later);
        days = λ d i. next_day d (compared d day) w.done h i (sym (same_told h k) ∙ sym e ∙ t) (w.days d i);
      }

  -- fewer are left
  shorter_step : (front : List Reading) → Step → part ≡ front → length later < length rest
  shorter_step [] h e = absurd (some_left s day r rest h.first h.day_in (sym (part_is h) ∙ e))
  shorter_step (x ∷ xs) h e =
      let l = ap length h.parted ∙ length-append part later in
      let f = ap length e in
      omega (arith, l, f)

  pub shorter : Step → length later < length rest
  shorter h = shorter_step part h refl

-- at the end every day is told
end_step : (s : StationState) (limit : ℕ) (all done : List Reading) (day : ℤ) → IsRising s.readings → all ≡ done ++ [] → DayTold s limit all done [] day
    → told_by limit s day all ≡ false
end_step s limit all done day k w (inl h) =
    let a = day_start s day in
    let b = day_start s (day +ℤ pos 1) in
    let none : of_day a b all ≡ [] = ap (of_day a b) w ∙ filter-append (is_of_day a b) done [] ∙ ap (λ (l : List Reading). l ++ []) h in
    let same : of_day a b (put_all all s.readings) ≡ of_day a b s.readings =
    day_put a b all s.readings k ∙ ap (λ (l : List Reading). put_all l (of_day a b s.readings)) none in
    day_passes limit (day_count s day) (day_count (with_readings (put_all all) s) day) (sym (ap length same))
end_step s limit all done day k w (inr h) = h.1

pub all_told : (s : StationState) (limit : ℕ) (all rest : List Reading) → IsRising s.readings → None ≡ slice_get rest 0 → AreTold s limit all rest
    → false ≡ passes_a_day limit s (with_readings (put_all all) s)
all_told s limit all [] k e t =
    sym (calendar_any_none (λ d. told_by limit s d all) (λ d i. end_step s limit all t.done d k t.whole (t.days d i)))
all_told s limit all (x ∷ xs) k e t = absurd (cc)
