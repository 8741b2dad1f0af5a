-- An accepted edit that comes again is told its number.
use Rattle.std.specs.Prelude.{◌≡◌, ◌==◌, ℕ, zero, suc, ◌+◌, Bool, true, false, cond, bytes_eq, ℤ, List, [], ◌∷◌, ◌++◌, length, map, slice_get, Option, Some, None}
use Rattle.std.specs.Cmp.Lexicographic.{bytes_decides}
use Rattle.std.specs.Ordering.{int_eq}
use Rattle.std.proofs.Common.{arith, refl, ap, sym, subst, ◌∙◌}
use Rattle.std.proofs.lemmas.Bool.Decides.{Decides-eqb, Decides-int_eq}
use Rattle.std.proofs.lemmas.List.{append-nil, append_assoc, length-map, map-append}
use Rattle.std.proofs.lemmas.Option.{same_Some}
use Rattle.curves.proofs.EqualityLemmas.{entries_decide}
use Rattle.curves.specs.Equality.{same_entry}
use Rattle.curves.specs.declared.entries.Entry.{Entry}
use Rattle.edits.specs.Decisions.{decision_number}
use Rattle.edits.specs.Grades.{grade_number}
use Rattle.editions.proofs.CoverLemmas.{leasts_decide}
use Rattle.edits.specs.Same.{is_same, is_same_what, same_end}
use Rattle.edits.specs.declared.content.Edit.{Edit}
use Rattle.edits.specs.declared.content.What.{What}
use Rattle.edits.specs.declared.content.What.TheVariants.{AddStation, SetStation, PutReadings, DropReadings, FlagReadings, PutCorrection, DropCorrection, PutShift, DropShift, AddRating, PutPeriod, DropPeriod, PutEstimate, DropEstimate, PutMeasurement, DropMeasurement, Review, Decide, SetEdition}
use Rattle.fixed_units.specs.declared.readings.Flag.{Flag}
use Rattle.fixed_units.specs.declared.readings.Flag.TheVariants.{Usable, Erroneous, Affected}
use Rattle.history.specs.Accepted.{Numbered, accepted, edit_of, edits_of, named}
use Rattle.history.specs.Events.{Event, Accepted, Published, Faulted, History}
use Rattle.history.specs.Legal.{IsLegal}
use Rattle.history.specs.Verdicts.{Repeats, Refuses, refusal_of, verdict_of_refusal, verdict_by, verdict}
use Rattle.history.proofs.EventLemmas.{accepted-append}
use Rattle.history.proofs.NamedLemmas.{named_kept, named_new}
use Rattle.history.proofs.PendingLemmas.{own_site}
use Rattle.rating_tables.proofs.RowLemmas.{rows_decide}
use Rattle.rating_tables.specs.RowEquality.{same_rows}
use Rattle.rating_tables.specs.Table.{Row}
use Rattle.readings.proofs.EqualityLemmas.{told_same}
use Rattle.readings.specs.Equality.{same_flag}
use Rattle.office_inputs.specs.declared.refusals.Refusal.{Refusal}
use Rattle.office_inputs.specs.declared.refusals.Refusal.TheVariants.{RefReused}
use Rattle.records.specs.Sheets.{Record}

same_bytes : (bytes : List ℕ) → bytes_eq bytes bytes ≡ true
same_bytes bytes = (bytes_decides bytes bytes).1 refl

same_number : (n : ℕ) → (n == n) ≡ true
same_number n = (Decides-eqb n n).1 refl

same_instant : (at : ℤ) → int_eq at at ≡ true
same_instant at = (Decides-int_eq at at).1 refl

own_entry : (entry : Entry) → same_entry entry entry ≡ true
own_entry entry = (entries_decide entry entry).1 refl

own_rows : (rows : List Row) → same_rows rows rows ≡ true
own_rows rows = (rows_decide rows rows).1 refl

own_flag : (flag : Flag) → same_flag flag flag ≡ true
own_flag Usable = refl
own_flag Erroneous = refl
own_flag Affected = refl

same_end_with : (until : Option ℤ) → same_end until until ≡ true
same_end_with None = refl
same_end_with (Some until) = same_instant until

same_what : (what : What) → is_same_what what what ≡ true
same_what (AddStation name zone gap stages discharges) =
    rw (same_bytes name, same_bytes zone, same_number gap, same_bytes stages, same_bytes discharges) refl
same_what (SetStation name gap stages discharges) = rw (same_bytes name, same_number gap, same_bytes stages, same_bytes discharges) refl
same_what (PutReadings readings) = sym (told_same readings readings refl)
same_what (DropReadings from to) = rw (same_instant from, same_instant to) refl
same_what (FlagReadings from to flag) = rw (same_instant from, same_instant to) (own_flag flag)
same_what (PutCorrection set at curve prorate) =
    rw (same_number set) (own_entry (record { at = at; curve = curve; prorate = prorate }))
same_what (DropCorrection set at) = rw (same_number set, same_instant at) refl
same_what (PutShift at curve prorate) = own_entry (record { at = at; curve = curve; prorate = prorate })
same_what (DropShift at) = same_instant at
same_what (AddRating rating table) = rw (same_number rating) (own_rows table)
same_what (PutPeriod period) = rw (same_instant period.from, same_end_with period.until, same_number period.rating) refl
same_what (DropPeriod from) = same_instant from
same_what (PutEstimate e) = rw (same_instant e.day, same_instant e.discharge) refl
same_what (DropEstimate day) = same_instant day
same_what (PutMeasurement m) =
    rw (same_number m.number, same_instant m.at, same_instant m.gage, same_instant m.discharge, same_number (grade_number m.grade)) refl
same_what (DropMeasurement number) = same_number number
same_what (Review from to) = rw (same_instant from, same_instant to) refl
same_what (Decide from to decision) = rw (same_instant from, same_instant to, same_number (decision_number decision)) refl
same_what (SetEdition day least) = rw (same_instant day) ((leasts_decide least least).1 refl)

-- an edit is the same as itself
same_as_itself : (edit : Edit) → is_same edit edit ≡ true
same_as_itself edit = rw (same_bytes edit.by, same_bytes edit.reference, own_site edit.site, same_bytes edit.comment, same_what edit.what) refl

-- where an edit was accepted
pub record WasAccepted (events : List Event) (place : ℕ) (edit : Edit) : Type 0 where
  pub older : List Event
  pub newer : List Event
  pub piece : Record
  pub events_are : events ≡ older ++ Accepted piece ∷ newer
  pub place_is : length (accepted older) ≡ place
  pub edit_is : piece.edit ≡ edit

pub was_accepted : (events : List Event) (place : ℕ) (edit : Edit) → slice_get (edits_of events) place ≡ Some edit → WasAccepted events place edit
was_accepted [] place edit s = absurd (cc)
was_accepted (Accepted own ∷ events) zero edit s =
    let same : own.edit ≡ edit = cc in
    record { older = []; newer = events; piece = own; events_are = refl; place_is = refl; edit_is = same }
was_accepted (Accepted own ∷ events) (suc place) edit s =
    let rest = was_accepted events place edit s in
    record {
      older = Accepted own ∷ rest.older;
      newer = rest.newer;
      piece = rest.piece;
      events_are = ap (λ (l : List Event). Accepted own ∷ l) rest.events_are;
      place_is = ap suc rest.place_is;
      edit_is = rest.edit_is;
    }
was_accepted (Published site day ∷ events) place edit s =
    let rest = was_accepted events place edit s in
    record {
      older = Published site day ∷ rest.older;
      newer = rest.newer;
      piece = rest.piece;
      events_are = ap (λ (l : List Event). Published site day ∷ l) rest.events_are;
      place_is = rest.place_is;
      edit_is = rest.edit_is;
    }
was_accepted (Faulted left ∷ events) place edit s =
    let rest = was_accepted events place edit s in
    record {
      older = Faulted left ∷ rest.older;
      newer = rest.newer;
      piece = rest.piece;
      events_are = ap (λ (l : List Event). Faulted left ∷ l) rest.events_are;
      place_is = rest.place_is;
      edit_is = rest.edit_is;
    }

-- what is named stays so, however many edits come
pub named_still : (reference : List ℕ) (edits more : List Edit) (n : Numbered) → named edits reference ≡ Some n → named (edits ++ more) reference ≡ Some n
named_still reference edits [] n h = ap (λ (l : List Edit). named l reference) (append-nil edits) ∙ h
named_still reference edits (edit ∷ more) n h =
    ap (λ (l : List Edit). named l reference) (sym (append_assoc edits (edit ∷ []) more))
    ∙ named_still reference (edits ++ edit ∷ []) more n (named_kept reference edits edit n h)

-- a reference that named none names the first edit with it
first_named : (edits more : List Edit) (edit : Edit) → named edits edit.reference ≡ None
    → named (edits ++ edit ∷ more) edit.reference ≡ Some (record { number = 1 + length edits; edit = edit })
first_named edits more edit h =
    let own : Numbered = record { number = 1 + length edits; edit = edit } in
    ap (λ (l : List Edit). named l edit.reference) (sym (append_assoc edits (edit ∷ []) more))
    ∙ named_still edit.reference (edits ++ edit ∷ []) more own
    (named_new edit.reference edits edit h ∙ ap (λ (b : Bool). cond b (Some own) None) ((bytes_decides edit.reference edit.reference).1 refl))

pub is_repeated : (h : History) (place : ℕ) (edit : Edit) → IsLegal h → slice_get (edits_of h.events) place ≡ Some edit → verdict h edit ≡ Repeats (place + 1)
is_repeated h place edit k s =
    let was = was_accepted h.events place edit s in
    let piece = was.piece in
    let before = edits_of was.older in
    let all : edits_of h.events ≡ before ++ piece.edit ∷ edits_of was.newer =
    ap edits_of was.events_are ∙ ap (map edit_of) (accepted-append was.older (Accepted piece ∷ was.newer))
    ∙ map-append edit_of (accepted was.older) (piece ∷ accepted was.newer) in
    let unnamed = (k.orderly.accepted was.older was.newer piece was.events_are).reference in
    let here : named (edits_of h.events) piece.edit.reference ≡ Some (record { number = 1 + length before; edit = piece.edit }) =
    ap (λ (l : List Edit). named l piece.edit.reference) all ∙ first_named before (edits_of was.newer) piece.edit unnamed in
    let told : verdict h piece.edit ≡ Repeats (1 + length before) =
    ap (λ (o : Option Numbered). verdict_by o piece.edit (refusal_of h piece.edit)) here
    ∙ ap (λ (b : Bool). cond b (Repeats (1 + length before)) (Refuses (RefReused (1 + length before)))) (same_as_itself piece.edit) in
    let count : 1 + length before ≡ place + 1 = omega (arith, length-map (accepted was.older) edit_of, was.place_is) in
    subst (λ (e : Edit). verdict h e ≡ Repeats (place + 1)) was.edit_is (told ∙ ap Repeats count)

-- what it says that an edit comes again
pub record IsNamed (edits : List Edit) (edit : Edit) (number : ℕ) : Type 0 where
  pub other : Numbered
  pub found : named edits edit.reference ≡ Some other
  pub same : is_same other.edit edit ≡ true
  pub number_is : other.number ≡ number

again_step : (b : Bool) (other number : ℕ) → cond b (Repeats other) (Refuses (RefReused other)) ≡ Repeats number → (b ≡ true) × (other ≡ number)
again_step true other number h = let same : other ≡ number = cc in (refl, same)
again_step false other number h = absurd (cc)

refused_step : (r : Option Refusal) (number : ℕ) → verdict_of_refusal r ≡ Repeats number → ⊥
refused_step None number h = cc h
refused_step (Some refusal) number h = cc h

named_step : (edits : List Edit) (edit : Edit) (number : ℕ) (o : Option Numbered) (r : Option Refusal) → named edits edit.reference ≡ o
    → verdict_by o edit r ≡ Repeats number → IsNamed edits edit number
named_step edits edit number None r e h = absurd (refused_step r number h)
named_step edits edit number (Some other) r e h =
    let parts = again_step (is_same other.edit edit) other.number number h in
    record { other = other; found = e; same = parts.0; number_is = parts.1 }

pub repeats_named : (h : History) (edit : Edit) (number : ℕ) → verdict h edit ≡ Repeats number → IsNamed (edits_of h.events) edit number
repeats_named h edit number v = named_step (edits_of h.events) edit number (named (edits_of h.events) edit.reference) (refusal_of h edit) refl v

-- an edit that comes again goes on doing so, however many edits come
pub repeats_still : (h after : History) (more : List Edit) (edit : Edit) (number : ℕ) → edits_of after.events ≡ edits_of h.events ++ more
    → verdict h edit ≡ Repeats number → verdict after edit ≡ Repeats number
repeats_still h after more edit number e v =
    let is = repeats_named h edit number v in
    let there : named (edits_of after.events) edit.reference ≡ Some is.other =
    ap (λ (l : List Edit). named l edit.reference) e ∙ named_still edit.reference (edits_of h.events) more is.other is.found in
    ap (λ (o : Option Numbered). verdict_by o edit (refusal_of after edit)) there
    ∙ ap (λ (b : Bool). cond b (Repeats is.other.number) (Refuses (RefReused is.other.number))) is.same ∙ ap Repeats is.number_is

-- two accepted edits of one reference are one
pub same_place : (h : History) (first second : ℕ) (a b : Edit) → IsLegal h → slice_get (edits_of h.events) first ≡ Some a
    → slice_get (edits_of h.events) second ≡ Some b → a.reference ≡ b.reference → first ≡ second
same_place h first second a b k s t e =
    let x = repeats_named h a (first + 1) (is_repeated h first a k s) in
    let y = repeats_named h b (second + 1) (is_repeated h second b k t) in
    let one : x.other ≡ y.other = same_Some x.other y.other (sym x.found ∙ ap (named (edits_of h.events)) e ∙ y.found) in
    let numbers : first + 1 ≡ second + 1 = sym x.number_is ∙ ap (λ (n : Numbered). n.number) one ∙ y.number_is in
    omega (arith, numbers)
