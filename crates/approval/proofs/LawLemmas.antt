-- What an edit that no status stands against leaves alone.
use Rattle.std.specs.Prelude.{◌≡◌, ℕ, Bool, true, false, not, ◌&&◌, List, Option, Some, None, find, option_map, ℤ, if◌then◌else◌}
use Rattle.std.proofs.Common.{refl, sym, ◌∙◌}
use Rattle.std.proofs.lemmas.List.Folds.{list_any_none}
use Rattle.edits.specs.declared.content.Edit.{Edit}
use Rattle.edits.specs.declared.content.What.{What}
use Rattle.edits.specs.declared.content.What.TheVariants.{Review, Decide}
use Rattle.edits.specs.declared.decisions.Decision.TheVariants.{Approve, Rescind}
use Rattle.fixed_units.specs.Calendar.{calendar}
use Rattle.fixed_units.specs.Quantities.{IsDay, SiteNumber, same_site}
use Rattle.fixed_units.proofs.CalendarLemmas.{calendar_any}
use Rattle.rising.proofs.Selecting.{none_found}
use Rattle.approval.specs.Statuses.{Standing, after_what, first_day_of, is_approved, is_in_review, is_reviewed_by, objection_of, or_else, rescinds, spans, standing_after, worked}
use Rattle.approval.specs.declared.objections.Objection.{Objection}
use Rattle.approval.specs.declared.objections.Objection.TheVariants.{NotInReview, SamePerson, AlreadyApproved}
use Rattle.approval.specs.declared.status.Status.{Status}
use Rattle.approval.specs.declared.status.Status.TheVariants.{Working, InReview, Approved}

-- where no day of a span passes a test, this one does not
fails : (b : Bool) → (b ≡ true → true ≡ false) → b ≡ false
fails true h = h refl
fails false h = refl

no_day : (p : ℤ → Bool) (day : ℤ) → IsDay day → find p calendar ≡ None → p day ≡ false
no_day p day h e =
    fails (p day) (λ k. sym (calendar_any p day h k) ∙ list_any_none p calendar (none_found p calendar e))

and_right : (b c : Bool) → (b && c) ≡ false → b ≡ true → c ≡ false
and_right true c e f = e
and_right false c e f = absurd (cc)

none_in_span : (test : ℤ → Bool) (from to day : ℤ) → IsDay day → first_day_of test from to ≡ None → spans from to day ≡ true → test day ≡ false
none_in_span test from to day h e s = and_right (spans from to day) (test day) (no_day (λ d. spans from to d && test d) day h e) s

-- an objection that is not there
no_objection : (f : ℤ → Objection) (o : Option ℤ) → option_map f o ≡ None → o ≡ None
no_objection f None e = refl
no_objection f (Some d) e = absurd (cc)

neither : (o p : Option Objection) → or_else o p ≡ None → (o ≡ None) × (p ≡ None)
neither None p e = (refl, e)
neither (Some x) p e = absurd (cc)

not_false : (b : Bool) → not b ≡ false → b ≡ true
not_false true e = refl
not_false false e = absurd (cc)

pub was_reviewed : (at : ℤ → Status) (by : List ℕ) (from to day : ℤ) → objection_of at by (Decide from to Approve) ≡ None → IsDay day
    → spans from to day ≡ true → is_in_review (at day) ≡ true
was_reviewed at by from to day e h s =
    let none = neither (option_map NotInReview (first_day_of (λ d. not (is_in_review (at d))) from to))
    (option_map SamePerson (first_day_of (λ d. is_reviewed_by by (at d)) from to)) e in
    not_false (is_in_review (at day))
    (none_in_span (λ d. not (is_in_review (at d))) from to day h (no_objection NotInReview (first_day_of (λ d. not (is_in_review (at d))) from to) none.0) s)

pub by_another : (at : ℤ → Status) (by : List ℕ) (from to day : ℤ) → objection_of at by (Decide from to Approve) ≡ None → IsDay day
    → spans from to day ≡ true → is_reviewed_by by (at day) ≡ false
by_another at by from to day e h s =
    let none = neither (option_map NotInReview (first_day_of (λ d. not (is_in_review (at d))) from to))
    (option_map SamePerson (first_day_of (λ d. is_reviewed_by by (at d)) from to)) e in
    none_in_span (λ d. is_reviewed_by by (at d)) from to day h (no_objection SamePerson (first_day_of (λ d. is_reviewed_by by (at d)) from to) none.1) s

-- what is approved is not in review
one_or_other : (s : Status) → is_approved s ≡ true → is_in_review s ≡ false
one_or_other Working e = absurd (cc)
one_or_other (InReview by) e = absurd (cc)
one_or_other (Approved by) e = refl

unchanged : (b c : Bool) (s : Standing) → c ≡ false → (if b && c then worked else s) ≡ s
unchanged true c s e = rw e refl
unchanged false c s e = refl

outside : (b : Bool) (s t : Standing) → b ≡ false → (if b then s else t) ≡ t
outside b s t e = rw e refl

stays_after : (at : ℤ → Standing) (number : ℕ) (by : List ℕ) (what : What) (changed : Bool) (day : ℤ) → IsDay day → is_approved (at day).status ≡ true
    → objection_of (λ d. (at d).status) by what ≡ None → rescinds what day ≡ false → after_what number by what changed day (at day) ≡ at day
stays_after at number by (Review from to) changed day h a e r =
    outside (spans from to day) (record { status = InReview by; edit = number }) (at day)
    (fails (spans from to day)
    (λ s. sym a ∙ none_in_span (λ d. is_approved (at d).status) from to day h (no_objection AlreadyApproved (first_day_of (λ d. is_approved (at d).status) from to) e) s))
stays_after at number by (Decide from to Approve) changed day h a e r =
    outside (spans from to day) (record { status = Approved by; edit = number }) (at day)
    (fails (spans from to day)
    (λ s. sym (was_reviewed (λ d. (at d).status) by from to day e h s) ∙ one_or_other (at day).status a))
stays_after at number by (Decide from to Rescind) changed day h a e r = outside (spans from to day) worked (at day) r
stays_after at number by _ changed day h a e r = unchanged changed (is_in_review (at day).status) (at day) (one_or_other (at day).status a)

same_either : (b : Bool) (s t : Standing) → s ≡ t → (if b then s else t) ≡ t
same_either true s t e = e
same_either false s t e = refl

pub approved_stays : (at : ℤ → Standing) (number : ℕ) (edit : Edit) (changed : Bool) (site : SiteNumber) (day : ℤ) → IsDay day → is_approved (at day).status ≡ true
    → objection_of (λ d. (at d).status) edit.by edit.what ≡ None → rescinds edit.what day ≡ false → standing_after number edit changed site day (at day) ≡ at day
approved_stays at number edit changed site day h a e r =
    same_either (same_site edit.site site) (after_what number edit.by edit.what changed day (at day)) (at day)
    (stays_after at number edit.by edit.what changed day h a e r)
