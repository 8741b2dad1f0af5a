-- A record that is not refused among those that an office is opened with may be kept.
use Rattle.std.specs.Prelude.{◌≡◌, Option, Some, None}
use Rattle.std.proofs.Common.{refl, ap, ◌∙◌}
use Rattle.edits.specs.declared.content.Edit.{Edit}
use Rattle.history.specs.Accepted.{Numbered, edits_of, named}
use Rattle.history.specs.Events.{History}
use Rattle.history.specs.Legal.{MayBeKept}
use Rattle.history.specs.Statuses.{locked_at, objection_at}
use Rattle.history.specs.Verdicts.{or_else, refused_as_locked, refused_by_stations, refused_by_statuses}
use Rattle.history.proofs.ApprovalLemmas.{sheets_fit}
use Rattle.history.proofs.VerdictLemmas.{first_none, later_none, none_mapped}
use Rattle.office_inputs.specs.Refusals as inputs
use Rattle.office_inputs.specs.declared.refusals.Refusal.{Refusal}
use Rattle.office_inputs.specs.declared.refusals.Refusal.TheVariants.{Locked}
use Rattle.records.specs.Payloads.{Holds}
use Rattle.records.specs.Sheets.{AreSheetsOf, Record}
use Rattle.register.specs.Asked.{readmission_refusal, refused_at_once, reused}
use Rattle.register.proofs.JudgedLemmas.{apart}

not_named : (o : Option Numbered) → reused o ≡ None → o ≡ None
not_named None h = refl
not_named (Some other) h = absurd (cc)

-- nor is it refused at once
pub none_at_once : (h : History) (edit : Edit) → readmission_refusal h edit ≡ None → refused_at_once h edit ≡ None
none_at_once h edit none =
    let locked = refused_as_locked h edit in
    let rest = or_else (refused_by_stations h edit) (or_else (refused_by_statuses h edit) locked) in
    let behind = later_none (reused (named (edits_of h.events) edit.reference)) rest none in
    let later = later_none (refused_by_stations h edit) (or_else (refused_by_statuses h edit) locked) behind in
    ap (λ (o : Option Refusal). or_else o (or_else (refused_by_stations h edit) (refused_by_statuses h edit))) (first_none (reused (named (edits_of h.events) edit.reference)) rest none)
    ∙ ap (λ (o : Option Refusal). or_else o (refused_by_statuses h edit)) (first_none (refused_by_stations h edit) (or_else (refused_by_statuses h edit) locked) behind)
    ∙ first_none (refused_by_statuses h edit) locked later

pub may_be_kept : (h : History) (piece : Record) → AreSheetsOf piece.edit.what piece.sheets → Holds h.format piece.edit.comment
    → readmission_refusal h piece.edit ≡ None
    → MayBeKept h.limits h.format h.events piece
may_be_kept h piece sheets held none =
    let edit = piece.edit in
    let locked = refused_as_locked h edit in
    let rest = or_else (refused_by_stations h edit) (or_else (refused_by_statuses h edit) locked) in
    let behind = later_none (reused (named (edits_of h.events) edit.reference)) rest none in
    let later = later_none (refused_by_stations h edit) (or_else (refused_by_statuses h edit) locked) behind in
    record {
      sheets = sheets_fit piece.edit.what piece.sheets sheets;
      reference = not_named (named (edits_of h.events) edit.reference) (first_none (reused (named (edits_of h.events) edit.reference)) rest none);
      stations = first_none (refused_by_stations h edit) (or_else (refused_by_statuses h edit) locked) behind;
      statuses = none_mapped inputs.refusal_for_objection (objection_at h.events edit) (first_none (refused_by_statuses h edit) locked later);
      unlocked = none_mapped Locked (locked_at h.events edit) (later_none (refused_by_statuses h edit) locked later);
      holds = held;
    }

-- an edit that is refused at once, and one that is not: only a lock may refuse it then
module _ (h : History) (edit : Edit) where
  behind : readmission_refusal h edit ≡ or_else (refused_at_once h edit) (refused_as_locked h edit)
  behind = apart (reused (named (edits_of h.events) edit.reference)) (refused_by_stations h edit) (refused_by_statuses h edit) (refused_as_locked h edit)

  pub is_refused_at_once : (refusal : Refusal) → refused_at_once h edit ≡ Some refusal → readmission_refusal h edit ≡ Some refusal
  is_refused_at_once refusal e = behind ∙ ap (λ (o : Option Refusal). or_else o (refused_as_locked h edit)) e

  pub refused_then : refused_at_once h edit ≡ None → readmission_refusal h edit ≡ refused_as_locked h edit
  refused_then none = behind ∙ ap (λ (o : Option Refusal). or_else o (refused_as_locked h edit)) none

  pub not_by_stations_at_once : refused_at_once h edit ≡ None → refused_by_stations h edit ≡ None
  not_by_stations_at_once none =
      first_none (refused_by_stations h edit) (refused_by_statuses h edit)
      (later_none (reused (named (edits_of h.events) edit.reference)) (or_else (refused_by_stations h edit) (refused_by_statuses h edit)) none)

-- so a reference that it has is new
pub new_to : (h : History) (edit : Edit) → readmission_refusal h edit ≡ None → named (edits_of h.events) edit.reference ≡ None
new_to h edit none =
    not_named (named (edits_of h.events) edit.reference)
    (first_none (reused (named (edits_of h.events) edit.reference)) (or_else (refused_by_stations h edit) (or_else (refused_by_statuses h edit) (refused_as_locked h edit))) none)
