-- Which claims are out behind an edit for which room was made.
use Rattle.std.specs.Prelude.{◌≡◌, Bool, false, ◌&&◌, if◌then◌else◌, Result, Ok, Err, IfOk, OnErr}
use Rattle.std.proofs.Common.{sym, subst, ◌∙◌}
use Rattle.day_cells.specs.Days.{contains_day}
use Rattle.edits.specs.declared.content.Edit.{Edit}
use Rattle.fixed_units.specs.Quantities.{same_site}
use Rattle.history.specs.Accepted.{stations_at}
use Rattle.history.specs.Events.{History}
use Rattle.office.specs.Edits.{EditsClaims, TakesClaims}
use Rattle.office.specs.declared.offices.Accepted.{Accepted}
use Rattle.office_inputs.specs.Changes.{changed_days}
use Rattle.office_inputs.specs.declared.refusals.Refusal.{Refusal}
use Rattle.register.specs.Registered.{Registered, KeepsClaims, MarksClaims, is_out}

-- claims that were kept while room was made, and then marked
marked_behind : (old between new : Registered) (edit : Edit) → KeepsClaims old between → between.history ≡ old.history → MarksClaims between new edit
    → MarksClaims old new edit
marked_behind old between new edit keeps same marks site day =
    subst (λ (h : History). is_out new site day
    ≡ (if same_site edit.site site && contains_day (changed_days (stations_at h.events) edit) day then false else is_out old site day)) same
    (subst (λ (out : Bool). is_out new site day
    ≡ (if same_site edit.site site && contains_day (changed_days (stations_at between.history.events) edit) day then false else out))
    (keeps site day) (marks site day))

-- or kept, where a fault refused the edit
pub claims_behind : (old between new : Registered) (edit : Edit) (T : Accepted → Type 0) (result : Result Accepted Refusal) → KeepsClaims old between
    → between.history ≡ old.history → IfOk result (λ told. (told.repeated ≡ false) × T told) → IfOk result (λ told. MarksClaims between new edit)
    → OnErr result (KeepsClaims between new) → EditsClaims old edit new result
claims_behind old between new edit T (Ok told) keeps same accepted marks kept =
    subst (λ (repeated : Bool). TakesClaims old edit new repeated) (sym accepted.0) (marked_behind old between new edit keeps same marks)
claims_behind old between new edit T (Err refusal) keeps same accepted marks kept = λ site day. kept site day ∙ keeps site day
