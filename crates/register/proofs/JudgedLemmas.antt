-- The verdict of an edit that comes for the first time, by what may refuse it: before a look at its days, by a lock, for want of room.
use Rattle.std.specs.Prelude.{◌≡◌, true, false, ◌&&◌, List, Option, Some, None, is_none}
use Rattle.std.proofs.Common.{refl, ap, sym, ◌∙◌}
use Rattle.std.proofs.lemmas.Bool.{false≢true}
use Rattle.edits.specs.declared.content.Edit.{Edit}
use Rattle.history.specs.Accepted.{Numbered, edits_of, named, stations_at}
use Rattle.history.specs.Events.{History}
use Rattle.history.specs.Verdicts.{Refuses, or_else, refused_as_awaiting, refused_as_locked, refused_by_stations, refused_by_statuses, refused_for_room, refusal_of, verdict, verdict_by, verdict_of_refusal}
use Rattle.history.proofs.VerdictLemmas.{first_none, later_none}
use Rattle.office_inputs.specs.Kept.{in_force}
use Rattle.office_inputs.specs.Refusals as inputs
use Rattle.office_inputs.specs.declared.refusals.Refusal.{Refusal}
use Rattle.station_inputs.specs.Stations.{StationState}
use Rattle.register.specs.Asked.{needs_days, refused_before_days}
use Rattle.register.specs.Registered.{Registered}

-- the first of three refusals, and then those behind them
pub apart : (a b c rest : Option Refusal) → or_else a (or_else b (or_else c rest)) ≡ or_else (or_else a (or_else b c)) rest
apart None None c rest = refl
apart None (Some refusal) c rest = refl
apart (Some refusal) b c rest = refl

module _ (h : History) (edit : Edit) (new : named (edits_of h.events) edit.reference ≡ None) where
  behind : verdict h edit ≡ verdict_of_refusal (or_else (refused_before_days h edit) (or_else (refused_as_locked h edit) (refused_for_room h edit)))
  behind =
      ap (λ (o : Option Numbered). verdict_by o edit (refusal_of h edit)) new
      ∙ ap verdict_of_refusal (apart (refused_by_stations h edit) (refused_by_statuses h edit) (refused_as_awaiting h edit) (or_else (refused_as_locked h edit) (refused_for_room h edit)))

  pub is_refused_before : (refusal : Refusal) → refused_before_days h edit ≡ Some refusal → verdict h edit ≡ Refuses refusal
  is_refused_before refusal e = behind ∙ ap (λ (o : Option Refusal). verdict_of_refusal (or_else o (or_else (refused_as_locked h edit) (refused_for_room h edit)))) e

  unrefused_before : refused_before_days h edit ≡ None → verdict h edit ≡ verdict_of_refusal (or_else (refused_as_locked h edit) (refused_for_room h edit))
  unrefused_before none = behind ∙ ap (λ (o : Option Refusal). verdict_of_refusal (or_else o (or_else (refused_as_locked h edit) (refused_for_room h edit)))) none

  pub is_locked_out : refused_before_days h edit ≡ None → (refusal : Refusal) → refused_as_locked h edit ≡ Some refusal → verdict h edit ≡ Refuses refusal
  is_locked_out none refusal e = unrefused_before none ∙ ap (λ (o : Option Refusal). verdict_of_refusal (or_else o (refused_for_room h edit))) e

  pub is_judged : refused_before_days h edit ≡ None → refused_as_locked h edit ≡ None → (full : Option Refusal) → refused_for_room h edit ≡ full → verdict h edit ≡ verdict_of_refusal full
  is_judged none unlocked full e =
      unrefused_before none
      ∙ ap (λ (o : Option Refusal). verdict_of_refusal (or_else o (refused_for_room h edit))) unlocked
      ∙ ap verdict_of_refusal e

-- what does not refuse it before a look at its days
pub not_by_stations : (h : History) (edit : Edit) → refused_before_days h edit ≡ None → refused_by_stations h edit ≡ None
not_by_stations h edit none = first_none (refused_by_stations h edit) (or_else (refused_by_statuses h edit) (refused_as_awaiting h edit)) none

pub not_as_awaiting : (h : History) (edit : Edit) → refused_before_days h edit ≡ None → refused_as_awaiting h edit ≡ None
not_as_awaiting h edit none =
    later_none (refused_by_statuses h edit) (refused_as_awaiting h edit)
    (later_none (refused_by_stations h edit) (or_else (refused_by_statuses h edit) (refused_as_awaiting h edit)) none)

-- so its days have to be looked for
pub needed : (h : History) (edit : Edit) → named (edits_of h.events) edit.reference ≡ None → refused_before_days h edit ≡ None → needs_days h edit ≡ false → ⊥
needed h edit new none unneeded =
    let found : needs_days h edit ≡ true =
    ap (λ (o : Option Numbered). is_none o && is_none (refused_by_stations h edit)) new
    ∙ ap (λ (o : Option Refusal). is_none o) (not_by_stations h edit none) in
    false≢true (sym unneeded ∙ found)

-- nor do the stations as they are kept within a register
pub not_within : (view seen : Registered) → view ≡ seen → in_force view.inputs ≡ stations_at view.history.events → (edit : Edit) → refused_by_stations seen.history edit ≡ None
    → inputs.refusal_of view.history.limits (in_force view.inputs) edit ≡ None
not_within view seen is stations edit none =
    ap (λ (s : List StationState). inputs.refusal_of view.history.limits s edit) stations ∙ ap (λ (r : Registered). refused_by_stations r.history edit) is ∙ none
