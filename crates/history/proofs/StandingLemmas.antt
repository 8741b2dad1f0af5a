-- How the days stand with one edit more, and what approves a day.
use Rattle.std.specs.Prelude.{◌≡◌, ◌+◌, ◌-◌, ◌==◌, Bool, true, false, cond, List, [], ◌∷◌, ◌++◌, length, reverse, slice_get, Some, None, ◌⊎◌, ℤ}
use Rattle.std.proofs.Common.{ap, sym, subst, ◌∙◌}
use Rattle.std.proofs.lemmas.List.{length-map, length-reverse, reverse-append, reverse-reverse}
use Rattle.approval.specs.Statuses.{Standing, after_what, is_approved, standing_after}
use Rattle.edits.specs.declared.content.Edit.{Edit}
use Rattle.fixed_units.specs.Quantities.{SiteNumber, same_site}
use Rattle.history.specs.Accepted.{accepted, changes, edit_of, edits_of, record_numbered, stations_at}
use Rattle.history.specs.Events.{Event, Accepted}
use Rattle.history.specs.Statuses.{standing_at, standing_back, standing_of, status_at}
use Rattle.history.proofs.ApprovalLemmas.{IsApproval, last_numbered, made_by}
use Rattle.history.proofs.EventLemmas.{accepted_accepted, edits_accepted}
use Rattle.office_inputs.specs.Stations.{stations_of}
use Rattle.records.specs.Sheets.{Record}

pub standing_more : (edits : List Edit) (edit : Edit) (site : SiteNumber) (day : ℤ) → standing_of (edits ++ edit ∷ []) site day
    ≡ standing_after (length edits + 1) edit (changes (stations_of edits) edit site day) site day (standing_of edits site day)
unfolding standing_back
standing_more edits edit site day =
    ap (λ (l : List Edit). standing_back l site day) (reverse-append edits (edit ∷ []))
    ∙ ap (λ (l : List Edit). standing_after (length (reverse edits) + 1) edit (changes (stations_of l) edit site day) site day (standing_of edits site day)) (reverse-reverse edits)
    ∙ ap (λ n. standing_after (n + 1) edit (changes (stations_of edits) edit site day) site day (standing_of edits site day)) (length-reverse edits)

pub standing_accepted : (events : List Event) (piece : Record) (site : SiteNumber) (day : ℤ) → standing_at (events ++ Accepted piece ∷ []) site day
    ≡ standing_after (length (accepted events) + 1) piece.edit (changes (stations_at events) piece.edit site day) site day (standing_at events site day)
standing_accepted events piece site day =
    ap (λ (es : List Edit). standing_of es site day) (edits_accepted events piece)
    ∙ standing_more (edits_of events) piece.edit site day
    ∙ ap (λ n. standing_after (n + 1) piece.edit (changes (stations_at events) piece.edit site day) site day (standing_at events site day))
    (length-map (accepted events) edit_of)

-- the record that was accepted last is found by its number
pub last_record : (events : List Event) (piece : Record) → record_numbered (events ++ Accepted piece ∷ []) (length (accepted events) + 1) ≡ Some piece
last_record events piece =
    let number = length (accepted events) + 1 in
    ap (λ (ps : List Record). cond (number == 0) None (slice_get ps (number - 1))) (accepted_accepted events piece) ∙ last_numbered (accepted events) piece

-- an edit of another site leaves a day as it stands
pub standing_elsewhere : (events : List Event) (piece : Record) (site : SiteNumber) (day : ℤ) → same_site piece.edit.site site ≡ false
    → standing_at (events ++ Accepted piece ∷ []) site day ≡ standing_at events site day
standing_elsewhere events piece site day other =
    standing_accepted events piece site day
    ∙ ap (λ (b : Bool). cond b (after_what (length (accepted events) + 1) piece.edit.by piece.edit.what (changes (stations_at events) piece.edit site day) day (standing_at events site day))
    (standing_at events site day)) other

-- a day that is approved behind an edit of its own site stood so before, or is approved by that very edit
pub approved_behind : (events : List Event) (piece : Record) (site : SiteNumber) (day : ℤ) → same_site piece.edit.site site ≡ true
    → is_approved (status_at (events ++ Accepted piece ∷ []) site day) ≡ true
    → (standing_at (events ++ Accepted piece ∷ []) site day ≡ standing_at events site day)
    ⊎ IsApproval (length (accepted events) + 1) piece.edit.what day (standing_at (events ++ Accepted piece ∷ []) site day)
approved_behind events piece site day own approved =
    let number = length (accepted events) + 1 in
    let changed = changes (stations_at events) piece.edit site day in
    let s = standing_at events site day in
    let t = after_what number piece.edit.by piece.edit.what changed day s in
    let is_t : standing_at (events ++ Accepted piece ∷ []) site day ≡ t = standing_accepted events piece site day ∙ ap (λ (b : Bool). cond b t s) own in
    subst (λ (x : Standing). (x ≡ s) ⊎ IsApproval number piece.edit.what day x) (sym is_t)
    (made_by number piece.edit.by piece.edit.what changed day s (ap (λ (x : Standing). is_approved x.status) (sym is_t) ∙ approved))
