-- In a legal history each approved day has its sheet.
use Rattle.std.specs.Prelude.{◌≡◌, ◌+◌, Bool, true, false, cond, List, [], ◌∷◌, ◌++◌, length, map, Option, None, is_some, ℤ}
use Rattle.std.proofs.Common.{refl, ap, sym, ◌∙◌, inl, inr}
use Rattle.std.proofs.lemmas.Bool.{false≢true}
use Rattle.approval.specs.Statuses.{Standing, is_approved}
use Rattle.fixed_units.specs.Quantities.{SiteNumber, same_site}
use Rattle.history.specs.Accepted.{accepted, edit_of, record_numbered}
use Rattle.history.specs.Events.{Event, Accepted, Published, Faulted}
use Rattle.history.specs.Legal.{IsOrderly, MayBeKept}
use Rattle.history.specs.Statuses.{sheet_of, standing_at, standing_back, standing_of, status_at, stored_sheet}
use Rattle.history.proofs.ApprovalLemmas.{IsApproval, approved_sheet}
use Rattle.history.proofs.ApprovedLemmas.{sheet_stays}
use Rattle.history.proofs.EventLemmas.{accepted_faulted, accepted_published}
use Rattle.history.proofs.OrderlyLemmas.{by_events}
use Rattle.history.proofs.StandingLemmas.{approved_behind, last_record, standing_elsewhere}
use Rattle.office_inputs.specs.declared.limits.Limits.{Limits}
use Rattle.records.specs.Sheets.{Record}
use Rattle.records.specs.declared.formats.Format.{Format}

module _ (limits : Limits) (format : Format) (site : SiteNumber) (day : ℤ) where
  -- if it is approved it has a sheet
  abbrev HasSheet : List Event → Type 0
  HasSheet events = is_approved (status_at events site day) ≡ true → is_some (stored_sheet events site day) ≡ true

  -- as before, where it stands as before
  still : (events : List Event) (e : Event) → standing_at (events ++ e ∷ []) site day ≡ standing_at events site day → HasSheet events → HasSheet (events ++ e ∷ [])
  still events e same had approved =
      ap is_some (sheet_stays events (e ∷ []) site day same) ∙ had (ap (λ (s : Standing). is_approved s.status) (sym same) ∙ approved)

  -- the sheet in the record of this very edit
  approved_now : (events : List Event) (piece : Record) → MayBeKept limits format events piece
      → IsApproval (length (accepted events) + 1) piece.edit.what day (standing_at (events ++ Accepted piece ∷ []) site day) → HasSheet (events ++ Accepted piece ∷ [])
  approved_now events piece m a approved =
      let more = events ++ Accepted piece ∷ [] in
      ap (λ (b : Bool). is_some (cond b (sheet_of (record_numbered more (standing_at more site day).edit) day) None)) approved
      ∙ ap (λ n. is_some (sheet_of (record_numbered more n) day)) a.edit_is
      ∙ ap (λ (o : Option Record). is_some (sheet_of o day)) (last_record events piece)
      ∙ approved_sheet piece.edit.what piece.sheets a.from a.to day a.what_is m.sheets a.within

  accepted_step : (events : List Event) (piece : Record) (b : Bool) → same_site piece.edit.site site ≡ b → MayBeKept limits format events piece → HasSheet events
      → HasSheet (events ++ Accepted piece ∷ [])
  accepted_step events piece false e m had approved = still events (Accepted piece) (standing_elsewhere events piece site day e) had approved
  accepted_step events piece true e m had approved =
      elim (approved_behind events piece site day e approved) [
        | inl same ↦ still events (Accepted piece) same had approved
        | inr a ↦ approved_now events piece m a approved
      ]

  other_step : (events : List Event) (e : Event) → accepted (events ++ e ∷ []) ≡ accepted events → HasSheet events → HasSheet (events ++ e ∷ [])
  other_step events e same had approved = still events e (ap (λ (ps : List Record). standing_of (map edit_of ps) site day) same) had approved

  one_step : (done since : List Event) (e : Event) → IsOrderly limits format (done ++ e ∷ since) → HasSheet done → HasSheet (done ++ e ∷ [])
  one_step done since (Accepted piece) k had = accepted_step done piece (same_site piece.edit.site site) refl (k.accepted done since piece refl) had
  one_step done since (Published own its) k had = other_step done (Published own its) (accepted_published done own its) had
  one_step done since (Faulted left) k had = other_step done (Faulted left) (accepted_faulted done left) had

  none_yet : HasSheet []
  unfolding standing_back
  none_yet approved = absurd (false≢true approved)

  pub has_sheet : (events : List Event) → IsOrderly limits format events → is_approved (status_at events site day) ≡ true → is_some (stored_sheet events site day) ≡ true
  has_sheet events k = by_events limits format HasSheet one_step none_yet events k
