-- What is kept in memory after an edit was accepted.
use Rattle.std.specs.Prelude.{◌≡◌, ℕ, ◌+◌, ◌<◌, ◌^◌, List, [], ◌∷◌, ◌++◌, length, ℤ}
use Rattle.std.proofs.Common.{arith, refl, ap, sym, subst, ◌∙◌, length-append}
use Rattle.approval.specs.Kept.{KeptSite}
use Rattle.day_cells.specs.KeptDays.{KeptDays}
use Rattle.history.specs.Accepted.{accepted, stations_at, journal_size}
use Rattle.history.specs.After.{after_record}
use Rattle.history.specs.Awaited.{pending_days}
use Rattle.history.specs.Events.{Event, Accepted}
use Rattle.history.specs.Legal.{IsLegal}
use Rattle.history.specs.Verdicts.{with_record}
use Rattle.history.proofs.EventLemmas.{accepted_accepted}
use Rattle.office_inputs.specs.Changes.{changed_days}
use Rattle.office_inputs.specs.Kept.{InForce, in_force}
use Rattle.office_inputs.specs.Stations.{stations_after}
use Rattle.recompute.specs.Cells.{Marks}
use Rattle.records.specs.Frames.{before_payload}
use Rattle.records.specs.Payloads.{payload}
use Rattle.records.specs.Sheets.{Record}
use Rattle.records.specs.declared.formats.Format.{Format}
use Rattle.register.specs.Keeping.{Keeps}
use Rattle.register.specs.References.{Placed}
use Rattle.register.specs.Registered.{Registered, registered, IsReady}
use Rattle.register.proofs.StandsLemmas.{Stands}
use Rattle.register.proofs.KeepsLemmas.{keeps_accepted, journal_more}

-- what is asked of an edit that is taken in
pub record MayBeTaken (now : Registered) (opened : ℕ) (piece : Record) (days : List ℤ) (size : ℕ) : Type 0 where
  pub legal : IsLegal (after_record opened now.history piece)
  pub days_are : days ≡ changed_days (stations_at now.history.events) piece.edit
  pub room : IsReady now piece.edit
  pub counted : length now.history.events + 1 + length (pending_days (with_record now.history piece)) < 2 ^ 64
  pub size_is : size ≡ journal_size now.history.format (accepted (with_record now.history piece))
  pub size_fits : size < 2 ^ 64

module _ (opened : ℕ) (format : Format) (inputs : InForce) (cells : List KeptDays) (places : List Placed) (statuses : List KeptSite) (spare : ℕ) (events : List Event)
    (pieces : List Record) (count bytes : ℕ) (kept : Keeps (registered opened format inputs cells places statuses spare events) pieces count bytes) where
  taken_here : (opened_with : ℕ) (piece : Record) (days : List ℤ) (size : ℕ)
      → MayBeTaken (registered opened format inputs cells places statuses spare events) opened_with piece days size
      → (new : InForce) (more : List KeptDays) (standings : List KeptSite) (room number : ℕ) → in_force new ≡ stations_after (in_force inputs) piece.edit → new.limits ≡ inputs.limits
      → number ≡ length pieces + 1 → Marks cells more piece.edit.site days number → Stands statuses standings number piece.edit days
      → Keeps (registered opened_with format new more places standings room (events ++ Accepted piece ∷ [])) (pieces ++ piece ∷ []) (count + 1) size
  taken_here opened_with piece days size may new more standings room number s l n m st =
      let one = length-append events (Accepted piece ∷ []) in
      let counted = may.counted in
      keeps_accepted opened format inputs cells places statuses spare events pieces count bytes kept opened_with piece new more standings room number (count + 1) size may.legal s l n
      (subst (λ (d : List ℤ). Marks cells more piece.edit.site d number) may.days_are m)
      (subst (λ (d : List ℤ). Stands statuses standings number piece.edit d) may.days_are st) may.room.reference refl
      (may.size_is ∙ ap (journal_size format) (accepted_accepted events piece) ∙ journal_more format (accepted events) piece
      ∙ ap (λ k. k + (before_payload + length (payload format piece))) (sym kept.journal_is))
      may.size_fits (omega (arith, one, counted))

  pub keeps_taken : (now : Registered) → registered opened format inputs cells places statuses spare events ≡ now
      → (opened_with : ℕ) (piece : Record) (days : List ℤ) (size : ℕ) → MayBeTaken now opened_with piece days size
      → (new : InForce) (more : List KeptDays) (standings : List KeptSite) (room number : ℕ) (since : List Event) (known : List Record)
      → in_force new ≡ stations_after (in_force inputs) piece.edit → new.limits ≡ inputs.limits
      → number ≡ length pieces + 1 → Marks cells more piece.edit.site days number → Stands statuses standings number piece.edit days
      → since ≡ events ++ Accepted piece ∷ [] → known ≡ pieces ++ piece ∷ []
      → Keeps (registered opened_with format new more places standings room since) known (count + 1) size
  keeps_taken now view opened_with piece days size may new more standings room number since known s l n m st e k =
      subst (λ (x : List Event). Keeps (registered opened_with format new more places standings room x) known (count + 1) size) (sym e)
      (subst (λ (x : List Record). Keeps (registered opened_with format new more places standings room (events ++ Accepted piece ∷ [])) x (count + 1) size) (sym k)
      (taken_here opened_with piece days size (subst (λ (r : Registered). MayBeTaken r opened_with piece days size) (sym view) may) new more standings room number s l n m st))
