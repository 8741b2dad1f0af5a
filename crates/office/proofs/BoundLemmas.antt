-- Events and pending days keep to the limit, whatever steps come behind an opening, stops and further openings among them.
use Rattle.std.specs.Prelude.{◌≡◌, List, [], ◌∷◌, ◌++◌, Option, Some, None}
use Rattle.std.proofs.Common.{sym, subst, inl, inr, ◌∙◌}
use Rattle.edits.specs.declared.content.Edit.{Edit}
use Rattle.history.specs.Accepted.{accepted}
use Rattle.history.specs.After.{doubt, left_by, reopen}
use Rattle.history.specs.Events.{History}
use Rattle.history.specs.Verdicts.{Accepts, record_of, verdict}
use Rattle.history.specs.declared.recorded.NotKept.{NotKept}
use Rattle.history.specs.declared.recorded.NotKept.TheVariants as not_kept
use Rattle.history.proofs.EventLemmas.{accepted_faulted}
use Rattle.office.specs.Steps.{Step, GoesOver, IsReopened, IsStep, added_by, cut_off}
use Rattle.office.proofs.CourseLemmas.{by_steps}
use Rattle.office.proofs.DoubtLemmas.{accepted_publications, doubt_publications}
use Rattle.office.proofs.EditLemmas.{doubt_accepted, doubt_faulted}
use Rattle.office.proofs.ReplayLemmas.{doubt_reopened}
use Rattle.office.proofs.StepLemmas.{Course, Still, Taken, Failed, Shown, step_course}
use Rattle.office_inputs.specs.declared.limits.Limits.{Limits}
use Rattle.records.specs.Sheets.{Record}
use Rattle.records.specs.declared.formats.Format.{Format}
use Rattle.register.specs.Keeping.{KeepsToTheLimit}
use Rattle.register.specs.Registered.{Registered}
use Rattle.register.proofs.AgainLemmas.{IsNoLonger, no_longer_accepted, no_longer_faulted, no_longer_opened, no_longer_published, opened_keeps_to, opened_with_keeps_to}
use Rattle.register.proofs.CourseLemmas.{published_keep}
use Rattle.register.proofs.LimitLemmas.{edit_keeps_to, refused_keeps_to}

-- the limit is kept, also by an office that is opened again, with the record in doubt and without it
record IsBounded (h : History) : Type 0 where
  keeps : KeepsToTheLimit h
  no_longer : IsNoLonger h.events
  in_doubt : (piece : Record) → doubt h ≡ Some piece → KeepsToTheLimit (reopen h.limits h.format (accepted h.events ++ piece ∷ []))

left_keeps : (h : History) (edit : Edit) (failed : NotKept) → IsBounded h → verdict h edit ≡ Accepts → (piece : Record)
    → left_by (doubt h) (record_of h edit) failed ≡ Some piece → KeepsToTheLimit (reopen h.limits h.format (accepted h.events ++ piece ∷ []))
left_keeps h edit not_kept.Mend b v piece e = b.in_doubt piece e
left_keeps h edit not_kept.Record b v piece e = absurd (cc)
left_keeps h edit not_kept.Gate b v piece e =
    let same : record_of h edit ≡ piece = cc in
    subst (λ (p : Record). KeepsToTheLimit (reopen h.limits h.format (accepted h.events ++ p ∷ []))) same (opened_with_keeps_to h edit v b.no_longer)

no_doubt : (o : Option Record) (piece : Record) → o ≡ None → o ≡ Some piece → ⊥
no_doubt None piece e h = cc
no_doubt (Some other) piece e h = cc

bounded_course : (h : History) (asked : Option Edit) (edits : List Edit) (new : History) → Course h asked edits new → IsBounded h → IsBounded new
bounded_course h asked edits new (Still e is) b = subst IsBounded (sym is) b
bounded_course h asked edits new (Taken edit its e v is) b =
    subst IsBounded (sym is) (record {
      keeps = edit_keeps_to h edit v;
      no_longer = no_longer_accepted h.events (record_of h edit) b.no_longer;
      in_doubt = λ piece d. absurd (no_doubt _ piece (doubt_accepted h edit) d);
    })
bounded_course h asked edits new (Failed edit left its e v may is) b =
    subst IsBounded (sym is) (record {
      keeps = refused_keeps_to h edit left v;
      no_longer = no_longer_faulted h.events left b.no_longer;
      in_doubt = λ piece d.
          subst (λ (l : List Record). KeepsToTheLimit (reopen h.limits h.format (l ++ piece ∷ []))) (sym (accepted_faulted h.events left))
          (left_keeps h edit may.0 b v piece (sym may.1 ∙ sym (doubt_faulted h left) ∙ d));
    })
bounded_course h asked edits new (Shown days e p is) b =
    subst IsBounded (sym is) (record {
      keeps = published_keep h days p b.keeps;
      no_longer = no_longer_published h.events days p b.no_longer;
      in_doubt = λ piece d.
          subst (λ (l : List Record). KeepsToTheLimit (reopen h.limits h.format (l ++ piece ∷ []))) (sym (accepted_publications h.events days))
          (b.in_doubt piece (sym (doubt_publications h.events days) ∙ d));
    })

bounded_opened : (limits : Limits) (format : Format) (pieces : List Record) → KeepsToTheLimit (reopen limits format pieces)
    → IsBounded (reopen limits format pieces)
bounded_opened limits format pieces k = record {
  keeps = k;
  no_longer = no_longer_opened pieces;
  in_doubt = λ piece d. absurd (no_doubt _ piece (doubt_reopened limits format pieces) d);
}

bounded_reopened : (old : Registered) (cut : Option Edit) (found : Option Record) (new : Registered) → IsReopened old cut found new → IsBounded old.history
    → IsBounded new.history
bounded_reopened old cut None new is b =
    subst IsBounded (sym is.0) (bounded_opened old.history.limits old.history.format (accepted old.history.events) (opened_keeps_to old.history b.no_longer b.keeps))
bounded_reopened old cut (Some piece) new is b =
    let h = old.history in
    subst IsBounded (sym is.1) (bounded_opened h.limits h.format (accepted h.events ++ piece ∷ []) (elim is.0 [
      | inl left ↦ b.in_doubt piece left
      | inr flown ↦
          subst (λ (p : Record). KeepsToTheLimit (reopen h.limits h.format (accepted h.events ++ p ∷ []))) (sym flown.3)
          (opened_with_keeps_to h flown.0 flown.2 b.no_longer)
    ]))

bounded_step : (old : Registered) (step : Step) (new : Registered) → IsStep old step new → IsBounded old.history → IsBounded new.history
bounded_step old step new is b = elim (step_course old step new is) [
  | inl course ↦ bounded_course old.history (cut_off step) (added_by step) new.history course b
  | inr stop ↦ bounded_reopened old stop.0 stop.1 new stop.3 b
]

pub limit_from_opening : (old new : Registered) (steps : List Step) (pieces : List Record) → old.history ≡ reopen old.history.limits old.history.format pieces
    → GoesOver old steps new → KeepsToTheLimit old.history → KeepsToTheLimit new.history
limit_from_opening old new steps pieces opened goes k =
    let start : IsBounded old.history =
    subst IsBounded (sym opened) (bounded_opened old.history.limits old.history.format pieces (subst KeepsToTheLimit opened k)) in
    (by_steps (λ (r : Registered). IsBounded r.history) bounded_step old steps new goes start).keeps
