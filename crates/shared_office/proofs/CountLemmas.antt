-- Whatever is accepted and published, the events and the ending can be counted.
use Rattle.std.specs.Prelude.{◌≡◌, ◌+◌, ◌≤◌, List, [], ◌∷◌, length, map, Option}
use Rattle.std.proofs.Common.{arith, ap, sym, subst, ◌∙◌}
use Rattle.std.proofs.lemmas.List.{append-nil}
use Rattle.edits.specs.declared.content.Edit.{Edit}
use Rattle.history.specs.After.{after_publications, go_on, publication}
use Rattle.history.specs.Awaited.{SiteDay, pending_days}
use Rattle.history.specs.Events.{Event, Accepted, Faulted, History}
use Rattle.history.specs.Verdicts.{record_of}
use Rattle.office.proofs.StepLemmas.{Course, Still, Taken, Failed, Shown}
use Rattle.register.proofs.CourseLemmas.{ArePublished, published_keep}
use Rattle.register.proofs.LimitLemmas.{edit_keeps_to, refused_keeps_to}
use Rattle.shared_office.specs.Entries.{CanEnd}

-- a call goes on by some events
pub goes_on : (h : History) (asked : Option Edit) (edits : List Edit) (new : History) → Course h asked edits new → (added : List Event) × (new ≡ go_on h added)
goes_on h asked edits new (Still e is) = ([], is ∙ ap (λ (l : List Event). record { opened = h.opened; limits = h.limits; format = h.format; events = l }) (sym (append-nil h.events)))
goes_on h asked edits new (Taken edit its e v is) = (Accepted (record_of h edit) ∷ [], is)
goes_on h asked edits new (Failed edit left its e v may is) = (Faulted left ∷ [], is)
goes_on h asked edits new (Shown days e p is) = (map publication days, is)

-- publications keep the sum of the events and the pending days
owed_after : (h : History) (days : List SiteDay) → ArePublished h.events days
    → length (after_publications h days).events + length (pending_days (after_publications h days).events) ≤ length h.events + length (pending_days h.events)
owed_after h days p =
    published_keep (record { opened = h.opened; limits = record h.limits { events = length h.events + length (pending_days h.events) }; format = h.format; events = h.events }) days p
    (omega arith)

pub can_end_after : (h : History) (asked : Option Edit) (edits : List Edit) (new : History) → Course h asked edits new → CanEnd h → CanEnd new
can_end_after h asked edits new (Still e is) k = subst CanEnd (sym is) k
can_end_after h asked edits new (Taken edit its e v is) k =
    subst CanEnd (sym is) (k.0, (let a = edit_keeps_to h edit v in let b = k.0 in omega (arith, a, b)))
can_end_after h asked edits new (Failed edit left its e v may is) k =
    subst CanEnd (sym is) (k.0, (let a = refused_keeps_to h edit left v in let b = k.0 in omega (arith, a, b)))
can_end_after h asked edits new (Shown days e p is) k =
    subst CanEnd (sym is) (k.0, (let a = owed_after h days p in let b = k.1 in omega (arith, a, b)))
