-- The events of a trial are accepted edits and publications.
use Rattle.std.proofs.Common.{◌≡◌, ◌+◌, List, [], ◌∷◌, ◌++◌, refl, ap, sym, subst, ◌∙◌, arith, length, map, length-append}
use Rattle.history.proofs.EventLemmas.{accepted-append}
use Rattle.history.specs.Accepted.{accepted}
use Rattle.history.specs.After.{publication}
use Rattle.history.specs.Awaited.{SiteDay, pending_days}
use Rattle.history.specs.Events.{Event, Accepted, Published, Faulted}
use Rattle.history.specs.Verdicts.{Verdict, record_of, Accepts, Refuses, Repeats, verdict}
use Rattle.edits.specs.declared.content.Edit.{Edit}
use Rattle.records.specs.Sheets.{Record}
use Rattle.trial.specs.Figures.{publications}
use Rattle.trial.specs.Trials.{Trial, after_asking, after_settling, Follows, FollowsAll, after_verdict, beginning}
use Rattle.trial_orders.specs.Orders.{Order, Ask, Settle}

abbrev pub IsCounted : List Event → Type 0
IsCounted events = length events ≡ length (accepted events) + publications events

publications-append : (xs ys : List Event) → publications (xs ++ ys) ≡ publications xs + publications ys
publications-append [] ys = omega arith
publications-append (Accepted piece ∷ xs) ys = publications-append xs ys
publications-append (Published site day ∷ xs) ys = let rest = publications-append xs ys in omega (arith, rest)
publications-append (Faulted doubt ∷ xs) ys = publications-append xs ys

counted_both : (xs ys : List Event) → IsCounted xs → IsCounted ys → IsCounted (xs ++ ys)
counted_both xs ys f g =
    let whole = length-append xs ys in
    let edits = ap length (accepted-append xs ys) ∙ length-append (accepted xs) (accepted ys) in
    omega (arith, whole, edits, publications-append xs ys, f, g)

counted_record : (piece : Record) → IsCounted (Accepted piece ∷ [])
counted_record piece = refl

counted_days : (days : List SiteDay) → IsCounted (map publication days)
counted_days [] = refl
counted_days (d ∷ days) = let rest = counted_days days in omega (arith, rest)

counted_verdict : (v : Verdict) (t : Trial) (edit : Edit) → IsCounted t.history.events → IsCounted (after_verdict v t edit).history.events
counted_verdict (Repeats earlier) t edit h = h
counted_verdict (Refuses refusal) t edit h = h
counted_verdict Accepts t edit h = counted_both t.history.events (Accepted (record_of t.history edit) ∷ []) h (counted_record (record_of t.history edit))

counted_next : (t next : Trial) (order : Order) → Follows t order next → IsCounted t.history.events → IsCounted next.history.events
unfolding after_asking after_settling
counted_next t next (Ask by site what) f h =
    subst (λ (n : Trial). IsCounted n.history.events) (sym f.2) (counted_verdict (verdict t.history f.0) t f.0 h)
counted_next t next Settle f h =
    subst (λ (n : Trial). IsCounted n.history.events) (sym f)
    (counted_both t.history.events (map publication (pending_days t.history.events)) h (counted_days (pending_days t.history.events)))

counted_all : (t after : Trial) (orders : List Order) → FollowsAll t orders after → IsCounted t.history.events → IsCounted after.history.events
counted_all t after [] f h = subst (λ (n : Trial). IsCounted n.history.events) (sym f) h
counted_all t after (order ∷ orders) f h = counted_all f.0 after orders f.2 (counted_next t f.0 order f.1 h)

-- so they are in a trial from its beginning on
pub counted_from : (start after : Trial) (orders : List Order) → start ≡ beginning → FollowsAll start orders after → IsCounted after.history.events
counted_from start after orders e f = counted_all start after orders f (subst (λ (n : Trial). IsCounted n.history.events) (sym e) refl)
