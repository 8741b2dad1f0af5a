-- The readings before the day from the neighbour on, or as far as the gap.
use Rattle.std.specs.Prelude.{◌≡◌, ◌*◌, pos, int_le}
use Rattle.std.proofs.Common.{arith, ap, sym, ◌∙◌, subst, w64, to_z, of_z}
use Rattle.std.proofs.lemmas.Int.{to_z-of_z}
use Rattle.rising.proofs.Placing.{filter_rises}
use Rattle.readings.specs.Halves.{joined}
use Rattle.readings.specs.Reach.{lead_from}
use Rattle.readings.specs.Readings.{IsRising, instant_of, from_instant}
use Rattle.readings.specs.Window.{neighbour_before}
use Rattle.readings.proofs.Altering.{change_told}
use Rattle.readings.proofs.NearLemmas.{from_before}
use Rattle.readings.proofs.changes.alters_lead.Goals as goal

pub alters_used-requires-clause-kept : goal.alters_used-requires-clause-kept
alters_used-requires-clause-kept c =
    subst IsRising (sym c.tail.ensures) (filter_rises instant_of (λ r. int_le (to_z w64 (of_z w64 c.lead_from-from.result)) r.at) (joined c.args.early.now) c.requires.early)

pub alters_used-requires-clause-put : goal.alters_used-requires-clause-put
alters_used-requires-clause-put c =
    subst IsRising (sym c.tail-2.ensures) (filter_rises instant_of (λ r. int_le (to_z w64 (of_z w64 c.lead_from-from.result)) r.at) c.args.put.now c.requires.put)

pub returns : goal.returns
returns c readings list rising early puts =
    let a = c.args.a in
    let gap = pos (60 * c.args.gap) in
    let n = lead_from a gap (neighbour_before a gap readings) in
    let same : c.lead_from-from.result ≡ n = c.lead_from-from.ensures ∙ ap (lead_from a gap) (c.neighbour_before.ensures readings rising early) in
    let from : to_z w64 (of_z w64 c.lead_from-from.result) ≡ n = grind (arith, to_z-of_z) in
    change_told n a c.args.change.now list readings c.tail-2.result.now (joined c.tail.result) _ rising
    (c.tail.ensures ∙ ap (λ m. from_instant m (joined c.args.early.now)) from ∙ ap (from_instant n) early ∙ from_before n a readings)
    (c.tail-2.ensures ∙ ap (λ m. from_instant m c.args.put.now) from ∙ ap (from_instant n) puts ∙ from_before n a list)
    c.alters_used.ensures
