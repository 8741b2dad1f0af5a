-- The readings behind the day up to the neighbour, or as far as the gap.
use Rattle.std.specs.Prelude.{◌≡◌, ◌*◌, pos, int_lt}
use Rattle.std.proofs.Common.{arith, ap, sym, ◌∙◌, subst, w64, to_z, of_z}
use Rattle.std.proofs.lemmas.Int.{to_z-of_z}
use Rattle.rising.proofs.Placing.{filter_rises}
use Rattle.readings.specs.Halves.{joined}
use Rattle.readings.specs.Reach.{follow_until}
use Rattle.readings.specs.Readings.{IsRising, instant_of, before_instant}
use Rattle.readings.specs.Window.{neighbour_after}
use Rattle.readings.proofs.Altering.{change_told}
use Rattle.readings.proofs.NearLemmas.{before_from}
use Rattle.readings.proofs.changes.alters_follow.Goals as goal

pub alters_used-requires-clause-kept : goal.alters_used-requires-clause-kept
alters_used-requires-clause-kept c =
    subst IsRising (sym c.head.ensures) (filter_rises instant_of (λ r. int_lt r.at (to_z w64 (of_z w64 c.follow_until-until.result))) (joined c.args.late.now) c.requires.late)

pub alters_used-requires-clause-put : goal.alters_used-requires-clause-put
alters_used-requires-clause-put c =
    subst IsRising (sym c.head-2.ensures) (filter_rises instant_of (λ r. int_lt r.at (to_z w64 (of_z w64 c.follow_until-until.result))) c.args.put.now c.requires.put)

pub returns : goal.returns
returns c readings list rising late puts =
    let b = c.args.b in
    let gap = pos (60 * c.args.gap) in
    let n = follow_until b gap (neighbour_after b gap readings) in
    let same : c.follow_until-until.result ≡ n = c.follow_until-until.ensures ∙ ap (follow_until b gap) (c.neighbour_after.ensures readings rising late) in
    let until : to_z w64 (of_z w64 c.follow_until-until.result) ≡ n = grind (arith, to_z-of_z) in
    change_told b n c.args.change.now list readings c.head-2.result.now (joined c.head.result) _ rising
    (c.head.ensures ∙ ap (λ m. before_instant m (joined c.args.late.now)) until ∙ ap (before_instant n) late ∙ before_from n b readings)
    (c.head-2.ensures ∙ ap (λ m. before_instant m c.args.put.now) until ∙ ap (before_instant n) puts ∙ before_from n b list)
    c.alters_used.ensures
