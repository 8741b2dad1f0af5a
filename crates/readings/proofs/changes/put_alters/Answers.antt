-- One of the list is used otherwise than what stands at its instant.
use Rattle.std.proofs.Common.{rules, tests}
use Rattle.std.proofs.lemmas.Iterator.{YieldsList-from_slice}
use Rattle.std.proofs.lemmas.Iterator.Search.{any_from_yields_List}
use Rattle.readings.specs.Halves.{joined}
use Rattle.readings.proofs.Altering.{put_told, used_anew}
use Rattle.readings.proofs.changes.put_alters.Goals as goal

pub returns : goal.returns
returns c =
    let rs = joined c.args.kept.now in
    let list = c.args.list.now in
    put_told list rs _ c.requires.list c.requires.kept
    (any_from_yields_List (used_anew rs) _ _ _ c.any.ensures.ran (YieldsList-from_slice list cc) (λ x b q k. search (rules, tests)))
