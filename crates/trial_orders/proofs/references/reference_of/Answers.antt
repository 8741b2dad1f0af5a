use Rattle.std.proofs.Common.{◌≡◌, rules, codes, ◌++◌, decimal, sym, subst}
use Rattle.edits.specs.Texts.{IsReference}
use Rattle.trial_orders.proofs.DigitLemmas.{is_reference}
use Rattle.trial_orders.proofs.references.reference_of.Goals as goal

pub unwrap-requires : goal.unwrap-requires
unwrap-requires c =
    let text : c.as_slice.result.now ≡ codes "t-" ++ decimal c.args.number = search rules in
    c.new.ensures.range.1 (subst IsReference (sym text) (is_reference c.args.number (search rules)))
