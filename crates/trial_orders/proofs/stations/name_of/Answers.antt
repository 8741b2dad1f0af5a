use Rattle.std.proofs.Common.{◌≡◌, rules, codes, ◌++◌, decimal, sym, subst}
use Rattle.edits.specs.Texts.{IsName}
use Rattle.trial_orders.proofs.DigitLemmas.{is_name}
use Rattle.trial_orders.proofs.stations.name_of.Goals as goal

pub unwrap-requires : goal.unwrap-requires
unwrap-requires c =
    let text : c.push_number.new.self ≡ codes "TRIAL " ++ decimal c.args.station = search rules in
    c.new.ensures.range.1 (subst IsName (sym text) (is_name c.args.station (search rules)))
