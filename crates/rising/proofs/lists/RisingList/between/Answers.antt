use Rattle.std.specs.Prelude.{◌≡◌, int_lt, int_le}
use Rattle.std.proofs.Common.{rules, ◌∙◌, ap}
use Rattle.rising.specs.Lists.{from, before}
use Rattle.rising.proofs.Selecting.{filter_both}
use Rattle.rising.proofs.lists.RisingList.between.Goals as goal

pub returns : goal.returns
returns g c =
    let place = g.T.Keyed.place in
    let a = g.T.Keyed.number c.args.first in
    let b = g.T.Keyed.number c.args.end in
    let whole : c.as_slice-list.result.now ≡ c.args.self.now.list = search rules in
    let rest : c.split_at.result.1.now ≡ from place a c.args.self.now.list = c.split_at.ensures.back ∙ c.count_before.ensures.back ∙ ap (from place a) whole in
    c.split_at-2.ensures.front ∙ c.count_before-2.ensures.front ∙ ap (before place b) rest
    ∙ filter_both (λ x. int_le a (place x)) (λ x. int_lt (place x) b) c.args.self.now.list
