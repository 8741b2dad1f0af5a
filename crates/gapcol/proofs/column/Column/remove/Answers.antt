use Rattle.std.proofs.Common.{◌≡◌, suc, ◌+◌, ◌++◌, length, take, drop, slice_get, sym, ap, ◌∙◌, arith, length-take, length-drop}
use Rattle.gapcol.specs.Lists.{with_spare}
use Rattle.gapcol.specs.Gaps.{gap_back, gap_list, gap_room}
use Rattle.gapcol.proofs.Lists.{head_is}
use Rattle.gapcol.proofs.Gaps.{count}
use Rattle.gapcol.proofs.column.Column.remove.Goals as goal

pub returns-clause-value : goal.returns-clause-value
returns-clause-value g c =
    let xs = gap_list c.self.inside.gap in let t = c.take_back.new.self in
    let head = head_is c.args.at xs c.take_back.result (gap_back t) (sym c.move_to.ensures.3 ∙ c.take_back.ensures.item) in
    ap (λ l. slice_get l.list c.args.at) (sym c.self.view_is) ∙ head.0

pub returns-clause-rest : goal.returns-clause-rest
returns-clause-rest g c =
    let a = c.self.inside.gap in let h = c.self.invariant in let xs = gap_list a in let m = c.move_to.new.self in let t = c.take_back.new.self in let moved = c.move_to.ensures in let took = c.take_back.ensures in
    let at = c.args.at in let x = c.take_back.result in
    let head = head_is at xs x (gap_back t) (sym moved.3 ∙ took.item) in
    let more : at + 1 ≡ suc at = omega arith in
    let items : gap_list t ≡ take at xs ++ drop (at + 1) xs = λ i. (took.gap.2 ∙ moved.2) i ++ (sym head.1 ∙ ap (λ k. drop k xs) (sym more)) i in
    let lies = moved.0 in let left = took.gap.0 in
    let same : m.len ≡ a.len = omega (arith, count a h, count m lies, ap length moved.2, ap length moved.3, lies.front, lies.back, length-take at xs, length-drop at xs) in
    let less : t.len + 1 ≡ m.len = omega (arith, lies.front, lies.back, left.front, left.back, ap length took.gap.2, ap length took.item) in
    let room : gap_room t ≡ gap_room a + 1 = omega (arith, took.gap.1, moved.1, same, less, h.sizes.0) in
    (λ i. with_spare (items i) (room i)) ∙ ap (λ l. with_spare (take at l.list ++ drop (at + 1) l.list) (l.spare + 1)) c.self.view_is
