use Rattle.std.proofs.Common.{◌≡◌, ◌+◌, ◌-◌, ◌≤◌, length, drop, slice_range, sym, ap, ◌∙◌, arith}
use Rattle.std.proofs.lemmas.List.{length-take}
use Rattle.wire.specs.Incoming.{Held}
use Rattle.wire.proofs.IncomingLemmas.{behind_skipped}
use Rattle.wire.proofs.incoming.Incoming.skip.Goals as goal

pub returns : goal.returns
returns c =
    let block = c.self.inside.block.items in
    let start = c.self.inside.start in
    let end = c.self.inside.end in
    let count = c.args.count in
    let whole : slice_range block start end ≡ c.args.self.now.ahead = ap (λ (h : Held). h.ahead) c.self.view_is in
    let fits : start + count ≤ end =
    omega (arith, c.requires, c.self.invariant.ordered, ap length whole, length-take (end - start) (drop start block)) in
    let ahead : slice_range block (start + count) end ≡ drop count c.args.self.now.ahead =
    sym (behind_skipped block start end count fits) ∙ ap (drop count) whole in
    let offset : c.self.inside.offset + count ≡ c.args.self.now.offset + count = ap (λ (h : Held). h.offset + count) c.self.view_is in
    λ i. record { ahead = ahead i; offset = offset i }
