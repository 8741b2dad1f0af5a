use Rattle.std.proofs.Common.{◌≡◌, take_all, refl, subst, arith}
use Rattle.std.proofs.lemmas.Bool.{OnTrue_at, OnTrue_from, and_parts}
use Rattle.edit_bodies.proofs.CompactLemmas.{escape_more}
use Rattle.json.specs.Print.{escape}
use Rattle.edit_bodies.proofs.compact_form.are_plain.Goals as goal

pub loop-byte-init : goal.loop-byte-init
loop-byte-init g c = λ e. refl

pub loop-byte-preserved : goal.loop-byte-preserved
loop-byte-preserved g c = λ e.
    let parts = and_parts c.loop-byte.plain c.is_plain-plain.result e in
    escape_more c.args.block.now c.loop-byte.byte-index (omega (arith, c.loop-byte-test.true, c.told-block)) (c.loop-byte.invariant parts.0) (OnTrue_at parts.1 c.is_plain-plain.ensures)

pub returns : goal.returns
returns g c =
    let all = take_all c.loop-byte.byte-index c.args.block.now (omega (arith, c.loop-byte-test.false, c.told-block)) in
    OnTrue_from c.loop-byte.plain _ (λ e. subst (λ l. escape l ≡ l) all (c.loop-byte.invariant e))
