use Rattle.std.specs.Prelude.{ℕ, drop}
use Rattle.std.proofs.Common.{◌≡◌, ◌-◌, ◌∙◌, ap, List, ◌++◌, length, arith, length-drop}
use Rattle.std.proofs.lemmas.List.{take_all}
use Rattle.drawings.specs.declared.curves.Sample.{Sample}
use Rattle.draw.specs.Curves.{gap_text}
use Rattle.draw.proofs.TextLemmas.{no_texts, one_text_more}
use Rattle.draw.proofs.curves.write_each_gap.Goals as goal

pub loop-place-init : goal.loop-place-init
loop-place-init c = no_texts (λ (k : ℕ). gap_text c.args.gap c.args.times.now c.args.frame.now (drop k c.args.samples.now)) c.args.out.now

pub loop-place-preserved : goal.loop-place-preserved
loop-place-preserved c =
    one_text_more (λ (k : ℕ). gap_text c.args.gap c.args.times.now c.args.frame.now (drop k c.args.samples.now)) c.loop-place.place c.args.out.now c.loop-place.out c.write_gap.new.out
    c.loop-place.invariant
    (c.in_ok-write_gap.ensures
    ∙ ap (λ (samples : List Sample). c.loop-place.out ++ gap_text c.args.gap c.args.times.now c.args.frame.now samples)
    (take_all (length c.args.samples.now - c.loop-place.place) (drop c.loop-place.place c.args.samples.now) (omega (arith, length-drop c.loop-place.place c.args.samples.now))))
