use Rattle.draw.specs.Frames.{number_text}
use Rattle.draw.proofs.TextLemmas.{no_texts, one_text_more}
use Rattle.draw.proofs.frames.write_each_number.Goals as goal

pub loop-place-init : goal.loop-place-init
loop-place-init c = no_texts (number_text c.args.numbers.now) c.args.out.now

pub loop-place-preserved : goal.loop-place-preserved
loop-place-preserved c =
    one_text_more (number_text c.args.numbers.now) c.loop-place.place c.args.out.now c.loop-place.out c.write_number.new.out c.loop-place.invariant c.in_ok-write_number.ensures
