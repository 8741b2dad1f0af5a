use Rattle.std.specs.Prelude.{ℕ, pos, ◌+ℤ◌}
use Rattle.std.proofs.Common.{◌≡◌, ◌∙◌, ap, List, ◌++◌, ℤ}
use Rattle.fixed_units.specs.Quantities.{first_day}
use Rattle.draw.specs.Dates.{date_text}
use Rattle.draw.proofs.TextLemmas.{no_texts, one_text_more}
use Rattle.draw.proofs.dates.write_dates.Goals as goal

pub loop-place-init : goal.loop-place-init
loop-place-init c = no_texts (λ (k : ℕ). date_text c.args.zone.now c.args.times.now (first_day +ℤ pos k)) c.args.out.now

pub loop-place-preserved : goal.loop-place-preserved
loop-place-preserved c =
    one_text_more (λ (k : ℕ). date_text c.args.zone.now c.args.times.now (first_day +ℤ pos k)) c.loop-place.place c.args.out.now c.loop-place.out c.write_date.new.out
    c.loop-place.invariant
    (c.in_ok-write_date.ensures ∙ ap (λ (day : ℤ). c.loop-place.out ++ date_text c.args.zone.now c.args.times.now day) c.day_at.ensures)
