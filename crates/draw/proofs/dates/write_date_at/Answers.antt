-- The text is that of the day.
use Rattle.std.proofs.Common.{◌≡◌, ◌∙◌, ap, subst, ℕ, List, ◌++◌}
use Rattle.std.specs.Prelude.{OnOk}
use Rattle.civil_days.specs.Texts.{day_text}
use Rattle.draw.specs.Dates.{date_at}
use Rattle.draw.proofs.dates.write_date_at.Goals as goal

pub returns : goal.returns
returns c =
    subst (λ (date : List ℕ). OnOk c.write_told.result (c.write_told.new.out ≡ c.args.out.now ++ date_at c.args.seconds c.args.x date))
    (c.as_slice.ensures ∙ c.in_ok-write_day.ensures.text ∙ ap (λ (t : List ℕ). t ++ day_text c.args.day) c.new-text.ensures)
    c.write_told.ensures
