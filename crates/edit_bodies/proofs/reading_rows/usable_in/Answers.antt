use Rattle.std.proofs.Common.{Some, None, refl, ◌∙◌}
use Rattle.edit_bodies.proofs.ReadingLemmas.{no_stage, texts_read}
use Rattle.edit_bodies.proofs.reading_rows.usable_in.Goals as goal
use Rattle.edit_bodies.specs.Trees.{stated}
use Rattle.fixed_units.specs.declared.readings.Flag.TheVariants.{Usable}

pub returns-in_err-text_in-2 : goal.returns-in_err-text_in-2
returns-in_err-text_in-2 c =
    c.from_residual-in_err-text_in-2.ensures ∙ no_stage _ _
    ∙ texts_read (stated c.args.at.now) (stated c.args.raw.now) (Some c.in_ok-text_in.field-0.now) None (Some Usable) (Some Usable) c.in_ok-text_in.ensures c.in_err-text_in-2.ensures refl

pub returns : goal.returns
returns c =
    c.reading_of.ensures
    ∙ texts_read (stated c.args.at.now) (stated c.args.raw.now) (Some c.in_ok-text_in.field-0.now) (Some c.in_ok-text_in-2.field-0.now) (Some Usable) (Some Usable) c.in_ok-text_in.ensures c.in_ok-text_in-2.ensures refl
