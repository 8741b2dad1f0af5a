use Rattle.std.proofs.Common.{Some, None, option_and_then, refl, ap, ◌∙◌}
use Rattle.edit_bodies.proofs.ReadingLemmas.{no_flag, no_stage, texts_read}
use Rattle.edit_bodies.proofs.reading_rows.flagged_in.Goals as goal
use Rattle.edit_bodies.specs.Grammars.{flag_of, flag_of_text}
use Rattle.edit_bodies.specs.Trees.{stated}

pub returns-in_err-text_in-2 : goal.returns-in_err-text_in-2
returns-in_err-text_in-2 c =
    c.from_residual-in_err-text_in-2.ensures ∙ no_stage _ _
    ∙ texts_read (stated c.args.at.now) (stated c.args.raw.now) (Some c.in_ok-text_in.field-0.now) None (flag_of (stated c.args.flag.now)) _ c.in_ok-text_in.ensures c.in_err-text_in-2.ensures refl

pub returns-in_err-text_in-3 : goal.returns-in_err-text_in-3
returns-in_err-text_in-3 c =
    c.from_residual-in_err-text_in-3.ensures ∙ no_flag _ _
    ∙ texts_read (stated c.args.at.now) (stated c.args.raw.now) (Some c.in_ok-text_in.field-0.now) (Some c.in_ok-text_in-2.field-0.now) None _ c.in_ok-text_in.ensures c.in_ok-text_in-2.ensures (ap (option_and_then flag_of_text) c.in_err-text_in-3.ensures)

pub returns : goal.returns
returns c =
    c.reading_of.ensures
    ∙ texts_read (stated c.args.at.now) (stated c.args.raw.now) (Some c.in_ok-text_in.field-0.now) (Some c.in_ok-text_in-2.field-0.now) (flag_of_text c.in_ok-text_in-3.field-0.now) _ c.in_ok-text_in.ensures c.in_ok-text_in-2.ensures (ap (option_and_then flag_of_text) c.in_ok-text_in-3.ensures)
