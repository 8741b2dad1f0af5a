-- The line of an edit: its number, its kind, who made it, under which reference, of which station, why, and its figures, with tabs between.
use Rattle.std.specs.Prelude.{ℕ, List, ◌++◌, codes, decimal}
use Rattle.edits.specs.Kinds.{kind_name, kind_of}
use Rattle.edits.specs.declared.content.Edit.{Edit}
use Rattle.ledger.specs.Figures.{figures_text}
use Rattle.ledger.specs.declared.figures.Style.TheVariants.{OfALine}
use Rattle.site_texts.specs.SiteText.{site_text}

-- the number, the kind and the person
abbrev pub kind_fields : ℕ → Edit → List ℕ
kind_fields number edit = decimal number ++ codes "\t" ++ kind_name (kind_of edit.what) ++ codes "\t" ++ edit.by

-- the reference, the site and the comment
abbrev pub sender_fields : Edit → List ℕ
sender_fields edit = codes "\t" ++ edit.reference ++ codes "\t" ++ site_text edit.site ++ codes "\t" ++ edit.comment

abbrev pub line_text : ℕ → Edit → List ℕ
line_text number edit = kind_fields number edit ++ sender_fields edit ++ figures_text OfALine edit.what ++ codes "\n"
