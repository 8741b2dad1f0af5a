-- The lines that tell what became of the stations of a document.
use Rattle.std.specs.Prelude.{ℕ, List, ◌++◌, codes}
use Rattle.edits.specs.declared.content.Edit.{Edit}
use Rattle.fixed_units.specs.Quantities.{SiteNumber}
use Rattle.site_texts.specs.SiteText.{site_text}

-- a line ends with the number of the station's site
abbrev pub site_end : SiteNumber → List ℕ
site_end site = codes " " ++ site_text site ++ codes "\n"

abbrev pub end_of : Edit → List ℕ
end_of edit = site_end edit.site
