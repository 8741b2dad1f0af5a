use Rattle.midsection.proofs.SectionLemmas.{section}
use Rattle.midsection.proofs.laws.widths_add_up_to_the_section.Goals as goal

pub returns : goal.returns
returns c = section
