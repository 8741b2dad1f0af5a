-- An edition is told by its day, and each other edit by what it touches.
use Rattle.office_inputs.specs.Kept.{in_force}
use Rattle.depend.proofs.EditionLemmas.{edition_told}
use Rattle.depend.proofs.spans.compared_days_at.Goals as goal

pub returns-in-SetEdition : goal.returns-in-SetEdition
returns-in-SetEdition c =
    edition_told (in_force c.args.inputs.now) c.args.place.site c.args.edit.now.site c.args.edit.now.what _ _ c.days_of_edition.result c.requires.0 c.in-SetEdition.is
    c.days_of_edition.ensures
