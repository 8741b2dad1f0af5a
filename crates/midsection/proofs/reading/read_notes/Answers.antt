use Rattle.midsection.proofs.NotesLemmas.{read_verticals_are}
use Rattle.midsection.specs.Reading.{records_of}
use Rattle.midsection.proofs.reading.read_notes.Goals as goal

pub of_verticals-requires : goal.of_verticals-requires
of_verticals-requires c = read_verticals_are (records_of c.args.text.now) c.in_ok-verticals.verticals.items c.in_ok-verticals.ensures.ok
