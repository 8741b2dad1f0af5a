use Rattle.std.proofs.Common.{◌∙◌, List, subst, sym}
use Rattle.edits.specs.Lawful.{ArePutReadings}
use Rattle.fixed_units.specs.declared.readings.Reading.{Reading}
use Rattle.reading_loading.proofs.ChunkLemmas.{chunk_is_lawful, few_numbers}
use Rattle.reading_loading.proofs.chunks.put_at.Goals as goal

pub put_of-requires-clause-few : goal.put_of-requires-clause-few
put_of-requires-clause-few c =
    few_numbers c.args.readings.now c.args.place c.requires.rising c.requires.each c.requires.within

pub put_of-requires-clause-lawful : goal.put_of-requires-clause-lawful
put_of-requires-clause-lawful c =
    subst (λ (l : List Reading). ArePutReadings l) (sym (c.in_ok-readings.ensures ∙ c.chunk_at.ensures))
    (chunk_is_lawful c.args.readings.now c.args.place c.requires.within c.requires.rising c.requires.each)
