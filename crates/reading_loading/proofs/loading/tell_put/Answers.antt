use Rattle.std.proofs.Common.{◌+◌, ◌∙◌, refl, Err}
use Rattle.std.specs.Fork.{slice_chunk}
use Rattle.edits.specs.Lawful.{most_readings}
use Rattle.office_inputs.specs.declared.refusals.Refusal.TheVariants.{NoMemory}
use Rattle.reading_loading.proofs.ChunkLemmas.{chunk_is_lawful}
use Rattle.reading_loading.proofs.PutLemmas.{some_put}
use Rattle.reading_loading.proofs.loading.tell_put.Goals as goal

pub returns-in-Ok-clause-told : goal.returns-in-Ok-clause-told
returns-in-Ok-clause-told g c =
    let told = c.tell_edit.ensures.told in
    (c.in-Ok.edit, told.0, c.in-Ok.ensures, told.1, told.2)

-- without memory for it an edit is refused, as if the office had been asked
pub returns-in-Err-clause-told : goal.returns-in-Err-clause-told
returns-in-Err-clause-told g c =
    let put = some_put c.args.order.now (c.args.place + 1) (slice_chunk c.args.readings.now most_readings c.args.place)
    (chunk_is_lawful c.args.readings.now c.args.place c.requires.within c.requires.rising c.requires.each)
    in (
      put.0,
      c.as_slice.result.now,
      put.1,
      record { told = Err NoMemory; edited = refl; line_is = c.as_slice.ensures.value ∙ c.told_line.ensures },
      c.put_all.ensures.written,
    )
