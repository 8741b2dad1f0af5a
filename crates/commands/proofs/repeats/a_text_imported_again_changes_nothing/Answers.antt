use Rattle.commands.proofs.RepeatingLemmas.{imports_again}
use Rattle.commands.proofs.repeats.a_text_imported_again_changes_nothing.Goals as goal
use Rattle.commands.specs.Worlds.{told_by}

pub returns : goal.returns
returns g c = λ asked. imports_again g.C.Disk.Disk (told_by g.S.Source g.K.Sink g.E.Sink g.C.Cabinet g.L.Doors g.P.Spawner) asked
