use Rattle.std.proofs.Common.{arith}
use Rattle.std.proofs.lemmas.Map.Text.{text_keys}
use Rattle.devices.proofs.memory_cabinet.place_under.Goals as goal

pub returns-clause-others : goal.returns-clause-others
returns-clause-others c other ne = grind (arith, text_keys)
