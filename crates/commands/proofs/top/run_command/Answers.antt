use Rattle.std.proofs.Common.{subst}
use Rattle.command_words.specs.Laws.{CanBeAsked}
use Rattle.command_words.specs.Commands.{asked_by}
use Rattle.command_words.specs.declared.reading.Command.{Command}
use Rattle.commands.proofs.top.run_command.Goals as goal

pub import_input-end-requires-after_bounds : goal.import_input-end-requires-after_bounds
import_input-end-requires-after_bounds g c κs within = subst (λ (command : Command). CanBeAsked (asked_by command)) c.in-Import.is c.requires.asked

pub write_water-end-requires-after_bounds : goal.write_water-end-requires-after_bounds
write_water-end-requires-after_bounds g c κs within = subst (λ (command : Command). CanBeAsked (asked_by command)) c.in-Water.is c.requires.asked

pub note_input-end-requires-after_bounds : goal.note_input-end-requires-after_bounds
note_input-end-requires-after_bounds g c κs within = subst (λ (command : Command). CanBeAsked (asked_by command)) c.in-Notes.is c.requires.asked
