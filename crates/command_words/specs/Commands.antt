-- What a command asks.
use Rattle.command_words.specs.Words.{Asked, Init, Batch, Serve, Stations, Trial, Import, Daily, Water, Notes, Migrate, ImportAsked, DailyAsked, WaterAsked, NotesAsked}
use Rattle.command_words.specs.declared.orders.ImportOrder.{ImportOrder}
use Rattle.command_words.specs.declared.orders.DailyOrder.{DailyOrder}
use Rattle.command_words.specs.declared.orders.WaterOrder.{WaterOrder}
use Rattle.command_words.specs.declared.orders.NotesOrder.{NotesOrder}
use Rattle.command_words.specs.declared.reading.Command.{Command}
use Rattle.command_words.specs.declared.reading.Command.TheVariants as commands

-- what the order of each kind asks
abbrev pub import_asked : ImportOrder → ImportAsked
import_asked order =
    record {
      journal = order.journal.now;
      site = order.site;
      column = order.column.now;
      by = order.by.now;
      reference = order.reference.now;
    }

abbrev pub daily_asked : DailyOrder → DailyAsked
daily_asked order =
    record {
      journal = order.journal.now;
      site = order.site;
      from = order.from.now;
      first = order.first;
      last = order.last;
      turns = order.turns;
    }

abbrev pub water_asked : WaterOrder → WaterAsked
water_asked order = record { journal = order.journal.now; site = order.site; year = order.year; turns = order.turns }

abbrev pub notes_asked : NotesOrder → NotesAsked
notes_asked order =
    record {
      journal = order.journal.now;
      site = order.site;
      number = order.number;
      at = order.at;
      gage = order.gage;
      grade = order.grade;
      by = order.by.now;
      reference = order.reference.now;
    }

abbrev pub asked_by : Command → Asked
asked_by (commands.Init name) = Init name.now
asked_by (commands.Batch name workers) = Batch name.now workers
asked_by (commands.Serve name port workers connections) = Serve name.now port workers connections
asked_by (commands.Stations name) = Stations name.now
asked_by (commands.Trial number) = Trial number
asked_by (commands.Import order) = Import (import_asked order)
asked_by (commands.Daily order) = Daily (daily_asked order)
asked_by (commands.Water order) = Water (water_asked order)
asked_by (commands.Notes order) = Notes (notes_asked order)
asked_by (commands.Migrate from journal) = Migrate from.now journal.now
