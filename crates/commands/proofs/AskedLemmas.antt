-- What is known of what `import`, `water` and `notes` are asked.
use Rattle.std.proofs.Common.{[], arith}
use Rattle.command_words.specs.Laws.{CanBeAsked}
use Rattle.command_words.specs.Words.{Import, ImportAsked, Journal, Notes, NotesAsked, Water, WaterAsked}
use Rattle.edits.specs.Texts.{AreInitials, IsReference}
use Rattle.note_loading.specs.Visits.{IsVisit}
use Rattle.reading_loading.specs.Puts.{IsPrefix}
use Rattle.water_year.specs.Rows.{IsWaterYear}
use Rattle.commands.specs.Loading.{visit_of}

pub import_initials : (asked : ImportAsked) → CanBeAsked (Import asked) → AreInitials asked.by
import_initials asked can = can.0 3 (Journal []) (omega arith)

pub import_prefix : (asked : ImportAsked) → CanBeAsked (Import asked) → IsPrefix asked.reference
import_prefix asked can = record { reference = can.0 4 (Journal []) (omega arith); longest = can.1 }

pub water_year_asked : (asked : WaterAsked) → CanBeAsked (Water asked) → IsWaterYear asked.year
water_year_asked asked can =
    let range = can.0 2 (Journal []) (omega arith) in
    record { first = range.0; last = range.1 }

pub notes_initials : (asked : NotesAsked) → CanBeAsked (Notes asked) → AreInitials asked.by
notes_initials asked can = can.0 6 (Journal []) (omega arith)

pub notes_reference : (asked : NotesAsked) → CanBeAsked (Notes asked) → IsReference asked.reference
notes_reference asked can = can.0 7 (Journal []) (omega arith)

pub notes_visit : (asked : NotesAsked) → CanBeAsked (Notes asked) → IsVisit (visit_of asked)
notes_visit asked can =
    let range = can.0 2 (Journal []) (omega arith) in
    let greatest = range.1 in record {
      numbered = record { least = can.1; greatest = omega (arith, greatest) };
      stamp = can.0 3 (Journal []) (omega arith);
      gage = can.0 4 (Journal []) (omega arith);
    }
