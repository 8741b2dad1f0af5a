-- How a row of the daily table is made from its columns, and what its writer was given.
use Rattle.std.specs.Prelude.{◌≡◌, ℕ, ℤ, false, List, ◌++◌}
use Rattle.std.specs.Global.{Vec}
use Rattle.approval.specs.declared.status.Status.{Status}
use Rattle.civil_days.specs.Texts.{day_text}
use Rattle.csv.specs.Writing.{default_writer, fields_written, has_written, writer_pending, writer_setup, writer_under}
use Rattle.csv.specs.declared.writer.Writer.{Writer}
use Rattle.http_api.specs.Tables.{Row, number_or_empty, published_or_empty, row}
use Rattle.http_api.specs.declared.tables.Columns.{Columns}
use Rattle.http_api.specs.declared.tables.RowTexts.{RowTexts}

-- the row of a day of this status with these columns
abbrev pub columns_row : ℤ → Columns → Status → Row
columns_row day columns status = row day columns.answer.now columns.edit columns.discharge columns.stage status columns.estimated

-- the texts of a day and of these columns
pub record AreTexts (number : ℤ) (columns : Columns) (texts : RowTexts) : Type 0 where
  pub day : texts.day ≡ day_text number
  pub edit : texts.edit ≡ number_or_empty columns.edit
  pub discharge : texts.discharge ≡ published_or_empty columns.discharge
  pub stage : texts.stage ≡ published_or_empty columns.stage

-- what a writer was given so far: what was written out, and what it still holds
abbrev pub given : Writer (Vec ℕ) → List ℕ
given writer = (writer_under writer).items ++ writer_pending writer

-- a writer of comma-separated lines has ended each line that it began
pub record IsBetweenRows (writer : Writer (Vec ℕ)) : Type 0 where
  pub setup : writer_setup writer ≡ default_writer
  pub fields : fields_written writer ≡ 0
  pub wrote : has_written writer ≡ false
