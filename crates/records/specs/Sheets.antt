-- The sheets of an approval: one text for each day that it approves.
use Rattle.std.specs.Prelude.{◌≡◌, ℕ, ◌≤◌, List, [], length, All, ℤ, pos, ◌+ℤ◌, ◌-ℤ◌}
use Rattle.edits.specs.declared.content.Edit.{Edit}
use Rattle.edits.specs.declared.content.What.{What}
use Rattle.edits.specs.declared.content.What.TheVariants.{Decide}
use Rattle.edits.specs.declared.decisions.Decision.TheVariants.{Approve}

-- what a journal keeps of an accepted edit: the edit, and the sheets of an approval
pub record Record : Type 0 where
  pub edit : Edit
  pub sheets : List (List ℕ)

-- a sheet is a text of 1 to 2,400 bytes
abbrev pub most_sheet_bytes : ℕ
most_sheet_bytes = 2_400

pub record IsSheet (text : List ℕ) : Type 0 where
  pub fewest : 1 ≤ length text
  pub most : length text ≤ most_sheet_bytes

-- one sheet for each day from one to another, in their order
pub record AreSheetsOfDays (from to : ℤ) (sheets : List (List ℕ)) : Type 0 where
  pub one_a_day : pos (length sheets) ≡ (to -ℤ from) +ℤ pos 1
  pub each : All IsSheet sheets

-- the sheets of an edit's record: an approval has one for each of its days, and no other edit has any
abbrev pub AreSheetsOf : What → List (List ℕ) → Type 0
AreSheetsOf (Decide from to Approve) sheets = AreSheetsOfDays from to sheets
AreSheetsOf _ sheets = sheets ≡ []
