-- The words of the command line: what they ask, a command with its options in any order.
use Rattle.std.specs.Prelude.{◌≡◌, ◌≢◌, ◌≤◌, ◌<ℤ◌, ◌≤ℤ◌, ◌+ℤ◌, ℕ, ℤ, pos, List, [], ◌∷◌, ◌++◌, length, codes, Some, Ok, All, Contains, IsPermutation, ⊤}
use Rattle.std.specs.Str.Parse.{IsNumeral, digits_value}
use Rattle.civil_days.specs.Spelling.{day_of_text, stamp_of_text}
use Rattle.edits.specs.Texts.{AreInitials, IsReference}
use Rattle.edits.specs.declared.measurements.Grade.{Grade}
use Rattle.edits.specs.declared.measurements.Grade.TheVariants.{Excellent, Good, Fair, Poor}
use Rattle.fixed_units.specs.Decimals.{decimal_of}
use Rattle.fixed_units.specs.Quantities.{SiteNumber, IsStage}
use Rattle.site_texts.specs.SiteText.{site_of_text}
use Rattle.command_words.specs.declared.numbers.NumericOption.{NumericOption}
use Rattle.command_words.specs.declared.numbers.NumericOption.TheVariants.{Number, Port, Workers, Connections, Turns, Year}

-- what `import` is asked: the journal's name, the site and the column of the unit values, by whom and under which reference
pub record ImportAsked : Type 0 where
  pub journal : List ℕ
  pub site : SiteNumber
  pub column : List ℕ
  pub by : List ℕ
  pub reference : List ℕ

-- `daily`: the journal's name, the site, the first day as it is spelled, the first and the last day, and how many turns are made before
pub record DailyAsked : Type 0 where
  pub journal : List ℕ
  pub site : SiteNumber
  pub from : List ℕ
  pub first : ℤ
  pub last : ℤ
  pub turns : ℕ

-- `water`: the journal's name, the site, the year, and how many turns are made before
pub record WaterAsked : Type 0 where
  pub journal : List ℕ
  pub site : SiteNumber
  pub year : ℕ
  pub turns : ℕ

-- `notes`: the journal's name, and what the notes do not tell of the measurement; by whom and under which reference
pub record NotesAsked : Type 0 where
  pub journal : List ℕ
  pub site : SiteNumber
  pub number : ℕ
  pub at : ℤ
  pub gage : ℤ
  pub grade : Grade
  pub by : List ℕ
  pub reference : List ℕ

-- what is asked: a journal is made, the requests of an input are served over it, or those of connections, or the
-- stations of a document are added to it, each with the journal's name; or a trial, with its number; or unit values are
-- put, a daily table or a water year is written, or a measurement is put by its notes; or the journal of one name is copied
-- to that of another
pub data Asked : Type 0 where
  Init : List ℕ → Asked
  Batch : List ℕ → ℕ → Asked
  Serve : List ℕ → ℕ → ℕ → ℕ → Asked
  Stations : List ℕ → Asked
  Trial : ℕ → Asked
  Import : ImportAsked → Asked
  Daily : DailyAsked → Asked
  Water : WaterAsked → Asked
  Notes : NotesAsked → Asked
  Migrate : List ℕ → List ℕ → Asked

-- an option, with what its value says: behind `--from` stands a day for `daily`, and a journal's name for `migrate`
pub data Given : Type 0 where
  Journal : List ℕ → Given
  Numeric : NumericOption → ℕ → Given
  Station : SiteNumber → Given
  Column : List ℕ → Given
  Sender : List ℕ → Given
  Reference : List ℕ → Given
  From : List ℕ → Given
  To : ℤ → Given
  At : ℤ → Given
  Gage : ℤ → Given
  Graded : Grade → Given

-- the command's word
abbrev pub command_word : Asked → List ℕ
command_word (Init name) = codes "init"
command_word (Batch name workers) = codes "batch"
command_word (Serve name port workers connections) = codes "serve"
command_word (Stations name) = codes "stations"
command_word (Trial number) = codes "trial"
command_word (Import order) = codes "import"
command_word (Daily order) = codes "daily"
command_word (Water order) = codes "water"
command_word (Notes order) = codes "notes"
command_word (Migrate from to) = codes "migrate"

-- the options of a command
abbrev pub options_of : Asked → List Given
options_of (Init name) = Journal name ∷ []
options_of (Batch name workers) = Journal name ∷ Numeric Workers workers ∷ []
options_of (Serve name port workers connections) =
    Journal name ∷ Numeric Port port ∷ Numeric Workers workers ∷ Numeric Connections connections ∷ []
options_of (Stations name) = Journal name ∷ []
options_of (Trial number) = Numeric Number number ∷ []
options_of (Import order) =
    Journal order.journal ∷ Station order.site ∷ Column order.column ∷ Sender order.by ∷ Reference order.reference ∷ []
options_of (Daily order) =
    Journal order.journal ∷ Station order.site ∷ From order.from ∷ To order.last ∷ Numeric Turns order.turns ∷ []
options_of (Water order) =
    Journal order.journal ∷ Station order.site ∷ Numeric Year order.year ∷ Numeric Turns order.turns ∷ []
options_of (Notes order) =
    Journal order.journal ∷ Station order.site ∷ Numeric Number order.number ∷ At order.at ∷ Gage order.gage
    ∷ Graded order.grade ∷ Sender order.by ∷ Reference order.reference ∷ []
options_of (Migrate from to) = From from ∷ Journal to ∷ []

-- those of them that it does not need, each as it is where it is left out
abbrev pub defaults_of : Asked → List Given
defaults_of (Batch name workers) = Numeric Workers 0 ∷ []
defaults_of asked = []

-- a daily table has 1 to 366 days
abbrev pub IsTableSpan : ℤ → ℤ → Type 0
IsTableSpan first last = (first ≤ℤ last) × (last <ℤ (first +ℤ pos 366))

-- what a command takes of what its options may say: `import` a reference of at most 30 bytes, to which a number is added,
-- `daily` the text of its first day, and a span of days that a table has, `notes` a number from 1, `migrate` two names
abbrev pub Takes : Asked → Type 0
Takes (Import order) = length order.reference ≤ 30
Takes (Daily order) = (day_of_text order.from ≡ Some order.first) × IsTableSpan order.first order.last
Takes (Notes order) = 1 ≤ order.number
Takes (Migrate from to) = from ≢ to
Takes asked = ⊤

-- the word of an option with a number
abbrev pub numeric_word : NumericOption → List ℕ
numeric_word Number = codes "--number"
numeric_word Port = codes "--port"
numeric_word Workers = codes "--workers"
numeric_word Connections = codes "--connections"
numeric_word Turns = codes "--turns"
numeric_word Year = codes "--year"

-- the least number that it takes
abbrev pub least_of : NumericOption → ℕ
least_of Number = 0
least_of Port = 1
least_of Workers = 0
least_of Connections = 1
least_of Turns = 0
least_of Year = 1901

-- and the greatest
abbrev pub greatest_of : NumericOption → ℕ
greatest_of Number = 999999999
greatest_of Port = 65535
greatest_of Workers = 16
greatest_of Connections = 10000
greatest_of Turns = 999999999
greatest_of Year = 2099

abbrev pub IsInRange : NumericOption → ℕ → Type 0
IsInRange option number = (least_of option ≤ number) × (number ≤ greatest_of option)

-- the word of a grade
abbrev pub grade_word : Grade → List ℕ
grade_word Excellent = codes "excellent"
grade_word Good = codes "good"
grade_word Fair = codes "fair"
grade_word Poor = codes "poor"

-- the option's word
abbrev pub option_word : Given → List ℕ
option_word (Journal name) = codes "--journal"
option_word (Numeric option number) = numeric_word option
option_word (Station site) = codes "--site"
option_word (Column name) = codes "--column"
option_word (Sender letters) = codes "--by"
option_word (Reference text) = codes "--ref"
option_word (From text) = codes "--from"
option_word (To day) = codes "--to"
option_word (At instant) = codes "--at"
option_word (Gage stage) = codes "--gage"
option_word (Graded grade) = codes "--grade"

-- a number is 1 to 9 decimal digits
abbrev pub IsNumber : List ℕ → ℕ → Type 0
IsNumber value number = IsNumeral 10 value × (length value ≤ 9) × (number ≡ digits_value 10 value)

-- it is one that the option takes
abbrev pub IsNumberOf : NumericOption → List ℕ → ℕ → Type 0
IsNumberOf option value number = IsNumber value number × IsInRange option number

-- the option says this value: a name, which is not empty, or a number, a site, initials, a reference, a day, a stamp, a
-- stage or a grade
abbrev pub IsValueOf : Given → List ℕ → Type 0
IsValueOf (Journal name) value = (name ≡ value) × (value ≢ [])
IsValueOf (Numeric option number) value = IsNumberOf option value number
IsValueOf (Station site) value = site_of_text value ≡ Some site
IsValueOf (Column name) value = (name ≡ value) × (value ≢ [])
IsValueOf (Sender letters) value = (letters ≡ value) × AreInitials value
IsValueOf (Reference text) value = (text ≡ value) × IsReference value
IsValueOf (From text) value = (text ≡ value) × (value ≢ [])
IsValueOf (To day) value = day_of_text value ≡ Some day
IsValueOf (At instant) value = stamp_of_text value ≡ Some instant
IsValueOf (Gage stage) value = (decimal_of value ≡ Ok stage) × IsStage stage
IsValueOf (Graded grade) value = value ≡ grade_word grade

-- a value that is a word of its own does not begin with `-`
abbrev pub IsWordOfItsOwn : List ℕ → Type 0
IsWordOfItsOwn [] = ⊥
IsWordOfItsOwn (code ∷ codes) = code ≢ 45

-- the words of one option: `--name=value`, or `--name` and the value
abbrev pub IsOption : Given → List (List ℕ) → Type 0
IsOption option [] = ⊥
IsOption option (word ∷ []) =
    (value : List ℕ) × (word ≡ option_word option ++ (codes "=" ++ value)) × IsValueOf option value
IsOption option (word ∷ value ∷ []) = (word ≡ option_word option) × IsValueOf option value × IsWordOfItsOwn value
IsOption option (word ∷ value ∷ more ∷ words) = ⊥

-- the first words are this option, and these words stand behind it
abbrev pub StandsFirst : Given → List (List ℕ) → List (List ℕ) → Type 0
StandsFirst option words behind = (first : List (List ℕ)) × (words ≡ first ++ behind) × IsOption option first

-- the words are these options, one after another, and no more
abbrev pub AreOptions : List Given → List (List ℕ) → Type 0
AreOptions [] words = words ≡ []
AreOptions (option ∷ options) words = (behind : List (List ℕ)) × StandsFirst option words behind × AreOptions options behind

-- these options ask it: they and those that are left out, at their defaults, are its options in some order
abbrev pub AreOptionsOf : Asked → List Given → Type 0
AreOptionsOf asked options =
    (left_out : List Given) × All (Contains (defaults_of asked)) left_out × IsPermutation (options ++ left_out) (options_of asked)

-- these words ask this: its word, and its options, in any order, that say what it takes
abbrev pub IsAsked : List (List ℕ) → Asked → Type 0
IsAsked [] asked = ⊥
IsAsked (word ∷ words) asked =
    (word ≡ command_word asked) × Takes asked × (options : List Given) × AreOptionsOf asked options × AreOptions options words
