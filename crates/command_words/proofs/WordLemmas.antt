-- Words ask one thing at most, and what a command and its options ask.
use Rattle.std.proofs.Common.{◌≡◌, ◌≢◌, ℕ, ◌+◌, ◌*◌, ◌<◌, map, List, [], ◌∷◌, ◌++◌, length, All, Contains, IsPermutation, get_or, codes, Option, Some, None, MatchOption, ℤ, refl, sym, ◌∙◌, ap, subst, arith}
use Rattle.std.specs.Bool.{⊤}
use Rattle.std.specs.List.{AllByRecursion, count_by, sum_by}
use Rattle.std.proofs.lemmas.List.{append-nil, length-append}
use Rattle.std.proofs.lemmas.List.Elements.{All-nil, All-cons, All-append, All-from_recursion, All-head, All-tail, All-contains_itself}
use Rattle.std.proofs.lemmas.List.Sorted.{IsPermutation-append_left, IsPermutation-sym, IsPermutation-trans, All-permutation, Contains-permutation, length_permutation, sum_by-IsPermutation}
use Rattle.std.proofs.lemmas.List.Sums.{get_or-le-sum_by, sum_by-append, sum_by-cons}
use Rattle.command_words.specs.Words.{Asked, Init, Batch, Serve, Stations, Trial, Import, Daily, Water, Notes, Migrate, ImportAsked, DailyAsked, WaterAsked, NotesAsked, Given, Journal, Numeric, Station, Column, Sender, Reference, From, To, At, Gage, Graded, AreOptions, AreOptionsOf, IsAsked, IsTableSpan, Takes, command_word, defaults_of, option_word, options_of}
use Rattle.command_words.specs.Laws.{CanBeAsked, OneIsAsked}
use Rattle.command_words.specs.Reading.{AreNoCommands, IsReadOf, is_worded}
use Rattle.civil_days.specs.Spelling.{day_of_text}
use Rattle.command_words.specs.declared.numbers.NumericOption.TheVariants.{Number, Port, Workers, Year}
use Rattle.command_words.specs.Commands.{asked_by}
use Rattle.command_words.specs.declared.reading.Command.{Command}
use Rattle.command_words.proofs.FindLemmas.{AreApart, all_found, lists_alike, one_of_one, only_one, passing}
use Rattle.command_words.proofs.LawLemmas.{left_out_too, nothing_else}
use Rattle.command_words.proofs.OptionLemmas.{same_options}

-- what options count for something, and those that are left out
sums : (f : Given → ℕ) (asked : Asked) (options : List Given) (its : AreOptionsOf asked options)
    → sum_by f (options_of asked) ≡ sum_by f options + sum_by f its.0
sums f asked options its =
    omega (arith, sum_by-IsPermutation f (options ++ its.0) (options_of asked) its.2, sum_by-append f options its.0)

lengths : (asked : Asked) (options : List Given) (its : AreOptionsOf asked options)
    → length (options_of asked) ≡ length options + length its.0
lengths asked options its =
    omega (arith, length_permutation (options ++ its.0) (options_of asked) its.2, length-append options its.0)

-- what counts for nothing among the defaults counts for nothing among those that are left out
pub none_left_out : (f : Given → ℕ) (defaults left : List Given) → sum_by f defaults ≡ 0 → All (Contains defaults) left → sum_by f left ≡ 0
none_left_out f defaults [] none are = refl
none_left_out f defaults (option ∷ left) none are =
    let here = All-head (Contains defaults) option left are in
    let small = get_or-le-sum_by f defaults here.0 option here.1 in
    omega (arith, sum_by-cons f option left, none_left_out f defaults left none (All-tail (Contains defaults) option left are), small, ap f here.2, none)

-- an option that a command needs lacks
pub lacking : (word : List ℕ) (asked : Asked) (options : List Given) → count_by (is_worded word) options ≡ 0
    → count_by (is_worded word) (defaults_of asked) ≡ 0 → count_by (is_worded word) (options_of asked) ≡ 1 → ¬ (AreOptionsOf asked options)
lacking word asked options none default needed its =
    omega (
      arith,
      sums (passing (is_worded word)) asked options its,
      none,
      none_left_out (passing (is_worded word)) (defaults_of asked) its.0 default its.1,
      needed,
    )

none_of_none : (left : List Given) → All (Contains []) left → left ≡ []
none_of_none [] are = refl
none_of_none (option ∷ left) are = let here = All-head (Contains []) option left are in absurd (omega (arith, here.1))

-- a command of which no option may be left out has as many as it needs
pub as_many : (asked : Asked) (options : List Given) → defaults_of asked ≡ [] → AreOptionsOf asked options → length options ≡ length (options_of asked)
as_many asked options needed its =
    let none = none_of_none its.0 (subst (λ (l : List Given). All (Contains l) its.0) needed its.1) in
    omega (arith, lengths asked options its, ap (length {A = Given}) none)

-- and those that it has are its own
pub its_own : (asked : Asked) (options : List Given) → defaults_of asked ≡ [] → AreOptionsOf asked options → IsPermutation options (options_of asked)
its_own asked options needed its =
    let none = none_of_none its.0 (subst (λ (l : List Given). All (Contains l) its.0) needed its.1) in
    let whole : options ++ its.0 ≡ options = ap (λ (l : List Given). options ++ l) none ∙ append-nil options in
    subst (λ (l : List Given). IsPermutation l (options_of asked)) whole its.2

-- where each was found, and no more are there, they are the command's
pub all_its : (asked : Asked) (options : List Given) → AreApart (options_of asked) → All (Contains options) (options_of asked)
    → length options ≡ length (options_of asked) → AreOptionsOf asked options
all_its asked options apart all many =
    let order = all_found (options_of asked) options apart all many in
    ([], All-nil (Contains (defaults_of asked)), subst (λ (l : List Given). IsPermutation l (options_of asked)) (sym (append-nil options)) order)

-- a command's options are of as many words
pub apart : (asked : Asked) → AreApart (options_of asked)
apart (Init name) = (refl, tt)
apart (Batch name workers) = (refl, (refl, tt))
apart (Serve name port workers connections) = (refl, (refl, (refl, (refl, tt))))
apart (Stations name) = (refl, tt)
apart (Trial number) = (refl, tt)
apart (Import order) = (refl, (refl, (refl, (refl, (refl, tt)))))
apart (Daily order) = (refl, (refl, (refl, (refl, (refl, tt)))))
apart (Water order) = (refl, (refl, (refl, (refl, tt))))
apart (Notes order) = (refl, (refl, (refl, (refl, (refl, (refl, (refl, (refl, tt))))))))
apart (Migrate from to) = (refl, (refl, tt))

-- what is asked by the same options has the same ones
alike : (a b : Asked) (options : List Given) → defaults_of a ≡ [] → defaults_of b ≡ [] → map option_word (options_of a) ≡ map option_word (options_of b)
    → AreOptionsOf a options → AreOptionsOf b options → options_of a ≡ options_of b
alike a b options needed all words its others =
    let order = IsPermutation-trans (options_of b) options (options_of a)
    (IsPermutation-sym options (options_of b) (its_own b options all others)) (its_own a options needed its) in
    lists_alike (options_of a) (options_of b) words
    (All-permutation (Contains (options_of b)) (options_of b) (options_of a) order (All-contains_itself (options_of b))) (apart a) (apart b)

-- the first two letters of their words tell commands apart
letters : {a b : List ℕ} → a ≡ b → get_or a 0 0 * 256 + get_or a 1 0 ≡ get_or b 0 0 * 256 + get_or b 1 0
letters e = ap (λ (t : List ℕ). get_or t 0 0 * 256 + get_or t 1 0) e

-- what no options of a word's commands are
abbrev pub NoneOf : List ℕ → List Given → Type 0
NoneOf word options = (asked : Asked) → CanBeAsked asked → word ≡ command_word asked → ¬ (AreOptionsOf asked options)

pub no_init : (options : List Given) → ((name : List ℕ) → CanBeAsked (Init name) → ¬ (AreOptionsOf (Init name) options)) → NoneOf (codes "init") options
no_init options none (Init name) can is its = none name can its
no_init options none asked can is its = absurd (omega (arith, letters is))

pub no_batch : (options : List Given) → ((name : List ℕ) (workers : ℕ) → CanBeAsked (Batch name workers) → ¬ (AreOptionsOf (Batch name workers) options)) → NoneOf (codes "batch") options
no_batch options none (Batch name workers) can is its = none name workers can its
no_batch options none asked can is its = absurd (omega (arith, letters is))

pub no_serve : (options : List Given) → ((name : List ℕ) (port workers connections : ℕ) → CanBeAsked (Serve name port workers connections) → ¬ (AreOptionsOf (Serve name port workers connections) options)) → NoneOf (codes "serve") options
no_serve options none (Serve name port workers connections) can is its = none name port workers connections can its
no_serve options none asked can is its = absurd (omega (arith, letters is))

pub no_stations : (options : List Given) → ((name : List ℕ) → CanBeAsked (Stations name) → ¬ (AreOptionsOf (Stations name) options)) → NoneOf (codes "stations") options
no_stations options none (Stations name) can is its = none name can its
no_stations options none asked can is its = absurd (omega (arith, letters is))

pub no_trial : (options : List Given) → ((number : ℕ) → CanBeAsked (Trial number) → ¬ (AreOptionsOf (Trial number) options)) → NoneOf (codes "trial") options
no_trial options none (Trial number) can is its = none number can its
no_trial options none asked can is its = absurd (omega (arith, letters is))

pub no_import : (options : List Given) → ((order : ImportAsked) → CanBeAsked (Import order) → ¬ (AreOptionsOf (Import order) options)) → NoneOf (codes "import") options
no_import options none (Import order) can is its = none order can its
no_import options none asked can is its = absurd (omega (arith, letters is))

pub no_daily : (options : List Given) → ((order : DailyAsked) → CanBeAsked (Daily order) → ¬ (AreOptionsOf (Daily order) options)) → NoneOf (codes "daily") options
no_daily options none (Daily order) can is its = none order can its
no_daily options none asked can is its = absurd (omega (arith, letters is))

pub no_water : (options : List Given) → ((order : WaterAsked) → CanBeAsked (Water order) → ¬ (AreOptionsOf (Water order) options)) → NoneOf (codes "water") options
no_water options none (Water order) can is its = none order can its
no_water options none asked can is its = absurd (omega (arith, letters is))

pub no_notes : (options : List Given) → ((order : NotesAsked) → CanBeAsked (Notes order) → ¬ (AreOptionsOf (Notes order) options)) → NoneOf (codes "notes") options
no_notes options none (Notes order) can is its = none order can its
no_notes options none asked can is its = absurd (omega (arith, letters is))

pub no_migrate : (options : List Given) → ((from to : List ℕ) → CanBeAsked (Migrate from to) → ¬ (AreOptionsOf (Migrate from to) options)) → NoneOf (codes "migrate") options
no_migrate options none (Migrate from to) can is its = none from to can its
no_migrate options none asked can is its = absurd (omega (arith, letters is))

-- an option lacks that a command needs
pub init_lacks : (options : List Given) (word : List ℕ) → count_by (is_worded word) options ≡ 0
    → ((name : List ℕ) → (count_by (is_worded word) (defaults_of (Init name)) ≡ 0) × (count_by (is_worded word) (options_of (Init name)) ≡ 1)) → NoneOf (codes "init") options
init_lacks options word none needed = no_init options (λ name can. lacking word (Init name) options none (needed name).0 (needed name).1)

pub batch_lacks : (options : List Given) (word : List ℕ) → count_by (is_worded word) options ≡ 0
    → ((name : List ℕ) (workers : ℕ) → (count_by (is_worded word) (defaults_of (Batch name workers)) ≡ 0) × (count_by (is_worded word) (options_of (Batch name workers)) ≡ 1)) → NoneOf (codes "batch") options
batch_lacks options word none needed = no_batch options (λ name workers can. lacking word (Batch name workers) options none (needed name workers).0 (needed name workers).1)

pub serve_lacks : (options : List Given) (word : List ℕ) → count_by (is_worded word) options ≡ 0
    → ((name : List ℕ) (port workers connections : ℕ) → (count_by (is_worded word) (defaults_of (Serve name port workers connections)) ≡ 0) × (count_by (is_worded word) (options_of (Serve name port workers connections)) ≡ 1)) → NoneOf (codes "serve") options
serve_lacks options word none needed = no_serve options (λ name port workers connections can. lacking word (Serve name port workers connections) options none (needed name port workers connections).0 (needed name port workers connections).1)

pub stations_lacks : (options : List Given) (word : List ℕ) → count_by (is_worded word) options ≡ 0
    → ((name : List ℕ) → (count_by (is_worded word) (defaults_of (Stations name)) ≡ 0) × (count_by (is_worded word) (options_of (Stations name)) ≡ 1)) → NoneOf (codes "stations") options
stations_lacks options word none needed = no_stations options (λ name can. lacking word (Stations name) options none (needed name).0 (needed name).1)

pub trial_lacks : (options : List Given) (word : List ℕ) → count_by (is_worded word) options ≡ 0
    → ((number : ℕ) → (count_by (is_worded word) (defaults_of (Trial number)) ≡ 0) × (count_by (is_worded word) (options_of (Trial number)) ≡ 1)) → NoneOf (codes "trial") options
trial_lacks options word none needed = no_trial options (λ number can. lacking word (Trial number) options none (needed number).0 (needed number).1)

pub import_lacks : (options : List Given) (word : List ℕ) → count_by (is_worded word) options ≡ 0
    → ((order : ImportAsked) → (count_by (is_worded word) (defaults_of (Import order)) ≡ 0) × (count_by (is_worded word) (options_of (Import order)) ≡ 1)) → NoneOf (codes "import") options
import_lacks options word none needed = no_import options (λ order can. lacking word (Import order) options none (needed order).0 (needed order).1)

pub daily_lacks : (options : List Given) (word : List ℕ) → count_by (is_worded word) options ≡ 0
    → ((order : DailyAsked) → (count_by (is_worded word) (defaults_of (Daily order)) ≡ 0) × (count_by (is_worded word) (options_of (Daily order)) ≡ 1)) → NoneOf (codes "daily") options
daily_lacks options word none needed = no_daily options (λ order can. lacking word (Daily order) options none (needed order).0 (needed order).1)

pub water_lacks : (options : List Given) (word : List ℕ) → count_by (is_worded word) options ≡ 0
    → ((order : WaterAsked) → (count_by (is_worded word) (defaults_of (Water order)) ≡ 0) × (count_by (is_worded word) (options_of (Water order)) ≡ 1)) → NoneOf (codes "water") options
water_lacks options word none needed = no_water options (λ order can. lacking word (Water order) options none (needed order).0 (needed order).1)

pub notes_lacks : (options : List Given) (word : List ℕ) → count_by (is_worded word) options ≡ 0
    → ((order : NotesAsked) → (count_by (is_worded word) (defaults_of (Notes order)) ≡ 0) × (count_by (is_worded word) (options_of (Notes order)) ≡ 1)) → NoneOf (codes "notes") options
notes_lacks options word none needed = no_notes options (λ order can. lacking word (Notes order) options none (needed order).0 (needed order).1)

pub migrate_lacks : (options : List Given) (word : List ℕ) → count_by (is_worded word) options ≡ 0
    → ((from to : List ℕ) → (count_by (is_worded word) (defaults_of (Migrate from to)) ≡ 0) × (count_by (is_worded word) (options_of (Migrate from to)) ≡ 1)) → NoneOf (codes "migrate") options
migrate_lacks options word none needed = no_migrate options (λ from to can. lacking word (Migrate from to) options none (needed from to).0 (needed from to).1)

-- there are not as many as the command has
pub init_not_so_many : (options : List Given) → length options ≢ 1 → NoneOf (codes "init") options
init_not_so_many options other = no_init options (λ name can its. other (as_many (Init name) options refl its))

pub serve_not_so_many : (options : List Given) → length options ≢ 4 → NoneOf (codes "serve") options
serve_not_so_many options other = no_serve options (λ name port workers connections can its. other (as_many (Serve name port workers connections) options refl its))

pub stations_not_so_many : (options : List Given) → length options ≢ 1 → NoneOf (codes "stations") options
stations_not_so_many options other = no_stations options (λ name can its. other (as_many (Stations name) options refl its))

pub trial_not_so_many : (options : List Given) → length options ≢ 1 → NoneOf (codes "trial") options
trial_not_so_many options other = no_trial options (λ number can its. other (as_many (Trial number) options refl its))

pub import_not_so_many : (options : List Given) → length options ≢ 5 → NoneOf (codes "import") options
import_not_so_many options other = no_import options (λ order can its. other (as_many (Import order) options refl its))

pub daily_not_so_many : (options : List Given) → length options ≢ 5 → NoneOf (codes "daily") options
daily_not_so_many options other = no_daily options (λ order can its. other (as_many (Daily order) options refl its))

pub water_not_so_many : (options : List Given) → length options ≢ 4 → NoneOf (codes "water") options
water_not_so_many options other = no_water options (λ order can its. other (as_many (Water order) options refl its))

pub notes_not_so_many : (options : List Given) → length options ≢ 8 → NoneOf (codes "notes") options
notes_not_so_many options other = no_notes options (λ order can its. other (as_many (Notes order) options refl its))

pub migrate_not_so_many : (options : List Given) → length options ≢ 2 → NoneOf (codes "migrate") options
migrate_not_so_many options other = no_migrate options (λ from to can its. other (as_many (Migrate from to) options refl its))

-- what is given under a word is what is asked under it
said_so : (asked : Asked) (options : List Given) → defaults_of asked ≡ [] → AreOptionsOf asked options → (one other : Given)
    → Contains options one → Contains (options_of asked) other → option_word one ≡ option_word other → one ≡ other
said_so asked options needed its one other here there same =
    only_one (options_of asked) one other (apart asked)
    (Contains-permutation options (options_of asked) one (its_own asked options needed its) here) there same

-- a number that 16 bits do not hold is none that these options take
pub port_too_great : (options : List Given) (read : ℕ) → Contains options (Numeric Port read) → 65535 < read → NoneOf (codes "serve") options
port_too_great options read there great = no_serve options (λ name port workers connections can its.
    let same = said_so (Serve name port workers connections) options refl its (Numeric Port read) (Numeric Port port) there (1, omega arith, refl) refl in
    let number : read ≡ port = cc in
    omega (arith, number, great, (can.0 1 (Journal []) (omega arith)).1))

pub year_too_great : (options : List Given) (read : ℕ) → Contains options (Numeric Year read) → 65535 < read → NoneOf (codes "water") options
year_too_great options read there great = no_water options (λ order can its.
    let same = said_so (Water order) options refl its (Numeric Year read) (Numeric Year order.year) there (2, omega arith, refl) refl in
    let number : read ≡ order.year = cc in
    omega (arith, number, great, (can.0 2 (Journal []) (omega arith)).1))

-- what a command does not take
pub reference_too_long : (options : List Given) (read : List ℕ) → Contains options (Reference read) → 30 < length read → NoneOf (codes "import") options
reference_too_long options read there long = no_import options (λ order can its.
    let same = said_so (Import order) options refl its (Reference read) (Reference order.reference) there (4, omega arith, refl) refl in
    let text : read ≡ order.reference = cc in
    omega (arith, ap (length {A = ℕ}) text, long, can.1))

pub no_day : (options : List Given) (from : List ℕ) → Contains options (From from) → ((day : ℤ) → ¬ (day_of_text from ≡ Some day))
    → NoneOf (codes "daily") options
no_day options from here none = no_daily options (λ order can its.
    let one = said_so (Daily order) options refl its (From from) (From order.from) here (2, omega arith, refl) refl in
    let text : order.from ≡ from = cc in
    none order.first (subst (λ (t : List ℕ). day_of_text t ≡ Some order.first) text can.1.0))

pub no_table_span : (options : List Given) (from : List ℕ) (first last : ℤ) → Contains options (From from) → Contains options (To last)
    → day_of_text from ≡ Some first → ¬ (IsTableSpan first last) → NoneOf (codes "daily") options
no_table_span options from first last here there is none = no_daily options (λ order can its.
    let one = said_so (Daily order) options refl its (From from) (From order.from) here (2, omega arith, refl) refl in
    let other = said_so (Daily order) options refl its (To last) (To order.last) there (3, omega arith, refl) refl in
    let text : order.from ≡ from = cc in
    let read = can.1.0 in
    let begins : order.first ≡ first = cc in
    let ends : order.last ≡ last = cc in
    none (subst (λ (d : ℤ). IsTableSpan d last) begins (subst (IsTableSpan order.first) ends can.1.1)))

pub names_alike : (options : List Given) (name : List ℕ) → Contains options (From name) → Contains options (Journal name)
    → NoneOf (codes "migrate") options
names_alike options name here there = no_migrate options (λ from to can its.
    let one = said_so (Migrate from to) options refl its (From name) (From from) here (0, omega arith, refl) refl in
    let other = said_so (Migrate from to) options refl its (Journal name) (Journal to) there (1, omega arith, refl) refl in
    let first : name ≡ from = cc in
    let second : name ≡ to = cc in
    can.1 (sym first ∙ second))

pub number_of_none : (options : List Given) (read : ℕ) → Contains options (Numeric Number read) → read ≡ 0 → NoneOf (codes "notes") options
number_of_none options read there zero = no_notes options (λ order can its.
    let same = said_so (Notes order) options refl its (Numeric Number read) (Numeric Number order.number) there (2, omega arith, refl) refl in
    let number : read ≡ order.number = cc in
    omega (arith, number, zero, can.1))

left_workers : (left : List Given) → All (Contains (Numeric Workers 0 ∷ [])) left → count_by (is_worded (codes "--workers")) left ≡ length left
left_workers [] are = refl
left_workers (option ∷ left) are =
    let here = All-head (Contains (Numeric Workers 0 ∷ [])) option left are in
    let is : option ≡ Numeric Workers 0 = one_of_one (Numeric Workers 0) option here in
    omega (
      arith,
      sum_by-cons (passing (is_worded (codes "--workers"))) option left,
      ap (passing (is_worded (codes "--workers"))) is,
      left_workers left (All-tail (Contains (Numeric Workers 0 ∷ [])) option left are),
    )

-- how many options `batch` has where its workers are not given, and where they are
pub without_workers : (options : List Given) → count_by (is_worded (codes "--workers")) options ≡ 0 → length options ≢ 1 → NoneOf (codes "batch") options
without_workers options none other = no_batch options (λ name workers can its. other
    (omega (
      arith,
      lengths (Batch name workers) options its,
      sums (passing (is_worded (codes "--workers"))) (Batch name workers) options its,
      left_workers its.0 its.1,
      none,
    )))

pub with_workers : (options : List Given) (read : ℕ) → Contains options (Numeric Workers read) → length options ≢ 2 → NoneOf (codes "batch") options
with_workers options read found other = no_batch options (λ name workers can its.
    let there = get_or-le-sum_by (passing (is_worded (codes "--workers"))) options found.0 (Numeric Workers read) found.1 in
    let here = ap (passing (is_worded (codes "--workers"))) found.2 in
    other
    (omega (
      arith,
      lengths (Batch name workers) options its,
      sums (passing (is_worded (codes "--workers"))) (Batch name workers) options its,
      left_workers its.0 its.1,
      there,
      here,
    )))

-- a journal alone asks `batch` without workers
pub journal_alone : (options : List Given) (journal : List ℕ) → Contains options (Journal journal) → length options ≡ 1 → AreOptionsOf (Batch journal 0) options
journal_alone options journal named one =
    let alone = all_found (Journal journal ∷ []) options (refl, tt) (All-from_recursion (Contains options) (Journal journal ∷ []) (named, tt)) one in
    let default : List Given = Numeric Workers 0 ∷ [] in
    (default, All-contains_itself default, IsPermutation-append_left default options (Journal journal ∷ []) alone)

-- what the options say of what is asked is the same wherever it is read
abbrev pub IsNamed : List ℕ → Given → Type 0
IsNamed name (Journal other) = other ≡ name
IsNamed name option = ⊤

all_front : (P : Given → Type 0) (front back : List Given) → All P (front ++ back) → All P front
all_front P [] back all = All-nil P
all_front P (option ∷ front) back all =
    All-cons P option front (All-head P option (front ++ back) all) (all_front P front back (All-tail P option (front ++ back) all))

-- options that ask two things have one name in both
one_name : (a b : Asked) (options more : List Given) (name other : List ℕ) → All (IsNamed name) (options_of a) → All (IsNamed name) (defaults_of b)
    → options_of b ≡ Journal other ∷ more → AreOptionsOf a options → AreOptionsOf b options → name ≡ other
one_name a b options more name other all default is its others =
    let whole = All-permutation (IsNamed name) (options_of a) (options ++ its.0) (IsPermutation-sym (options ++ its.0) (options_of a) its.2) all in
    let told = All-permutation (IsNamed name) (options ++ others.0) (options_of b) others.2
    (All-append (IsNamed name) options others.0 (all_front (IsNamed name) options its.0 whole)
    (left_out_too (IsNamed name) (defaults_of b) others.0 default others.1)) in
    sym (All-head (IsNamed name) (Journal other) more (subst (All (IsNamed name)) is told))

-- the number of this option, where it is there
abbrev workers_in : Given → ℕ
workers_in (Numeric Workers number) = number
workers_in option = 0

-- and one number of workers
one_number : (a b : Asked) (options : List Given) → sum_by workers_in (defaults_of a) ≡ 0
    → sum_by workers_in (defaults_of b) ≡ 0 → AreOptionsOf a options → AreOptionsOf b options
    → sum_by workers_in (options_of a) ≡ sum_by workers_in (options_of b)
one_number a b options none no_other its others =
    omega (
      arith,
      sums workers_in a options its,
      sums workers_in b options others,
      none_left_out workers_in (defaults_of a) its.0 none its.1,
      none_left_out workers_in (defaults_of b) others.0 no_other others.1,
    )

all_named : (options : List Given) (name : List ℕ) → AllByRecursion (IsNamed name) options → All (IsNamed name) options
all_named options name h = All-from_recursion (IsNamed name) options h

-- what options in this order ask
import_in : ImportAsked → List Given → ImportAsked
import_in order (Journal journal ∷ Station site ∷ Column column ∷ Sender by ∷ Reference reference ∷ []) =
    record { journal = journal; site = site; column = column; by = by; reference = reference }
import_in order options = order

daily_in : DailyAsked → List Given → DailyAsked
daily_in order (Journal journal ∷ Station site ∷ From from ∷ To last ∷ Numeric option turns ∷ []) =
    record { journal = journal; site = site; from = from; first = order.first; last = last; turns = turns }
daily_in order options = order

water_in : WaterAsked → List Given → WaterAsked
water_in order (Journal journal ∷ Station site ∷ Numeric one year ∷ Numeric other turns ∷ []) =
    record { journal = journal; site = site; year = year; turns = turns }
water_in order options = order

notes_in : NotesAsked → List Given → NotesAsked
notes_in order (Journal journal ∷ Station site ∷ Numeric option number ∷ At at ∷ Gage gage ∷ Graded grade ∷ Sender by ∷ Reference reference ∷ []) =
    record { journal = journal; site = site; number = number; at = at; gage = gage; grade = grade; by = by; reference = reference }
notes_in order options = order

-- a command's word and its options tell what is asked
same_asked : (a b : Asked) (options : List Given) → command_word a ≡ command_word b → Takes a → Takes b → AreOptionsOf a options → AreOptionsOf b options
    → a ≡ b
unfolding import_in daily_in water_in notes_in
same_asked (Init x) (Init y) options w _ _ h k =
    let same = alike (Init x) (Init y) options refl refl refl h k in
    cc
same_asked (Batch x n) (Batch y m) options w _ _ h k =
    let name : x ≡ y = one_name (Batch x n) (Batch y m) options (Numeric Workers m ∷ []) x y
    (all_named (options_of (Batch x n)) x (refl, (tt, tt))) (all_named (defaults_of (Batch y m)) x (tt, tt)) refl h k in
    let workers : n ≡ m = omega (arith, one_number (Batch x n) (Batch y m) options refl refl h k) in
    cc
same_asked (Serve x p n c) (Serve y q m d) options w _ _ h k =
    let same = alike (Serve x p n c) (Serve y q m d) options refl refl refl h k in
    cc
same_asked (Stations x) (Stations y) options w _ _ h k =
    let same = alike (Stations x) (Stations y) options refl refl refl h k in
    cc
same_asked (Trial n) (Trial m) options w _ _ h k =
    let same = alike (Trial n) (Trial m) options refl refl refl h k in
    cc
same_asked (Import x) (Import y) options w _ _ h k = ap (λ (l : List Given). Import (import_in x l)) (alike (Import x) (Import y) options refl refl refl h k)
same_asked (Daily x) (Daily y) options w p q h k =
    let same = alike (Daily x) (Daily y) options refl refl refl h k in
    let from : x.from ≡ y.from = ap (λ (l : List Given). (daily_in x l).from) same in
    let here = p.0 in
    let there = q.0 in
    let first : x.first ≡ y.first = cc in
    ap (λ (l : List Given). Daily (daily_in x l)) same ∙ ap (λ (d : ℤ). Daily (record y { first = d })) first
same_asked (Water x) (Water y) options w _ _ h k = ap (λ (l : List Given). Water (water_in x l)) (alike (Water x) (Water y) options refl refl refl h k)
same_asked (Notes x) (Notes y) options w _ _ h k = ap (λ (l : List Given). Notes (notes_in x l)) (alike (Notes x) (Notes y) options refl refl refl h k)
same_asked (Migrate x u) (Migrate y v) options w p q h k =
    let same = alike (Migrate x u) (Migrate y v) options refl refl refl h k in
    cc
same_asked a b options w p q h k = absurd (omega (arith, letters w))

pub one_is_asked : OneIsAsked
one_is_asked [] a b h k = absurd h
one_is_asked (word ∷ words) a b h k =
    let options : h.2 ≡ k.2 = same_options h.2 k.2 words h.4 k.4 in
    same_asked a b h.2 (sym h.0 ∙ k.0) h.1 k.1 h.3 (subst (AreOptionsOf b) (sym options) k.3)

-- what a word and the options behind it ask
pub words_ask : (read : Option Command) (words behind : List (List ℕ)) (word : List ℕ) (options : List Given) → words ≡ word ∷ behind
    → AreOptions options behind → IsReadOf word options read
    → MatchOption read ((asked : Asked) → ¬ (IsAsked words asked)) (λ command. IsAsked words (asked_by command))
words_ask None words behind word options is are by = λ asked h.
    let k = subst (λ (w : List (List ℕ)). IsAsked w asked) is h in
    let same : k.2 ≡ options = same_options k.2 options behind k.4 are in
    by asked (nothing_else (word ∷ behind) asked k) k.0 (subst (AreOptionsOf asked) same k.3)
words_ask (Some command) words behind word options is are by =
    subst (λ (w : List (List ℕ)). IsAsked w (asked_by command)) (sym is) (by.0, by.1, options, by.2, are)

pub none_asked : (words behind : List (List ℕ)) (word : List ℕ) → words ≡ word ∷ behind → AreNoCommands behind → (asked : Asked) → ¬ (IsAsked words asked)
none_asked words behind word is none asked h =
    let k = subst (λ (w : List (List ℕ)). IsAsked w asked) is h in
    none k.2 asked k.4 k.3
