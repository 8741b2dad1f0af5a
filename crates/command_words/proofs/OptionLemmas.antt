-- What the words of options tell: the options, and in which order they stand.
use Rattle.std.proofs.Common.{◌≡◌, ◌≢◌, ℕ, ◌+◌, ◌<◌, ◌≤◌, true, false, Bool, not, cond, if◌then◌else◌, take, drop, List, [], ◌∷◌, ◌++◌, length, get_or, ◌^◌, ◌==◌, Option, Some, None, MatchOption, Result, Ok, Err, Bor, map, lit<, refl, sym, ◌∙◌, ap, subst, arith}
use Rattle.std.specs.List.{before_first, after_first, position_or_len, prefix_len}
use Rattle.std.specs.Str.Parse.{AllDigits, ParsesUnsigned, digits_value}
use Rattle.std.specs.Result.{result_ok}
use Rattle.std.proofs.Math.Seq.{take-append_seam, drop-append-add}
use Rattle.std.proofs.lemmas.Bool.Decides.{Decides-eqb}
use Rattle.std.proofs.lemmas.List.{length-append}
use Rattle.std.proofs.lemmas.List.Folds.{prefix_len-append}
use Rattle.std.proofs.lemmas.Str.Parse.{IsNumeralModel, numerals_by_value, tells_digits, parse_plain, digits_value_short}
use Rattle.std.proofs.lemmas.Str.Pattern.{IsSplitOnceResult, split_parts, split_once_first}
use Rattle.command_words.specs.Reading.{NoneStandsFirst, given_by}
use Rattle.command_words.specs.declared.options.CommandOption.{CommandOption}
use Rattle.edits.specs.declared.measurements.Grade.{Grade}
use Rattle.edits.specs.declared.measurements.Grade.TheVariants.{Excellent, Good, Fair, Poor}
use Rattle.command_words.specs.Words.{Given, Journal, Numeric, Station, Column, Sender, Reference, From, To, At, Gage, Graded, grade_word, option_word, numeric_word, IsNumber, IsValueOf, IsOption, AreOptions}
use Rattle.command_words.specs.declared.numbers.NumericOption.{NumericOption}
use Rattle.command_words.specs.declared.numbers.NumericOption.TheVariants.{Number, Port, Workers, Connections, Turns, Year}

-- no option's word has an equals sign
numeric_cut : (option : NumericOption) → position_or_len (λ b. b == 61) (numeric_word option) ≡ length (numeric_word option)
numeric_cut Number = refl
numeric_cut Port = refl
numeric_cut Workers = refl
numeric_cut Connections = refl
numeric_cut Turns = refl
numeric_cut Year = refl

cut_word : (option : Given) → position_or_len (λ b. b == 61) (option_word option) ≡ length (option_word option)
cut_word (Numeric option number) = numeric_cut option
cut_word option = refl

-- so the first one behind an option's word is that of a joined option
cut_joined : (option : Given) (value : List ℕ) → position_or_len (λ b. b == 61) (option_word option ++ (61 ∷ value)) ≡ length (option_word option)
cut_joined option value =
    let word : List ℕ = option_word option in
    let whole : (prefix_len (λ b. not (b == 61)) word == length word) ≡ true = (Decides-eqb _ _).1 (cut_word option) in
    prefix_len-append (λ b. not (b == 61)) word (61 ∷ value)
    ∙ ap (λ (t : Bool). cond t (length word + 0) (prefix_len (λ b. not (b == 61)) word)) whole
    ∙ omega arith

-- what stands before it is the option's word, and what stands behind it the value
pub word_before : (option : Given) (value : List ℕ) → before_first (λ b. b == 61) (option_word option ++ (61 ∷ value)) ≡ option_word option
word_before option value =
    ap (λ (n : ℕ). take n (option_word option ++ (61 ∷ value))) (cut_joined option value) ∙ take-append_seam (option_word option) (61 ∷ value)

pub value_after : (option : Given) (value : List ℕ) → after_first (λ b. b == 61) (option_word option ++ (61 ∷ value)) ≡ value
value_after option value =
    ap (λ (n : ℕ). drop (n + 1) (option_word option ++ (61 ∷ value))) (cut_joined option value)
    ∙ drop-append-add (option_word option) (61 ∷ value) 1

-- the kinds of options, by their words' third and fifth letters
abbrev kind : Given → ℕ
kind (Journal name) = 0
kind (Numeric option number) = 1
kind (Station site) = 2
kind (Column name) = 3
kind (Sender letters) = 4
kind (Reference text) = 5
kind (From text) = 6
kind (To day) = 10
kind (At instant) = 7
kind (Gage stage) = 8
kind (Graded grade) = 9

abbrev kind_by : ℕ → ℕ → ℕ
kind_by third fifth =
    if third == 106 then 0
    else (if third == 115 then 2
    else (if third == 98 then 4
    else (if third == 114 then 5
    else (if third == 102 then 6
    else (if third == 97 then 7
    else (if third == 99 then (if fifth == 110 then 1 else 3)
    else (if third == 116 then (if fifth == 114 then 1 else 10)
    else (if third == 103 then (if fifth == 103 then 8 else 9)
    else 1))))))))

abbrev kind_at : List ℕ → ℕ
kind_at word = kind_by (get_or word 2 0) (get_or word 4 0)

numeric_kind : (option : NumericOption) → kind_at (numeric_word option) ≡ 1
numeric_kind Number = refl
numeric_kind Port = refl
numeric_kind Workers = refl
numeric_kind Connections = refl
numeric_kind Turns = refl
numeric_kind Year = refl

kind_told : (option : Given) → kind_at (option_word option) ≡ kind option
kind_told (Numeric option number) = numeric_kind option
kind_told option = refl

pub same_kind : (a b : Given) → option_word a ≡ option_word b → kind a ≡ kind b
same_kind a b w = sym (kind_told a) ∙ ap kind_at w ∙ kind_told b

-- the third letters of their words tell options with numbers apart
third : {a b : List ℕ} → a ≡ b → get_or a 2 0 ≡ get_or b 2 0
third e = ap (λ (t : List ℕ). get_or t 2 0) e

pub same_numeric : (a b : NumericOption) → numeric_word a ≡ numeric_word b → a ≡ b
same_numeric Number Number w = refl
same_numeric Port Port w = refl
same_numeric Workers Workers w = refl
same_numeric Connections Connections w = refl
same_numeric Turns Turns w = refl
same_numeric Year Year w = refl
same_numeric a b w = absurd (omega (arith, third w))

-- the first letters tell grades apart
first : {a b : List ℕ} → a ≡ b → get_or a 0 0 ≡ get_or b 0 0
first e = ap (λ (t : List ℕ). get_or t 0 0) e

same_grade : (a b : Grade) → grade_word a ≡ grade_word b → a ≡ b
same_grade Excellent Excellent w = refl
same_grade Good Good w = refl
same_grade Fair Fair w = refl
same_grade Poor Poor w = refl
same_grade a b w = absurd (omega (arith, first w))

-- options of one word and one value are one
same_option : (a b : Given) (value : List ℕ) → option_word a ≡ option_word b → IsValueOf a value → IsValueOf b value → a ≡ b
same_option (Journal a) (Journal b) value w h k = ap Journal (h.0 ∙ sym k.0)
same_option (Numeric a n) (Numeric b m) value w h k =
    let option = same_numeric a b w in
    let number : n ≡ m = h.0.2 ∙ sym k.0.2 in
    cc
same_option (Station a) (Station b) value w h k =
    let same : a ≡ b = cc in
    ap Station same
same_option (Column a) (Column b) value w h k = ap Column (h.0 ∙ sym k.0)
same_option (Sender a) (Sender b) value w h k = ap Sender (h.0 ∙ sym k.0)
same_option (Reference a) (Reference b) value w h k = ap Reference (h.0 ∙ sym k.0)
same_option (From a) (From b) value w h k = ap From (h.0 ∙ sym k.0)
same_option (To a) (To b) value w h k =
    let same : a ≡ b = cc in
    ap To same
same_option (At a) (At b) value w h k =
    let same : a ≡ b = cc in
    ap At same
same_option (Gage a) (Gage b) value w h k =
    let one = h.0 in
    let other = k.0 in
    let same : a ≡ b = cc in
    ap Gage same
same_option (Graded a) (Graded b) value w h k = ap Graded (same_grade a b (sym h ∙ k))
same_option a b value w h k = absurd (omega (arith, same_kind a b w))

-- an option in one word has another word than one in two
apart : (a b : Given) (value : List ℕ) → option_word a ++ (61 ∷ value) ≡ option_word b → ⊥
apart a b value e =
    omega (
      arith,
      cut_joined a value,
      cut_word b,
      ap (position_or_len (λ c. c == 61)) e,
      ap (length {A = ℕ}) e,
      length-append (option_word a) (61 ∷ value),
    )

-- the first option of words is one, and so is what is behind it
pub one_option : (a b : Given) (first other rest behind : List (List ℕ)) → first ++ rest ≡ other ++ behind
    → IsOption a first → IsOption b other → (a ≡ b) × (rest ≡ behind)
one_option a b [] other rest behind e h k = absurd h
one_option a b (x ∷ []) [] rest behind e h k = absurd k
one_option a b (x ∷ []) (y ∷ []) rest behind e h k =
    let whole : option_word a ++ (61 ∷ h.0) ≡ option_word b ++ (61 ∷ k.0) = cc in
    let word : option_word a ≡ option_word b = sym (word_before a h.0) ∙ ap (before_first (λ c. c == 61)) whole ∙ word_before b k.0 in
    let value : k.0 ≡ h.0 = sym (value_after b k.0) ∙ ap (after_first (λ c. c == 61)) (sym whole) ∙ value_after a h.0 in
    let behind_is : rest ≡ behind = cc in
    (same_option a b h.0 word h.2 (subst (IsValueOf b) value k.2), behind_is)
one_option a b (x ∷ []) (y ∷ z ∷ []) rest behind e h k =
    let whole : option_word a ++ (61 ∷ h.0) ≡ option_word b = cc in absurd (apart a b h.0 whole)
one_option a b (x ∷ []) (y ∷ z ∷ more ∷ others) rest behind e h k = absurd k
one_option a b (x ∷ v ∷ []) [] rest behind e h k = absurd k
one_option a b (x ∷ v ∷ []) (y ∷ []) rest behind e h k =
    let whole : option_word b ++ (61 ∷ k.0) ≡ option_word a = cc in absurd (apart b a k.0 whole)
one_option a b (x ∷ v ∷ []) (y ∷ z ∷ []) rest behind e h k =
    let word : option_word a ≡ option_word b = cc in
    let value : z ≡ v = cc in
    let behind_is : rest ≡ behind = cc in
    (same_option a b v word h.1 (subst (IsValueOf b) value k.1), behind_is)
one_option a b (x ∷ v ∷ []) (y ∷ z ∷ more ∷ others) rest behind e h k = absurd k
one_option a b (x ∷ v ∷ more ∷ others) other rest behind e h k = absurd h

-- an option has a word
pub no_empty_option : (option : Given) (first rest : List (List ℕ)) → [] ≡ first ++ rest → IsOption option first → ⊥
no_empty_option option [] rest e h = h
no_empty_option option (word ∷ words) rest e h = cc

-- words are the options of one list
pub same_options : (one other : List Given) (words : List (List ℕ)) → AreOptions one words → AreOptions other words → one ≡ other
same_options [] [] words h k = refl
same_options [] (b ∷ other) words h k = absurd (no_empty_option b k.1.0 k.0 (sym h ∙ k.1.1) k.1.2)
same_options (a ∷ one) [] words h k = absurd (no_empty_option a h.1.0 h.0 (sym k ∙ h.1.1) h.1.2)
same_options (a ∷ one) (b ∷ other) words h k =
    let same = one_option a b h.1.0 k.1.0 h.0 k.0 (sym h.1.1 ∙ k.1.1) h.1.2 k.1.2 in
    let more : one ≡ other = same_options one other h.0 h.2 (subst (AreOptions other) (sym same.1) k.2) in
    let first : a ≡ b = same.0 in
    cc

-- a word that an option is by itself is told apart at its first equals sign
pub joined_told : (word name value : List ℕ) (read : Option CommandOption) → word ≡ name ++ (61 ∷ value)
    → name ≡ before_first (λ b. b == 61) word → value ≡ after_first (λ b. b == 61) word
    → MatchOption read ((option : Given) → ¬ ((name ≡ option_word option) × IsValueOf option value))
    (λ option. (name ≡ option_word (given_by option)) × IsValueOf (given_by option) value)
    → MatchOption read ((option : Given) → ¬ (IsOption option (word ∷ []))) (λ option. IsOption (given_by option) (word ∷ []))
joined_told word name value None is before after told = λ option h.
    let name_is : name ≡ option_word option = before ∙ ap (before_first (λ c. c == 61)) h.1 ∙ word_before option h.0 in
    let value_is : value ≡ h.0 = after ∙ ap (after_first (λ c. c == 61)) h.1 ∙ value_after option h.0 in
    told option (name_is, subst (IsValueOf option) (sym value_is) h.2)
joined_told word name value (Some option) is before after told =
    (value, is ∙ ap (λ (n : List ℕ). n ++ (61 ∷ value)) told.0, told.1)

-- what `split_once` gives at an equals sign
pub split_told : (word : List ℕ) (name value : Bor (List ℕ)) (parts : Option (Bor (List ℕ) × Bor (List ℕ))) → parts ≡ Some (name, value)
    → IsSplitOnceResult 61 word parts
    → (word ≡ name.now ++ (61 ∷ value.now)) × (name.now ≡ before_first (λ b. b == 61) word) × (value.now ≡ after_first (λ b. b == 61) word)
split_told word name value parts is h =
    let at : IsSplitOnceResult 61 word (Some (name, value)) = subst (IsSplitOnceResult 61 word) is h in
    let whole = split_parts 61 word (Some (name, value)) at (lit< tt) in
    let ends = split_once_first 61 word (Some (name, value)) at (lit< tt) in
    (whole.0, ends.1, ends.2)

-- words of which the first, and the first two, are no option begin with none
none_begins_so : (words behind : List (List ℕ)) (word : List ℕ) → words ≡ word ∷ behind → ((option : Given) → ¬ (IsOption option (word ∷ [])))
    → ((value : List ℕ) (after : List (List ℕ)) → behind ≡ value ∷ after → (option : Given) → ¬ (IsOption option (word ∷ value ∷ [])))
    → (option : Given) (first rest : List (List ℕ)) → words ≡ first ++ rest → ¬ (IsOption option first)
none_begins_so words behind word is one two option [] rest e h = h
none_begins_so words behind word is one two option (x ∷ []) rest e h =
    let same : x ≡ word = cc in
    one option (subst (λ (w : List ℕ). IsOption option (w ∷ [])) same h)
none_begins_so words behind word is one two option (x ∷ v ∷ []) rest e h =
    let same : x ≡ word = cc in
    let next : behind ≡ v ∷ rest = cc in
    two v rest next option (subst (λ (w : List ℕ). IsOption option (w ∷ v ∷ [])) same h)
none_begins_so words behind word is one two option (x ∷ v ∷ more ∷ others) rest e h = h

pub none_begins : (words behind : List (List ℕ)) (word : List ℕ) → words ≡ word ∷ behind → ((option : Given) → ¬ (IsOption option (word ∷ [])))
    → ((value : List ℕ) (after : List (List ℕ)) → behind ≡ value ∷ after → (option : Given) → ¬ (IsOption option (word ∷ value ∷ [])))
    → NoneStandsFirst words
none_begins words behind word is one two option rest h = none_begins_so words behind word is one two option h.0 rest h.1 h.2

-- behind a word that is the last no word stands
pub no_more : {X Y : Type 0} (f : X → Y) (behind : List X) (value : Y) (after : List Y) → length behind ≡ 0 → map f behind ≡ value ∷ after → ⊥
no_more f [] value after e is = cc
no_more f (word ∷ words) value after e is = omega arith

-- the words of an option in two words are those that stand there
pub same_next : (option : Given) (word one value two : List ℕ) (after behind : List (List ℕ)) → one ≡ word → value ∷ after ≡ two ∷ behind
    → IsOption option (word ∷ value ∷ []) → IsOption option (one ∷ two ∷ [])
same_next option word one value two after behind first next h =
    let same : value ≡ two = cc in
    let whole : word ∷ value ∷ [] ≡ one ∷ two ∷ [] = cc in
    subst (IsOption option) whole h

pub true_is_not_false : true ≡ false → ⊥
true_is_not_false e = cc

-- what `parse` gives for at most nine bytes without a sign
pub digits : IsNumeralModel (AllDigits 10) (digits_value 10)
digits = numerals_by_value (AllDigits 10) tells_digits

pub number_parsed : {E : Type 0} (value : List ℕ) (read : Result ℕ E) → ParsesUnsigned 32 10 value read → length value ≤ 9 → get_or value 0 0 ≢ 43
    → MatchOption (result_ok read) ((number : ℕ) → ¬ (IsNumber value number)) (IsNumber value)
number_parsed {E = E} value (Ok number) h few unsigned =
    let is = parse_plain digits {E = E} 32 value (Ok number) h unsigned in
    ((is.0.1, is.0.0), few, is.1)
number_parsed {E = E} value (Err e) h few unsigned = λ number is.
    let short : digits_value 10 value < 10 ^ 9 = digits_value_short digits value 9 is.0.1 few in
    parse_plain digits {E = E} 32 value (Err e) h unsigned (is.0.1, is.0.0, omega arith)
