-- The fields of a line: where `csv` parts it at tabs, and the place of a text among them.
use Rattle.std.specs.Prelude.{◌≡◌, ◌≢◌, ◌<◌, ◌≤◌, ⊤, MatchOption, Bool, true, false, cond, ◌==◌, List, [], ◌∷◌, ◌++◌, ℕ, suc, ◌+◌, ◌-◌, Option, None, Some, option_map, take, drop, All}
use Rattle.std.proofs.Common.{arith, subst, refl, ap, sym, ◌∙◌}
use Rattle.std.specs.Str.{bytes_eq}
use Rattle.std.proofs.lemmas.List.{append-nil, append_assoc}
use Rattle.std.proofs.lemmas.List.Elements.{All-head, All-tail, All-take, All-drop}
use Rattle.csv.specs.Machine.{Read, next_record, step, is_end, fields_after, field_after}
use Rattle.csv.specs.Records.{field_at}
use Rattle.csv.specs.declared.parser.State.{State}
use Rattle.csv.specs.declared.parser.State.TheVariants.{StartRecord, StartField, InField}
use Rattle.csv.specs.declared.parser.Action.{Action}
use Rattle.csv.specs.declared.parser.Action.TheVariants.{Copy, EndField, EndRecord}
use Rattle.memchr.specs.Find.{IsFirstByte, is_byte}
use Rattle.rating_tables.specs.Lines.{IsKept}
use Rattle.rating_tables.specs.Rdb.{tab_config, fields_read, fields, fields_from, column}
use Rattle.rating_tables.proofs.LineTextLemmas.{no_byte, found_byte, found_no_byte}

abbrev within_record : Bool → State
within_record true = StartField
within_record false = InField

-- what a byte does within a record: a tab ends the field, LF the record, and others join the field
abbrev tab_step : Bool → Bool → State × Action
tab_step true d = (StartField, EndField)
tab_step false true = (StartRecord, EndRecord)
tab_step false false = (InField, Copy)

tab_step_is : (c d : Bool) → tab_step c d ≡ cond c (StartField, EndField) (cond d (StartRecord, EndRecord) (InField, Copy))
tab_step_is true d = refl
tab_step_is false true = refl
tab_step_is false false = refl

step_is : (started : Bool) (b : ℕ) → tab_step (b == 9) (b == 10) ≡ step tab_config (within_record started) b
step_is true b = tab_step_is (b == 9) (b == 10)
step_is false b = tab_step_is (b == 9) (b == 10)

-- what is read after a step of that state and that action
abbrev read_after : State × Action → List (List ℕ) → List ℕ → ℕ → List ℕ → Option Read
read_after p fs f b x =
    cond (is_end p.1) (Some (fields_after p.1 fs f, p.0, x)) (next_record tab_config p.0 (fields_after p.1 fs f) (field_after p.1 b f) x)

-- one field more in front is one more that is read
front_step : (g : List ℕ) (p : State × Action) (fs : List (List ℕ)) (f : List ℕ) (b : ℕ) (x : List ℕ)
    → (c d : Bool) → p ≡ tab_step c d
    → ((started : Bool) (fs : List (List ℕ)) (f : List ℕ) → fields_read (next_record tab_config (within_record started) (g ∷ fs) f x) ≡ g ∷ fields_read (next_record tab_config (within_record started) fs f x))
    → fields_read (read_after (tab_step c d) (g ∷ fs) f b x) ≡ g ∷ fields_read (read_after (tab_step c d) fs f b x)
front_step g p fs f b x true d e h = h true (fs ++ f ∷ []) []
front_step g p fs f b x false true e h = refl
front_step g p fs f b x false false e h = h false fs (f ++ b ∷ [])

with_front : (g x : List ℕ) (started : Bool) (fs : List (List ℕ)) (f : List ℕ)
    → fields_read (next_record tab_config (within_record started) (g ∷ fs) f x) ≡ g ∷ fields_read (next_record tab_config (within_record started) fs f x)
unfolding next_record
with_front g [] true fs f = refl
with_front g [] false fs f = refl
with_front g (b ∷ x) started fs f =
    subst (λ (p : State × Action). fields_read (read_after p (g ∷ fs) f b x) ≡ g ∷ fields_read (read_after p fs f b x)) (step_is started b)
    (front_step g (tab_step (b == 9) (b == 10)) fs f b x (b == 9) (b == 10) refl (with_front g x))

-- a byte that is neither tab nor LF joins the field
joins : (b : ℕ) → b ≢ 9 → b ≢ 10 → (started : Bool) → (InField, Copy) ≡ step tab_config (within_record started) b
joins b t n started =
    let tab = no_byte b 9 t in
    let feed = no_byte b 10 n in
    rw (tab, feed) at (step_is started b)

-- a text without a tab is one field
one_field : (x : List ℕ) → All (λ b. b ≢ 9) x → All (λ b. b ≢ 10) x → (started : Bool) (f : List ℕ)
    → fields_read (next_record tab_config (within_record started) [] f x) ≡ (f ++ x) ∷ []
unfolding next_record
one_field [] t n true f = ap (λ (l : List ℕ). l ∷ []) (sym (append-nil f))
one_field [] t n false f = ap (λ (l : List ℕ). l ∷ []) (sym (append-nil f))
one_field (b ∷ x) t n started f =
    subst (λ (p : State × Action). fields_read (read_after p [] f b x) ≡ (f ++ b ∷ x) ∷ [])
    (joins b (All-head (λ b. b ≢ 9) b x t) (All-head (λ b. b ≢ 10) b x n) started)
    (one_field x (All-tail (λ b. b ≢ 9) b x t) (All-tail (λ b. b ≢ 10) b x n) false (f ++ b ∷ []) ∙ ap (λ (l : List ℕ). l ∷ []) (append_assoc f (b ∷ []) x))

pub field_alone : (x : List ℕ) → All (λ b. b ≢ 9) x → All (λ b. b ≢ 10) x → fields_from x ≡ x ∷ []
field_alone x t n = one_field x t n true []

-- a tab ends a field
first_field : (x rest : List ℕ) → All (λ b. b ≢ 9) x → All (λ b. b ≢ 10) x → (started : Bool) (f : List ℕ)
    → fields_read (next_record tab_config (within_record started) [] f (x ++ 9 ∷ rest)) ≡ (f ++ x) ∷ fields_from rest
unfolding next_record
first_field [] rest t n true f = with_front f rest true [] [] ∙ ap (λ (l : List ℕ). l ∷ fields_from rest) (sym (append-nil f))
first_field [] rest t n false f = with_front f rest true [] [] ∙ ap (λ (l : List ℕ). l ∷ fields_from rest) (sym (append-nil f))
first_field (b ∷ x) rest t n started f =
    subst (λ (p : State × Action). fields_read (read_after p [] f b (x ++ 9 ∷ rest)) ≡ (f ++ b ∷ x) ∷ fields_from rest)
    (joins b (All-head (λ b. b ≢ 9) b x t) (All-head (λ b. b ≢ 10) b x n) started)
    (first_field x rest (All-tail (λ b. b ≢ 9) b x t) (All-tail (λ b. b ≢ 10) b x n) false (f ++ b ∷ []) ∙ ap (λ (l : List ℕ). l ∷ fields_from rest) (append_assoc f (b ∷ []) x))

pub field_cut : (x rest : List ℕ) → All (λ b. b ≢ 9) x → All (λ b. b ≢ 10) x → fields_from (x ++ 9 ∷ rest) ≡ x ∷ fields_from rest
field_cut x rest t n = first_field x rest t n true []

-- where the search found a tab, and where it found none
pub found_tab : (text : List ℕ) (k : ℕ) → All (λ b. b ≢ 10) text → IsFirstByte (is_byte 9) text (Some k)
    → (fields_from text ≡ take k text ∷ fields_from (drop (k + 1) text)) × All (λ b. b ≢ 10) (drop (k + 1) text)
found_tab text k feeds found =
    let cut = found_byte 9 text k found in (
      ap fields_from cut.0 ∙ field_cut (take k text) (drop (k + 1) text) cut.1 (All-take (λ b. b ≢ 10) k text feeds),
      All-drop (λ b. b ≢ 10) (k + 1) text feeds,
    )

pub found_no_tab : (text : List ℕ) → All (λ b. b ≢ 10) text → IsFirstByte (is_byte 9) text None → fields_from text ≡ text ∷ []
found_no_tab text feeds found = field_alone text (found_no_byte 9 text found) feeds

-- a record begins like a field where the byte is no LF
begins : (b : ℕ) → b ≢ 10 → step tab_config StartRecord b ≡ step tab_config StartField b
begins b h = let plain = no_byte b 10 h in rw plain refl

begins_field : (b : ℕ) (line : List ℕ) → b ≢ 10 → next_record tab_config StartRecord [] [] (b ∷ line) ≡ next_record tab_config StartField [] [] (b ∷ line)
unfolding next_record
begins_field b line h = ap (λ (p : State × Action). read_after p [] [] b line) (begins b h)

pub fields_of_line : (line : List ℕ) → IsKept line → fields line ≡ fields_from line
fields_of_line [] kept = absurd (let e = kept.0 in cc)
fields_of_line (b ∷ line) kept = ap fields_read (begins_field b line (All-head (λ b. b ≢ 10) b line kept.1))

-- the fields that are left behind so many
abbrev pub AreLeft : List (List ℕ) → ℕ → List (List ℕ) → Type 0
AreLeft all place left = (k : ℕ) → field_at all (place + k) ≡ field_at left k

pub all_left : (all left : List (List ℕ)) → all ≡ left → AreLeft all 0 left
all_left all left e k = let none : 0 + k ≡ k = omega arith in ap (field_at all) none ∙ ap (λ fs. field_at fs k) e

pub left_passed : (all : List (List ℕ)) (place : ℕ) (left : List (List ℕ)) (field : List ℕ) (behind : List (List ℕ)) → AreLeft all place left → left ≡ field ∷ behind
    → AreLeft all (place + 1) behind
unfolding field_at
left_passed all place left field behind h e k =
    let next : place + 1 + k ≡ place + suc k = omega arith in
    ap (field_at all) next ∙ h (suc k) ∙ ap (λ fs. field_at fs (suc k)) e

pub left_first : (all : List (List ℕ)) (place : ℕ) (left : List (List ℕ)) (field : List ℕ) (behind : List (List ℕ)) → AreLeft all place left → left ≡ field ∷ behind
    → Some field ≡ field_at all place
unfolding field_at
left_first all place left field behind h e =
    let here : place ≡ place + 0 = omega arith in
    sym (ap (field_at all) here ∙ h 0 ∙ ap (λ fs. field_at fs 0) e)

pub left_none : (all : List (List ℕ)) (passed place : ℕ) → AreLeft all passed [] → passed ≤ place → None ≡ field_at all place
unfolding field_at
left_none all passed place h k =
    let there : passed + (place - passed) ≡ place = omega arith in
    sym (ap (field_at all) (sym there) ∙ h (place - passed))

-- the place of a text among the fields that are left
abbrev pub ColumnLeft : List ℕ → List (List ℕ) → ℕ → List (List ℕ) → Type 0
ColumnLeft name all place left = column name all ≡ option_map (λ i. place + i) (column name left)

pub column_start : (name : List ℕ) (all : List (List ℕ)) → ColumnLeft name all 0 all
column_start name all = by (column name all)
  where
    by : (o : Option ℕ) → o ≡ option_map (λ i. 0 + i) o
    by None = refl
    by (Some i) = ap (λ (n : ℕ). Some n) (omega arith)

pub column_here : (name : List ℕ) (all : List (List ℕ)) (place : ℕ) (field : List ℕ) (behind : List (List ℕ)) → ColumnLeft name all place (field ∷ behind)
    → bytes_eq field name ≡ true → column name all ≡ Some place
column_here name all place field behind h e = h ∙ rw e (ap (λ (n : ℕ). Some n) (omega arith))

pub column_passed : (name : List ℕ) (all : List (List ℕ)) (place : ℕ) (field : List ℕ) (behind : List (List ℕ)) → ColumnLeft name all place (field ∷ behind)
    → bytes_eq field name ≡ false → ColumnLeft name all (place + 1) behind
column_passed name all place field behind h e = h ∙ rw e (by (column name behind))
  where
    by : (o : Option ℕ) → option_map (λ i. place + i) (option_map suc o) ≡ option_map (λ i. place + 1 + i) o
    by None = refl
    by (Some i) = ap (λ (n : ℕ). Some n) (omega arith)

-- a text that is left, counted with its length
abbrev pub left_count : {X : Type 0} → (X → ℕ) → Option X → ℕ
left_count size None = 0
left_count size (Some text) = suc (size text)

pub left_count_falls : {X : Type 0} (size : X → ℕ) (o : Option X) (n : ℕ) → MatchOption o ⊤ (λ x. size x < n) → left_count size o < suc n
left_count_falls size None n h = omega arith
left_count_falls size (Some x) n h = omega arith

pub counted_next : {X : Type 0} (size : X → ℕ) (o : Option X) (n place whole : ℕ) → MatchOption o ⊤ (λ x. size x < n) → place + n ≤ whole
    → MatchOption o ⊤ (λ x. place + 1 + size x ≤ whole)
counted_next size None n place whole h k = tt
counted_next size (Some x) n place whole h k = omega arith
