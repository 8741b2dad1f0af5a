-- Sheets and their bytes, both ways, and the sheets that an edit has.
use Rattle.std.proofs.Common.{◌≡◌, ◌↔◌, ℕ, suc, ◌+◌, ◌-◌, ◌*◌, ◌^◌, ◌<◌, ◌≤◌, Bool, true, cond, List, [], ◌∷◌, ◌++◌, length, Option, Some, None, refl, sym, ap, subst, ◌∙◌, arith, append_assoc, length-append, inl, inr}
use Rattle.std.specs.Prelude.{All, IsSome, option_map, flat_map, nat_le, ◌&&◌}
use Rattle.std.specs.Int.{w32, to_le_bytes}
use Rattle.std.proofs.lemmas.Bool.Decides.{nat_tests}
use Rattle.std.proofs.lemmas.Int.{ints}
use Rattle.std.proofs.lemmas.List.{nil_from_length, length_push, flat_map_more}
use Rattle.std.proofs.lemmas.List.Concat.{flat_map-cons}
use Rattle.std.proofs.lemmas.List.Elements.{All-nil, All-cons, All-push, All-head, All-tail}
use Rattle.edits.specs.Lawful.{IsLawful, most_reviewed_days}
use Rattle.edits.specs.declared.content.What.{What}
use Rattle.edits.specs.declared.content.What.TheVariants.{Decide}
use Rattle.edits.specs.declared.decisions.Decision.TheVariants.{Approve}
use Rattle.records.specs.Drafts.{AreSheets}
use Rattle.records.specs.Parsing.{number_at, front_at, sheet_at}
use Rattle.records.specs.Payloads.{sheet_bytes}
use Rattle.records.specs.Sheets.{most_sheet_bytes, IsSheet, AreSheetsOf}
use Rattle.records.proofs.CurveLemmas.{which}
use Rattle.records.proofs.Fields.{IsBytes, bind_some, some_is, Takes, Takes-then, wide32, number_takes, number_again, front_takes, front_again}

-- ---- a sheet

abbrev is_count : ℕ → Bool
is_count n = nat_le 1 n && nat_le n most_sheet_bytes

counts : (n : ℕ) → 1 ≤ n → n ≤ most_sheet_bytes → is_count n ≡ true
counts n fewest most = grind (arith, nat_tests)

counted_least : (n : ℕ) → is_count n ≡ true → 1 ≤ n
counted_least n e = grind (arith, nat_tests)

counted_most : (n : ℕ) → is_count n ≡ true → n ≤ most_sheet_bytes
counted_most n e = grind (arith, nat_tests)

sheet_is : (n : ℕ) (sheet : List ℕ) → length sheet ≡ n → is_count n ≡ true → IsSheet sheet
sheet_is n sheet len e =
    record { fewest = omega (arith, len, counted_least n e); most = omega (arith, len, counted_most n e) }

pub sheet_takes : (bytes sheet rest : List ℕ) → IsBytes bytes → sheet_at bytes ≡ Some (sheet, rest) → Takes bytes (sheet_bytes sheet) rest × IsSheet sheet
unfolding sheet_at
sheet_takes bytes sheet rest fits e =
    let a = bind_some (number_at w32 bytes) (λ count. cond (is_count count.0) (front_at count.0 count.1) None) (sheet, rest) e in
    let t = number_takes w32 (2 ^ 32) wide32 bytes a.0.0 a.0.1 fits a.1 in
    elim (which (is_count a.0.0) (front_at a.0.0 a.0.1) None _ a.2) [
      | inl h ↦
          let u = front_takes a.0.0 a.0.1 sheet rest t.0.rest_fits h.1 in
          let both : Takes bytes (to_le_bytes w32 a.0.0 ++ sheet) rest = Takes-then bytes (to_le_bytes w32 a.0.0) a.0.1 sheet rest t.0 u.0 in
          (subst (λ (k : ℕ). Takes bytes (to_le_bytes w32 k ++ sheet) rest) (sym u.1) both, sheet_is a.0.0 sheet u.1 h.0)
      | inr h ↦ absurd (let no : None ≡ Some (sheet, rest) = h.1 in cc)
    ]

counted_again : (count : ℕ) (bytes : List ℕ) → count < 2 ^ 32 → is_count count ≡ true → sheet_at (to_le_bytes w32 count ++ bytes) ≡ front_at count bytes
unfolding sheet_at
counted_again count bytes short counted = rw (number_again w32 (2 ^ 32) wide32 count bytes short, counted) refl

pub sheet_again : (sheet rest : List ℕ) → IsSheet sheet → sheet_at (sheet_bytes sheet ++ rest) ≡ Some (sheet, rest)
sheet_again sheet rest is =
    ap sheet_at (append_assoc (to_le_bytes w32 (length sheet)) sheet rest)
    ∙ counted_again (length sheet) (sheet ++ rest) (omega (arith, is.most)) (counts (length sheet) is.fewest is.most)
    ∙ front_again (length sheet) sheet rest refl

-- ---- so many sheets, one behind another

spelled : (sheet : List ℕ) (sheets : List (List ℕ)) (bytes : List ℕ) → bytes ≡ flat_map sheet_bytes (sheet ∷ sheets) → bytes ≡ sheet_bytes sheet ++ flat_map sheet_bytes sheets
spelled sheet sheets bytes e = e ∙ flat_map-cons sheet_bytes sheet sheets

first_again : (sheet : List ℕ) (sheets : List (List ℕ)) (bytes : List ℕ) → All IsSheet (sheet ∷ sheets) → bytes ≡ flat_map sheet_bytes (sheet ∷ sheets) → sheet_at bytes ≡ Some (sheet, flat_map sheet_bytes sheets)
first_again sheet sheets bytes each e =
    ap sheet_at (spelled sheet sheets bytes e) ∙ sheet_again sheet (flat_map sheet_bytes sheets) (All-head IsSheet sheet sheets each)

others_are : (count : ℕ) (bytes sheet rest : List ℕ) (sheets : List (List ℕ)) → sheet_at bytes ≡ Some (sheet, rest) → bytes ≡ flat_map sheet_bytes sheets → length sheets ≡ suc count → All IsSheet sheets → AreSheets count rest
others_are count bytes sheet rest [] some e so_many each = absurd (omega (arith, so_many))
others_are count bytes sheet rest (first ∷ others) some e so_many each =
    let same = some_is (first, flat_map sheet_bytes others) (sheet, rest) (sym (first_again first others bytes each e) ∙ some) in
    record {
      sheets = others;
      bytes_are = sym (ap (λ (x : List ℕ × List ℕ). x.1) same);
      so_many = omega (arith, so_many);
      each = All-tail IsSheet first others each;
    }

pub next_sheet : (count : ℕ) (bytes sheet rest : List ℕ) → IsBytes bytes → sheet_at bytes ≡ Some (sheet, rest) → AreSheets (suc count) bytes ↔ AreSheets count rest
next_sheet count bytes sheet rest fits some =
    let t = sheet_takes bytes sheet rest fits some in (
      λ are. others_are count bytes sheet rest are.sheets some are.bytes_are are.so_many are.each,
      λ are. record {
        sheets = sheet ∷ are.sheets;
        bytes_are = t.0.parts ∙ ap (λ (r : List ℕ). sheet_bytes sheet ++ r) are.bytes_are ∙ sym (flat_map-cons sheet_bytes sheet are.sheets);
        so_many = omega (arith, are.so_many);
        each = All-cons IsSheet sheet are.sheets t.1 are.each;
      },
    )

found_in : (count : ℕ) (bytes : List ℕ) (sheets : List (List ℕ)) → bytes ≡ flat_map sheet_bytes sheets → length sheets ≡ suc count → All IsSheet sheets → IsSome (sheet_at bytes)
found_in count bytes [] e so_many each = absurd (omega (arith, so_many))
found_in count bytes (sheet ∷ sheets) e so_many each = rw (first_again sheet sheets bytes each e) refl

pub has_sheet : (count : ℕ) (bytes : List ℕ) → AreSheets (suc count) bytes → IsSome (sheet_at bytes)
has_sheet count bytes are = found_in count bytes are.sheets are.bytes_are are.so_many are.each

pub no_sheet : (count : ℕ) (bytes : List ℕ) → sheet_at bytes ≡ None → ¬ AreSheets (suc count) bytes
no_sheet count bytes none are = absurd (let some = has_sheet count bytes are in cc)

-- the bytes are so many sheets if the rest is as many as are left
abbrev pub AreLeft : ℕ → ℕ → List ℕ → List ℕ → Type 0
AreLeft count counter bytes rest = (AreSheets count bytes ↔ AreSheets (count - counter) rest) × IsBytes rest

one_fewer : (count counter : ℕ) → counter < count → count - counter ≡ suc (count - (counter + 1))
one_fewer count counter below = omega arith

pub none_left : (count counter : ℕ) (bytes rest : List ℕ) → counter < count → AreLeft count counter bytes rest → sheet_at rest ≡ None → ¬ AreSheets count bytes
none_left count counter bytes rest below left none are =
    no_sheet (count - (counter + 1)) rest none (subst (λ (n : ℕ). AreSheets n rest) (one_fewer count counter below) (left.0.0 are))

pub next_left : (count counter : ℕ) (bytes rest sheet behind : List ℕ) → counter < count → AreLeft count counter bytes rest → sheet_at rest ≡ Some (sheet, behind) → AreLeft count (counter + 1) bytes behind
next_left count counter bytes rest sheet behind below left some =
    let fewer = one_fewer count counter below in
    let next = next_sheet (count - (counter + 1)) rest sheet behind left.1 some in (
      (
        λ are. next.0 (subst (λ (n : ℕ). AreSheets n rest) fewer (left.0.0 are)),
        λ are. left.0.1 (subst (λ (n : ℕ). AreSheets n rest) (sym fewer) (next.1 are)),
      ),
      (sheet_takes rest sheet behind left.1 some).0.rest_fits,
    )

-- the sheets that are kept and the rest are the whole, and the rest is as many sheets as are left
abbrev pub AreKept : ℕ → ℕ → List ℕ → List ℕ → List (List ℕ) → Type 0
AreKept count counter bytes rest kept =
    AreSheets (count - counter) rest × (bytes ≡ flat_map sheet_bytes kept ++ rest) × (length kept ≡ counter) × All IsSheet kept × IsBytes rest

pub kept_has_next : (count counter : ℕ) (bytes rest : List ℕ) (kept : List (List ℕ)) → counter < count → AreKept count counter bytes rest kept → IsSome (sheet_at rest)
kept_has_next count counter bytes rest kept below are =
    has_sheet (count - (counter + 1)) rest (subst (λ (n : ℕ). AreSheets n rest) (one_fewer count counter below) are.0)

pub next_kept : (count counter : ℕ) (bytes rest sheet behind : List ℕ) (kept now : List (List ℕ)) → counter < count → AreKept count counter bytes rest kept → sheet_at rest ≡ Some (sheet, behind) → now ≡ kept ++ sheet ∷ []
    → AreKept count (counter + 1) bytes behind now
next_kept count counter bytes rest sheet behind kept now below are some more =
    let t = sheet_takes rest sheet behind are.4 some in
    let left = (next_sheet (count - (counter + 1)) rest sheet behind are.4 some).0 (subst (λ (n : ℕ). AreSheets n rest) (one_fewer count counter below) are.0) in
    let whole : bytes ≡ flat_map sheet_bytes (kept ++ sheet ∷ []) ++ behind =
    are.1 ∙ ap (λ (r : List ℕ). flat_map sheet_bytes kept ++ r) t.0.parts ∙ sym (append_assoc (flat_map sheet_bytes kept) (sheet_bytes sheet) behind)
    ∙ ap (λ (f : List ℕ). f ++ behind) (flat_map_more sheet_bytes [] kept sheet) in
    rw more (left, whole, omega (arith, length_push kept sheet, are.2), All-push IsSheet kept sheet are.3 t.1, t.0.rest_fits)

pub some_mapped : {A B : Type 0} (f : A → B) (o : Option A) → IsSome (option_map f o) → IsSome o
some_mapped f (Some x) is = refl
some_mapped f None is = is

-- sheets of the same bytes are the same
pub same_sheets : (a b : List (List ℕ)) → All IsSheet a → All IsSheet b → flat_map sheet_bytes a ≡ flat_map sheet_bytes b → a ≡ b
same_sheets [] [] f g e = refl
same_sheets [] (y ∷ b) f g e = absurd (let none = spelled y b [] e in cc)
same_sheets (x ∷ a) [] f g e = absurd (let none = spelled x a [] (sym e) in cc)
same_sheets (x ∷ a) (y ∷ b) f g e =
    let bytes = flat_map sheet_bytes (x ∷ a) in
    let same = some_is (x, flat_map sheet_bytes a) (y, flat_map sheet_bytes b) (sym (first_again x a bytes f refl) ∙ first_again y b bytes g e) in
    let first : x ≡ y = ap (λ (p : List ℕ × List ℕ). p.0) same in
    let others : a ≡ b = same_sheets a b (All-tail IsSheet x a f) (All-tail IsSheet y b g) (ap (λ (p : List ℕ × List ℕ). p.1) same) in
    rw (first, others) refl

-- ---- the sheets of an edit

pub sheets_each : (what : What) (sheets : List (List ℕ)) → AreSheetsOf what sheets → All IsSheet sheets
sheets_each (Decide from to Approve) sheets are = are.each
sheets_each _ sheets none = subst (All IsSheet) (sym none) (All-nil IsSheet)

pub few_sheets : (what : What) (sheets : List (List ℕ)) → IsLawful what → AreSheetsOf what sheets → length sheets ≤ most_reviewed_days
few_sheets (Decide from to Approve) sheets law are =
    let so_many = are.one_a_day in
    let most = law.most in
    omega (arith, ints)
few_sheets _ sheets law none = omega (arith, ap length none)

pub none_told : (sheets : List (List ℕ)) → sheets ≡ [] ↔ (length sheets ≡ 0) × All IsSheet sheets
none_told sheets = (
  λ none. (ap length none, subst (All IsSheet) (sym none) (All-nil IsSheet)),
  λ h. nil_from_length sheets h.0,
)

-- ---- lengths

pub length-sheets : (sheets : List (List ℕ)) → All IsSheet sheets → length (flat_map sheet_bytes sheets) ≤ 2_404 * length sheets
length-sheets [] each = omega arith
length-sheets (sheet ∷ sheets) each =
    let first = All-head IsSheet sheet sheets each in
    omega
    (arith, length-sheets sheets (All-tail IsSheet sheet sheets each), first.most, ap length (flat_map-cons sheet_bytes sheet sheets), length-append (sheet_bytes sheet) (flat_map sheet_bytes sheets), length-append (to_le_bytes w32 (length sheet)) sheet)
