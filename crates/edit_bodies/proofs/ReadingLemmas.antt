-- The readings that rows state, and whether an edit may put them.
use Rattle.std.proofs.Common.{◌≡◌, ◌↔◌, ℕ, zero, suc, ◌+◌, ◌-◌, ◌<◌, ◌≤◌, List, [], ◌∷◌, ◌++◌, length, get_or, slice_get, ℤ, ◌<ℤ◌, int_lt, nat_le, All, Bool, true, false, ◌&&◌, Option, Some, None, IfSome, option_and_then, if◌then◌else◌, refl, sym, ap, ◌∙◌, subst, arith}
use Rattle.std.specs.List.{AllAdjacentBelow, IsAllAdjacentAnswer}
use Rattle.std.proofs.lemmas.Bool.{and_parts, and_from, leb-true, le-leb}
use Rattle.std.proofs.lemmas.Int.{ints}
use Rattle.std.proofs.lemmas.List.{length-append}
use Rattle.std.proofs.lemmas.List.Elements.{All-cons, All-weaker}
use Rattle.std.proofs.lemmas.List.Kept.{AllPairs-cons}
use Rattle.std.proofs.lemmas.Option.{slice_get-get_or}
use Rattle.std.specs.Result.{result_ok}
use Rattle.civil_days.specs.Spelling.{instant_of_text, stamp_of_text, only}
use Rattle.edit_bodies.proofs.EachLemmas.{each-holds, none_kept}
use Rattle.edit_bodies.proofs.PairLemmas.{of_kind, within}
use Rattle.edit_bodies.specs.Grammars.{are_put, are_rising, each_of, flag_of, flag_of_text, flagged_of, instant_of, kept_if, quantity_of, reading_of, reading_of_row, stage_of}
use Rattle.edit_bodies.specs.Trees.{Tree, items_stated, stated}
use Rattle.edits.specs.Lawful.{ArePutReadings, IsPutReading, most_readings}
use Rattle.fixed_units.specs.Decimals.{decimal_of}
use Rattle.fixed_units.specs.Quantities.{IsStamp, is_stamp, is_stage}
use Rattle.fixed_units.specs.declared.readings.Flag.{Flag}
use Rattle.fixed_units.specs.declared.readings.Flag.TheVariants.{Usable}
use Rattle.fixed_units.specs.declared.readings.Reading.{Reading}
use Rattle.readings.specs.Readings.{IsRising}
use Rattle.rising.proofs.Parting.{yes_lt}
use Rattle.rising.proofs.Selecting.{AllPairs-head}
use Rattle.serde_json.specs.Data.{Data, Items, no_items, item}
use Rattle.serde_json.specs.Find.{as_array, as_str}

-- ---- one reading

instant_stamp : (value : Data) (at : ℤ) → instant_of value ≡ Some at → IsStamp at
instant_stamp value at e = by (as_str value) e
  where
    by : (o : Option (List ℕ)) → option_and_then stamp_of_text o ≡ Some at → IsStamp at
    by None e = absurd cc
    by (Some text) e = within _ _ at (of_kind is_stamp (instant_of_text text) at e)

flagged_put : (at raw : Data) (flag : Option Flag) (reading : Reading) → flagged_of (instant_of at) (stage_of raw) flag ≡ Some reading → IsPutReading reading
flagged_put at raw flag reading e = by (instant_of at) (stage_of raw) flag refl refl e
  where
    by : (a r : Option ℤ) (f : Option Flag) → instant_of at ≡ a → stage_of raw ≡ r → flagged_of a r f ≡ Some reading → IsPutReading reading
    by None r f is it e = absurd cc
    by (Some a) None f is it e = absurd cc
    by (Some a) (Some r) None is it e = absurd cc
    by (Some a) (Some r) (Some f) is it e =
        let made : Reading = record { at = a; raw = r; flag = f } in
        let same : made ≡ reading = cc in
        subst IsPutReading same (record { stamp = instant_stamp at a is; stage = within _ _ r (of_kind is_stage (quantity_of raw) r it) })

row_put : (row : Items) (reading : Reading) → reading_of_row row ≡ Some reading → IsPutReading reading
row_put no_items reading e = absurd cc
row_put (item at no_items) reading e = absurd cc
row_put (item at (item raw no_items)) reading e = flagged_put at raw (Some Usable) reading e
row_put (item at (item raw (item flag no_items))) reading e = flagged_put at raw (flag_of flag) reading e
row_put (item at (item raw (item flag (item more rest)))) reading e = absurd cc

reading_put : (value : Data) (reading : Reading) → reading_of value ≡ Some reading → IsPutReading reading
reading_put value reading e = by (as_array value) e
  where
    by : (o : Option Items) → option_and_then reading_of_row o ≡ Some reading → IsPutReading reading
    by None e = absurd cc
    by (Some row) e = row_put row reading e

-- a row of other than two or three items states none
pub wrong_row : (vs : List Tree) → (length vs ≡ 2 → ⊥) → (length vs ≡ 3 → ⊥) → reading_of_row (items_stated vs) ≡ None
wrong_row [] two three = refl
wrong_row (a ∷ []) two three = refl
wrong_row (a ∷ b ∷ []) two three = absurd (two refl)
wrong_row (a ∷ b ∷ c ∷ []) two three = absurd (three refl)
wrong_row (a ∷ b ∷ c ∷ d ∷ vs) two three = refl

-- rows of strings
abbrev written : Option (List ℕ) → Option (List ℕ) → Option Flag → Option Reading
written at raw flag = flagged_of (option_and_then stamp_of_text at) (only is_stage (option_and_then (λ text. result_ok (decimal_of text)) raw)) flag

pub texts_read : (a b : Data) (at raw : Option (List ℕ)) (flag of : Option Flag) → at ≡ as_str a → raw ≡ as_str b → flag ≡ of
    → written at raw flag ≡ flagged_of (instant_of a) (stage_of b) of
texts_read a b at raw flag of x y z =
    ap (λ (o : Option (List ℕ)). written o raw flag) x ∙ ap (λ (o : Option (List ℕ)). written (as_str a) o flag) y ∙ ap (written (as_str a) (as_str b)) z

-- without a stage, or without a flag that is one, there is no reading
pub no_stage : (at : Option ℤ) (flag : Option Flag) → None ≡ flagged_of at None flag
no_stage None flag = refl
no_stage (Some at) flag = refl

pub no_flag : (at raw : Option ℤ) → None ≡ flagged_of at raw None
no_flag None raw = refl
no_flag (Some at) None = refl
no_flag (Some at) (Some raw) = refl

-- ---- the order

rising_told : (rs : List Reading) → AllAdjacentBelow (λ r s. true ≡ int_lt r.at s.at) rs (length rs) → true ≡ are_rising rs
rising_told [] h = refl
rising_told (r ∷ []) h = refl
rising_told (r ∷ (s ∷ rest)) h = sym (and_from _ _ (sym (h 0 r (omega arith))) (sym (rising_told (s ∷ rest) further)))
  where
    further : AllAdjacentBelow (λ r s. true ≡ int_lt r.at s.at) (s ∷ rest) (length (s ∷ rest))
    further k d below =
        let moved : suc k + 1 ≡ suc (k + 1) = omega arith in
        subst (λ (n : ℕ). true ≡ int_lt (get_or (r ∷ (s ∷ rest)) (suc k) d).at (get_or (r ∷ (s ∷ rest)) n d).at) moved (h (suc k) d (omega arith))

second_fails : (a b : Bool) → false ≡ b → false ≡ (a && b)
second_fails true b e = e
second_fails false b e = refl

falling_told : (rs : List Reading) (k : ℕ) → k + 1 < length rs → ((d : Reading) → false ≡ int_lt (get_or rs k d).at (get_or rs (k + 1) d).at) → false ≡ are_rising rs
falling_told [] k below h = absurd (omega (arith, below))
falling_told (r ∷ []) k below h = absurd (omega (arith, below))
falling_told (r ∷ (s ∷ rest)) zero below h = ap (λ (b : Bool). b && are_rising (s ∷ rest)) (h r)
falling_told (r ∷ (s ∷ rest)) (suc k) below h =
    let moved : suc k + 1 ≡ suc (k + 1) = omega arith in
    second_fails (int_lt r.at s.at) (are_rising (s ∷ rest))
    (falling_told (s ∷ rest) k (omega (arith, below)) (λ d. subst (λ (n : ℕ). false ≡ int_lt (get_or (r ∷ (s ∷ rest)) (suc k) d).at (get_or (r ∷ (s ∷ rest)) n d).at) moved (h d)))

-- a test of neighbours tells whether readings rise
pub order_told : (rs : List Reading) (told : Bool) → IsAllAdjacentAnswer (λ r s b. b ≡ int_lt r.at s.at) rs told → told ≡ are_rising rs
order_told rs true h = rising_told rs h
order_told rs false h = falling_told rs h.0 h.1 h.2

pub count_told : (told : Bool) (n : ℕ) → told ≡ true ↔ (1 ≤ n) × (n ≤ most_readings) → told ≡ (nat_le 1 n && nat_le n most_readings)
count_told true n h = let p = h.0 refl in sym (and_from _ _ (le-leb _ _ p.0) (le-leb _ _ p.1))
count_told false n h = by (nat_le 1 n && nat_le n most_readings) refl
  where
    by : (b : Bool) → (nat_le 1 n && nat_le n most_readings) ≡ b → false ≡ b
    by true e = let p = and_parts _ _ e in h.1 (leb-true _ _ p.0, leb-true _ _ p.1)
    by false e = refl

rises : (rs : List Reading) → are_rising rs ≡ true → IsRising rs
rises [] e = λ j k d l m. absurd (omega arith)
rises (r ∷ []) e = λ j k d l m. absurd (omega arith)
rises (r ∷ (s ∷ rest)) e =
    let parts = and_parts _ _ e in
    let below = yes_lt r.at s.at parts.0 in
    let behind = rises (s ∷ rest) parts.1 in
    let later = AllPairs-head (λ (x y : Reading). x.at <ℤ y.at) s rest behind in
    AllPairs-cons (λ (x y : Reading). x.at <ℤ y.at) r (s ∷ rest)
    (All-cons (λ (y : Reading). r.at <ℤ y.at) s rest below (All-weaker (λ (y : Reading). s.at <ℤ y.at) (λ (y : Reading). r.at <ℤ y.at) (λ y k. omega (arith, ints, k, below)) rest later))
    behind

-- one more behind the last of readings that rise
alone_told : (b : Bool) → b ≡ (b && true)
alone_told true = refl
alone_told false = refl

pub rising_pushed : (rs : List Reading) (last x : Reading) → are_rising rs ≡ true → Some last ≡ slice_get rs (length rs - 1) → int_lt last.at x.at ≡ are_rising (rs ++ x ∷ [])
rising_pushed [] last x rising is = absurd cc
rising_pushed (r ∷ []) last x rising is =
    let same : last ≡ r = cc in
    ap (λ (y : Reading). int_lt y.at x.at) same ∙ alone_told (int_lt r.at x.at)
rising_pushed (r ∷ (s ∷ rest)) last x rising is =
    let moved : length (r ∷ (s ∷ rest)) - 1 ≡ suc (length (s ∷ rest) - 1) = omega arith in
    let parts = and_parts _ _ rising in
    rising_pushed (s ∷ rest) last x parts.1 (is ∙ ap (slice_get (r ∷ (s ∷ rest))) moved)
    ∙ ap (λ (b : Bool). b && are_rising ((s ∷ rest) ++ x ∷ [])) (sym parts.0)

pub first_rises : (rs : List Reading) (x : Reading) → None ≡ slice_get rs (length rs - 1) → true ≡ are_rising (rs ++ x ∷ [])
first_rises [] x is = refl
first_rises (r ∷ rs) x is =
    let there = slice_get-get_or (r ∷ rs) (length (r ∷ rs) - 1) r (omega arith) in
    absurd (let no = is ∙ there in cc)

pub count_pushed : (rs : List Reading) (x : Reading) (told : Bool) → told ≡ true ↔ (1 ≤ length rs + 1) × (length rs + 1 ≤ most_readings)
    → told ≡ (nat_le 1 (length (rs ++ x ∷ [])) && nat_le (length (rs ++ x ∷ [])) most_readings)
count_pushed rs x told h =
    count_told told (length rs + 1) h ∙ ap (λ (n : ℕ). nat_le 1 n && nat_le n most_readings) (sym (length-append rs (x ∷ [])))

-- readings that are put, or none yet
pub record IsFront (rs : List Reading) : Type 0 where
  pub rising : are_rising rs ≡ true
  pub put : 1 ≤ length rs → are_put rs ≡ true

pub front_pushed : (rs : List Reading) → are_put rs ≡ true → IsFront rs
front_pushed rs is = record { rising = (and_parts _ _ is).1; put = λ _. is }

pub front_put : (rs : List Reading) → IsFront rs → (length rs ≡ 0 → ⊥) → are_put rs ≡ true
front_put [] front some = absurd (some refl)
front_put (r ∷ rs) front some = front.put (omega arith)

pub front_kept : (rs : List Reading) → are_put rs ≡ true → kept_if are_put rs ≡ Some rs
front_kept rs is = ap (λ (b : Bool). if b then Some rs else None) is

-- ---- all of them

put_told : (rs : List Reading) (put : Bool) → are_put rs ≡ put → All IsPutReading rs → IfSome (if put then Some rs else None) ArePutReadings
put_told rs false is each = tt
put_told rs true is each =
    let parts = and_parts _ _ is in
    let count = and_parts _ _ parts.0 in
    record { fewest = leb-true _ _ count.0; most = leb-true _ _ count.1; rising = rises rs parts.1; each = each }

-- readings of rows that are kept may be put
pub kept_put : (rows : Items) (found : Option (List Reading)) (rs : List Reading) → found ≡ each_of reading_of rows → found ≡ Some rs → IfSome (kept_if are_put rs) ArePutReadings
kept_put rows found rs read is = put_told rs (are_put rs) refl (each-holds reading_of IsPutReading reading_put rows rs (sym read ∙ is))

-- too few or too many rows put nothing
pub wrong_count : (vs : List Tree) → (nat_le 1 (length vs) && nat_le (length vs) most_readings) ≡ false → option_and_then (kept_if are_put) (each_of reading_of (items_stated vs)) ≡ None
wrong_count vs wrong =
    none_kept reading_of are_put vs
    (λ rs same. ap (λ (n : ℕ). (nat_le 1 n && nat_le n most_readings) && are_rising rs) same ∙ ap (λ (b : Bool). b && are_rising rs) wrong)
