-- The records of a text, one behind another as a reader of `csv` gives them.
use Rattle.std.proofs.Common.{◌≡◌, ◌∙◌, ℕ, zero, suc, ◌+◌, ◌<◌, ◌≤◌, Bool, true, false, ◌==◌, ◌||◌, if◌then◌else◌, List, [], ◌∷◌, ◌++◌, length, Option, None, Some, refl, ap, sym, subst, arith, Bor}
use Rattle.csv.specs.Machine.{Read, after_end, ends_at_end, ends_with, field_after, fields_after, is_end, next_record, step}
use Rattle.csv.specs.Reading.{ReadRecord, Reached, default_config, is_bom, records_from, records_next, source_of, strip_bom}
use Rattle.csv.specs.declared.parser.Action.{Action}
use Rattle.csv.specs.declared.parser.Action.TheVariants as act
use Rattle.csv.specs.declared.parser.State.{State}
use Rattle.csv.specs.declared.parser.State.TheVariants as st
use Rattle.csv.specs.declared.reader.Reader.{Reader}
use Rattle.csv.proofs.ReadFacts.{rows-end, rows-more}

-- a text without a byte order mark is no longer
pub unmarked_length : (text : List ℕ) → length (strip_bom text) ≤ length text
unfolding strip_bom
unmarked_length [] = omega arith
unmarked_length (a ∷ []) = omega arith
unmarked_length (a ∷ b ∷ []) = omega arith
unmarked_length (a ∷ b ∷ c ∷ rest) = by (is_bom a b c)
  where
    by : (q : Bool) → length (if q then rest else a ∷ b ∷ c ∷ rest) ≤ length (a ∷ b ∷ c ∷ rest)
    by true = omega arith
    by false = omega arith

-- behind the end of a record stands a record's start
abbrev Ends : State × Action → Type 0
Ends next = is_end next.1 ≡ true → ends_at_end next.0 ≡ false

abbrev field_step : Bool → Bool → Bool → State × Action
field_step comma ended returned =
    if comma then (st.StartField, act.EndField)
    else if ended then ((if returned then st.AfterCr else st.StartRecord), act.EndRecord)
    else (st.InField, act.Copy)

field_ends : (comma ended returned : Bool) → Ends (field_step comma ended returned)
field_ends true ended returned e = absurd (cc)
field_ends false true true e = refl
field_ends false true false e = refl
field_ends false false returned e = absurd (cc)

quoted_ends : (quoted comma ended returned : Bool) → Ends (if quoted then (st.InQuoted, act.Skip) else field_step comma ended returned)
quoted_ends true comma ended returned e = absurd (cc)
quoted_ends false comma ended returned e = field_ends comma ended returned e

start_ends : (blank quoted comma ended returned : Bool)
    → Ends (if blank then (st.StartRecord, act.Skip) else if quoted then (st.InQuoted, act.Skip) else field_step comma ended returned)
start_ends true quoted comma ended returned e = absurd (cc)
start_ends false quoted comma ended returned e = quoted_ends quoted comma ended returned e

step_ends : (s : State) (c : ℕ) → Ends (step default_config s c)
step_ends st.StartRecord c = start_ends ((c == 13) || (c == 10)) (c == 34) (c == 44) ((c == 13) || (c == 10)) (c == 13)
step_ends st.StartField c = quoted_ends (c == 34) (c == 44) ((c == 13) || (c == 10)) (c == 13)
step_ends st.InField c = field_ends (c == 44) ((c == 13) || (c == 10)) (c == 13)
step_ends st.InQuoted c = by (c == 34)
  where
    by : (q : Bool) → Ends (if q then (st.AfterQuote, act.Skip) else (st.InQuoted, act.Copy))
    by true e = absurd (cc)
    by false e = absurd (cc)
step_ends st.InEscape c = λ e. absurd (cc)
step_ends st.AfterQuote c = by (c == 34)
  where
    by : (q : Bool) → Ends (if q then (st.InQuoted, act.Copy) else field_step (c == 44) ((c == 13) || (c == 10)) (c == 13))
    by true e = absurd (cc)
    by false e = field_ends (c == 44) ((c == 13) || (c == 10)) (c == 13) e
step_ends st.InComment c = by (c == 10)
  where
    by : (q : Bool) → Ends (if q then (st.StartRecord, act.Skip) else (st.InComment, act.Skip))
    by true e = absurd (cc)
    by false e = absurd (cc)
step_ends st.AfterCr c = by (c == 10)
  where
    by : (q : Bool) → Ends (if q then (st.StartRecord, act.Skip) else (if (c == 13) || (c == 10) then (st.StartRecord, act.Skip) else if c == 34 then (st.InQuoted, act.Skip) else field_step (c == 44) ((c == 13) || (c == 10)) (c == 13)))
    by true e = absurd (cc)
    by false e = start_ends ((c == 13) || (c == 10)) (c == 34) (c == 44) ((c == 13) || (c == 10)) (c == 13) e

-- what is left behind a record is no longer, and shorter where the record was not begun
pub record Goes (s : State) (xs : List ℕ) (p : Read) : Type 0 where
  pub starts : ends_at_end p.1 ≡ false
  pub no_longer : length p.2 ≤ length xs
  pub shorter : ends_at_end s ≡ false → length p.2 < length xs

next_goes : (s : State) (f : List (List ℕ)) (g xs : List ℕ) (p : Read) → next_record default_config s f g xs ≡ Some p → Goes s xs p
unfolding next_record
next_goes s f g [] p e = by (ends_at_end s) refl e
  where
    by : (b : Bool) → ends_at_end s ≡ b → (if b then Some (f ++ (g ∷ []), st.StartRecord, []) else None) ≡ Some p → Goes s [] p
    by true h k =
        let same : (f ++ (g ∷ []), st.StartRecord, []) ≡ p = cc in
        subst (Goes s []) same (record { starts = refl; no_longer = omega arith; shorter = λ n. absurd (cc) })
    by false h k = absurd (cc)
next_goes s f g (c ∷ xs) p e =
    by (is_end (step default_config s c).1) refl (λ k. next_goes (step default_config s c).0 _ _ xs p k) e
  where
    by : (b : Bool) → is_end (step default_config s c).1 ≡ b
        → (next_record default_config (step default_config s c).0 (fields_after (step default_config s c).1 f g) (field_after (step default_config s c).1 c g) xs ≡ Some p
        → Goes (step default_config s c).0 xs p)
        → (if b then Some (fields_after (step default_config s c).1 f g, (step default_config s c).0, xs)
        else next_record default_config (step default_config s c).0 (fields_after (step default_config s c).1 f g) (field_after (step default_config s c).1 c g) xs) ≡ Some p
        → Goes s (c ∷ xs) p
    by true h more k =
        let same : (fields_after (step default_config s c).1 f g, (step default_config s c).0, xs) ≡ p = cc in
        subst (Goes s (c ∷ xs)) same (record { starts = step_ends s c h; no_longer = omega arith; shorter = λ n. omega arith })
    by false h more k =
        let further = more k in
        record { starts = further.starts; no_longer = (let l = further.no_longer in omega (arith, l)); shorter = λ n. (let l = further.no_longer in omega (arith, l)) }

-- a record is the first of those of the text from there on, and the others are those behind it
pub record First (n : ℕ) (s : State) (xs : List ℕ) (p : Read) : Type 0 where
  pub turns : ℕ
  pub first : records_from default_config n s xs ≡ p.0 ∷ records_from default_config turns p.1 p.2
  pub enough : length p.2 < turns
  pub starts : ends_at_end p.1 ≡ false
  pub shorter : length p.2 < length xs

pub next_first : (n : ℕ) (s : State) (xs : List ℕ) (p : Read) → ends_at_end s ≡ false → length xs < n → next_record default_config s [] [] xs ≡ Some p → First n s xs p
unfolding records_from
next_first zero s xs p h l e = absurd (omega arith)
next_first (suc n) s xs p h l e =
    let goes = next_goes s [] [] xs p e in
    let less = goes.shorter h in
    record {
      turns = n;
      first = ap (records_next (records_from default_config n)) e;
      enough = omega (arith, l, less);
      starts = goes.starts;
      shorter = less;
    }

pub next_none : (n : ℕ) (s : State) (xs : List ℕ) → next_record default_config s [] [] xs ≡ None → records_from default_config n s xs ≡ []
unfolding records_from
next_none zero s xs e = refl
next_none (suc n) s xs e = ap (records_next (records_from default_config n)) e

-- what a reader that read a record has left
pub record Took {R : Type 0} (rem : R → Option (List ℕ)) (a b : Reader R) (y : List ℕ) (fields : List (List ℕ)) : Type 0 where
  pub left : List ℕ
  pub source : source_of rem b ≡ Some left
  pub read : next_record default_config a.state [] [] y ≡ Some (fields, b.state, left)

took_by : {R : Type 0} (rem : R → Option (List ℕ)) (a b : Reader R) (y z : List ℕ) (fields : List (List ℕ)) → source_of rem b ≡ Some z
    → Reached default_config a.state y (fields ∷ []) b.state z → Took rem a b y fields
unfolding Reached
took_by rem a b y z fields e h =
    let fields_are : h.0.0 ≡ fields = sym h.2 in
    record {
      left = z;
      source = e;
      read = h.1 ∙ ap (λ (p : Read). Some p) (rw (h.2, ← h.3.0, ← h.3.1) refl);
    }

pub took : {R : Type 0} (rem : R → Option (List ℕ)) (a b : Reader R) (y : List ℕ) (fields : List (List ℕ)) → a.config ≡ default_config → source_of rem a ≡ Some y
    → ReadRecord rem a b true fields → Took rem a b y fields
unfolding Reached
took rem a b y fields c e r =
    let m = rows-more rem a b fields default_config a.state y y [] c e (refl, refl) r in
    took_by rem a b y m.0 fields m.1 m.2
