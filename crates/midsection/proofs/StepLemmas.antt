-- Records are read one by one: what is left to read, and what one more record adds.
use Rattle.std.proofs.Common.{◌≡◌, ◌≢◌, ◌∙◌, ℕ, zero, suc, ◌+◌, ◌<◌, ◌^◌, Bool, true, false, if◌then◌else◌, List, [], ◌∷◌, ◌++◌, length, Option, None, Some, Result, Ok, Err, ℤ, pos, Bor, refl, ap, sym, subst, inl, inr, arith}
use Rattle.std.specs.Prelude.{◌⊎◌, IfErr, IfOk}
use Rattle.std.proofs.lemmas.List.{append-nil, append_assoc}
use Rattle.csv.specs.Machine.{ends_at_end, next_record}
use Rattle.csv.specs.Reading.{ReadRecord, Ready, default_config, records_from, source_of, strip_bom}
use Rattle.csv.specs.declared.parser.State.{State}
use Rattle.csv.specs.declared.parser.State.TheVariants as st
use Rattle.csv.specs.declared.reader.Reader.{Reader}
use Rattle.csv.specs.declared.reader.Trim.TheVariants as trim
use Rattle.csv.proofs.ReadFacts.{rows-end}
use Rattle.midsection.specs.Reading.{and_verticals, are_names, in_front, next_vertical, records_of, verticals_in, verticals_of}
use Rattle.midsection.specs.Steps.{AddsNames, AddsVertical, IsFresh}
use Rattle.midsection.specs.declared.faults.NotesFault.{NotesFault}
use Rattle.midsection.specs.declared.faults.NotesFault.TheVariants as faults
use Rattle.midsection.specs.declared.verticals.Vertical.{Vertical}
use Rattle.midsection.proofs.RecordLemmas.{First, Took, next_first, next_none, took, unmarked_length}

-- verticals with those before them in front
pub in_fronts : List Vertical → Result (List Vertical) NotesFault → Result (List Vertical) NotesFault
in_fronts done (Err fault) = Err fault
in_fronts done (Ok vs) = Ok (done ++ vs)

-- what the whole text is read as by the records that are left, behind so many
pub rest_of : ℕ → Option ℤ → List Vertical → List (List (List ℕ)) → Result (List Vertical) NotesFault
rest_of zero before done rows = verticals_in rows
rest_of (suc n) before done rows = in_fronts done (verticals_of (suc (suc n)) before rows)

none_in_front : (r : Result (List Vertical) NotesFault) → r ≡ in_fronts [] r
unfolding in_fronts
none_in_front (Err f) = refl
none_in_front (Ok vs) = refl

front_twice : (done : List Vertical) (v : Vertical) (r : Result (List Vertical) NotesFault) → in_fronts done (in_front v r) ≡ in_fronts (done ++ v ∷ []) r
unfolding in_fronts
front_twice done v (Err f) = refl
front_twice done v (Ok vs) = ap (λ l. Ok l) (sym (append_assoc done (v ∷ []) vs))

names_more : (before : Option ℤ) (done : List Vertical) (names : List (List ℕ)) (rows : List (List (List ℕ))) → are_names names ≡ true
    → rest_of zero before done (names ∷ rows) ≡ rest_of 1 None [] rows
unfolding rest_of
names_more before done names rows e =
    ap (λ (b : Bool). if b then verticals_of 2 None rows else Err faults.Header) e ∙ none_in_front (verticals_of 2 None rows)

names_fault : (before : Option ℤ) (done : List Vertical) (names : List (List ℕ)) (rows : List (List (List ℕ))) → are_names names ≡ false
    → rest_of zero before done (names ∷ rows) ≡ Err faults.Header
unfolding rest_of
names_fault before done names rows e = ap (λ (b : Bool). if b then verticals_of 2 None rows else Err faults.Header) e

vertical_more : (n : ℕ) (before : Option ℤ) (done : List Vertical) (fields : List (List ℕ)) (rows : List (List (List ℕ))) (v : Vertical) → next_vertical (suc (suc n)) before fields ≡ Ok v
    → rest_of (suc n) before done (fields ∷ rows) ≡ rest_of (suc (suc n)) (Some v.distance) (done ++ v ∷ []) rows
unfolding rest_of verticals_of
vertical_more n before done fields rows v e =
    ap (λ (r : Result Vertical NotesFault). in_fronts done (and_verticals r (λ w. verticals_of (suc (suc (suc n))) (Some w.distance) rows))) e
    ∙ front_twice done v (verticals_of (suc (suc (suc n))) (Some v.distance) rows)

vertical_fault : (n : ℕ) (before : Option ℤ) (done : List Vertical) (fields : List (List ℕ)) (rows : List (List (List ℕ))) (f : NotesFault) → next_vertical (suc (suc n)) before fields ≡ Err f
    → rest_of (suc n) before done (fields ∷ rows) ≡ Err f
unfolding rest_of verticals_of in_fronts
vertical_fault n before done fields rows f e =
    ap (λ (r : Result Vertical NotesFault). in_fronts done (and_verticals r (λ w. verticals_of (suc (suc (suc n))) (Some w.distance) rows))) e

rest_none : (n : ℕ) (before : Option ℤ) (done : List Vertical) → rest_of (suc n) before done [] ≡ Ok done
unfolding rest_of verticals_of in_fronts
rest_none n before done = ap (λ l. Ok l) (append-nil done)

-- a reader that was read so far: the records of the text that are left make up what the text is read as
pub record Stands (all : List (List (List ℕ))) (reader : Reader (Bor (List ℕ))) (count : ℕ) (before : Option ℤ) (kept : List Vertical) : Type 0 where
  pub plain : reader.trim ≡ trim.None
  pub ready : Ready reader
  pub config : reader.config ≡ default_config
  pub bytes : List ℕ
  pub source : source_of (λ s. Some s.now) reader ≡ Some bytes
  pub starts : ends_at_end reader.state ≡ false
  pub turns : ℕ
  pub enough : length bytes < turns
  pub few : count + length bytes < 2 ^ 64
  pub none : count ≡ 0 → kept ≡ []
  pub rest : verticals_in all ≡ rest_of count before kept (records_from default_config turns reader.state bytes)

-- nothing was read yet
pub stands_first : (text : List ℕ) (reader : Reader (Bor (List ℕ))) (before : Option ℤ) → IsFresh reader text → length text < 2 ^ 64
    → Stands (records_of text) reader 0 before []
unfolding rest_of
stands_first text reader before fresh few =
    record {
      plain = fresh.plain;
      ready = inr (inr (fresh.unnamed, fresh.none));
      config = fresh.config;
      bytes = strip_bom text;
      source = fresh.source;
      starts = ap ends_at_end fresh.state;
      turns = length (strip_bom text) + 1;
      enough = omega arith;
      few = (let l = unmarked_length text in omega (arith, l, few));
      none = λ e. refl;
      rest = ap (λ (s : State). verticals_in (records_from default_config (length (strip_bom text) + 1) s (strip_bom text))) (sym fresh.state);
    }

-- the verticals behind a further record
record Adds (count : ℕ) (before : Option ℤ) (kept : List Vertical) (fields : List (List ℕ)) (r : Result (Unit {0}) NotesFault) (next : Option ℤ) (more : List Vertical) : Type 0 where
  pub names : count ≡ 0 → AddsNames kept fields r next more
  pub vertical : count ≢ 0 → AddsVertical (count + 1) before kept fields r next more

added : (count : ℕ) (before : Option ℤ) (kept : List Vertical) (fields : List (List ℕ)) (u : Unit {0}) (next : Option ℤ) (more : List Vertical) (rows : List (List (List ℕ)))
    → (count ≡ 0 → kept ≡ []) → Adds count before kept fields (Ok u) next more
    → rest_of count before kept (fields ∷ rows) ≡ rest_of (suc count) next more rows
added zero before kept fields u next more rows none h =
    let a = h.names refl in
    names_more before kept fields rows a.0 ∙ rw (a.1, a.2, none refl) refl
added (suc n) before kept fields u next more rows none h =
    let a = h.vertical (λ e. cc e) in
    let number : suc n + 1 ≡ suc (suc n) = omega arith in
    vertical_more n before kept fields rows a.0 (rw number at a.1) ∙ rw (a.2, a.3) refl

refused : (count : ℕ) (before : Option ℤ) (kept : List Vertical) (fields : List (List ℕ)) (f : NotesFault) (next : Option ℤ) (more : List Vertical) (rows : List (List (List ℕ)))
    → Adds count before kept fields (Err f) next more
    → (f ≡ faults.NoMemory) ⊎ (rest_of count before kept (fields ∷ rows) ≡ Err f)
refused zero before kept fields f next more rows h =
    let a = h.names refl in
    inr (names_fault before kept fields rows a.0 ∙ ap (λ x. Err x) (sym a.1))
refused (suc n) before kept fields f next more rows h =
    let number : suc n + 1 ≡ suc (suc n) = omega arith in
    elim (h.vertical (λ e. cc e)) [ inl e ↦ inl e | inr e ↦ inr (vertical_fault n before kept fields rows f (rw number at e)) ]

-- a record was read, and what it adds
module _ (all : List (List (List ℕ))) (a b : Reader (Bor (List ℕ))) (count : ℕ) (before : Option ℤ) (kept : List Vertical) (fields : List (List ℕ)) (h : Stands all a count before kept)
    (r : ReadRecord (λ (s : Bor (List ℕ)). Some s.now) a b true fields) where
  gone : Took (λ (s : Bor (List ℕ)). Some s.now) a b h.bytes fields
  gone = took (λ (s : Bor (List ℕ)). Some s.now) a b h.bytes fields h.config h.source r

  one : First h.turns a.state h.bytes (fields, b.state, gone.left)
  one = next_first h.turns a.state h.bytes (fields, b.state, gone.left) h.starts h.enough gone.read

  -- there are fewer records than bytes
  pub counts_on : count + 1 < 2 ^ 64
  counts_on = let l = one.shorter in let f = h.few in omega (arith, l, f)

  pub stands_more : (u : Unit {0}) (next : Option ℤ) (more : List Vertical) → b.trim ≡ trim.None → Ready b → b.config ≡ a.config
      → (count ≡ 0 → AddsNames kept fields (Ok u) next more) → (count ≢ 0 → AddsVertical (count + 1) before kept fields (Ok u) next more)
      → Stands all b (count + 1) next more
  stands_more u next more plain ready config names vertical =
      let number : suc count ≡ count + 1 = omega arith in
      record {
        plain = plain;
        ready = ready;
        config = config ∙ h.config;
        bytes = gone.left;
        source = gone.source;
        starts = one.starts;
        turns = one.turns;
        enough = one.enough;
        few = (let l = one.shorter in let f = h.few in omega (arith, l, f));
        none = λ e. absurd (omega (arith, e));
        rest =
            h.rest ∙ ap (rest_of count before kept) one.first
            ∙ added count before kept fields u next more (records_from default_config one.turns b.state gone.left) h.none (record { names = names; vertical = vertical })
            ∙ ap (λ (n : ℕ). rest_of n next more (records_from default_config one.turns b.state gone.left)) number;
      }

  pub stands_refused : (f : NotesFault) (next : Option ℤ) (more : List Vertical)
      → (count ≡ 0 → AddsNames kept fields (Err f) next more) → (count ≢ 0 → AddsVertical (count + 1) before kept fields (Err f) next more)
      → (f ≡ faults.NoMemory) ⊎ (verticals_in all ≡ Err f)
  stands_refused f next more names vertical =
      elim (refused count before kept fields f next more (records_from default_config one.turns b.state gone.left) (record { names = names; vertical = vertical }))
      [ inl e ↦ inl e | inr e ↦ inr (h.rest ∙ ap (rest_of count before kept) one.first ∙ e) ]

-- no record is left
pub stands_ended : (all : List (List (List ℕ))) (a b : Reader (Bor (List ℕ))) (count : ℕ) (before : Option ℤ) (kept : List Vertical) → Stands all a count before kept
    → ReadRecord (λ (s : Bor (List ℕ)). Some s.now) a b false [] → verticals_in all ≡ rest_of count before kept []
stands_ended all a b count before kept h r =
    let none = rows-end (λ (s : Bor (List ℕ)). Some s.now) a b [] default_config h.bytes h.config h.source r in
    h.rest ∙ ap (rest_of count before kept) (next_none h.turns a.state h.bytes none)

pub ended_empty : (all : List (List (List ℕ))) (count : ℕ) (before : Option ℤ) (kept : List Vertical) → verticals_in all ≡ rest_of count before kept [] → count ≡ 0
    → verticals_in all ≡ Err faults.Header
unfolding rest_of
ended_empty all zero before kept h e = h
ended_empty all (suc n) before kept h e = absurd (cc)

pub ended_whole : (all : List (List (List ℕ))) (count : ℕ) (before : Option ℤ) (kept : List Vertical) → verticals_in all ≡ rest_of count before kept [] → count ≢ 0
    → verticals_in all ≡ Ok kept
ended_whole all zero before kept h e = absurd (e refl)
ended_whole all (suc n) before kept h e = h ∙ rest_none n before kept

-- what holds of an answer holds by what it implies
pub ok_then : {A E : Type 0} (r : Result A E) (P Q : A → Type 0) → IfOk r P → ((x : A) → P x → Q x) → IfOk r Q
ok_then (Ok x) P Q h f = f x h
ok_then (Err e) P Q h f = tt

pub err_then : {A E : Type 0} (r : Result A E) (P Q : E → Type 0) → IfErr r P → ((e : E) → P e → Q e) → IfErr r Q
err_then (Ok x) P Q h f = tt
err_then (Err e) P Q h f = f e h
