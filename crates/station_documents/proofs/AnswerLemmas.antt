-- What is answered for the whole, by what is answered for its parts.
use Rattle.std.proofs.Common.{◌≡◌, ℕ, zero, suc, ◌<◌, ◌≤◌, true, List, [], ◌∷◌, ◌++◌, length, get_or, codes, Some, Ok, Err, Result, Vec, Global, refl, sym, ap, ◌∙◌, subst, arith}
use Rattle.std.proofs.lemmas.Option.{same_Some}
use Rattle.edits.specs.Texts.{AreInitials}
use Rattle.edits.specs.declared.content.Edit.{Edit}
use Rattle.station_documents.specs.Answers.{AreRead, IsRead}
use Rattle.station_documents.specs.Documents.{StatesDocument, StatesEach, StatesStations, StatesTable, is_document_key, most_stations}
use Rattle.station_documents.specs.Members.{HasText, all_keys, array_at}
use Rattle.station_documents.specs.declared.faults.DocumentFault.{DocumentFault}
use Rattle.station_documents.specs.declared.faults.DocumentFault.TheVariants.{NoDocument, NoMemory}
use Rattle.toml.specs.Data.{Items, Members, as_table}
use Rattle.toml.specs.Parse.{parse_document}
use Rattle.toml.specs.View.{items_view, view}
use Rattle.toml.specs.declared.value.Value.{Value}

-- where the whole has a part, and that part is not read, the whole is not
pub part_refused : {A B : Type 0} (P : A → Type 0) (Q : B → Type 0) (fault : DocumentFault) → ((whole : B) → Q whole → (part : A) × P part) → IsRead P (Err fault) → IsRead Q (Err fault)
part_refused P Q NoDocument has none = λ whole stated. let (part, its) = has whole stated in none part its
part_refused P Q NoMemory has none = tt

-- the same of a list
pub item_refused : {A B : Type 0} (P : A → Type 0) (Q : List B → Type 0) (fault : DocumentFault) → ((whole : List B) → Q whole → (part : A) × P part) → IsRead P (Err fault) → AreRead Q (Err fault)
item_refused P Q NoDocument has none = λ whole stated. let (part, its) = has whole stated in none part its
item_refused P Q NoMemory has none = tt

-- one station more
pub each_more : (by : List ℕ) (stations : List Value) (edits : List Edit) (station : Value) (edit : Edit) → StatesEach by (items_view stations) edits → StatesTable by (as_table (view station)) edit
    → StatesEach by (items_view (stations ++ station ∷ [])) (edits ++ edit ∷ [])
each_more by [] [] station edit each one = (one, tt)
each_more by [] (e ∷ edits) station edit each one = absurd each
each_more by (s ∷ stations) [] station edit each one = absurd each
each_more by (s ∷ stations) (e ∷ edits) station edit each one = (each.0, each_more by stations edits station edit each.1 one)

-- the station at a place has an edit
pub edit_at : (by : List ℕ) (stations : List Value) (i : ℕ) (station : Value) → i < length stations → station ≡ get_or stations i station
    → (edits : List Edit) → StatesEach by (items_view stations) edits → (edit : Edit) × StatesTable by (as_table (view station)) edit
edit_at by [] i station lt is edits each = absurd (omega arith)
edit_at by (s ∷ stations) i station lt is [] each = absurd each
edit_at by (s ∷ stations) zero station lt is (e ∷ edits) each = (e, subst (λ (x : Value). StatesTable by (as_table (view x)) e) (sym is) each.0)
edit_at by (s ∷ stations) (suc i) station lt is (e ∷ edits) each = edit_at by stations i station (omega arith) is edits each.1

-- there are as many edits as stations
pub each_length : (by : List ℕ) (stations : List Value) (edits : List Edit) → StatesEach by (items_view stations) edits → length edits ≡ length stations
each_length by [] [] each = refl
each_length by [] (e ∷ edits) each = absurd each
each_length by (s ∷ stations) [] each = absurd each
each_length by (s ∷ stations) (e ∷ edits) each = ap suc (each_length by stations edits each.1)

-- the stations of a document are those that stand in it
module _ (table : Members) (by : List ℕ) (stations : List Value) (listed : array_at (codes "station") table ≡ Some (items_view stations)) where
  each_of : HasText AreInitials (codes "by") table by → (edits : List Edit) → StatesDocument table edits → StatesEach by (items_view stations) edits
  each_of sent edits stated =
      let person : stated.by ≡ by = same_Some _ _ (sym stated.sent.there ∙ sent.there) in
      let items : stated.stations ≡ items_view stations = same_Some _ _ (sym stated.listed ∙ listed) in
      subst (λ (b : List ℕ). StatesEach b (items_view stations) edits) person (subst (λ (x : Items). StatesEach stated.by x edits) items stated.each)

  -- so many are in a document
  pub counted : (edits : List Edit) → StatesDocument table edits → (1 ≤ length stations) × (length stations ≤ most_stations)
  counted edits stated =
      let items : stated.stations ≡ items_view stations = same_Some _ _ (sym stated.listed ∙ listed) in
      let count = each_length stated.by stations edits (subst (λ (x : Items). StatesEach stated.by x edits) items stated.each) in
      (subst (λ n. 1 ≤ n) count stated.fewest, subst (λ n. n ≤ most_stations) count stated.most)

  -- what is answered for each station is answered for the document
  pub document_answered : (result : Result (Vec Edit Global) DocumentFault) → all_keys is_document_key table ≡ true → HasText AreInitials (codes "by") table by → 1 ≤ length stations → length stations ≤ most_stations
      → AreRead (StatesEach by (items_view stations)) result → AreRead (StatesDocument table) result
  document_answered (Ok edits) alone sent fewest most each =
      let count = each_length by stations edits.items each in
      record {
        by = by;
        stations = items_view stations;
        alone = alone;
        sent = sent;
        listed = listed;
        fewest = subst (λ n. 1 ≤ n) (sym count) fewest;
        most = subst (λ n. n ≤ most_stations) (sym count) most;
        each = each;
      }
  document_answered (Err NoDocument) alone sent fewest most none = λ edits stated. none edits (each_of sent edits stated)
  document_answered (Err NoMemory) alone sent fewest most none = tt

-- a table that is no document makes its text none
pub text_refused : (bytes : List ℕ) (table : Members) (result : Result (Vec Edit Global) DocumentFault) → parse_document bytes ≡ Some table → AreRead (StatesDocument table) result → result ≡ Err NoDocument
    → (edits : List Edit) → StatesStations bytes edits → ⊥
text_refused bytes table result parsed answered refused edits stated =
    let same : stated.table ≡ table = same_Some _ _ (sym stated.read ∙ parsed) in
    let none : AreRead (StatesDocument table) (Err NoDocument) = subst (AreRead (StatesDocument table)) refused answered in
    none edits (subst (λ (t : Members). StatesDocument t edits) same stated.stated)
