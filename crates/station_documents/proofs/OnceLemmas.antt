-- A document states one list of edits at most.
use Rattle.std.proofs.Common.{◌≡◌, ℕ, pos, List, [], ◌∷◌, Some, None, Option, refl, sym, ◌∙◌, subst}
use Rattle.std.proofs.lemmas.Option.{same_Some}
use Rattle.edits.proofs.EditLemmas.{same_edit}
use Rattle.edits.specs.declared.content.Edit.{Edit}
use Rattle.edits.specs.declared.content.What.{What}
use Rattle.edits.specs.declared.content.What.TheVariants.{AddStation}
use Rattle.station_documents.specs.Documents.{StatesDocument, StatesEach, StatesOnce, StatesTable}
use Rattle.station_documents.specs.Members.{HasText}
use Rattle.station_documents.specs.Stations.{HasGap, StatesAddition, StatesStation}
use Rattle.toml.specs.Data.{Items, no_items, item, Members, as_table}

same_text : (G : List ℕ → Type 0) (key : List ℕ) (table : Members) (a b : List ℕ) → HasText G key table a → HasText G key table b → a ≡ b
same_text G key table a b h i = same_Some _ _ (sym h.there ∙ i.there)

same_gap : (table : Members) (a b : ℕ) → HasGap table a → HasGap table b → a ≡ b
same_gap table a b h i = let e : pos a ≡ pos b = same_Some _ _ (sym h.there ∙ i.there) in cc

same_addition : (n m z y : List ℕ) (g h : ℕ) (s t d c : List ℕ) → n ≡ m → z ≡ y → g ≡ h → s ≡ t → d ≡ c → AddStation n z g s d ≡ AddStation m y h t c
same_addition n m z y g h s t d c a b e f k = rw (a, b, e, f, k) refl

what_once : (table : Members) (v w : What) → StatesAddition table v → StatesAddition table w → v ≡ w
what_once table v w a b =
    a.adds
    ∙ same_addition a.name b.name a.zone b.zone a.gap b.gap a.stages b.stages a.discharges b.discharges (same_text _ _ table _ _ a.named b.named) (same_text _ _ table _ _ a.zoned b.zoned)
    (same_gap table _ _ a.near b.near) (same_text _ _ table _ _ a.stage_array b.stage_array) (same_text _ _ table _ _ a.discharge_array b.discharge_array)
    ∙ sym b.adds

station_once : (by : List ℕ) (table : Members) (e f : Edit) → StatesStation by table e → StatesStation by table f → e ≡ f
station_once by table e f a b =
    same_edit e f (a.by ∙ sym b.by) (same_text _ _ table _ _ a.reference b.reference) (same_Some _ _ (sym a.site ∙ b.site)) (a.comment ∙ sym b.comment) (what_once table e.what f.what a.what b.what)

table_once : (by : List ℕ) (table : Option Members) (e f : Edit) → StatesTable by table e → StatesTable by table f → e ≡ f
table_once by None e f a b = absurd a
table_once by (Some table) e f a b = station_once by table e f a b

each_once : (by : List ℕ) (stations : Items) (es fs : List Edit) → StatesEach by stations es → StatesEach by stations fs → es ≡ fs
each_once by no_items [] [] a b = refl
each_once by no_items [] (f ∷ fs) a b = absurd b
each_once by no_items (e ∷ es) fs a b = absurd a
each_once by (item value others) [] fs a b = absurd a
each_once by (item value others) (e ∷ es) [] a b = absurd b
each_once by (item value others) (e ∷ es) (f ∷ fs) a b =
    rw (table_once by (as_table value) e f a.0 b.0, each_once by others es fs a.1 b.1) refl

document_once : (table : Members) (es fs : List Edit) → StatesDocument table es → StatesDocument table fs → es ≡ fs
document_once table es fs a b =
    let person : a.by ≡ b.by = same_text _ _ table _ _ a.sent b.sent in
    let items : a.stations ≡ b.stations = same_Some _ _ (sym a.listed ∙ b.listed) in
    each_once b.by b.stations es fs (subst (λ (p : List ℕ). StatesEach p b.stations es) person (subst (λ (x : Items). StatesEach a.by x es) items a.each)) b.each

pub states_once : (bytes : List ℕ) → StatesOnce bytes
states_once bytes es fs a b =
    let same : a.table ≡ b.table = same_Some _ _ (sym a.read ∙ b.read) in
    document_once b.table es fs (subst (λ (t : Members). StatesDocument t es) same a.stated) b.stated
