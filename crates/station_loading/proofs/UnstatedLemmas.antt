-- What it means that an input states no stations.
use Rattle.std.proofs.Common.{◌≡◌, refl, sym, ◌∙◌, ℕ, List, Option, Some, None, subst}
use Rattle.edits.specs.declared.content.Edit.{Edit}
use Rattle.station_documents.specs.Documents.{StatesStations}
use Rattle.station_documents.specs.declared.faults.DocumentFault.{DocumentFault}
use Rattle.station_documents.specs.declared.faults.DocumentFault.TheVariants as faults
use Rattle.station_loading.specs.Loading.{StatesNone, end_unstated}
use Rattle.station_loading.specs.declared.loading.LoadingEnd.{LoadingEnd}
use Rattle.station_loading.specs.declared.loading.LoadingEnd.TheVariants as loadings
use Rattle.whole_inputs.specs.Inputs.{IsWhole}

-- a text that states no stations is the whole input
pub states_none : (l0 l1 : Option (List ℕ)) (text : List ℕ) → IsWhole l0 text l1 → ((edits : List Edit) → ¬ StatesStations text edits) → StatesNone l0
states_none None l1 text whole none = tt
states_none (Some input) None text whole none = absurd whole
states_none (Some input) (Some left) text whole none = λ edits stated. none edits (subst (λ (t : List ℕ). StatesStations t edits) whole.0 stated)

-- the end that a text has which states none
pub ended : (fault : DocumentFault) (end : LoadingEnd) (l0 l1 : Option (List ℕ)) (text : List ℕ) → end ≡ end_unstated fault → IsWhole l0 text l1
    → (fault ≡ faults.NoDocument → (edits : List Edit) → ¬ StatesStations text edits) → end ≡ loadings.NotADocument → StatesNone l0
ended faults.NoDocument end l0 l1 text is whole none told = states_none l0 l1 text whole (none refl)
ended faults.NoMemory end l0 l1 text is whole none told = absurd (cc (sym is ∙ told))
