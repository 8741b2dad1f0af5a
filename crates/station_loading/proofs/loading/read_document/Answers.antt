use Rattle.std.proofs.Common.{◌≡◌, ◌∙◌, Err, List, ℕ, ap, subst, sym}
use Rattle.station_documents.specs.Documents.{StatesStations}
use Rattle.station_loading.proofs.UnstatedLemmas.{ended}
use Rattle.station_loading.proofs.loading.read_document.Goals as goal

pub returns-clause-none : goal.returns-clause-none
returns-clause-none g c =
    let same : c.as_slice.result.now ≡ c.in_ok-text.text = c.as_slice.ensures in
    ended c.in-Err.fault c.end_unstated.result (g.S.Source.left c.args.source.now) (g.S.Source.left c.read_whole.new.source) c.in_ok-text.text
    c.end_unstated.ensures c.in_ok-text.ensures.whole
    (λ told edits stated. c.read_stations.ensures.none (c.in-Err.is ∙ ap Err told) edits
    (subst (λ (t : List ℕ). StatesStations t edits) (sym same) stated))
