-- A turn writes one request.
use Rattle.std.proofs.Common.{◌<◌, ◌∙◌, sym, ap, length, List, ℕ, ◌++◌}
use Rattle.std.specs.Int.{div_ceil}
use Rattle.logger_files.specs.Requests.{most_readings, request_text, requests_upto}
use Rattle.logger_files.proofs.ChunkLemmas.{chunk_begins, no_requests, one_request_more}
use Rattle.logger_files.proofs.requests.write_requests.Goals as goal

pub loop-place-init : goal.loop-place-init
loop-place-init c = c.new-out.ensures ∙ sym (no_requests c.args.by.now c.args.site c.args.readings.now)

pub chunk_at-requires : goal.chunk_at-requires
chunk_at-requires c =
    let below : c.loop-place.place < div_ceil (length c.args.readings.now) most_readings = rw c.div_ceil-place-end.ensures at c.loop-place-test.true in
    chunk_begins (length c.args.readings.now) c.loop-place.place below

pub loop-place-preserved : goal.loop-place-preserved
loop-place-preserved c =
    c.in_ok-write_request.ensures
    ∙ ap (λ (l : List ℕ). l ++ request_text c.args.by.now c.args.site c.chunk_at.result.now) c.loop-place.invariant
    ∙ ap (λ r. requests_upto c.args.by.now c.args.site c.args.readings.now c.loop-place.place ++ request_text c.args.by.now c.args.site r) c.chunk_at.ensures
    ∙ one_request_more c.args.by.now c.args.site c.args.readings.now c.loop-place.place
