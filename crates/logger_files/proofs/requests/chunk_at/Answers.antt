use Rattle.std.proofs.Common.{◌*◌, ◌-◌, ◌≡◌, ◌∙◌, ap, drop, length, min, take, List, arith, length-drop}
use Rattle.std.proofs.lemmas.List.{take_all}
use Rattle.fixed_units.specs.declared.readings.Reading.{Reading}
use Rattle.logger_files.proofs.ChunkLemmas.{take_least}
use Rattle.logger_files.proofs.requests.chunk_at.Goals as goal

pub returns : goal.returns
returns c =
    let from = c.args.place * 40_000 in
    let rest = drop (c.args.place * 40_000) c.args.readings.now in
    let long = length-drop (c.args.place * 40_000) c.args.readings.now in
    let all : take (length c.args.readings.now - c.args.place * 40_000) (drop (c.args.place * 40_000) c.args.readings.now) ≡ drop (c.args.place * 40_000) c.args.readings.now =
    take_all (length c.args.readings.now - from) rest (omega (arith, long))
    in
    ap (λ (l : List Reading). take c.min.result l) all
    ∙ take_least 40_000 rest c.min.result (c.min.ensures ∙ ap (λ (l : List Reading). min (length l) 40_000) all)
