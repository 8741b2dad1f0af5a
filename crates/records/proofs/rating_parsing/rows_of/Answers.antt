-- So many sixteens of bytes are so many rows.
use Rattle.std.proofs.Common.{◌≡◌, ◌++◌, ◌*◌, arith, sym}
use Rattle.std.proofs.lemmas.List.{take-append-drop}
use Rattle.records.proofs.Fields.{IsBytes}
use Rattle.records.proofs.RatingLemmas.{rows_lent, points_short}
use Rattle.records.proofs.rating_parsing.rows_of.Goals as goal

pub returns-in_err-front : goal.returns-in_err-front
returns-in_err-front c =
    let fits : IsBytes c.args.bytes.now = λ i. omega (arith, c.type_inv.bytes i) in
    rw c.from_residual.ensures (sym (points_short c.args.count c.args.bytes.now fits (omega (arith, c.in_err-front.ensures.cases))))

pub returns : goal.returns
returns c =
    let cut = c.in_ok-front.ensures.cases in
    let parted : c.args.bytes.now ≡ c.in_ok-front.front.now ++ c.in_ok-front.rest.now = rw (cut.1, cut.2) (sym (take-append-drop (16 * c.args.count) c.args.bytes.now)) in
    rows_lent c.args.count c.args.bytes.now c.in_ok-front.front.now c.in_ok-front.rest.now c.as_chunks.result.0.now cut.3 parted c.as_chunks.ensures.front
