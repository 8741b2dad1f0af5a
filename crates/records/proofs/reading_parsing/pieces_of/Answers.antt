-- So many seventeens of bytes are so many readings, if each ends in a flag's number.
use Rattle.std.proofs.Common.{◌≡◌, ◌++◌, ◌*◌, arith, sym}
use Rattle.std.proofs.lemmas.List.{take-append-drop}
use Rattle.records.proofs.Fields.{IsBytes}
use Rattle.records.proofs.PutLemmas.{readings_lent, readings_unflagged, readings_short}
use Rattle.records.proofs.reading_parsing.pieces_of.Goals as goal

pub returns-in_err-front : goal.returns-in_err-front
returns-in_err-front c =
    let fits : IsBytes c.args.bytes.now = λ i. omega (arith, c.type_inv.bytes i) in
    rw c.from_residual.ensures (sym (readings_short c.args.count c.args.bytes.now fits (omega (arith, c.in_err-front.ensures.cases))))

pub returns-then-are_flagged : goal.returns-then-are_flagged
returns-then-are_flagged c =
    let cut = c.in_ok-front.ensures.cases in
    let parted : c.args.bytes.now ≡ c.in_ok-front.front.now ++ c.in_ok-front.rest.now = rw (cut.1, cut.2) (sym (take-append-drop (17 * c.args.count) c.args.bytes.now)) in
    readings_lent c.args.count c.args.bytes.now c.in_ok-front.front.now c.in_ok-front.rest.now c.as_chunks.result.0.now cut.3 parted c.as_chunks.ensures.front (c.are_flagged.ensures.0 c.if-are_flagged.true)

pub returns-else-are_flagged : goal.returns-else-are_flagged
returns-else-are_flagged c =
    let cut = c.in_ok-front.ensures.cases in
    let parted : c.args.bytes.now ≡ c.in_ok-front.front.now ++ c.in_ok-front.rest.now = rw (cut.1, cut.2) (sym (take-append-drop (17 * c.args.count) c.args.bytes.now)) in
    readings_unflagged c.args.count c.args.bytes.now c.in_ok-front.front.now c.in_ok-front.rest.now c.as_chunks.result.0.now cut.3 parted c.as_chunks.ensures.front
    (λ flagged. let yes = c.are_flagged.ensures.1 flagged in let no = c.if-are_flagged.false in cc)
