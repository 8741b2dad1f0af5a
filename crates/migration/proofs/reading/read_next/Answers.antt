-- One record read.
use Rattle.std.proofs.Common.{rules, ◌≡◌, ◌∷◌, ◌++◌, [], Err, arith, ap}
use Rattle.journal.specs.Reading.{HasRead}
use Rattle.journal.specs.declared.opening.OpenFault.{OpenFault}
use Rattle.migration.proofs.ReadLemmas.{gate_moves, unread}
use Rattle.migration.proofs.reading.read_next.Goals as goal

pub returns-in_err-piece-clause-refused : goal.returns-in_err-piece-clause-refused
returns-in_err-piece-clause-refused g c =
    let e = c.in_err-piece.ensures in
    let told = unread c.args.records.now.items c.args.opening.now c.next.new.self c.in_err-piece.field-0.0 (e.reads c.args.records.now.items c.requires)
    (λ f. e.cause (ap (λ (x : OpenFault). Err x) f)) in
    let same : c.from_residual.result ≡ Err c.in_err-piece.field-0.0 = search rules in
    rw same told

pub returns-clause-moves : goal.returns-clause-moves
returns-clause-moves g c = λ e.
    let read : HasRead (c.args.records.now.items ++ c.in-Some.piece ∷ []) c.next.new.self =
    rw c.in-Some.is at c.in_ok-piece.ensures.reads c.args.records.now.items c.requires in
    gate_moves c.args.records.now.items c.in-Some.piece c.args.opening.now c.next.new.self c.next.ensures.format c.requires read

pub returns-clause-within : goal.returns-clause-within
returns-clause-within g c = λ e.
    let place : c.next.new.self.last ≡ c.args.opening.now.gate = rw c.in-Some.is at c.in_ok-piece.ensures.offset in
    let gate = c.offset-gate.ensures in
    let fits = c.offset-gate.type_inv in
    omega arith
