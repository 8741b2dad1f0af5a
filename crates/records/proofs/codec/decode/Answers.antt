use Rattle.std.proofs.Common.{sym, arith}
use Rattle.records.specs.Drafts.{parts, AreLawful, HasParts}
use Rattle.records.proofs.Fields.{IsBytes}
use Rattle.records.proofs.Records.{none_read, not_lawful, spelled, in_grammar, record_of_parts, found_again}
use Rattle.records.proofs.codec.decode.Goals as goal

pub returns-in_default-clause-refused : goal.returns-in_default-clause-refused
returns-in_default-clause-refused c _ piece g = none_read c.args.format c.args.bytes.now (sym c.in_default.ensures) piece g

pub returns-in-Ok-false-clause-refused : goal.returns-in-Ok-false-clause-refused
returns-in-Ok-false-clause-refused c _ piece g =
    let wrong : ¬ (AreLawful (parts c.in-Some.draft)) = λ law. let e = c.in-Ok-false.ensures.told.1 law in let f = c.in-Ok-false.field-0-test in cc in
    not_lawful c.args.format c.args.bytes.now (parts c.in-Some.draft) (sym c.in-Some.ensures) wrong piece g

pub returns-in-Err-clause-memory : goal.returns-in-Err-clause-memory
returns-in-Err-clause-memory c _ =
    let fits : IsBytes c.args.bytes.now = λ i. omega (arith, c.type_inv.bytes i) in
    record_of_parts c.args.format c.args.bytes.now (parts c.in-Some.draft) fits (sym c.in-Some.ensures) c.in-Err.ensures.memory

pub returns-in-Err-record_from-clause-memory : goal.returns-in-Err-record_from-clause-memory
returns-in-Err-record_from-clause-memory c _ =
    let fits : IsBytes c.args.bytes.now = λ i. omega (arith, c.type_inv.bytes i) in
    let law : AreLawful (parts c.in-Some.draft) = c.in-Ok-true.ensures.told.0 c.in-Ok-true.field-0-test in
    record_of_parts c.args.format c.args.bytes.now (parts c.in-Some.draft) fits (sym c.in-Some.ensures) law

pub returns-in-Ok-clause-found : goal.returns-in-Ok-clause-found
returns-in-Ok-clause-found c =
    let fits : IsBytes c.args.bytes.now = λ i. omega (arith, c.type_inv.bytes i) in
    let law : AreLawful (parts c.in-Some.draft) = c.in-Ok-true.ensures.told.0 c.in-Ok-true.field-0-test in
    let has : HasParts c.in-Ok.piece (parts c.in-Some.draft) = c.in-Ok.ensures in
    (spelled c.args.format c.args.bytes.now (parts c.in-Some.draft) fits (sym c.in-Some.ensures) c.in-Ok.piece has, in_grammar c.args.format c.args.bytes.now (parts c.in-Some.draft) fits (sym c.in-Some.ensures) c.in-Ok.piece has law)

pub returns-in-Ok-clause-again : goal.returns-in-Ok-clause-again
returns-in-Ok-clause-again c piece g e =
    let fits : IsBytes c.args.bytes.now = λ i. omega (arith, c.type_inv.bytes i) in
    let law : AreLawful (parts c.in-Some.draft) = c.in-Ok-true.ensures.told.0 c.in-Ok-true.field-0-test in
    let has : HasParts c.in-Ok.piece (parts c.in-Some.draft) = c.in-Ok.ensures in
    found_again c.args.format c.args.bytes.now c.in-Ok.piece piece
    (spelled c.args.format c.args.bytes.now (parts c.in-Some.draft) fits (sym c.in-Some.ensures) c.in-Ok.piece has)
    (in_grammar c.args.format c.args.bytes.now (parts c.in-Some.draft) fits (sym c.in-Some.ensures) c.in-Ok.piece has law) g e
