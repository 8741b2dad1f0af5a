use Rattle.std.specs.Prelude.{Option}
use Rattle.std.proofs.Common.{rules, arith, ◌≡◌, ◌++◌, Bool, true, false, List, Ok, Err, Some, is_some, refl, ap, sym, subst, ◌∙◌}
use Rattle.history.specs.declared.recorded.NotKept.TheVariants as not_kept
use Rattle.journal.specs.Keeping.{Holds, leaves_doubt}
use Rattle.journal.specs.declared.keeping.AppendFault.{AppendFault}
use Rattle.journal.specs.declared.keeping.AppendFault.TheVariants.{Full}
use Rattle.office.specs.Edits.{mended}
use Rattle.office.specs.Keeping.{KeepCalls}
use Rattle.office.proofs.KeepingLemmas.{failed_holds, keep_appended, keep_moments, keep_calls, fault_calls, flown_failed}
use Rattle.records.specs.Sheets.{Record}
use Rattle.office.proofs.keeping.keep.Goals as goal

pub returns-in-Ok-clause-keeps : goal.returns-in-Ok-clause-keeps
returns-in-Ok-clause-keeps g c pieces holds =
    (keep_appended pieces c.args.doubt.now c.args.journal.now c.settle.new.journal c.settle.result (sym c.is_err.ensures.value ∙ c.if-is_err.false) holds
    c.settle.ensures.settled (Unit {0}) c.args.piece.now c.args.bytes.now c.append.new.self (Ok c.in-Ok.field-0) c.settle.ensures.format
    c.requires.next c.in-Ok.ensures.appended).0

pub returns-in-Err-Fault-true-clause-keeps : goal.returns-in-Err-Fault-true-clause-keeps
returns-in-Err-Fault-true-clause-keeps g c pieces holds =
    let fault : AppendFault = c.in-Err-Fault-true.field-0 in
    let told : leaves_doubt {T = Unit {0}} (Err fault) ≡ true =
    ap (λ (x : AppendFault). leaves_doubt {T = Unit {0}} (Err x)) c.in-Err-Fault-true.field-0-is ∙ c.in-Err-Fault-true.field-0-0-test in
    subst (λ (o : Option Record). Holds pieces o c.append.new.self) (sym c.of.ensures)
    (failed_holds (Unit {0}) pieces c.args.piece.now c.append.new.self fault true told
    (keep_appended pieces c.args.doubt.now c.args.journal.now c.settle.new.journal c.settle.result (sym c.is_err.ensures.value ∙ c.if-is_err.false) holds
    c.settle.ensures.settled (Unit {0}) c.args.piece.now c.args.bytes.now c.append.new.self (Err fault) c.settle.ensures.format
    c.requires.next c.in-Err-Fault-true.ensures.appended))

pub returns-in-Err-clause-keeps : goal.returns-in-Err-clause-keeps
returns-in-Err-clause-keeps g c pieces holds =
    let fault : AppendFault = c.in-Err.field-0 in
    let settled : leaves_doubt {T = Unit {0}} (Err fault) ≡ false = search rules in
    subst (λ (o : Option Record). Holds pieces o c.append.new.self) (sym c.none.ensures)
    (failed_holds (Unit {0}) pieces c.args.piece.now c.append.new.self fault false settled
    (keep_appended pieces c.args.doubt.now c.args.journal.now c.settle.new.journal c.settle.result (sym c.is_err.ensures.value ∙ c.if-is_err.false) holds
    c.settle.ensures.settled (Unit {0}) c.args.piece.now c.args.bytes.now c.append.new.self (Err fault) c.settle.ensures.format
    c.requires.next c.in-Err.ensures.appended))

pub returns-in-Ok-clause-any_moment : goal.returns-in-Ok-clause-any_moment
returns-in-Ok-clause-any_moment g c pieces holds =
    keep_moments pieces c.args.doubt.now c.args.journal.now c.settle.new.journal c.settle.result (sym c.is_err.ensures.value ∙ c.if-is_err.false) holds
    c.settle.ensures.settled (Unit {0}) c.args.piece.now c.args.bytes.now c.append.new.self.disk (Ok c.in-Ok.field-0) (Some c.args.piece.now) c.settle.ensures.format refl
    c.requires.next c.settle.ensures.any_moment c.in-Ok.ensures.any_moment

pub returns-in-Err-Fault-true-clause-any_moment : goal.returns-in-Err-Fault-true-clause-any_moment
returns-in-Err-Fault-true-clause-any_moment g c pieces holds =
    let fault : AppendFault = c.in-Err-Fault-true.field-0 in
    let shape = c.in-Err-Fault-true.field-0-is in
    let told : leaves_doubt {T = Unit {0}} (Err fault) ≡ true =
    ap (λ (x : AppendFault). leaves_doubt {T = Unit {0}} (Err x)) shape ∙ c.in-Err-Fault-true.field-0-0-test in
    keep_moments pieces c.args.doubt.now c.args.journal.now c.settle.new.journal c.settle.result (sym c.is_err.ensures.value ∙ c.if-is_err.false) holds
    c.settle.ensures.settled (Unit {0}) c.args.piece.now c.args.bytes.now c.append.new.self.disk (Err fault) c.of.result c.settle.ensures.format
    (flown_failed (Unit {0}) c.args.piece.now fault true told ∙ sym c.of.ensures)
    c.requires.next c.settle.ensures.any_moment c.in-Err-Fault-true.ensures.any_moment

pub returns-in-Err-clause-any_moment : goal.returns-in-Err-clause-any_moment
returns-in-Err-clause-any_moment g c pieces holds =
    let fault : AppendFault = c.in-Err.field-0 in
    let settled : leaves_doubt {T = Unit {0}} (Err fault) ≡ false = search rules in
    keep_moments pieces c.args.doubt.now c.args.journal.now c.settle.new.journal c.settle.result (sym c.is_err.ensures.value ∙ c.if-is_err.false) holds
    c.settle.ensures.settled (Unit {0}) c.args.piece.now c.args.bytes.now c.append.new.self.disk (Err fault) c.none.result c.settle.ensures.format
    (flown_failed (Unit {0}) c.args.piece.now fault false settled ∙ sym c.none.ensures)
    c.requires.next c.settle.ensures.any_moment c.in-Err.ensures.any_moment

pub returns-in-Ok-clause-calls : goal.returns-in-Ok-clause-calls
returns-in-Ok-clause-calls g c pieces holds =
    keep_calls pieces c.args.doubt.now c.args.journal.now c.settle.new.journal c.settle.result (sym c.is_err.ensures.value ∙ c.if-is_err.false) holds
    c.settle.ensures.settled (Unit {0}) c.append.new.self.disk (Ok c.in-Ok.field-0) (KeepCalls {T = Unit {0}} (is_some c.args.doubt.now) (Ok tt))
    c.settle.ensures.calls c.in-Ok.ensures.calls c.append.ensures.counted
    (λ calls is. ap (λ (l : List Bool). mended (is_some c.args.doubt.now) ++ l) is)

pub returns-in-Err-Fault-true-clause-calls : goal.returns-in-Err-Fault-true-clause-calls
returns-in-Err-Fault-true-clause-calls g c pieces holds =
    let fault : AppendFault = c.in-Err-Fault-true.field-0 in
    let shape = c.in-Err-Fault-true.field-0-is in
    keep_calls pieces c.args.doubt.now c.args.journal.now c.settle.new.journal c.settle.result (sym c.is_err.ensures.value ∙ c.if-is_err.false) holds
    c.settle.ensures.settled (Unit {0}) c.append.new.self.disk (Err fault) (KeepCalls {T = Unit {0}} (is_some c.args.doubt.now) (Err not_kept.Gate))
    c.settle.ensures.calls c.in-Err-Fault-true.ensures.calls c.append.ensures.counted
    (λ calls is. fault_calls (Unit {0}) (is_some c.args.doubt.now) true fault calls (λ (e : fault ≡ Full). cc)
    (ap (λ (x : AppendFault). leaves_doubt {T = Unit {0}} (Err x)) shape ∙ c.in-Err-Fault-true.field-0-0-test) is)

pub returns-in-Err-clause-calls : goal.returns-in-Err-clause-calls
returns-in-Err-clause-calls g c pieces holds =
    let fault : AppendFault = c.in-Err.field-0 in
    let settled : leaves_doubt {T = Unit {0}} (Err fault) ≡ false = search rules in
    keep_calls pieces c.args.doubt.now c.args.journal.now c.settle.new.journal c.settle.result (sym c.is_err.ensures.value ∙ c.if-is_err.false) holds
    c.settle.ensures.settled (Unit {0}) c.append.new.self.disk (Err fault) (KeepCalls {T = Unit {0}} (is_some c.args.doubt.now) (Err not_kept.Record))
    c.settle.ensures.calls c.in-Err.ensures.calls c.append.ensures.counted
    (λ calls is. fault_calls (Unit {0}) (is_some c.args.doubt.now) false fault calls
    (λ (e : fault ≡ Full). let long = c.in-Err.ensures.full.0 (ap (λ (x : AppendFault). Err x) e) in omega arith) settled is)
