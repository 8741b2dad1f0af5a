-- Where memory runs out, the text begins with what it held.
use Rattle.std.proofs.lemmas.Result.{on_err_weaker}
use Rattle.wire.proofs.ReplyLemmas.{begins_itself, begins_grown, begins_kept, after_any}
use Rattle.wire.proofs.replies.write_rare_status.Goals as goal

pub returns-in_err-push_slice-2-clause-err : goal.returns-in_err-push_slice-2-clause-err
returns-in_err-push_slice-2-clause-err c =
    let old = c.args.out.now in
    let first = begins_grown old old _ c.push_slice.new.self (begins_itself old) c.in_ok-push_slice.ensures.ok in
    let second = begins_grown old c.push_slice.new.self _ c.push_number.new.self first c.in_ok-push_number.ensures.ok in
    let third = begins_grown old c.push_number.new.self _ c.push.new.self second c.in_ok-push.ensures.ok in
    after_any c.from_residual-in_err-push_slice-2.result
    (begins_kept old c.push.new.self c.push_slice-2.new.self third c.in_err-push_slice-2.ensures.err)

pub returns-clause-err : goal.returns-clause-err
returns-clause-err c =
    let old = c.args.out.now in
    let first = begins_grown old old _ c.push_slice.new.self (begins_itself old) c.in_ok-push_slice.ensures.ok in
    let second = begins_grown old c.push_slice.new.self _ c.push_number.new.self first c.in_ok-push_number.ensures.ok in
    let third = begins_grown old c.push_number.new.self _ c.push.new.self second c.in_ok-push.ensures.ok in
    let fourth = begins_grown old c.push.new.self _ c.push_slice-2.new.self third c.in_ok-push_slice-2.ensures.ok in
    on_err_weaker c.push_slice-3.result (begins_kept old c.push_slice-2.new.self c.push_slice-3.new.self fourth)
    c.push_slice-3.ensures.err
