-- Each line is added behind the one before.
use Rattle.std.proofs.Common.{List, ℕ, ◌++◌, ap, ◌∙◌}
use Rattle.std.proofs.lemmas.Result.{on_ok_weaker, on_err_weaker}
use Rattle.wire.specs.ReplyHead.{status_line, type_line, allow_line, length_line, line_end}
use Rattle.wire.proofs.ReplyLemmas.{begins_itself, begins_grown, begins_kept, begins_through, after_any, four_added}
use Rattle.wire.proofs.replies.write_lines.Goals as goal

pub returns-in_err-write_type-clause-err : goal.returns-in_err-write_type-clause-err
returns-in_err-write_type-clause-err c =
    let old = c.args.out.now in
    let status = begins_grown old old _ c.write_status.new.out (begins_itself old) c.in_ok-write_status.ensures.ok in
    after_any c.from_residual-in_err-write_type.result
    (begins_kept old c.write_status.new.out c.write_type.new.out status c.in_err-write_type.ensures.err)

pub returns-in_err-push_slice-clause-err : goal.returns-in_err-push_slice-clause-err
returns-in_err-push_slice-clause-err c =
    let old = c.args.out.now in
    let status = begins_grown old old _ c.write_status.new.out (begins_itself old) c.in_ok-write_status.ensures.ok in
    let kind = begins_grown old c.write_status.new.out _ c.write_type.new.out status c.in_ok-write_type.ensures.ok in
    after_any c.from_residual-in_err-push_slice.result
    (begins_kept old c.write_type.new.out c.push_slice.new.self kind c.in_err-push_slice.ensures.err)

pub returns-clause-ok : goal.returns-clause-ok
returns-clause-ok c =
    let kind = c.write_type.new.out in
    on_ok_weaker c.write_length.result
    (four_added c.args.out.now (status_line c.args.status) (type_line c.args.kind) (allow_line c.args.allow)
    (length_line c.args.body_length) line_end c.write_status.new.out kind c.push_slice.new.self c.write_length.new.out
    c.in_ok-write_status.ensures.ok c.in_ok-write_type.ensures.ok
    (c.in_ok-push_slice.ensures.ok ∙ ap (λ (t : List ℕ). kind ++ t) c.allow_line_of.ensures))
    c.write_length.ensures.ok

pub returns-clause-err : goal.returns-clause-err
returns-clause-err c =
    let old = c.args.out.now in
    let status = begins_grown old old _ c.write_status.new.out (begins_itself old) c.in_ok-write_status.ensures.ok in
    let kind = begins_grown old c.write_status.new.out _ c.write_type.new.out status c.in_ok-write_type.ensures.ok in
    let allow = begins_grown old c.write_type.new.out _ c.push_slice.new.self kind c.in_ok-push_slice.ensures.ok in
    on_err_weaker c.write_length.result (begins_through old c.push_slice.new.self c.write_length.new.out allow)
    c.write_length.ensures.err
