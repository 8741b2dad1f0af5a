-- Both texts start empty; the head counts the body that follows it.
use Rattle.std.proofs.lemmas.Result.{on_ok_weaker}
use Rattle.wire.specs.ReplyHead.{head_text}
use Rattle.http_api.specs.Replies.{body_of, status_of, allow_of, kind_of, bytes_of}
use Rattle.http_api.proofs.ReplyLemmas.{whole_reply}
use Rattle.http_api.proofs.replies.write_reply.Goals as goal

pub returns : goal.returns
unfolding bytes_of
returns c =
    on_ok_weaker c.push_slice.result
    (whole_reply head_text (status_of c.args.reply.now) c.head_of-status.result.0
    c.len.result (kind_of c.args.reply.now) c.kind_of.result (allow_of c.args.reply.now) c.head_of-status.result.1 (body_of c.args.reply.now) c.truncate.new.self c.reply_text.new.out
    c.truncate-2.new.self c.write_head.new.out c.as_slice.result.now c.push_slice.new.self c.truncate.ensures
    c.in_ok-reply_text.ensures.ok c.truncate-2.ensures c.head_of-status.ensures.status c.kind_of.ensures c.head_of-status.ensures.allow c.len.ensures
    c.in_ok-write_head.ensures.ok c.as_slice.ensures)
    c.push_slice.ensures.ok
