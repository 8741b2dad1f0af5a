use Rattle.std.proofs.Common.{refl, ap, subst}
use Rattle.desk.proofs.ChainLemmas.{same_of, session_of, some_of}
use Rattle.shared_office.specs.Passing.{Goes, IsOf, fixed_in}
use Rattle.desk.proofs.shared.session.Goals as goal

pub returns-clause-pass : goal.returns-clause-pass
returns-clause-pass g c =
    let s = c.serve-end.ensures.served in
    let new = c.serve-end.new.asked in
    let r = session_of (λ b. b.pass) (λ b. b.lock) (λ l. fixed_in l.now) s.messages s.replies _ new c.args.pass s.answers refl in
    let own = some_of _ new.pass c.serve-end.ensures.ready in
    subst (λ l. IsOf l c.into_pass.result) (ap (λ l. l.now) r.locked)
    (subst (λ p. IsOf new.lock.now p) (same_of new.pass own.0 c.into_pass.result own.1 c.into_pass.ensures) own.2)

pub returns-clause-served : goal.returns-clause-served
returns-clause-served g c =
    let s = c.serve-end.ensures.served in
    let new = c.serve-end.new.asked in
    let r = session_of (λ b. b.pass) (λ b. b.lock) (λ l. fixed_in l.now) s.messages s.replies _ new c.args.pass s.answers refl in
    record {
      holdings = r.holdings;
      goes = subst (λ p. Goes c.args.pass p r.holdings) (same_of new.pass r.back c.into_pass.result r.back_is c.into_pass.ensures) r.goes;
      ends_in = record {
        messages = s.messages;
        replies = s.replies;
        answers = r.replies;
        heard = s.heard;
        input_counted = c.serve-end.ensures.input_counted;
        output_counted = c.serve-end.ensures.output_counted;
        cause = c.serve-end.ensures.cause;
      };
    }

pub returns-clause-unserved : goal.returns-clause-unserved
returns-clause-unserved g c = λ none.
    let u = c.serve-end.ensures.unserved none in
    let new = c.serve-end.new.asked in
    (u.0, u.1, same_of new.pass c.into_pass.result c.args.pass c.into_pass.ensures (ap (λ b. b.pass) u.2))
