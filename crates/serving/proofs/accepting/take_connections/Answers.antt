use Rattle.std.specs.Prelude.{◌≡◌, ◌+◌, ◌∷◌, ◌++◌, [], length, vec_len}
use Rattle.std.proofs.Common.{rules, sym, ap, ◌∙◌, refl, subst, arith, length-append}
use Rattle.std.proofs.lemmas.List.Elements.{All-pop}
use Rattle.devices.specs.Doors.{ends_of}
use Rattle.serving.specs.Connections.{IsTasked}
use Rattle.serving.proofs.AcceptingLemmas.{some_at}
use Rattle.serving.proofs.TakingLemmas.{same_given, tasked_step}
use Rattle.shared_office.specs.Passing.{IsOf, Lock}
use Rattle.turnstile.proofs.ListLemmas.{prefix_on}
use Rattle.turnstile.specs.Passes.{seen, share, tally}
use Rattle.serving.proofs.accepting.take_connections.Goals as goal

pub returns-in_default-clause-pass : goal.returns-in_default-clause-pass
returns-in_default-clause-pass g c = λ lock all own.
    let e = c.loop.invariant.each lock all own in
    (e.1, same_given _ (g.L.Doors.told c.loop.doors).given (g.L.Doors.told c.next.new.self).given c.loop.tasks.items c.in_default.ensures.given.given e.2)

pub returns-clause-pass : goal.returns-clause-pass
returns-clause-pass g c = λ lock all own. let e = c.loop.invariant.each lock all own in (e.1, e.2)

pub begin_one-mine-requires-clause-pass : goal.begin_one-mine-requires-clause-pass
begin_one-mine-requires-clause-pass g c κs within =
    let o = c.loop.invariant.own in
    let p = All-pop (λ x. ◌≡◌ {A = Lock g.row.D.Denot g.D.Disk} x.value o.0) c.loop.locks.items c.pop.new.self.items c.pop.result c.pop.ensures.items o.1 in
    subst (λ (l : Lock g.row.D.Denot g.D.Disk). IsOf l c.loop.pass) (sym (some_at _ c.pop.result c.in-Some.lock c.in-Some.is p.1)) o.2

pub loop-preserved : goal.loop-preserved
loop-preserved g c =
    let inv = c.loop.invariant in
    let o = inv.own in
    let p = All-pop (λ x. ◌≡◌ {A = Lock g.row.D.Denot g.D.Disk} x.value o.0) c.loop.locks.items c.pop.new.self.items c.pop.result c.pop.ensures.items o.1 in
    let b = c.begin_one-mine.ensures in
    let given = c.in-Open.ensures.given in
    record {
      count = (let a = c.push_reserved.ensures.len in let d = inv.count in omega (arith, a, d));
      shares = (let x = b.share in let y = inv.shares in omega (arith, x, y));
      tally_is = b.tally ∙ inv.tally_is;
      begins = prefix_on (seen c.args.given) (seen c.loop.pass) (seen c.begin_one-mine.result.0) inv.begins b.begins;
      given = (let a = ap length given.given in let d = length-append (g.L.Doors.told c.loop.doors).given (ends_of g.L.In.Source g.L.Out.Sink c.in-Open.input c.in-Open.output ∷ []) in
          let e = inv.given in omega (arith, a, d, e));
      back = λ n. given.back n ∙ inv.back n;
      listens = c.in-Open.ensures.listens;
      faults = c.in-Open.ensures.cause ∙ inv.faults;
      locks = search rules;
      room = c.push_reserved.ensures.capacity ∙ inv.room;
      own = (o.0, p.0, subst (λ (l : Lock g.row.D.Denot g.D.Disk). IsOf l c.begin_one-mine.result.0) (some_at _ c.pop.result c.in-Some.lock c.in-Some.is p.1) b.pass);
      each = λ lock all own.
          let e = inv.each lock all own in
          let q = All-pop (λ x. ◌≡◌ {A = Lock g.row.D.Denot g.D.Disk} x.value lock) c.loop.locks.items c.pop.new.self.items c.pop.result c.pop.ensures.items e.0 in
          let v = some_at _ c.pop.result c.in-Some.lock c.in-Some.is q.1 in (
            q.0,
            subst (λ (l : Lock g.row.D.Denot g.D.Disk). IsOf l c.begin_one-mine.result.0) v b.pass,
            tasked_step (λ (l : Lock g.row.D.Denot g.D.Disk). IsTasked (λ p. p.lock.value) (λ p. p.given.value)
                (λ p. ends_of g.L.In.Source g.L.Out.Sink p.input.value p.output.value) g.L.Doors.ends l (seen c.args.given)) c.in-Some.lock.value lock
                (g.L.Doors.told c.loop.doors).given (g.L.Doors.told c.next.new.self).given c.loop.tasks.items c.push_reserved.new.self.items
                (ends_of g.L.In.Source g.L.Out.Sink c.in-Open.input c.in-Open.output) c.begin_one-mine.result.1 v given.given c.push_reserved.ensures.items e.2
                (b.tasked (seen c.args.given) inv.begins),
          );
    }
