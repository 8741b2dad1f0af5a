use Rattle.std.proofs.Common.{◌≡◌, ℕ, ◌+◌, ◌^◌, ◌<◌, ◌≤◌, true, List, [], ◌++◌, length, take, drop, refl, sym, ap, ◌∙◌, arith, append_assoc, append-nil, length-append, inl, inr, ⊎_elim}
use Rattle.std.proofs.lemmas.List.{length-take, take_all, drop_all}
use Rattle.wire.specs.Incoming.{Held}
use Rattle.wire.proofs.IncomingLemmas.{told_self, told_maps, told_joins, rest_same, splits_ahead}
use Rattle.wire.proofs.PassingLemmas.{joins_front, passes_all, short_end}
use Rattle.wire.proofs.incoming.Incoming.pass_bytes.Goals as goal

pub loop-missing-init : goal.loop-missing-init
loop-missing-init g c = record {
  passed = (
    [],
    omega arith,
    omega arith,
    λ k. sym (append-nil c.args.text.now),
    told_self (g.S.Source.left c.args.source.now) (λ b a. c.args.self.now.ahead ++ b ≡ c.args.self.now.ahead ++ a) (λ b. refl),
  );
  kept = λ k. k;
  counted = omega arith;
  ended = refl;
  asked = inl (refl, refl, refl);
}

pub loop-missing-preserved : goal.loop-missing-preserved
loop-missing-preserved g c =
    let first = c.args.self.now.ahead in
    let now = c.loop-missing.self in
    let new = c.fill.new.self in
    let here = c.min-here.result in
    let so_far = c.loop-missing.invariant.passed in
    let bytes = so_far.0 in
    let all : here ≡ length now.ahead =
    omega (arith, c.min-here.ensures, ap length c.held.ensures.held, c.if-missing-eq0.false) in
    let none : c.skip.new.self.ahead ≡ [] =
    ap (λ (h : Held). h.ahead) c.skip.ensures ∙ drop_all here now.ahead (omega (arith, all)) in
    let moved : c.skip.new.self.offset ≡ now.offset + here = ap (λ (h : Held). h.offset) c.skip.ensures in
    let grown = c.in-More.ensures.filled in record {
      passed = (
        bytes ++ now.ahead,
        omega (arith, so_far.1, length-append bytes now.ahead, all, c.if-missing-eq0.false),
        omega (arith, so_far.2, length-append bytes now.ahead, all, grown.offset, moved),
        λ k.
            c.add-kept.ensures.added k
            ∙ ap (λ (xs : List ℕ). c.loop-missing.text ++ xs)
            (ap (take here) c.held-in-loop-missing.ensures.held ∙ take_all here now.ahead (omega (arith, all)))
            ∙ ap (λ (xs : List ℕ). xs ++ now.ahead) (so_far.3 (c.add-kept.ensures.kept k))
            ∙ append_assoc c.args.text.now bytes now.ahead,
        told_joins (g.S.Source.left c.args.source.now) (g.S.Source.left c.loop-missing.source) (g.S.Source.left c.fill.new.source)
            (λ b m. first ++ b ≡ bytes ++ (now.ahead ++ m)) (λ m a. c.skip.new.self.ahead ++ m ≡ new.ahead ++ a)
            (λ b a. first ++ b ≡ (bytes ++ now.ahead) ++ (new.ahead ++ a))
            (λ b m a p q.
            p ∙ sym (append_assoc bytes now.ahead m)
            ∙ ap (λ (xs : List ℕ). (bytes ++ now.ahead) ++ xs) (sym (ap (λ (xs : List ℕ). xs ++ m) none) ∙ q))
            so_far.4 c.in-More.ensures.kept,
      );
      kept = λ k. c.loop-missing.invariant.kept (c.add-kept.ensures.kept k);
      counted = omega (arith, c.loop-missing.invariant.counted, c.fill.ensures.bounds.counted);
      ended = c.in-More.ensures.ended ∙ c.loop-missing.invariant.ended;
      asked = inr (
        ⊎_elim (λ same. let e : length now.ahead ≡ length first = ap length same.1 in omega (arith, e, all, same.2, c.if-missing-eq0.false)) (λ was. was.0)
            c.loop-missing.invariant.asked,
        omega (arith, c.if-missing-eq0.false),
      );
    }

pub returns-then-missing-eq0-clause-passed : goal.returns-then-missing-eq0-clause-passed
returns-then-missing-eq0-clause-passed g c =
    let first = c.args.self.now.ahead in
    let now = c.loop-missing.self in
    let here = c.min-here.result in
    let so_far = c.loop-missing.invariant.passed in
    let bytes = so_far.0 in
    let all = bytes ++ take here now.ahead in
    let after : c.skip.new.self.ahead ≡ drop here now.ahead = ap (λ (h : Held). h.ahead) c.skip.ensures in
    let within : here ≤ length now.ahead = omega (arith, c.min-here.ensures, ap length c.held.ensures.held) in
    let len : length all ≡ c.args.count =
    omega (arith, so_far.1, length-append bytes (take here now.ahead), length-take here now.ahead, within, c.if-missing-eq0.true, c.min-here.ensures) in
    let text = λ (k : c.add-kept.result ≡ true).
    c.add-kept.ensures.added k
    ∙ ap (λ (xs : List ℕ). c.loop-missing.text ++ xs)
    (ap (take here) c.held-in-loop-missing.ensures.held)
    ∙ ap (λ (xs : List ℕ). xs ++ take here now.ahead) (so_far.3 (c.add-kept.ensures.kept k))
    ∙ append_assoc c.args.text.now bytes (take here now.ahead) in
    told_maps (g.S.Source.left c.args.source.now) (g.S.Source.left c.loop-missing.source)
    (λ b a. first ++ b ≡ bytes ++ (now.ahead ++ a)) _
    (λ b a p.
    passes_all c.add-kept.result c.passed_whole.result c.passed_whole.ensures c.args.count (first ++ b) c.args.self.now.offset
    c.args.text.now c.add-kept.new.text (c.skip.new.self.ahead ++ a) a all len
    (p ∙ joins_front bytes now.ahead a here ∙ ap (λ (xs : List ℕ). all ++ (xs ++ a)) (sym after)) text)
    so_far.4

pub returns-in-End-clause-passed : goal.returns-in-End-clause-passed
returns-in-End-clause-passed g c =
    let now = c.loop-missing.self in
    let left = g.S.Source.left in
    let so_far = c.loop-missing.invariant.passed in
    let short : length (so_far.0 ++ now.ahead) < c.args.count =
    omega (arith, so_far.1, length-append so_far.0 now.ahead, c.min-here.ensures, ap length c.held.ensures.held, c.if-missing-eq0.false) in
    short_end c.args.count c.args.self.now.ahead so_far.0 now.ahead (left c.args.source.now) (left c.loop-missing.source) (left c.fill.new.source)
    short so_far.4 c.in-End.ensures.kept

pub returns-in-Long-clause-passed : goal.returns-in-Long-clause-passed
returns-in-Long-clause-passed g c =
    let first = c.args.self.now.ahead in
    let now = c.loop-missing.self in
    let so_far = c.loop-missing.invariant.passed in
    let bytes = so_far.0 in
    let here = c.min-here.result in
    let all : here ≡ length now.ahead =
    omega (arith, c.min-here.ensures, ap length c.held.ensures.held, c.if-missing-eq0.false) in
    let short : length (bytes ++ now.ahead) < c.args.count =
    omega (arith, so_far.1, length-append bytes now.ahead, all, c.if-missing-eq0.false) in
    let none : c.skip.new.self.ahead ≡ [] =
    ap (λ (h : Held). h.ahead) c.skip.ensures ∙ drop_all here now.ahead (omega (arith, all)) in
    let moved : c.skip.new.self.offset ≡ now.offset + here = ap (λ (h : Held). h.offset) c.skip.ensures in
    let full : c.args.self.now.offset + length (bytes ++ now.ahead) ≡ 2 ^ 36 =
    omega (arith, so_far.2, length-append bytes now.ahead, all, ap length none, moved, c.in-Long.ensures.filled.1) in
    told_maps (g.S.Source.left c.args.source.now) (g.S.Source.left c.fill.new.source)
    (λ b a. first ++ b ≡ bytes ++ (now.ahead ++ a)) _
    (λ b a p. (bytes ++ now.ahead, splits_ahead first bytes now.ahead b a p, short, full))
    (rest_same first bytes now.ahead (g.S.Source.left c.args.source.now) (g.S.Source.left c.loop-missing.source) (g.S.Source.left c.fill.new.source)
    so_far.4 c.in-Long.ensures.kept)

pub returns-in-Failed-clause-passed : goal.returns-in-Failed-clause-passed
returns-in-Failed-clause-passed g c =
    let first = c.args.self.now.ahead in
    let now = c.loop-missing.self in
    let so_far = c.loop-missing.invariant.passed in
    let bytes = so_far.0 in
    let short : length (bytes ++ now.ahead) < c.args.count =
    omega (arith, so_far.1, length-append bytes now.ahead, c.min-here.ensures, ap length c.held.ensures.held, c.if-missing-eq0.false) in
    told_maps (g.S.Source.left c.args.source.now) (g.S.Source.left c.fill.new.source)
    (λ b a. first ++ b ≡ bytes ++ (now.ahead ++ a)) _
    (λ b a p. (bytes ++ now.ahead, splits_ahead first bytes now.ahead b a p, short))
    (rest_same first bytes now.ahead (g.S.Source.left c.args.source.now) (g.S.Source.left c.loop-missing.source) (g.S.Source.left c.fill.new.source)
    so_far.4 c.in-Failed.ensures.kept)
