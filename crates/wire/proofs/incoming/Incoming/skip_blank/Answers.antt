use Rattle.std.proofs.Common.{◌≡◌, ℕ, ◌+◌, ◌-◌, ◌^◌, ◌≤◌, true, false, List, [], ◌++◌, length, drop, Option, refl, sym, ap, ◌∙◌, subst, arith, append_assoc, append-nil, length-append, inl, inr, ⊎_elim}
use Rattle.std.proofs.lemmas.List.{length-take}
use Rattle.wire.specs.Incoming.{Held, taken, IsNeeded, IsStopped}
use Rattle.wire.specs.Messages.{is_blank, IsMalformed}
use Rattle.wire.proofs.IncomingLemmas.{Told, told_self, told_maps, told_joins, blank-append, blank_window_more, blank_unsettled, ended_behind, ended_never, malformed_behind, needed_unread, stopped_blank, was_blank, within_skipped, IsRest, rest_same, within_behind, needed_unsettled}
use Rattle.wire.proofs.incoming.Incoming.skip_blank.Goals as goal

-- the stream is stopped behind blank bytes, all of which were skipped
stopped_behind : (old now new : Held) (skipped : List ℕ) (before between after : Option (List ℕ))
    → length skipped ≡ now.offset - old.offset → old.offset ≤ now.offset → is_blank skipped ≡ true → is_blank now.ahead ≡ true
    → new ≡ record { ahead = []; offset = taken now } → IsRest old.ahead skipped now.ahead before between → Told between after (λ m a. a ≡ m)
    → Told before after (λ b a. IsStopped (old.ahead ++ b) old.offset (skipped ++ now.ahead) (new.ahead ++ a) a new.offset)
stopped_behind old now new skipped before between after count forward front blank none rest same =
    let moved : new.offset ≡ old.offset + length (skipped ++ now.ahead) =
    omega (arith, count, length-append skipped now.ahead, forward, ap (λ (h : Held). h.offset) none) in
    told_joins before between after (λ b m. old.ahead ++ b ≡ skipped ++ (now.ahead ++ m)) (λ m a. a ≡ m) _
    (λ b m a p q. stopped_blank (old.ahead ++ b) (skipped ++ now.ahead) (new.ahead ++ a) a m old.offset new.offset
    (p ∙ sym (append_assoc skipped now.ahead m)) q (blank-append skipped now.ahead front blank)
    (ap (λ (h : Held). h.ahead ++ a) none) moved)
    rest same

-- and blank bytes behind which no more was taken were needed
needed_behind_blank : (first skipped ahead : List ℕ) (before between after : Option (List ℕ)) → is_blank skipped ≡ true → is_blank ahead ≡ true
    → IsRest first skipped ahead before between → Told between after (λ m a. a ≡ m) → Told before after (λ b a. IsNeeded (first ++ b) a)
needed_behind_blank first skipped ahead before between after front blank rest same =
    needed_unsettled first skipped ahead before after (inl (blank_unsettled (skipped ++ ahead) (blank-append skipped ahead front blank)))
    (rest_same first skipped ahead before between after rest same)

pub loop-self-init : goal.loop-self-init
loop-self-init g c =
    let ahead = c.args.self.now.ahead in
    let start = c.self.inside.start in
    let end = c.self.inside.end in
    record {
      skipped = (
        [],
        omega arith,
        refl,
        c.requires,
        told_self (g.S.Source.left c.args.source.now) (λ b a. ahead ++ b ≡ ahead ++ a) (λ b. refl),
      );
      some = omega (arith, c.requires.0);
      forward = omega arith;
      begun = ap (λ (h : Held). h.offset) c.self.view_is;
      limit = omega (arith, c.self.invariant.limit, ap (λ (h : Held). length h.ahead) c.self.view_is, ap (λ (h : Held). h.offset) c.self.view_is, length-take (end - start) (drop start c.self.inside.block.items));
      counted = omega arith;
      ended = refl;
      asked = inl (refl, refl);
    }

pub loop-self-preserved : goal.loop-self-preserved
loop-self-preserved g c =
    let old = c.args.self.now in
    let now = c.loop-self.self in
    let new = c.fill.new.self in
    let so_far = c.loop-self.invariant.skipped in
    let skipped = so_far.0 in
    let none : c.skip_all.new.self.ahead ≡ [] = ap (λ (h : Held). h.ahead) c.skip_all.ensures in
    let moved : c.skip_all.new.self.offset ≡ now.offset + length now.ahead = ap (λ (h : Held). h.offset) c.skip_all.ensures in
    let blank : is_blank now.ahead ≡ true = ap is_blank (sym c.held.ensures.held) ∙ sym c.loop-self-test.ensures in
    let grown = c.in-More.ensures.filled in
    record {
      skipped = (
        skipped ++ now.ahead,
        omega (arith, so_far.1, length-append skipped now.ahead, grown.offset, moved, c.loop-self.invariant.forward),
        blank-append skipped now.ahead so_far.2 blank,
        blank_window_more (skipped ++ now.ahead) new.ahead so_far.3,
        told_joins (g.S.Source.left c.args.source.now) (g.S.Source.left c.loop-self.source) (g.S.Source.left c.fill.new.source)
            (λ b m. old.ahead ++ b ≡ skipped ++ (now.ahead ++ m)) (λ m a. c.skip_all.new.self.ahead ++ m ≡ new.ahead ++ a)
            (λ b a. old.ahead ++ b ≡ (skipped ++ now.ahead) ++ (new.ahead ++ a))
            (λ b m a p q.
            p ∙ sym (append_assoc skipped now.ahead m)
            ∙ ap (λ (xs : List ℕ). (skipped ++ now.ahead) ++ xs) (sym (ap (λ (xs : List ℕ). xs ++ m) none) ∙ q))
            so_far.4 c.in-More.ensures.kept,
      );
      some = omega (arith, grown.more);
      forward = omega (arith, grown.offset, moved, c.loop-self.invariant.forward);
      begun = c.loop-self.invariant.begun;
      limit = c.fill.ensures.bounds.limit;
      counted = omega (arith, c.loop-self.invariant.counted, c.fill.ensures.bounds.counted);
      ended = c.in-More.ensures.ended ∙ c.loop-self.invariant.ended;
      asked = inr (was_blank old.ahead now.ahead _ blank c.loop-self.invariant.asked);
    }

pub returns-in-Long-clause-answer : goal.returns-in-Long-clause-answer
returns-in-Long-clause-answer g c =
    let old = c.args.self.now in
    let now = c.loop-self.self in
    let new = c.fill.new.self in
    let left = g.S.Source.left in
    let so_far = c.loop-self.invariant.skipped in
    let seen : List ℕ = so_far.0 ++ now.ahead in
    let count : old.offset + length seen ≡ 2 ^ 36 =
    omega (
      arith,
      so_far.1,
      length-append so_far.0 now.ahead,
      c.loop-self.invariant.forward,
      c.in-Long.ensures.filled.1,
      ap (λ (h : Held). h.offset) c.skip_all.ensures,
      ap (λ (h : Held). length h.ahead) c.skip_all.ensures,
    ) in
    let blank : is_blank now.ahead ≡ true = ap is_blank (sym c.held.ensures.held) ∙ sym c.loop-self-test.ensures in
    told_maps (left c.args.source.now) (left c.fill.new.source)
    (λ b a. IsStopped (old.ahead ++ b) old.offset seen (new.ahead ++ a) a new.offset)
    (λ b a.
    (seen : List ℕ) × IsStopped (old.ahead ++ b) old.offset seen (new.ahead ++ a) a new.offset × (old.offset + length seen ≡ 2 ^ 36))
    (λ b a stopped. (seen, stopped, count))
    (stopped_behind old now new so_far.0 (left c.args.source.now) (left c.loop-self.source) (left c.fill.new.source) so_far.1
    c.loop-self.invariant.forward so_far.2 blank (c.in-Long.ensures.filled.0 ∙ c.skip_all.ensures) so_far.4 c.in-Long.ensures.kept)

pub returns-in-Failed-clause-answer : goal.returns-in-Failed-clause-answer
returns-in-Failed-clause-answer g c =
    let old = c.args.self.now in
    let now = c.loop-self.self in
    let new = c.fill.new.self in
    let left = g.S.Source.left in
    let so_far = c.loop-self.invariant.skipped in
    let blank : is_blank now.ahead ≡ true = ap is_blank (sym c.held.ensures.held) ∙ sym c.loop-self-test.ensures in
    told_maps (left c.args.source.now) (left c.fill.new.source)
    (λ b a. IsStopped (old.ahead ++ b) old.offset (so_far.0 ++ now.ahead) (new.ahead ++ a) a new.offset)
    (λ b a. (seen : List ℕ) × IsStopped (old.ahead ++ b) old.offset seen (new.ahead ++ a) a new.offset)
    (λ b a stopped. (so_far.0 ++ now.ahead, stopped))
    (stopped_behind old now new so_far.0 (left c.args.source.now) (left c.loop-self.source) (left c.fill.new.source) so_far.1
    c.loop-self.invariant.forward so_far.2 blank (c.in-Failed.ensures.filled ∙ c.skip_all.ensures) so_far.4 c.in-Failed.ensures.kept)

pub returns-clause-answer : goal.returns-clause-answer
returns-clause-answer g c =
    let old = c.args.self.now in
    let now = c.loop-self.self in
    let so_far = c.loop-self.invariant.skipped in
    let skipped = so_far.0 in
    let visible : is_blank now.ahead ≡ false = ap is_blank (sym c.held.ensures.held) ∙ sym c.loop-self-test.ensures in
    told_maps (g.S.Source.left c.args.source.now) (g.S.Source.left c.loop-self.source)
    (λ b a. old.ahead ++ b ≡ skipped ++ (now.ahead ++ a)) (λ b a. IsMalformed (old.ahead ++ b) × (c.self.inside.offset ≡ old.offset))
    (λ b a h. (subst IsMalformed (sym h) (malformed_behind skipped now.ahead a visible so_far.3), c.loop-self.invariant.begun))
    so_far.4

pub returns-in-End-clause-within : goal.returns-in-End-clause-within
returns-in-End-clause-within g c =
    let old = c.args.self.now in
    let now = c.loop-self.self in
    let so_far = c.loop-self.invariant.skipped in
    told_joins (g.S.Source.left c.args.source.now) (g.S.Source.left c.loop-self.source) (g.S.Source.left c.fill.new.source)
    (λ b m. old.ahead ++ b ≡ so_far.0 ++ (now.ahead ++ m)) (λ m a. (m ≡ []) × (a ≡ []))
    (λ b a. old.offset + length (old.ahead ++ b) ≤ 2 ^ 36 + length a)
    (λ b m a p q. within_skipped old.offset now.offset (old.ahead ++ b) so_far.0 now.ahead a
    (p ∙ ap (λ (xs : List ℕ). so_far.0 ++ (now.ahead ++ xs)) (q.0 ∙ sym q.1)) so_far.1 c.loop-self.invariant.forward c.loop-self.invariant.limit)
    so_far.4 c.in-End.ensures.kept

pub returns-in-Long-clause-within : goal.returns-in-Long-clause-within
returns-in-Long-clause-within g c =
    let now = c.loop-self.self in
    let left = g.S.Source.left in
    let so_far = c.loop-self.invariant.skipped in
    within_behind c.args.self.now.ahead so_far.0 now.ahead (left c.args.source.now) (left c.fill.new.source) c.args.self.now.offset now.offset
    (omega (arith, so_far.1, c.loop-self.invariant.forward)) c.loop-self.invariant.limit
    (rest_same _ so_far.0 now.ahead (left c.args.source.now) (left c.loop-self.source) (left c.fill.new.source) so_far.4 c.in-Long.ensures.kept)

pub returns-in-Failed-clause-within : goal.returns-in-Failed-clause-within
returns-in-Failed-clause-within g c =
    let now = c.loop-self.self in
    let left = g.S.Source.left in
    let so_far = c.loop-self.invariant.skipped in
    within_behind c.args.self.now.ahead so_far.0 now.ahead (left c.args.source.now) (left c.fill.new.source) c.args.self.now.offset now.offset
    (omega (arith, so_far.1, c.loop-self.invariant.forward)) c.loop-self.invariant.limit
    (rest_same _ so_far.0 now.ahead (left c.args.source.now) (left c.loop-self.source) (left c.fill.new.source) so_far.4 c.in-Failed.ensures.kept)

pub returns-clause-within : goal.returns-clause-within
returns-clause-within g c =
    let old = c.args.self.now in
    let now = c.loop-self.self in
    let so_far = c.loop-self.invariant.skipped in
    told_maps (g.S.Source.left c.args.source.now) (g.S.Source.left c.loop-self.source)
    (λ b a. old.ahead ++ b ≡ so_far.0 ++ (now.ahead ++ a)) (λ b a. old.offset + length (old.ahead ++ b) ≤ 2 ^ 36 + length a)
    (λ b a p. within_skipped old.offset now.offset (old.ahead ++ b) so_far.0 now.ahead a p so_far.1
    c.loop-self.invariant.forward c.loop-self.invariant.limit)
    so_far.4

pub returns-in-End-clause-asked : goal.returns-in-End-clause-asked
returns-in-End-clause-asked g c =
    let now = c.loop-self.self in
    let blank : is_blank now.ahead ≡ true = ap is_blank (sym c.held.ensures.held) ∙ sym c.loop-self-test.ensures in
    inr (was_blank c.args.self.now.ahead now.ahead _ blank c.loop-self.invariant.asked)

pub returns-in-End-clause-needed : goal.returns-in-End-clause-needed
returns-in-End-clause-needed g c =
    let old = c.args.self.now in
    let now = c.loop-self.self in
    let so_far = c.loop-self.invariant.skipped in
    let blank : is_blank now.ahead ≡ true = ap is_blank (sym c.held.ensures.held) ∙ sym c.loop-self-test.ensures in
    told_joins (g.S.Source.left c.args.source.now) (g.S.Source.left c.loop-self.source) (g.S.Source.left c.fill.new.source)
    (λ b m. old.ahead ++ b ≡ so_far.0 ++ (now.ahead ++ m)) (λ m a. (m ≡ []) × (a ≡ [])) (λ b a. IsNeeded (old.ahead ++ b) a)
    (λ b m a p q. needed_unread (old.ahead ++ b) (so_far.0 ++ now.ahead) a m (p ∙ sym (append_assoc so_far.0 now.ahead m)) (q.1 ∙ sym q.0)
    (inl (blank_unsettled (so_far.0 ++ now.ahead) (blank-append so_far.0 now.ahead so_far.2 blank))))
    so_far.4 c.in-End.ensures.kept

pub returns-in-Long-clause-asked : goal.returns-in-Long-clause-asked
returns-in-Long-clause-asked g c =
    let now = c.loop-self.self in
    let blank : is_blank now.ahead ≡ true = ap is_blank (sym c.held.ensures.held) ∙ sym c.loop-self-test.ensures in
    inr (was_blank c.args.self.now.ahead now.ahead _ blank c.loop-self.invariant.asked)

pub returns-in-Long-clause-needed : goal.returns-in-Long-clause-needed
returns-in-Long-clause-needed g c =
    let now = c.loop-self.self in
    let left = g.S.Source.left in
    let so_far = c.loop-self.invariant.skipped in
    let blank : is_blank now.ahead ≡ true = ap is_blank (sym c.held.ensures.held) ∙ sym c.loop-self-test.ensures in
    needed_behind_blank c.args.self.now.ahead so_far.0 now.ahead (left c.args.source.now) (left c.loop-self.source) (left c.fill.new.source)
    so_far.2 blank so_far.4 c.in-Long.ensures.kept

pub returns-in-Failed-clause-asked : goal.returns-in-Failed-clause-asked
returns-in-Failed-clause-asked g c =
    let now = c.loop-self.self in
    let blank : is_blank now.ahead ≡ true = ap is_blank (sym c.held.ensures.held) ∙ sym c.loop-self-test.ensures in
    inr (was_blank c.args.self.now.ahead now.ahead _ blank c.loop-self.invariant.asked)

pub returns-in-Failed-clause-needed : goal.returns-in-Failed-clause-needed
returns-in-Failed-clause-needed g c =
    let now = c.loop-self.self in
    let left = g.S.Source.left in
    let so_far = c.loop-self.invariant.skipped in
    let blank : is_blank now.ahead ≡ true = ap is_blank (sym c.held.ensures.held) ∙ sym c.loop-self-test.ensures in
    needed_behind_blank c.args.self.now.ahead so_far.0 now.ahead (left c.args.source.now) (left c.loop-self.source) (left c.fill.new.source)
    so_far.2 blank so_far.4 c.in-Failed.ensures.kept

pub returns-clause-asked : goal.returns-clause-asked
returns-clause-asked g c =
    ⊎_elim (λ same. inl same.0) (λ blank. inr blank) c.loop-self.invariant.asked

pub returns-clause-needed : goal.returns-clause-needed
returns-clause-needed g c =
    let old = c.args.self.now in
    let now = c.loop-self.self in
    let so_far = c.loop-self.invariant.skipped in
    told_maps (g.S.Source.left c.args.source.now) (g.S.Source.left c.loop-self.source)
    (λ b a. old.ahead ++ b ≡ so_far.0 ++ (now.ahead ++ a)) (λ b a. IsNeeded (old.ahead ++ b) a)
    (λ b a p. (so_far.0, now.ahead, (p, inl (blank_unsettled so_far.0 so_far.2)), c.held.ensures.block))
    so_far.4

pub returns-in-End-clause-ended : goal.returns-in-End-clause-ended
returns-in-End-clause-ended g c =
    let old = c.args.self.now in
    let now = c.loop-self.self in
    let so_far = c.loop-self.invariant.skipped in
    let blank : is_blank now.ahead ≡ true = ap is_blank (sym c.held.ensures.held) ∙ sym c.loop-self-test.ensures in
    let seen : List ℕ = so_far.0 ++ now.ahead in
    let left = g.S.Source.left in
    ended_behind old.ahead seen (left c.args.source.now) (left c.fill.new.source) _ _
    (inl (blank_unsettled seen (blank-append so_far.0 now.ahead so_far.2 blank)))
    (told_joins (left c.args.source.now) (left c.loop-self.source) (left c.fill.new.source)
    (λ b m. old.ahead ++ b ≡ so_far.0 ++ (now.ahead ++ m)) (λ m a. (m ≡ []) × (a ≡ [])) (λ b a. old.ahead ++ b ≡ seen)
    (λ b m a p q. p ∙ ap (λ (xs : List ℕ). so_far.0 ++ (now.ahead ++ xs)) q.0 ∙ ap (λ (xs : List ℕ). so_far.0 ++ xs) (append-nil now.ahead))
    so_far.4 c.in-End.ensures.kept)

pub returns-in-Long-clause-ended : goal.returns-in-Long-clause-ended
returns-in-Long-clause-ended g c =
    ended_never c.args.self.now.ahead (g.S.Source.left c.args.source.now) _ _ (c.in-Long.ensures.ended ∙ c.loop-self.invariant.ended)

pub returns-in-Failed-clause-ended : goal.returns-in-Failed-clause-ended
returns-in-Failed-clause-ended g c =
    ended_never c.args.self.now.ahead (g.S.Source.left c.args.source.now) _ _ (c.in-Failed.ensures.ended ∙ c.loop-self.invariant.ended)

pub returns-clause-ended : goal.returns-clause-ended
returns-clause-ended g c = ended_never c.args.self.now.ahead (g.S.Source.left c.args.source.now) _ _ c.loop-self.invariant.ended
