use Rattle.std.proofs.Common.{◌≡◌, ◌⊎◌, ℕ, ◌+◌, ◌^◌, ◌≤◌, List, [], ◌++◌, length, take, refl, sym, ap, ◌∙◌, subst, arith, append-nil, inl, inr, ⊎_elim}
use Rattle.wire.specs.Incoming.{Held, IsNext, AwaitsHead, IsUnsettled, IsNeeded, IsStopped}
use Rattle.wire.proofs.IncomingLemmas.{told_self, told_maps, told_joins, blank_unsettled, ended_behind, ended_never, ended_joins, was_unsettled, stopped_ahead, needed_unread, needed_ahead, within_rest, rest_same, within_behind, needed_unsettled}
use Rattle.wire.proofs.incoming.Incoming.next.Goals as goal

pub loop-head-init : goal.loop-head-init
loop-head-init g c = record {
  offset = refl;
  rest =
      told_self (g.S.Source.left c.args.source.now)
      (λ b a. c.args.self.now.ahead ++ b ≡ c.args.self.now.ahead ++ a) (λ b. refl);
  looked = omega arith;
  unsettled = blank_unsettled [] refl;
  counted = omega arith;
  ended = refl;
  asked = inl (refl, refl);
}

pub look-requires-clause-unsettled : goal.look-requires-clause-unsettled
look-requires-clause-unsettled g c =
    subst (λ xs. AwaitsHead (take c.loop-head.looked xs)) (sym c.held.ensures.held) c.loop-head.invariant.unsettled

pub returns-in-Blank-clause-answer : goal.returns-in-Blank-clause-answer
returns-in-Blank-clause-answer g c =
    let old = c.args.self.now in
    let now = c.loop-head.self in
    let new = c.skip_blank.new.self in
    told_joins (g.S.Source.left c.args.source.now) (g.S.Source.left c.loop-head.source) (g.S.Source.left c.skip_blank.new.source)
    (λ b m. old.ahead ++ b ≡ now.ahead ++ m)
    (λ m a. IsNext (now.ahead ++ m) now.offset c.skip_blank.result (new.ahead ++ a) a new.offset)
    (λ b a. IsNext (old.ahead ++ b) old.offset c.skip_blank.result (new.ahead ++ a) a new.offset)
    (λ b m a p q.
    subst (λ (xs : List ℕ). IsNext xs old.offset c.skip_blank.result (new.ahead ++ a) a new.offset) (sym p)
    (subst (λ (n : ℕ). IsNext (now.ahead ++ m) n c.skip_blank.result (new.ahead ++ a) a new.offset)
    c.loop-head.invariant.offset q))
    c.loop-head.invariant.rest c.skip_blank.ensures.answer

pub loop-head-preserved : goal.loop-head-preserved
loop-head-preserved g c =
    let old = c.args.self.now in
    let now = c.loop-head.self in
    let new = c.fill.new.self in
    let grown = c.in-More.ensures.filled in
    let awaits : AwaitsHead now.ahead = subst AwaitsHead c.held.ensures.held c.in-Unfinished.ensures.1 in
    let front : take (length c.held-looked.result.now) new.ahead ≡ now.ahead =
    ap (λ (xs : List ℕ). take (length xs) new.ahead) c.held-looked.ensures.held ∙ grown.front in record {
      offset = grown.offset ∙ c.loop-head.invariant.offset;
      rest =
          told_joins (g.S.Source.left c.args.source.now) (g.S.Source.left c.loop-head.source) (g.S.Source.left c.fill.new.source)
          (λ b m. old.ahead ++ b ≡ now.ahead ++ m) (λ m a. now.ahead ++ m ≡ new.ahead ++ a)
          (λ b a. old.ahead ++ b ≡ new.ahead ++ a) (λ b m a p q. p ∙ q)
          c.loop-head.invariant.rest c.in-More.ensures.kept;
      looked = omega (arith, ap length c.held-looked.ensures.held, grown.more);
      unsettled = subst AwaitsHead (sym front) awaits;
      counted = omega (arith, c.loop-head.invariant.counted, c.fill.ensures.bounds.counted);
      ended = c.in-More.ensures.ended ∙ c.loop-head.invariant.ended;
      asked = inr (was_unsettled old.ahead now.ahead _ (inl awaits) c.loop-head.invariant.asked);
    }

pub last-requires : goal.last-requires
last-requires g c =
    let awaits : AwaitsHead c.loop-head.self.ahead = subst AwaitsHead c.held.ensures.held c.in-Unfinished.ensures.1 in
    subst (λ (h : Held). AwaitsHead h.ahead) (sym c.in-End.ensures.filled) awaits

pub returns-in-End-clause-cause : goal.returns-in-End-clause-cause
returns-in-End-clause-cause g c = c.last.ensures.cause _ _

pub returns-in-Long-clause-answer : goal.returns-in-Long-clause-answer
returns-in-Long-clause-answer g c =
    let old = c.args.self.now in
    let now = c.loop-head.self in
    let new = c.fill.new.self in
    let awaits : AwaitsHead now.ahead = subst AwaitsHead c.held.ensures.held c.in-Unfinished.ensures.1 in
    let count : old.offset + length now.ahead ≡ 2 ^ 36 =
    sym (ap (λ (n : ℕ). n + length now.ahead) c.loop-head.invariant.offset) ∙ c.in-Long.ensures.filled.1 in
    let stays = λ (a : List ℕ). ap (λ (h : Held). h.ahead ++ a) c.in-Long.ensures.filled.0 in
    let moved : new.offset ≡ old.offset = ap (λ (h : Held). h.offset) c.in-Long.ensures.filled.0 ∙ c.loop-head.invariant.offset in
    told_joins (g.S.Source.left c.args.source.now) (g.S.Source.left c.loop-head.source) (g.S.Source.left c.fill.new.source)
    (λ b m. old.ahead ++ b ≡ now.ahead ++ m) (λ m a. a ≡ m)
    (λ b a.
    (seen : List ℕ) × IsStopped (old.ahead ++ b) old.offset seen (new.ahead ++ a) a new.offset × (old.offset + length seen ≡ 2 ^ 36))
    (λ b m a p q.
    let stopped = stopped_ahead (old.ahead ++ b) now.ahead (new.ahead ++ a) a m old.offset new.offset p q (inl awaits) (stays a) moved in
    (now.ahead, stopped, count))
    c.loop-head.invariant.rest c.in-Long.ensures.kept

pub returns-in-Failed-clause-answer : goal.returns-in-Failed-clause-answer
returns-in-Failed-clause-answer g c =
    let old = c.args.self.now in
    let now = c.loop-head.self in
    let new = c.fill.new.self in
    let awaits : AwaitsHead now.ahead = subst AwaitsHead c.held.ensures.held c.in-Unfinished.ensures.1 in
    let stays = λ (a : List ℕ). ap (λ (h : Held). h.ahead ++ a) c.in-Failed.ensures.filled in
    let moved : new.offset ≡ old.offset = ap (λ (h : Held). h.offset) c.in-Failed.ensures.filled ∙ c.loop-head.invariant.offset in
    told_joins (g.S.Source.left c.args.source.now) (g.S.Source.left c.loop-head.source) (g.S.Source.left c.fill.new.source)
    (λ b m. old.ahead ++ b ≡ now.ahead ++ m) (λ m a. a ≡ m)
    (λ b a. (seen : List ℕ) × IsStopped (old.ahead ++ b) old.offset seen (new.ahead ++ a) a new.offset)
    (λ b m a p q.
    let stopped = stopped_ahead (old.ahead ++ b) now.ahead (new.ahead ++ a) a m old.offset new.offset p q (inl awaits) (stays a) moved in
    (now.ahead, stopped))
    c.loop-head.invariant.rest c.in-Failed.ensures.kept

pub returns-in-Malformed-clause-within : goal.returns-in-Malformed-clause-within
returns-in-Malformed-clause-within g c =
    let old = c.args.self.now in
    let now = c.loop-head.self in
    let limit : old.offset + length now.ahead ≤ 2 ^ 36 = omega (arith, c.held.ensures.limit, c.loop-head.invariant.offset) in
    told_maps (g.S.Source.left c.args.source.now) (g.S.Source.left c.loop-head.source)
    (λ b m. old.ahead ++ b ≡ now.ahead ++ m) (λ b a. old.offset + length (old.ahead ++ b) ≤ 2 ^ 36 + length a)
    (λ b a p. within_rest old.offset (old.ahead ++ b) now.ahead a p limit)
    c.loop-head.invariant.rest

pub returns-in-Blank-clause-within : goal.returns-in-Blank-clause-within
returns-in-Blank-clause-within g c =
    let old = c.args.self.now in
    let now = c.loop-head.self in
    told_joins (g.S.Source.left c.args.source.now) (g.S.Source.left c.loop-head.source) (g.S.Source.left c.skip_blank.new.source)
    (λ b m. old.ahead ++ b ≡ now.ahead ++ m) (λ m a. now.offset + length (now.ahead ++ m) ≤ 2 ^ 36 + length a)
    (λ b a. old.offset + length (old.ahead ++ b) ≤ 2 ^ 36 + length a)
    (λ b m a p q. let same : length (old.ahead ++ b) ≡ length (now.ahead ++ m) = ap length p in
    omega (arith, q, same, c.loop-head.invariant.offset))
    c.loop-head.invariant.rest c.skip_blank.ensures.within

pub returns-in-End-clause-within : goal.returns-in-End-clause-within
returns-in-End-clause-within g c =
    let old = c.args.self.now in
    let now = c.loop-head.self in
    let limit : old.offset + length now.ahead ≤ 2 ^ 36 = omega (arith, c.held.ensures.limit, c.loop-head.invariant.offset) in
    told_joins (g.S.Source.left c.args.source.now) (g.S.Source.left c.loop-head.source) (g.S.Source.left c.fill.new.source)
    (λ b m. old.ahead ++ b ≡ now.ahead ++ m) (λ m a. (m ≡ []) × (a ≡ []))
    (λ b a. old.offset + length (old.ahead ++ b) ≤ 2 ^ 36 + length a)
    (λ b m a p q. within_rest old.offset (old.ahead ++ b) now.ahead a (p ∙ ap (λ (xs : List ℕ). now.ahead ++ xs) (q.0 ∙ sym q.1)) limit)
    c.loop-head.invariant.rest c.in-End.ensures.kept

pub returns-in-Long-clause-within : goal.returns-in-Long-clause-within
returns-in-Long-clause-within g c =
    let old = c.args.self.now in
    let now = c.loop-head.self in
    let left = g.S.Source.left in
    within_behind old.ahead [] now.ahead (left c.args.source.now) (left c.fill.new.source) old.offset now.offset
    (omega (arith, c.loop-head.invariant.offset)) c.held.ensures.limit
    (rest_same old.ahead [] now.ahead (left c.args.source.now) (left c.loop-head.source) (left c.fill.new.source) c.loop-head.invariant.rest c.in-Long.ensures.kept)

pub returns-in-Failed-clause-within : goal.returns-in-Failed-clause-within
returns-in-Failed-clause-within g c =
    let old = c.args.self.now in
    let now = c.loop-head.self in
    let left = g.S.Source.left in
    within_behind old.ahead [] now.ahead (left c.args.source.now) (left c.fill.new.source) old.offset now.offset
    (omega (arith, c.loop-head.invariant.offset)) c.held.ensures.limit
    (rest_same old.ahead [] now.ahead (left c.args.source.now) (left c.loop-head.source) (left c.fill.new.source) c.loop-head.invariant.rest c.in-Failed.ensures.kept)

pub returns-in-Malformed-clause-asked : goal.returns-in-Malformed-clause-asked
returns-in-Malformed-clause-asked g c = ⊎_elim (λ same. inl same.0) (λ unsettled. inr unsettled) c.loop-head.invariant.asked

pub returns-in-Malformed-clause-needed : goal.returns-in-Malformed-clause-needed
returns-in-Malformed-clause-needed g c =
    let old = c.args.self.now in
    let now = c.loop-head.self in
    told_maps (g.S.Source.left c.args.source.now) (g.S.Source.left c.loop-head.source)
    (λ b m. old.ahead ++ b ≡ now.ahead ++ m) (λ b a. IsNeeded (old.ahead ++ b) a)
    (λ b a p. needed_ahead (old.ahead ++ b) now.ahead a c.loop-head.looked p c.loop-head.invariant.unsettled c.held.ensures.block)
    c.loop-head.invariant.rest

pub returns-in-Blank-clause-asked : goal.returns-in-Blank-clause-asked
returns-in-Blank-clause-asked g c =
    let old = c.args.self.now in
    let now = c.loop-head.self in
    ⊎_elim
    (λ first.
    ⊎_elim
    (λ same. inl (same ∙ first.0))
    (λ blank. inr (subst IsUnsettled first.1 (inl (blank_unsettled now.ahead blank))))
    c.skip_blank.ensures.asked)
    (λ unsettled. inr unsettled)
    c.loop-head.invariant.asked

pub returns-in-Blank-clause-needed : goal.returns-in-Blank-clause-needed
returns-in-Blank-clause-needed g c =
    let old = c.args.self.now in
    let now = c.loop-head.self in
    told_joins (g.S.Source.left c.args.source.now) (g.S.Source.left c.loop-head.source) (g.S.Source.left c.skip_blank.new.source)
    (λ b m. old.ahead ++ b ≡ now.ahead ++ m) (λ m a. IsNeeded (now.ahead ++ m) a) (λ b a. IsNeeded (old.ahead ++ b) a)
    (λ b m a p q. subst (λ (xs : List ℕ). IsNeeded xs a) (sym p) q)
    c.loop-head.invariant.rest c.skip_blank.ensures.needed

pub returns-in-End-clause-asked : goal.returns-in-End-clause-asked
returns-in-End-clause-asked g c =
    let now = c.loop-head.self in
    let awaits : AwaitsHead now.ahead = subst AwaitsHead c.held.ensures.held c.in-Unfinished.ensures.1 in
    inr (was_unsettled c.args.self.now.ahead now.ahead _ (inl awaits) c.loop-head.invariant.asked)

pub returns-in-End-clause-needed : goal.returns-in-End-clause-needed
returns-in-End-clause-needed g c =
    let old = c.args.self.now in
    let now = c.loop-head.self in
    let awaits : AwaitsHead now.ahead = subst AwaitsHead c.held.ensures.held c.in-Unfinished.ensures.1 in
    told_joins (g.S.Source.left c.args.source.now) (g.S.Source.left c.loop-head.source) (g.S.Source.left c.fill.new.source)
    (λ b m. old.ahead ++ b ≡ now.ahead ++ m) (λ m a. (m ≡ []) × (a ≡ [])) (λ b a. IsNeeded (old.ahead ++ b) a)
    (λ b m a p q. needed_unread (old.ahead ++ b) now.ahead a m p (q.1 ∙ sym q.0) (inl awaits))
    c.loop-head.invariant.rest c.in-End.ensures.kept

pub returns-in-Long-clause-asked : goal.returns-in-Long-clause-asked
returns-in-Long-clause-asked g c =
    let now = c.loop-head.self in
    let awaits : AwaitsHead now.ahead = subst AwaitsHead c.held.ensures.held c.in-Unfinished.ensures.1 in
    inr (was_unsettled c.args.self.now.ahead now.ahead _ (inl awaits) c.loop-head.invariant.asked)

pub returns-in-Long-clause-needed : goal.returns-in-Long-clause-needed
returns-in-Long-clause-needed g c =
    let old = c.args.self.now in
    let now = c.loop-head.self in
    let left = g.S.Source.left in
    needed_unsettled old.ahead [] now.ahead (left c.args.source.now) (left c.fill.new.source) (inl (subst AwaitsHead c.held.ensures.held c.in-Unfinished.ensures.1))
    (rest_same old.ahead [] now.ahead (left c.args.source.now) (left c.loop-head.source) (left c.fill.new.source) c.loop-head.invariant.rest c.in-Long.ensures.kept)

pub returns-in-Failed-clause-asked : goal.returns-in-Failed-clause-asked
returns-in-Failed-clause-asked g c =
    let now = c.loop-head.self in
    let awaits : AwaitsHead now.ahead = subst AwaitsHead c.held.ensures.held c.in-Unfinished.ensures.1 in
    inr (was_unsettled c.args.self.now.ahead now.ahead _ (inl awaits) c.loop-head.invariant.asked)

pub returns-in-Failed-clause-needed : goal.returns-in-Failed-clause-needed
returns-in-Failed-clause-needed g c =
    let old = c.args.self.now in
    let now = c.loop-head.self in
    let left = g.S.Source.left in
    needed_unsettled old.ahead [] now.ahead (left c.args.source.now) (left c.fill.new.source) (inl (subst AwaitsHead c.held.ensures.held c.in-Unfinished.ensures.1))
    (rest_same old.ahead [] now.ahead (left c.args.source.now) (left c.loop-head.source) (left c.fill.new.source) c.loop-head.invariant.rest c.in-Failed.ensures.kept)

pub returns-in-Malformed-clause-ended : goal.returns-in-Malformed-clause-ended
returns-in-Malformed-clause-ended g c = ended_never c.args.self.now.ahead (g.S.Source.left c.args.source.now) _ _ c.loop-head.invariant.ended

pub returns-in-Blank-clause-ended : goal.returns-in-Blank-clause-ended
returns-in-Blank-clause-ended g c =
    ended_joins c.args.self.now.ahead c.loop-head.self.ahead (g.S.Source.left c.args.source.now) (g.S.Source.left c.loop-head.source) _ _ _
    c.loop-head.invariant.ended c.loop-head.invariant.rest c.skip_blank.ensures.ended

pub returns-in-End-clause-ended : goal.returns-in-End-clause-ended
returns-in-End-clause-ended g c =
    let old = c.args.self.now in
    let now = c.loop-head.self in
    let awaits : AwaitsHead now.ahead = subst AwaitsHead c.held.ensures.held c.in-Unfinished.ensures.1 in
    let left = g.S.Source.left in
    ended_behind old.ahead now.ahead (left c.args.source.now) (left c.fill.new.source) _ _ (inl awaits)
    (told_joins (left c.args.source.now) (left c.loop-head.source) (left c.fill.new.source)
    (λ b m. old.ahead ++ b ≡ now.ahead ++ m) (λ m a. (m ≡ []) × (a ≡ [])) (λ b a. old.ahead ++ b ≡ now.ahead)
    (λ b m a p q. p ∙ ap (λ (xs : List ℕ). now.ahead ++ xs) q.0 ∙ append-nil now.ahead)
    c.loop-head.invariant.rest c.in-End.ensures.kept)

pub returns-in-Long-clause-ended : goal.returns-in-Long-clause-ended
returns-in-Long-clause-ended g c =
    ended_never c.args.self.now.ahead (g.S.Source.left c.args.source.now) _ _ (c.in-Long.ensures.ended ∙ c.loop-head.invariant.ended)

pub returns-in-Failed-clause-ended : goal.returns-in-Failed-clause-ended
returns-in-Failed-clause-ended g c =
    ended_never c.args.self.now.ahead (g.S.Source.left c.args.source.now) _ _ (c.in-Failed.ensures.ended ∙ c.loop-head.invariant.ended)

pub returns-in-Framed-clause-answer : goal.returns-in-Framed-clause-answer
returns-in-Framed-clause-answer g c =
    let old = c.args.self.now in
    let now = c.loop-head.self in
    let new = c.give.new.self in
    told_joins (g.S.Source.left c.args.source.now) (g.S.Source.left c.loop-head.source) (g.S.Source.left c.give.new.source)
    (λ b m. old.ahead ++ b ≡ now.ahead ++ m)
    (λ m a. IsNext (now.ahead ++ m) now.offset c.give.result (new.ahead ++ a) a new.offset)
    (λ b a. IsNext (old.ahead ++ b) old.offset c.give.result (new.ahead ++ a) a new.offset)
    (λ b m a p q.
    subst (λ (xs : List ℕ). IsNext xs old.offset c.give.result (new.ahead ++ a) a new.offset) (sym p)
    (subst (λ (n : ℕ). IsNext (now.ahead ++ m) n c.give.result (new.ahead ++ a) a new.offset)
    c.loop-head.invariant.offset q))
    c.loop-head.invariant.rest c.give.ensures.answer

pub returns-in-Framed-clause-within : goal.returns-in-Framed-clause-within
returns-in-Framed-clause-within g c =
    let old = c.args.self.now in
    let now = c.loop-head.self in
    told_joins (g.S.Source.left c.args.source.now) (g.S.Source.left c.loop-head.source) (g.S.Source.left c.give.new.source)
    (λ b m. old.ahead ++ b ≡ now.ahead ++ m) (λ m a. now.offset + length (now.ahead ++ m) ≤ 2 ^ 36 + length a)
    (λ b a. old.offset + length (old.ahead ++ b) ≤ 2 ^ 36 + length a)
    (λ b m a p q. let same : length (old.ahead ++ b) ≡ length (now.ahead ++ m) = ap length p in
    omega (arith, q, same, c.loop-head.invariant.offset))
    c.loop-head.invariant.rest c.give.ensures.within

pub returns-in-Framed-clause-asked : goal.returns-in-Framed-clause-asked
returns-in-Framed-clause-asked g c =
    let now = c.loop-head.self in
    ⊎_elim
    (λ first.
    ⊎_elim
    (λ same. inl (same ∙ first.0))
    (λ awaits. inr (subst IsUnsettled first.1 (inr awaits)))
    c.give.ensures.asked)
    (λ unsettled. inr unsettled)
    c.loop-head.invariant.asked

pub returns-in-Framed-clause-needed : goal.returns-in-Framed-clause-needed
returns-in-Framed-clause-needed g c =
    let old = c.args.self.now in
    let now = c.loop-head.self in
    told_joins (g.S.Source.left c.args.source.now) (g.S.Source.left c.loop-head.source) (g.S.Source.left c.give.new.source)
    (λ b m. old.ahead ++ b ≡ now.ahead ++ m) (λ m a. (m ≡ a) ⊎ IsNeeded (now.ahead ++ m) a) (λ b a. IsNeeded (old.ahead ++ b) a)
    (λ b m a p q.
    ⊎_elim
    (λ same.
    needed_ahead (old.ahead ++ b) now.ahead a c.loop-head.looked (p ∙ ap (λ (xs : List ℕ). now.ahead ++ xs) same)
    c.loop-head.invariant.unsettled c.held.ensures.block)
    (λ needed. subst (λ (xs : List ℕ). IsNeeded xs a) (sym p) needed)
    q)
    c.loop-head.invariant.rest c.give.ensures.needed

pub returns-in-Framed-clause-ended : goal.returns-in-Framed-clause-ended
returns-in-Framed-clause-ended g c =
    ended_joins c.args.self.now.ahead c.loop-head.self.ahead (g.S.Source.left c.args.source.now) (g.S.Source.left c.loop-head.source) _ _ _
    c.loop-head.invariant.ended c.loop-head.invariant.rest c.give.ensures.ended
