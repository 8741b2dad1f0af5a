use Rattle.std.proofs.Common.{◌≡◌, ◌⊎◌, ℕ, ◌<◌, ◌≤◌, List, ◌++◌, length, drop, sym, ap, ◌∙◌, subst, arith, inl, inr, ⊎_elim}
use Rattle.wire.specs.declared.limits.TheConstants.{BLOCK_BYTES}
use Rattle.wire.specs.Framing.{body_length}
use Rattle.wire.specs.Incoming.{Held, IsNeeded}
use Rattle.wire.specs.Looking.{PassesBytes, PassesWhole, MovesBy}
use Rattle.wire.proofs.IncomingLemmas.{told_maps}
use Rattle.wire.proofs.PassingLemmas.{awaits_ahead, needed_rest, passes_whole, ended_rest}
use Rattle.wire.proofs.incoming.Incoming.pass.Goals as goal

pub returns-clause-passed : goal.returns-clause-passed
returns-clause-passed g c = λ head at.
    let old = c.args.self.now in
    let mid = c.skip.new.self in
    let new = c.pass_bytes.new.self in
    let found = c.args.head in
    let ahead : mid.ahead ≡ drop found.len old.ahead = ap (λ (h : Held). h.ahead) c.skip.ensures in
    let moved : MovesBy (body_length found.frame) mid c.pass_bytes.result new =
    subst (λ (n : ℕ). MovesBy n mid c.pass_bytes.result new) c.length_of.ensures c.pass_bytes.ensures.moved in
    told_maps (g.S.Source.left c.args.source.now) (g.S.Source.left c.pass_bytes.new.source)
    (λ b a. PassesBytes c.length_of.result (mid.ahead ++ b) mid.offset c.args.body.now c.pass_bytes.result c.pass_bytes.new.text (new.ahead ++ a) a)
    (λ b a. PassesWhole head (old.ahead ++ b) old.offset c.args.body.now c.pass_bytes.result c.pass_bytes.new.text (new.ahead ++ a) a new.offset)
    (λ b a p.
    passes_whole old.ahead b old.offset found head at mid new (ap (λ (h : Held). h.offset) c.skip.ensures) c.pass_bytes.result
    c.args.body.now c.pass_bytes.new.text (new.ahead ++ a) a
    (subst (λ (xs : List ℕ). PassesBytes (body_length found.frame) (xs ++ b) mid.offset c.args.body.now c.pass_bytes.result c.pass_bytes.new.text (new.ahead ++ a) a) ahead
    (subst (λ (n : ℕ). PassesBytes n (mid.ahead ++ b) mid.offset c.args.body.now c.pass_bytes.result c.pass_bytes.new.text (new.ahead ++ a) a) c.length_of.ensures p))
    moved)
    c.pass_bytes.ensures.passed

pub returns-clause-asked : goal.returns-clause-asked
returns-clause-asked g c =
    let old = c.args.self.now in
    let found = c.args.head in
    let head = c.requires.0 in
    let at = c.requires.1 in
    let ahead : c.skip.new.self.ahead ≡ drop found.len old.ahead = ap (λ (h : Held). h.ahead) c.skip.ensures in
    ⊎_elim (λ same. inl same)
    (λ short. inr (awaits_ahead old.ahead found head at (omega (arith, short, ap length ahead, c.length_of.ensures))))
    c.pass_bytes.ensures.asked

pub returns-clause-needed : goal.returns-clause-needed
returns-clause-needed g c =
    let old = c.args.self.now in
    let found = c.args.head in
    let head = c.requires.0 in
    let at = c.requires.1 in
    let mid = c.skip.new.self in
    let ahead : mid.ahead ≡ drop found.len old.ahead = ap (λ (h : Held). h.ahead) c.skip.ensures in
    told_maps (g.S.Source.left c.args.source.now) (g.S.Source.left c.pass_bytes.new.source)
    (λ b a. (b ≡ a)
    ⊎ ((seen : List ℕ) × (piece : List ℕ) × (mid.ahead ++ b ≡ seen ++ (piece ++ a)) × (length seen < c.length_of.result)
    × (length piece ≤ BLOCK_BYTES)))
    (λ b a. (b ≡ a) ⊎ IsNeeded (old.ahead ++ b) a)
    (λ b a p.
    ⊎_elim (λ same. inl same)
    (λ needed. inr (needed_rest old.ahead b needed.0 needed.1 a found head at
    (ap (λ (xs : List ℕ). xs ++ b) (sym ahead) ∙ needed.2) (omega (arith, needed.3, c.length_of.ensures)) needed.4))
    p)
    c.pass_bytes.ensures.needed

pub returns-clause-ended : goal.returns-clause-ended
returns-clause-ended g c =
    let old = c.args.self.now in
    let ahead : c.skip.new.self.ahead ≡ drop c.args.head.len old.ahead = ap (λ (h : Held). h.ahead) c.skip.ensures in
    ended_rest old.ahead c.skip.new.self.ahead c.args.head c.requires.0 c.requires.1 ahead c.length_of.result c.length_of.ensures
    (g.S.Source.left c.args.source.now) _ _ c.pass_bytes.ensures.ended
