use Rattle.std.proofs.Common.{◌≡◌, ◌++◌, List, ℕ, true, slice_range, sym, ap, ◌∙◌, subst}
use Rattle.wire.specs.Framing.{body_length}
use Rattle.wire.specs.declared.passing.Texts.{Texts}
use Rattle.wire.specs.Incoming.{Held, IsNext, Proceeds, HasCause}
use Rattle.wire.specs.Looking.{PassesWhole, is_kept, told_as}
use Rattle.wire.proofs.IncomingLemmas.{told_maps}
use Rattle.wire.proofs.PassingLemmas.{kept_was, next_told, told_proceeds, told_cause}
use Rattle.wire.proofs.incoming.Incoming.give.Goals as goal

pub returns-clause-answer : goal.returns-clause-answer
returns-clause-answer g c =
    let old = c.args.self.now in
    let new = c.pass-passed.new.self in
    let found = c.args.head in
    let head = c.requires.0 in
    let at = c.requires.1 in
    let passed = c.pass-passed.result in
    let target = c.texts_for-texts.result.target in
    let before = c.texts_for-texts.result.body in
    let texts : Texts = record { kept = c.texts_for-texts.result.kept; target = target; body = c.pass-passed.new.body } in
    let is : c.told.result ≡ told_as passed found texts old.offset =
    c.told.ensures ∙ ap (λ (h : Held). told_as passed found texts h.offset) c.self.view_is in
    let aim = λ (k : is_kept passed ≡ true).
    c.texts_for-texts.ensures.target (kept_was c.texts_for-texts.result.kept passed c.pass-passed.ensures.kept k)
    ∙ c.of.ensures ∙ ap (λ (xs : List ℕ). slice_range xs found.target.start found.target.end) c.held.ensures.held ∙ at.target in
    told_maps (g.S.Source.left c.args.source.now) (g.S.Source.left c.pass-passed.new.source)
    (λ b a. PassesWhole head (old.ahead ++ b) old.offset before passed texts.body (new.ahead ++ a) a new.offset)
    (λ b a. IsNext (old.ahead ++ b) old.offset c.told.result (new.ahead ++ a) a new.offset)
    (λ b a p.
    subst (λ m. IsNext (old.ahead ++ b) old.offset m (new.ahead ++ a) a new.offset) (sym is)
    (next_told old.ahead b old.offset found head at passed texts (new.ahead ++ a) a new.offset aim
    (subst (λ (xs : List ℕ). PassesWhole head (old.ahead ++ b) old.offset xs passed texts.body (new.ahead ++ a) a new.offset)
    c.texts_for-texts.ensures.body p)))
    (c.pass-passed.ensures.passed head at)

pub returns-clause-proceeds : goal.returns-clause-proceeds
returns-clause-proceeds g c =
    subst (λ m. Proceeds c.args.self.now m c.pass-passed.new.self) (sym c.told.ensures)
    (told_proceeds c.args.self.now c.pass-passed.new.self c.args.head _ _ (body_length c.args.head.frame) c.pass-passed.result
    c.requires.1.positive c.pass-passed.ensures.moved)

pub returns-clause-cause : goal.returns-clause-cause
returns-clause-cause g c =
    subst (λ m. HasCause (g.S.Source.faults c.args.source.now) (g.S.Source.faults c.pass-passed.new.source) m) (sym c.told.ensures)
    (told_cause _ _ c.args.head _ _ c.pass-passed.result c.pass-passed.ensures.cause)
