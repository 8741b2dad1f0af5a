-- The next record is the one in its place, or another.
use Rattle.std.proofs.Common.{◌≡◌, ◌≢◌, Bool, ◌∷◌, ◌++◌, [], Some, is_some, sym, ◌∙◌, ap, subst}
use Rattle.std.proofs.lemmas.Bool.{false≢true}
use Rattle.std.proofs.lemmas.Option.{slice_get-get_or}
use Rattle.std.specs.Prelude.{slice_get}
use Rattle.migration.proofs.MatchLemmas.{is_other, is_past, one_differs, one_matched, still_differs}
use Rattle.migration.specs.Matching.{IsMatched}
use Rattle.migration.proofs.matching.Match.with_next.Goals as goal

pub returns-then-self-clause-matched : goal.returns-then-self-clause-matched
returns-then-self-clause-matched c copied matched =
    let records = c.args.records.now in
    let same = c.args.self.same in
    let piece = c.args.piece.now in
    subst (λ (b : Bool). IsMatched b same records (copied ++ piece ∷ [])) (sym c.if-self.true)
    (still_differs records copied same piece (subst (λ (b : Bool). IsMatched b same records copied) c.if-self.true matched))

pub returns-in-Some-clause-matched : goal.returns-in-Some-clause-matched
returns-in-Some-clause-matched c copied matched =
    let records = c.args.records.now in
    let same = c.args.self.same in
    let piece = c.args.piece.now in
    let kept = c.in-Some.record.now in
    let lookup = c.in-Some.ensures.lookup.3 in
    let there : slice_get records same ≡ Some piece =
    slice_get-get_or records same kept lookup.0 ∙ ap Some (sym (lookup.1 kept) ∙ c.is_same.ensures.0 c.if-is_same.true) in
    one_matched records copied same piece (subst (λ (b : Bool). IsMatched b same records copied) c.if-self.false matched) there

pub returns-in_default-clause-matched : goal.returns-in_default-clause-matched
returns-in_default-clause-matched c copied matched =
    let records = c.args.records.now in
    let same = c.args.self.same in
    let piece = c.args.piece.now in
    let kept = c.in-Some.record.now in
    let lookup = c.in-Some.ensures.lookup.3 in
    let there : slice_get records same ≡ Some kept = slice_get-get_or records same kept lookup.0 ∙ ap Some (sym (lookup.1 kept)) in
    let other : kept ≢ piece = λ e. absurd (false≢true (sym c.if-is_same.false ∙ c.is_same.ensures.1 e)) in
    one_differs records copied same piece (subst (λ (b : Bool). IsMatched b same records copied) c.if-self.false matched)
    (is_other records same kept piece there other)

pub returns-in_default-2-clause-matched : goal.returns-in_default-2-clause-matched
returns-in_default-2-clause-matched c copied matched =
    let records = c.args.records.now in
    let same = c.args.self.same in
    let piece = c.args.piece.now in
    one_differs records copied same piece (subst (λ (b : Bool). IsMatched b same records copied) c.if-self.false matched)
    (is_past records same piece (λ lt. false≢true (ap is_some (sym c.in_default.is) ∙ c.get.ensures.lookup.2 lt)))
