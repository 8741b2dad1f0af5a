use Rattle.std.proofs.Common.{List, ℕ, [], ◌∷◌, ◌++◌, sym, subst, ap, refl, ◌∙◌}
use Rattle.std.specs.Prelude.{IsSome}
use Rattle.records.proofs.SheetLemmas.{kept_has_next, next_kept, some_mapped}
use Rattle.records.proofs.sheet_drafts.list_from.Goals as goal

pub unwrap-requires : goal.unwrap-requires
unwrap-requires c =
    some_mapped _ c.sheet_of.result
    (subst IsSome (sym c.sheet_of.ensures) (kept_has_next c.args.count c.loop.counter c.args.bytes.now c.loop.rest.now c.loop.texts.items c.loop-test.true c.loop.invariant))

pub loop-preserved : goal.loop-preserved
loop-preserved c =
    next_kept c.args.count c.loop.counter c.args.bytes.now c.loop.rest.now c.unwrap.result.0.now c.unwrap.result.1.now c.loop.texts.items c.push.new.self.items c.loop-test.true c.loop.invariant
    (sym c.sheet_of.ensures ∙ rw c.unwrap.ensures refl)
    (c.in_ok-push.ensures.items ∙ ap (λ (text : List ℕ). c.loop.texts.items ++ text ∷ []) c.in_ok-text_from.ensures)
