use Rattle.std.specs.Prelude.{List}
use Rattle.std.proofs.Common.{ap, sym, ◌∙◌}
use Rattle.register.specs.References.{Placed, place_at}
use Rattle.register.proofs.PlaceLemmas.{place_found}
use Rattle.register.proofs.references.References.at.Goals as goal

pub returns-in_err-place : goal.returns-in_err-place
returns-in_err-place c =
    c.from_residual.ensures ∙ sym c.in_err-place.was ∙ c.copied.ensures ∙ c.get.ensures.value ∙ place_found c.args.key c.self.inside.places.entries
    ∙ ap (λ (l : List Placed). place_at l c.args.key) c.self.view_is

pub returns : goal.returns
returns c =
    sym c.in_ok-place.was ∙ c.copied.ensures ∙ c.get.ensures.value ∙ place_found c.args.key c.self.inside.places.entries
    ∙ ap (λ (l : List Placed). place_at l c.args.key) c.self.view_is
