use Rattle.std.specs.Prelude.{◌≡◌, ℤ, List, Option, Some, None, option_map}
use Rattle.std.proofs.Common.{refl, ap, ◌∙◌}
use Rattle.ratings.specs.Numbered.{Numbered, rows_of}
use Rattle.ratings.specs.Parts.{Part, part_of}
use Rattle.ratings.specs.Spans.{Span}
use Rattle.ratings.proofs.CuttingLemmas.{in_force_cut, parts_are}
use Rattle.ratings.proofs.laws.parts_stand_for_periods.Goals as goal

pub returns-clause-part : goal.returns-clause-part
returns-clause-part c = in_force_cut

rating_through : (lo hi : ℤ) (tables : List Numbered) (o : Option Span)
    → option_map (λ (p : Part). p.rating) (option_map (part_of lo hi tables) o) ≡ option_map (λ (p : Span). p.rating) o
rating_through lo hi tables None = refl
rating_through lo hi tables (Some p) = refl

rows_through : (lo hi : ℤ) (tables : List Numbered) (o : Option Span)
    → option_map (λ (p : Part). p.rows) (option_map (part_of lo hi tables) o) ≡ option_map (λ (p : Span). rows_of p.rating tables) o
rows_through lo hi tables None = refl
rows_through lo hi tables (Some p) = refl

pub returns-clause-rating : goal.returns-clause-rating
returns-clause-rating c =
    λ lo hi at tables periods h k. ap (option_map (λ (p : Part). p.rating)) (in_force_cut lo hi at tables periods h k) ∙ rating_through lo hi tables _

pub returns-clause-rows : goal.returns-clause-rows
returns-clause-rows c =
    λ lo hi at tables periods h k. ap (option_map (λ (p : Part). p.rows)) (in_force_cut lo hi at tables periods h k) ∙ rows_through lo hi tables _

pub returns-clause-kept : goal.returns-clause-kept
returns-clause-kept c = parts_are
