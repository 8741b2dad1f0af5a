use Rattle.std.specs.Prelude.{OnOk, Result, Ok, Err}
use Rattle.std.proofs.Common.{List, ℕ, ap, ◌∙◌, sym, ◌==◌, cond, Some}
use Rattle.register.specs.References.{Placed, place_at}
use Rattle.register.proofs.PlaceLemmas.{place_found}
use Rattle.register.proofs.references.References.keep.Goals as goal
use Rattle.register.proofs.references.References.keep.Goals.{in-Ok-insert, in-Err}

on_ok : {A E : Type 0} {P : Type 0} (r : Result A E) → P → OnOk r P
on_ok (Ok a) p = p
on_ok (Err e) p = tt

pub returns-clause-places : goal.returns-clause-places
returns-clause-places c =
    let same = c.in-Ok.ensures.1 in
    let old = λ (other : ℕ). place_found other c.self.inside.places.entries ∙ ap (λ (l : List Placed). place_at l other) c.self.view_is in
    elim c.match-insert.branch [
      | in-Ok-insert w ↦ on_ok c.match-insert.result (λ other.
          sym (place_found other c.insert.new.self.entries) ∙ w.in-Ok-insert.ensures.updates.0 other
          ∙ ap (λ o. cond (c.args.key == other) (Some c.in-Ok.place) o) (old other)
          ∙ ap (λ p. cond (c.args.key == other) (Some p) (place_at c.args.self.now other)) same)
      | in-Err w ↦ rw w.result-is tt
    ]
