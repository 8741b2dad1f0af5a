use Rattle.std.proofs.Common.{◌≡◌, ◌++◌, ℕ, List, false, None, Err, ap, ◌∙◌, subst, arith}
use Rattle.std.specs.Option.{ok_or}
use Rattle.edit_bodies.proofs.TextLemmas.{name-told, kept_if-found}
use Rattle.edit_bodies.proofs.grammars.own_name.Goals as goal
use Rattle.edit_bodies.specs.Answers.{IsFound}
use Rattle.edit_bodies.specs.Grammars.{kept_if}
use Rattle.edit_bodies.specs.Texts.{is_name}
use Rattle.edit_bodies.specs.declared.faults.BodyFault.TheVariants.{Body}
use Rattle.edits.specs.Texts.{IsName}

pub returns-then-not-is_name-clause-read : goal.returns-then-not-is_name-clause-read
returns-then-not-is_name-clause-read c =
    let no : c.is_name.result ≡ false = grind arith in
    let other : IsName c.as_bytes.result.now → ⊥ = λ named. let yes = c.is_name.ensures.1 named in absurd cc in
    subst (λ (t : List ℕ). IsFound c.args.member (kept_if is_name t) (Err (Body c.args.member))) c.as_bytes.ensures.value
    (kept_if-found c.args.member is_name (IsName c.as_bytes.result.now) c.as_bytes.result.now None (name-told _) (λ e. absurd cc, λ named. absurd (other named)) tt)

pub returns-in-Ok-clause-read : goal.returns-in-Ok-clause-read
returns-in-Ok-clause-read c =
    let own : c.push_slice.new.self ≡ c.args.text.now =
    c.in-Ok.ensures.ok ∙ ap (λ (t : List ℕ). t ++ c.as_bytes-2.result.now) c.new-own.ensures ∙ c.as_bytes-2.ensures.value in
    rw c.ok_or.ensures.value
    (subst (λ (t : List ℕ). IsFound c.args.member (kept_if is_name t) (ok_or c.new.result (Body c.args.member))) own
    (kept_if-found c.args.member is_name (IsName c.push_slice.new.self) c.push_slice.new.self c.new.result (name-told _) c.new.ensures.range c.new.ensures.value))
