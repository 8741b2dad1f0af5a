-- What the verdict says of an accepted edit; the limits are numbers of 64 bits.
use Rattle.std.specs.Prelude.{◌≡◌, ℕ, ◌+◌, length, ◌<◌, ◌≤◌, ◌^◌, Option, Some, None, IfSome, unwrap_or}
use Rattle.std.proofs.Common.{arith, ap, sym, subst, ◌∙◌, refl}
use Rattle.history.specs.Accepted.{accepted, journal_size}
use Rattle.history.specs.After.{after_record}
use Rattle.history.specs.Awaited.{pending_days}
use Rattle.history.specs.Legal.{IsLegal}
use Rattle.history.specs.Verdicts.{with_record}
use Rattle.history.proofs.LegalLemmas.{legal_accepted}
use Rattle.records.specs.Sheets.{Record}
use Rattle.history.proofs.VerdictLemmas.{accepted_parts}
use Rattle.office_inputs.specs.declared.limits.Limits.{Limits}
use Rattle.register.specs.Registered.{Registered}
use Rattle.register.proofs.registers.Register.accept.Goals as goal

counted_bytes : (told : Option ℕ) (other size : ℕ) → IfSome told (λ bytes. bytes ≡ size) → (told ≡ None → 2 ^ 64 ≤ size) → size < 2 ^ 64 → unwrap_or told other ≡ size
counted_bytes (Some bytes) other size h most small = h
counted_bytes None other size h most small = let large = most refl in absurd (omega (arith, large))

pub take_in-requires-clause-events : goal.take_in-requires-clause-events
take_in-requires-clause-events c =
    let told = ap (λ (l : Limits). l.events) c.limits.ensures ∙ ap (λ (r : Registered). r.history.limits.events) c.self.view_is in
    let small : c.args.self.now.history.limits.events < 2 ^ 64 = omega (arith, told) in
    let parts = subst (λ (p : Record). length c.args.self.now.history.events + 1 + length (pending_days (with_record c.args.self.now.history p)) ≤ c.args.self.now.history.limits.events)
    (sym c.requires.made) (accepted_parts c.args.self.now.history c.args.piece.edit c.requires.verdict).events in
    omega (arith, small, parts)

pub take_in-requires-clause-legal : goal.take_in-requires-clause-legal
take_in-requires-clause-legal c =
    let legal = subst (λ (r : Registered). IsLegal r.history) c.self.view_is c.self.invariant.legal in
    let opened : c.self.inside.opened ≡ c.args.self.now.history.opened = ap (λ (r : Registered). r.history.opened) c.self.view_is in
    subst (λ n. IsLegal (after_record n c.args.self.now.history c.args.piece)) (sym opened)
    (subst (λ (p : Record). IsLegal (after_record c.args.self.now.history.opened c.args.self.now.history p)) (sym c.requires.made)
    (legal_accepted c.args.self.now.history c.args.piece.edit legal c.requires.verdict))

pub take_in-requires-clause-lawful : goal.take_in-requires-clause-lawful
take_in-requires-clause-lawful c = (accepted_parts c.args.self.now.history c.args.piece.edit c.requires.verdict).stations

pub take_in-requires-clause-bytes : goal.take_in-requires-clause-bytes
take_in-requires-clause-bytes c =
    let told = ap (λ (l : Limits). l.journal_bytes) c.limits.ensures ∙ ap (λ (r : Registered). r.history.limits.journal_bytes) c.self.view_is in
    let small : c.args.self.now.history.limits.journal_bytes < 2 ^ 64 = omega (arith, told) in
    let parts = subst (λ (p : Record). journal_size c.args.self.now.history.format (accepted (with_record c.args.self.now.history p)) ≤ c.args.self.now.history.limits.journal_bytes)
    (sym c.requires.made) (accepted_parts c.args.self.now.history c.args.piece.edit c.requires.verdict).journal in
    c.unwrap_or-bytes.ensures
    ∙ counted_bytes c.journal_after.result 18446744073709551615 (journal_size c.args.self.now.history.format (accepted (with_record c.args.self.now.history c.args.piece)))
    c.journal_after.ensures.counted c.journal_after.ensures.most (omega (arith, small, parts))
