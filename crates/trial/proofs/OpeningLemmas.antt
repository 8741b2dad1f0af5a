-- The office with which a trial begins.
use Rattle.std.proofs.Common.{◌≡◌, ℕ, List, [], ◌∷◌, Option, length, map, refl, ap, sym, ◌∙◌}
use Rattle.history.specs.After.{reopen}
use Rattle.history.specs.Events.{History, Accepted}
use Rattle.office.specs.Openings.{IsOpened}
use Rattle.office_inputs.specs.Usual.{usual}
use Rattle.office_inputs.specs.declared.limits.Limits.{Limits}
use Rattle.records.specs.Sheets.{Record}
use Rattle.records.specs.declared.formats.Format.{Format}
use Rattle.records.specs.declared.formats.Format.TheVariants.{Second}
use Rattle.register.specs.Registered.{Registered}

-- where no event came of them there were no records
none_read : (pieces : List Record) → length (map Accepted pieces) ≡ 0 → pieces ≡ []
none_read [] none = refl
none_read (piece ∷ pieces) none = absurd (cc none)

-- so an office that has no events when it is opened, on a journal of the second format, has read no records
pub new_history : (content : Option (List ℕ)) (limits : Limits) (register : Registered) → limits ≡ usual → length register.history.events ≡ 0
    → register.history.format ≡ Second → IsOpened content limits register → register.history ≡ reopen usual Second []
new_history content limits register same none format opened =
    let read : opened.pieces ≡ [] = none_read opened.pieces (ap (λ (h : History). length h.events) (sym opened.reopened) ∙ none) in
    opened.reopened ∙ ap (λ (l : Limits). reopen l register.history.format opened.pieces) same
    ∙ ap (λ (f : Format). reopen usual f opened.pieces) format ∙ ap (reopen usual Second) read
