-- An office that is opened has no fault to count.
use Rattle.std.specs.Prelude.{ℕ, List, Option}
use Rattle.std.proofs.Common.{subst, sym}
use Rattle.history.specs.Events.{History}
use Rattle.office.proofs.CountLemmas.{opened_counted}
use Rattle.office.specs.Counting.{HasCounted}
use Rattle.office.specs.Openings.{IsOpened}
use Rattle.office_inputs.specs.declared.limits.Limits.{Limits}
use Rattle.register.specs.Registered.{Registered}

pub counted : (content : Option (List ℕ)) (limits : Limits) (r : Registered) (count : ℕ) → IsOpened content limits r → HasCounted r.history count
counted content limits r count opened = subst (λ (h : History). HasCounted h count) (sym opened.reopened) (opened_counted limits r.history.format opened.pieces count)
