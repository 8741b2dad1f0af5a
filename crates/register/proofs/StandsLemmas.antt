-- The statuses that are kept tell how each day stands, also after an edit was accepted.
use Rattle.std.specs.Prelude.{◌≡◌, ℕ, ◌+◌, Bool, true, false, not, ◌&&◌, cond, List, [], ◌∷◌, ◌++◌, length, ℤ}
use Rattle.std.proofs.Common.{refl, ap, sym, ◌∙◌}
use Rattle.approval.specs.Kept.{KeptSite, standing_in}
use Rattle.approval.specs.Statuses.{Standing, after_what, standing_after}
use Rattle.day_cells.specs.Days.{contains_day}
use Rattle.edits.specs.declared.content.Edit.{Edit}
use Rattle.fixed_units.specs.Quantities.{SiteNumber, same_site}
use Rattle.history.specs.Accepted.{accepted, changes, stations_at}
use Rattle.history.specs.Events.{Event, Accepted}
use Rattle.history.proofs.StandingLemmas.{standing_accepted}
use Rattle.office_inputs.specs.Changes.{keeps_day, changed_days}
use Rattle.records.specs.Sheets.{Record}
use Rattle.register.specs.Keeping.{TellsStatuses}
use Rattle.register.proofs.TellsLemmas.{contained}

-- what an accepted edit of a number, which changes these days, makes of the statuses that are kept
abbrev pub Stands : List KeptSite → List KeptSite → ℕ → Edit → List ℤ → Type 0
Stands old new number edit days = (site : SiteNumber) (day : ℤ) → standing_in new site day ≡ standing_after number edit (contains_day days day) site day (standing_in old site day)

-- of its own site a day is changed where it is among the changed days, and of another the edit makes nothing
by_site : (number : ℕ) (edit : Edit) (own listed kept : Bool) (day : ℤ) (s : Standing) → listed ≡ not kept
    → cond own (after_what number edit.by edit.what listed day s) s ≡ cond own (after_what number edit.by edit.what (own && not kept) day s) s
by_site number edit true listed kept day s e = ap (λ b. after_what number edit.by edit.what b day s) e
by_site number edit false listed kept day s e = refl

pub told_standings : (events : List Event) (old new : List KeptSite) → TellsStatuses events old → (piece : Record) (number : ℕ)
    → number ≡ length (accepted events) + 1 → Stands old new number piece.edit (changed_days (stations_at events) piece.edit)
    → TellsStatuses (events ++ Accepted piece ∷ []) new
told_standings events old new told piece number n stands site day k =
    let stations = stations_at events in
    let edit = piece.edit in
    stands site day
    ∙ by_site number edit (same_site edit.site site) (contains_day (changed_days stations edit) day) (keeps_day stations edit day) day (standing_in old site day)
    (contained (λ d. not (keeps_day stations edit d)) day k)
    ∙ ap (λ m. standing_after m edit (changes stations edit site day) site day (standing_in old site day)) n
    ∙ ap (standing_after (length (accepted events) + 1) edit (changes stations edit site day) site day) (told site day k)
    ∙ sym (standing_accepted events piece site day)
