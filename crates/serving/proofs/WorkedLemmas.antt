-- What sessions and workers add.
use Rattle.std.proofs.Common.{◌≡◌, ℕ, zero, suc, inl, inr, List, [], ◌∷◌, ◌∙◌, ap, refl, subst, sym, append-nil, Option}
use Rattle.std.specs.Prelude.{All, Result, Ok, Err, ℤ, ⊤}
use Rattle.std.specs.List.{AllByRecursion}
use Rattle.std.proofs.lemmas.List.Elements.{recursion_from_All}
use Rattle.desk.specs.Behind.{AreTurns, AreTurnsPartly, IsAnswered, IsAnsweredAtOnce, IsSettlement, IsSettlementPartly, Uses, looked_at}
use Rattle.desk.specs.Replying.{AreReplies, IsAnsweredBy, IsReplied}
use Rattle.desk.specs.Serving.{EndsIn}
use Rattle.desk.specs.declared.sessions.SessionEnd.{SessionEnd}
use Rattle.devices.specs.Doors.{Ends}
use Rattle.fixed_units.specs.Quantities.{SiteNumber}
use Rattle.history.specs.After.{publication}
use Rattle.history.specs.Events.{Event, Published}
use Rattle.http_api.specs.Asks.{Question}
use Rattle.http_api.specs.declared.asks.Ask.{Ask}
use Rattle.http_api.specs.declared.asks.Ask.TheVariants as asks
use Rattle.http_api.specs.declared.asks.Denied.{Denied}
use Rattle.serving.proofs.EventLemmas.{Adds, all_on, all_weaker}
use Rattle.shared_office.specs.Holdings.{Holding}
use Rattle.shared_office.specs.Passing.{adding}
use Rattle.shared_office.specs.Working.{AddsADay}
use Rattle.shared_office.specs.declared.entries.Entry.{Entry}
use Rattle.shared_office.specs.declared.entries.Fixed.{Fixed}
use Rattle.wire.specs.declared.messages.Message.{Message}
use Rattle.wire.specs.declared.messages.Message.TheVariants as messages

abbrev pub IsAny : Event → Type 0
IsAny event = ⊤

abbrev pub IsPublished : Event → Type 0
IsPublished event = (site : SiteNumber) × (day : ℤ) × (event ≡ Published site day)

abbrev AllAdd : List (Holding (List Entry)) → Type 0
AllAdd holdings = AllByRecursion (Adds IsAny) holdings

any_all : (added : List Event) → AllByRecursion IsAny added
any_all [] = tt
any_all (e ∷ added) = (tt, any_all added)

adding_adds : (x : Holding (List Entry)) (added : List Event) → x ≡ adding x.from added → Adds IsAny x
adding_adds x added e = (added, ap (λ (h : Holding (List Entry)). h.to) e, any_all added)

turns_add : (fixed : Fixed) (n : ℕ) (xs : List (Holding (List Entry))) → AreTurns fixed n xs → AllAdd xs
turns_add fixed zero xs a = subst AllAdd (sym a) tt
turns_add fixed (suc n) [] a = absurd a
turns_add fixed (suc n) (look ∷ []) a = (adding_adds look [] a.0, tt)
turns_add fixed (suc n) (look ∷ (p ∷ xs)) a = (adding_adds look [] a.1.0, (adding_adds p _ a.2, turns_add fixed n xs a.3))

turns_partly : (fixed : Fixed) (n : ℕ) (xs : List (Holding (List Entry))) → AreTurnsPartly fixed n xs → AllAdd xs
turns_partly fixed zero xs a = subst AllAdd (sym a) tt
turns_partly fixed (suc n) [] a = absurd a
turns_partly fixed (suc n) (look ∷ []) a = (adding_adds look [] a, tt)
turns_partly fixed (suc n) (look ∷ (p ∷ xs)) a = (adding_adds look [] a.1.0, (adding_adds p _ a.2, turns_partly fixed n xs a.3))

settlement_adds : (fixed : Fixed) (last : Option (SiteNumber × ℤ)) (xs : List (Holding (List Entry))) → IsSettlement fixed last xs → AllAdd xs
settlement_adds fixed last [] a = absurd a
settlement_adds fixed last (look ∷ []) a = (adding_adds look [] a.0, tt)
settlement_adds fixed last (look ∷ (p ∷ xs)) a = (adding_adds look [] a.1.0, (adding_adds p _ a.2, settlement_adds fixed (looked_at a.0) xs a.3))

settlement_partly : (fixed : Fixed) (last : Option (SiteNumber × ℤ)) (xs : List (Holding (List Entry))) → IsSettlementPartly fixed last xs → AllAdd xs
settlement_partly fixed last [] a = absurd a
settlement_partly fixed last (look ∷ []) a = (adding_adds look [] a, tt)
settlement_partly fixed last (look ∷ (p ∷ xs)) a = (adding_adds look [] a.1.0, (adding_adds p _ a.2, settlement_partly fixed (looked_at a.0) xs a.3))

at_once_adds : (fixed : Fixed) (ask : Ask) (reply : List ℕ) (xs : List (Holding (List Entry))) → IsAnsweredAtOnce fixed ask reply xs → AllAdd xs
at_once_adds fixed ask reply xs a = subst AllAdd (sym a.2) ((a.1, refl, any_all a.1), tt)

answered_adds : (fixed : Fixed) (ask : Ask) (reply : List ℕ) (xs : List (Holding (List Entry))) → IsAnswered fixed ask reply xs → AllAdd xs
answered_adds fixed (asks.Turns zero) reply xs a = at_once_adds fixed (asks.Turns 0) reply xs a
answered_adds fixed (asks.Turns (suc n)) reply xs a = elim a [ inl t ↦ turns_add fixed (suc n) xs t.0 | inr t ↦ turns_partly fixed (suc n) xs t.0 ]
answered_adds fixed asks.Settle reply xs a = elim a [ inl t ↦ settlement_adds fixed _ xs t.0 | inr t ↦ settlement_partly fixed _ xs t.0 ]
answered_adds fixed (asks.Edit edit) reply xs a = at_once_adds fixed (asks.Edit edit) reply xs a
answered_adds fixed (asks.Station site) reply xs a = at_once_adds fixed (asks.Station site) reply xs a
answered_adds fixed (asks.DayOf site day) reply xs a = at_once_adds fixed (asks.DayOf site day) reply xs a
answered_adds fixed (asks.SheetOf site day) reply xs a = at_once_adds fixed (asks.SheetOf site day) reply xs a
answered_adds fixed (asks.Daily site from to) reply xs a = at_once_adds fixed (asks.Daily site from to) reply xs a
answered_adds fixed (asks.Measurement site number) reply xs a = at_once_adds fixed (asks.Measurement site number) reply xs a
answered_adds fixed (asks.EditOf number) reply xs a = at_once_adds fixed (asks.EditOf number) reply xs a
answered_adds fixed asks.Counts reply xs a = at_once_adds fixed asks.Counts reply xs a

asked_adds : (fixed : Fixed) (coming : List (Holding (List Entry))) (asked : Result Question Denied) (reply : List ℕ) (rest : List (Holding (List Entry)))
    → IsAnsweredBy (Uses fixed) coming asked reply rest → AllAdd rest → AllAdd coming
asked_adds fixed coming (Ok asked) reply rest a more =
    let uses = a.2 in
    subst AllAdd (sym uses.1) (all_on (Adds IsAny) uses.0 rest (answered_adds fixed a.0 reply uses.0 uses.2) more)
asked_adds fixed coming (Err denied) reply rest a more = subst AllAdd a.1 more

replied_adds : (fixed : Fixed) (coming : List (Holding (List Entry))) (message : Message) (reply : List ℕ) (rest : List (Holding (List Entry)))
    → IsReplied (Uses fixed) coming message reply rest → AllAdd rest → AllAdd coming
replied_adds fixed coming (messages.Request verb target body) reply rest a more = elim a [
  | inl b ↦ asked_adds fixed coming _ reply rest b more
  | inr b ↦ subst AllAdd b.1 more
]
replied_adds fixed coming messages.NoLength reply rest a more = subst AllAdd a.1 more
replied_adds fixed coming messages.TooLarge reply rest a more = subst AllAdd a.1 more
replied_adds fixed coming messages.NoMemory reply rest a more = subst AllAdd a.1 more
replied_adds fixed coming messages.End reply rest a more = absurd a
replied_adds fixed coming (messages.Malformed at) reply rest a more = absurd a
replied_adds fixed coming messages.Long reply rest a more = absurd a
replied_adds fixed coming messages.Failed reply rest a more = absurd a

replies_add : (fixed : Fixed) (coming : List (Holding (List Entry))) (messages : List Message) (replies : List (List ℕ)) → AreReplies (Uses fixed) coming messages replies []
    → AllAdd coming
replies_add fixed coming [] [] a = subst AllAdd a tt
replies_add fixed coming [] (r ∷ rs) a = absurd a
replies_add fixed coming (m ∷ ms) [] a = absurd a
replies_add fixed coming (m ∷ ms) (r ∷ rs) a = replied_adds fixed coming m r a.0 a.1 (replies_add fixed a.0 ms rs a.2)

-- the holdings of a session add events
pub session_adds : (fixed : Fixed) (before after : Ends) (end : SessionEnd) (holdings : List (Holding (List Entry))) → EndsIn fixed before after end holdings
    → AllByRecursion (Adds IsAny) holdings
session_adds fixed before after end holdings e = replies_add fixed holdings e.messages e.replies e.answers

-- those of a worker add publications
day_adds : (x : Holding (List Entry)) → AddsADay x → Adds IsPublished x
day_adds x (inl e) = ([], e ∙ sym (append-nil x.from), tt)
day_adds x (inr d) = (publication d.0 ∷ [], d.1, ((d.0.site, d.0.day, refl), tt))

pub tasks_add : (holdings : List (Holding (List Entry))) → All AddsADay holdings → AllByRecursion (Adds IsPublished) holdings
tasks_add holdings all = all_weaker AddsADay (Adds IsPublished) day_adds holdings (recursion_from_All AddsADay holdings all)
