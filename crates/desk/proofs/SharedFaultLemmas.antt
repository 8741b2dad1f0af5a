-- Each reply of the status 503 behind a lock stands for a fault that a holding of its session added.
use Rattle.std.proofs.Common.{◌≡◌, ℕ, zero, suc, ◌+◌, ◌-◌, ◌^◌, ◌≤◌, min, false, None, List, [], ◌∷◌, ◌++◌, refl, sym, ap, ◌∙◌, subst, inl, inr, arith}
use Rattle.std.specs.Prelude.{count_by}
use mathlib.Core.List.{IsPrefix}
use Rattle.desk.specs.Behind.{IsAnswered, IsAnsweredAtOnce, IsTurned, Uses, faults_added}
use Rattle.desk.specs.Replies.{tells_fault}
use Rattle.desk.specs.Replying.{AreReplies, IsReplied}
use Rattle.desk.proofs.DayByDayLemmas.{whole_settlement, whole_turns}
use Rattle.desk.proofs.FaultLemmas.{answered, counts_first, counts_for, counts_none, faults_told, of_replied, plain_memory, plain_turned}
use Rattle.desk.proofs.GrowthLemmas.{Holdings, AddNoFaults, AllGrow, all_grow, all_on, faults_of_one, faults_on, none_added, settlement_adds, turns_add}
use Rattle.history.specs.After.{go_on}
use Rattle.http_api.specs.declared.asks.Ask.{Ask}
use Rattle.http_api.specs.declared.asks.Ask.TheVariants as asks
use Rattle.office.proofs.CountLemmas.{fault_count-append}
use Rattle.office.specs.Counting.{fault_count}
use Rattle.shared_office.specs.Entries.{events_in, history_of}
use Rattle.shared_office.specs.Holdings.{Follow}
use Rattle.shared_office.specs.Passing.{adding}
use Rattle.shared_office.specs.declared.entries.Entry.{Entry}
use Rattle.shared_office.specs.declared.entries.Fixed.{Fixed}
use Rattle.shared_office.proofs.TaskLemmas.{events_on}
use Rattle.wire.specs.declared.messages.Message.{Message}

-- what a reply counts for
abbrev counted : List ℕ → ℕ
counted reply = counts_for tells_fault reply

-- the holdings of a reply are the first of those to come, and they added as many faults as it tells
record Holds (coming : Holdings) (reply : List ℕ) (rest : Holdings) : Type 0 where
  mine : Holdings
  splits : coming ≡ mine ++ rest
  grow : AllGrow mine
  faults : faults_added mine ≡ counted reply

module _ (fixed : Fixed) where
  at_once : (ask : Ask) (reply : List ℕ) (xs : Holdings) → IsAnsweredAtOnce fixed ask reply xs → AllGrow xs × (faults_added xs ≡ counted reply)
  at_once ask reply xs is =
      let told : fault_count (events_in is.0 ++ is.1) ≡ fault_count (events_in is.0) + counted reply =
      faults_told tells_fault (history_of fixed is.0) reply (go_on (history_of fixed is.0) is.1)
      (answered (history_of fixed is.0) ask reply (go_on (history_of fixed is.0) is.1) is.3) in
      let more = fault_count-append (events_in is.0) is.1 in
      let one = faults_of_one (adding is.0 is.1) (fault_count is.1) (is.1, refl, refl) in
      subst (λ (ys : Holdings). AllGrow ys × (faults_added ys ≡ counted reply)) (sym is.2)
      (((fault_count is.1, (is.1, refl, refl)), tt), omega (arith, told, more, one))

  -- turns and settlements
  day_by_day : (reply : List ℕ) (xs : Holdings) → AddNoFaults xs → tells_fault reply ≡ false → AllGrow xs × (faults_added xs ≡ counted reply)
  day_by_day reply xs none plain = (all_grow xs none, none_added xs none ∙ sym (counts_none tells_fault reply plain))

  plain_told : (reply : List ℕ) (xs : Holdings) → IsTurned fixed reply xs → tells_fault reply ≡ false
  plain_told reply xs told = ap tells_fault told.2 ∙ plain_turned _ _

  turns_hold : (n : ℕ) (reply : List ℕ) (xs : Holdings) → IsAnswered fixed (asks.Turns (suc n)) reply xs → AllGrow xs × (faults_added xs ≡ counted reply)
  turns_hold n reply xs (inl whole) =
      day_by_day reply xs (turns_add fixed (suc n) xs (whole_turns fixed (suc n) xs whole.0)) (plain_told reply xs whole.1)
  turns_hold n reply xs (inr part) = day_by_day reply xs (turns_add fixed (suc n) xs part.0) (ap tells_fault part.1 ∙ plain_memory)

  settlement_holds : (reply : List ℕ) (xs : Holdings) → IsAnswered fixed asks.Settle reply xs → AllGrow xs × (faults_added xs ≡ counted reply)
  settlement_holds reply xs (inl whole) =
      day_by_day reply xs (settlement_adds fixed None xs (whole_settlement fixed None xs whole.0)) (plain_told reply xs whole.1)
  settlement_holds reply xs (inr part) = day_by_day reply xs (settlement_adds fixed None xs part.0) (ap tells_fault part.1 ∙ plain_memory)

  answer_holds : (ask : Ask) (reply : List ℕ) (xs : Holdings) → IsAnswered fixed ask reply xs → AllGrow xs × (faults_added xs ≡ counted reply)
  answer_holds (asks.Turns zero) reply xs is = at_once (asks.Turns 0) reply xs is
  answer_holds (asks.Turns (suc n)) reply xs is = turns_hold n reply xs is
  answer_holds asks.Settle reply xs is = settlement_holds reply xs is
  answer_holds (asks.Edit edit) reply xs is = at_once (asks.Edit edit) reply xs is
  answer_holds (asks.Station site) reply xs is = at_once (asks.Station site) reply xs is
  answer_holds (asks.DayOf site day) reply xs is = at_once (asks.DayOf site day) reply xs is
  answer_holds (asks.SheetOf site day) reply xs is = at_once (asks.SheetOf site day) reply xs is
  answer_holds (asks.Daily site from to) reply xs is = at_once (asks.Daily site from to) reply xs is
  answer_holds (asks.Measurement site number) reply xs is = at_once (asks.Measurement site number) reply xs is
  answer_holds (asks.EditOf number) reply xs is = at_once (asks.EditOf number) reply xs is
  answer_holds asks.Counts reply xs is = at_once asks.Counts reply xs is

  reply_holds : (coming rest : Holdings) (message : Message) (reply : List ℕ) → IsReplied (Uses fixed) coming message reply rest → Holds coming reply rest
  reply_holds coming rest message reply is =
      of_replied (Uses fixed) Holds
      (λ xs ys ask told uses.
      let k = answer_holds ask told uses.0 uses.2 in record { mine = uses.0; splits = uses.1; grow = k.0; faults = k.1 })
      (λ xs ys told plain same. record { mine = []; splits = sym same; grow = tt; faults = sym (counts_none tells_fault told plain) })
      coming rest message reply is

  pub replies_hold : (coming : Holdings) (ms : List Message) (rs : List (List ℕ)) → AreReplies (Uses fixed) coming ms rs []
      → AllGrow coming × (faults_added coming ≡ count_by tells_fault rs)
  replies_hold coming [] [] is = subst (λ (xs : Holdings). AllGrow xs × (faults_added xs ≡ 0)) is (tt, refl)
  replies_hold coming [] (r ∷ rs) is = absurd is
  replies_hold coming (m ∷ ms) [] is = absurd is
  replies_hold coming (m ∷ ms) (r ∷ rs) is =
      let one = reply_holds coming is.0 m r is.1 in
      let more = replies_hold is.0 ms rs is.2 in
      let split = counts_first tells_fault r rs in
      let sum = faults_on one.mine is.0 in
      let first = one.faults in
      let later = more.1 in
      subst (λ (xs : Holdings). AllGrow xs × (faults_added xs ≡ count_by tells_fault (r ∷ rs))) (sym one.splits)
      (all_on one.mine is.0 one.grow more.0, omega (arith, split, sum, first, later))

-- the faults of a list are among those of a list that goes on from it
pub fewer_before : (xs ys : List Entry) → IsPrefix xs ys → fault_count (events_in xs) ≤ fault_count (events_in ys)
fewer_before xs ys on =
    let whole : fault_count (events_in ys) ≡ fault_count (events_in xs) + fault_count (events_in on.0) =
    ap (λ (l : List Entry). fault_count (events_in l)) (sym on.1) ∙ ap fault_count (events_on xs on.0) ∙ fault_count-append (events_in xs) (events_in on.0) in
    omega (arith, whole)

-- and so are those that holdings added on the way
pub within : (start : List Entry) (xs : Holdings) (list : List Entry) → AllGrow xs → Follow IsPrefix start xs list
    → fault_count (events_in start) + faults_added xs ≤ fault_count (events_in list)
within start [] list grow follow = let before = fewer_before start list follow in omega (arith, before)
within start (x ∷ xs) list grow follow =
    let before = fewer_before start x.from follow.0 in
    let one = faults_of_one x grow.0.0 grow.0.1 in
    let rest = within x.to xs list grow.1 follow.1 in
    omega (arith, before, one, rest)

pub few_replies : (fixed : Fixed) (start : List Entry) (xs : Holdings) (list : List Entry) (ms : List Message) (rs : List (List ℕ)) → Follow IsPrefix start xs list
    → AreReplies (Uses fixed) xs ms rs [] → fault_count (events_in start) + count_by tells_fault rs ≤ fault_count (events_in list)
few_replies fixed start xs list ms rs follow is =
    let k = replies_hold fixed xs ms rs is in
    let all = within start xs list k.0 follow in
    let same = k.1 in
    omega (arith, all, same)

-- of which a disk has counted each
pub counted_replies : (faults most : ℕ) (replies : ℕ) (start : ℕ) → start + replies ≤ faults → min faults (2 ^ 64 - 1) ≤ most → min replies (2 ^ 64 - 1) ≤ most
counted_replies faults most replies start few all = omega (arith, few, all)
