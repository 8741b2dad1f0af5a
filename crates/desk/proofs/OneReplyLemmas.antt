-- Replies that are neither of want of memory nor of a journal that failed are one list.
use Rattle.std.specs.Prelude.{◌≡◌, ◌⊎◌, ℕ, List, [], ◌∷◌, Result, Ok, Err, All}
use Rattle.std.proofs.Common.{refl, ap, sym, subst, ◌∙◌, inl, inr}
use Rattle.std.proofs.lemmas.List.Elements.{All-head, All-tail}
use Rattle.desk.specs.Replies.{AreReplies, Fails, IsAnswered, IsOwn, history_after, reply_to}
use Rattle.desk.specs.Replying.{IsAnsweredBy, IsReplied, IsTold, memory_reply}
use Rattle.history.specs.Events.{History}
use Rattle.http_api.specs.Asks.{Question, ask_of}
use Rattle.http_api.specs.Replies.{bytes_of}
use Rattle.http_api.specs.declared.asks.Ask.{Ask}
use Rattle.http_api.specs.declared.asks.Ask.TheVariants as asks
use Rattle.http_api.specs.declared.asks.Denied.{Denied}
use Rattle.http_api.specs.declared.replies.Reply.TheVariants as replies
use Rattle.http_api.proofs.AskLemmas.{are_told}
use Rattle.wire.specs.declared.messages.Message.{Message}
use Rattle.wire.specs.declared.messages.Message.TheVariants as messages

failed_not : (h : History) (ask : Ask) (reply : List ℕ) (next : History) → Fails h ask reply next → IsOwn reply → ⊥
failed_not h (asks.Edit edit) reply next failed own = own.1 failed.0 failed.1
failed_not h (asks.Station site) reply next failed own = failed
failed_not h (asks.DayOf site day) reply next failed own = failed
failed_not h (asks.SheetOf site day) reply next failed own = failed
failed_not h (asks.Daily site from to) reply next failed own = failed
failed_not h (asks.Measurement site number) reply next failed own = failed
failed_not h (asks.EditOf number) reply next failed own = failed
failed_not h (asks.Turns count) reply next failed own = failed
failed_not h asks.Settle reply next failed own = failed
failed_not h asks.Counts reply next failed own = failed

-- the office's own answer
own_answer : (h : History) (ask : Ask) (reply : List ℕ) (next : History) → IsAnswered h ask reply next → IsOwn reply
    → (reply ≡ reply_to h ask) × (next ≡ history_after h ask)
own_answer h ask reply next (inl due) own = due
own_answer h ask reply next (inr (inl failed)) own = absurd (failed_not h ask reply next failed own)
own_answer h ask reply next (inr (inr none)) own = absurd (own.0 none.0)

one_answer : (h : History) (asked : Result Question Denied) (r s : List ℕ) (n k : History) → IsAnsweredBy IsAnswered h asked r n → IsAnsweredBy IsAnswered h asked s k
    → IsOwn r → IsOwn s → (r ≡ s) × (n ≡ k)
one_answer h (Ok asked) r s n k a b own other =
    let same : a.0 ≡ b.0 = are_told a.0 b.0 (a.1 ∙ sym b.1) in
    let x = own_answer h a.0 r n a.2 own in
    let y = own_answer h b.0 s k b.2 other in
    (x.0 ∙ ap (λ (ask : Ask). reply_to h ask) same ∙ sym y.0, x.1 ∙ ap (λ (ask : Ask). history_after h ask) same ∙ sym y.1)
one_answer h (Err denied) r s n k a b own other = (a.0 ∙ sym b.0, a.1 ∙ sym b.1)

told_due : (due reply : List ℕ) → (reply ≡ due) ⊎ (reply ≡ memory_reply) → IsOwn reply → reply ≡ due
told_due due reply (inl is) own = is
told_due due reply (inr none) own = absurd (own.0 none)

one_told : (h : History) (due r s : List ℕ) (n k : History) → IsTold IsAnswered h due r n → IsTold IsAnswered h due s k → IsOwn r → IsOwn s → (r ≡ s) × (n ≡ k)
one_told h due r s n k a b own other = (told_due due r a.0 own ∙ sym (told_due due s b.0 other), a.1 ∙ sym b.1)

one_asked : (h : History) (asked : Result Question Denied) (r s : List ℕ) (n k : History) → IsAnsweredBy IsAnswered h asked r n ⊎ ((r ≡ memory_reply) × (n ≡ h))
    → IsAnsweredBy IsAnswered h asked s k ⊎ ((s ≡ memory_reply) × (k ≡ h)) → IsOwn r → IsOwn s → (r ≡ s) × (n ≡ k)
one_asked h asked r s n k (inl a) (inl b) own other = one_answer h asked r s n k a b own other
one_asked h asked r s n k (inl a) (inr none) own other = absurd (other.0 none.0)
one_asked h asked r s n k (inr none) b own other = absurd (own.0 none.0)

one_reply : (h : History) (m : Message) (r s : List ℕ) (n k : History) → IsReplied IsAnswered h m r n → IsReplied IsAnswered h m s k → IsOwn r → IsOwn s → (r ≡ s) × (n ≡ k)
one_reply h (messages.Request verb target body) r s n k a b own other = one_asked h (ask_of verb target body) r s n k a b own other
one_reply h messages.NoLength r s n k a b own other = one_told h (bytes_of replies.NoLength) r s n k a b own other
one_reply h messages.TooLarge r s n k a b own other = one_told h (bytes_of replies.TooLarge) r s n k a b own other
one_reply h messages.NoMemory r s n k a b own other = absurd (own.0 a.0)
one_reply h messages.End r s n k a b own other = absurd a
one_reply h (messages.Malformed at) r s n k a b own other = absurd a
one_reply h messages.Long r s n k a b own other = absurd a
one_reply h messages.Failed r s n k a b own other = absurd a

same_lists : (r s : List ℕ) (rs ss : List (List ℕ)) → r ≡ s → rs ≡ ss → r ∷ rs ≡ s ∷ ss
same_lists r s rs ss e f = cc

pub one_list : (h : History) (ms : List Message) (rs ss : List (List ℕ)) (next after : History) → AreReplies h ms rs next → AreReplies h ms ss after
    → All IsOwn rs → All IsOwn ss → (rs ≡ ss) × (next ≡ after)
one_list h [] [] [] next after a b own other = (refl, a ∙ sym b)
one_list h [] [] (s ∷ ss) next after a b own other = absurd b
one_list h [] (r ∷ rs) ss next after a b own other = absurd a
one_list h (m ∷ ms) [] ss next after a b own other = absurd a
one_list h (m ∷ ms) (r ∷ rs) [] next after a b own other = absurd b
one_list h (m ∷ ms) (r ∷ rs) (s ∷ ss) next after a b own other =
    let one = one_reply h m r s a.0 b.0 a.1 b.1 (All-head IsOwn r rs own) (All-head IsOwn s ss other) in
    let rest =
    one_list a.0 ms rs ss next after a.2 (subst (λ (from : History). AreReplies from ms ss after) (sym one.1) b.2) (All-tail IsOwn r rs own)
    (All-tail IsOwn s ss other) in
    (same_lists r s rs ss one.0 rest.0, rest.1)
