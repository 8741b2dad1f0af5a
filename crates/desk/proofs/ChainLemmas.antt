-- Messages that are replied to behind a lock: their holdings, one behind another.
use Rattle.std.proofs.Common.{◌≡◌, ℕ, List, [], ◌∷◌, ◌++◌, Option, Some, None, IfSome, IsSomeAnd, Result, Ok, Err, refl, ◌∙◌, ap, subst, inl, inr}
use Rattle.desk.specs.Behind.{Uses}
use Rattle.desk.specs.Replying.{AreReplies, IsAnsweredBy, IsReplied, IsTold}
use Rattle.desk.specs.Serving.{AnswersBehind}
use Rattle.devices.specs.declared.disks.Disk.{Ghosts}
use Rattle.http_api.specs.Asks.{Question, ask_of}
use Rattle.http_api.specs.declared.asks.Ask.{Ask}
use Rattle.http_api.specs.declared.asks.Denied.{Denied}
use Rattle.shared_office.specs.Holdings.{Holding}
use Rattle.shared_office.specs.Passing.{Goes, PassTo}
use Rattle.shared_office.specs.declared.entries.Entry.{Entry}
use Rattle.shared_office.specs.declared.entries.Fixed.{Fixed}
use Rattle.shared_office.proofs.HoldingLemmas.{goes_none, goes_on_by}
use Rattle.wire.specs.declared.messages.Message.{Message}
use Rattle.wire.specs.declared.messages.Message.TheVariants as messages

pub some_of : {T : Type 0} (P : T → Type 0) (o : Option T) → IsSomeAnd o P → (v : T) × (o ≡ Some v) × P v
some_of P None h = absurd h
some_of P (Some v) h = (v, refl, h)

pub some_at : {T : Type 0} (P : T → Type 0) (o : Option T) (v : T) → o ≡ Some v → IfSome o P → P v
some_at {T} P o v is h = subst (λ (x : Option T). IfSome x P) is h

pub same_of : {T : Type 0} (o : Option T) (v w : T) → o ≡ Some v → o ≡ Some w → v ≡ w
same_of o v w a b = cc (a, b)

module _ {X L D : Type 0} {g : Ghosts D} (pass : X → Option (PassTo D g)) (lock : X → L) (fixed : L → Fixed) where
  -- what has the pass answers so
  abbrev pub AnswersBy : X → Ask → List ℕ → X → Type 0
  AnswersBy old ask reply new =
      (lock new ≡ lock old) × IfSome (pass old) (λ given. IsSomeAnd (pass new) (AnswersBehind (fixed (lock old)) given ask reply))

  -- the pass has gone through holdings, which stand so before whatever holdings are still to come
  record Through (old new : X) (given : PassTo D g) (R : List (Holding (List Entry)) → List (Holding (List Entry)) → Type 0) : Type 0 where
    back : PassTo D g
    back_is : pass new ≡ Some back
    locked : lock new ≡ lock old
    holdings : List (Holding (List Entry))
    goes : Goes given back holdings
    stands : (rest : List (Holding (List Entry))) → R (holdings ++ rest) rest

  module _ (old new : X) (given : PassTo D g) (given_is : pass old ≡ Some given) where
    -- nothing was asked
    unasked : (R : List (Holding (List Entry)) → List (Holding (List Entry)) → Type 0) → new ≡ old
        → ((rest : List (Holding (List Entry))) → R rest rest) → Through old new given R
    unasked R same stands = record {
      back = given;
      back_is = ap pass same ∙ given_is;
      locked = ap lock same;
      holdings = [];
      goes = goes_none given;
      stands = stands;
    }

    asked : (a : Result Question Denied) (reply : List ℕ) → IsAnsweredBy AnswersBy old a reply new
        → Through old new given (λ xs rest. IsAnsweredBy (Uses (fixed (lock old))) xs a reply rest)
    asked (Err denied) reply is = unasked _ is.1 (λ rest. (is.0, refl))
    asked (Ok question) reply is =
        let k = some_of (AnswersBehind (fixed (lock old)) given is.0 reply) (pass new)
        (some_at (λ (p : PassTo D g). IsSomeAnd (pass new) (AnswersBehind (fixed (lock old)) p is.0 reply)) (pass old) given given_is is.2.1) in
        record {
          back = k.0;
          back_is = k.1;
          locked = is.2.0;
          holdings = k.2.0;
          goes = k.2.1;
          stands = λ rest. (is.0, is.1, (k.2.0, refl, k.2.2));
        }

    told : (due reply : List ℕ) → IsTold AnswersBy old due reply new → Through old new given (λ xs rest. IsTold (Uses (fixed (lock old))) xs due reply rest)
    told due reply is = unasked _ is.1 (λ rest. (is.0, refl))

    either : (A B : List (Holding (List Entry)) → List (Holding (List Entry)) → Type 0) → ((xs rest : List (Holding (List Entry))) → A xs rest → B xs rest)
        → Through old new given A → Through old new given B
    either A B f t = record {
      back = t.back;
      back_is = t.back_is;
      locked = t.locked;
      holdings = t.holdings;
      goes = t.goes;
      stands = λ rest. f (t.holdings ++ rest) rest (t.stands rest);
    }

    replied : (message : Message) (reply : List ℕ) → IsReplied AnswersBy old message reply new
        → Through old new given (λ xs rest. IsReplied (Uses (fixed (lock old))) xs message reply rest)
    replied (messages.Request verb target body) reply (inl is) = either _ _ (λ xs rest h. inl h) (asked (ask_of verb target body) reply is)
    replied (messages.Request verb target body) reply (inr is) = unasked _ is.1 (λ rest. inr (is.0, refl))
    replied messages.NoLength reply is = told _ reply is
    replied messages.TooLarge reply is = told _ reply is
    replied messages.NoMemory reply is = unasked _ is.1 (λ rest. (is.0, refl))
    replied messages.End reply is = absurd is
    replied (messages.Malformed at) reply is = absurd is
    replied messages.Long reply is = absurd is
    replied messages.Failed reply is = absurd is

  -- a session of the pass: the lock is the same behind it, and the replies were found out in these holdings
  pub record Session (ms : List Message) (rs : List (List ℕ)) (old new : X) (given : PassTo D g) : Type 0 where
    pub back : PassTo D g
    pub back_is : pass new ≡ Some back
    pub locked : lock new ≡ lock old
    pub holdings : List (Holding (List Entry))
    pub goes : Goes given back holdings
    pub replies : AreReplies (Uses (fixed (lock old))) holdings ms rs []

  pub session_of : (ms : List Message) (rs : List (List ℕ)) (old new : X) (given : PassTo D g) → AreReplies AnswersBy old ms rs new → pass old ≡ Some given
      → Session ms rs old new given
  session_of [] [] old new given is at = record {
    back = given;
    back_is = ap pass is ∙ at;
    locked = ap lock is;
    holdings = [];
    goes = goes_none given;
    replies = refl;
  }
  session_of [] (r ∷ rs) old new given is at = absurd is
  session_of (m ∷ ms) [] old new given is at = absurd is
  session_of (m ∷ ms) (r ∷ rs) old new given is at =
      let t = replied old is.0 given at m r is.1 in
      let s = session_of ms rs is.0 new t.back is.2 t.back_is in
      record {
        back = s.back;
        back_is = s.back_is;
        locked = s.locked ∙ t.locked;
        holdings = t.holdings ++ s.holdings;
        goes = goes_on_by given t.back s.back t.holdings s.holdings t.goes s.goes;
        replies = (
          s.holdings,
          t.stands s.holdings,
          subst (λ (l : L). AreReplies (Uses (fixed l)) s.holdings ms rs []) t.locked s.replies,
        );
      }
