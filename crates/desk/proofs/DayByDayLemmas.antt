-- Turns and settlements behind a lock, day by day.
use Rattle.std.proofs.Common.{◌≡◌, ℕ, zero, suc, ◌+◌, ◌≤◌, ◌<◌, List, [], ◌∷◌, ◌++◌, length, map, Option, Some, None, Result, Ok, Err, OnErr, refl, sym, ◌∙◌, ap, subst, inl, inr, append-nil, append_assoc, length-append, arith, ℤ}
use Rattle.std.specs.Prelude.{IfOk}
use Rattle.std.proofs.lemmas.List.{length-map}
use Rattle.desk.specs.Answering.{IsMade}
use Rattle.desk.specs.Behind.{AreTurns, AreTurnsPartly, IsAnswered, IsLook, IsSettlement, IsSettlementPartly, IsTurned, grown, looked_at}
use Rattle.desk.specs.Replying.{memory_reply}
use Rattle.desk.specs.Serving.{AnswersBehind, AreTurned, IsCounted, IsPublished, IsSettled}
use Rattle.desk.specs.declared.behind.Turned.{Turned}
use Rattle.devices.specs.declared.disks.Disk.{Ghosts}
use Rattle.fixed_units.specs.Quantities.{SiteNumber}
use Rattle.fixed_units.specs.declared.texts.NoMemory.{NoMemory}
use Rattle.history.specs.Awaited.{pending_days}
use Rattle.history.specs.Events.{Event}
use Rattle.http_api.specs.Replies.{bytes_of}
use Rattle.http_api.specs.declared.asks.Ask.TheVariants as asks
use Rattle.http_api.specs.declared.replies.Reply.TheVariants as replies
use Rattle.recompute.specs.Jobs.{DayJob}
use Rattle.recompute.specs.declared.jobs.Publish.{Publish}
use Rattle.register.specs.Asked.{outcome_at}
use Rattle.shared_office.specs.Entries.{history_of}
use Rattle.shared_office.specs.Finding.{IsLooked, published_by}
use Rattle.shared_office.specs.Holdings.{Holding, last_of}
use Rattle.shared_office.specs.Passing.{Goes, GoesOnce, PassTo, adding}
use Rattle.shared_office.specs.declared.entries.Entry.{Entry}
use Rattle.shared_office.specs.declared.entries.Entry.TheVariants.{Happened}
use Rattle.shared_office.specs.declared.entries.Fixed.{Fixed}
use Rattle.shared_office.specs.declared.shared.Looked.{Looked}
use Rattle.shared_office.proofs.HoldingLemmas.{goes_none, goes_on_by, goes_one}
use Rattle.turnstile.specs.Passes.{seen}
use Rattle.turnstile.proofs.ListLemmas.{prefix_length}

abbrev Holdings : Type 0
Holdings = List (Holding (List Entry))

-- how many entries were added by all of them
grown_on : (xs ys : Holdings) → grown (xs ++ ys) ≡ grown xs + grown ys
grown_on [] ys = omega arith
grown_on (x ∷ xs) ys = let a = grown_on xs ys in omega (arith, a)

grown_by_look : (from : List Entry) → grown (adding from [] ∷ []) ≡ 0
grown_by_look from = let a = length-append from [] in omega (arith, a)

-- the last one is the last of those behind
last_behind : (xs : Holdings) (y : Holding (List Entry)) (ys : Holdings) → last_of (xs ++ y ∷ ys) ≡ last_of (y ∷ ys)
last_behind [] y ys = refl
last_behind (x ∷ []) y ys = refl
last_behind (x ∷ (z ∷ xs)) y ys = last_behind (z ∷ xs) y ys

-- what a look tells
pub is_look : (fixed : Fixed) (last : Option (SiteNumber × ℤ)) (from : List Entry) (r : Result Looked NoMemory) (looked : Looked) (job : Option DayJob)
    → IfOk r (IsLooked (history_of fixed from) last) → r ≡ Ok looked → looked.job ≡ job
    → IsLook fixed last job (adding from []) × (looked.pending ≡ length (pending_days (history_of fixed from).events))
is_look fixed last from r looked job told is found =
    let k = subst (λ (x : Result Looked NoMemory). IfOk x (IsLooked (history_of fixed from) last)) is told in
    ((refl, sym found ∙ k.0), k.1)

module _ (fixed : Fixed) where
  -- what was done whole was done partly
  pub whole_turns : (n : ℕ) (xs : Holdings) → AreTurns fixed n xs → AreTurnsPartly fixed n xs
  whole_turns zero xs is = is
  whole_turns (suc n) [] is = absurd is
  whole_turns (suc n) (look ∷ []) is = is.0
  whole_turns (suc n) (look ∷ (publication ∷ xs)) is = (is.0, is.1, is.2, whole_turns n xs is.3)

  pub whole_settlement : (last : Option (SiteNumber × ℤ)) (xs : Holdings) → IsSettlement fixed last xs → IsSettlementPartly fixed last xs
  whole_settlement last [] is = absurd is
  whole_settlement last (look ∷ []) is = is.0
  whole_settlement last (look ∷ (publication ∷ xs)) is = (is.0, is.1, is.2, whole_settlement (looked_at is.0) xs is.3)

  -- the reply tells what was counted
  turned_told : (turned : Turned) (xs : Holdings) (reply : List ℕ) → IsCounted fixed turned xs → reply ≡ bytes_of (replies.Turned turned.pending turned.published)
      → IsTurned fixed reply xs
  turned_told turned xs reply k told = (
    k.last,
    k.last_is,
    told ∙ ap (λ (n : ℕ). bytes_of (replies.Turned n turned.published)) k.pending
        ∙ ap (λ (n : ℕ). bytes_of (replies.Turned (length (pending_days (history_of fixed k.last.to).events)) n)) k.published,
  )

  made_turns : (n : ℕ) (turned : Turned) (xs : Holdings) (reply : List ℕ) → AreTurns fixed (suc n) xs → IsCounted fixed turned xs
      → IsMade (replies.Turned turned.pending turned.published) reply → IsAnswered fixed (asks.Turns (suc n)) reply xs
  made_turns n turned xs reply are k (inl told) = inl (are, turned_told turned xs reply k told)
  made_turns n turned xs reply are k (inr none) = inr (whole_turns (suc n) xs are, none)

  made_settlement : (turned : Turned) (xs : Holdings) (reply : List ℕ) → IsSettlement fixed None xs → IsCounted fixed turned xs
      → IsMade (replies.Turned turned.pending turned.published) reply → IsAnswered fixed asks.Settle reply xs
  made_settlement turned xs reply is k (inl told) = inl (is, turned_told turned xs reply k told)
  made_settlement turned xs reply is k (inr none) = inr (whole_settlement None xs is, none)

module _ {D : Type 0} {g : Ghosts D} (fixed : Fixed) where
  -- turns are answered by what came of them
  pub turns_answered : (count : ℕ) (given back : PassTo D g) (r : Result Turned NoMemory) (reply : List ℕ) → 0 < count → AreTurned fixed count given back r
      → IfOk r (λ turned. IsMade (replies.Turned turned.pending turned.published) reply) → OnErr r (reply ≡ memory_reply)
      → AnswersBehind fixed given (asks.Turns count) reply back
  turns_answered zero given back r reply some is made not = absurd (omega (arith, some))
  turns_answered (suc n) given back (Ok turned) reply some is made not = (is.0, is.1, made_turns fixed n turned is.0 reply is.2 is.3 made)
  turns_answered (suc n) given back (Err failed) reply some is made not = (is.0, is.1, inr (is.2, not))

  pub settlement_answered : (given back : PassTo D g) (r : Result Turned NoMemory) (reply : List ℕ) → IsSettled fixed given back r
      → IfOk r (λ turned. IsMade (replies.Turned turned.pending turned.published) reply) → OnErr r (reply ≡ memory_reply)
      → AnswersBehind fixed given asks.Settle reply back
  settlement_answered given back (Ok turned) reply is made not = (is.0, is.1, made_settlement fixed turned is.0 reply is.2 is.3 made)
  settlement_answered given back (Err failed) reply is made not = (is.0, is.1, inr (is.2, not))

  -- A pass has gone through holdings, which so many publications were counted in. Whatever holdings are the rest complete the whole, and
  -- whatever holdings are the front of the rest complete the front of the whole.
  pub record IsUnderWay (Rest Whole Front FrontOfWhole : Holdings → Type 0) (given now : PassTo D g) (published : ℕ) : Type 0 where
    pub holdings : Holdings
    pub goes : Goes given now holdings
    pub whole : (xs : Holdings) → Rest xs → Whole (holdings ++ xs)
    pub partly : (xs : Holdings) → Front xs → FrontOfWhole (holdings ++ xs)
    pub published_is : published ≡ grown holdings

  -- nothing was done yet
  pub starts : (Whole Front : Holdings → Type 0) (p : PassTo D g) → IsUnderWay Whole Whole Front Front p p 0
  starts Whole Front p = record { holdings = []; goes = goes_none p; whole = λ xs h. h; partly = λ xs h. h; published_is = refl }

  module _ (Rest Whole Front FrontOfWhole : Holdings → Type 0) (given now : PassTo D g) (published : ℕ)
      (u : IsUnderWay Rest Whole Front FrontOfWhole given now published) (back : PassTo D g) (from : List Entry) (looked : GoesOnce now back (adding from [])) where
    goes_look : Goes given back (u.holdings ++ adding from [] ∷ [])
    goes_look = goes_on_by given now back u.holdings (adding from [] ∷ []) u.goes (goes_one now back (adding from []) looked)

    -- a look found no day
    pub ends : (pending : ℕ) → Rest (adding from [] ∷ []) → pending ≡ length (pending_days (history_of fixed from).events)
        → (xs : Holdings) × Goes given back xs × Whole xs × IsCounted fixed (record { pending = pending; published = published }) xs
    ends pending rest told = (
      u.holdings ++ adding from [] ∷ [],
      goes_look,
      u.whole (adding from [] ∷ []) rest,
      record {
        last = adding from [];
        last_is = last_behind u.holdings (adding from []) [];
        pending = told ∙ ap (λ (list : List Entry). length (pending_days (history_of fixed list).events)) (sym (append-nil from));
        published = let a = grown_on u.holdings (adding from [] ∷ []) in let b = grown_by_look from in let e = u.published_is in omega (arith, a, b, e);
      },
    )

    -- there was no memory for it
    pub breaks : Front (adding from [] ∷ []) → (xs : Holdings) × Goes given back xs × FrontOfWhole xs
    breaks front = (u.holdings ++ adding from [] ∷ [], goes_look, u.partly (adding from [] ∷ []) front)

    module _ (job : DayJob) (end : PassTo D g) (turned : Turned) (k : IsPublished fixed back job published end turned) where
      published_on : turned.published ≡ grown (u.holdings ++ (adding from [] ∷ (k.holding ∷ [])))
      published_on =
          let a = grown_on u.holdings (adding from [] ∷ (k.holding ∷ [])) in let b = length-append from [] in let e = u.published_is in
          let f = k.published in omega (arith, a, b, e, f)

      -- it found one, which was published
      pub goes_on : (Next NextFront : Holdings → Type 0) → ((xs : Holdings) → Next xs → Rest (adding from [] ∷ (k.holding ∷ xs)))
          → ((xs : Holdings) → NextFront xs → Front (adding from [] ∷ (k.holding ∷ xs)))
          → IsUnderWay Next Whole NextFront FrontOfWhole given end turned.published
      goes_on Next NextFront whole partly = record {
        holdings = u.holdings ++ (adding from [] ∷ (k.holding ∷ []));
        goes =
            goes_on_by given now end u.holdings (adding from [] ∷ (k.holding ∷ [])) u.goes
            (goes_on_by now back end (adding from [] ∷ []) (k.holding ∷ []) (goes_one now back (adding from []) looked) (goes_one back end k.holding k.goes));
        whole = λ xs h.
            subst Whole (sym (append_assoc u.holdings (adding from [] ∷ (k.holding ∷ [])) xs)) (u.whole (adding from [] ∷ (k.holding ∷ xs)) (whole xs h));
        partly = λ xs h.
            subst FrontOfWhole (sym (append_assoc u.holdings (adding from [] ∷ (k.holding ∷ [])) xs)) (u.partly (adding from [] ∷ (k.holding ∷ xs)) (partly xs h));
        published_is = published_on;
      }

      pub counted_on : IsCounted fixed turned (u.holdings ++ (adding from [] ∷ (k.holding ∷ [])))
      counted_on = record {
        last = k.holding;
        last_is = last_behind u.holdings (adding from []) (k.holding ∷ []);
        pending = k.pending;
        published = published_on;
      }

  -- So many of the turns are left, and the others were counted.
  pub record AreTurning (count left : ℕ) (given now : PassTo D g) (turned : Turned) : Type 0 where
    pub way : IsUnderWay (AreTurns fixed left) (AreTurns fixed count) (AreTurnsPartly fixed left) (AreTurnsPartly fixed count) given now turned.published
    pub counted : left < count → IsCounted fixed turned way.holdings

  pub turns_start : (count left : ℕ) (p : PassTo D g) → left ≡ count → AreTurning count left p p (record { pending = 0; published = 0 })
  turns_start count left p all = record {
    way =
        subst (λ (n : ℕ). IsUnderWay (AreTurns fixed n) (AreTurns fixed count) (AreTurnsPartly fixed n) (AreTurnsPartly fixed count) p p 0) (sym all)
        (starts (AreTurns fixed count) (AreTurnsPartly fixed count) p);
    counted = λ below. absurd (omega (arith, below, all));
  }

  module _ (count left next : ℕ) (given now : PassTo D g) (turned : Turned) (some : left ≡ suc next) (t : AreTurning count left given now turned)
      (back : PassTo D g) (from : List Entry) (looked : GoesOnce now back (adding from [])) where
    one_left : IsUnderWay (AreTurns fixed (suc next)) (AreTurns fixed count) (AreTurnsPartly fixed (suc next)) (AreTurnsPartly fixed count) given now turned.published
    one_left =
        subst (λ (n : ℕ). IsUnderWay (AreTurns fixed n) (AreTurns fixed count) (AreTurnsPartly fixed n) (AreTurnsPartly fixed count) given now turned.published)
        some t.way

    -- a turn more
    pub turns_more : (job : DayJob) (end : PassTo D g) (more : Turned) → IsPublished fixed back job turned.published end more
        → IsLook fixed None (Some job) (adding from []) → AreTurning count next given end more
    unfolding goes_on
    turns_more job end more k look = record {
      way =
          goes_on (AreTurns fixed (suc next)) (AreTurns fixed count) (AreTurnsPartly fixed (suc next)) (AreTurnsPartly fixed count) given now turned.published
          one_left back from looked job end more k (AreTurns fixed next) (AreTurnsPartly fixed next)
          (λ xs h. (job, look, k.publication, h)) (λ xs h. (job, look, k.publication, h));
      counted = λ below.
          counted_on (AreTurns fixed (suc next)) (AreTurns fixed count) (AreTurnsPartly fixed (suc next)) (AreTurnsPartly fixed count) given now turned.published
          one_left back from looked job end more k;
    }

    -- no day is pending
    pub turns_end : (pending : ℕ) → IsLook fixed None None (adding from []) → pending ≡ length (pending_days (history_of fixed from).events)
        → AreTurned fixed count given back (Ok (record { pending = pending; published = turned.published }))
    turns_end pending look told =
        ends (AreTurns fixed (suc next)) (AreTurns fixed count) (AreTurnsPartly fixed (suc next)) (AreTurnsPartly fixed count) given now turned.published
        one_left back from looked pending look told

    -- memory ran out
    pub turns_break : (failed : NoMemory) → AreTurned fixed count given back (Err failed)
    turns_break failed =
        breaks (AreTurns fixed (suc next)) (AreTurns fixed count) (AreTurnsPartly fixed (suc next)) (AreTurnsPartly fixed count) given now turned.published
        one_left back from looked refl

  -- none is left
  pub turns_done : (count left : ℕ) (given now : PassTo D g) (turned : Turned) → left ≡ 0 → 0 < count → AreTurning count left given now turned
      → AreTurned fixed count given now (Ok turned)
  turns_done count left given now turned none some t =
      let w = t.way in (
        w.holdings,
        w.goes,
        subst (AreTurns fixed count) (append-nil w.holdings) (w.whole [] (subst (λ (n : ℕ). AreTurns fixed n []) (sym none) refl)),
        t.counted (omega (arith, none, some)),
      )

  -- a settlement goes on behind the last day that was found
  abbrev pub IsSettling : Option (SiteNumber × ℤ) → PassTo D g → PassTo D g → ℕ → Type 0
  IsSettling last given now published =
      IsUnderWay (IsSettlement fixed last) (IsSettlement fixed None) (IsSettlementPartly fixed last) (IsSettlementPartly fixed None) given now published

  pub settlement_starts : (p : PassTo D g) → IsSettling None p p 0
  settlement_starts p = starts (IsSettlement fixed None) (IsSettlementPartly fixed None) p

  module _ (last : Option (SiteNumber × ℤ)) (given now : PassTo D g) (published : ℕ) (s : IsSettling last given now published)
      (back : PassTo D g) (from : List Entry) (looked : GoesOnce now back (adding from [])) where
    pub settlement_more : (job : DayJob) (next : Option (SiteNumber × ℤ)) (end : PassTo D g) (more : Turned) → next ≡ looked_at job
        → IsPublished fixed back job published end more → IsLook fixed last (Some job) (adding from []) → IsSettling next given end more.published
    settlement_more job next end more at k look =
        subst (λ (day : Option (SiteNumber × ℤ)). IsSettling day given end more.published) (sym at)
        (goes_on (IsSettlement fixed last) (IsSettlement fixed None) (IsSettlementPartly fixed last) (IsSettlementPartly fixed None) given now published
        s back from looked job end more k (IsSettlement fixed (looked_at job)) (IsSettlementPartly fixed (looked_at job))
        (λ xs h. (job, look, k.publication, h)) (λ xs h. (job, look, k.publication, h)))

    pub settlement_ends : (pending : ℕ) → IsLook fixed last None (adding from []) → pending ≡ length (pending_days (history_of fixed from).events)
        → IsSettled fixed given back (Ok (record { pending = pending; published = published }))
    settlement_ends pending look told =
        ends (IsSettlement fixed last) (IsSettlement fixed None) (IsSettlementPartly fixed last) (IsSettlementPartly fixed None) given now published
        s back from looked pending look told

    pub settlement_breaks : (failed : NoMemory) → IsSettled fixed given back (Err failed)
    settlement_breaks failed =
        breaks (IsSettlement fixed last) (IsSettlement fixed None) (IsSettlementPartly fixed last) (IsSettlementPartly fixed None) given now published
        s back from looked refl

-- a publication in one holding
pub published_in_one : {D : Type 0} {g : Ghosts D} (fixed : Fixed) (given back : PassTo D g) (job : DayJob) (before : ℕ) (turned : Turned) (from : List Entry) (told : Publish)
    → GoesOnce given back (adding from (published_by told job)) → told ≡ outcome_at (history_of fixed from).events job
    → turned.pending ≡ length (pending_days (history_of fixed (seen back)).events) → turned.published ≡ before + length (published_by told job)
    → IsPublished fixed given job before back turned
published_in_one fixed given back job before turned from told goes is pending counted = record {
  holding = adding from (published_by told job);
  goes = goes;
  publication = ap (λ (p : Publish). adding from (published_by p job)) is;
  pending = pending ∙ ap (λ (list : List Entry). length (pending_days (history_of fixed list).events)) goes.seen_is;
  published =
      let a = length-append from (map Happened (published_by told job)) in let b = length-map (published_by told job) Happened in
      omega (arith, a, b, counted);
}

-- how many entries a pass has seen behind it
pub seen_more : {D : Type 0} {g : Ghosts D} (given back : PassTo D g) (from : List Entry) (added : List Event) → GoesOnce given back (adding from added)
    → length (seen given) + length added ≤ length (seen back)
seen_more given back from added goes =
    let a = prefix_length (seen given) from goes.begins in let b = length-append from (map Happened added) in let e = length-map added Happened in
    let f = ap length goes.seen_is in omega (arith, a, b, e, f)
