-- Passes of workers that are joined.
use Rattle.std.proofs.Common.{◌≡◌, ℕ, ◌+◌, List, [], ◌∷◌, ◌++◌, length, sym, ap, subst, ◌∙◌, refl, append-nil, append_assoc, length-append, arith}
use Rattle.std.specs.Prelude.{All, vec_len}
use Rattle.std.specs.List.{concat}
use Rattle.std.proofs.lemmas.List.Folds.{concat-append}
use Rattle.std.proofs.lemmas.List.Elements.{All-nil, All-append, All-push, All-weaker}
use mathlib.Core.List.{IsPrefix}
use Rattle.devices.specs.declared.disks.Disk.{Ghosts}
use Rattle.serving.specs.Crews.{AreJoined, IsCrew, IsDue, IsEmployed, IsFresh, IsJoined, IsWorkIn}
use Rattle.serving.specs.declared.crews.Crew.{Crew}
use Rattle.shared_office.specs.Holdings.{Holding, Follow, places_of}
use Rattle.shared_office.specs.Passing.{Lock, PassTo}
use Rattle.shared_office.specs.declared.entries.Entry.{Entry}
use Rattle.turnstile.proofs.ListLemmas.{prefix_here, prefix_on}
use Rattle.turnstile.specs.Passes.{seen, share, tally}
use Rattle.workers.specs.Work.{IsWork}
use Rattle.workers.specs.declared.workers.WorkerEnd.{WorkerEnd}

-- holdings that follow an earlier beginning, and holdings that lie in a later list
pub follow_in : {E : Type 0} (h m : List E) (xs : List (Holding (List E))) (after : List E) → IsPrefix h m → Follow IsPrefix m xs after → Follow IsPrefix h xs after
follow_in h m [] after pre f = prefix_on h m after pre f
follow_in h m (x ∷ xs) after pre f = (prefix_on h m x.from pre f.0, f.1)

pub follow_out : {E : Type 0} (h : List E) (xs : List (Holding (List E))) (m after : List E) → Follow IsPrefix h xs m → IsPrefix m after → Follow IsPrefix h xs after
follow_out h [] m after f pre = prefix_on h m after f pre
follow_out h (x ∷ xs) m after f pre = (f.0, follow_out x.to xs m after f.1 pre)

-- a pass that has seen the same begins with it
pub begins_as : {D : Type 0} {g : Ghosts D} (given other : PassTo D g) → seen other ≡ seen given → IsPrefix (seen given) (seen other)
begins_as given other same = subst (λ (l : List Entry). IsPrefix (seen given) l) (sym same) (prefix_here (seen given))

-- workers that were started, with the pass as it was then
pub crew_of : {D G : Type 0} {g : Ghosts D} (lock : Lock D g) (count : ℕ) (given : PassTo D g) (crew : Crew D G g) → crew.begun.value ≡ given
    → vec_len crew.tasks + vec_len crew.kept ≡ count → All (IsEmployed lock (seen given)) crew.tasks.items → All (IsDue lock (seen given)) crew.kept.items
    → IsCrew lock count crew
crew_of {D} {G} {g} lock count given crew same count_is tasks kept =
    let begun : seen given ≡ seen crew.begun.value = ap (λ (p : PassTo D g). seen p) (sym same) in
    record {
      count_is = count_is;
      tasks = subst (λ (l : List Entry). All (IsEmployed lock l) crew.tasks.items) begun tasks;
      kept = subst (λ (l : List Entry). All (IsDue lock l) crew.kept.items) begun kept;
    }

module _ {D : Type 0} {g : Ghosts D} (lock : Lock D g) (start : List Entry) where
  -- what was worked in a list was worked in each that begins with it
  pub work_later : (list later : List Entry) → IsPrefix list later → (places : List ℕ) → IsWorkIn lock start list places → IsWorkIn lock start later places
  work_later list later pre places w = record {
    end = w.end;
    holdings = w.holdings;
    last = w.last;
    follow = follow_out start w.holdings list later w.follow pre;
    tasks = w.tasks;
    adds = w.adds;
    last_is = w.last_is;
    ends = w.ends;
    count_is = w.count_is;
    places_are = w.places_are;
  }

  -- a pass was joined that a worker had worked with
  pub joined : (old given other new : PassTo D g) (end : WorkerEnd) → IsFresh start given → IsWork lock given other end → share new ≡ share old + share other
      → IsPrefix (seen old) (seen new) → IsPrefix (seen other) (seen new) → tally new ≡ tally old ++ tally other → IsJoined lock start old new
  joined old given other new end fresh w shares first second tallies = record {
    places = places_of length w.holdings;
    begins = first;
    share_is = (let a = w.work.goes.share_is in let b = fresh.share_is in omega (arith, shares, a, b));
    tally_is = tallies ∙ ap (λ t. tally old ++ t) (w.work.goes.tally_is ∙ ap (λ t. t ++ places_of length w.holdings) fresh.tally_is);
    work = record {
      end = end;
      holdings = w.holdings;
      last = w.last;
      follow = follow_out start w.holdings (seen other) (seen new) (follow_in start (seen given) w.holdings (seen other) fresh.begins w.work.goes.follow) second;
      tasks = w.work.tasks;
      adds = w.adds;
      last_is = w.last_is;
      ends = w.ends;
      count_is = w.work.count_is;
      places_are = refl;
    };
  }

  -- none, one more, and some more
  pub joined_none : (p : PassTo D g) → AreJoined lock start p p 0
  joined_none p = record {
    workers = [];
    count_is = refl;
    begins = prefix_here (seen p);
    share_is = (omega arith);
    tally_is = sym (append-nil (tally p));
    work = All-nil (IsWorkIn lock start (seen p));
  }

  pub joined_more : (p q r : PassTo D g) (count : ℕ) → AreJoined lock start p q count → IsJoined lock start q r → AreJoined lock start p r (count + 1)
  joined_more p q r count h k = record {
    workers = h.workers ++ k.places ∷ [];
    count_is = (let a = length-append h.workers (k.places ∷ []) in let b = h.count_is in omega (arith, a, b));
    begins = prefix_on (seen p) (seen q) (seen r) h.begins k.begins;
    share_is = (let a = h.share_is in let b = k.share_is in omega (arith, a, b));
    tally_is = k.tally_is ∙ (ap (λ t. t ++ k.places) h.tally_is ∙ (append_assoc (tally p) (concat h.workers) k.places
        ∙ ap (λ t. tally p ++ t) (ap (λ t. concat h.workers ++ t) (sym (append-nil k.places)) ∙ sym (concat-append h.workers (k.places ∷ [])))));
    work = All-push (IsWorkIn lock start (seen r)) h.workers k.places
        (All-weaker (IsWorkIn lock start (seen q)) (IsWorkIn lock start (seen r)) (work_later (seen q) (seen r) k.begins) h.workers h.work) k.work;
  }

  pub joined_on : (p q r : PassTo D g) (n m : ℕ) → AreJoined lock start p q n → AreJoined lock start q r m → AreJoined lock start p r (n + m)
  joined_on p q r n m h k = record {
    workers = h.workers ++ k.workers;
    count_is = (let a = length-append h.workers k.workers in let b = h.count_is in let c = k.count_is in omega (arith, a, b, c));
    begins = prefix_on (seen p) (seen q) (seen r) h.begins k.begins;
    share_is = (let a = h.share_is in let b = k.share_is in omega (arith, a, b));
    tally_is = k.tally_is ∙ (ap (λ t. t ++ concat k.workers) h.tally_is ∙ (append_assoc (tally p) (concat h.workers) (concat k.workers)
        ∙ ap (λ t. tally p ++ t) (sym (concat-append h.workers k.workers))));
    work = All-append (IsWorkIn lock start (seen r)) h.workers k.workers
        (All-weaker (IsWorkIn lock start (seen q)) (IsWorkIn lock start (seen r)) (work_later (seen q) (seen r) k.begins) h.workers h.work) k.work;
  }
