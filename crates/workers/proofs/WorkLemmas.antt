-- Holdings of a worker, one behind another.
use Rattle.std.proofs.Common.{◌≡◌, ℕ, zero, suc, ◌+◌, ◌-◌, ◌≤◌, List, [], ◌∷◌, ◌++◌, length, map, ap, refl, subst, ◌∙◌, append-nil, length-append, arith, Some}
use Rattle.std.specs.Prelude.{Result, Err}
use Rattle.std.proofs.lemmas.List.{length-map}
use Rattle.std.proofs.lemmas.List.Elements.{All-nil, All-cons, All-append, All-weaker}
use Rattle.devices.specs.declared.disks.Disk.{Ghosts}
use Rattle.history.specs.Events.{Event}
use Rattle.turnstile.specs.Passes.{seen}
use Rattle.turnstile.specs.Places.{places}
use Rattle.turnstile.proofs.ListLemmas.{prefix_length}
use Rattle.fixed_units.specs.declared.texts.NoMemory as texts
use Rattle.shared_office.specs.Entries.{with_events}
use Rattle.shared_office.specs.Finding.{FindsBy}
use Rattle.shared_office.specs.Holdings.{Holding, last_of, places_of}
use Rattle.shared_office.specs.Passing.{GoesOnce, Lock, PassTo, adding, fixed_in}
use Rattle.shared_office.specs.Working.{AddsADay, IsDrained, IsTask}
use Rattle.shared_office.specs.declared.entries.Entry.{Entry}
use Rattle.shared_office.specs.declared.entries.Entry.TheVariants.{Happened}
use Rattle.shared_office.specs.declared.shared.Found.{Found}
use Rattle.shared_office.proofs.HoldingLemmas.{goes_one, goes_on_by, goes_none, places_on}
use Rattle.shared_office.proofs.TaskLemmas.{adds_a_day}
use Rattle.workers.specs.Work.{EndsBy, IsAtWork, IsMore, IsWork, count_told}
use Rattle.workers.specs.declared.workers.WorkerEnd.{WorkerEnd}
use Rattle.workers.specs.declared.workers.WorkerEnd.TheVariants.{Drained, NoMemory}

length_places : (from count : ℕ) → length (places from count) ≡ count
length_places from zero = refl
length_places from (suc count) = ap suc (length_places (suc from) count)

length_on : (list : List Entry) (added : List Event) → length (with_events list added) ≡ length list + length added
length_on list added = let a = length-append list (map Happened added) in let b = length-map added Happened in omega (arith, a, b)

last_on : (xs : List (Holding (List Entry))) (x : Holding (List Entry)) → last_of (xs ++ x ∷ []) ≡ Some x
last_on [] x = refl
last_on (y ∷ []) x = refl
last_on (y ∷ (z ∷ xs)) x = last_on (z ∷ xs) x

module _ {D : Type 0} {g : Ghosts D} (lock : Lock D g) where
  pub work_none : (p : PassTo D g) → IsAtWork lock p p [] 0
  work_none p = record { goes = goes_none p; tasks = All-nil (IsTask lock); count_is = refl }

  pub work_on : (p q r : PassTo D g) (xs : List (Holding (List Entry))) (n m : ℕ) → IsAtWork lock p q xs n → (k : IsMore lock q n r m)
      → IsAtWork lock p r (xs ++ k.holding ∷ []) m
  work_on p q r xs n m w k = record {
    goes = goes_on_by p q r xs (k.holding ∷ []) w.goes (goes_one q r k.holding k.goes);
    tasks = All-append (IsTask lock) xs (k.holding ∷ []) w.tasks (All-cons (IsTask lock) k.holding [] k.task (All-nil (IsTask lock)));
    count_is =
        let x = k.holding in
        let a = ap length (places_on length xs (x ∷ [])) in
        let b = length-append (places_of length xs) (places (length x.from) (length x.to - length x.from) ++ []) in
        let c = ap length (append-nil (places (length x.from) (length x.to - length x.from))) in
        let d = length_places (length x.from) (length x.to - length x.from) in
        let e = k.count_is in let f = w.count_is in omega (arith, a, b, c, d, e, f);
  }

  -- so many events more
  pub more_by : (q r : PassTo D g) (n m : ℕ) (from : List Entry) (added : List Event) → GoesOnce q r (adding from added) → IsTask lock (adding from added)
      → m ≡ n + length added → IsMore lock q n r m
  more_by q r n m from added h t e = record {
    holding = adding from added;
    goes = h;
    task = t;
    count_is = let a = length_on from added in omega (arith, a, e);
  }

  pub looked : (p q r : PassTo D g) (xs : List (Holding (List Entry))) (n : ℕ) (from : List Entry) → IsAtWork lock p q xs n → GoesOnce q r (adding from [])
      → IsTask lock (adding from []) → IsAtWork lock p r (xs ++ adding from [] ∷ []) n
  unfolding more_by
  looked p q r xs n from w h t = work_on p q r xs n n w (more_by q r n n from [] h t (omega (arith)))

  pub seen_more : (p q : PassTo D g) (from : List Entry) (added : List Event) → GoesOnce p q (adding from added) → length (seen p) + length added ≤ length (seen q)
  seen_more p q from added h =
      let a = prefix_length (seen p) from h.begins in let b = length_on from added in let c = ap length h.seen_is in omega (arith, a, b, c)

  -- the work is done with this holding
  done : (p q r : PassTo D g) (xs : List (Holding (List Entry))) (end : WorkerEnd) (from : List Entry) → IsAtWork lock p q xs (count_told end)
      → GoesOnce q r (adding from []) → IsTask lock (adding from []) → EndsBy lock end (adding from []) → IsWork lock p r end
  done p q r xs end from w h t ends =
      let all = looked p q r xs (count_told end) from w h t in record {
        holdings = xs ++ adding from [] ∷ [];
        last = adding from [];
        work = all;
        adds = All-weaker (IsTask lock) AddsADay (λ x. adds_a_day lock x) (xs ++ adding from [] ∷ []) all.tasks;
        last_is = last_on xs (adding from []);
        ends = ends;
      }

  pub drained : (p q r : PassTo D g) (xs : List (Holding (List Entry))) (count : ℕ) (from : List Entry) → IsAtWork lock p q xs count
      → GoesOnce q r (adding from []) → IsTask lock (adding from []) → IsDrained (fixed_in lock) (seen r) → IsWork lock p r (Drained count)
  drained p q r xs count from w h t is =
      done p q r xs (Drained count) from w h t (subst (λ (l : List Entry). IsDrained (fixed_in lock) l) (h.seen_is ∙ append-nil from) is)

  pub short : (p q r : PassTo D g) (xs : List (Holding (List Entry))) (count : ℕ) (from : List Entry) (result : Result Found texts.NoMemory) (failed : texts.NoMemory)
      → IsAtWork lock p q xs count → GoesOnce q r (adding from []) → (t : IsTask lock (adding from [])) → FindsBy t.step result → result ≡ Err failed
      → IsWork lock p r (NoMemory count)
  short p q r xs count from result failed w h t by is =
      done p q r xs (NoMemory count) from w h t (t, failed, subst (λ (found : Result Found texts.NoMemory). FindsBy t.step found) is by)
