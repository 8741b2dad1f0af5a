use Rattle.std.specs.Prelude.{◌≡◌, ◌+◌, ◌≤◌, ℕ, All, length, true, vec_capacity, vec_len}
use mathlib.Core.List.{IsPrefix}
use Rattle.devices.specs.Doors.{ends_of}
use Rattle.serving.specs.Connections.{IsTasked}
use Rattle.serving.specs.Taking.{AreTasked}
use Rattle.shared_office.specs.Passing.{IsOf, Lock}
use Rattle.turnstile.specs.Passes.{seen, share, tally}
use Rattle.serving.proofs.accepting.take_connections.Given as goal

-- so many connections were taken, and each has its task
abbrev pub invariant-loop : goal.invariant-loop
invariant-loop g l =
    record {
      count : vec_len l.tasks ≡ l.counter;
      shares : share l.pass + l.counter ≡ share l.fn.given;
      tally_is : tally l.pass ≡ tally l.fn.given;
      begins : IsPrefix (seen l.fn.given) (seen l.pass);
      given : length (g.L.Doors.told l.doors).given ≡ l.counter;
      back : (n : ℕ) → (g.L.Doors.told l.doors).back n ≡ (g.L.Doors.told l.fn.doors).back n;
      listens : g.L.Doors.listens l.doors ≡ true;
      faults : g.L.Doors.faults l.doors ≡ g.L.Doors.faults l.fn.doors;
      locks : vec_len l.locks + l.counter ≡ vec_len l.fn.locks;
      room : vec_capacity l.tasks ≡ vec_capacity l.fn.tasks;
      own : (lock : Lock g.row.D.Denot g.D.Disk) × All (λ k. k.value ≡ lock) l.locks.items × IsOf lock l.pass;
      each : (lock : Lock g.row.D.Denot g.D.Disk) → All (λ k. k.value ≡ lock) l.fn.locks.items → IsOf lock l.fn.given
          → All (λ k. k.value ≡ lock) l.locks.items × IsOf lock l.pass
          × AreTasked (IsTasked (λ p. p.lock.value) (λ p. p.given.value) (λ p. ends_of g.L.In.Source g.L.Out.Sink p.input.value p.output.value) g.L.Doors.ends lock (seen l.fn.given))
          (g.L.Doors.told l.doors).given l.tasks.items;
    }
