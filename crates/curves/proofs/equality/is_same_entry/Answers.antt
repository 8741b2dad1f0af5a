-- Part by part.
use Rattle.std.proofs.Common.{rules, ◌≡◌, Bool, Decides, sym, subst}
use Rattle.curves.proofs.EqualityLemmas.{entries_decide}
use Rattle.curves.specs.declared.entries.Entry.{Entry}
use Rattle.curves.proofs.equality.is_same_entry.Goals as goal

decided_as : (e f : Entry) (told test : Bool) → told ≡ test → Decides test (e ≡ f) → Decides told (e ≡ f)
decided_as e f told test same h = subst (λ (b : Bool). Decides b (e ≡ f)) (sym same) h

pub returns-then-eq-2-clause-same : goal.returns-then-eq-2-clause-same
returns-then-eq-2-clause-same c = search rules

pub returns-then-eq-2-clause-equal : goal.returns-then-eq-2-clause-equal
returns-then-eq-2-clause-equal c =
    decided_as _ _ _ _ (returns-then-eq-2-clause-same c) (entries_decide c.args.entry.now c.args.other.now)

pub returns-else-eq-2-clause-same : goal.returns-else-eq-2-clause-same
returns-else-eq-2-clause-same c = search rules

pub returns-else-eq-2-clause-equal : goal.returns-else-eq-2-clause-equal
returns-else-eq-2-clause-equal c =
    decided_as _ _ _ _ (returns-else-eq-2-clause-same c) (entries_decide c.args.entry.now c.args.other.now)
