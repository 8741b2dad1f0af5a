use Rattle.std.proofs.Common.{◌≡◌, ℕ, ◌+◌, ◌≤◌, List, ◌++◌, length, take, drop, sym, ◌∙◌, ap, rules, arith}
use Rattle.std.proofs.lemmas.List.{take-append-drop, take_at, drop-drop}
use Rattle.std.proofs.Math.Seq.{length-take-le}
use Rattle.devices.proofs.memory_source.MemorySourceSource.take.Goals as goal

-- what was copied is the front of what was left
front : (n p : ℕ) (left bytes copied into : List ℕ) → left ≡ drop p bytes → copied ≡ take n left → n ≤ length left
    → left ≡ take n (copied ++ drop n into) ++ drop (p + n) bytes
front n p left bytes copied into e f h =
    let len : length copied ≡ n = ap length f ∙ length-take-le n left h in
    rw (take_at copied (drop n into) n len, f, ← drop-drop n p bytes, ← e) (sym (take-append-drop n left))

pub returns-clause-taken : goal.returns-clause-taken
returns-clause-taken c =
    let left : c.args.self.now.left ≡ drop c.self.inside.position c.self.inside.bytes.items = search rules in
    let same : c.rest-rest.result.now ≡ c.args.self.now.left = search rules in
    let count : c.min-count.result ≤ length c.rest-rest.result.now = omega arith in
    let copied : c.copy_from_slice.new.self ≡ take c.min-count.result c.rest-rest.result.now = search rules in
    front c.min-count.result c.self.inside.position c.args.self.now.left c.self.inside.bytes.items c.copy_from_slice.new.self c.args.into.now
    left (copied ∙ ap (take c.min-count.result) same) (rw (← same) count)
