-- What a sink keeps: the bytes that were put, in order.
use Rattle.std.specs.Prelude.{◌≡◌, ◌≢◌, ℕ, ◌<◌, ◌≤◌, Bool, true, false, List, [], ◌++◌, take, Option, Some, IfSome, IsSomeAnd, ⊤}
use Rattle.devices.specs.declared.sinks.Put.{Put}
use Rattle.devices.specs.declared.sinks.Put.TheVariants.{Bytes, Failed}
use Rattle.devices.specs.Faults.{Rose}

-- at least one byte was taken, and no more than there were
abbrev pub IsPutWithin : ℕ → Put → Type 0
IsPutWithin room (Bytes n) = (0 < n) × (n ≤ room)
IsPutWithin room Failed = ⊤

-- what the sink has then: the bytes that it took are at its end, and a failure adds nothing
abbrev pub with_put : List ℕ → List ℕ → Put → List ℕ
with_put before bytes (Bytes n) = before ++ take n bytes
with_put before bytes Failed = before

-- a sink that tells its bytes goes on telling them
abbrev pub Puts : Option (List ℕ) → List ℕ → Option (List ℕ) → Put → Type 0
Puts before bytes after put = IfSome before (λ b. after ≡ Some (with_put b bytes put))

-- the count of faults rises where it failed, and stays where it did not
abbrev pub HasCause : ℕ → ℕ → Put → Type 0
HasCause before now (Bytes n) = now ≡ before
HasCause before now Failed = Rose before now

-- the bytes that were written are a front of these, and not all
abbrev pub IsCutShort : List ℕ → List ℕ → Type 0
IsCutShort written whole = (more : List ℕ) × (more ≢ []) × (whole ≡ written ++ more)

-- the sink has all bytes at its end, or where it failed a front of them that is not all
abbrev pub IsWritten : Bool → List ℕ → List ℕ → List ℕ → Type 0
IsWritten true before bytes after = after ≡ before ++ bytes
IsWritten false before bytes after = (part : List ℕ) × (after ≡ before ++ part) × IsCutShort part bytes

abbrev pub AreWritten : Option (List ℕ) → List ℕ → Option (List ℕ) → Bool → Type 0
AreWritten before bytes after done = IfSome before (λ b. IsSomeAnd after (λ a. IsWritten done b bytes a))
