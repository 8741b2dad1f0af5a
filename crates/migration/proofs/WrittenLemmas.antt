-- What is written to append records, one behind another.
use Rattle.std.proofs.Common.{◌≡◌, inl, inr, ℕ, suc, ◌+◌, ◌<◌, ◌≤◌, List, [], ◌∷◌, ◌++◌, length, take, drop, get_or, flat_map, Option, Some, None, IfSome, refl, sym, ◌∙◌, ap, subst, arith, append_assoc, length-append, take-append-drop}
use Rattle.std.proofs.lemmas.Grind.{flat_map-append}
use Rattle.std.proofs.lemmas.List.{append-nil, append_cancel_left, drop-drop, drop_all, drop_at, length-take-le, take_at, take_more}
use Rattle.devices.specs.declared.disks.Disk.{Ghosts}
use Rattle.devices.specs.Disks.{IsOverwritten, overwritten}
use Rattle.journal.proofs.Walks.{one_list}
use Rattle.journal.specs.JournalBytes.{IsJournalOf, IsTaken, block, empty_journal, front, header}
use Rattle.journal.specs.Keeping.{Holds}
use Rattle.journal.specs.declared.keeping.Journal.{Journal}
use Rattle.records.specs.Payloads.{closed_gate}
use Rattle.records.specs.Sheets.{Record}
use Rattle.records.specs.declared.formats.Format.TheVariants.{Second}
use Rattle.migration.specs.Copying.{IsCopied, appended}

-- a write of no bytes changes none
pub over_none : (old : List ℕ) (at : ℕ) → overwritten old at [] ≡ old
over_none old at =
    let here : at + 0 ≡ at = omega arith in
    ap (λ (l : List ℕ). l ++ drop (at + 0) old) (append-nil (take at old)) ∙ ap (λ (n : ℕ). take at old ++ drop n old) here ∙ take-append-drop at old

pub wrote_none : (content : Option (List ℕ)) (at : ℕ) → IsOverwritten content at [] content
wrote_none None at = refl
wrote_none (Some old) at = ap Some (sym (over_none old at))

-- bytes that are written over the last one of others
over_last : (old first next : List ℕ) (at last end : ℕ) → at ≤ length old
    → overwritten (overwritten old at (first ++ last ∷ [])) (at + length first) (next ++ end ∷ []) ≡ overwritten old at (first ++ (next ++ end ∷ []))
over_last old first next at last end begins =
    let before = take at old in
    let rest = drop (at + length (first ++ last ∷ [])) old in
    let mid = overwritten old at (first ++ last ∷ []) in
    let more = next ++ end ∷ [] in
    let behind = drop (at + length (first ++ more)) old in
    let long : length (before ++ first) ≡ at + length first =
    length-append before first ∙ ap (λ (n : ℕ). n + length first) (length-take-le at old begins) in
    let parts : mid ≡ (before ++ first) ++ (last ∷ rest) =
    append_assoc before (first ++ last ∷ []) rest
    ∙ ap (λ (l : List ℕ). before ++ l) (append_assoc first (last ∷ []) rest)
    ∙ sym (append_assoc before first (last ∷ rest)) in
    let front_is : take (at + length first) mid ≡ before ++ first =
    ap (take (at + length first)) parts ∙ take_at (before ++ first) (last ∷ rest) (at + length first) long in
    let tail_is : drop (at + length first) mid ≡ last ∷ rest =
    ap (drop (at + length first)) parts ∙ drop_at (before ++ first) (last ∷ rest) (at + length first) long in
    let one_more : length more ≡ suc (length next) = omega (arith, length-append next (end ∷ [])) in
    let firsts : length (first ++ last ∷ []) ≡ length first + 1 = length-append first (last ∷ []) in
    let all : length (first ++ more) ≡ length first + length more = length-append first more in
    let place : at + length (first ++ last ∷ []) + length next ≡ at + length (first ++ more) = omega (arith, one_more, firsts, all) in
    let behind_is : drop (at + length first + length more) mid ≡ behind =
    sym (drop-drop (length more) (at + length first) mid)
    ∙ ap (drop (length more)) tail_is
    ∙ ap (λ (n : ℕ). drop n (last ∷ rest)) one_more
    ∙ drop-drop (length next) (at + length (first ++ last ∷ [])) old
    ∙ ap (λ (n : ℕ). drop n old) place in
    ap (λ (l : List ℕ). (l ++ more) ++ drop (at + length first + length more) mid) front_is
    ∙ ap (λ (l : List ℕ). ((before ++ first) ++ more) ++ l) behind_is
    ∙ ap (λ (l : List ℕ). l ++ behind) (append_assoc before first more)

-- and one more record
appended_more : (records : List Record) (piece : Record)
    → appended (records ++ piece ∷ []) ≡ flat_map (block Second) records ++ (block Second piece ++ closed_gate ∷ [])
appended_more [] piece = ap (λ (l : List ℕ). l ++ closed_gate ∷ []) (append-nil (block Second piece))
appended_more (first ∷ more) piece =
    ap (λ (l : List ℕ). l ++ closed_gate ∷ [])
    (flat_map-append (block Second) (first ∷ more) (piece ∷ [])
    ∙ ap (λ (l : List ℕ). flat_map (block Second) (first ∷ more) ++ l) (append-nil (block Second piece)))
    ∙ append_assoc (flat_map (block Second) (first ∷ more)) (block Second piece) (closed_gate ∷ [])

over_more : (old : List ℕ) (at : ℕ) (records : List Record) (piece : Record) → at ≤ length old
    → overwritten (overwritten old at (appended records)) (at + length (flat_map (block Second) records)) (block Second piece ++ closed_gate ∷ [])
    ≡ overwritten old at (appended (records ++ piece ∷ []))
over_more old at [] piece begins =
    let bytes = block Second piece ++ closed_gate ∷ [] in
    let here : at + 0 ≡ at = omega arith in
    ap (λ (l : List ℕ). overwritten l (at + 0) bytes) (over_none old at)
    ∙ ap (λ (n : ℕ). overwritten old n bytes) here
    ∙ ap (overwritten old at) (sym (appended_more [] piece))
over_more old at (first ∷ more) piece begins =
    over_last old (flat_map (block Second) (first ∷ more)) (block Second piece) at closed_gate closed_gate begins
    ∙ ap (overwritten old at) (sym (appended_more (first ∷ more) piece))

wrote_more : (before mid after : Option (List ℕ)) (at gate : ℕ) (records : List Record) (piece : Record) → IfSome before (λ old. at ≤ length old)
    → gate ≡ at + length (flat_map (block Second) records) → IsOverwritten before at (appended records) mid
    → IsOverwritten mid gate (block Second piece ++ closed_gate ∷ []) after → IsOverwritten before at (appended (records ++ piece ∷ [])) after
wrote_more None mid after at gate records piece begins is first next =
    subst (λ (o : Option (List ℕ)). IsOverwritten o gate (block Second piece ++ closed_gate ∷ []) after) first next
wrote_more (Some old) mid after at gate records piece begins is first next =
    let bytes = block Second piece ++ closed_gate ∷ [] in
    subst (λ (o : Option (List ℕ)). IsOverwritten o gate bytes after) first next
    ∙ ap (λ (n : ℕ). Some (overwritten (overwritten old at (appended records)) n bytes)) is
    ∙ ap Some (over_more old at records piece begins)

pub wrote_on : (records : List Record) (index : ℕ) (piece : Record) (before mid after : Option (List ℕ)) (start gate : ℕ) → index < length records
    → piece ≡ get_or records index piece → IfSome before (λ old. start ≤ length old)
    → gate ≡ start + length (flat_map (block Second) (take index records)) → IsOverwritten before start (appended (take index records)) mid
    → IsOverwritten mid gate (block Second piece ++ closed_gate ∷ []) after → IsOverwritten before start (appended (take (index + 1) records)) after
wrote_on records index piece before mid after start gate lt here begins is first next =
    let one_more : take (index + 1) records ≡ take index records ++ piece ∷ [] =
    take_more records index piece lt ∙ ap (λ (r : Record). take index records ++ r ∷ []) (sym here) in
    subst (λ (l : List Record). IsOverwritten before start (appended l) after) (sym one_more)
    (wrote_more before mid after start gate (take index records) piece begins is first next)

-- the gate stands within a journal
within : {D : Type 0} {g : Ghosts D} (done : List Record) (journal : Journal D g) (content : Option (List ℕ)) → journal.gate ≡ length (front journal.format done)
    → IfSome content (IsJournalOf journal.format done) → IfSome content (λ bytes. journal.gate ≤ length bytes)
within done journal None at is = tt
within done journal (Some bytes) at is =
    let whole = ap length is.bytes_are in
    let parts = length-append (front journal.format done) is.rest in
    omega (arith, at, whole, parts)

pub gate_within : {D : Type 0} {g : Ghosts D} (done : List Record) (journal : Journal D g) → Holds done None journal
    → IfSome (g.content journal.disk) (λ bytes. journal.gate ≤ length bytes)
gate_within {g = g} done journal holds = within done journal (g.content journal.disk) holds.gate_is holds.now

-- the records behind one of none, and nothing behind them
over_empty : (records : List Record) → overwritten (empty_journal Second) (length (front Second [])) (appended records) ≡ front Second records ++ closed_gate ∷ []
over_empty [] = refl
over_empty (piece ∷ more) =
    let blocks = flat_map (block Second) (piece ∷ more) in
    let bytes = blocks ++ closed_gate ∷ [] in
    let long : length bytes ≡ length blocks + 1 = length-append blocks (closed_gate ∷ []) in
    let none : drop (16 + length bytes) (empty_journal Second) ≡ [] = drop_all (16 + length bytes) (empty_journal Second) (omega (arith, long)) in
    ap (λ (l : List ℕ). (header Second ++ bytes) ++ l) none
    ∙ append-nil (header Second ++ bytes)
    ∙ sym (append_assoc (header Second) blocks (closed_gate ∷ []))

pub made_copy : (records first rest : List Record) → first ≡ [] → records ≡ first ++ rest
    → overwritten (empty_journal Second) (length (front Second first)) (appended rest) ≡ front Second records ++ closed_gate ∷ []
made_copy records first rest none parts =
    ap (λ (l : List Record). overwritten (empty_journal Second) (length (front Second l)) (appended rest)) none
    ∙ over_empty rest
    ∙ ap (λ (l : List Record). front Second l ++ closed_gate ∷ []) (sym (parts ∙ ap (λ (l : List Record). l ++ rest) none))

-- where all of the records stand there already, nothing is written
pub whole_stays : (records : List Record) (bytes copy : List ℕ) → IsTaken bytes → IsJournalOf Second records bytes → IsCopied records bytes copy → copy ≡ bytes
whole_stays records bytes copy taken stood (inl made) = absurd (made.0.0 taken)
whole_stays records bytes copy taken stood (inr over) =
    let same : over.0 ≡ records = one_list Second over.0 records bytes over.2 stood in
    let none : over.1 ≡ [] =
    append_cancel_left records over.1 []
    (ap (λ (l : List Record). l ++ over.1) (sym same) ∙ sym over.3 ∙ sym (append-nil records)) in
    over.4
    ∙ ap (λ (l : List Record). overwritten bytes (length (front Second over.0)) (appended l)) none
    ∙ over_none bytes (length (front Second over.0))
