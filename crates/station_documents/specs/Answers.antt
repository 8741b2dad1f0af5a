-- What is answered for what may be stated. Want of memory may come in place of any answer.
use Rattle.std.specs.Prelude.{List, Option, Some, None, Result, Ok, Err, Vec}
use Rattle.std.specs.declared.alloc.Global.{Global}
use Rattle.station_documents.specs.declared.faults.DocumentFault.{DocumentFault}
use Rattle.station_documents.specs.declared.faults.DocumentFault.TheVariants.{NoDocument, NoMemory}

-- what is found is stated, and where nothing is found nothing is
abbrev pub IsFound : {A : Type 0} → (A → Type 0) → Option A → Type 0
IsFound {A} States (Some value) = States value
IsFound {A} States None = (value : A) → ¬ States value

-- what is read is stated, and where there is no document nothing is
abbrev pub IsRead : {A : Type 0} → (A → Type 0) → Result A DocumentFault → Type 0
IsRead {A} States (Ok value) = States value
IsRead {A} States (Err NoDocument) = (value : A) → ¬ States value
IsRead {A} States (Err NoMemory) = Unit {0}

-- the same of a list that a vector holds
abbrev pub AreRead : {A : Type 0} → (List A → Type 0) → Result (Vec A Global) DocumentFault → Type 0
AreRead {A} States (Ok values) = States values.items
AreRead {A} States (Err NoDocument) = (values : List A) → ¬ States values
AreRead {A} States (Err NoMemory) = Unit {0}
