-- Series: entries of an instant, a curve and a mark, and the amount in force at an instant. That each entry has
-- its own mark, ends only where the next one stands, and is prorated with a second rounding is this project's choice.
use Rattle.std.specs.Prelude.{◌≡◌, Bool, true, false, List, [], ◌∷◌, ◌++◌, ℤ, pos, ◌≤ℤ◌, ◌<ℤ◌, if◌then◌else◌, Option, Some, None, is_some, All}
use Rattle.rising.specs.Lists as lists
use Rattle.fixed_units.specs.Lines.{line_at}
use Rattle.fixed_units.specs.Quantities.{IsAmount}
use Rattle.rising.specs.Lists.{up_to, after}
use Rattle.rising.specs.Ends.{first, last}
use Rattle.curves.specs.Curve.{curve_value}
use Rattle.curves.specs.declared.entries.Entry.{Entry}

-- an entry of these parts
abbrev pub entry_of : ℤ → List (ℤ × ℤ) → Bool → Entry
entry_of at curve prorate = record { at = at; curve = curve; prorate = prorate }

-- what an entry stands at
abbrev pub instant_of : Entry → ℤ
instant_of entry = entry.at

-- the instants strictly rise
abbrev pub IsRising : List Entry → Type 0
IsRising entries = lists.IsRising instant_of entries

-- the amount at an instant between two entries: the line between the values of their curves, rounded once more
abbrev pub amount_prorated : Entry → Entry → ℤ → ℤ → ℤ
amount_prorated entry next at stage = line_at (entry.at, curve_value entry.curve stage) (next.at, curve_value next.curve stage) at

-- the amount by the entry that governs an instant and the next one: 0 before the first entry, the value of the
-- curve without proration, and the line between the two with it
abbrev pub amount_in_force : Option Entry → Option Entry → ℤ → ℤ → ℤ
amount_in_force None next at stage = pos 0
amount_in_force (Some entry) None at stage = curve_value entry.curve stage
amount_in_force (Some entry) (Some next) at stage =
    if entry.prorate then amount_prorated entry next at stage else curve_value entry.curve stage

-- the value of a series at an instant and a stage: the last entry up to the instant governs
abbrev pub series_value : List Entry → ℤ → ℤ → ℤ
series_value entries at stage =
    amount_in_force (last (up_to instant_of at entries)) (first (after instant_of at entries)) at stage

-- v is the value at an instant and a stage by the cases of the rule: before the first entry, from the last one on,
-- and between two neighbours, where the first of them does not prorate and where it does
pub record IsSeriesValue (entries : List Entry) (at stage v : ℤ) : Type 0 where
  pub before : All (λ e. at <ℤ e.at) entries → v ≡ pos 0
  pub last : (es : List Entry) (e : Entry) → entries ≡ es ++ e ∷ [] → e.at ≤ℤ at → v ≡ curve_value e.curve stage
  pub held : (es ns : List Entry) (e n : Entry) → entries ≡ es ++ e ∷ n ∷ ns → e.at ≤ℤ at → at <ℤ n.at → e.prorate ≡ false → v ≡ curve_value e.curve stage
  pub prorated : (es ns : List Entry) (e n : Entry) → entries ≡ es ++ e ∷ n ∷ ns → e.at ≤ℤ at → at <ℤ n.at → e.prorate ≡ true → v ≡ amount_prorated e n at stage

-- the amounts of all curves have the range of an amount
abbrev pub AreAmounts : List Entry → Type 0
AreAmounts entries = All (λ entry. All (λ p. IsAmount p.1) entry.curve) entries

-- what the entries of a series keep to: they rise, and their amounts are in range
pub record IsSeries (entries : List Entry) : Type 0 where
  pub rising : IsRising entries
  pub amounts : AreAmounts entries

-- of these entries the last one before an instant, the one at it, and the first one after it
abbrev pub entry_before : ℤ → List Entry → Option Entry
entry_before at entries = last (lists.before instant_of at entries)

abbrev pub entry_at : ℤ → List Entry → Option Entry
entry_at at entries = lists.at instant_of at entries

abbrev pub entry_after : ℤ → List Entry → Option Entry
entry_after at entries = first (lists.after instant_of at entries)

-- whether an entry stands at an instant
abbrev pub stands_at : ℤ → List Entry → Bool
stands_at at entries = is_some (entry_at at entries)

-- the entries without the one at an instant
abbrev pub without : ℤ → List Entry → List Entry
without at entries = lists.without instant_of at entries

-- the entries with one put among them, in place of the one at its instant
abbrev pub put : Entry → List Entry → List Entry
put entry entries = lists.put instant_of entry entries
