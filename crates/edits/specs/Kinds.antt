-- The kinds of edits: of each a name and a number.
use Rattle.std.specs.Prelude.{ℕ, ◌==◌, List, [], ◌∷◌, codes, bytes_eq, find, Option}
use Rattle.edits.specs.declared.content.What.{What}
use Rattle.edits.specs.declared.content.What.TheVariants.{AddStation, SetStation, PutReadings, DropReadings, FlagReadings, PutCorrection, DropCorrection, PutShift, DropShift, AddRating, PutPeriod, DropPeriod, PutEstimate, DropEstimate, PutMeasurement, DropMeasurement, Review, Decide, SetEdition}
use Rattle.edits.specs.declared.kinds.Kind.{Kind}
use Rattle.edits.specs.declared.kinds.Kind.TheVariants as kinds

-- the kind of what an edit changes
abbrev pub kind_of : What → Kind
kind_of (AddStation name zone gap stage_array discharge_array) = kinds.AddStation
kind_of (SetStation name gap stage_array discharge_array) = kinds.SetStation
kind_of (PutReadings readings) = kinds.PutReadings
kind_of (DropReadings from to) = kinds.DropReadings
kind_of (FlagReadings from to flag) = kinds.FlagReadings
kind_of (PutCorrection set at curve prorate) = kinds.PutCorrection
kind_of (DropCorrection set at) = kinds.DropCorrection
kind_of (PutShift at curve prorate) = kinds.PutShift
kind_of (DropShift at) = kinds.DropShift
kind_of (AddRating rating table) = kinds.AddRating
kind_of (PutPeriod period) = kinds.PutPeriod
kind_of (DropPeriod from) = kinds.DropPeriod
kind_of (PutEstimate estimate) = kinds.PutEstimate
kind_of (DropEstimate day) = kinds.DropEstimate
kind_of (PutMeasurement measurement) = kinds.PutMeasurement
kind_of (DropMeasurement number) = kinds.DropMeasurement
kind_of (Review from to) = kinds.Review
kind_of (Decide from to decision) = kinds.Decide
kind_of (SetEdition day least) = kinds.SetEdition

-- the name of a kind, as a body has it
abbrev pub kind_name : Kind → List ℕ
kind_name kinds.AddStation = codes "AddStation"
kind_name kinds.SetStation = codes "SetStation"
kind_name kinds.PutReadings = codes "PutReadings"
kind_name kinds.DropReadings = codes "DropReadings"
kind_name kinds.FlagReadings = codes "FlagReadings"
kind_name kinds.PutCorrection = codes "PutCorrection"
kind_name kinds.DropCorrection = codes "DropCorrection"
kind_name kinds.PutShift = codes "PutShift"
kind_name kinds.DropShift = codes "DropShift"
kind_name kinds.AddRating = codes "AddRating"
kind_name kinds.PutPeriod = codes "PutPeriod"
kind_name kinds.DropPeriod = codes "DropPeriod"
kind_name kinds.PutEstimate = codes "PutEstimate"
kind_name kinds.DropEstimate = codes "DropEstimate"
kind_name kinds.PutMeasurement = codes "PutMeasurement"
kind_name kinds.DropMeasurement = codes "DropMeasurement"
kind_name kinds.Review = codes "Review"
kind_name kinds.Decide = codes "Decide"
kind_name kinds.SetEdition = codes "SetEdition"

-- the number of a kind, as a record has it
abbrev pub kind_number : Kind → ℕ
kind_number kinds.AddStation = 1
kind_number kinds.SetStation = 2
kind_number kinds.PutReadings = 3
kind_number kinds.DropReadings = 4
kind_number kinds.FlagReadings = 5
kind_number kinds.PutCorrection = 6
kind_number kinds.DropCorrection = 7
kind_number kinds.PutShift = 8
kind_number kinds.DropShift = 9
kind_number kinds.AddRating = 10
kind_number kinds.PutPeriod = 11
kind_number kinds.DropPeriod = 12
kind_number kinds.PutEstimate = 13
kind_number kinds.DropEstimate = 14
kind_number kinds.PutMeasurement = 15
kind_number kinds.DropMeasurement = 16
kind_number kinds.Review = 17
kind_number kinds.Decide = 18
kind_number kinds.SetEdition = 19

-- the kinds, by number
abbrev pub all_kinds : List Kind
all_kinds =
    kinds.AddStation ∷ kinds.SetStation ∷ kinds.PutReadings ∷ kinds.DropReadings ∷ kinds.FlagReadings ∷ kinds.PutCorrection ∷ kinds.DropCorrection ∷ kinds.PutShift ∷ kinds.DropShift ∷ kinds.AddRating ∷ kinds.PutPeriod ∷ kinds.DropPeriod ∷ kinds.PutEstimate ∷ kinds.DropEstimate ∷ kinds.PutMeasurement ∷ kinds.DropMeasurement ∷ kinds.Review ∷ kinds.Decide ∷ kinds.SetEdition ∷ []

-- the kind of a name, and of a number
abbrev pub kind_named : List ℕ → Option Kind
kind_named name = find (λ kind. bytes_eq name (kind_name kind)) all_kinds

abbrev pub kind_numbered : ℕ → Option Kind
kind_numbered number = find (λ kind. number == kind_number kind) all_kinds
