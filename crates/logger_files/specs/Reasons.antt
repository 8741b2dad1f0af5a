-- Why a row is not taken, in words.
use Rattle.std.specs.Prelude.{ℕ, List, codes, decimal, ◌++◌}
use Rattle.logger_files.specs.declared.reasons.Reason.{Reason}
use Rattle.logger_files.specs.declared.reasons.Reason.TheVariants.{NoTime, Time, NoField, NoValue, NoNumber, Decimals, Range, Order}

abbrev pub reason_text : Reason → List ℕ
reason_text NoTime = codes "no time"
reason_text Time = codes "no time by the pattern"
reason_text NoField = codes "no field for a value"
reason_text NoValue = codes "no value"
reason_text NoNumber = codes "no number"
reason_text Decimals = codes "more than six decimals"
reason_text Range = codes "out of range"
reason_text Order = codes "not after the row taken before"

-- the line that tells it of a row
abbrev pub told_line : ℕ → Reason → List ℕ
told_line number reason = codes "line " ++ decimal number ++ codes ": " ++ reason_text reason ++ codes "\n"
