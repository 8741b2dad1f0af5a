-- The numbers that every run keeps to.
use Rattle.std.specs.Prelude.{◌^◌}
use Rattle.office_inputs.specs.declared.limits.Limits.{Limits}

-- 500 stations, 16,000,000 readings, 1,500 of them on a local day of a station, 4,000,000 cells of days, 2^25 events, and a journal of 512 MiB
abbrev pub usual : Limits
usual = record {
  stations = 500;
  readings = 16000000;
  day_readings = 1500;
  cells = 4000000;
  events = 2 ^ 25;
  journal_bytes = 2 ^ 29;
}
