-- The requests that put readings, as `batch` and the server read them.
use Rattle.std.specs.Prelude.{ℕ, zero, suc, List, [], ◌∷◌, ◌++◌, length, codes, decimal}
use Rattle.std.specs.Fork.{slice_chunk}
use Rattle.std.specs.Int.{div_ceil}
use Rattle.std.specs.List.{flat_map}
use Rattle.fixed_units.specs.PublishedText.{micro_text}
use Rattle.fixed_units.specs.Quantities.{SiteNumber}
use Rattle.fixed_units.specs.declared.readings.Reading.{Reading}
use Rattle.civil_days.specs.Texts.{instant_text}
use Rattle.site_texts.specs.SiteText.{site_text}
use Rattle.logger_files.specs.Digests.{digest_from}

-- how many readings a request puts at most: each has at most 42 bytes
abbrev pub most_readings : ℕ
most_readings = 40_000

-- a reading, as a row of an edit's readings
abbrev pub reading_text : Reading → List ℕ
reading_text reading = codes "[\"" ++ instant_text reading.at ++ codes "\",\"" ++ micro_text reading.raw ++ codes "\"]"

-- a reading behind others
abbrev pub further_text : Reading → List ℕ
further_text reading = codes "," ++ reading_text reading

-- the rows of readings, with commas between
abbrev pub rows_text : List Reading → List ℕ
rows_text [] = []
rows_text (reading ∷ readings) = reading_text reading ++ flat_map further_text readings

-- some readings as an array in JSON
abbrev pub array_text : List Reading → List ℕ
array_text readings = codes "[" ++ rows_text readings ++ codes "]"

-- the number that is made of what an edit puts: of the person, of the site, and of the readings
abbrev pub content_digest : List ℕ → List ℕ → List ℕ → ℕ
content_digest by site array = digest_from (digest_from (digest_from 0 by) site) array

-- the edit that puts an array of readings, under a reference that is made of its content
abbrev pub body_text : List ℕ → List ℕ → List ℕ → List ℕ
body_text by site array =
    codes "{\"kind\":\"PutReadings\",\"by\":\"" ++ by ++ codes "\",\"ref\":\"bring-" ++ decimal (content_digest by site array)
    ++ codes "\",\"site\":\"" ++ site ++ codes "\",\"readings\":" ++ array ++ codes "}"

-- a request with a body
abbrev pub posted : List ℕ → List ℕ
posted body = codes "POST /edits HTTP/1.1\r\nContent-Length: " ++ decimal (length body) ++ codes "\r\n\r\n" ++ body

-- the request by which a person puts readings at a site
abbrev pub request_text : List ℕ → SiteNumber → List Reading → List ℕ
request_text by site readings = posted (body_text by (site_text site) (array_text readings))

-- the requests of the first chunks of readings, in order
unfoldable pub requests_upto : List ℕ → SiteNumber → List Reading → ℕ → List ℕ
requests_upto by site readings zero = []
requests_upto by site readings (suc count) =
    requests_upto by site readings count ++ request_text by site (slice_chunk readings most_readings count)

-- the requests of readings: of each chunk of them, of which the last may be shorter
abbrev pub requests_text : List ℕ → SiteNumber → List Reading → List ℕ
requests_text by site readings = requests_upto by site readings (div_ceil (length readings) most_readings)
