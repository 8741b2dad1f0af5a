-- The text of a picture in parts.
use Rattle.std.specs.Prelude.{ℕ, List, decimal, flat_map}
use Rattle.fixed_units.specs.PublishedText.{published_text}
use Rattle.drawings.specs.Escapes.{escaped}
use Rattle.drawings.specs.declared.parts.Part.{Part}
use Rattle.drawings.specs.declared.parts.Part.TheVariants.{Plain, Name, Whole, Amount}

-- a part: bytes as they are, a name, a whole number, a number with decimals
abbrev pub part_text : Part → List ℕ
part_text (Plain bytes) = bytes.now
part_text (Name bytes) = escaped bytes.now
part_text (Whole n) = decimal n
part_text (Amount value) = published_text value

-- parts, one behind another
abbrev pub parts_text : List Part → List ℕ
parts_text parts = flat_map part_text parts
