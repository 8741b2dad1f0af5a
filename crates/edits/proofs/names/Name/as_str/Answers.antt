-- A name is text in ASCII.
use Rattle.std.proofs.Common.{subst, sym}
use Rattle.edits.specs.Texts.{IsName}
use Rattle.edits.proofs.TextLemmas.{name_utf8}
use Rattle.edits.proofs.names.Name.as_str.Goals as goal

pub unreachable-requires : goal.unreachable-requires
unreachable-requires c = c.in-Err.ensures.cases.0 (name_utf8 c.as_slice.result.now (subst IsName (sym c.as_slice.ensures.text) c.as_slice.ensures.kept))
