-- The target of the edits is spelled in one way; else the row is one of the routes, and its text and the target are ASCII.
use Rattle.std.proofs.Common.{◌≡◌, ◌∙◌, ap, sym, true}
use Rattle.std.proofs.lemmas.Slice.Eq.{bytes_eq-Decides}
use Rattle.std.specs.List.{list_all}
use Rattle.std.specs.Char.{is_ascii}
use Rattle.std.specs.Str.{IsAscii}
use Rattle.http_api.proofs.RouteLemmas.{ascii_by_test, edits_named, row_plain, walk_text}
use Rattle.http_api.specs.Routes.{spelling, target_of}
use Rattle.http_api.specs.declared.routes.Route.TheVariants.{Edits}
use Rattle.http_api.proofs.routes.Router.target.Goals as goal

pub target_by-requires : goal.target_by-requires
target_by-requires c =
    let params = c.in-Ok.found.params in
    let found = rw c.self.invariant at c.in-Ok.ensures.found in
    let text : IsAscii params.text.now = ascii_by_test params.text.now (row_plain _ _ found) in
    let plain : list_all is_ascii params.path.now ≡ true = rw (c.in-Ok.ensures.path, c.in_ok-text.ensures.1) c.in_ok-text.ensures.0 in
    walk_text params.pattern.now params.text.now params.path.now params.names.now 0 0 text (ascii_by_test params.path.now plain)

-- the target of the edits
pub returns-then-eq-clause-named : goal.returns-then-eq-clause-named
returns-then-eq-clause-named c =
    let is = (bytes_eq-Decides c.args.target.now c.as_bytes.result.now).0 (sym c.eq.ensures ∙ c.if-eq.true) in
    let spelled : c.args.target.now ≡ spelling Edits = is ∙ c.as_bytes.ensures.value ∙ c.spelling.ensures in
    sym (ap target_of spelled ∙ edits_named)
