-- ASCII is text.
use Rattle.std.proofs.Common.{◌≡◌, sym, true}
use Rattle.std.specs.List.{list_all}
use Rattle.std.specs.Char.{is_ascii}
use Rattle.std.proofs.lemmas.Str.{IsUtf8-from_ascii}
use Rattle.http_api.proofs.RouteLemmas.{ascii_by_test}
use Rattle.http_api.proofs.routes.ascii.Goals as goal

pub returns-in-Err : goal.returns-in-Err
returns-in-Err c =
    let plain : list_all is_ascii c.args.target.now ≡ true = sym c.if-not-are_ascii.ensures in
    absurd (c.in-Err.ensures.cases.0 (IsUtf8-from_ascii c.args.target.now (ascii_by_test c.args.target.now plain)))
