use Rattle.std.proofs.Common.{◌≡◌, ℕ, List, [], true, false, Ok, Err, refl, sym, ◌∙◌, arith, rules}
use Rattle.edit_bodies.proofs.ChainLemmas.{read_on, stopped, made, further, not_made}
use Rattle.edit_bodies.proofs.bodies.edit_from.Goals as goal
use Rattle.edit_bodies.specs.Answers.{IsRead}
use Rattle.edit_bodies.specs.Bodies.{Parts, edit_row}
use Rattle.edit_bodies.specs.Grammars.{by_of, comment_of, reference_of, site_of}
use Rattle.edit_bodies.specs.Kinds.{kind_of, row}
use Rattle.edit_bodies.specs.Members.{Reader, ◌>>=◌, done, optional, required}
use Rattle.edits.specs.declared.kinds.Kind.{Kind}
use Rattle.edit_bodies.specs.declared.members.Member.TheVariants as named
use Rattle.edits.specs.declared.content.What.{What}
use Rattle.fixed_units.specs.Quantities.{SiteNumber}
use Rattle.serde_json.specs.Data.{Members}
use Rattle.edit_bodies.specs.Trees.{left}

-- the parts of an edit, and what is read after each member
abbrev parts_of : List ℕ → List ℕ → SiteNumber → What → List ℕ → Parts
parts_of by reference site what comment =
    record { by = by; reference = reference; site = site; comment = comment; what = what }

abbrev after_comment : List ℕ → List ℕ → SiteNumber → What → List ℕ → Reader Parts
after_comment by reference site what comment = done (parts_of by reference site what comment)

abbrev after_what : Kind → List ℕ → List ℕ → SiteNumber → What → Reader Parts
after_what kind by reference site what =
    optional named.Comment [] comment_of >>= after_comment by reference site what

abbrev after_site : Kind → List ℕ → List ℕ → SiteNumber → Reader Parts
after_site kind by reference site = row kind >>= after_what kind by reference site

abbrev after_reference : Kind → List ℕ → List ℕ → Reader Parts
after_reference kind by reference = required named.Site site_of >>= after_site kind by reference

abbrev after_by : Kind → List ℕ → Reader Parts
after_by kind by = required named.Ref reference_of >>= after_reference kind by

abbrev after_kind : Kind → Reader Parts
after_kind kind = required named.By by_of >>= after_by kind

pub returns-in_err-kind : goal.returns-in_err-kind
returns-in_err-kind c =
    let same : c.from_residual.result ≡ Err c.in_err-kind.field-0.0 = search rules in
    not_made (left c.args.fields.now) (left c.take_kind.new.fields) c.in_err-kind.field-0.0 c.from_residual.result same
    (stopped (required named.Kind kind_of) after_kind (left c.args.fields.now) (left c.take_kind.new.fields) (left c.take_kind.new.fields) c.in_err-kind.field-0.0 c.in_err-kind.ensures)

pub returns-in_err-by : goal.returns-in_err-by
returns-in_err-by c =
    let same : c.from_residual-in_err-by.result ≡ Err c.in_err-by.field-0.0 = search rules in
    not_made (left c.args.fields.now) (left c.take_by.new.fields) c.in_err-by.field-0.0 c.from_residual-in_err-by.result same
    (read_on (required named.Kind kind_of) after_kind (left c.args.fields.now) (left c.take_kind.new.fields) (left c.take_by.new.fields) c.in_ok-kind.kind (Err c.in_err-by.field-0.0) c.in_ok-kind.ensures
    (stopped (required named.By by_of) (after_by c.in_ok-kind.kind) (left c.take_kind.new.fields) (left c.take_by.new.fields) (left c.take_by.new.fields) c.in_err-by.field-0.0 c.in_err-by.ensures))

pub returns-in_err-reference : goal.returns-in_err-reference
returns-in_err-reference c =
    let same : c.from_residual-in_err-reference.result ≡ Err c.in_err-reference.field-0.0 = search rules in
    not_made (left c.args.fields.now) (left c.take_reference.new.fields) c.in_err-reference.field-0.0 c.from_residual-in_err-reference.result same
    (read_on (required named.Kind kind_of) after_kind (left c.args.fields.now) (left c.take_kind.new.fields) (left c.take_reference.new.fields) c.in_ok-kind.kind (Err c.in_err-reference.field-0.0) c.in_ok-kind.ensures
    (read_on (required named.By by_of) (after_by c.in_ok-kind.kind) (left c.take_kind.new.fields) (left c.take_by.new.fields) (left c.take_reference.new.fields) c.in_ok-by.by (Err c.in_err-reference.field-0.0) c.in_ok-by.ensures
    (stopped (required named.Ref reference_of) (after_reference c.in_ok-kind.kind c.in_ok-by.by) (left c.take_by.new.fields) (left c.take_reference.new.fields) (left c.take_reference.new.fields) c.in_err-reference.field-0.0 c.in_err-reference.ensures)))

pub returns-in_err-site : goal.returns-in_err-site
returns-in_err-site c =
    let same : c.from_residual-in_err-site.result ≡ Err c.in_err-site.field-0.0 = search rules in
    not_made (left c.args.fields.now) (left c.take_site.new.fields) c.in_err-site.field-0.0 c.from_residual-in_err-site.result same
    (read_on (required named.Kind kind_of) after_kind (left c.args.fields.now) (left c.take_kind.new.fields) (left c.take_site.new.fields) c.in_ok-kind.kind (Err c.in_err-site.field-0.0) c.in_ok-kind.ensures
    (read_on (required named.By by_of) (after_by c.in_ok-kind.kind) (left c.take_kind.new.fields) (left c.take_by.new.fields) (left c.take_site.new.fields) c.in_ok-by.by (Err c.in_err-site.field-0.0) c.in_ok-by.ensures
    (read_on (required named.Ref reference_of) (after_reference c.in_ok-kind.kind c.in_ok-by.by) (left c.take_by.new.fields) (left c.take_reference.new.fields) (left c.take_site.new.fields) c.in_ok-reference.reference (Err c.in_err-site.field-0.0) c.in_ok-reference.ensures
    (stopped (required named.Site site_of) (after_site c.in_ok-kind.kind c.in_ok-by.by c.in_ok-reference.reference) (left c.take_reference.new.fields) (left c.take_site.new.fields) (left c.take_site.new.fields) c.in_err-site.field-0.0 c.in_err-site.ensures))))

pub returns-in_err-what : goal.returns-in_err-what
returns-in_err-what c =
    let same : c.from_residual-in_err-what.result ≡ Err c.in_err-what.field-0.0 = search rules in
    not_made (left c.args.fields.now) (left c.take_what.new.fields) c.in_err-what.field-0.0 c.from_residual-in_err-what.result same
    (read_on (required named.Kind kind_of) after_kind (left c.args.fields.now) (left c.take_kind.new.fields) (left c.take_what.new.fields) c.in_ok-kind.kind (Err c.in_err-what.field-0.0) c.in_ok-kind.ensures
    (read_on (required named.By by_of) (after_by c.in_ok-kind.kind) (left c.take_kind.new.fields) (left c.take_by.new.fields) (left c.take_what.new.fields) c.in_ok-by.by (Err c.in_err-what.field-0.0) c.in_ok-by.ensures
    (read_on (required named.Ref reference_of) (after_reference c.in_ok-kind.kind c.in_ok-by.by) (left c.take_by.new.fields) (left c.take_reference.new.fields) (left c.take_what.new.fields) c.in_ok-reference.reference (Err c.in_err-what.field-0.0) c.in_ok-reference.ensures
    (read_on (required named.Site site_of) (after_site c.in_ok-kind.kind c.in_ok-by.by c.in_ok-reference.reference) (left c.take_reference.new.fields) (left c.take_site.new.fields) (left c.take_what.new.fields) c.in_ok-site.site (Err c.in_err-what.field-0.0) c.in_ok-site.ensures
    (stopped (row c.in_ok-kind.kind) (after_what c.in_ok-kind.kind c.in_ok-by.by c.in_ok-reference.reference c.in_ok-site.site) (left c.take_site.new.fields) (left c.take_what.new.fields) (left c.take_what.new.fields) c.in_err-what.field-0.0 c.in_err-what.ensures.read)))))

pub returns-in_err-comment : goal.returns-in_err-comment
returns-in_err-comment c =
    let same : c.from_residual-in_err-comment.result ≡ Err c.in_err-comment.field-0.0 = search rules in
    not_made (left c.args.fields.now) (left c.take_comment.new.fields) c.in_err-comment.field-0.0 c.from_residual-in_err-comment.result same
    (read_on (required named.Kind kind_of) after_kind (left c.args.fields.now) (left c.take_kind.new.fields) (left c.take_comment.new.fields) c.in_ok-kind.kind (Err c.in_err-comment.field-0.0) c.in_ok-kind.ensures
    (read_on (required named.By by_of) (after_by c.in_ok-kind.kind) (left c.take_kind.new.fields) (left c.take_by.new.fields) (left c.take_comment.new.fields) c.in_ok-by.by (Err c.in_err-comment.field-0.0) c.in_ok-by.ensures
    (read_on (required named.Ref reference_of) (after_reference c.in_ok-kind.kind c.in_ok-by.by) (left c.take_by.new.fields) (left c.take_reference.new.fields) (left c.take_comment.new.fields) c.in_ok-reference.reference (Err c.in_err-comment.field-0.0) c.in_ok-reference.ensures
    (read_on (required named.Site site_of) (after_site c.in_ok-kind.kind c.in_ok-by.by c.in_ok-reference.reference) (left c.take_reference.new.fields) (left c.take_site.new.fields) (left c.take_comment.new.fields) c.in_ok-site.site (Err c.in_err-comment.field-0.0) c.in_ok-site.ensures
    (read_on (row c.in_ok-kind.kind) (after_what c.in_ok-kind.kind c.in_ok-by.by c.in_ok-reference.reference c.in_ok-site.site) (left c.take_site.new.fields) (left c.take_what.new.fields) (left c.take_comment.new.fields) c.in_ok-what.what (Err c.in_err-comment.field-0.0) c.in_ok-what.ensures.read
    (stopped (optional named.Comment [] comment_of) (after_comment c.in_ok-by.by c.in_ok-reference.reference c.in_ok-site.site c.in_ok-what.what) (left c.take_what.new.fields) (left c.take_comment.new.fields) (left c.take_comment.new.fields) c.in_err-comment.field-0.0 c.in_err-comment.ensures))))))

-- all of them are read, one after another
all_read : (start kinded signed referred sited told end : Members) (kind : Kind) (by reference : List ℕ) (site : SiteNumber) (what : What) (comment : List ℕ)
    → IsRead (required named.Kind kind_of) start (Ok kind) kinded → IsRead (required named.By by_of) kinded (Ok by) signed
    → IsRead (required named.Ref reference_of) signed (Ok reference) referred → IsRead (required named.Site site_of) referred (Ok site) sited
    → IsRead (row kind) sited (Ok what) told → IsRead (optional named.Comment [] comment_of) told (Ok comment) end
    → edit_row start ≡ Ok (parts_of by reference site what comment, end)
all_read start kinded signed referred sited told end kind by reference site what comment k b r s w o =
    let made = parts_of by reference site what comment in
    read_on (required named.Kind kind_of) after_kind start kinded end kind (Ok made) k
    (read_on (required named.By by_of) (after_by kind) kinded signed end by (Ok made) b
    (read_on (required named.Ref reference_of) (after_reference kind by) signed referred end reference (Ok made) r
    (read_on (required named.Site site_of) (after_site kind by reference) referred sited end site (Ok made) s
    (read_on (row kind) (after_what kind by reference site) sited told end what (Ok made) w
    (read_on (optional named.Comment [] comment_of) (after_comment by reference site what) told end end comment (Ok made) o refl)))))

pub returns-then-not-is_none_left : goal.returns-then-not-is_none_left
returns-then-not-is_none_left c =
    let remains : c.is_none_left.result ≡ false = grind arith in
    further (left c.args.fields.now) (left c.take_comment.new.fields) (parts_of c.in_ok-by.by c.in_ok-reference.reference c.in_ok-site.site c.in_ok-what.what c.in_ok-comment.comment)
    (all_read (left c.args.fields.now) (left c.take_kind.new.fields) (left c.take_by.new.fields) (left c.take_reference.new.fields) (left c.take_site.new.fields) (left c.take_what.new.fields) (left c.take_comment.new.fields)
    c.in_ok-kind.kind c.in_ok-by.by c.in_ok-reference.reference c.in_ok-site.site c.in_ok-what.what c.in_ok-comment.comment
    c.in_ok-kind.ensures c.in_ok-by.ensures c.in_ok-reference.ensures c.in_ok-site.ensures c.in_ok-what.ensures.read c.in_ok-comment.ensures)
    (sym c.is_none_left.ensures ∙ remains)

pub returns : goal.returns
returns c =
    let remains : c.is_none_left.result ≡ true = grind arith in
    made (left c.args.fields.now) (left c.take_comment.new.fields) (parts_of c.in_ok-by.by c.in_ok-reference.reference c.in_ok-site.site c.in_ok-what.what c.in_ok-comment.comment)
    (all_read (left c.args.fields.now) (left c.take_kind.new.fields) (left c.take_by.new.fields) (left c.take_reference.new.fields) (left c.take_site.new.fields) (left c.take_what.new.fields) (left c.take_comment.new.fields)
    c.in_ok-kind.kind c.in_ok-by.by c.in_ok-reference.reference c.in_ok-site.site c.in_ok-what.what c.in_ok-comment.comment
    c.in_ok-kind.ensures c.in_ok-by.ensures c.in_ok-reference.ensures c.in_ok-site.ensures c.in_ok-what.ensures.read c.in_ok-comment.ensures)
    (sym c.is_none_left.ensures ∙ remains)
