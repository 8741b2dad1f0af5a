-- The edit that a body is, or what refuses it.
use Rattle.std.specs.Prelude.{ℕ, List, [], Option, Some, None, Result, Ok, Err, if◌then◌else◌}
use Rattle.std.specs.Str.{is_utf8}
use Rattle.edit_bodies.specs.Grammars.{by_of, comment_of, reference_of, site_of}
use Rattle.edit_bodies.specs.Kinds.{kind_of, row}
use Rattle.edit_bodies.specs.Members.{Reader, ◌>>=◌, done, optional, required, whole}
use Rattle.edit_bodies.specs.declared.faults.BodyFault.{BodyFault}
use Rattle.edit_bodies.specs.declared.faults.BodyFault.TheVariants.{Json, Body}
use Rattle.edit_bodies.specs.declared.members.Member.{Member}
use Rattle.edit_bodies.specs.declared.members.Member.TheVariants.{Kind, By, Ref, Site, Comment}
use Rattle.edits.specs.declared.content.Edit.{Edit}
use Rattle.edits.specs.declared.content.What.{What}
use Rattle.fixed_units.specs.Quantities.{SiteNumber}
use Rattle.serde_json.specs.Data.{Data, Members}
use Rattle.serde_json.specs.Find.{as_object}
use Rattle.serde_json.specs.Read.{read}

-- the parts of an edit
pub record Parts : Type 0 where
  pub by : List ℕ
  pub reference : List ℕ
  pub site : SiteNumber
  pub comment : List ℕ
  pub what : What

abbrev pub parts : Edit → Parts
parts edit =
    record { by = edit.by; reference = edit.reference; site = edit.site; comment = edit.comment; what = edit.what }

-- the members of every edit, those of its kind behind them, and at last the comment, which may be missing
abbrev pub edit_row : Reader Parts
edit_row = do
  kind ← required Kind kind_of
  by ← required By by_of
  reference ← required Ref reference_of
  site ← required Site site_of
  what ← row kind
  comment ← optional Comment [] comment_of
  done (record { by = by; reference = reference; site = site; comment = comment; what = what })

-- the edit that an object is, or the member that refuses it
abbrev pub edit_in : Option Members → Result Parts Member
edit_in None = Err Kind
edit_in (Some members) = whole edit_row members

abbrev pub refused : Result Parts Member → Result Parts BodyFault
refused (Ok edit) = Ok edit
refused (Err name) = Err (Body name)

-- the edit of a value, if there is a value
abbrev pub edit_of_value : Option Data → Result Parts BodyFault
edit_of_value None = Err Json
edit_of_value (Some value) = refused (edit_in (as_object value))

-- the value that a text in UTF-8 states
unfoldable pub value_of : List ℕ → Option Data
value_of body = if is_utf8 body then read body else None

-- the edit that a body is, or why it is none
unfoldable pub edit_of : List ℕ → Result Parts BodyFault
edit_of body = edit_of_value (value_of body)
