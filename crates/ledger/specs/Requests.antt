-- An edit as the request that `batch` and the server take.
use Rattle.std.specs.Prelude.{◌≡◌, ℕ, List, [], ◌∷◌, ◌++◌, length, codes, decimal, Ok}
use Rattle.edit_bodies.specs.Bodies.{edit_of, parts}
use Rattle.edits.specs.Kinds.{kind_name, kind_of}
use Rattle.edits.specs.declared.content.Edit.{Edit}
use Rattle.edits.specs.declared.content.What.{What}
use Rattle.edits.specs.declared.content.What.TheVariants.{Decide}
use Rattle.edits.specs.declared.decisions.Decision.TheVariants.{Approve}
use Rattle.json.specs.Print.{quoted}
use Rattle.ledger.specs.Figures.{figures_text}
use Rattle.ledger.specs.declared.figures.Style.TheVariants.{OfABody}
use Rattle.site_texts.specs.SiteText.{site_text}

-- the kind and the person
abbrev pub kind_members : Edit → List ℕ
kind_members edit = codes "{\"kind\":\"" ++ kind_name (kind_of edit.what) ++ codes "\",\"by\":\"" ++ edit.by

-- the reference and the site
abbrev pub sender_members : Edit → List ℕ
sender_members edit = codes "\",\"ref\":\"" ++ edit.reference ++ codes "\",\"site\":\"" ++ site_text edit.site ++ codes "\""

-- the comment, where there is one
abbrev pub comment_member : List ℕ → List ℕ
comment_member [] = []
comment_member (letter ∷ letters) = codes ",\"comment\":" ++ quoted (letter ∷ letters)

-- the body of an edit
abbrev pub body_text : Edit → List ℕ
body_text edit = kind_members edit ++ sender_members edit ++ figures_text OfABody edit.what ++ comment_member edit.comment ++ codes "}"

-- the body is read as the edit
abbrev pub IsReadBack : Edit → Type 0
IsReadBack edit = edit_of (body_text edit) ≡ Ok (parts edit)

-- how many bytes the body of a request has at most
abbrev pub most_body : ℕ
most_body = 4_194_304

-- a request with a body
abbrev pub posted : List ℕ → List ℕ
posted body = codes "POST /edits HTTP/1.1\r\nContent-Length: " ++ decimal (length body) ++ codes "\r\n\r\n" ++ body

-- before an approval every day is computed
abbrev pub settlement : What → List ℕ
settlement (Decide from to Approve) = codes "POST /settle HTTP/1.1\r\nContent-Length: 0\r\n\r\n"
settlement _ = []

abbrev pub request_text : Edit → List ℕ
request_text edit = settlement edit.what ++ posted (body_text edit)
