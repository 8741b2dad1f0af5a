-- The body for an accepted edit that is asked for: compact JSON, members in rising order of their names.
use Rattle.std.specs.Prelude.{ℕ, List, ◌++◌, codes}
use Rattle.edits.specs.Kinds.{kind_name, kind_of}
use Rattle.edits.specs.declared.content.Edit.{Edit}
use Rattle.fixed_units.specs.Quantities.{SiteNumber}
use Rattle.json.specs.Print.{quoted}
use Rattle.site_texts.specs.SiteText.{site_text}

-- who made it, and why
abbrev pub reason_members : Edit → List ℕ
reason_members edit = codes "{\"by\":\"" ++ edit.by ++ codes "\",\"comment\":" ++ quoted edit.comment

-- its kind and its reference
abbrev pub kind_members : Edit → List ℕ
kind_members edit = codes ",\"kind\":\"" ++ kind_name (kind_of edit.what) ++ codes "\",\"ref\":\"" ++ edit.reference

-- its site
abbrev pub site_member : SiteNumber → List ℕ
site_member site = codes "\",\"site\":\"" ++ site_text site ++ codes "\"}"

-- the body for an accepted edit
abbrev pub accepted_edit_text : Edit → List ℕ
accepted_edit_text edit = reason_members edit ++ kind_members edit ++ site_member edit.site
