-- The edit that is asked under a number.
use Rattle.std.specs.Prelude.{◌≡◌, ℕ, List, [], ◌++◌, codes, decimal}
use Rattle.edits.specs.declared.content.Edit.{Edit}
use Rattle.edits.specs.declared.content.What.{What}
use Rattle.fixed_units.specs.Quantities.{SiteNumber}

-- the reference of an edit: those that are asked are counted from 1, refused ones too
abbrev pub reference_of : ℕ → List ℕ
reference_of number = codes "t-" ++ decimal number

-- an edit is what a person asks of a site under a number, with an empty comment
pub record IsAsked (number : ℕ) (by : List ℕ) (site : SiteNumber) (what : What) (edit : Edit) : Type 0 where
  pub by_is : edit.by ≡ by
  pub reference_is : edit.reference ≡ reference_of number
  pub site_is : edit.site ≡ site
  pub comment_is : edit.comment ≡ []
  pub what_is : edit.what ≡ what
