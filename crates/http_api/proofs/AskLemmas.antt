-- Asks of one question are the same.
use Rattle.std.proofs.Common.{◌≡◌, ap, sym, ◌∙◌}
use Rattle.edit_bodies.specs.Bodies.{Parts, parts}
use Rattle.edits.proofs.EditLemmas.{same_edit}
use Rattle.edits.specs.declared.content.Edit.{Edit}
use Rattle.http_api.specs.Asks.{AreTold, RatingsAreOneEdit, asked_edit, asked_rating}
use Rattle.http_api.specs.declared.asks.Ask.TheVariants as asks

same_parts : (one other : Edit) → parts one ≡ parts other → one ≡ other
same_parts one other e =
    same_edit one other (ap (λ (p : Parts). p.by) e) (ap (λ (p : Parts). p.reference) e) (ap (λ (p : Parts). p.site) e)
    (ap (λ (p : Parts). p.comment) e) (ap (λ (p : Parts). p.what) e)

pub are_told : AreTold
are_told (asks.Edit one) (asks.Edit other) e =
    let same : parts one ≡ parts other = cc in
    ap asks.Edit (same_parts one other same)
are_told (asks.Edit one) (asks.Station other) e = cc
are_told (asks.Edit one) (asks.DayOf other later) e = cc
are_told (asks.Edit one) (asks.SheetOf other later) e = cc
are_told (asks.Edit one) (asks.Daily other first last) e = cc
are_told (asks.Edit one) (asks.Measurement other later) e = cc
are_told (asks.Edit one) (asks.EditOf other) e = cc
are_told (asks.Edit one) (asks.Turns other) e = cc
are_told (asks.Edit one) asks.Settle e = cc
are_told (asks.Edit one) asks.Counts e = cc
are_told (asks.Station one) (asks.Edit other) e = cc
are_told (asks.Station one) (asks.Station other) e = cc
are_told (asks.Station one) (asks.DayOf other later) e = cc
are_told (asks.Station one) (asks.SheetOf other later) e = cc
are_told (asks.Station one) (asks.Daily other first last) e = cc
are_told (asks.Station one) (asks.Measurement other later) e = cc
are_told (asks.Station one) (asks.EditOf other) e = cc
are_told (asks.Station one) (asks.Turns other) e = cc
are_told (asks.Station one) asks.Settle e = cc
are_told (asks.Station one) asks.Counts e = cc
are_told (asks.DayOf one day) (asks.Edit other) e = cc
are_told (asks.DayOf one day) (asks.Station other) e = cc
are_told (asks.DayOf one day) (asks.DayOf other later) e = cc
are_told (asks.DayOf one day) (asks.SheetOf other later) e = cc
are_told (asks.DayOf one day) (asks.Daily other first last) e = cc
are_told (asks.DayOf one day) (asks.Measurement other later) e = cc
are_told (asks.DayOf one day) (asks.EditOf other) e = cc
are_told (asks.DayOf one day) (asks.Turns other) e = cc
are_told (asks.DayOf one day) asks.Settle e = cc
are_told (asks.DayOf one day) asks.Counts e = cc
are_told (asks.SheetOf one day) (asks.Edit other) e = cc
are_told (asks.SheetOf one day) (asks.Station other) e = cc
are_told (asks.SheetOf one day) (asks.DayOf other later) e = cc
are_told (asks.SheetOf one day) (asks.SheetOf other later) e = cc
are_told (asks.SheetOf one day) (asks.Daily other first last) e = cc
are_told (asks.SheetOf one day) (asks.Measurement other later) e = cc
are_told (asks.SheetOf one day) (asks.EditOf other) e = cc
are_told (asks.SheetOf one day) (asks.Turns other) e = cc
are_told (asks.SheetOf one day) asks.Settle e = cc
are_told (asks.SheetOf one day) asks.Counts e = cc
are_told (asks.Daily one from to) (asks.Edit other) e = cc
are_told (asks.Daily one from to) (asks.Station other) e = cc
are_told (asks.Daily one from to) (asks.DayOf other later) e = cc
are_told (asks.Daily one from to) (asks.SheetOf other later) e = cc
are_told (asks.Daily one from to) (asks.Daily other first last) e = cc
are_told (asks.Daily one from to) (asks.Measurement other later) e = cc
are_told (asks.Daily one from to) (asks.EditOf other) e = cc
are_told (asks.Daily one from to) (asks.Turns other) e = cc
are_told (asks.Daily one from to) asks.Settle e = cc
are_told (asks.Daily one from to) asks.Counts e = cc
are_told (asks.Measurement one number) (asks.Edit other) e = cc
are_told (asks.Measurement one number) (asks.Station other) e = cc
are_told (asks.Measurement one number) (asks.DayOf other later) e = cc
are_told (asks.Measurement one number) (asks.SheetOf other later) e = cc
are_told (asks.Measurement one number) (asks.Daily other first last) e = cc
are_told (asks.Measurement one number) (asks.Measurement other later) e = cc
are_told (asks.Measurement one number) (asks.EditOf other) e = cc
are_told (asks.Measurement one number) (asks.Turns other) e = cc
are_told (asks.Measurement one number) asks.Settle e = cc
are_told (asks.Measurement one number) asks.Counts e = cc
are_told (asks.EditOf one) (asks.Edit other) e = cc
are_told (asks.EditOf one) (asks.Station other) e = cc
are_told (asks.EditOf one) (asks.DayOf other later) e = cc
are_told (asks.EditOf one) (asks.SheetOf other later) e = cc
are_told (asks.EditOf one) (asks.Daily other first last) e = cc
are_told (asks.EditOf one) (asks.Measurement other later) e = cc
are_told (asks.EditOf one) (asks.EditOf other) e = cc
are_told (asks.EditOf one) (asks.Turns other) e = cc
are_told (asks.EditOf one) asks.Settle e = cc
are_told (asks.EditOf one) asks.Counts e = cc
are_told (asks.Turns one) (asks.Edit other) e = cc
are_told (asks.Turns one) (asks.Station other) e = cc
are_told (asks.Turns one) (asks.DayOf other later) e = cc
are_told (asks.Turns one) (asks.SheetOf other later) e = cc
are_told (asks.Turns one) (asks.Daily other first last) e = cc
are_told (asks.Turns one) (asks.Measurement other later) e = cc
are_told (asks.Turns one) (asks.EditOf other) e = cc
are_told (asks.Turns one) (asks.Turns other) e = cc
are_told (asks.Turns one) asks.Settle e = cc
are_told (asks.Turns one) asks.Counts e = cc
are_told asks.Settle (asks.Edit other) e = cc
are_told asks.Settle (asks.Station other) e = cc
are_told asks.Settle (asks.DayOf other later) e = cc
are_told asks.Settle (asks.SheetOf other later) e = cc
are_told asks.Settle (asks.Daily other first last) e = cc
are_told asks.Settle (asks.Measurement other later) e = cc
are_told asks.Settle (asks.EditOf other) e = cc
are_told asks.Settle (asks.Turns other) e = cc
are_told asks.Settle asks.Settle e = cc
are_told asks.Settle asks.Counts e = cc
are_told asks.Counts (asks.Edit other) e = cc
are_told asks.Counts (asks.Station other) e = cc
are_told asks.Counts (asks.DayOf other later) e = cc
are_told asks.Counts (asks.SheetOf other later) e = cc
are_told asks.Counts (asks.Daily other first last) e = cc
are_told asks.Counts (asks.Measurement other later) e = cc
are_told asks.Counts (asks.EditOf other) e = cc
are_told asks.Counts (asks.Turns other) e = cc
are_told asks.Counts asks.Settle e = cc
are_told asks.Counts asks.Counts e = cc

pub ratings_are_one : RatingsAreOneEdit
ratings_are_one site rating by reference json text rows e f = ap asked_edit e ∙ sym (ap (asked_rating site rating by reference) f)
