-- What is told of the edits that put readings, and of the line behind them.
use Rattle.std.proofs.Common.{◌≡◌, ◌≢◌, inr, refl, sym, ◌∙◌, ap, ℕ, ◌+◌, ◌<◌, List, [], ◌∷◌, ◌++◌, length, Option, Some, None, IfSome, Bool, true, false, append_assoc, append-nil}
use Rattle.std.specs.Fork.{slice_chunk}
use Rattle.std.specs.List.{concat}
use Rattle.devices.specs.Sinks.{AreWritten}
use Rattle.edits.specs.Lawful.{most_readings}
use Rattle.edits.specs.declared.content.Edit.{Edit}
use Rattle.fixed_units.specs.declared.readings.Reading.{Reading}
use Rattle.history.specs.Events.{History}
use Rattle.rdb_records.specs.declared.units.UnitList.{UnitList}
use Rattle.reading_loading.proofs.PutLemmas.{one_more_put}
use Rattle.reading_loading.specs.Lines.{count_line, end_of, line_end}
use Rattle.reading_loading.specs.Loading.{ArePutAndTold, AreUnitsTold}
use Rattle.reading_loading.specs.Puts.{AreFirstPuts, IsPut, Order, put_count}
use Rattle.told_edits.proofs.TellingLemmas.{told_all, told_short}
use Rattle.told_edits.specs.Lines.{AreSent, IsSent}

module _ (order : Order) (readings : List Reading) (h now : History) (edits : List Edit) (lines : List (List ℕ)) (w0 w : Option (List ℕ))
    (puts : AreFirstPuts order readings edits) (sent : AreSent end_of h edits lines now) (wrote : IfSome w0 (λ before. w ≡ Some (before ++ concat lines))) where
  -- all were asked, and told
  pub told_puts : length edits ≡ put_count (length readings)
      → (written : List ℕ) × ArePutAndTold true order readings h now written × AreWritten w0 written w true
  told_puts all =
      let told = told_all end_of h now edits edits lines w0 w sent refl wrote in
      (told.0, (edits, record { first = puts; all = all }, told.1), told.2)

  -- one was asked whose line was not written whole
  pub told_few : (next : History) (edit : Edit) (line : List ℕ) (w' : Option (List ℕ)) → length edits < put_count (length readings)
      → IsPut order (length edits + 1) (slice_chunk readings most_readings (length edits)) edit → IsSent line_end now edit line next
      → AreWritten w line w' false → (written : List ℕ) × ArePutAndTold false order readings h next written × AreWritten w0 written w' true
  told_few next edit line w' left put one part =
      let told = told_short end_of h now next (edits ++ edit ∷ []) edits [] edit lines line w0 w w' sent one (sym (append-nil (edits ++ edit ∷ []))) wrote part in
      (told.0, (edits ++ edit ∷ [], one_more_put order readings edits edit puts left put, told.1), told.2)

-- a line behind others
line_behind : (lines line : List ℕ) (w0 w w' : Option (List ℕ)) → AreWritten w0 lines w true → AreWritten w line w' true → AreWritten w0 (lines ++ line) w' true
line_behind lines line None w w' first second = tt
line_behind lines line (Some before) None w' first second = absurd first
line_behind lines line (Some before) (Some mid) None first second = absurd second
line_behind lines line (Some before) (Some mid) (Some now) first second =
    second ∙ ap (λ (l : List ℕ). l ++ line) first ∙ append_assoc before lines line

some_line : (units : UnitList) → count_line units ≢ []
some_line units none = absurd (cc none)

-- the line that counts was written behind those of the edits, or a front of it
module _ (order : Order) (units : UnitList) (h next : History) where
  pub told_units : (done : Bool) (w0 w w' : Option (List ℕ))
      → (lines : List ℕ) × ArePutAndTold true order units.readings h next lines × AreWritten w0 lines w true → AreWritten w (count_line units) w' done
      → (written : List ℕ) × AreUnitsTold done order units h next written × AreWritten w0 written w' true
  told_units true w0 w w' told put =
      (told.0 ++ count_line units, (told.0, told.1, refl), line_behind told.0 (count_line units) w0 w w' told.2 put)
  told_units false None w w' told put =
      (told.0 ++ [], inr (told.0, told.1, ([], refl, (count_line units, some_line units, refl))), tt)
  told_units false (Some before) None w' told put = absurd told.2
  told_units false (Some before) (Some mid) None told put = absurd put
  told_units false (Some before) (Some mid) (Some now) told put = (
    told.0 ++ put.0,
    inr (told.0, told.1, (put.0, refl, put.2)),
    put.1 ∙ ap (λ (l : List ℕ). l ++ put.0) told.2 ∙ append_assoc before told.0 put.0,
  )
