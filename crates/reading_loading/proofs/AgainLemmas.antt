-- Readings that are in force and are put again.
use Rattle.std.proofs.Common.{◌≡◌, sym, ◌∙◌, ap, subst, ℕ, List, ◌++◌}
use Rattle.std.specs.List.{concat}
use Rattle.edits.specs.declared.content.Edit.{Edit}
use Rattle.fixed_units.specs.declared.readings.Reading.{Reading}
use Rattle.history.specs.Accepted.{edits_of}
use Rattle.history.specs.After.{go_on}
use Rattle.history.specs.Events.{Event, History}
use Rattle.history.specs.Legal.{IsLegal}
use Rattle.rdb_records.proofs.OneResultLemmas.{one_list}
use Rattle.rdb_records.specs.Units.{IsStated}
use Rattle.rdb_records.specs.declared.units.UnitList.{UnitList}
use Rattle.reading_loading.proofs.PutLemmas.{same_puts}
use Rattle.reading_loading.specs.Lines.{count_line, end_of}
use Rattle.reading_loading.specs.Loading.{IsLoadedAgain, Loads}
use Rattle.reading_loading.specs.Puts.{ArePuts, Order}
use Rattle.reading_loading.specs.declared.loading.ReadingsEnd.TheVariants.{Done}
use Rattle.told_edits.proofs.AgainLemmas.{told_again}
use Rattle.told_edits.proofs.SettledLemmas.{all_again, sent_goes_on, settled}
use Rattle.told_edits.specs.Again.{AreInForce, AreToldAgain}
use Rattle.told_edits.specs.Lines.{AreSent}
use Rattle.told_edits.specs.Settled.{AreSettled}

-- What a loading that is done has sent, and told, of a text that states these readings.
record HasSent (order : Order) (units : UnitList) (h after : History) (written : List ℕ) : Type 0 where
  edits : List Edit
  puts : ArePuts order units.readings edits
  lines : List (List ℕ)
  sent : AreSent end_of h edits lines after
  wrote : written ≡ concat lines ++ count_line units

has_sent : (order : Order) (units : UnitList) (h after : History) (input left written : List ℕ) → IsStated order.site order.column input units
    → Loads order h after Done input left written → HasSent order units h after written
has_sent order units h after input left written stated loads =
    let ends = loads.ends in
    let same : ends.0 ≡ units = one_list order.site order.column input ends.0 units ends.1.0 stated in
    let told = ends.2.1 in
    let sent = told.2 in record {
      edits = told.0;
      puts = subst (λ (u : UnitList). ArePuts order u.readings told.0) same told.1;
      lines = sent.0;
      sent = sent.1;
      wrote = ends.2.2 ∙ ap (λ (l : List ℕ). l ++ count_line ends.0) sent.2 ∙ ap (λ (u : UnitList). concat sent.0 ++ count_line u) same;
    }

module _ (order : Order) (h after : History) (edits : List Edit) (numbers : List ℕ) (legal : IsLegal h) (stand : AreInForce h edits numbers) where
  pub put_again : (readings : List Reading) (again : List Edit) (lines : List (List ℕ)) → ArePuts order readings edits → ArePuts order readings again
      → AreSent end_of h again lines after → (after ≡ h) × AreToldAgain end_of edits numbers lines
  put_again readings again lines puts others sent =
      told_again end_of h after edits numbers lines legal stand
      (subst (λ (l : List Edit). AreSent end_of h l lines after) (sym (same_puts order readings edits again puts others)) sent)

  -- the same text is loaded again
  pub loaded_again : (input left written : List ℕ) (units : UnitList) → IsStated order.site order.column input units → ArePuts order units.readings edits
      → Loads order h after Done input left written
      → (after ≡ h) × ((lines : List (List ℕ)) × AreToldAgain end_of edits numbers lines × (written ≡ concat lines ++ count_line units))
  loaded_again input left written units stated puts loads =
      let one = has_sent order units h after input left written stated loads in
      let again = put_again units.readings one.edits one.lines puts one.puts one.sent in
      (again.0, (one.lines, again.1, one.wrote))

-- a text is loaded, whatever stands of it
pub each_settled : (order : Order) (units : UnitList) (h after : History) (input left written : List ℕ) → IsLegal h
    → IsStated order.site order.column input units → Loads order h after Done input left written
    → (edits : List Edit) × ArePuts order units.readings edits
    × ((lines : List (List ℕ)) × AreSettled end_of h after edits lines × (written ≡ concat lines ++ count_line units))
each_settled order units h after input left written legal stated loads =
    let one = has_sent order units h after input left written stated loads in
    (one.edits, one.puts, (one.lines, settled end_of h after one.edits one.lines legal one.sent, one.wrote))

-- a text is loaded, and again behind more edits
pub each_again : (order : Order) (units : UnitList) (h after later last : History) (more : List Edit) (input left written rest again : List ℕ) → IsLegal h
    → IsStated order.site order.column input units → Loads order h after Done input left written
    → IsLegal later → edits_of later.events ≡ edits_of after.events ++ more → Loads order later last Done input rest again
    → (edits : List Edit) × ArePuts order units.readings edits × IsLoadedAgain units edits h after later last written again
each_again order units h after later last more input left written rest again legal stated loads legal_later behind loads_again =
    let one = has_sent order units h after input left written stated loads in
    let other = has_sent order units later last input rest again stated loads_again in
    let same : other.edits ≡ one.edits = same_puts order units.readings other.edits one.edits other.puts one.puts in
    let sent = subst (λ (l : List Edit). AreSent end_of later l other.lines last) same other.sent in
    let told = all_again end_of h after later last one.edits more one.lines other.lines legal one.sent legal_later behind sent in (
      one.edits,
      one.puts,
      record {
        lines = one.lines;
        lines_again = other.lines;
        sent = one.sent;
        sent_again = sent;
        first = one.wrote;
        second = other.wrote;
        told = told.0;
        nothing = told.1;
      },
    )

-- the history goes on by what happened while a text was loaded
pub loading_goes_on : (order : Order) (h after : History) (input left written : List ℕ) → Loads order h after Done input left written
    → (added : List Event) × (after ≡ go_on h added)
loading_goes_on order h after input left written loads =
    let one = has_sent order loads.ends.0 h after input left written loads.ends.1.0 loads in
    sent_goes_on end_of h after one.edits one.lines one.sent
