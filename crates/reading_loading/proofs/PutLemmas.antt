-- Edits that put readings, one behind another.
use Rattle.std.proofs.Common.{◌≡◌, ◌⊎◌, inl, inr, refl, sym, ◌∙◌, ap, subst, ℕ, zero, suc, ◌+◌, ◌*◌, ◌<◌, ◌≤◌, List, [], ◌∷◌, ◌++◌, take, drop, length, get_or, slice_get, Some, arith, append-nil, length-append, length-drop, length-take}
use Rattle.std.proofs.Math.ListN.{get_or-append}
use Rattle.std.proofs.Math.Seq.{get_or-append_seam, take-append-add}
use Rattle.std.proofs.lemmas.Bool.{cases_lt}
use Rattle.std.proofs.lemmas.Grind.{div_ceil_times, flat_map-append}
use Rattle.std.proofs.lemmas.List.{ext_get_or, nil_from_length, take-append-drop, take_all, take_more}
use Rattle.std.proofs.lemmas.List.Concat.{flat_map-cons}
use Rattle.std.proofs.lemmas.Option.{get_or_from_slice_get, slice_get-get_or, slice_get_within}
use Rattle.std.specs.Fork.{slice_chunk}
use Rattle.std.specs.List.{flat_map}
use Rattle.edits.proofs.EditLemmas.{same_edit}
use Rattle.edits.specs.Lawful.{IsLawful, most_readings}
use Rattle.edits.specs.declared.content.Edit.{Edit}
use Rattle.edits.specs.declared.content.What.TheVariants.{PutReadings}
use Rattle.fixed_units.specs.declared.readings.Reading.{Reading}
use Rattle.reading_loading.proofs.ChunkLemmas.{chunk_begins}
use Rattle.reading_loading.specs.Puts.{AreFirstPuts, ArePuts, IsPut, Order, put_by, put_count, readings_put, reference_of}

-- an edit that puts lawful readings, which nobody has made
unmade : (order : Order) (number : ℕ) (readings : List Reading) → IsLawful (PutReadings readings) → Edit
unmade order number readings lawful =
    record {
      by = order.by;
      reference = reference_of order.prefix number;
      site = order.site;
      comment = [];
      what = PutReadings readings;
      lawful = lawful;
    }

pub some_put : (order : Order) (number : ℕ) (readings : List Reading) → IsLawful (PutReadings readings) → (edit : Edit) × IsPut order number readings edit
unfolding unmade
some_put order number readings lawful =
    (unmade order number readings lawful, record { by = refl; reference = refl; site = refl; comment = refl; what = refl })

module _ (order : Order) (readings : List Reading) where
  pub no_puts : AreFirstPuts order readings []
  no_puts = record { few = omega arith; each = λ place edit is. absurd (none place (slice_get_within [] place edit is)) }
    where
      none : (place : ℕ) → place < length {A = Edit} [] → ⊥
      none place less = omega arith

  put_there : (edits : List Edit) (edit : Edit) (place : ℕ) (e : Edit) → AreFirstPuts order readings edits
      → IsPut order (length edits + 1) (slice_chunk readings most_readings (length edits)) edit → slice_get (edits ++ edit ∷ []) place ≡ Some e
      → (place < length edits) ⊎ (length edits ≤ place) → IsPut order (place + 1) (slice_chunk readings most_readings place) e
  put_there edits edit place e puts put is (inl less) =
      let same : get_or edits place e ≡ e = sym (get_or-append edits (edit ∷ []) e place less) ∙ get_or_from_slice_get (edits ++ edit ∷ []) place e e is in
      puts.each place e (slice_get-get_or edits place e less ∙ ap Some same)
  put_there edits edit place e puts put is (inr more) =
      let within = slice_get_within (edits ++ edit ∷ []) place e is in
      let here : length edits ≡ place = omega (arith, within, more, length-append edits (edit ∷ [])) in
      let same : edit ≡ e =
      sym (get_or-append_seam edits edit [] e) ∙ ap (λ (n : ℕ). get_or (edits ++ edit ∷ []) n e) here ∙ get_or_from_slice_get (edits ++ edit ∷ []) place e e is
      in
      subst (λ (x : Edit). IsPut order (place + 1) (slice_chunk readings most_readings place) x) same
      (subst (λ (n : ℕ). IsPut order (n + 1) (slice_chunk readings most_readings n) edit) here put)

  -- one more edit puts the next chunk
  pub one_more_put : (edits : List Edit) (edit : Edit) → AreFirstPuts order readings edits → length edits < put_count (length readings)
      → IsPut order (length edits + 1) (slice_chunk readings most_readings (length edits)) edit → AreFirstPuts order readings (edits ++ edit ∷ [])
  one_more_put edits edit puts left put = record {
    few = omega (arith, left, length-append edits (edit ∷ []));
    each = λ place e is. put_there edits edit place e puts put is (cases_lt place (length edits));
  }

  -- the edits that put the readings are determined by them
  same_place : (a b : List Edit) (d : Edit) (place : ℕ) → AreFirstPuts order readings a → AreFirstPuts order readings b → place < length a
      → place < length b → get_or a place d ≡ get_or b place d
  same_place a b d place first second within there =
      let one = first.each place (get_or a place d) (slice_get-get_or a place d within) in
      let other = second.each place (get_or b place d) (slice_get-get_or b place d there) in
      same_edit (get_or a place d) (get_or b place d) (one.by ∙ sym other.by) (one.reference ∙ sym other.reference) (one.site ∙ sym other.site)
      (one.comment ∙ sym other.comment) (one.what ∙ sym other.what)

  pub same_puts : (a b : List Edit) → ArePuts order readings a → ArePuts order readings b → a ≡ b
  same_puts [] [] first second = refl
  same_puts [] (e ∷ b) first second = absurd (none (length b) (first.all) (second.all))
    where
      none : (n : ℕ) → 0 ≡ put_count (length readings) → suc n ≡ put_count (length readings) → ⊥
      none n zero_is more_is = omega (arith, zero_is, more_is)
  same_puts (d ∷ a) b first second =
      let long : length (d ∷ a) ≡ length b = first.all ∙ sym second.all in
      ext_get_or d (d ∷ a) b long (λ place within. same_place (d ∷ a) b d place first.first second.first within (omega (arith, long, within)))

  -- they put all of the readings, and nothing else
  next_front : (place : ℕ) → place * most_readings < length readings
      → take (place * most_readings) readings ++ slice_chunk readings most_readings place ≡ take (place * most_readings + most_readings) readings
  next_front place within =
      let from = place * most_readings in
      let front = take (place * most_readings) readings in
      let rest = drop (place * most_readings) readings in
      let long : length (take (place * most_readings) readings) ≡ place * most_readings = omega (arith, length-take (place * most_readings) readings, within) in
      sym (take-append-add front rest most_readings) ∙ ap (λ (n : ℕ). take (n + most_readings) (front ++ rest)) long
      ∙ ap (λ (l : List Reading). take (from + most_readings) l) (take-append-drop from readings)

  one_put : (edits : List Edit) (d : Edit) (place : ℕ) → AreFirstPuts order readings edits → place < length edits
      → flat_map readings_put (get_or edits place d ∷ []) ≡ slice_chunk readings most_readings place
  one_put edits d place puts within =
      let e = get_or edits place d in
      flat_map-cons readings_put e [] ∙ append-nil (readings_put e) ∙ ap put_by (puts.each place e (slice_get-get_or edits place d within)).what

  fronts : (edits : List Edit) (d : Edit) (count : ℕ) → AreFirstPuts order readings edits → count ≤ length edits
      → flat_map readings_put (take count edits) ≡ take (count * most_readings) readings
  fronts edits d zero puts within = refl
  fronts edits d (suc count) puts within =
      let less : count < length edits = omega arith in
      let begins = chunk_begins (length readings) count (omega (arith, less, puts.few)) in
      let more : suc count ≡ count + 1 = omega arith in
      let end : count * most_readings + most_readings ≡ suc count * most_readings = omega arith in
      ap (λ (n : ℕ). flat_map readings_put (take n edits)) more ∙ ap (λ (l : List Edit). flat_map readings_put l) (take_more edits count d less)
      ∙ flat_map-append readings_put (take count edits) (get_or edits count d ∷ [])
      ∙ ap (λ (l : List Reading). flat_map readings_put (take count edits) ++ l) (one_put edits d count puts less)
      ∙ ap (λ (l : List Reading). l ++ slice_chunk readings most_readings count) (fronts edits d count puts (omega (arith, less)))
      ∙ next_front count begins ∙ ap (λ (n : ℕ). take n readings) end

  pub whole_puts : (edits : List Edit) → ArePuts order readings edits → flat_map readings_put edits ≡ readings
  whole_puts [] puts =
      let few : length readings ≤ 0 = omega (arith, (div_ceil_times (length readings) most_readings (omega arith)).0, puts.all) in
      sym (nil_from_length readings (omega (arith, few)))
  whole_puts (d ∷ edits) puts =
      let count = length (d ∷ edits) in
      let most : length readings ≤ length (d ∷ edits) * most_readings =
      omega (arith, (div_ceil_times (length readings) most_readings (omega arith)).0, puts.all)
      in
      ap (λ (l : List Edit). flat_map readings_put l) (sym (take_all count (d ∷ edits) (omega arith)))
      ∙ fronts (d ∷ edits) d count puts.first (omega arith) ∙ take_all (count * most_readings) readings most

  -- each but the last puts as many as it may
  pub full_put : (edits : List Edit) (place : ℕ) (edit : Edit) → ArePuts order readings edits → place + 1 < length edits → slice_get edits place ≡ Some edit
      → length (readings_put edit) ≡ most_readings
  full_put edits place edit puts more is =
      let next = chunk_begins (length readings) (place + 1) (omega (arith, more, puts.all)) in
      let rest = length-drop (place * most_readings) readings in
      let size = length-take most_readings (drop (place * most_readings) readings) in
      ap (λ (l : List Reading). length l) (ap put_by (puts.first.each place edit is).what) ∙ omega (arith, next, rest, size)
