-- The sheet that is kept of a day which was approved since the opening is that of its value from scratch, of the inputs in force.
use Rattle.std.specs.Prelude.{◌≡◌, All, ℕ, zero, suc, ◌+◌, ◌-◌, ◌==◌, ◌<◌, Bool, true, false, cond, List, [], ◌∷◌, ◌++◌, length, map, filter, slice_get, Option, Some, None, ℤ, pos, ◌+ℤ◌, ◌-ℤ◌, ◌≤ℤ◌, unsigned_abs}
use Rattle.std.proofs.Common.{arith, refl, ap, sym, subst, inl, inr, ◌∙◌}
use Rattle.std.specs.Ordering.{int_eq}
use Rattle.std.proofs.lemmas.Bool.{false≢true}
use Rattle.std.proofs.lemmas.Bool.Decides.{Decides-int_eq}
use Rattle.std.proofs.lemmas.Int.{ints}
use Rattle.std.proofs.lemmas.List.{append-nil, append_assoc}
use Rattle.std.proofs.lemmas.List.Elements.{All-head, All-tail}
use Rattle.approval.specs.Statuses.{Standing, is_approved, spans}
use Rattle.day_inputs.specs.declared.day_inputs.DayInputs.{DayInputs}
use Rattle.daily_values.specs.DayValue.{day_value}
use Rattle.daily_values.specs.declared.day_values.DayValue.{DayValue}
use Rattle.depend.specs.Compared.{count_of}
use Rattle.depend.proofs.CalendarLemmas.{counted}
use Rattle.edits.specs.declared.content.Edit.{Edit}
use Rattle.edits.specs.declared.content.What.{What}
use Rattle.edits.specs.declared.content.What.TheVariants.{Decide}
use Rattle.edits.specs.declared.decisions.Decision.{Decision}
use Rattle.edits.specs.declared.decisions.Decision.TheVariants.{Approve}
use Rattle.edits.specs.Lawful.{IsLawful, IsReviewSpan}
use Rattle.fixed_units.specs.Calendar.{calendar, days_from}
use Rattle.fixed_units.specs.Quantities.{SiteNumber, IsDay, IsSite, site_place, same_site}
use Rattle.fixed_units.proofs.SiteLemmas.{Decides-same_site}
use Rattle.history.specs.Accepted.{accepted, stations_at, record_numbered}
use Rattle.history.specs.Awaited.{inputs_at, value_at}
use Rattle.history.specs.Events.{Event, Accepted, Published, Faulted}
use Rattle.history.specs.Legal.{IsMade, IsOrderly, MayBeKept}
use Rattle.history.specs.Sheets.{IsFromScratch}
use Rattle.history.specs.Statuses.{sheet_by, sheet_in, sheet_of, standing_at, status_at, stored_sheet}
use Rattle.history.specs.Verdicts.{sheets_of}
use Rattle.history.proofs.ApprovalLemmas.{IsApproval, distance, spans_is}
use Rattle.history.proofs.ApprovedLemmas.{inputs_step, record_stays, same_records, sheet_stays, standing_within}
use Rattle.history.proofs.EventLemmas.{accepted_all, accepted_published, accepted_faulted, stations_accepted}
use Rattle.history.proofs.StandingLemmas.{approved_behind, last_record, standing_elsewhere}
use Rattle.history.proofs.StationLemmas.{found_place, places_equal, same_day}
use Rattle.office_inputs.specs.Stations as in_force
use Rattle.office_inputs.specs.Stations.{day_of_station, inputs_of_day, place_of, station_of, stations_after, with_changed}
use Rattle.office_inputs.specs.declared.limits.Limits.{Limits}
use Rattle.records.specs.Sheets.{Record}
use Rattle.records.specs.declared.formats.Format.{Format}
use Rattle.register.proofs.ReviewLemmas.{days_spanned}
use Rattle.rising.specs.Lists.{at, put}
use Rattle.rising.proofs.Placing.{at_put, at_put_other}
use Rattle.sheets.specs.Sheets.{sheet}
use Rattle.station_inputs.specs.Stations.{StationState, station_after}

-- a decision leaves every station as it is
own_at : (stations : List StationState) (s : StationState) (n : ℤ) (b : Bool) → int_eq (place_of s) n ≡ b → at place_of (place_of s) stations ≡ Some s
    → at place_of n (put place_of s stations) ≡ at place_of n stations
own_at stations s n true e here =
    let same : place_of s ≡ n = (Decides-int_eq (place_of s) n).0 e in
    ap (λ (m : ℤ). at place_of m (put place_of s stations)) (sym same) ∙ at_put place_of s stations ∙ sym here ∙ ap (λ (m : ℤ). at place_of m stations) same
own_at stations s n false e here =
    at_put_other place_of s n stations (λ same. false≢true (sym e ∙ (Decides-int_eq (place_of s) n).1 same))

left_at : (stations : List StationState) (own : SiteNumber) (from to : ℤ) (decision : Decision) (found : Option StationState) → station_of stations own ≡ found
    → (n : ℤ) → at place_of n (with_changed (station_after (Decide from to decision)) found stations) ≡ at place_of n stations
left_at stations own from to decision None e n = refl
left_at stations own from to decision (Some s) e n =
    own_at stations s n (int_eq (place_of s) n) refl (ap (λ (m : ℤ). at place_of m stations) (found_place stations own s e) ∙ e)

decided_inputs : (stations : List StationState) (edit : Edit) (site : SiteNumber) (day from to : ℤ) (decision : Decision) → edit.what ≡ Decide from to decision
    → inputs_of_day (stations_after stations edit) site day ≡ inputs_of_day stations site day
decided_inputs stations edit site day from to decision e =
    ap (λ (w : What). day_of_station (station_of (in_force.after_what edit.site w stations) site) day) e
    ∙ ap (λ (o : Option StationState). day_of_station o day) (left_at stations edit.site from to decision (station_of stations edit.site) refl (site_place site))

-- the sheet of a day among those of its approval
days_get : (from : ℤ) (n k : ℕ) → k < n → slice_get (days_from from n) k ≡ Some (from +ℤ pos k)
unfolding days_from
days_get from zero k l = absurd (omega (arith, l))
days_get from (suc n) zero l = let e : from ≡ from +ℤ pos 0 = omega (arith, ints) in ap (λ (d : ℤ). Some d) e
days_get from (suc n) (suc k) l =
    let e : from +ℤ pos 1 +ℤ pos k ≡ from +ℤ pos (suc k) = omega (arith, ints) in
    days_get (from +ℤ pos 1) n k (omega (arith, l)) ∙ ap (λ (d : ℤ). Some d) e

map_get : (text : ℤ → List ℕ) (days : List ℤ) (k : ℕ) (day : ℤ) → slice_get days k ≡ Some day → slice_get (map text days) k ≡ Some (text day)
map_get text [] k day h = absurd (cc)
map_get text (d ∷ days) zero day h = let same : d ≡ day = cc in ap (λ (x : ℤ). Some (text x)) same
map_get text (d ∷ days) (suc k) day h = map_get text days k day h

day_sheet : (text : ℤ → List ℕ) (from to day : ℤ) → IsReviewSpan from to → spans from to day ≡ true
    → slice_get (map text (filter (spans from to) calendar)) (unsigned_abs (day -ℤ from)) ≡ Some (text day)
day_sheet text from to day span within =
    let a : from ≤ℤ day = (spans_is from to day within).0 in
    let b : day ≤ℤ to = (spans_is from to day within).1 in
    let o = span.ordered in
    let k = unsigned_abs (day -ℤ from) in
    let far : pos k ≡ day -ℤ from = distance (day -ℤ from) (omega (arith, ints, a)) in
    let count = counted (to +ℤ pos 1 -ℤ from) (omega (arith, ints, o)) in
    let few : k < count_of (to +ℤ pos 1 -ℤ from) = omega (arith, ints, far, count, b) in
    let here : from +ℤ pos k ≡ day = omega (arith, ints, far) in
    map_get text (filter (spans from to) calendar) k day
    (ap (λ (days : List ℤ). slice_get days k) (days_spanned from to span.begins span.ends o)
    ∙ days_get from (count_of (to +ℤ pos 1 -ℤ from)) k few ∙ ap (λ (d : ℤ). Some d) here)

module _ (limits : Limits) (format : Format) (first : List Record) (site : SiteNumber) (day : ℤ) (is : IsDay day) where
  abbrev IsStored : List Event → Type 0
  IsStored events = IsFromScratch events site day

  abbrev pub Told : List Event → Type 0
  Told events = is_approved (status_at events site day) ≡ true → length first < (standing_at events site day).edit → IsStored events

  stays : (events : List Event) (e : Event) → standing_at (events ++ e ∷ []) site day ≡ standing_at events site day
      → inputs_at (events ++ e ∷ []) site day ≡ inputs_at events site day → IsStored events → IsStored (events ++ e ∷ [])
  stays events e standing inputs h = record {
    approval = h.approval;
    approved_by =
        ap (λ (s : Standing). record_numbered (events ++ e ∷ []) s.edit) standing
        ∙ record_stays events (e ∷ []) (standing_at events site day).edit (standing_within events site day) ∙ h.approved_by;
    of_site = h.of_site;
    text =
        sheet_stays events (e ∷ []) site day standing ∙ h.text
        ∙ ap (λ (i : DayInputs). Some (sheet h.approval.edit.site day (day_value i) true)) (sym inputs);
  }

  told_on : (events : List Event) (e : Event) → standing_at (events ++ e ∷ []) site day ≡ standing_at events site day
      → (is_approved (status_at events site day) ≡ true → inputs_at (events ++ e ∷ []) site day ≡ inputs_at events site day) → Told events → Told (events ++ e ∷ [])
  told_on events e standing inputs told approved late =
      let before = ap (λ (s : Standing). is_approved s.status) (sym standing) ∙ approved in
      stays events e standing (inputs before) (told before (subst (λ (s : Standing). length first < s.edit) standing late))

  -- a day that is approved by this very edit
  approved_now : (events : List Event) (piece : Record) → IsMade events piece → same_site piece.edit.site site ≡ true
      → IsApproval (length (accepted events) + 1) piece.edit.what day (standing_at (events ++ Accepted piece ∷ []) site day)
      → is_approved (status_at (events ++ Accepted piece ∷ []) site day) ≡ true → IsStored (events ++ Accepted piece ∷ [])
  approved_now events piece made same a approved =
      let more = events ++ Accepted piece ∷ [] in
      let place = places_equal piece.edit.site site same in
      let text : ℤ → List ℕ = λ d. sheet piece.edit.site d (value_at events piece.edit.site d) true in
      let span : IsReviewSpan a.from a.to = subst IsLawful a.what_is piece.edit.lawful in
      let kept = last_record events piece in
      let sheets : piece.sheets ≡ map text (filter (spans a.from a.to) calendar) =
      made.sheets ∙ ap (λ (w : What). sheets_of events piece.edit.site w) a.what_is in
      let found : sheet_in day piece ≡ Some (text day) =
      ap (λ (w : What). sheet_by w piece.sheets day) a.what_is
      ∙ ap (λ (b : Bool). cond b (slice_get piece.sheets (unsigned_abs (day -ℤ a.from))) None) a.within
      ∙ ap (λ (l : List (List ℕ)). slice_get l (unsigned_abs (day -ℤ a.from))) sheets ∙ day_sheet text a.from a.to day span a.within in
      let value : value_at events piece.edit.site day ≡ value_at more site day =
      ap day_value (same_day (stations_at events) piece.edit.site site day place
      ∙ sym (ap (λ (l : List StationState). inputs_of_day l site day) (stations_accepted events piece)
      ∙ decided_inputs (stations_at events) piece.edit site day a.from a.to Approve a.what_is)) in
      record {
        approval = piece;
        approved_by = ap (record_numbered more) a.edit_is ∙ kept;
        of_site = same;
        text =
            ap (λ (b : Bool). cond b (sheet_of (record_numbered more (standing_at more site day).edit) day) None) approved
            ∙ ap (λ n. sheet_of (record_numbered more n) day) a.edit_is
            ∙ ap (λ (o : Option Record). sheet_of o day) kept
            ∙ found
            ∙ ap (λ (v : DayValue). Some (sheet piece.edit.site day v true)) value;
      }

  accepted_step : (events : List Event) (piece : Record) (b : Bool) → same_site piece.edit.site site ≡ b → MayBeKept limits format events piece → IsMade events piece
      → Told events → Told (events ++ Accepted piece ∷ [])
  accepted_step events piece false e m made told approved late =
      told_on events (Accepted piece) (standing_elsewhere events piece site day e) (inputs_step limits format site day is events piece m) told approved late
  accepted_step events piece true e m made told approved late =
      elim (approved_behind events piece site day e approved) [
        | inl same ↦ told_on events (Accepted piece) same (inputs_step limits format site day is events piece m) told approved late
        | inr a ↦ approved_now events piece made e a approved
      ]

  other_step : (events : List Event) (e : Event) → accepted (events ++ e ∷ []) ≡ accepted events → Told events → Told (events ++ e ∷ [])
  other_step events e same told =
      let one = same_records limits format site day is events e same in
      told_on events e one.standing (λ approved. one.inputs) told

  one_step : (e : Event) (since done : List Event) → IsOrderly limits format ((map Accepted first ++ done) ++ e ∷ since)
      → ((before after : List Event) (piece : Record) → done ++ e ∷ since ≡ before ++ Accepted piece ∷ after → IsMade (map Accepted first ++ before) piece)
      → Told (map Accepted first ++ done) → Told ((map Accepted first ++ done) ++ e ∷ [])
  one_step (Accepted piece) since done k made told =
      accepted_step (map Accepted first ++ done) piece (same_site piece.edit.site site) refl (k.accepted (map Accepted first ++ done) since piece refl)
      (made done since piece refl) told
  one_step (Published own its) since done k made told =
      other_step (map Accepted first ++ done) (Published own its) (accepted_published (map Accepted first ++ done) own its) told
  one_step (Faulted left) since done k made told =
      other_step (map Accepted first ++ done) (Faulted left) (accepted_faulted (map Accepted first ++ done) left) told

  -- event after event since the opening
  told_since : (since done : List Event) → IsOrderly limits format ((map Accepted first ++ done) ++ since)
      → ((before after : List Event) (piece : Record) → done ++ since ≡ before ++ Accepted piece ∷ after → IsMade (map Accepted first ++ before) piece)
      → Told (map Accepted first ++ done) → Told ((map Accepted first ++ done) ++ since)
  told_since [] done k made told = subst Told (sym (append-nil (map Accepted first ++ done))) told
  told_since (e ∷ since) done k made told =
      let events = map Accepted first ++ done in
      let behind : events ++ e ∷ [] ≡ map Accepted first ++ (done ++ e ∷ []) = append_assoc (map Accepted first) done (e ∷ []) in
      let whole : (map Accepted first ++ (done ++ e ∷ [])) ++ since ≡ events ++ e ∷ since =
      ap (λ (l : List Event). l ++ since) (sym behind) ∙ append_assoc events (e ∷ []) since in
      subst Told whole
      (told_since since (done ++ e ∷ []) (subst (IsOrderly limits format) (sym whole) k)
      (λ before after piece s. made before after piece (sym (append_assoc done (e ∷ []) since) ∙ s))
      (subst Told behind (one_step e since done k made told)))

  -- of the edits that it was opened with none is numbered so
  none_first : Told (map Accepted first ++ [])
  none_first approved late =
      let l = standing_within (map Accepted first ++ []) site day in
      let few : length (accepted (map Accepted first ++ [])) ≡ length first = ap (λ (e : List Event). length (accepted e)) (append-nil (map Accepted first)) ∙ ap length (accepted_all first) in
      absurd (omega (arith, l, few, late))

  pub stored_since : (since : List Event) → IsOrderly limits format (map Accepted first ++ since)
      → ((before after : List Event) (piece : Record) → since ≡ before ++ Accepted piece ∷ after → IsMade (map Accepted first ++ before) piece)
      → Told (map Accepted first ++ since)
  stored_since since k made =
      let whole : (map Accepted first ++ []) ++ since ≡ map Accepted first ++ since = ap (λ (l : List Event). l ++ since) (append-nil (map Accepted first)) in
      subst Told whole (told_since since [] (subst (IsOrderly limits format) (sym whole) k) made none_first)

-- what holds of all holds of each
of_each : (P : Record → Type 0) (pieces : List Record) (k : ℕ) (piece : Record) → All P pieces → slice_get pieces k ≡ Some piece → P piece
of_each P [] k piece all h = absurd (cc)
of_each P (x ∷ pieces) zero piece all h = let same : x ≡ piece = cc in subst P same (All-head P x pieces all)
of_each P (x ∷ pieces) (suc k) piece all h = of_each P pieces k piece (All-tail P x pieces all) h

of_numbered : (P : Record → Type 0) (pieces : List Record) (number : ℕ) (b : Bool) (piece : Record) → All P pieces
    → cond b None (slice_get pieces (number - 1)) ≡ Some piece → P piece
of_numbered P pieces number true piece all h = absurd (cc)
of_numbered P pieces number false piece all h = of_each P pieces (number - 1) piece all h

-- where each edit names a site, it is the sheet of the site itself
pub own_sheet : (events : List Event) (site : SiteNumber) (day : ℤ) → IsSite site → All (λ (piece : Record). IsSite piece.edit.site) (accepted events)
    → IsFromScratch events site day → stored_sheet events site day ≡ Some (sheet site day (value_at events site day) true)
own_sheet events site day is all f =
    let number = (standing_at events site day).edit in
    let named = of_numbered (λ (piece : Record). IsSite piece.edit.site) (accepted events) number (number == 0) f.approval all f.approved_by in
    let own : f.approval.edit.site ≡ site = (Decides-same_site f.approval.edit.site site named is).0 f.of_site in
    f.text ∙ ap (λ (s : SiteNumber). Some (sheet s day (value_at events site day) true)) own
