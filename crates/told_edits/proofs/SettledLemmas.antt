-- What became of edits that were asked, one behind another.
use Rattle.std.proofs.Common.{◌≡◌, ◌⊎◌, inl, inr, refl, sym, ap, subst, ◌∙◌, ℕ, ◌+◌, Bool, true, false, List, [], ◌∷◌, ◌++◌, length, map, slice_get, Option, Some, None, Result, Ok, Err, length-append, arith}
use Rattle.std.proofs.lemmas.List.{append-nil, append_assoc, get_or_push, length-map, map-append}
use Rattle.std.proofs.lemmas.Option.{slice_get_read}
use Rattle.edits.specs.declared.content.Edit.{Edit}
use Rattle.history.proofs.EventLemmas.{accepted-append}
use Rattle.history.proofs.LegalLemmas.{left_may_be_kept, legal_accepted, legal_more, may_fault}
use Rattle.history.proofs.RepeatLemmas.{is_repeated, named_still, repeats_still}
use Rattle.history.proofs.VerdictLemmas.{accepted_parts}
use Rattle.history.specs.Accepted.{Numbered, accepted, edit_of, edits_of, named}
use Rattle.history.specs.After.{go_on}
use Rattle.history.specs.Events.{Event, History}
use Rattle.history.specs.Events as happenings
use Rattle.history.specs.Legal.{IsLegal}
use Rattle.history.specs.Verdicts.{Repeats, record_of, verdict}
use Rattle.office.specs.Edits.{Edits, IsFaulted, IsRefusedBy, IsTaken}
use Rattle.office.specs.declared.offices.Accepted.{Accepted}
use Rattle.office_inputs.specs.declared.refusals.Refusal.{Refusal}
use Rattle.office_inputs.specs.declared.refusals.Refusal.TheVariants.{NoMemory, JournalFault}
use Rattle.shared_office.proofs.PassageLemmas.{go_on_none}
use Rattle.told_edits.proofs.AgainLemmas.{one_again}
use Rattle.told_edits.specs.Again.{AreToldAsBefore, IsToldAgain, IsToldAsBefore, TellNumbers, TellsNumber}
use Rattle.told_edits.specs.Lines.{AreSent, IsSent, accepted_line, refused_line, told_line}
use Rattle.told_edits.specs.Settled.{AreKnownOrRefused, AreNewOnesOf, AreSettled, IsKnownAs, IsKnownOrRefused, IsNew}

-- one edit was asked
record IsOneSettled (end : List ℕ) (h next : History) (edit : Edit) (line : List ℕ) : Type 0 where
  joined : List Edit
  behind : edits_of next.events ≡ edits_of h.events ++ joined
  new : (joined ≡ []) ⊎ ((joined ≡ edit ∷ []) × IsNew h edit)
  told : ((number : ℕ) × (line ≡ accepted_line end number) × (verdict next edit ≡ Repeats number)) ⊎ ((refusal : Refusal) × (line ≡ refused_line end refusal))
  legal : IsLegal next

last_there : (edits : List Edit) (edit : Edit) → slice_get (edits ++ edit ∷ []) (length edits) ≡ Some edit
last_there edits edit =
    let long = length-append edits (edit ∷ []) in
    slice_get_read (edits ++ edit ∷ []) (length (edits ++ edit ∷ [])) (length edits) edit refl (omega (arith, long)) (sym (get_or_push edits edit edit (length edits) refl))

module _ (end : List ℕ) (h next : History) (edit : Edit) (legal : IsLegal h) where
  all_stay : next ≡ h → edits_of next.events ≡ edits_of h.events ++ []
  all_stay is = ap (λ (x : History). edits_of x.events) is ∙ sym (append-nil (edits_of h.events))

  unchanged : (refusal : Refusal) → next ≡ h → IsOneSettled end h next edit (refused_line end refusal)
  unchanged refusal is = record { joined = []; behind = all_stay is; new = inl refl; told = inr (refusal, refl); legal = subst IsLegal (sym is) legal }

  faulted : (in_doubt : Bool) → IsFaulted h edit next in_doubt → IsOneSettled end h next edit (refused_line end (JournalFault in_doubt))
  faulted in_doubt is =
      let after = is.faulted in record {
        joined = [];
        behind = ap (λ (x : History). edits_of x.events) after ∙ ap (map edit_of) (accepted-append h.events (happenings.Faulted is.left ∷ []))
            ∙ map-append edit_of (accepted h.events) [];
        new = inl refl;
        told = inr (JournalFault in_doubt, refl);
        legal = subst IsLegal (sym after)
            (legal_more h (happenings.Faulted is.left) legal (may_fault h is.left (left_may_be_kept h edit is.left is.lawful legal (is.failed, is.left_is))));
      }

  refused : (refusal : Refusal) → IsRefusedBy h edit next refusal → IsOneSettled end h next edit (refused_line end refusal)
  refused NoMemory is = unchanged NoMemory is
  refused (JournalFault in_doubt) is = faulted in_doubt is
  refused refusal is = unchanged refusal is.1

  taken : (number : ℕ) (again : Bool) → IsTaken h edit next number again → IsOneSettled end h next edit (accepted_line end number)
  taken number true is = record {
    joined = [];
    behind = all_stay is.1;
    new = inl refl;
    told = inl (number, refl, ap (λ (x : History). verdict x edit) is.1 ∙ is.0);
    legal = subst IsLegal (sym is.1) legal;
  }
  taken number false is =
      let stays : IsLegal next = subst IsLegal (sym is.2) (legal_accepted h edit legal is.0) in
      let all : edits_of next.events ≡ edits_of h.events ++ edit ∷ [] =
      ap (λ (x : History). edits_of x.events) is.2 ∙ ap (map edit_of) (accepted-append h.events (happenings.Accepted (record_of h edit) ∷ []))
      ∙ map-append edit_of (accepted h.events) (record_of h edit ∷ []) in
      let place : slice_get (edits_of h.events ++ edit ∷ []) (length (accepted h.events)) ≡ Some edit =
      ap (slice_get (edits_of h.events ++ edit ∷ [])) (sym (length-map (accepted h.events) edit_of)) ∙ last_there (edits_of h.events) edit in
      let known : verdict next edit ≡ Repeats number =
      is_repeated next (length (accepted h.events)) edit stays (ap (λ (l : List Edit). slice_get l (length (accepted h.events))) all ∙ place)
      ∙ ap Repeats (sym is.1) in record {
        joined = edit ∷ [];
        behind = all;
        new = inr (refl, (accepted_parts h edit is.0).new);
        told = inl (number, refl, known);
        legal = stays;
      }

  answered : (told : Result Accepted Refusal) → Edits h edit next told → IsOneSettled end h next edit (told_line end told)
  answered (Ok told) is = taken told.number told.repeated is
  answered (Err refusal) is = refused refusal is

  one_settled : (line : List ℕ) → IsSent end h edit line next → IsOneSettled end h next edit line
  one_settled line sent = subst (IsOneSettled end h next edit) (sym sent.line_is) (answered sent.told sent.edited)

-- the history goes on by what happened
module _ (h next : History) (edit : Edit) where
  stays_on : next ≡ h → (added : List Event) × (next ≡ go_on h added)
  stays_on is = ([], is ∙ sym (go_on_none h))

  taken_on : (number : ℕ) (again : Bool) → IsTaken h edit next number again → (added : List Event) × (next ≡ go_on h added)
  taken_on number true is = stays_on is.1
  taken_on number false is = (happenings.Accepted (record_of h edit) ∷ [], is.2)

  refused_on : (refusal : Refusal) → IsRefusedBy h edit next refusal → (added : List Event) × (next ≡ go_on h added)
  refused_on NoMemory is = stays_on is
  refused_on (JournalFault in_doubt) is = (happenings.Faulted is.left ∷ [], is.faulted)
  refused_on refusal is = stays_on is.1

  edit_goes_on : (told : Result Accepted Refusal) → Edits h edit next told → (added : List Event) × (next ≡ go_on h added)
  edit_goes_on (Ok told) is = taken_on told.number told.repeated is
  edit_goes_on (Err refusal) is = refused_on refusal is

went_on : (h : History) (since behind : List Event) → go_on (go_on h since) behind ≡ go_on h (since ++ behind)
went_on h since behind =
    ap (λ (l : List Event). record { opened = h.opened; limits = h.limits; format = h.format; events = l }) (append_assoc h.events since behind)

pub sent_goes_on : (end : Edit → List ℕ) (h after : History) (edits : List Edit) (lines : List (List ℕ)) → AreSent end h edits lines after
    → (added : List Event) × (after ≡ go_on h added)
sent_goes_on end h after [] [] sent = ([], sent ∙ sym (go_on_none h))
sent_goes_on end h after [] (line ∷ lines) sent = absurd sent
sent_goes_on end h after (edit ∷ edits) [] sent = absurd sent
sent_goes_on end h after (edit ∷ edits) (line ∷ lines) sent =
    let one = edit_goes_on h sent.0 edit sent.1.told sent.1.edited in
    let rest = sent_goes_on end sent.0 after edits lines sent.2 in
    (one.0 ++ rest.0, rest.1 ∙ ap (λ (x : History). go_on x rest.0) one.1 ∙ went_on h one.0 rest.0)

-- what is new behind more edits was new before them
new_by : (h next : History) (more : List Edit) (edit : Edit) (o : Option Numbered) → named (edits_of h.events) edit.reference ≡ o
    → edits_of next.events ≡ edits_of h.events ++ more → IsNew next edit → o ≡ None
new_by h next more edit None is behind new = refl
new_by h next more edit (Some other) is behind new =
    let there : named (edits_of next.events) edit.reference ≡ Some other =
    ap (λ (l : List Edit). named l edit.reference) behind ∙ named_still edit.reference (edits_of h.events) more other is in
    absurd (cc (sym there ∙ new))

new_before : (h next : History) (more edits joined : List Edit) → edits_of next.events ≡ edits_of h.events ++ more
    → AreNewOnesOf next edits joined → AreNewOnesOf h edits joined
new_before h next more [] joined behind are = are
new_before h next more (edit ∷ edits) joined behind (inl later) = inl (new_before h next more edits joined behind later)
new_before h next more (edit ∷ edits) joined behind (inr own) =
    inr (own.0, own.1, new_by h next more edit (named (edits_of h.events) edit.reference) refl behind own.2, new_before h next more edits own.0 behind own.3)

-- one more in front
with_one : (h : History) (edit : Edit) (edits one joined : List Edit) → (one ≡ []) ⊎ ((one ≡ edit ∷ []) × IsNew h edit) → AreNewOnesOf h edits joined
    → AreNewOnesOf h (edit ∷ edits) (one ++ joined)
with_one h edit edits one joined (inl none) are = inl (subst (AreNewOnesOf h edits) (sym (ap (λ (l : List Edit). l ++ joined) none)) are)
with_one h edit edits one joined (inr own) are = inr (joined, ap (λ (l : List Edit). l ++ joined) own.0, own.1, are)

-- what is told of an edit holds on behind those that joined since
known_on : (end : List ℕ) (next after : History) (joined : List Edit) (edit : Edit) (line : List ℕ) → edits_of after.events ≡ edits_of next.events ++ joined
    → ((number : ℕ) × (line ≡ accepted_line end number) × (verdict next edit ≡ Repeats number)) ⊎ ((refusal : Refusal) × (line ≡ refused_line end refusal))
    → IsKnownOrRefused end after edit line
known_on end next after joined edit line behind (inr refused) = inr refused
known_on end next after joined edit line behind (inl known) =
    inl (
      known.0,
      known.1,
      λ later more is.
          repeats_still next later (joined ++ more) edit known.0
          (is ∙ ap (λ (l : List Edit). l ++ more) behind ∙ append_assoc (edits_of next.events) joined more) known.2,
    )

pub settled : (end : Edit → List ℕ) (h after : History) (edits : List Edit) (lines : List (List ℕ)) → IsLegal h → AreSent end h edits lines after
    → AreSettled end h after edits lines
settled end h after [] [] legal sent = record {
  joined = [];
  behind = ap (λ (x : History). edits_of x.events) sent ∙ sym (append-nil (edits_of h.events));
  new = refl;
  told = tt;
  legal = subst IsLegal (sym sent) legal;
}
settled end h after [] (line ∷ lines) legal sent = absurd sent
settled end h after (edit ∷ edits) [] legal sent = absurd sent
settled end h after (edit ∷ edits) (line ∷ lines) legal sent =
    let next = sent.0 in
    let one = one_settled (end edit) h next edit legal line sent.1 in
    let rest = settled end next after edits lines one.legal sent.2 in record {
      joined = one.joined ++ rest.joined;
      behind = rest.behind ∙ ap (λ (l : List Edit). l ++ rest.joined) one.behind ∙ append_assoc (edits_of h.events) one.joined rest.joined;
      new = with_one h edit edits one.joined rest.joined one.new (new_before h next one.joined edits rest.joined one.behind rest.new);
      told = (known_on (end edit) next after rest.joined edit line rest.behind one.told, rest.told);
      legal = rest.legal;
    }

-- and is told again
pub known_again : (end : List ℕ) (h later next : History) (edit : Edit) (number : ℕ) (more : List Edit) (line : List ℕ) → IsKnownAs h edit number
    → edits_of later.events ≡ edits_of h.events ++ more → IsSent end later edit line next → (next ≡ later) × IsToldAgain end number line
known_again end h later next edit number more line known behind sent =
    let again = one_again later next edit number (known later more behind) end sent.told sent.edited in
    (again.0, subst (λ (l : List ℕ). IsToldAgain end number l) (sym sent.line_is) again.1)

abbrev first_byte : List ℕ → ℕ
first_byte [] = 0
first_byte (byte ∷ bytes) = byte

-- a line that tells a number is not one that refuses, by its first byte
not_refused : (end line : List ℕ) (refusal : Refusal) → line ≡ refused_line end refusal → TellsNumber end line → ⊥
not_refused end line refusal is tells =
    let differ : 114 ≡ 101 = ap first_byte (sym is ∙ tells.1) in
    omega (arith, differ)

same_line : (end line told : List ℕ) (number : ℕ) → line ≡ accepted_line end number → IsToldAgain end number told → (told ≡ line) ⊎ (told ≡ refused_line end NoMemory)
same_line end line told number is (inl same) = inl (same ∙ sym is)
same_line end line told number is (inr none) = inr none

-- One edit is sent again, behind more that were accepted since: what its line tells, and that nothing happens where it told a number before.
module _ (end : List ℕ) (after later next : History) (edit : Edit) (more : List Edit) (line told : List ℕ)
    (behind : edits_of later.events ≡ edits_of after.events ++ more) (sent : IsSent end later edit told next) where
  as_before : IsKnownOrRefused end after edit line → IsToldAsBefore end line told
  as_before (inl known) tells = same_line end line told known.0 known.1 (known_again end after later next edit known.0 more told known.2 behind sent).1
  as_before (inr refused) tells = absurd (not_refused end line refused.0 refused.1 tells)

  nothing_happens : IsKnownOrRefused end after edit line → TellsNumber end line → next ≡ later
  nothing_happens (inl known) tells = (known_again end after later next edit known.0 more told known.2 behind sent).0
  nothing_happens (inr refused) tells = absurd (not_refused end line refused.0 refused.1 tells)

all_as_before : (end : Edit → List ℕ) (after later last : History) (edits more : List Edit) (lines again : List (List ℕ))
    → AreKnownOrRefused end after edits lines → IsLegal later → edits_of later.events ≡ edits_of after.events ++ more → AreSent end later edits again last
    → AreToldAsBefore end edits lines again × (TellNumbers end edits lines → last ≡ later)
all_as_before end after later last [] more [] [] known legal behind sent = (tt, λ tell. sent)
all_as_before end after later last [] more [] (told ∷ again) known legal behind sent = absurd sent
all_as_before end after later last [] more (line ∷ lines) again known legal behind sent = absurd known
all_as_before end after later last (edit ∷ edits) more [] again known legal behind sent = absurd known
all_as_before end after later last (edit ∷ edits) more (line ∷ lines) [] known legal behind sent = absurd sent
all_as_before end after later last (edit ∷ edits) more (line ∷ lines) (told ∷ again) known legal behind sent =
    let next = sent.0 in
    let one = one_settled (end edit) later next edit legal told sent.1 in
    let joined : edits_of next.events ≡ edits_of after.events ++ (more ++ one.joined) =
    one.behind ∙ ap (λ (l : List Edit). l ++ one.joined) behind ∙ append_assoc (edits_of after.events) more one.joined in
    let rest = all_as_before end after next last edits (more ++ one.joined) lines again known.1 one.legal joined sent.2 in (
      (as_before (end edit) after later next edit more line told behind sent.1 known.0, rest.0),
      λ tell. rest.1 tell.1 ∙ nothing_happens (end edit) after later next edit more line told behind sent.1 known.0 tell.0,
    )

-- and so are all of them
pub all_again : (end : Edit → List ℕ) (h after later last : History) (edits more : List Edit) (lines again : List (List ℕ)) → IsLegal h
    → AreSent end h edits lines after → IsLegal later → edits_of later.events ≡ edits_of after.events ++ more → AreSent end later edits again last
    → AreToldAsBefore end edits lines again × (TellNumbers end edits lines → last ≡ later)
all_again end h after later last edits more lines again legal sent legal_later behind sent_again =
    all_as_before end after later last edits more lines again (settled end h after edits lines legal sent).told legal_later behind sent_again
