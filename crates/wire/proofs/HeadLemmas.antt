-- Heads in the window of a stream: which bytes settle that one stands there, or that none does.
use Rattle.std.proofs.Common.{◌≡◌, ℕ, ◌+◌, ◌-◌, ◌<◌, ◌≤◌, true, false, ◌&&◌, List, [], ◌∷◌, ◌++◌, length, take, drop, get_or, refl, sym, ap, ◌∙◌, subst, arith, append_assoc, append-nil, length-append, length-drop, ⊎_elim, None, flat_map}
use Rattle.std.proofs.Math.Seq.{take-append-add}
use Rattle.std.proofs.lemmas.Bool.{true≢false, cases_lt, and_left, and_right, eq-eqb}
use Rattle.std.proofs.lemmas.List.{length-take, take_all, take-append-le, take-append-drop, drop_at, get_or-drop, get_or_at}
use Rattle.std.proofs.lemmas.List.Folds.{list_all-append}
use Rattle.memchr.specs.Find.{IsFirstByte, is_byte}
use Rattle.httparse.specs.Grammar.{LineEnd, crlf, lf, print_end, print_blank, print_version, print_field, RequestHead, ReadsRequest, HasNoRequest, print_request}
use Rattle.httparse.specs.Spans.{RequestOverflows}
use Rattle.httparse.specs.Pieces.{Stops, is_newline}
use Rattle.httparse.proofs.PieceLemmas.{Stops_token}
use Rattle.httparse.proofs.GrammarLemmas.{request_unique, ReadsRequest-append, print_request-append}
use Rattle.wire.specs.declared.framing.Head.{Head}
use Rattle.wire.specs.Framing.{frame_of, is_good}
use Rattle.wire.specs.Found.{IsHeadAt}
use Rattle.wire.specs.Messages.{HasHead, HasNoHead, IsMalformed, is_blank, whole_length}

-- ---- windows

-- what lies in the front lies in the window, whatever follows
pub take_within : (n : ℕ) (front more : List ℕ) → length front ≤ n → take n (front ++ more) ≡ front ++ take (n - length front) more
take_within n front more h =
    let e : length front + (n - length front) ≡ n = omega arith in
    subst (λ (k : ℕ). take k (front ++ more) ≡ front ++ take (n - length front) more) e (take-append-add front more (n - length front))

-- the window of more bytes begins with the window of fewer
pub take_grows : (n : ℕ) (front more : List ℕ) → (rest : List ℕ) × (take n (front ++ more) ≡ take n front ++ rest)
take_grows n front more =
    ⊎_elim
    (λ (short : length front < n).
    let le : length front ≤ n = omega arith in (
      take (n - length front) more,
      take_within n front more le ∙ ap (λ (xs : List ℕ). xs ++ take (n - length front) more) (sym (take_all n front le)),
    ))
    (λ (long : n ≤ length front). ([], take-append-le n front more long ∙ sym (append-nil (take n front))))
    (cases_lt (length front) n)

-- ---- a head in the window

-- a head of the window's first bytes stays its head
head_grows : (seen more : List ℕ) (head : RequestHead) (behind : List ℕ)
    → ReadsRequest (take 8192 seen) head behind → length head.fields ≤ 64 → HasHead (seen ++ more) head
head_grows seen more head behind reads room =
    let window = take_grows 8192 seen more in (
      behind ++ window.0,
      subst (λ (w : List ℕ). ReadsRequest w head (behind ++ window.0)) (sym window.1)
          (ReadsRequest-append (take 8192 seen) head behind window.0 reads),
      room,
    )

-- a head that was found stays the head, whatever follows
pub has_head : (seen more : List ℕ) (found : Head) (head : RequestHead)
    → IsHeadAt (take 8192 seen) found head → HasHead (seen ++ more) head
has_head seen more found head at = head_grows seen more head _ at.reads at.room

-- the rest is its head and then the bytes after it
pub head_splits : (rest : List ℕ) (head : RequestHead)
    → HasHead rest head → rest ≡ print_request head ++ drop (length (print_request head)) rest
head_splits rest head h =
    let printed = print_request head in
    let whole : rest ≡ printed ++ (h.0 ++ drop 8192 rest) =
    sym (take-append-drop 8192 rest) ∙ ap (λ (w : List ℕ). w ++ drop 8192 rest) h.1.1
    ∙ append_assoc printed h.0 (drop 8192 rest) in
    let after : drop (length printed) rest ≡ h.0 ++ drop 8192 rest =
    ap (drop (length printed)) whole ∙ drop_at printed (h.0 ++ drop 8192 rest) (length printed) refl in
    whole ∙ ap (λ (r : List ℕ). printed ++ r) (sym after)

-- the bytes behind a head that was found
pub found_splits : (seen more : List ℕ) (found : Head) (head : RequestHead)
    → IsHeadAt (take 8192 seen) found head → seen ++ more ≡ print_request head ++ drop found.len (seen ++ more)
found_splits seen more found head at =
    subst (λ (n : ℕ). seen ++ more ≡ print_request head ++ drop n (seen ++ more)) (sym at.len)
    (head_splits (seen ++ more) head (has_head seen more found head at))

-- a head ends in a line feed
end_of_line : (end : LineEnd) → (front : List ℕ) × (print_end end ≡ front ++ 10 ∷ [])
end_of_line crlf = (13 ∷ [], refl)
end_of_line lf = ([], refl)

regroup : (front lines end last : List ℕ) → front ++ (lines ++ (end ++ last)) ≡ (front ++ (lines ++ end)) ++ last
regroup front lines end last = simp append_assoc

pub ends_in_line_feed : (head : RequestHead) → (front : List ℕ) × (print_request head ≡ front ++ 10 ∷ [])
unfolding print_request
ends_in_line_feed head =
    let front : List ℕ =
    print_blank head.blank ++ head.method ++ 32 ∷ head.target ++ 32 ∷ print_version head.minor
    ++ print_end head.line_end in
    let lines : List ℕ = flat_map print_field head.fields in
    let last = end_of_line head.last in (
      front ++ (lines ++ last.0),
      ap (λ (end : List ℕ). front ++ (lines ++ end)) last.1 ∙ regroup front lines last.0 (10 ∷ []),
    )

-- a head has a byte
pub head_has_length : (head : RequestHead) → 0 < length (print_request head)
head_has_length head =
    let last = ends_in_line_feed head in
    omega (arith, ap length last.1, length-append last.0 (10 ∷ []))

-- a head fits the window
pub head_fits : (rest : List ℕ) (head : RequestHead) → HasHead rest head → length (print_request head) ≤ 8192
head_fits rest head h =
    omega (arith, length-take 8192 rest, ap length h.1.1, length-append (print_request head) h.0)

-- ---- one head

-- there is at most one head
pub head_unique : (rest : List ℕ) (head other : RequestHead) → HasHead rest head → HasHead rest other → head ≡ other
head_unique rest head other h k = (request_unique (take 8192 rest) head other h.0 k.0 h.1 k.1).0

-- ---- no head

-- a full window without a head has none, whatever follows
pub no_head_full : (seen more : List ℕ) → HasNoRequest (take 8192 seen) → 8192 ≤ length seen → HasNoHead (seen ++ more)
no_head_full seen more none full head h =
    none head h.0
    (subst (λ (w : List ℕ). ReadsRequest w head h.0) (take-append-le 8192 seen more full) h.1)

-- nor has a window that ends with the stream
pub no_head_short : (seen : List ℕ) → HasNoRequest seen → length seen ≤ 8192 → HasNoHead seen
no_head_short seen none short head h =
    none head h.0 (subst (λ (w : List ℕ). ReadsRequest w head h.0) (take_all 8192 seen short) h.1)

-- bytes that begin no head with few enough fields never do
pub never_head : (seen more : List ℕ) → RequestOverflows 64 (take 8192 seen) → HasNoHead (seen ++ more)
never_head seen more over head h =
    let window = take_grows 8192 seen more in
    let many = over window.0 head h.0 (subst (λ (w : List ℕ). ReadsRequest w head h.0) window.1 h.1) in
    absurd (omega (arith, many, h.2))

-- no head ends behind the first n bytes where no line feed stands behind them
pub no_head_without_line_feed : (n : ℕ) (seen : List ℕ) → n ≤ length seen → length seen ≤ 8192
    → HasNoHead (take n seen) → IsFirstByte (is_byte 10) (drop n seen) None → HasNoHead seen
no_head_without_line_feed n seen le short none feeds head h =
    let printed = print_request head in
    let reads : ReadsRequest seen head h.0 =
    subst (λ (w : List ℕ). ReadsRequest w head h.0) (take_all 8192 seen short) h.1 in
    let last = ends_in_line_feed head in
    ⊎_elim
    (λ (behind : n < length printed).
    let len : length printed ≡ length last.0 + 1 = ap length last.1 ∙ length-append last.0 (10 ∷ []) in
    let place : ℕ = length last.0 - n in
    let at : n + place ≡ length last.0 = omega arith in
    let whole : seen ≡ last.0 ++ 10 ∷ h.0 =
    reads.1 ∙ ap (λ (xs : List ℕ). xs ++ h.0) last.1 ∙ append_assoc last.0 (10 ∷ []) h.0 in
    let feed : get_or (drop n seen) place 0 ≡ 10 =
    get_or-drop n seen place 0 ∙ ap (λ (k : ℕ). get_or seen k 0) at
    ∙ ap (λ (xs : List ℕ). get_or xs (length last.0) 0) whole
    ∙ get_or_at last.0 10 h.0 0 (length last.0) refl in
    let inside : place < length (drop n seen) =
    omega (arith, length-drop n seen, ap length whole, length-append last.0 (10 ∷ h.0)) in
    feeds place (omega arith) inside (eq-eqb _ _ feed))
    (λ (within : length printed ≤ n).
    let front : take n seen ≡ printed ++ take (n - length printed) h.0 =
    ap (take n) reads.1 ∙ take_within n printed h.0 within in
    let small : length (take n seen) ≤ 8192 = omega (arith, length-take n seen) in
    none head
    (take (n - length printed) h.0, (h.1.0, take_all 8192 (take n seen) small ∙ front), h.2))
    (cases_lt n (length printed))

-- ---- blank bytes

blank_append : (front back : List ℕ) → is_blank (front ++ back) ≡ (is_blank front && is_blank back)
blank_append front back = list_all-append is_newline front back

-- bytes that are not blank stay so, whatever follows
pub not_blank_more : (seen more : List ℕ) → is_blank seen ≡ false → is_blank (seen ++ more) ≡ false
not_blank_more seen more h = blank_append seen more ∙ and_left _ _ h

not_blank_behind : (front back : List ℕ) → is_blank back ≡ false → is_blank (front ++ back) ≡ false
not_blank_behind front back h = blank_append front back ∙ and_right _ _ h

not_blank_stops : (bytes : List ℕ) → Stops is_newline bytes → is_blank bytes ≡ false
not_blank_stops [] stops = absurd stops
not_blank_stops (b ∷ bytes) stops = and_left _ _ stops

-- bytes that begin with a head are not blank
pub reads_not_blank : (bytes : List ℕ) (head : RequestHead) (behind : List ℕ)
    → ReadsRequest bytes head behind → is_blank bytes ≡ false
reads_not_blank bytes head behind reads =
    ap is_blank (reads.1 ∙ print_request-append head behind)
    ∙ not_blank_behind (print_blank head.blank) _
    (not_blank_stops _ (Stops_token head.method _ reads.0.method.0 reads.0.method.1))

-- nor is the window of a rest that begins with a head
pub window_not_blank : (rest : List ℕ) (head : RequestHead) → HasHead rest head → is_blank (take 8192 rest) ≡ false
window_not_blank rest head h = reads_not_blank (take 8192 rest) head h.0 h.1

pub head_not_blank : (rest : List ℕ) (head : RequestHead) → HasHead rest head → is_blank rest ≡ false
head_not_blank rest head h =
    ap is_blank (sym (take-append-drop 8192 rest))
    ∙ not_blank_more (take 8192 rest) (drop 8192 rest) (window_not_blank rest head h)

-- no head stands in blank bytes
pub blank_no_head : (rest : List ℕ) → is_blank rest ≡ true → HasNoHead rest
blank_no_head rest blank head h = true≢false (sym blank ∙ head_not_blank rest head h)

-- nor behind a whole window of them
pub blank_window_no_head : (rest : List ℕ) → is_blank (take 8192 rest) ≡ true → HasNoHead rest
blank_window_no_head rest blank head h = true≢false (sym blank ∙ window_not_blank rest head h)

pub blank_full_no_head : (seen more : List ℕ) → is_blank (take 8192 seen) ≡ true → 8192 ≤ length seen → HasNoHead (seen ++ more)
blank_full_no_head seen more blank full =
    blank_window_no_head (seen ++ more) (ap is_blank (take-append-le 8192 seen more full) ∙ blank)

-- ---- malformed rests

-- a rest whose head is ill framed is malformed
pub malformed_head : (rest : List ℕ) (head : RequestHead) → HasHead rest head → is_good (frame_of head) ≡ false → IsMalformed rest
malformed_head rest head h ill = record {
  visible = head_not_blank rest head h;
  cut = λ other k good.
      absurd (true≢false (sym good ∙ ap (λ (x : RequestHead). is_good (frame_of x)) (head_unique rest other head k h) ∙ ill));
}

-- and so is one that is not blank and has no head
pub malformed_no_head : (rest : List ℕ) → is_blank rest ≡ false → HasNoHead rest → IsMalformed rest
malformed_no_head rest visible none = record {
  visible = visible;
  cut = λ head h good. absurd (none head h);
}

-- and one that ends within the body
pub malformed_cut : (rest : List ℕ) (head : RequestHead) → HasHead rest head → length rest < whole_length head → IsMalformed rest
malformed_cut rest head h short = record {
  visible = head_not_blank rest head h;
  cut = λ other k good. subst (λ (x : RequestHead). length rest < whole_length x) (head_unique rest head other h k) short;
}
