-- The parts of a payload and its bytes, both ways, and the record that they make.
use Rattle.std.proofs.Common.{◌≡◌, ◌≢◌, ℕ, ◌^◌, ◌<◌, ◌≤◌, List, [], ◌∷◌, ◌++◌, Some, None, refl, sym, ap, subst, ◌∙◌, append_assoc, arith}
use Rattle.std.specs.Prelude.{flat_map}
use Rattle.std.proofs.Math.Nat.{pow-le-pow_right}
use Rattle.edits.proofs.EditLemmas.{same_edit}
use Rattle.edits.specs.Lawful.{IsLawful}
use Rattle.edits.specs.Texts.{AreInitials, IsComment, IsReference}
use Rattle.edits.specs.declared.content.Edit.{Edit}
use Rattle.edits.specs.declared.content.What.{What}
use Rattle.fixed_units.specs.Quantities.{SiteNumber, IsSite}
use Rattle.records.specs.Drafts.{AreLawful, HasParts}
use Rattle.records.specs.Payloads.{short_text, site_number, comment_bytes, Holds, kind, fields, sheet_bytes, payload, IsInGrammar}
use Rattle.records.specs.declared.formats.Format.{Format}
use Rattle.records.specs.Sheets.{Record}
use Rattle.records.specs.Parsing.{◌>>=◌, Parts, byte_at, sender_at, comment_at, fields_at, parts_at}
use Rattle.records.proofs.Fields.{IsBytes, bind_some, some_is, Takes, Takes-then, byte_takes, byte_again, comment_reads, comment_held}
use Rattle.records.proofs.SheetLemmas.{same_sheets, sheets_each}
use Rattle.records.proofs.KindLemmas.{Sender, sender_bytes, sender_reads, fields_take, fields_again}

abbrev pub parts_of : Record → Parts
parts_of piece =
    let e = piece.edit in
    record { by = e.by; reference = e.reference; site = e.site; comment = e.comment; what = e.what; behind = flat_map sheet_bytes piece.sheets }

abbrev sender_of : Parts → Sender
sender_of p = (p.by, (p.reference, p.site))

-- the comment and the fields
abbrev rest_bytes : Format → List ℕ → What → List ℕ
rest_bytes format comment what = comment_bytes format comment ++ fields what

abbrev pub parts_bytes : Format → Parts → List ℕ
parts_bytes format p = (kind p.what ∷ (sender_bytes (sender_of p) ++ rest_bytes format p.comment p.what)) ++ p.behind

grouped : (a b c d e f : List ℕ) → ((((a ++ b) ++ c) ++ d) ++ e) ++ f ≡ ((a ++ (b ++ c)) ++ (d ++ e)) ++ f
grouped a b c d e f = simp append_assoc

piece_spelling : (format : Format) (piece : Record) → payload format piece ≡ parts_bytes format (parts_of piece)
piece_spelling format piece =
    let e = piece.edit in
    ap (λ (t : List ℕ). kind e.what ∷ t)
    (grouped (short_text e.by) (short_text e.reference) (site_number e.site) (comment_bytes format e.comment) (fields e.what) (flat_map sheet_bytes piece.sheets))

abbrev parts_with : Sender → List ℕ → What → List ℕ → Parts
parts_with s comment what behind =
    record { by = s.0; reference = s.1.0; site = s.1.1; comment = comment; what = what; behind = behind }

-- what is read is what is spelled, and its comment is one that the format holds
parts_take : (format : Format) (bytes : List ℕ) (p : Parts) → IsBytes bytes → parts_at format bytes ≡ Some p → (bytes ≡ parts_bytes format p) × Holds format p.comment
unfolding parts_at
parts_take format bytes p fits e =
    let a = bind_some (byte_at bytes) (λ number. sender_at number.1 >>= λ sender. comment_at format sender.1 >>= λ comment. fields_at number.0 comment.1 >>= λ what. Some (parts_with sender.0 comment.0 what.0 what.1)) p e in
    let b = bind_some (sender_at a.0.1) (λ sender. comment_at format sender.1 >>= λ comment. fields_at a.0.0 comment.1 >>= λ what. Some (parts_with sender.0 comment.0 what.0 what.1)) p a.2 in
    let c = bind_some (comment_at format b.0.1) (λ comment. fields_at a.0.0 comment.1 >>= λ what. Some (parts_with b.0.0 comment.0 what.0 what.1)) p b.2 in
    let d = bind_some (fields_at a.0.0 c.0.1) (λ what. Some (parts_with b.0.0 c.0.0 what.0 what.1)) p c.2 in
    let made : Parts = parts_with b.0.0 c.0.0 d.0.0 d.0.1 in
    let t0 = byte_takes bytes a.0.0 a.0.1 fits a.1 in
    let t1 = sender_reads.takes a.0.1 b.0.0 b.0.1 t0.rest_fits b.1 in
    let t2 = (comment_reads format).takes b.0.1 c.0.0 c.0.1 t1.rest_fits c.1 in
    let t3 = fields_take a.0.0 c.0.1 d.0.0 d.0.1 t2.rest_fits d.1 in
    let rest = Takes-then b.0.1 (comment_bytes format c.0.0) c.0.1 (fields d.0.0) d.0.1 t2 t3.0 in
    let both = Takes-then a.0.1 (sender_bytes b.0.0) b.0.1 (rest_bytes format c.0.0 d.0.0) d.0.1 t1 rest in
    let whole = Takes-then bytes (a.0.0 ∷ []) a.0.1 (sender_bytes b.0.0 ++ rest_bytes format c.0.0 d.0.0) d.0.1 t0 both in
    let of_kind : Takes bytes (kind d.0.0 ∷ (sender_bytes b.0.0 ++ rest_bytes format c.0.0 d.0.0)) d.0.1 = subst (λ (k : ℕ). Takes bytes (k ∷ (sender_bytes b.0.0 ++ rest_bytes format c.0.0 d.0.0)) d.0.1) t3.1 whole in
    subst (λ (q : Parts). (bytes ≡ parts_bytes format q) × Holds format q.comment) (some_is made p d.2)
    (of_kind.parts, comment_held format b.0.1 c.0.0 c.0.1 c.1)

parts_again : (format : Format) (p : Parts) → p.site.value < 2 ^ 64 → Holds format p.comment → IsLawful p.what → parts_at format (parts_bytes format p) ≡ Some p
unfolding parts_at
parts_again format p value holds law =
    let sender = sender_bytes (sender_of p) in
    let comment = comment_bytes format p.comment in
    rw (byte_again (kind p.what) ((sender ++ (comment ++ fields p.what)) ++ p.behind), append_assoc sender (comment ++ fields p.what) p.behind, append_assoc comment (fields p.what) p.behind, sender_reads.again (sender_of p) (comment ++ (fields p.what ++ p.behind)) (tt, (tt, value)), (comment_reads format).again p.comment (fields p.what ++ p.behind) holds, fields_again p.what p.behind law) refl

site_fits : (site : SiteNumber) → IsSite site → site.value < 2 ^ 64
site_fits site is =
    let few : 10 ^ site.digits ≤ 10 ^ 15 = pow-le-pow_right (omega arith) is.longest in
    omega (arith, is.written)

read_again : (format : Format) (piece : Record) → IsInGrammar format piece → parts_at format (payload format piece) ≡ Some (parts_of piece)
read_again format piece g =
    ap (parts_at format) (piece_spelling format piece) ∙ parts_again format (parts_of piece) (site_fits piece.edit.site g.station) g.holds piece.edit.lawful

-- ---- what a reader of payloads may answer

lawful_parts : (format : Format) (piece : Record) → IsInGrammar format piece → AreLawful (parts_of piece)
lawful_parts format piece g =
    record {
      by_range = g.initials;
      reference_range = g.code;
      site_range = g.station;
      comment_range = g.comment;
      what_range = piece.edit.lawful;
      sheets_behind = record { sheets = piece.sheets; bytes_are = refl; are = g.sheets };
    }

abbrev parts_by : List ℕ → List ℕ → SiteNumber → List ℕ → What → List ℕ → Parts
parts_by by reference site comment what behind =
    record { by = by; reference = reference; site = site; comment = comment; what = what; behind = behind }

same_parts : (b c : List ℕ) (r s : List ℕ) (m n : SiteNumber) (t u : List ℕ) (v w : What) (x y : List ℕ) → b ≡ c → r ≡ s → m ≡ n → t ≡ u → v ≡ w → x ≡ y → parts_by b r m t v x ≡ parts_by c s n u w y
same_parts b c r s m n t u v w x y h i j o k l = rw (h, i, j, o, k, l) refl

parts_are : (piece : Record) (p : Parts) → HasParts piece p → parts_of piece ≡ p
parts_are piece p has =
    same_parts piece.edit.by p.by piece.edit.reference p.reference piece.edit.site p.site piece.edit.comment p.comment piece.edit.what p.what (flat_map sheet_bytes piece.sheets) p.behind has.by_is has.reference_is has.site_is has.comment_is has.what_is (sym has.sheets_are)

pub none_read : (format : Format) (bytes : List ℕ) → parts_at format bytes ≡ None → (piece : Record) → IsInGrammar format piece → bytes ≢ payload format piece
none_read format bytes none piece g e =
    let read : parts_at format bytes ≡ Some (parts_of piece) = ap (parts_at format) e ∙ read_again format piece g in
    absurd cc

read_parts : (format : Format) (bytes : List ℕ) (p : Parts) → parts_at format bytes ≡ Some p → (piece : Record) → IsInGrammar format piece → bytes ≡ payload format piece → parts_of piece ≡ p
read_parts format bytes p some piece g e =
    some_is (parts_of piece) p (sym (read_again format piece g) ∙ ap (parts_at format) (sym e) ∙ some)

pub not_lawful : (format : Format) (bytes : List ℕ) (p : Parts) → parts_at format bytes ≡ Some p → ¬ (AreLawful p) → (piece : Record) → IsInGrammar format piece → bytes ≢ payload format piece
not_lawful format bytes p some wrong piece g e =
    wrong (subst AreLawful (read_parts format bytes p some piece g e) (lawful_parts format piece g))

pub spelled : (format : Format) (bytes : List ℕ) (p : Parts) → IsBytes bytes → parts_at format bytes ≡ Some p → (piece : Record) → HasParts piece p → bytes ≡ payload format piece
spelled format bytes p fits some piece has =
    (parts_take format bytes p fits some).0 ∙ ap (parts_bytes format) (sym (parts_are piece p has)) ∙ sym (piece_spelling format piece)

pub in_grammar : (format : Format) (bytes : List ℕ) (p : Parts) → IsBytes bytes → parts_at format bytes ≡ Some p → (piece : Record) → HasParts piece p → AreLawful p → IsInGrammar format piece
in_grammar format bytes p fits some piece has law =
    record {
      initials = subst AreInitials (sym has.by_is) law.by_range;
      code = subst IsReference (sym has.reference_is) law.reference_range;
      station = subst IsSite (sym has.site_is) law.site_range;
      comment = subst IsComment (sym has.comment_is) law.comment_range;
      holds = subst (Holds format) (sym has.comment_is) (parts_take format bytes p fits some).1;
      sheets = has.sheets_kept;
    }

-- the record of these parts
pub record_of_parts : (format : Format) (bytes : List ℕ) (p : Parts) → IsBytes bytes → parts_at format bytes ≡ Some p → AreLawful p → (piece : Record) × IsInGrammar format piece × (bytes ≡ payload format piece)
record_of_parts format bytes p fits some law =
    let edit : Edit = record { by = p.by; reference = p.reference; site = p.site; comment = p.comment; what = p.what; lawful = law.what_range } in
    let piece : Record = record { edit = edit; sheets = law.sheets_behind.sheets } in
    let has : HasParts piece p = record { by_is = refl; reference_is = refl; site_is = refl; comment_is = refl; what_is = refl; sheets_are = law.sheets_behind.bytes_are; sheets_kept = law.sheets_behind.are } in
    (piece, in_grammar format bytes p fits some piece has law, spelled format bytes p fits some piece has)

-- ---- records of one payload are the same

same_record : (a b : Record) → a.edit ≡ b.edit → a.sheets ≡ b.sheets → a ≡ b
same_record a b edits sheets =
    ap (λ (e : Edit). record { edit = e; sheets = a.sheets }) edits ∙ ap (λ (s : List (List ℕ)). record { edit = b.edit; sheets = s }) sheets

pub one_record : (format : Format) (a b : Record) → IsInGrammar format a → IsInGrammar format b → payload format a ≡ payload format b → a ≡ b
one_record format a b g h e =
    let one : parts_of a ≡ parts_of b = some_is (parts_of a) (parts_of b) (sym (read_again format a g) ∙ ap (parts_at format) e ∙ read_again format b h) in
    let sheets : a.sheets ≡ b.sheets = same_sheets a.sheets b.sheets (sheets_each a.edit.what a.sheets g.sheets) (sheets_each b.edit.what b.sheets h.sheets) (ap (λ (p : Parts). p.behind) one) in
    same_record a b
    (same_edit a.edit b.edit (ap (λ (p : Parts). p.by) one) (ap (λ (p : Parts). p.reference) one) (ap (λ (p : Parts). p.site) one) (ap (λ (p : Parts). p.comment) one) (ap (λ (p : Parts). p.what) one)) sheets

-- what has the payload of a record is that record
pub found_again : (format : Format) (bytes : List ℕ) (found piece : Record) → bytes ≡ payload format found → IsInGrammar format found → IsInGrammar format piece → bytes ≡ payload format piece → found ≡ piece
found_again format bytes found piece here g h e = one_record format found piece g h (sym here ∙ e)
