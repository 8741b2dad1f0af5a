-- The head of a reply (RFC 9112, section 4).
use Rattle.std.specs.Prelude.{ℕ, Bool, ◌==◌, List, [], ◌∷◌, ◌++◌, length, Option, Some, None, unwrap_or, codes, decimal, true, false, if◌then◌else◌}
use Rattle.std.specs.List.{list_any}
use Rattle.http.specs.StatusCode.{reason_phrase}
use Rattle.wire.specs.declared.messages.Verb.{Verb}
use Rattle.wire.specs.declared.messages.Verb.TheVariants.{Get, Post, Other}
use Rattle.wire.specs.declared.replies.Kind.{Kind}
use Rattle.wire.specs.declared.replies.Kind.TheVariants.{Json, Plain, Csv}

-- CR LF
abbrev pub line_end : List ℕ
line_end = 13 ∷ 10 ∷ []

-- the statuses that replies have
abbrev pub is_reply_status : ℕ → Bool
is_reply_status status =
    list_any (λ n. n == status) (200 ∷ 400 ∷ 404 ∷ 405 ∷ 409 ∷ 411 ∷ 413 ∷ 423 ∷ 503 ∷ 507 ∷ [])

-- the verb that a reply allows is GET or POST where the status is 405, and there is none elsewhere
abbrev pub is_allowance : ℕ → Option Verb → Bool
is_allowance status None = if status == 405 then false else true
is_allowance status (Some Get) = status == 405
is_allowance status (Some Post) = status == 405
is_allowance status (Some Other) = false

abbrev pub type_text : Kind → List ℕ
type_text Json = codes "application/json"
type_text Plain = codes "text/plain; charset=utf-8"
type_text Csv = codes "text/csv"

abbrev pub allow_line : Option Verb → List ℕ
allow_line None = []
allow_line (Some Get) = codes "Allow: GET" ++ line_end
allow_line (Some Post) = codes "Allow: POST" ++ line_end
allow_line (Some Other) = []

-- HTTP-version SP code SP phrase
abbrev pub status_line : ℕ → List ℕ
status_line status =
    codes "HTTP/1.1 " ++ decimal status ++ codes " " ++ unwrap_or (reason_phrase status) [] ++ line_end

-- the type of the body
abbrev pub type_line : Kind → List ℕ
type_line kind = codes "Content-Type: " ++ type_text kind ++ line_end

-- how many bytes the body has
abbrev pub length_line : ℕ → List ℕ
length_line len = codes "Content-Length: " ++ decimal len ++ line_end

-- the status line, the type of the body, for 405 what is allowed, the body's length, and an empty line
abbrev pub head_text : ℕ → Kind → Option Verb → ℕ → List ℕ
head_text status kind allow len =
    status_line status ++ type_line kind ++ allow_line allow ++ length_line len ++ line_end

-- a whole reply
abbrev pub reply_bytes : ℕ → Kind → Option Verb → List ℕ → List ℕ
reply_bytes status kind allow body = head_text status kind allow (length body) ++ body
