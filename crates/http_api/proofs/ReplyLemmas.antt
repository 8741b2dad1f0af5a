-- A whole reply: its head and then its body.
use Rattle.std.proofs.Common.{◌≡◌, ℕ, List, [], ◌++◌, length, ap, ◌∙◌, Option}
use Rattle.wire.specs.declared.messages.Verb.{Verb}
use Rattle.wire.specs.declared.replies.Kind.{Kind}

-- both texts start empty; the body is written, then the head that counts it, then the body behind the head
pub whole_reply : (head : ℕ → Kind → Option Verb → ℕ → List ℕ) (due status len : ℕ) (told kind : Kind) (allowed allow : Option Verb) (body before text start headed bytes whole : List ℕ)
    → before ≡ [] → text ≡ before ++ body → start ≡ [] → status ≡ due → kind ≡ told → allow ≡ allowed → len ≡ length text
    → headed ≡ start ++ head status kind allow len → bytes ≡ text → whole ≡ headed ++ bytes
    → whole ≡ head due told allowed (length body) ++ body
whole_reply head due status len told kind allowed allow body before text start headed bytes whole empty written none is typed may counted ahead same behind =
    let all : text ≡ body = written ∙ ap (λ (t : List ℕ). t ++ body) empty in
    let first : headed ≡ head status kind allow len = ahead ∙ ap (λ (t : List ℕ). t ++ head status kind allow len) none in
    let size : len ≡ length body = counted ∙ ap length all in
    cc
