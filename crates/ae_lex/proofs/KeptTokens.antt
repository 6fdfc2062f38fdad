-- Kept tokens where the numerals become more.
use Rattle.std.specs.Prelude.{ℕ, List, [], ◌∷◌, ◌++◌, ◌≡◌, length, get_or}
use Rattle.std.proofs.Common.{refl, ap, ◌∙◌, arith}
use Rattle.std.proofs.lemmas.List.{get_or_append_left, length-append, map-append}
use Rattle.ae_base.proofs.AllOf.{all_weaker, all_push, map_same}
use Rattle.ae_lex.specs.declared.kinds.Token.{Token}
use Rattle.ae_lex.specs.declared.kinds.TokenKind.{TokenKind}
use Rattle.ae_lex.specs.declared.kinds.TokenKind.TheVariants as kind
use Rattle.ae_lex.specs.declared.token_list.KeptToken.{KeptToken}
use Rattle.ae_lex.specs.declared.token_list.KeptKind.{KeptKind}
use Rattle.ae_lex.specs.declared.token_list.KeptKind.TheVariants as kept
use Rattle.ae_lex.specs.Inner.KeptTokens.{kind_of, token_of, tokens_of, IsNumbered, AreNumbered, Grows}

-- one kind
pub same_kind : (old new : List TokenKind) (k : KeptKind) → Grows old new → IsNumbered old k → kind_of new k ≡ kind_of old k
same_kind old new kept.Ident g n = refl
same_kind old new kept.TypeVar g n = refl
same_kind old new (kept.Numeral m) g n = ap (λ xs. get_or xs m kind.Ident) g.1 ∙ get_or_append_left old g.0 kind.Ident m n
same_kind old new (kept.Reserved r) g n = refl
same_kind old new (kept.Sign s) g n = refl

pub still_numbered : (old new : List TokenKind) (k : KeptKind) → Grows old new → IsNumbered old k → IsNumbered new k
still_numbered old new kept.Ident g n = tt
still_numbered old new kept.TypeVar g n = tt
still_numbered old new (kept.Numeral m) g n = let far = ap length g.1 ∙ length-append old g.0 in omega (arith, n, far)
still_numbered old new (kept.Reserved r) g n = tt
still_numbered old new (kept.Sign s) g n = tt

-- all of them
pub same_tokens : (old new : List TokenKind) (ts : List KeptToken) → Grows old new → AreNumbered old ts → tokens_of new ts ≡ tokens_of old ts
same_tokens old new ts g a =
    map_same (token_of new) (token_of old) ts
    (all_weaker (λ t. IsNumbered old t.kind) (λ t. token_of new t ≡ token_of old t) (λ t n. ap (λ k. record { kind = k; from = t.from; to = t.to }) (same_kind old new t.kind g n)) ts a)

pub all_still_numbered : (old new : List TokenKind) (ts : List KeptToken) → Grows old new → AreNumbered old ts → AreNumbered new ts
all_still_numbered old new ts g a = all_weaker (λ t. IsNumbered old t.kind) (λ t. IsNumbered new t.kind) (λ t n. still_numbered old new t.kind g n) ts a

-- one more
pub one_more : (old new : List TokenKind) (ts : List KeptToken) (k : KeptKind) (t : Token) → Grows old new → AreNumbered old ts → kind_of new k ≡ t.kind → tokens_of new (ts ++ record { kind = k; from = t.from; to = t.to } ∷ []) ≡ tokens_of old ts ++ t ∷ []
one_more old new ts k t g a e =
    map-append (token_of new) ts (record { kind = k; from = t.from; to = t.to } ∷ []) ∙
    ap (λ us. us ++ token_of new (record { kind = k; from = t.from; to = t.to }) ∷ []) (same_tokens old new ts g a) ∙
    ap (λ u. tokens_of old ts ++ record { kind = u; from = t.from; to = t.to } ∷ []) e

pub one_more_numbered : (old new : List TokenKind) (ts : List KeptToken) (k : KeptKind) (from to : ℕ) → Grows old new → AreNumbered old ts → IsNumbered new k → AreNumbered new (ts ++ record { kind = k; from = from; to = to } ∷ [])
one_more_numbered old new ts k from to g a n = all_push (λ t. IsNumbered new t.kind) ts (record { kind = k; from = from; to = to }) (all_still_numbered old new ts g a) n
