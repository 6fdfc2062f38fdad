-- Acts: those that take their token or refuse it, and those that take it so that chains go on.
use Rattle.std.proofs.Common.{ℕ, Bool, true, false, cond, List, Option, Some, None}
use Rattle.ae_lex.specs.declared.kinds.Token.{Token}
use Rattle.ae_lex.specs.declared.kinds.TokenKind.{TokenKind}
use Rattle.ae_syntax.specs.Parts.{Part}
use Rattle.ae_syntax.specs.Inner.Machine.{Want, Act, skip, take, opens, refuse, then_wants, if_some, on_atom, on_post, on_unary, on_prod, on_sum, on_rel, on_not, on_and, on_or}

-- an act that takes its token or refuses it, and one that takes it so that chains go on
unfoldable pub Firm : Act → Type 0
Firm (skip u) = ⊥
Firm _ = Unit {0}

unfoldable pub Plain : Act → Type 0
Plain (take d new u) = Unit {0}
Plain refuse = Unit {0}
Plain _ = ⊥

pub firm_plain : (a : Act) → Plain a → Firm a
unfolding Firm Plain
firm_plain (take d new u) p = tt
firm_plain refuse p = tt
firm_plain (skip u) p = absurd p
firm_plain (opens d new u) p = absurd p

pub firm_cond : (b : Bool) (x y : Act) → Firm x → Firm y → Firm (cond b x y)
unfolding Firm
firm_cond true x y p q = p
firm_cond false x y p q = q

pub plain_cond : (b : Bool) (x y : Act) → Plain x → Plain y → Plain (cond b x y)
unfolding Plain
plain_cond true x y p q = p
plain_cond false x y p q = q

pub firm_some : {A : Type 0} (o : Option A) (f : A → Act) (y : Act) → ((a : A) → Firm (f a)) → Firm y → Firm (if_some o f y)
unfolding Firm
firm_some (Some a) f y p q = p a
firm_some None f y p q = q

pub plain_some : {A : Type 0} (o : Option A) (f : A → Act) (y : Act) → ((a : A) → Plain (f a)) → Plain y → Plain (if_some o f y)
unfolding Plain
plain_some (Some a) f y p q = p a
plain_some None f y p q = q

pub firm_then : (a : Act) (m : List Want) → Firm a → Firm (then_wants a m)
unfolding Firm
firm_then (skip u) m f = absurd f
firm_then (take d new u) m f = tt
firm_then (opens d new u) m f = tt
firm_then refuse m f = tt

pub plain_then : (a : Act) (m : List Want) → Plain a → Plain (then_wants a m)
unfolding Plain
plain_then (take d new u) m f = tt
plain_then refuse m f = tt
plain_then (skip u) m f = absurd f
plain_then (opens d new u) m f = absurd f

pub plain_take : (d : ℕ) (new : List Want) (u : List Part) → Plain (take d new u)
unfolding Plain
plain_take d new u = tt

pub plain_refuse : Plain refuse
unfolding Plain
plain_refuse = tt

pub firm_take : (d : ℕ) (new : List Want) (u : List Part) → Firm (take d new u)
unfolding Firm
firm_take d new u = tt

pub firm_opens : (d : ℕ) (new : List Want) (u : List Part) → Firm (opens d new u)
unfolding Firm
firm_opens d new u = tt

pub plain_atom : (d : ℕ) (v : List Part) (t : Token) (k : TokenKind) → Plain (on_atom d v t k)
plain_atom d v t k = search (plain_cond, plain_some, plain_take, plain_refuse) depth 12

pub plain_post : (d : ℕ) (v : List Part) (t : Token) (k : TokenKind) → Plain (on_post d v t k)
plain_post d v t k = plain_then _ _ (plain_atom d v t k)

pub plain_unary : (d : ℕ) (v : List Part) (t : Token) (k : TokenKind) → Plain (on_unary d v t k)
plain_unary d v t k = search (plain_cond, plain_take, plain_post)

pub plain_prod : (d : ℕ) (v : List Part) (t : Token) (k : TokenKind) → Plain (on_prod d v t k)
plain_prod d v t k = plain_then _ _ (plain_unary d v t k)

pub plain_sum : (d : ℕ) (v : List Part) (t : Token) (k : TokenKind) → Plain (on_sum d v t k)
plain_sum d v t k = plain_then _ _ (plain_prod d v t k)

pub plain_rel : (d : ℕ) (v : List Part) (t : Token) (k : TokenKind) → Plain (on_rel d v t k)
plain_rel d v t k = plain_then _ _ (plain_sum d v t k)

pub firm_of_rel : (d : ℕ) (v : List Part) (t : Token) (k : TokenKind) → Firm (on_rel d v t k)
firm_of_rel d v t k = firm_plain _ (plain_rel d v t k)

pub firm_not : (d : ℕ) (v : List Part) (t : Token) (k : TokenKind) → Firm (on_not d v t k)
firm_not d v t k = search (firm_cond, firm_some, firm_take, firm_opens, firm_of_rel) depth 12

pub firm_and : (d : ℕ) (v : List Part) (t : Token) (k : TokenKind) → Firm (on_and d v t k)
firm_and d v t k = firm_then _ _ (firm_not d v t k)

pub firm_or : (d : ℕ) (v : List Part) (t : Token) (k : TokenKind) → Firm (on_or d v t k)
firm_or d v t k = firm_then _ _ (firm_and d v t k)
