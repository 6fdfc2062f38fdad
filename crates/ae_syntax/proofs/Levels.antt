-- A level is the tighter level with a chain.
use Rattle.std.proofs.Common.{ℕ, ◌<◌, Bool, true, false, List, [], ◌∷◌, ◌++◌, ◌≡◌, refl, sym, ap, ◌∙◌, arith, append_assoc}
use Rattle.ae_base.proofs.Tests.{false_true}
use Rattle.ae_lex.specs.declared.kinds.Token.{Token}
use Rattle.ae_lex.specs.declared.kinds.TokenKind.{TokenKind}
use Rattle.ae_lex.specs.declared.kinds.TokenKind.TheVariants as kind
use Rattle.ae_lex.specs.declared.kinds.Reserved.TheVariants as word
use Rattle.ae_lex.specs.declared.kinds.Sign.TheVariants as sign
use Rattle.ae_syntax.specs.Parts.{Part}
use Rattle.ae_syntax.specs.Inner.Machine.{Want, an_expr, an_or, an_and, an_not, a_rel, a_sum, a_prod, a_unary, a_post, an_atom, more_arrow, more_or, more_and, more_rel, more_sum, more_prod, more_post, make, Act, skip, take, opens, refuse, act, then_wants, unchained, feed, finish, run, mark}
use Rattle.ae_syntax.proofs.Acts.{Firm, Plain, plain_atom, plain_unary, plain_prod, plain_sum, firm_not, firm_and, firm_or}
use Rattle.ae_syntax.proofs.Steps.{went, run_is, run_act, no_arrow, no_or, no_and, makes, pull}

deeper : (a : Act) (m : Want) (ss : List Want) (t : Token) (ts : List Token) → Firm a → unchained (m ∷ ss) ≡ unchained ss → went (then_wants a (m ∷ [])) ss t ts ≡ went a (m ∷ ss) t ts
unfolding went run feed Firm
deeper (skip u) m ss t ts f e = absurd f
deeper (take d new u) m ss t ts f e = ap (λ z. mark d (run ts z u)) (append_assoc new (m ∷ []) ss)
deeper (opens d new u) m ss t ts f e = ap (λ z. mark d (run ts (new ++ z) u)) (sym e)
deeper refuse m ss t ts f e = refl

pub deeper_plain : (a : Act) (more : List Want) (ss : List Want) (t : Token) (ts : List Token) → Plain a → went (then_wants a more) ss t ts ≡ went a (more ++ ss) t ts
unfolding went run feed Plain
deeper_plain (take d new u) more ss t ts f = ap (λ z. mark d (run ts z u)) (append_assoc new more ss)
deeper_plain refuse more ss t ts f = refl
deeper_plain (skip u) more ss t ts f = absurd f
deeper_plain (opens d new u) more ss t ts f = absurd f

pub as_post : (d : ℕ) (rest : List Token) (ss : List Want) (v : List Part) → run rest (a_post d ∷ ss) v ≡ run rest (an_atom d ∷ more_post d ∷ ss) v
unfolding run finish
as_post d [] ss v = refl
as_post d (t ∷ ts) ss v = run_is t ts (a_post d) ss v ∙ deeper_plain _ (more_post d ∷ []) ss t ts (plain_atom d v t t.kind) ∙ sym (run_is t ts (an_atom d) (more_post d ∷ ss) v)

pub as_prod : (d : ℕ) (rest : List Token) (ss : List Want) (v : List Part) → run rest (a_prod d ∷ ss) v ≡ run rest (a_unary d ∷ more_prod d ∷ ss) v
unfolding run finish
as_prod d [] ss v = refl
as_prod d (t ∷ ts) ss v = run_is t ts (a_prod d) ss v ∙ deeper_plain _ (more_prod d ∷ []) ss t ts (plain_unary d v t t.kind) ∙ sym (run_is t ts (a_unary d) (more_prod d ∷ ss) v)

pub as_sum : (d : ℕ) (rest : List Token) (ss : List Want) (v : List Part) → run rest (a_sum d ∷ ss) v ≡ run rest (a_prod d ∷ more_sum d ∷ ss) v
unfolding run finish
as_sum d [] ss v = refl
as_sum d (t ∷ ts) ss v = run_is t ts (a_sum d) ss v ∙ deeper_plain _ (more_sum d ∷ []) ss t ts (plain_prod d v t t.kind) ∙ sym (run_is t ts (a_prod d) (more_sum d ∷ ss) v)

pub as_rel : (d : ℕ) (rest : List Token) (ss : List Want) (v : List Part) → run rest (a_rel d ∷ ss) v ≡ run rest (a_sum d ∷ more_rel d ∷ ss) v
unfolding run finish
as_rel d [] ss v = refl
as_rel d (t ∷ ts) ss v = run_is t ts (a_rel d) ss v ∙ deeper_plain _ (more_rel d ∷ []) ss t ts (plain_sum d v t t.kind) ∙ sym (run_is t ts (a_sum d) (more_rel d ∷ ss) v)

pub as_and : (d : ℕ) (rest : List Token) (ss : List Want) (v : List Part) → run rest (an_and d ∷ ss) v ≡ run rest (an_not d ∷ more_and d ∷ ss) v
unfolding run finish
as_and d [] ss v = refl
as_and d (t ∷ ts) ss v = run_is t ts (an_and d) ss v ∙ deeper _ (more_and d) ss t ts (firm_not d v t t.kind) refl ∙ sym (run_is t ts (an_not d) (more_and d ∷ ss) v)

pub as_or : (d : ℕ) (rest : List Token) (ss : List Want) (v : List Part) → run rest (an_or d ∷ ss) v ≡ run rest (an_and d ∷ more_or d ∷ ss) v
unfolding run finish
as_or d [] ss v = refl
as_or d (t ∷ ts) ss v = run_is t ts (an_or d) ss v ∙ deeper _ (more_or d) ss t ts (firm_and d v t t.kind) refl ∙ sym (run_is t ts (an_and d) (more_or d ∷ ss) v)

pub as_expr : (d : ℕ) (rest : List Token) (ss : List Want) (v : List Part) → run rest (an_expr d ∷ ss) v ≡ run rest (an_or d ∷ more_arrow d ∷ ss) v
unfolding run finish
as_expr d [] ss v = refl
as_expr d (t ∷ ts) ss v = run_is t ts (an_expr d) ss v ∙ deeper _ (more_arrow d) ss t ts (firm_or d v t t.kind) refl ∙ sym (run_is t ts (an_or d) (more_arrow d ∷ ss) v)

-- ---- what begins like an atom, and what begins like a relation
abbrev pub starts_atom : TokenKind → Bool
starts_atom kind.Ident = true
starts_atom (kind.Whole n) = true
starts_atom (kind.Decimal top bottom) = true
starts_atom (kind.Reserved word.True) = true
starts_atom (kind.Reserved word.False) = true
starts_atom (kind.Reserved word.Void) = true
starts_atom (kind.Reserved word.Distinct) = true
starts_atom (kind.Sign sign.OpenParen) = true
starts_atom (kind.Sign sign.OpenBrace) = true
starts_atom _ = false

abbrev pub starts_rel : TokenKind → Bool
starts_rel (kind.Sign sign.Minus) = true
starts_rel k = starts_atom k

abbrev pub BeginsAtom : List Token → Type 0
BeginsAtom [] = ⊥
BeginsAtom (t ∷ ts) = starts_atom t.kind ≡ true

abbrev pub BeginsRel : List Token → Type 0
BeginsRel [] = ⊥
BeginsRel (t ∷ ts) = starts_rel t.kind ≡ true

pub atom_begins_rel : (k : TokenKind) → starts_atom k ≡ true → starts_rel k ≡ true
atom_begins_rel (kind.Sign sign.Minus) e = refl
atom_begins_rel k e = e

not_is_rel : (d : ℕ) (v : List Part) (t : Token) (k : TokenKind) → starts_rel k ≡ true → act (an_not d) v t k ≡ act (a_rel d) v t k
not_is_rel d v t (kind.Sign sign.Minus) e = refl
not_is_rel d v t kind.Ident e = refl
not_is_rel d v t (kind.Whole n) e = refl
not_is_rel d v t (kind.Decimal top bottom) e = refl
not_is_rel d v t (kind.Reserved word.True) e = refl
not_is_rel d v t (kind.Reserved word.False) e = refl
not_is_rel d v t (kind.Reserved word.Void) e = refl
not_is_rel d v t (kind.Reserved word.Distinct) e = refl
not_is_rel d v t (kind.Sign sign.OpenParen) e = refl
not_is_rel d v t (kind.Sign sign.OpenBrace) e = refl
not_is_rel d v t k e = false_true e

unary_is_post : (d : ℕ) (v : List Part) (t : Token) (k : TokenKind) → starts_atom k ≡ true → act (a_unary d) v t k ≡ act (a_post d) v t k
unary_is_post d v t (kind.Sign sign.Minus) e = false_true e
unary_is_post d v t k e = refl

pub as_not : (d : ℕ) (rest : List Token) (ss : List Want) (v : List Part) → BeginsRel rest → run rest (an_not d ∷ ss) v ≡ run rest (a_rel d ∷ ss) v
as_not d [] ss v b = absurd b
as_not d (t ∷ ts) ss v b = run_act t ts (an_not d) ss v t.kind _ refl (not_is_rel d v t t.kind b) ∙ sym (run_is t ts (a_rel d) ss v)

pub as_unary : (d : ℕ) (rest : List Token) (ss : List Want) (v : List Part) → BeginsAtom rest → run rest (a_unary d ∷ ss) v ≡ run rest (a_post d ∷ ss) v
as_unary d [] ss v b = absurd b
as_unary d (t ∷ ts) ss v b = run_act t ts (a_unary d) ss v t.kind _ refl (unary_is_post d v t t.kind b) ∙ sym (run_is t ts (a_post d) ss v)

pub begins_atom_more : (u x : List Token) → BeginsAtom u → BeginsAtom (u ++ x)
begins_atom_more [] x b = absurd b
begins_atom_more (t ∷ u) x b = b

pub begins_rel_more : (u x : List Token) → BeginsRel u → BeginsRel (u ++ x)
begins_rel_more [] x b = absurd b
begins_rel_more (t ∷ u) x b = b

-- ---- chains are passed over where nothing goes on with them
pub past_chains : (rest : List Token) (ss : List Want) (v : List Part) → pull rest < 3 → run rest (unchained ss) v ≡ run rest ss v
past_chains rest [] v l = refl
past_chains rest (more_arrow d ∷ ss) v l = past_chains rest ss v l ∙ sym (no_arrow d rest ss v l)
past_chains rest (more_or d ∷ ss) v l = past_chains rest ss v l ∙ sym (no_or d rest ss v (omega arith))
past_chains rest (more_and d ∷ ss) v l = past_chains rest ss v l ∙ sym (no_and d rest ss v (omega arith))
past_chains rest (make r ∷ ss) v l = makes r rest (unchained ss) v ∙ past_chains rest ss _ l ∙ sym (makes r rest ss v)
past_chains rest (s ∷ ss) v l = refl
