-- The levels of an expression: a looser level is a tighter one with a chain after it; how strongly the next token goes on.
use Rattle.std.proofs.Common.{ℕ, suc, ◌+◌, ◌≤◌, ◌<◌, false, List, [], ◌∷◌, ◌++◌, ◌≡◌, Option, None, Result, Ok, Err, length, drop, refl, sym, ap, ◌∙◌, subst, arith}
use Rattle.std.proofs.lemmas.Bool.{false≢true}
use Rattle.ae_base.proofs.Options.{never_some}
use Rattle.ae_lex.specs.declared.kinds.Token.{Token}
use Rattle.ae_lex.specs.declared.kinds.TokenKind.{TokenKind}
use Rattle.ae_lex.specs.declared.kinds.TokenKind.TheVariants as kind
use Rattle.ae_lex.specs.declared.kinds.Reserved.TheVariants as word
use Rattle.ae_lex.specs.declared.kinds.Sign.TheVariants as sign
use Rattle.ae_syntax.specs.declared.exprs.BinaryOp.{BinaryOp}
use Rattle.ae_syntax.specs.declared.faults.Refusal.{Refusal}
use Rattle.ae_syntax.specs.declared.faults.Refusal.TheVariants.{Wrong, Deep, Memory}
use Rattle.ae_syntax.specs.Kinds.{arrow, additive, multiplicative}
use Rattle.ae_syntax.specs.Inner.SameKinds.{same}
use Rattle.ae_syntax.specs.Parts.{Part, token}
use Rattle.ae_syntax.specs.Inner.Machine.{Want, an_expr, an_or, an_and, an_not, a_rel, a_sum, a_prod, a_unary, a_post, an_atom, more_arrow, more_or, more_and, more_rel, more_sum, more_prod, more_post, make, Act, skip, opens, then_wants, act, idle, unchained, ended, finish, run, limited, judge, deep}
use Rattle.ae_syntax.specs.Inner.Reading.{Answered, IsAt, Lacks, grip_of, grip}
use Rattle.ae_syntax.proofs.Acts.{Plain}
use Rattle.ae_syntax.proofs.Steps.{went as run_went}
use Rattle.ae_syntax.proofs.Levels.{deeper_plain}
use Rattle.ae_syntax.proofs.Levels as levels
use Rattle.ae_syntax.proofs.ParserMeetsMachine.Steps.{went, judge_act, judge_at, judge_make, went_skip, went_opens, went_opens_deep, left_at}
use Rattle.ae_syntax.specs.declared.cursor.TheConstants.{DEPTH_LIMIT}

-- ---- a level is the tighter level with a chain
pub deeper_plain_list : (a : Act) (ms : List Want) (ss : List Want) (t : Token) (ts : List Token) → Plain a → went (then_wants a ms) ss t ts ≡ went a (ms ++ ss) t ts
unfolding went run_went
deeper_plain_list a ms ss t ts f = ap (limited (suc (length ts))) (deeper_plain a ms ss t ts f)

pub as_post : (d : ℕ) (rest : List Token) (ss : List Want) (v : List Part) → judge rest (a_post d ∷ ss) v ≡ judge rest (an_atom d ∷ more_post d ∷ ss) v
as_post d rest ss v = ap (limited (length rest)) (levels.as_post d rest ss v)

pub as_prod : (d : ℕ) (rest : List Token) (ss : List Want) (v : List Part) → judge rest (a_prod d ∷ ss) v ≡ judge rest (a_unary d ∷ more_prod d ∷ ss) v
as_prod d rest ss v = ap (limited (length rest)) (levels.as_prod d rest ss v)

pub as_sum : (d : ℕ) (rest : List Token) (ss : List Want) (v : List Part) → judge rest (a_sum d ∷ ss) v ≡ judge rest (a_prod d ∷ more_sum d ∷ ss) v
as_sum d rest ss v = ap (limited (length rest)) (levels.as_sum d rest ss v)

pub as_rel : (d : ℕ) (rest : List Token) (ss : List Want) (v : List Part) → judge rest (a_rel d ∷ ss) v ≡ judge rest (a_sum d ∷ more_rel d ∷ ss) v
as_rel d rest ss v = ap (limited (length rest)) (levels.as_rel d rest ss v)

pub as_and : (d : ℕ) (rest : List Token) (ss : List Want) (v : List Part) → judge rest (an_and d ∷ ss) v ≡ judge rest (an_not d ∷ more_and d ∷ ss) v
as_and d rest ss v = ap (limited (length rest)) (levels.as_and d rest ss v)

pub as_or : (d : ℕ) (rest : List Token) (ss : List Want) (v : List Part) → judge rest (an_or d ∷ ss) v ≡ judge rest (an_and d ∷ more_or d ∷ ss) v
as_or d rest ss v = ap (limited (length rest)) (levels.as_or d rest ss v)

pub as_expr : (d : ℕ) (rest : List Token) (ss : List Want) (v : List Part) → judge rest (an_expr d ∷ ss) v ≡ judge rest (an_or d ∷ more_arrow d ∷ ss) v
as_expr d rest ss v = ap (limited (length rest)) (levels.as_expr d rest ss v)

pub expr_levels : (d : ℕ) (rest : List Token) (ss : List Want) (v : List Part) → judge rest (an_expr d ∷ ss) v ≡ judge rest (an_not d ∷ more_and d ∷ more_or d ∷ more_arrow d ∷ ss) v
expr_levels d rest ss v = as_expr d rest ss v ∙ as_or d rest (more_arrow d ∷ ss) v ∙ as_and d rest (more_or d ∷ more_arrow d ∷ ss) v

pub sum_levels : (d : ℕ) (rest : List Token) (ss : List Want) (v : List Part) → judge rest (a_sum d ∷ ss) v ≡ judge rest (a_unary d ∷ more_prod d ∷ more_sum d ∷ ss) v
sum_levels d rest ss v = as_sum d rest ss v ∙ as_prod d rest (more_sum d ∷ ss) v

pub rel_levels : (d : ℕ) (rest : List Token) (ss : List Want) (v : List Part) → judge rest (a_rel d ∷ ss) v ≡ judge rest (a_unary d ∷ more_prod d ∷ more_sum d ∷ more_rel d ∷ ss) v
rel_levels d rest ss v = as_rel d rest ss v ∙ sum_levels d rest (more_rel d ∷ ss) v

-- ---- how strongly the next token goes on
weak_arrow : (k : TokenKind) → arrow k ≡ None → grip_of k < 2 → grip_of k < 1
weak_arrow (kind.Sign sign.Arrow) n l = never_some _ (sym n)
weak_arrow (kind.Sign sign.Iff) n l = never_some _ (sym n)
weak_arrow (kind.Reserved word.Xor) n l = never_some _ (sym n)
weak_arrow k n l = omega arith

weak_or : (k : TokenKind) → same k (kind.Reserved word.Or) ≡ false → grip_of k < 3 → grip_of k < 2
weak_or (kind.Reserved word.Or) n l = absurd (false≢true (sym n))
weak_or (kind.Reserved word.Xor) n l = omega arith
weak_or (kind.Sign sign.Arrow) n l = omega arith
weak_or k n l = omega arith

weak_and : (k : TokenKind) → same k (kind.Reserved word.And) ≡ false → grip_of k < 4 → grip_of k < 3
weak_and (kind.Reserved word.And) n l = absurd (false≢true (sym n))
weak_and (kind.Reserved word.Xor) n l = omega arith
weak_and (kind.Sign sign.Arrow) n l = omega arith
weak_and k n l = omega arith

weak_rel : (k : TokenKind) → grip_of k < 5 → grip_of k < 4
weak_rel (kind.Sign sign.Plus) l = absurd (omega arith)
weak_rel (kind.Sign sign.Minus) l = absurd (omega arith)
weak_rel (kind.Sign sign.Star) l = absurd (omega arith)
weak_rel (kind.Sign sign.Slash) l = absurd (omega arith)
weak_rel (kind.Sign sign.Percent) l = absurd (omega arith)
weak_rel (kind.Sign sign.Dot) l = absurd (omega arith)
weak_rel (kind.Reserved word.Xor) l = omega arith
weak_rel k l = omega arith

weak_sum : (k : TokenKind) → additive k ≡ None → grip_of k < 6 → grip_of k < 5
weak_sum (kind.Sign sign.Plus) n l = never_some _ (sym n)
weak_sum (kind.Sign sign.Minus) n l = never_some _ (sym n)
weak_sum (kind.Sign sign.Star) n l = absurd (omega arith)
weak_sum (kind.Sign sign.Slash) n l = absurd (omega arith)
weak_sum (kind.Sign sign.Percent) n l = absurd (omega arith)
weak_sum (kind.Sign sign.Dot) n l = absurd (omega arith)
weak_sum (kind.Reserved word.Xor) n l = omega arith
weak_sum k n l = omega arith

weak_prod : (k : TokenKind) → multiplicative k ≡ None → grip_of k < 7 → grip_of k < 6
weak_prod (kind.Sign sign.Star) n l = never_some _ (sym n)
weak_prod (kind.Sign sign.Slash) n l = never_some _ (sym n)
weak_prod (kind.Sign sign.Percent) n l = never_some _ (sym n)
weak_prod (kind.Sign sign.Dot) n l = absurd (omega arith)
weak_prod (kind.Reserved word.Xor) n l = omega arith
weak_prod k n l = omega arith

weak_post : (k : TokenKind) → same k (kind.Sign sign.Dot) ≡ false → grip_of k < 7
weak_post (kind.Sign sign.Dot) n = absurd (false≢true (sym n))
weak_post (kind.Reserved word.Xor) n = omega arith
weak_post k n = omega arith

pub small_grip : (ts : List Token) → grip ts < 8
unfolding grip
small_grip [] = omega arith
small_grip (t ∷ ts) = small_kind t.kind
  where
    small_kind : (k : TokenKind) → grip_of k < 8
    small_kind (kind.Sign sign.Dot) = omega arith
    small_kind (kind.Reserved word.Xor) = omega arith
    small_kind k = omega arith

-- what holds of each kind that stands at a place holds of the grip there
pub weak_at : (T : List Token) (at m n : ℕ) → ((t : Token) (ts : List Token) → drop at T ≡ t ∷ ts → grip_of t.kind < m → grip_of t.kind < n) → 0 < n → grip (drop at T) < m → grip (drop at T) < n
unfolding grip
weak_at T at m n h z l = go (drop at T) h l
  where
    go : (rest : List Token) → ((t : Token) (ts : List Token) → rest ≡ t ∷ ts → grip_of t.kind < m → grip_of t.kind < n) → grip rest < m → grip rest < n
    go [] h l = z
    go (t ∷ ts) h l = h t ts refl l

pub past_or : (T : List Token) (at : ℕ) → Lacks (kind.Reserved word.Or) T at → grip (drop at T) < 3 → grip (drop at T) < 2
past_or T at n l = weak_at T at 3 2 (λ t ts q. weak_or t.kind (n.none t ts q)) (omega arith) l

pub past_and : (T : List Token) (at : ℕ) → Lacks (kind.Reserved word.And) T at → grip (drop at T) < 4 → grip (drop at T) < 3
past_and T at n l = weak_at T at 4 3 (λ t ts q. weak_and t.kind (n.none t ts q)) (omega arith) l

pub past_post : (T : List Token) (at : ℕ) → Lacks (kind.Sign sign.Dot) T at → grip (drop at T) < 7
past_post T at n = weak_at T at 8 7 (λ t ts q w. weak_post t.kind (n.none t ts q)) (omega arith) (small_grip (drop at T))

pub past_rel : (T : List Token) (at : ℕ) → grip (drop at T) < 5 → grip (drop at T) < 4
past_rel T at l = weak_at T at 5 4 (λ t ts q. weak_rel t.kind) (omega arith) l

-- no operator of a chain stands there
pub record NoneOf (f : TokenKind → Option BinaryOp) (T : List Token) (at : ℕ) : Type 0 where
  pub none : (t : Token) (ts : List Token) → drop at T ≡ t ∷ ts → f t.kind ≡ None

pub past_arrow : (T : List Token) (at : ℕ) → NoneOf arrow T at → grip (drop at T) < 2 → grip (drop at T) < 1
past_arrow T at n l = weak_at T at 2 1 (λ t ts q. weak_arrow t.kind (n.none t ts q)) (omega arith) l

pub past_sum : (T : List Token) (at : ℕ) → NoneOf additive T at → grip (drop at T) < 6 → grip (drop at T) < 5
past_sum T at n l = weak_at T at 6 5 (λ t ts q. weak_sum t.kind (n.none t ts q)) (omega arith) l

pub past_prod : (T : List Token) (at : ℕ) → NoneOf multiplicative T at → grip (drop at T) < 7 → grip (drop at T) < 6
past_prod T at n l = weak_at T at 7 6 (λ t ts q. weak_prod t.kind (n.none t ts q)) (omega arith) l

-- ---- chains are passed over where nothing goes on with them
lets_arrow : (d : ℕ) (v : List Part) (t : Token) (k : TokenKind) → grip_of k < 1 → act (more_arrow d) v t k ≡ skip v
lets_arrow d v t (kind.Sign sign.Arrow) l = absurd (omega arith)
lets_arrow d v t (kind.Sign sign.Iff) l = absurd (omega arith)
lets_arrow d v t (kind.Reserved word.Xor) l = absurd (omega arith)
lets_arrow d v t k l = refl

lets_or : (d : ℕ) (v : List Part) (t : Token) (k : TokenKind) → grip_of k < 1 → act (more_or d) v t k ≡ skip v
lets_or d v t (kind.Reserved word.Or) l = absurd (omega arith)
lets_or d v t k l = refl

lets_and : (d : ℕ) (v : List Part) (t : Token) (k : TokenKind) → grip_of k < 1 → act (more_and d) v t k ≡ skip v
lets_and d v t (kind.Reserved word.And) l = absurd (omega arith)
lets_and d v t k l = refl

lets : (s : Want) → ((v : List Part) → idle s v ≡ skip v) → ((v : List Part) (t : Token) (k : TokenKind) → grip_of k < 1 → act s v t k ≡ skip v) → (rest : List Token) (ss : List Want) (v : List Part) → grip rest < 1 → judge rest (s ∷ ss) v ≡ judge rest ss v
unfolding run finish grip
lets s e a [] ss v l = ap (λ z. limited 0 (ended z (λ u. finish ss u))) (e v)
lets s e a (t ∷ ts) ss v l = judge_act t ts s ss v (skip v) (a v t t.kind l) ∙ went_skip v ss t ts

pub past_chains : (rest : List Token) (ss : List Want) (v : List Part) → grip rest < 1 → judge rest (unchained ss) v ≡ judge rest ss v
past_chains rest [] v l = refl
past_chains rest (more_arrow d ∷ ss) v l = past_chains rest ss v l ∙ sym (lets (more_arrow d) (λ v. refl) (lets_arrow d) rest ss v l)
past_chains rest (more_or d ∷ ss) v l = past_chains rest ss v l ∙ sym (lets (more_or d) (λ v. refl) (lets_or d) rest ss v l)
past_chains rest (more_and d ∷ ss) v l = past_chains rest ss v l ∙ sym (lets (more_and d) (λ v. refl) (lets_and d) rest ss v l)
past_chains rest (make r ∷ ss) v l = judge_make r rest (unchained ss) v ∙ past_chains rest ss _ l ∙ sym (judge_make r rest ss v)
past_chains rest (s ∷ ss) v l = refl

-- ---- an open form
pub opened : {A : Type 0} (part : A → Part) (T : List Token) (s : Want) (at n : ℕ) (t : Token) (new : List Want) (r : Result (A × ℕ) Refusal) → IsAt T at t → n ≤ DEPTH_LIMIT → ((v : List Part) → act s v t t.kind ≡ opens n new (token t ∷ v)) → Answered part new (token t ∷ []) T 1 (at + 1) r → Answered part (s ∷ []) [] T 1 at r
opened part T s at n t new (Ok p) i l a d = record {
  runs = λ ss v. judge_at T at t s ss v _ i (a v) ∙ went_opens n new (token t ∷ v) ss t (drop (at + 1) T) l ∙ d.runs (unchained ss) v ∙ past_chains (drop p.1 T) ss (part p.0 ∷ v) d.weak;
  further = let f = d.further in omega (arith, f);
  within = d.within;
  weak = d.weak;
}
opened part T s at n t new (Err (Wrong k)) i l a d = record { runs = λ ss v. judge_at T at t s ss v _ i (a v) ∙ went_opens n new (token t ∷ v) ss t (drop (at + 1) T) l ∙ d.runs (unchained ss) v; within = d.within }
opened part T s at n t new (Err (Deep k)) i l a d = record { runs = λ ss v. judge_at T at t s ss v _ i (a v) ∙ went_opens n new (token t ∷ v) ss t (drop (at + 1) T) l ∙ d.runs (unchained ss) v; within = d.within }
opened part T s at n t new (Err Memory) i l a d = tt

pub opened_deep : {A : Type 0} (part : A → Part) (T : List Token) (s : Want) (at n : ℕ) (t : Token) (new : List Want) (e : Refusal) → IsAt T at t → DEPTH_LIMIT < n → ((v : List Part) → act s v t t.kind ≡ opens n new (token t ∷ v)) → e ≡ Deep at → Answered part (s ∷ []) [] T 1 at (Err e)
opened_deep part T s at n t new e i l a h = subst (λ e. Answered part (s ∷ []) [] T 1 at (Err e)) (sym h) (record { runs = λ ss v. judge_at T at t s ss v _ i (a v) ∙ went_opens_deep n new (token t ∷ v) ss t (drop (at + 1) T) l ∙ ap deep (left_at T at t i); within = i.within })
