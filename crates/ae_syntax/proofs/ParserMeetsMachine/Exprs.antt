-- What the functions that read expressions answer, put together.
use Rattle.std.proofs.Common.{ℕ, suc, ◌+◌, ◌≤◌, ◌<◌, cond, List, [], ◌∷◌, ◌++◌, ◌≡◌, Option, Some, None, Result, Err, length, drop, refl, sym, ap, ◌∙◌, subst, arith}
use Rattle.ae_lex.specs.declared.kinds.Token.{Token}
use Rattle.ae_lex.specs.declared.kinds.TokenKind.{TokenKind}
use Rattle.ae_lex.specs.declared.kinds.TokenKind.TheVariants as kind
use Rattle.ae_lex.specs.declared.kinds.Reserved.TheVariants as word
use Rattle.ae_syntax.specs.declared.exprs.BinaryOp.{BinaryOp}
use Rattle.ae_syntax.specs.declared.exprs.BinaryOp.TheVariants as op
use Rattle.ae_syntax.specs.declared.exprs.Expr.{Expr}
use Rattle.ae_syntax.specs.declared.faults.Refusal.{Refusal}
use Rattle.ae_syntax.specs.declared.faults.Refusal.TheVariants.{Deep}
use Rattle.ae_syntax.specs.Kinds.{arrow, relation, additive, multiplicative}
use Rattle.ae_syntax.specs.Parts.{Part, tree, binary}
use Rattle.ae_syntax.specs.Inner.Machine.{Want, join, an_expr, an_and, an_not, a_rel, a_sum, a_prod, a_unary, a_post, an_atom, more_arrow, more_or, more_and, more_rel, more_sum, more_prod, more_post, make, skip, take, act, operand, judge}
use Rattle.ae_syntax.specs.Inner.Reading.{Done, Answered, IsAt, Stands, Lacks, grip}
use Rattle.ae_syntax.proofs.ParserMeetsMachine.Steps.{Reaches, Skips, start, then_takes, then_makes, then_skips, then_reads, done, relay, fails_on, sinking}
use Rattle.ae_syntax.proofs.ParserMeetsMachine.Levels.{as_post, as_prod, as_and, expr_levels, sum_levels, rel_levels, past_or, past_and, past_rel, past_arrow, past_sum, past_prod, NoneOf}
use Rattle.ae_syntax.specs.declared.cursor.TheConstants.{DEPTH_LIMIT}

pub level : (T : List Token) (at : ℕ) (s : Want) (W : List Want) → ((rest : List Token) (ss : List Want) (v : List Part) → judge rest (s ∷ ss) v ≡ judge rest (W ++ ss) v) → at ≤ length T → Reaches T (s ∷ []) [] at W [] at
level T at s W e w = record { runs = λ ss v. e (drop at T) ss v; further = omega arith; within = w }

-- ---- the levels, as far as they are read
pub expr_0 : (T : List Token) (at d : ℕ) → at ≤ length T → Reaches T (an_expr d ∷ []) [] at (an_not d ∷ more_and d ∷ more_or d ∷ more_arrow d ∷ []) [] at
expr_0 T at d w = level T at (an_expr d) (an_not d ∷ more_and d ∷ more_or d ∷ more_arrow d ∷ []) (expr_levels d) w

pub and_0 : (T : List Token) (at d : ℕ) → at ≤ length T → Reaches T (an_and d ∷ []) [] at (an_not d ∷ more_and d ∷ []) [] at
and_0 T at d w = level T at (an_and d) (an_not d ∷ more_and d ∷ []) (as_and d) w

pub rel_0 : (T : List Token) (at d : ℕ) → at ≤ length T → Reaches T (a_rel d ∷ []) [] at (a_unary d ∷ more_prod d ∷ more_sum d ∷ more_rel d ∷ []) [] at
rel_0 T at d w = level T at (a_rel d) (a_unary d ∷ more_prod d ∷ more_sum d ∷ more_rel d ∷ []) (rel_levels d) w

pub sum_0 : (T : List Token) (at d : ℕ) → at ≤ length T → Reaches T (a_sum d ∷ []) [] at (a_unary d ∷ more_prod d ∷ more_sum d ∷ []) [] at
sum_0 T at d w = level T at (a_sum d) (a_unary d ∷ more_prod d ∷ more_sum d ∷ []) (sum_levels d) w

pub prod_0 : (T : List Token) (at d : ℕ) → at ≤ length T → Reaches T (a_prod d ∷ []) [] at (a_unary d ∷ more_prod d ∷ []) [] at
prod_0 T at d w = level T at (a_prod d) (a_unary d ∷ more_prod d ∷ []) (as_prod d) w

pub post_0 : (T : List Token) (at d : ℕ) → at ≤ length T → Reaches T (a_post d ∷ []) [] at (an_atom d ∷ more_post d ∷ []) [] at
post_0 T at d w = level T at (a_post d) (an_atom d ∷ more_post d ∷ []) (as_post d) w

-- ---- the operator of a chain at a place: it takes an operand, at a depth
pub record Takes (s : Want) (d : ℕ) (new : List Want) (T : List Token) (at : ℕ) : Type 0 where
  pub t : Token
  pub here : IsAt T at t
  pub acts : (v : List Part) → act s v t t.kind ≡ take d new v

pub takes_or : (T : List Token) (at d n : ℕ) → Stands (kind.Reserved word.Or) T at → n ≡ suc d → Takes (more_or d) n (an_and n ∷ make (join op.Or) ∷ more_or n ∷ []) T at
takes_or T at d n s e = subst (λ n. Takes (more_or d) n (an_and n ∷ make (join op.Or) ∷ more_or n ∷ []) T at) (sym e) (record {
  t = s.token;
  here = record { next = s.next; within = s.within; room = s.room };
  acts = λ v. ap (λ b. cond b (take (suc d) (an_and (suc d) ∷ make (join op.Or) ∷ more_or (suc d) ∷ []) v) (skip v)) s.is;
})

pub takes_and : (T : List Token) (at d n : ℕ) → Stands (kind.Reserved word.And) T at → n ≡ suc d → Takes (more_and d) n (an_not n ∷ make (join op.And) ∷ more_and n ∷ []) T at
takes_and T at d n s e = subst (λ n. Takes (more_and d) n (an_not n ∷ make (join op.And) ∷ more_and n ∷ []) T at) (sym e) (record {
  t = s.token;
  here = record { next = s.next; within = s.within; room = s.room };
  acts = λ v. ap (λ b. cond b (take (suc d) (an_not (suc d) ∷ make (join op.And) ∷ more_and (suc d) ∷ []) v) (skip v)) s.is;
})

pub takes_arrow : (T : List Token) (at d n : ℕ) (t : Token) (o : BinaryOp) → IsAt T at t → arrow t.kind ≡ Some o → n ≡ suc d → Takes (more_arrow d) n (an_expr n ∷ make (join o) ∷ []) T at
takes_arrow T at d n t o i h e = subst (λ n. Takes (more_arrow d) n (an_expr n ∷ make (join o) ∷ []) T at) (sym e) (record { t = t; here = i; acts = λ v. ap (λ r. operand (suc d) v an_expr [] r) h })

pub takes_rel : (T : List Token) (at d : ℕ) (t : Token) (o : BinaryOp) → IsAt T at t → relation t.kind ≡ Some o → Takes (more_rel d) d (a_sum d ∷ make (join o) ∷ []) T at
takes_rel T at d t o i h = record { t = t; here = i; acts = λ v. ap (λ r. operand d v a_sum [] r) h }

pub takes_sum : (T : List Token) (at d n : ℕ) (t : Token) (o : BinaryOp) → IsAt T at t → additive t.kind ≡ Some o → n ≡ suc d → Takes (more_sum d) n (a_prod n ∷ make (join o) ∷ more_sum n ∷ []) T at
takes_sum T at d n t o i h e = subst (λ n. Takes (more_sum d) n (a_prod n ∷ make (join o) ∷ more_sum n ∷ []) T at) (sym e) (record { t = t; here = i; acts = λ v. ap (λ r. operand (suc d) v a_prod (more_sum (suc d) ∷ []) r) h })

pub takes_prod : (T : List Token) (at d n : ℕ) (t : Token) (o : BinaryOp) → IsAt T at t → multiplicative t.kind ≡ Some o → n ≡ suc d → Takes (more_prod d) n (a_unary n ∷ make (join o) ∷ more_prod n ∷ []) T at
takes_prod T at d n t o i h e = subst (λ n. Takes (more_prod d) n (a_unary n ∷ make (join o) ∷ more_prod n ∷ []) T at) (sym e) (record { t = t; here = i; acts = λ v. ap (λ r. operand (suc d) v a_unary (more_prod (suc d) ∷ []) r) h })

-- the operator is too deep
pub chain_deep : (s : Want) (n : ℕ) (new : List Want) (T : List Token) (at bound : ℕ) (left : Expr) (e : Refusal) → Takes s n new T at → DEPTH_LIMIT < n → e ≡ Deep at → Answered (λ p. tree p) (s ∷ []) (tree left ∷ []) T bound at (Err e)
chain_deep s n new T at bound left e t l h = let i = t.here in sinking (λ p. tree p) bound n new (λ v. tree left ∷ v) t.t e (start T (s ∷ []) (tree left ∷ []) at (let w = i.within in omega (arith, w))) i l (λ v. t.acts (tree left ∷ v)) h

pub chain_1 : (s : Want) (n : ℕ) (new : List Want) (T : List Token) (at : ℕ) (left : Expr) → Takes s n new T at → n ≤ DEPTH_LIMIT → Reaches T (s ∷ []) (tree left ∷ []) at (new ++ []) (tree left ∷ []) (at + 1)
chain_1 s n new T at left t l = let i = t.here in then_takes n new (tree left ∷ []) t.t (start T (s ∷ []) (tree left ∷ []) at (let w = i.within in omega (arith, w))) i l (λ v. t.acts (tree left ∷ v))

-- its operand is refused
pub chain_fails : (s inner : Want) (o : BinaryOp) (more : List Want) (n : ℕ) (T : List Token) (at bound bound' : ℕ) (left : Expr) (e : Refusal) → Takes s n (inner ∷ make (join o) ∷ more) T at → n ≤ DEPTH_LIMIT → Answered (λ p. tree p) (inner ∷ []) [] T bound' (at + 1) (Err e) → Answered (λ p. tree p) (s ∷ []) (tree left ∷ []) T bound at (Err e)
chain_fails s inner o more n T at bound bound' left e t l d = fails_on (λ p. tree p) (λ p. tree p) bound bound' (inner ∷ []) (make (join o) ∷ more ++ []) [] (tree left ∷ []) e (chain_1 s n (inner ∷ make (join o) ∷ more) T at left t l) d

chain_2 : (s inner : Want) (o : BinaryOp) (more : List Want) (n : ℕ) (T : List Token) (at to bound : ℕ) (left right whole : Expr) → Takes s n (inner ∷ make (join o) ∷ more) T at → n ≤ DEPTH_LIMIT → Done (inner ∷ []) [] T bound (at + 1) to (tree right) → whole ≡ binary o left right → Reaches T (s ∷ []) (tree left ∷ []) at (more ++ []) (tree whole ∷ []) to
chain_2 s inner o more n T at to bound left right whole t l d e = subst (λ w. Reaches T (s ∷ []) (tree left ∷ []) at (more ++ []) (tree w ∷ []) to) (sym e) (then_makes (tree (binary o left right) ∷ []) (then_reads (inner ∷ []) (make (join o) ∷ more ++ []) [] (tree left ∷ []) (chain_1 s n (inner ∷ make (join o) ∷ more) T at left t l) d) (λ v. refl))

-- the chain goes on after it
pub chain_again : (s inner m : Want) (o : BinaryOp) (n : ℕ) (T : List Token) (at to bound bound' : ℕ) (left right whole : Expr) (r : Result (Expr × ℕ) Refusal) → Takes s n (inner ∷ make (join o) ∷ m ∷ []) T at → n ≤ DEPTH_LIMIT → Done (inner ∷ []) [] T bound' (at + 1) to (tree right) → whole ≡ binary o left right → Answered (λ p. tree p) (m ∷ []) (tree whole ∷ []) T bound to r → Answered (λ p. tree p) (s ∷ []) (tree left ∷ []) T bound at r
chain_again s inner m o n T at to bound bound' left right whole r t l d e a = relay (λ p. tree p) bound r (chain_2 s inner o (m ∷ []) n T at to bound' left right whole t l d e) a

-- or ends there
pub chain_once : (s inner : Want) (o : BinaryOp) (n : ℕ) (T : List Token) (at to bound bound' : ℕ) (left right whole : Expr) → Takes s n (inner ∷ make (join o) ∷ []) T at → n ≤ DEPTH_LIMIT → Done (inner ∷ []) [] T bound' (at + 1) to (tree right) → whole ≡ binary o left right → grip (drop to T) < bound → Done (s ∷ []) (tree left ∷ []) T bound at to (tree whole)
chain_once s inner o n T at to bound bound' left right whole t l d e g = done (chain_2 s inner o [] n T at to bound' left right whole t l d e) g

-- ---- a chain that ends
pub chain_ends : (s : Want) (T : List Token) (at bound : ℕ) (left : Expr) → at ≤ length T → ((v : List Part) → Skips s v v T at) → grip (drop at T) < bound → Done (s ∷ []) (tree left ∷ []) T bound at at (tree left)
chain_ends s T at bound left w k g = done (then_skips (tree left ∷ []) (start T (s ∷ []) (tree left ∷ []) at w) (λ v. k (tree left ∷ v))) g

pub or_ends : (T : List Token) (at d : ℕ) (left : Expr) → at ≤ length T → Lacks (kind.Reserved word.Or) T at → grip (drop at T) < 3 → Done (more_or d ∷ []) (tree left ∷ []) T 2 at at (tree left)
or_ends T at d left w n g = chain_ends (more_or d) T at 2 left w (λ v. record { here = λ t ts q. ap (λ b. cond b (take (suc d) (an_and (suc d) ∷ make (join op.Or) ∷ more_or (suc d) ∷ []) v) (skip v)) (n.none t ts q); end = refl }) (past_or T at n g)

pub and_ends : (T : List Token) (at d : ℕ) (left : Expr) → at ≤ length T → Lacks (kind.Reserved word.And) T at → grip (drop at T) < 4 → Done (more_and d ∷ []) (tree left ∷ []) T 3 at at (tree left)
and_ends T at d left w n g = chain_ends (more_and d) T at 3 left w (λ v. record { here = λ t ts q. ap (λ b. cond b (take (suc d) (an_not (suc d) ∷ make (join op.And) ∷ more_and (suc d) ∷ []) v) (skip v)) (n.none t ts q); end = refl }) (past_and T at n g)

pub arrow_ends : (T : List Token) (at d : ℕ) (left : Expr) → at ≤ length T → NoneOf arrow T at → grip (drop at T) < 2 → Done (more_arrow d ∷ []) (tree left ∷ []) T 1 at at (tree left)
arrow_ends T at d left w n g = chain_ends (more_arrow d) T at 1 left w (λ v. record { here = λ t ts q. ap (λ r. operand (suc d) v an_expr [] r) (n.none t ts q); end = refl }) (past_arrow T at n g)

pub rel_ends : (T : List Token) (at d : ℕ) (left : Expr) → at ≤ length T → NoneOf relation T at → grip (drop at T) < 5 → Done (more_rel d ∷ []) (tree left ∷ []) T 4 at at (tree left)
rel_ends T at d left w n g = chain_ends (more_rel d) T at 4 left w (λ v. record { here = λ t ts q. ap (λ r. operand d v a_sum [] r) (n.none t ts q); end = refl }) (past_rel T at g)

pub sum_ends : (T : List Token) (at d : ℕ) (left : Expr) → at ≤ length T → NoneOf additive T at → grip (drop at T) < 6 → Done (more_sum d ∷ []) (tree left ∷ []) T 5 at at (tree left)
sum_ends T at d left w n g = chain_ends (more_sum d) T at 5 left w (λ v. record { here = λ t ts q. ap (λ r. operand (suc d) v a_prod (more_sum (suc d) ∷ []) r) (n.none t ts q); end = refl }) (past_sum T at n g)

pub prod_ends : (T : List Token) (at d : ℕ) (left : Expr) → at ≤ length T → NoneOf multiplicative T at → grip (drop at T) < 7 → Done (more_prod d ∷ []) (tree left ∷ []) T 6 at at (tree left)
prod_ends T at d left w n g = chain_ends (more_prod d) T at 6 left w (λ v. record { here = λ t ts q. ap (λ r. operand (suc d) v a_unary (more_prod (suc d) ∷ []) r) (n.none t ts q); end = refl }) (past_prod T at n g)

-- no token, or one that is no operator
pub none_at_end : (f : TokenKind → Option BinaryOp) (T : List Token) (at : ℕ) → drop at T ≡ [] → NoneOf f T at
none_at_end f T at e = record { none = λ t ts q. absurd (let l : 0 ≡ suc (length ts) = ap length (sym e ∙ q) in omega arith) }

pub none_here : (f : TokenKind → Option BinaryOp) (T : List Token) (at : ℕ) (t : Token) → IsAt T at t → f t.kind ≡ None → NoneOf f T at
none_here f T at t i h = record { none = λ u ts q. ap (λ w. f (first_of t w).kind) (sym q) ∙ ap (λ w. f (first_of t w).kind) i.next ∙ h }
  where
    first_of : Token → List Token → Token
    first_of t [] = t
    first_of t (u ∷ us) = u
