-- The tokens of phrases are terms, equations and chains by the grammar, none of them is deep, and they are typed.
use Rattle.std.proofs.Common.{ℕ, suc, ◌+◌, ◌≤◌, true, List, [], ◌∷◌, ◌++◌, ◌≡◌, length, refl, sym, ap, ◌∙◌, subst, arith, append_assoc}
use Rattle.std.specs.Prelude.{pos}
use Rattle.std.specs.List.{AllByRecursion}
use Rattle.ae_base.proofs.AllOf.{all_append, all_weaker}
use Rattle.ae_core.specs.declared.terms.Head.TheVariants as head
use Rattle.ae_core.specs.declared.terms.Op.TheVariants as op
use Rattle.ae_core.specs.declared.terms.Sort.{Sort, Real}
use Rattle.ae_core.specs.declared.problems.Signature.{Signature}
use Rattle.ae_lex.specs.declared.kinds.Token.{Token}
use Rattle.ae_lex.specs.declared.kinds.Sign.TheVariants as sign
use Rattle.ae_syntax.specs.declared.decls.Decl.{Decl}
use Rattle.ae_syntax.specs.declared.exprs.BinaryOp.TheVariants as binary_op
use Rattle.ae_syntax.specs.declared.exprs.Expr.{Expr}
use Rattle.ae_syntax.specs.declared.exprs.Number.TheVariants as number
use Rattle.ae_syntax.specs.Depth.{depths}
use Rattle.ae_syntax.specs.Grammar.{Level, Is, IsIdent, IsSign, a_decl, expr, rel, sum, of_exprs, some_one, some_more, decl_goal, expr_arrow, expr_orE, orE_andE, andE_notE, notE_rel, orC_andC, andC_notC, notC_rel, rel_two, rel_sum, sum_two, sum_prod, prod_unary, unary_post, post_atom, atom_name, atom_call, atom_numeral}
use Rattle.ae_syntax.specs.Kinds.{additive, arrow, numeral as numeral_of, relation as relation_of}
use Rattle.ae_syntax.specs.Parts.{tree, decl, span, span_of, cover, bare, applied, number_at, binary, goal_of}
use Rattle.ae_syntax.specs.declared.spans.Span.{Span}
use Rattle.ae_elab.specs.Declarations.{Declared, Draft, decl_rule, drafted, kind_rule, scope_of}
use Rattle.ae_elab.specs.Expressions.{part_of}
use Rattle.ae_elab.specs.Rules.{Passed, as_formula}
use Rattle.ae_elab.specs.Scope.{name_in}
use Rattle.ae_elab.specs.Steps.{IsTaken}
use Rattle.ae_elab.specs.Trees.{Tree, Claim, none, more, apply, operation, numeral as numeral_tree, relation, equal, implication}
use Rattle.ae_demo_texts.proofs.Pieces.{Gap, nothing, a_blank, a_break, Piece, AreSpelt, IsSpelt, parted}
use Rattle.ae_demo_texts.proofs.Phrases.{Argument, named, plus, argument_pieces, Side, alone, one, two, side_pieces, Equation, equation_pieces, chain_pieces, Goal, goal_pieces, mark}
use Rattle.ae_demo_texts.proofs.Taken.{IsTerm, IsFormula, IsSymbol, apply_term, numeral_term, sum_term, equation_formula, implication_formula, then_taken, give_taken}

-- ---- what phrases are
abbrev pub argument_tree : Argument → Tree
argument_tree (named w k) = apply (head.Symbol k) [] none
argument_tree (plus w k m) = operation op.Add Real (more (apply (head.Symbol k) [] none) (more (numeral_tree (pos m) (pos 1) true) none))

abbrev pub side_tree : Side → Tree
side_tree (alone u) = argument_tree u
side_tree (one f k u) = apply (head.Symbol k) [] (more (argument_tree u) none)
side_tree (two f k u v) = apply (head.Symbol k) [] (more (argument_tree u) (more (argument_tree v) none))

abbrev pub equation_claim : Equation → Claim
equation_claim e = relation equal (side_tree e.left) (side_tree e.right)

abbrev pub chain_claim : List Equation → Equation → Claim
chain_claim [] c = equation_claim c
chain_claim (h ∷ hs) c = implication (equation_claim h) (chain_claim hs c)

-- ---- which sorts they have
abbrev pub ArgumentFits : Signature → Argument → Sort → Type 0
ArgumentFits sig (named w k) s = IsSymbol sig w k [] s
ArgumentFits sig (plus w k m) s = IsSymbol sig w k [] Real × (Real ≡ s)

abbrev pub SideFits : Signature → Side → Sort → Type 0
SideFits sig (alone u) s = ArgumentFits sig u s
SideFits sig (one f k u) s = (a : Sort) × IsSymbol sig f k (a ∷ []) s × ArgumentFits sig u a
SideFits sig (two f k u v) s = (a : Sort) × (b : Sort) × IsSymbol sig f k (a ∷ b ∷ []) s × ArgumentFits sig u a × ArgumentFits sig v b

abbrev pub EquationFits : Signature → Equation → Type 0
EquationFits sig e = (s : Sort) × SideFits sig e.left s × SideFits sig e.right s

abbrev pub AreFitting : Signature → List Equation → Type 0
AreFitting sig hs = AllByRecursion (EquationFits sig) hs

-- ---- what tokens are, of which none is deeper than so much below what is open before them
pub record Reads (l : Level) (ts : List Token) (h : ℕ) (P : Expr → Type 0) : Type 0 where
  pub expr : Expr
  pub is : Is l ts (tree expr)
  pub shallow : (d : ℕ) → AllByRecursion (λ n. n ≤ d + h) (depths is d)
  pub has : P expr

pub record ReadsDecl (ts : List Token) (h : ℕ) (P : Decl → Type 0) : Type 0 where
  pub declaration : Decl
  pub is : Is a_decl ts (decl declaration)
  pub shallow : (d : ℕ) → AllByRecursion (λ n. n ≤ d + h) (depths is d)
  pub has : P declaration

-- depths below more are below it where more is open
pub deeper : (d c e h : ℕ) (ns : List ℕ) → d + c ≤ e + h → AllByRecursion (λ n. n ≤ d + c) ns → AllByRecursion (λ n. n ≤ e + h) ns
deeper d c e h ns le a = all_weaker (λ n. n ≤ d + c) (λ n. n ≤ e + h) (λ n b. omega (arith, le, b)) ns a

pub one_token : (text : List ℕ) (ts : List Token) (p : Piece) → AreSpelt text ts (p ∷ []) → (t : Token) × (ts ≡ t ∷ []) × IsSpelt text t p
one_token text [] p h = absurd h
one_token text (t ∷ []) p h = (t, refl, h.0)
one_token text (t ∷ u ∷ ts) p h = absurd h.1

module _ (text : List ℕ) (sig : Signature) where
  -- ---- arguments
  abbrev Argues : Argument → Sort → Expr → Type 0
  Argues u s e = IsTerm (scope_of text sig) (part_of e) (argument_tree u) s

  abbrev sum_of : Token → Token → ℕ → Expr
  sum_of t n m = binary binary_op.Add (bare t) (number_at n (number.Decimal (pos m) (pos 1)))

  sum_argues : (w : List ℕ) (k m : ℕ) (s : Sort) (t n : Token) → name_in text (span t) ≡ w → ArgumentFits sig (plus w k m) s → Argues (plus w k m) s (sum_of t n m)
  sum_argues w k m s t n e f =
      subst (λ r. Argues (plus w k m) r (sum_of t n m)) f.1
      (sum_term (scope_of text sig) (cover (span_of (bare t)) (span_of (number_at n (number.Decimal (pos m) (pos 1))))) (bare t) (number_at n (number.Decimal (pos m) (pos 1)))
      (apply (head.Symbol k) [] none) (numeral_tree (pos m) (pos 1) true)
      (apply_term text sig (span t) (span t) w k [] Real [] none e f.0 tt) (numeral_term (scope_of text sig) (span n) (pos m) (pos 1)))

  pub argument_read : (u : Argument) (s : Sort) (g : Gap) (ts : List Token) → ArgumentFits sig u s → AreSpelt text ts (argument_pieces u g) → Reads sum ts 1 (Argues u s)
  argument_read (named w k) s g [] f h = absurd h
  argument_read (named w k) s g (t ∷ []) f h = record {
    expr = _;
    is = sum_prod (prod_unary (unary_post (post_atom (atom_name t h.0.0))));
    shallow = λ d. (omega arith, tt);
    has = apply_term text sig (span t) (span t) w k [] s [] none h.0.1 f tt;
  }
  argument_read (named w k) s g (t ∷ u ∷ ts) f h = absurd h.1
  argument_read (plus w k m) s g [] f h = absurd h
  argument_read (plus w k m) s g (t ∷ []) f h = absurd h.1
  argument_read (plus w k m) s g (t ∷ o ∷ []) f h = absurd h.1.1
  argument_read (plus w k m) s g (t ∷ o ∷ n ∷ []) f h = record {
    expr = sum_of t n m;
    is = sum_two (t ∷ []) (n ∷ []) o binary_op.Add (sum_prod (prod_unary (unary_post (post_atom (atom_name t h.0.0))))) (ap additive h.1.0.0)
        (prod_unary (unary_post (post_atom (atom_numeral n (number.Decimal (pos m) (pos 1)) (ap numeral_of h.1.1.0.0)))));
    shallow = λ d. (omega arith, (omega arith, (omega arith, tt)));
    has = sum_argues w k m s t n h.0.1 f;
  }
  argument_read (plus w k m) s g (t ∷ o ∷ n ∷ u ∷ ts) f h = absurd h.1.1.1

  -- ---- sides
  abbrev Sides : Side → Sort → Expr → Type 0
  Sides x s e = IsTerm (scope_of text sig) (part_of e) (side_tree x) s

  abbrev as_expr : {e : Expr} {w : List Token} → Is sum w (tree e) → Is expr w (tree e)
  as_expr h = expr_orE (orE_andE (andE_notE (notE_rel (rel_sum h))))

  one_read : (f : List ℕ) (k : ℕ) (u : Argument) (a s : Sort) (n o c : Token) (us : List Token) → name_in text (span n) ≡ f → IsIdent n → IsSign sign.OpenParen o → IsSign sign.CloseParen c → IsSymbol sig f k (a ∷ []) s
      → Reads sum us 1 (Argues u a) → Reads sum (n ∷ o ∷ (us ++ (c ∷ []))) 2 (Sides (one f k u) s)
  one_read f k u a s n o c us e hn ho hc y r = record {
    expr = applied n (r.expr ∷ []) c;
    is = sum_prod (prod_unary (unary_post (post_atom (atom_call us n o c hn ho (some_one of_exprs (as_expr r.is)) hc))));
    shallow = λ d. (omega arith, (omega arith, all_append (λ i. i ≤ d + 2) (depths r.is (suc d)) (d ∷ []) (deeper (suc d) 1 d 2 (depths r.is (suc d)) (omega arith) (r.shallow (suc d))) (omega arith, tt)));
    has = apply_term text sig (cover (span n) (span c)) (span n) f k (a ∷ []) s (r.expr ∷ []) (more (argument_tree u) none) e y (r.has, tt);
  }

  two_read : (f : List ℕ) (k : ℕ) (u v : Argument) (a b s : Sort) (n o m c : Token) (us vs : List Token) → name_in text (span n) ≡ f → IsIdent n → IsSign sign.OpenParen o → IsSign sign.Comma m → IsSign sign.CloseParen c
      → IsSymbol sig f k (a ∷ b ∷ []) s → Reads sum us 1 (Argues u a) → Reads sum vs 1 (Argues v b) → Reads sum (n ∷ o ∷ ((us ++ (m ∷ vs)) ++ (c ∷ []))) 2 (Sides (two f k u v) s)
  two_read f k u v a b s n o m c us vs e hn ho hm hc y r q = record {
    expr = applied n (r.expr ∷ q.expr ∷ []) c;
    is = sum_prod (prod_unary (unary_post (post_atom (atom_call (us ++ (m ∷ vs)) n o c hn ho (some_more of_exprs us vs m (some_one of_exprs (as_expr r.is)) hm (as_expr q.is)) hc))));
    shallow = λ d. (
      omega arith,
      (
        omega arith,
        all_append (λ i. i ≤ d + 2) (depths r.is (suc d) ++ (suc d ∷ depths q.is (suc d))) (d ∷ [])
            (all_append (λ i. i ≤ d + 2) (depths r.is (suc d)) (suc d ∷ depths q.is (suc d)) (deeper (suc d) 1 d 2 (depths r.is (suc d)) (omega arith) (r.shallow (suc d)))
            (omega arith, deeper (suc d) 1 d 2 (depths q.is (suc d)) (omega arith) (q.shallow (suc d)))) (omega arith, tt),
      ),
    );
    has = apply_term text sig (cover (span n) (span c)) (span n) f k (a ∷ b ∷ []) s (r.expr ∷ q.expr ∷ []) (more (argument_tree u) (more (argument_tree v) none)) e y (r.has, (q.has, tt));
  }

  pub side_read : (x : Side) (s : Sort) (g : Gap) (ts : List Token) → SideFits sig x s → AreSpelt text ts (side_pieces x g) → Reads sum ts 2 (Sides x s)
  side_read (alone u) s g ts f h =
      let r = argument_read u s g ts f h in
      record { expr = r.expr; is = r.is; shallow = λ d. deeper d 1 d 2 (depths r.is d) (omega arith) (r.shallow d); has = r.has }
  side_read (one f k u) s g [] fits h = absurd h
  side_read (one f k u) s g (n ∷ []) fits h = absurd h.1
  side_read (one f k u) s g (n ∷ o ∷ ts) fits h =
      let parts = parted text ts (argument_pieces u nothing) (mark sign.CloseParen g ∷ []) h.1.1 in
      let last = one_token text parts.second (mark sign.CloseParen g) parts.back in
      subst (λ z. Reads sum (n ∷ o ∷ z) 2 (Sides (one f k u) s)) (sym (parts.cut ∙ ap (λ z. parts.first ++ z) last.1))
      (one_read f k u fits.0 s n o last.0 parts.first h.0.1 h.0.0 h.1.0.0 last.2.0 fits.1 (argument_read u fits.0 nothing parts.first fits.2 parts.front))
  side_read (two f k u v) s g [] fits h = absurd h
  side_read (two f k u v) s g (n ∷ []) fits h = absurd h.1
  side_read (two f k u v) s g (n ∷ o ∷ ts) fits h =
      let parts = parted text ts (argument_pieces u nothing) (mark sign.Comma a_blank ∷ (argument_pieces v nothing ++ (mark sign.CloseParen g ∷ []))) h.1.1 in
      subst (λ z. Reads sum (n ∷ o ∷ z) 2 (Sides (two f k u v) s)) (sym parts.cut) (rest parts.first parts.second (argument_read u fits.0 nothing parts.first fits.3 parts.front) parts.back)
    where
      rest : (us vs : List Token) → Reads sum us 1 (Argues u fits.0) → AreSpelt text vs (mark sign.Comma a_blank ∷ (argument_pieces v nothing ++ (mark sign.CloseParen g ∷ []))) → Reads sum (n ∷ o ∷ (us ++ vs)) 2 (Sides (two f k u v) s)
      rest us [] r b = absurd b
      rest us (m ∷ vs) r b =
          let parts = parted text vs (argument_pieces v nothing) (mark sign.CloseParen g ∷ []) b.1 in
          let last = one_token text parts.second (mark sign.CloseParen g) parts.back in
          let whole : (us ++ (m ∷ parts.first)) ++ (last.0 ∷ []) ≡ us ++ (m ∷ vs) =
          append_assoc us (m ∷ parts.first) (last.0 ∷ []) ∙ ap (λ z. us ++ (m ∷ z)) (sym (parts.cut ∙ ap (λ z. parts.first ++ z) last.1)) in
          subst (λ z. Reads sum (n ∷ o ∷ z) 2 (Sides (two f k u v) s)) whole
          (two_read f k u v fits.0 fits.1 s n o m last.0 us parts.first h.0.1 h.0.0 h.1.0.0 b.0.0 last.2.0 fits.2 r (argument_read v fits.1 nothing parts.first fits.4 parts.front))

  -- ---- equations
  abbrev Equates : Equation → Expr → Type 0
  Equates e x = IsFormula (scope_of text sig) (part_of x) (equation_claim e)

  both_sides : (e : Equation) (g : Gap) (s : Sort) (us vs : List Token) → SideFits sig e.right s → Reads sum us 2 (Sides e.left s) → AreSpelt text vs (mark sign.Equal a_blank ∷ side_pieces e.right g) → Reads rel (us ++ vs) 2 (Equates e)
  both_sides e g s us [] f l b = absurd b
  both_sides e g s us (q ∷ vs) f l b =
      let r = side_read e.right s g vs f b.1 in
      record {
        expr = binary binary_op.Equal l.expr r.expr;
        is = rel_two us vs q binary_op.Equal l.is (ap relation_of b.0.0) r.is;
        shallow = λ d. all_append (λ i. i ≤ d + 2) (depths l.is d) (d ∷ depths r.is d) (l.shallow d) (omega arith, r.shallow d);
        has = equation_formula (scope_of text sig) (cover (span_of l.expr) (span_of r.expr)) l.expr r.expr (side_tree e.left) (side_tree e.right) s l.has r.has;
      }

  pub equation_read : (e : Equation) (g : Gap) (ts : List Token) → EquationFits sig e → AreSpelt text ts (equation_pieces e g) → Reads rel ts 2 (Equates e)
  equation_read e g ts f h =
      let parts = parted text ts (side_pieces e.left a_blank) (mark sign.Equal a_blank ∷ side_pieces e.right g) h in
      subst (λ z. Reads rel z 2 (Equates e)) (sym parts.cut) (both_sides e g f.0 parts.first parts.second f.2 (side_read e.left f.0 a_blank parts.first f.1 parts.front) parts.back)

  -- ---- chains
  abbrev Chains : List Equation → Equation → Expr → Type 0
  Chains hs c x = IsFormula (scope_of text sig) (part_of x) (chain_claim hs c)

  -- an equation, an arrow and what reads on
  arrowed : (e : Equation) (hs : List Equation) (c : Equation) (us vs : List Token) → ((ws : List Token) → AreSpelt text ws (chain_pieces hs c) → Reads expr ws (length hs + 2) (Chains hs c)) → Reads rel us 2 (Equates e)
      → AreSpelt text vs (mark sign.Arrow a_blank ∷ chain_pieces hs c) → Reads expr (us ++ vs) (length (e ∷ hs) + 2) (Chains (e ∷ hs) c)
  arrowed e hs c us [] on l b = absurd b
  arrowed e hs c us (q ∷ vs) on l b =
      let r = on vs b.1 in
      record {
        expr = binary binary_op.Implies l.expr r.expr;
        is = expr_arrow us vs q binary_op.Implies (orC_andC (andC_notC (notC_rel l.is))) (ap arrow b.0.0) r.is;
        shallow = λ d. all_append (λ i. i ≤ d + (length (e ∷ hs) + 2)) (depths l.is d) (suc d ∷ depths r.is (suc d)) (deeper d 2 d (length (e ∷ hs) + 2) (depths l.is d) (omega arith) (l.shallow d))
            (omega arith, deeper (suc d) (length hs + 2) d (length (e ∷ hs) + 2) (depths r.is (suc d)) (omega arith) (r.shallow (suc d)));
        has = implication_formula (scope_of text sig) (cover (span_of l.expr) (span_of r.expr)) l.expr r.expr (equation_claim e) (chain_claim hs c) l.has r.has;
      }

  pub chain_read : (hs : List Equation) (c : Equation) (ts : List Token) → AreFitting sig hs → EquationFits sig c → AreSpelt text ts (chain_pieces hs c) → Reads expr ts (length hs + 2) (Chains hs c)
  chain_read [] c ts a f h =
      let r = equation_read c a_break ts f h in
      record { expr = r.expr; is = expr_orE (orE_andE (andE_notE (notE_rel r.is))); shallow = λ d. deeper d 2 d (length {A = Equation} [] + 2) (depths r.is d) (omega arith) (r.shallow d); has = r.has }
  chain_read (e ∷ hs) c ts a f h =
      let parts = parted text ts (equation_pieces e a_blank) (mark sign.Arrow a_blank ∷ chain_pieces hs c) h in
      subst (λ z. Reads expr z (length (e ∷ hs) + 2) (Chains (e ∷ hs) c)) (sym parts.cut)
      (arrowed e hs c parts.first parts.second (λ ws b. chain_read hs c ws a.1 f b) (equation_read e a_blank parts.first a.0 parts.front) parts.back)

  -- ---- goals
  abbrev pub afresh : Passed → Passed
  afresh p = record { next = p.next; written = [] }

  -- a declaration gives this
  abbrev pub Gives : Declared → Decl → Type 0
  Gives v d = (p : Passed) → IsTaken (decl_rule text sig d) p (afresh p) v

  pub alone_taken : (d : Decl) (v : Declared) (p : Passed) → IsTaken (kind_rule text sig d.span d.kind) (afresh p) (afresh p) v → IsTaken (decl_rule text sig d) p (afresh p) v
  alone_taken d v p a m = record { met = (a m).met; value = (a m).value; passed = (a m).passed }

  abbrev pub draft_of : Span → Goal → Draft
  draft_of place g = record { place = place; is_goal = true; name = g.name; claim = chain_claim g.given g.then }

  -- a declaration of a goal
  abbrev pub States : Goal → Decl → Type 0
  States g d = Gives (record { signature = sig; drafts = draft_of d.span g ∷ [] }) d

  pub goal_read : (g : Goal) (ts : List Token) → AreFitting sig g.given → EquationFits sig g.then → AreSpelt text ts (goal_pieces g) → ReadsDecl ts (length g.given + 2) (States g)
  goal_read g [] a f h = absurd h
  goal_read g (t ∷ []) a f h = absurd h.1
  goal_read g (t ∷ n ∷ []) a f h = absurd h.1.1
  goal_read g (t ∷ n ∷ c ∷ ts) a f h =
      let r = chain_read g.given g.then ts a f h.1.1.1 in
      let d = goal_of t n r.expr in
      record {
        declaration = d;
        is = decl_goal ts t n c h.0.0 h.1.0.0 h.1.1.0.0 r.is;
        shallow = λ e. (omega arith, (omega arith, (omega arith, r.shallow e)));
        has = λ p.
            alone_taken d (record { signature = sig; drafts = draft_of d.span g ∷ [] }) p
            (then_taken (as_formula (scope_of text sig) (part_of r.expr)) (λ k. drafted sig d.span true (name_in text (span n)) k) (afresh p) (afresh p) (afresh p) (chain_claim g.given g.then)
            (record { signature = sig; drafts = draft_of d.span g ∷ [] }) (r.has (afresh p))
            (subst (λ w. IsTaken (drafted sig d.span true w (chain_claim g.given g.then)) (afresh p) (afresh p) (record { signature = sig; drafts = draft_of d.span g ∷ [] })) (sym h.1.0.1)
            (give_taken (record { signature = sig; drafts = draft_of d.span g ∷ [] }) (afresh p))));
      }
