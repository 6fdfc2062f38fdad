-- The expressions of a parsed text have numerals in lowest terms: one case for each production that has an expression.
use Rattle.std.specs.Prelude.{ℕ, List, [], ◌∷◌, ◌++◌, map}
use Rattle.std.specs.List.{AllByRecursion}
use Rattle.std.proofs.Common.{subst, sym}
use Rattle.ae_base.proofs.AllOf.{all_front, all_back, all_push, all_of_map}
use Rattle.ae_lex.specs.declared.kinds.Token.{Token}
use Rattle.ae_lex.specs.Lexis.{IsTokenized}
use Rattle.ae_syntax.specs.declared.exprs.BinaryOp.{BinaryOp}
use Rattle.ae_syntax.specs.declared.exprs.BinaryOp.TheVariants as op
use Rattle.ae_syntax.specs.declared.exprs.Expr.{Expr}
use Rattle.ae_syntax.specs.declared.exprs.Setting.{Setting}
use Rattle.ae_syntax.specs.declared.exprs.Trigger.{Trigger}
use Rattle.ae_syntax.specs.declared.decls.File.{File}
use Rattle.ae_syntax.specs.Parts.{Part, token, tree, sort, setting, trigger, group, typed, decl, names, trees, sorts, settings, triggers, groups}
use Rattle.ae_syntax.specs.Parts.{typeds, decls, alone, and_then, span, span_of, cover, terms_span, binary}
use Rattle.ae_syntax.specs.Grammar.{Level, Is, file_decl, some_one, some_more, decl_function, decl_predicate, decl_axiom, decl_goal, expr_arrow}
use Rattle.ae_syntax.specs.Grammar.{expr_orE, orE_or, orE_andE, orC_or, orC_andC, andE_and, andE_notE, andC_and, andC_notC, notE_not, notE_open}
use Rattle.ae_syntax.specs.Grammar.{notE_rel, notC_not, notC_rel, open_quantified, open_let, open_if, squares_some, trigger_exprs, rel_two, rel_sum}
use Rattle.ae_syntax.specs.Grammar.{sum_two, sum_prod, prod_two, prod_unary, unary_minus, unary_post, post_field, post_atom, atom_name, atom_call}
use Rattle.ae_syntax.specs.Grammar.{atom_numeral, atom_true, atom_false, atom_void, atom_brackets, atom_ascribed, atom_distinct, atom_record}
use Rattle.ae_syntax.specs.Grammar.{atom_update, id_value}
use Rattle.ae_syntax.specs.Files.{IsParsed}
use Rattle.ae_elab.specs.Expressions.{part_of, set_of, trigger_of}
use Rattle.ae_typed_laws.proofs.BuiltRules.{built_setting, built_trigger}
use Rattle.ae_lowest_numerals.proofs.LowestTrees.{LowestPart, LowestSet}
use Rattle.ae_lowest_numerals.proofs.LowestTokens.{LowestToken, tokens_lowest}
use Rattle.ae_lowest_numerals.proofs.LowestParts.{LowestExpr, binary_lowest, not_lowest, minus_lowest, quantified_lowest, bound_lowest, if_lowest}
use Rattle.ae_lowest_numerals.proofs.LowestParts.{projection_lowest, applied_lowest, number_lowest, true_lowest, false_lowest, void_lowest}
use Rattle.ae_lowest_numerals.proofs.LowestParts.{bracketed_lowest, sorted_lowest, different_lowest, fields_lowest, changed_lowest}
use Rattle.ae_lowest_numerals.proofs.LowestDeclarations.{LowestDecl}

abbrev LowestSetting : Setting → Type 0
LowestSetting x = LowestSet (set_of x)

abbrev LowestTrigger : Trigger → Type 0
LowestTrigger t = AllByRecursion LowestPart (trigger_of t)

-- the expressions of a part are such
abbrev Lowest : Part → Type 0
Lowest (tree e) = LowestExpr e
Lowest (setting x) = LowestSetting x
Lowest (trigger t) = LowestTrigger t
Lowest (decl d) = LowestDecl d
Lowest (trees es) = AllByRecursion LowestExpr es
Lowest (settings xs) = AllByRecursion LowestSetting xs
Lowest (triggers ts) = AllByRecursion LowestTrigger ts
Lowest (decls ds) = AllByRecursion LowestDecl ds
Lowest _ = Unit {0}

alone_lowest : (p : Part) → Lowest p → Lowest (alone p)
alone_lowest (tree e) h = (h, tt)
alone_lowest (setting x) h = (h, tt)
alone_lowest (trigger t) h = (h, tt)
alone_lowest (decl d) h = (h, tt)
alone_lowest p h = h

and_then_lowest : (p q : Part) → Lowest p → Lowest q → Lowest (and_then p q)
and_then_lowest (trees es) (tree e) h k = all_push LowestExpr es e h k
and_then_lowest (settings xs) (setting x) h k = all_push LowestSetting xs x h k
and_then_lowest (triggers ts) (trigger t) h k = all_push LowestTrigger ts t h k
and_then_lowest (decls ds) (decl d) h k = all_push LowestDecl ds d h k
and_then_lowest (names ns) (token t) h k = tt
and_then_lowest (sorts ss) (sort s) h k = tt
and_then_lowest (groups gs) (group g) h k = tt
and_then_lowest (typeds ns) (typed n) h k = tt
and_then_lowest p q h k = h

abbrev Good : List Token → Type 0
Good ts = AllByRecursion LowestToken ts

before : (u w : List Token) → Good (u ++ w) → Good u
before u w g = all_front LowestToken u w g

after : (u w : List Token) → Good (u ++ w) → Good w
after u w g = all_back LowestToken u w g

parts : (es : List Expr) → AllByRecursion LowestExpr es → AllByRecursion LowestPart (map part_of es)
parts es a = all_of_map LowestPart part_of es a

sets : (xs : List Setting) → AllByRecursion LowestSetting xs → AllByRecursion LowestSet (map set_of xs)
sets xs a = all_of_map LowestSet set_of xs a

two : (u w : List Token) (t : Token) (o : BinaryOp) (a b : Expr) → Good (u ++ t ∷ w) → (Good u → LowestExpr a) → (Good w → LowestExpr b) → LowestExpr (binary o a b)
two u w t o a b g p q = binary_lowest (cover (span_of a) (span_of b)) o a b (p (before u (t ∷ w) g)) (q (after u (t ∷ w) g).1)

made : {l : Level} {w : List Token} {p : Part} → Is l w p → Good w → Lowest p
made (file_decl {ds} {d} u w p q) g = all_push LowestDecl ds d (made p (before u w g)) (made q (after u w g))
made (some_one {p} r q) g = alone_lowest p (made q g)
made (some_more {ps} {p} r u w t q h k) g = and_then_lowest ps p (made q (before u (t ∷ w) g)) (made k (after u (t ∷ w) g).1)
made (decl_function u v w t n o c d q ht hn ho p hc hd k hq l) g = made l (after (u ++ c ∷ d ∷ v) (q ∷ w) g.1.1.1).1
made (decl_predicate u w t n q ht hn p hq k) g = made k (after u (q ∷ w) g.1.1).1
made (decl_axiom w t n c ht hn hc p) g = made p g.1.1.1
made (decl_goal w t n c ht hn hc p) g = made p g.1.1.1
made (expr_arrow {a} {b} u w t o p h q) g = two u w t o a b g (made p) (made q)
made (expr_orE p) g = made p g
made (orE_or {a} {b} u w t p h q) g = two u w t op.Or a b g (made p) (made q)
made (orE_andE p) g = made p g
made (orC_or {a} {b} u w t p h q) g = two u w t op.Or a b g (made p) (made q)
made (orC_andC p) g = made p g
made (andE_and {a} {b} u w t p h q) g = two u w t op.And a b g (made p) (made q)
made (andE_notE p) g = made p g
made (andC_and {a} {b} u w t p h q) g = two u w t op.And a b g (made p) (made q)
made (andC_notC p) g = made p g
made (notE_not {e} w t h p) g = not_lowest _ e (made p g.1)
made (notE_open p) g = made p g
made (notE_rel p) g = made p g
made (notC_not {e} w t h p) g = not_lowest _ e (made p g.1)
made (notC_rel p) g = made p g
made (open_quantified {gs} {ts} {e} u v w t d q h p k hd l) g =
    (let a = before (u ++ v) (d ∷ w) g.1 in
    quantified_lowest _ q gs ts e (all_of_map (AllByRecursion LowestPart) trigger_of ts (made k (after u v a))) (made l (after (u ++ v) (d ∷ w) g.1).1))
made (open_let {a} {b} u w t n e i ht hn he p hi q) g =
    (let c = g.1.1.1 in bound_lowest _ (span n) a b (made p (before u (i ∷ w) c)) (made q (after u (i ∷ w) c).1))
made (open_if {c} {a} {b} u v w t h l ht p hh q hl r) g =
    (let d = before (u ++ h ∷ v) (l ∷ w) g.1 in
    if_lowest _ c a b (made p (before u (h ∷ v) d)) (made q (after u (h ∷ v) d).1) (made r (after (u ++ h ∷ v) (l ∷ w) g.1).1))
made (squares_some w o c ho p hc) g = made p (before w (c ∷ []) g.1)
made (trigger_exprs {es} p) g = subst (AllByRecursion LowestPart) (sym (built_trigger (terms_span es) es)) (parts es (made p g))
made (rel_two {a} {b} u w t o p h q) g = two u w t o a b g (made p) (made q)
made (rel_sum p) g = made p g
made (sum_two {a} {b} u w t o p h q) g = two u w t o a b g (made p) (made q)
made (sum_prod p) g = made p g
made (prod_two {a} {b} u w t o p h q) g = two u w t o a b g (made p) (made q)
made (prod_unary p) g = made p g
made (unary_minus {e} w t h p) g = minus_lowest _ e (made p g.1)
made (unary_post p) g = made p g
made (post_field {e} u d n p h k) g = projection_lowest _ e (span n) (made p (before u (d ∷ n ∷ []) g))
made (post_atom p) g = made p g
made (atom_name n h) g = applied_lowest _ (span n) [] tt
made (atom_call {es} w n o c hn ho p hc) g = applied_lowest _ (span n) es (parts es (made p (before w (c ∷ []) g.1.1)))
made (atom_numeral t n h) g = number_lowest _ n (g.0 n h)
made (atom_true t h) g = true_lowest _
made (atom_false t h) g = false_lowest _
made (atom_void t h) g = void_lowest _
made (atom_brackets {e} w o c ho p hc) g = bracketed_lowest _ e (made p (before w (c ∷ []) g.1))
made (atom_ascribed {e} {s} u w o d c ho p hd q hc) g = sorted_lowest _ e s (made p (before u (d ∷ w) (before (u ++ d ∷ w) (c ∷ []) g.1)))
made (atom_distinct {es} w t o c ht ho p hc) g = different_lowest _ es (parts es (made p (before w (c ∷ []) g.1.1)))
made (atom_record {ss} w o c ho p hc) g = fields_lowest _ ss (sets ss (made p (before w (c ∷ []) g.1)))
made (atom_update {e} {ss} u w o h c ho p hh q hc) g =
    (let a = before (u ++ h ∷ w) (c ∷ []) g.1 in changed_lowest _ e ss (made p (before u (h ∷ w) a)) (sets ss (made q (after u (h ∷ w) a).1)))
made (id_value {e} w n q hn hq p) g = subst LowestSet (sym (built_setting (cover (span n) (span_of e)) (span n) e)) (made p g.1.1)
made d g = tt

pub file_lowest : (text : List ℕ) (tokens : List Token) (f : File) → IsTokenized text tokens → IsParsed tokens f → AllByRecursion LowestDecl f.decls
file_lowest text tokens f t p = made p.is (tokens_lowest text tokens t)
