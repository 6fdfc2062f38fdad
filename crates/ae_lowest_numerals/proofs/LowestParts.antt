-- Each expression whose numerals are in lowest terms has such trees: one case for each production.
use Rattle.std.specs.Prelude.{ℕ, suc, Bool, true, false, ◌≡◌, List, [], ◌∷◌, map, Option, Some, None}
use Rattle.std.specs.List.{AllByRecursion}
use Rattle.std.specs.Str.{bytes_eq}
use Rattle.std.proofs.Common.{sym, ap, subst, ◌∙◌}
use Rattle.ae_core.specs.declared.terms.Sort.{Sort, Unit as UnitSort}
use Rattle.ae_core.specs.declared.terms.Head.TheVariants as head
use Rattle.ae_core.specs.declared.terms.Op.TheVariants as op
use Rattle.ae_core.specs.declared.problems.SymbolEntry.{SymbolEntry}
use Rattle.ae_syntax.specs.declared.spans.Span.{Span}
use Rattle.ae_syntax.specs.declared.types.WrittenType.{WrittenType}
use Rattle.ae_syntax.specs.declared.exprs.BinaryOp.{BinaryOp}
use Rattle.ae_syntax.specs.declared.exprs.BinaryOp.TheVariants as binary
use Rattle.ae_syntax.specs.declared.exprs.Expr.{Expr}
use Rattle.ae_syntax.specs.declared.exprs.ExprKind.{ExprKind}
use Rattle.ae_syntax.specs.declared.exprs.ExprKind as expr_kind
use Rattle.ae_syntax.specs.declared.exprs.Group.{Group}
use Rattle.ae_syntax.specs.declared.exprs.Number.{Number}
use Rattle.ae_syntax.specs.declared.exprs.Quantifier.{Quantifier}
use Rattle.ae_syntax.specs.declared.exprs.Setting.{Setting}
use Rattle.ae_syntax.specs.declared.exprs.Trigger.{Trigger}
use Rattle.ae_syntax.specs.Parts.{expression}
use Rattle.ae_elab.specs.Trees.{Claim, equal, unequal, less, at_most, greater, at_least, constant, negation, conjunction}
use Rattle.ae_elab.specs.Trees.{disjunction, exclusion, equivalence, implication}
use Rattle.ae_elab.specs.Scope.{Scope, Class, formula, either, term, a_variable, a_term, a_formula, Local, Named, bound, function}
use Rattle.ae_elab.specs.Scope.{predicate as predicate_name, unknown, by_result, symbol_from, look_up, meaning_of, name_at}
use Rattle.ae_elab.specs.Rules.{Rule, give, ◌>>◌, Typed, typed, Around, Part, as_formula}
use Rattle.ae_elab.specs.Terms.{numeral_rule, operation_rule, negative_rule, ascribed_rule, field_rule, record_rule, update_rule}
use Rattle.ae_elab.specs.Formulas.{equation_rule, inequality_rule, distinct_rule, connective_rule, merging_into, block_rule}
use Rattle.ae_elab.specs.Expressions.{a_term_part, a_formula_part, bind, let_part, name_term, name_formula, name_part}
use Rattle.ae_elab.specs.Expressions.{binary_part, part_of, kind_part, set_of, trigger_of}
use Rattle.ae_elab.proofs.PartRules.{kind_binary, kind_not, kind_negative, kind_quantified, kind_let, kind_if, kind_field, kind_apply, kind_numeral}
use Rattle.ae_elab.proofs.PartRules.{kind_true, kind_false, kind_void, kind_bracketed, kind_ascribed, kind_distinct, kind_record, kind_update}
use Rattle.ae_typed_laws.proofs.BuiltRules.{built_part}
use Rattle.ae_lowest_numerals.proofs.LowestTrees.{IsLowestNumber, LowestClaim, LowestMeaning, LowestLocal, LowestLocals, Gives, TypedLowest}
use Rattle.ae_lowest_numerals.proofs.LowestTrees.{LowestPart, LowestSet}
use Rattle.ae_lowest_numerals.proofs.LowestTerms.{after_all, numeral_lowest, operation_lowest, negative_lowest, ascribed_lowest, choice_lowest}
use Rattle.ae_lowest_numerals.proofs.LowestTerms.{function_lowest, field_lowest, record_lowest, update_lowest}
use Rattle.ae_lowest_numerals.proofs.LowestFormulas.{truth_lowest, equation_lowest, inequality_lowest, distinct_lowest, connective_lowest}
use Rattle.ae_lowest_numerals.proofs.LowestFormulas.{negation_lowest, conditional_lowest, predicate_lowest, block_lowest}

-- ---- terms and formulas
term_part : (own : Span) (r : Scope → Rule Typed) → ((sc : Scope) → LowestLocals sc → Gives TypedLowest (r sc)) → LowestPart (a_term_part own r)
term_part own r h = record { term = λ sc l at. h sc l; formula = λ sc l around at. truth_lowest at (r sc) (h sc l) }

formula_part : (own : Span) (r : Scope → Around → Rule Claim) → ((sc : Scope) → LowestLocals sc → (around : Around) → Gives LowestClaim (r sc around))
    → LowestPart (a_formula_part own r)
formula_part own r h = record { term = λ sc l at p. tt; formula = λ sc l around at. h sc l around }

-- two formulas together
join_part : (own : Span) (join : Claim → Claim → Claim) (a b : Part) → ((f g : Claim) → LowestClaim f → LowestClaim g → LowestClaim (join f g)) → LowestPart a
    → LowestPart b → LowestPart (a_formula_part own (λ sc around. connective_rule join a b sc))
join_part own join a b j h k = formula_part own (λ sc around. connective_rule join a b sc) (λ sc l around. connective_lowest sc l join j a b h k)

operator_lowest : (o : BinaryOp) (own : Span) (a b : Part) → LowestPart a → LowestPart b → LowestPart (binary_part o own a b)
operator_lowest binary.Implies own a b h k = join_part own implication a b (λ f g x y. (x, y)) h k
operator_lowest binary.Iff own a b h k = join_part own equivalence a b (λ f g x y. (x, y)) h k
operator_lowest binary.Xor own a b h k = join_part own exclusion a b (λ f g x y. (x, y)) h k
operator_lowest binary.Or own a b h k = join_part own disjunction a b (λ f g x y. (x, y)) h k
operator_lowest binary.And own a b h k = join_part own conjunction a b (λ f g x y. (x, y)) h k
operator_lowest binary.Equal own a b h k = formula_part own (λ sc around. equation_rule equal a b sc) (λ sc l around. equation_lowest sc l equal a b h k)
operator_lowest binary.NotEqual own a b h k = formula_part own (λ sc around. equation_rule unequal a b sc) (λ sc l around. equation_lowest sc l unequal a b h k)
operator_lowest binary.Less own a b h k = formula_part own (λ sc around. inequality_rule less a b sc) (λ sc l around. inequality_lowest sc l less a b h k)
operator_lowest binary.AtMost own a b h k = formula_part own (λ sc around. inequality_rule at_most a b sc) (λ sc l around. inequality_lowest sc l at_most a b h k)
operator_lowest binary.Greater own a b h k = formula_part own (λ sc around. inequality_rule greater a b sc) (λ sc l around. inequality_lowest sc l greater a b h k)
operator_lowest binary.AtLeast own a b h k = formula_part own (λ sc around. inequality_rule at_least a b sc) (λ sc l around. inequality_lowest sc l at_least a b h k)
operator_lowest binary.Add own a b h k = term_part own (operation_rule op.Add a b) (λ sc l. operation_lowest sc l op.Add a b h k)
operator_lowest binary.Sub own a b h k = term_part own (operation_rule op.Sub a b) (λ sc l. operation_lowest sc l op.Sub a b h k)
operator_lowest binary.Mul own a b h k = term_part own (operation_rule op.Mul a b) (λ sc l. operation_lowest sc l op.Mul a b h k)
operator_lowest binary.Div own a b h k = term_part own (operation_rule op.Div a b) (λ sc l. operation_lowest sc l op.Div a b h k)
operator_lowest binary.Rem own a b h k = term_part own (operation_rule op.Mod a b) (λ sc l. operation_lowest sc l op.Mod a b h k)

-- ---- `let`
bind_lowest : (x : Span) (c : Class) (e : Part) → LowestPart e → (sc : Scope) → LowestLocals sc → Gives LowestLocals (bind x c e sc)
bind_lowest x formula e h sc l p = (h.formula sc l None e.place p, l)
bind_lowest x either e h sc l p = (h.term sc l e.place p, l)
bind_lowest x term e h sc l p = (h.term sc l e.place p, l)

let_lowest : (own x : Span) (e b : Part) → LowestPart e → LowestPart b → LowestPart (let_part own x e b)
let_lowest own x e b h k = record {
  term = λ sc l at p. let i = bind x (e.class sc) e sc p in k.term i.value (bind_lowest x (e.class sc) e h sc l p) b.place i.passed;
  formula = λ sc l around at p. let i = bind x (e.class sc) e sc p in k.formula i.value (bind_lowest x (e.class sc) e h sc l p) around b.place i.passed;
}

-- ---- names
abbrev LowestNamed : Named → Type 0
LowestNamed (bound m) = LowestMeaning m
LowestNamed _ = Unit {0}

result_lowest : (k : ℕ) (e : SymbolEntry) (r : Option Sort) → LowestNamed (by_result k e r)
result_lowest k e (Some s) = tt
result_lowest k e None = tt

chosen_lowest : (b : Bool) (x y : Named) → LowestNamed x → LowestNamed y → LowestNamed (elim b [ true ↦ x | false ↦ y ])
chosen_lowest true x y h k = h
chosen_lowest false x y h k = k

symbol_lowest : (k : ℕ) (es : List SymbolEntry) (name : List ℕ) → LowestNamed (symbol_from k es name)
symbol_lowest k [] name = tt
symbol_lowest k (e ∷ es) name =
    chosen_lowest (bytes_eq name e.name) (by_result k e e.result) (symbol_from (suc k) es name) (result_lowest k e e.result) (symbol_lowest (suc k) es name)

found_lowest : (ls : List Local) (outside : Named) (name : List ℕ) → AllByRecursion LowestLocal ls → LowestNamed outside → LowestNamed (look_up ls outside name)
found_lowest [] outside name a o = o
found_lowest (l ∷ ls) outside name a o =
    chosen_lowest (bytes_eq name l.name) (bound l.meaning) (look_up ls outside name) a.0 (found_lowest ls outside name a.1 o)

named_lowest : (sc : Scope) (name : List ℕ) → LowestLocals sc → LowestNamed (meaning_of sc name)
named_lowest sc name l = found_lowest sc.locals (symbol_from 0 sc.signature.symbols name) name l (symbol_lowest 0 sc.signature.symbols name)

module _ (name : Span) (args : List Part) (a : AllByRecursion LowestPart args) (sc : Scope) (l : LowestLocals sc) where
  name_as_term : (at : Span) (n : Named) → LowestNamed n → Gives TypedLowest (name_term name args sc at n)
  name_as_term at (bound (a_variable x s)) h p = tt
  name_as_term at (bound (a_term c t s)) h p = h
  name_as_term at (bound (a_formula f)) h p = tt
  name_as_term at (function k e s) h p = function_lowest sc l name k e s args a p
  name_as_term at (predicate_name k e) h p = tt
  name_as_term at unknown h p = tt

  name_as_formula : (around : Around) (at : Span) (n : Named) → LowestNamed n → Gives LowestClaim (name_formula name args sc around at n)
  name_as_formula around at (bound (a_formula f)) h = after_all LowestClaim (merging_into around f) (give f) (λ p. h)
  name_as_formula around at (predicate_name k e) h = predicate_lowest sc l name k e args a
  name_as_formula around at n h = truth_lowest at (name_term name args sc at n) (name_as_term at n h)

name_lowest : (own name : Span) (args : List Part) → AllByRecursion LowestPart args → LowestPart (name_part own name args)
name_lowest own name args a = record {
  term = λ sc l at. name_as_term name args a sc l at (meaning_of sc (name_at sc name)) (named_lowest sc (name_at sc name) l);
  formula = λ sc l around at. name_as_formula name args a sc l around at (meaning_of sc (name_at sc name)) (named_lowest sc (name_at sc name) l);
}

-- ---- each production
abbrev pub LowestExpr : Expr → Type 0
LowestExpr e = LowestPart (part_of e)

by_rule : (s : Span) (k : ExprKind) (x : Span → Part) → kind_part k ≡ x → LowestPart (x s) → LowestExpr (expression s k)
by_rule s k x e h = subst LowestPart (sym (built_part s k ∙ ap (λ (f : Span → Part). f s) e)) h

module _ (s : Span) where
  pub binary_lowest : (o : BinaryOp) (a b : Expr) → LowestExpr a → LowestExpr b → LowestExpr (expression s (expr_kind.Binary o a b))
  binary_lowest o a b h k = by_rule s _ _ (kind_binary o a b) (operator_lowest o s (part_of a) (part_of b) h k)

  pub not_lowest : (a : Expr) → LowestExpr a → LowestExpr (expression s (expr_kind.Not a))
  not_lowest a h =
      by_rule s _ _ (kind_not a) (formula_part s (λ sc around. as_formula sc (part_of a) >> λ f. give (negation f)) (λ sc l around. negation_lowest sc l (part_of a) h))

  pub minus_lowest : (a : Expr) → LowestExpr a → LowestExpr (expression s (expr_kind.Negative a))
  minus_lowest a h = by_rule s _ _ (kind_negative a) (term_part s (negative_rule (part_of a)) (λ sc l. negative_lowest sc l (part_of a) h))

  pub quantified_lowest : (q : Quantifier) (gs : List Group) (ts : List Trigger) (b : Expr) → AllByRecursion (AllByRecursion LowestPart) (map trigger_of ts) → LowestExpr b
      → LowestExpr (expression s (expr_kind.Quantified q gs ts b))
  quantified_lowest q gs ts b a h =
      by_rule s _ _ (kind_quantified q gs ts b)
      (formula_part s (block_rule q gs (map trigger_of ts) (part_of b)) (λ sc l around. block_lowest q gs (map trigger_of ts) (part_of b) a h sc l around))

  pub bound_lowest : (n : Span) (a b : Expr) → LowestExpr a → LowestExpr b → LowestExpr (expression s (expr_kind.Let n a b))
  bound_lowest n a b h k = by_rule s _ _ (kind_let n a b) (let_lowest s n (part_of a) (part_of b) h k)

  pub if_lowest : (c a b : Expr) → LowestExpr c → LowestExpr a → LowestExpr b → LowestExpr (expression s (expr_kind.If c a b))
  if_lowest c a b h i j = by_rule s _ _ (kind_if c a b) (record {
    term = λ sc l at. choice_lowest sc l (part_of c) (part_of a) (part_of b) h i j;
    formula = λ sc l around at. conditional_lowest sc l (part_of c) (part_of a) (part_of b) h i j;
  })

  pub projection_lowest : (a : Expr) (n : Span) → LowestExpr a → LowestExpr (expression s (expr_kind.Field a n))
  projection_lowest a n h = by_rule s _ _ (kind_field a n) (term_part s (field_rule (part_of a) n) (λ sc l. field_lowest sc l (part_of a) n h))

  pub applied_lowest : (n : Span) (es : List Expr) → AllByRecursion LowestPart (map part_of es) → LowestExpr (expression s (expr_kind.Apply n es))
  applied_lowest n es a = by_rule s _ _ (kind_apply n es) (name_lowest s n (map part_of es) a)

  pub number_lowest : (n : Number) → IsLowestNumber n → LowestExpr (expression s (expr_kind.Numeral n))
  number_lowest n h = by_rule s _ _ (kind_numeral n) (term_part s (λ sc. numeral_rule n) (λ sc l. numeral_lowest n h))

  pub true_lowest : LowestExpr (expression s expr_kind.True)
  true_lowest = by_rule s _ _ kind_true (record { term = λ sc l at p. tt; formula = λ sc l around at p. tt })

  pub false_lowest : LowestExpr (expression s expr_kind.False)
  false_lowest = by_rule s _ _ kind_false (record { term = λ sc l at p. tt; formula = λ sc l around at p. tt })

  pub void_lowest : LowestExpr (expression s expr_kind.Void)
  void_lowest = by_rule s _ _ kind_void (term_part s (λ sc. give (typed (constant head.Void) UnitSort)) (λ sc l p. tt))

  pub bracketed_lowest : (a : Expr) → LowestExpr a → LowestExpr (expression s (expr_kind.Bracketed a))
  bracketed_lowest a h = by_rule s _ _ (kind_bracketed a) (record { term = h.term; formula = h.formula })

  pub sorted_lowest : (a : Expr) (w : WrittenType) → LowestExpr a → LowestExpr (expression s (expr_kind.Ascribed a w))
  sorted_lowest a w h = by_rule s _ _ (kind_ascribed a w) (term_part s (ascribed_rule (part_of a) w) (λ sc l. ascribed_lowest sc l (part_of a) w h))

  pub different_lowest : (es : List Expr) → AllByRecursion LowestPart (map part_of es) → LowestExpr (expression s (expr_kind.Distinct es))
  different_lowest es a =
      by_rule s _ _ (kind_distinct es) (formula_part s (λ sc around. distinct_rule (map part_of es) sc) (λ sc l around. distinct_lowest sc l (map part_of es) a))

  pub fields_lowest : (xs : List Setting) → AllByRecursion LowestSet (map set_of xs) → LowestExpr (expression s (expr_kind.Record xs))
  fields_lowest xs a = by_rule s _ _ (kind_record xs) (term_part s (record_rule s (map set_of xs)) (λ sc l. record_lowest sc l s (map set_of xs) a))

  pub changed_lowest : (e : Expr) (xs : List Setting) → LowestExpr e → AllByRecursion LowestSet (map set_of xs) → LowestExpr (expression s (expr_kind.Update e xs))
  changed_lowest e xs h a =
      by_rule s _ _ (kind_update e xs) (term_part s (update_rule s (part_of e) (map set_of xs)) (λ sc l. update_lowest sc l s (part_of e) (map set_of xs) h a))
