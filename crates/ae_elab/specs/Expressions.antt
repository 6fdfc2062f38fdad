-- The typing rules of expressions: for each production what it is, what it states as a term, and what as a formula.
use Rattle.std.specs.Prelude.{nat_eq, List, [], ◌∷◌, length, None}
use Rattle.ae_core.specs.declared.terms.Sort.{Bool as BoolSort, Unit as UnitSort}
use Rattle.ae_core.specs.declared.terms.Head.TheVariants as head
use Rattle.ae_core.specs.declared.terms.Op.TheVariants as op
use Rattle.ae_syntax.specs.declared.spans.Span.{Span}
use Rattle.ae_syntax.specs.declared.exprs.BinaryOp.{BinaryOp}
use Rattle.ae_syntax.specs.declared.exprs.BinaryOp.TheVariants as binary
use Rattle.ae_syntax.specs.declared.exprs.Expr.{Expr, Expr-F, fold-Expr}
use Rattle.ae_syntax.specs.declared.exprs.Setting.{Setting, Setting-F, fold-Setting}
use Rattle.ae_syntax.specs.declared.exprs.Trigger.{Trigger, Trigger-F, fold-Trigger}
use Rattle.ae_syntax.specs.declared.exprs.ExprKind.{ExprKind, fold-ExprKind}
use Rattle.ae_syntax.specs.declared.exprs.ExprKind.TheOpen.{ExprKind-F}
use Rattle.ae_syntax.specs.declared.exprs.ExprKind.TheOpen as layer
use Rattle.ae_elab.specs.declared.faults.TypeFault.TheVariants as fault
use Rattle.ae_elab.specs.Conditions.{Condition, test}
use Rattle.ae_elab.specs.Trees.{Tree, Claim, equal, unequal, less, at_most, greater, at_least, variable, truth, falsity, constant, negation, conjunction, disjunction, exclusion, equivalence, implication}
use Rattle.ae_elab.specs.Scope.{Scope, Class, formula, either, term, Named, bound, function, predicate, unknown, a_variable, a_term, a_formula, name_at, meaning_of, class_of_named, join, of_class, named, with_locals}
use Rattle.ae_elab.specs.Rules.{Rule, give, ◌>>◌, ◌⇒◌, all_of, refuse, Typed, typed, no_term, Around, Part, Set, as_term, as_formula}
use Rattle.ae_elab.specs.Terms.{numeral_rule, operation_rule, negative_rule, ascribed_rule, choice_rule, function_rule, field_rule, record_rule, update_rule}
use Rattle.ae_elab.specs.Formulas.{truth_rule, equation_rule, inequality_rule, distinct_rule, connective_rule, conditional_rule, predicate_rule, merging_into, block_rule}

-- a formula in a term's place: its own faults come first
abbrev pub formula_in_term : Span → Rule Claim → Rule Typed
formula_in_term place r = r >> λ f. refuse (fault.PropInTerm place.from place.to) no_term

-- an expression that is a term
abbrev pub a_term_part : Span → (Scope → Rule Typed) → Part
a_term_part own r = record {
  place = own;
  class = λ sc. term;
  term = λ sc place. r sc;
  formula = λ sc around place. truth_rule place (r sc);
}

-- an expression that is a formula and no term
abbrev pub a_formula_part : Span → (Scope → Around → Rule Claim) → Part
a_formula_part own r = record {
  place = own;
  class = λ sc. formula;
  term = λ sc place. formula_in_term place (r sc None);
  formula = λ sc around place. r sc around;
}

-- `true` and `false`, which stand for either
abbrev pub constant_part : Span → Tree → Claim → Part
constant_part own t f = record {
  place = own;
  class = λ sc. either;
  term = λ sc place. give (typed t BoolSort);
  formula = λ sc around place. give f;
}

-- `(e)` is what `e` is; its place is the bracket's
abbrev pub bracketed_part : Span → Part → Part
bracketed_part own e = record { place = own; class = e.class; term = e.term; formula = e.formula }

-- ---- `let x = e in b`: `e` is typed once, without an expected sort, as a formula where it is one
abbrev pub bind : Span → Class → Part → Scope → Rule Scope
bind x formula e sc = as_formula sc e >> λ f. give (with_locals (named (name_at sc x) (a_formula f) ∷ []) sc)
bind x c e sc = as_term sc e >> λ t. give (with_locals (named (name_at sc x) (a_term c t.tree t.sort) ∷ []) sc)

abbrev pub let_part : Span → Span → Part → Part → Part
let_part own x e b = record {
  place = own;
  class = λ sc. b.class (with_locals (named (name_at sc x) (of_class (e.class sc)) ∷ []) sc);
  term = λ sc place. (bind x (e.class sc) e sc >> λ inner. b.term inner b.place);
  formula = λ sc around place. (bind x (e.class sc) e sc >> λ inner. b.formula inner around b.place);
}

-- ---- `if c then a else b`: its branches stand in a term's place where it does, and in a formula's place where it does
abbrev pub if_part : Span → Part → Part → Part → Part
if_part own c a b = record {
  place = own;
  class = λ sc. join (a.class sc) (b.class sc);
  term = λ sc place. choice_rule c a b sc;
  formula = λ sc around place. conditional_rule c a b sc;
}

-- ---- names, with their arguments
-- a bound name has no arguments
abbrev pub no_arguments : Span → List Part → Condition
no_arguments name args = test (nat_eq (length args) 0) (fault.Arity name.from name.to)

abbrev pub name_term : Span → List Part → Scope → Span → Named → Rule Typed
name_term name args sc place (bound (a_variable x s)) = no_arguments name args ⇒ give (typed (variable x) s)
name_term name args sc place (bound (a_term c t s)) = no_arguments name args ⇒ give (typed t s)
name_term name args sc place (bound (a_formula f)) = no_arguments name args ⇒ formula_in_term place (give f)
name_term name args sc place (function k e s) = function_rule name k e s args sc
name_term name args sc place (predicate k e) = formula_in_term place (predicate_rule name k e args sc)
name_term name args sc place unknown = refuse (fault.UnknownName (name_at sc name) name.from name.to) no_term

abbrev pub name_formula : Span → List Part → Scope → Around → Span → Named → Rule Claim
name_formula name args sc around place (bound (a_formula f)) = no_arguments name args ⇒ all_of (merging_into around f) (give f)
name_formula name args sc around place (predicate k e) = predicate_rule name k e args sc
name_formula name args sc around place n = truth_rule place (name_term name args sc place n)

abbrev pub name_part : Span → Span → List Part → Part
name_part own name args = record {
  place = own;
  class = λ sc. class_of_named (meaning_of sc (name_at sc name));
  term = λ sc place. name_term name args sc place (meaning_of sc (name_at sc name));
  formula = λ sc around place. name_formula name args sc around place (meaning_of sc (name_at sc name));
}

-- ---- operators between two expressions
abbrev pub binary_part : BinaryOp → Span → Part → Part → Part
binary_part binary.Implies own a b = a_formula_part own λ sc around. connective_rule implication a b sc
binary_part binary.Iff own a b = a_formula_part own λ sc around. connective_rule equivalence a b sc
binary_part binary.Xor own a b = a_formula_part own λ sc around. connective_rule exclusion a b sc
binary_part binary.Or own a b = a_formula_part own λ sc around. connective_rule disjunction a b sc
binary_part binary.And own a b = a_formula_part own λ sc around. connective_rule conjunction a b sc
binary_part binary.Equal own a b = a_formula_part own λ sc around. equation_rule equal a b sc
binary_part binary.NotEqual own a b = a_formula_part own λ sc around. equation_rule unequal a b sc
binary_part binary.Less own a b = a_formula_part own λ sc around. inequality_rule less a b sc
binary_part binary.AtMost own a b = a_formula_part own λ sc around. inequality_rule at_most a b sc
binary_part binary.Greater own a b = a_formula_part own λ sc around. inequality_rule greater a b sc
binary_part binary.AtLeast own a b = a_formula_part own λ sc around. inequality_rule at_least a b sc
binary_part binary.Add own a b = a_term_part own (operation_rule op.Add a b)
binary_part binary.Sub own a b = a_term_part own (operation_rule op.Sub a b)
binary_part binary.Mul own a b = a_term_part own (operation_rule op.Mul a b)
binary_part binary.Div own a b = a_term_part own (operation_rule op.Div a b)
binary_part binary.Rem own a b = a_term_part own (operation_rule op.Mod a b)

-- ---- one case for each production; `own` is the expression's place
abbrev pub part_step : ExprKind-F (Span → Part) Part Set (List Part) → Span → Part
part_step (layer.Binary o a b) own = binary_part o own a b
part_step (layer.Not a) own = a_formula_part own λ sc around. as_formula sc a >> λ f. give (negation f)
part_step (layer.Negative a) own = a_term_part own (negative_rule a)
part_step (layer.Quantified q groups triggers body) own = a_formula_part own (block_rule q groups triggers body)
part_step (layer.Let x e b) own = let_part own x e b
part_step (layer.If c a b) own = if_part own c a b
part_step (layer.Field e x) own = a_term_part own (field_rule e x)
part_step (layer.Apply name args) own = name_part own name args
part_step (layer.Numeral n) own = a_term_part own λ sc. numeral_rule n
part_step layer.True own = constant_part own (constant head.True) truth
part_step layer.False own = constant_part own (constant head.False) falsity
part_step layer.Void own = a_term_part own λ sc. give (typed (constant head.Void) UnitSort)
part_step (layer.Bracketed e) own = bracketed_part own e
part_step (layer.Ascribed e s) own = a_term_part own (ascribed_rule e s)
part_step (layer.Distinct es) own = a_formula_part own λ sc around. distinct_rule es sc
part_step (layer.Record sets) own = a_term_part own (record_rule own sets)
part_step (layer.Update base sets) own = a_term_part own (update_rule own base sets)

abbrev pub expr_step : Expr-F (Span → Part) Part Set (List Part) → Part
expr_step e = e.kind e.span

abbrev pub set_step : Setting-F (Span → Part) Part Set (List Part) → Set
set_step s = record { name = s.name; value = s.value }

abbrev pub trigger_step : Trigger-F (Span → Part) Part Set (List Part) → List Part
trigger_step t = t.terms

-- an expression, what it is of at a place, a field's value, and a trigger
unfoldable pub part_of : Expr → Part
part_of = fold-Expr (Span → Part) Part Set (List Part) part_step expr_step set_step trigger_step

unfoldable pub kind_part : ExprKind → Span → Part
kind_part = fold-ExprKind (Span → Part) Part Set (List Part) part_step expr_step set_step trigger_step

unfoldable pub set_of : Setting → Set
set_of = fold-Setting (Span → Part) Part Set (List Part) part_step expr_step set_step trigger_step

unfoldable pub trigger_of : Trigger → List Part
trigger_of = fold-Trigger (Span → Part) Part Set (List Part) part_step expr_step set_step trigger_step
