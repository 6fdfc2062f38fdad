-- What rules of terms and formulas go on with once a part is typed.
use Rattle.ae_core.specs.declared.terms.Sort.{Sort}
use Rattle.ae_core.specs.declared.terms.Op.TheVariants as op
use Rattle.ae_syntax.specs.declared.spans.Span.{Span}
use Rattle.ae_syntax.specs.declared.types.WrittenType.{WrittenType}
use Rattle.ae_elab.specs.declared.grounds.Ground.TheVariants.{Free}
use Rattle.ae_elab.specs.declared.numbers.Numbers.TheVariants.{IntOrReal}
use Rattle.ae_elab.specs.Conditions.{has_sort, is_bool, may_be, becomes}
use Rattle.ae_elab.specs.Rules.{Rule, Part, as_formula, give, ◌>>◌, ◌⇒◌, Typed, typed}
use Rattle.ae_elab.specs.Scope.{Scope}
use Rattle.ae_elab.specs.Trees.{Tree, Claim, none, more, operation, negation, claim_of}
use Rattle.ae_elab.specs.WrittenTypes.{type_rule}

-- `- a`
abbrev pub then_negative : Span → Typed → Rule Typed
then_negative place s = may_be place IntOrReal s.sort ⇒ becomes place IntOrReal s.sort ⇒ give (typed (operation op.Neg s.sort (more s.tree none)) s.sort)

-- `(e : s)`
abbrev pub then_ascribed : Span → WrittenType → Scope → Typed → Rule Typed
then_ascribed place w sc t = type_rule w Free sc >> λ s. has_sort place s t.sort ⇒ give (typed t.tree s)

-- a term in a formula's place
abbrev pub then_truth : Span → Typed → Rule Claim
then_truth place t = is_bool place t.sort ⇒ give (claim_of t.tree)

-- a term of which the sort is expected
abbrev pub then_wanted : Span → Sort → Typed → Rule Tree
then_wanted place s t = has_sort place s t.sort ⇒ give t.tree

-- `not`
abbrev pub negation_rule : Part → Scope → Rule Claim
negation_rule a sc = as_formula sc a >> λ f. give (negation f)
