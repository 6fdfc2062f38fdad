-- Patterns: a trigger with the sorts of the variables and the number of the type variables that a match gives names and sorts.
use Rattle.std.specs.Prelude.{ℕ, cond, nat_eq, List, [], map, length}
use Rattle.ae_core.specs.declared.terms.Sort.{Sort}
use Rattle.ae_core.specs.declared.terms.Term.{Term}
use Rattle.ae_core.specs.declared.formulas.Formula.{Formula, Formula-F, out-Formula}
use Rattle.ae_core.specs.declared.formulas.Formula.TheOpen as formula_layer
use Rattle.ae_core.specs.declared.formulas.Quant.{Quant}
use Rattle.ae_core.specs.declared.problems.Signature.{Signature}
use Rattle.ae_journal.specs.Triggers.{triggers}
use Rattle.ae_journal.specs.States as states
use Rattle.ae_trigger.specs.declared.patterns.Pattern.{Pattern}

abbrev pub pattern : ℕ → List Sort → List Term → Pattern
pattern type_vars sorts ts = record { vars = sorts; sort_vars = type_vars; terms = ts }

-- one for each trigger, in order
abbrev pub patterns_of : states.Pattern → List Pattern
patterns_of p = map (pattern p.type_vars p.vars) p.choices

-- what the variables of a block and so many type variables are matched by; what the type variables alone are
abbrev pub block_pattern : Signature → ℕ → Quant → states.Pattern
block_pattern sig v q = record { type_vars = v; vars = q.sorts; choices = triggers sig v (length q.sorts) q.triggers q.body }

abbrev pub bare_pattern : Signature → ℕ → Formula → states.Pattern
bare_pattern sig v f = record { type_vars = v; vars = []; choices = triggers sig v 0 [] f }

-- a formula without type variables is a quantified one, and its literal is instantiated; one with type variables is that of an axiom
abbrev pub instantiated_by : Signature → ℕ → Formula → Formula-F Formula Quant → states.Pattern
instantiated_by sig v f (formula_layer.Ex q) = cond (nat_eq v 0) (states.literal_pattern sig q) (states.axiom_pattern sig v f (formula_layer.Ex q))
instantiated_by sig v f l = states.axiom_pattern sig v f l

abbrev pub instantiated : Signature → ℕ → Formula → states.Pattern
instantiated sig v f = instantiated_by sig v f (out-Formula f)
