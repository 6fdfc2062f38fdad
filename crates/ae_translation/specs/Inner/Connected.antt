-- Two formulas with a connective between them.
use Rattle.ae_core.specs.declared.formulas.Formula.{Formula, Not, And, Or, Xor, Iff}
use Rattle.ae_elab.specs.declared.nodes.Connective.{Connective}
use Rattle.ae_elab.specs.declared.nodes.Connective.TheVariants.{Conjunction, Disjunction, Exclusion, Equivalence, Implication}

abbrev pub connected : Connective → Formula → Formula → Formula
connected Conjunction a b = And a b
connected Disjunction a b = Or a b
connected Exclusion a b = Xor a b
connected Equivalence a b = Iff a b
connected Implication a b = Or (Not a) b
