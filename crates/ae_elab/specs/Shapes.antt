-- What an operator between two expressions makes of them, and the rule that it has.
use Rattle.ae_core.specs.declared.terms.Op.TheVariants as op
use Rattle.ae_syntax.specs.declared.spans.Span.{Span}
use Rattle.ae_syntax.specs.declared.exprs.BinaryOp.{BinaryOp}
use Rattle.ae_syntax.specs.declared.exprs.BinaryOp.TheVariants as binary
use Rattle.ae_elab.specs.declared.nodes.Relation.TheVariants as relation
use Rattle.ae_elab.specs.declared.nodes.Connective.TheVariants as connective
use Rattle.ae_elab.specs.declared.shapes.Shape.{Shape}
use Rattle.ae_elab.specs.declared.shapes.Shape.TheVariants.{Operation, Equation, Inequality, Joined}
use Rattle.ae_elab.specs.Expressions.{a_term_part, a_formula_part}
use Rattle.ae_elab.specs.Formulas.{equation_rule, inequality_rule, connective_rule}
use Rattle.ae_elab.specs.Nodes.{relation_of, join_of}
use Rattle.ae_elab.specs.Rules.{Part}
use Rattle.ae_elab.specs.Terms.{operation_rule}

abbrev pub shape_of : BinaryOp → Shape
shape_of binary.Implies = Joined connective.Implication
shape_of binary.Iff = Joined connective.Equivalence
shape_of binary.Xor = Joined connective.Exclusion
shape_of binary.Or = Joined connective.Disjunction
shape_of binary.And = Joined connective.Conjunction
shape_of binary.Equal = Equation relation.Equal
shape_of binary.NotEqual = Equation relation.Unequal
shape_of binary.Less = Inequality relation.Less
shape_of binary.AtMost = Inequality relation.AtMost
shape_of binary.Greater = Inequality relation.Greater
shape_of binary.AtLeast = Inequality relation.AtLeast
shape_of binary.Add = Operation op.Add
shape_of binary.Sub = Operation op.Sub
shape_of binary.Mul = Operation op.Mul
shape_of binary.Div = Operation op.Div
shape_of binary.Rem = Operation op.Mod

abbrev pub part_of_shape : Shape → Span → Part → Part → Part
part_of_shape (Operation o) own a b = a_term_part own (operation_rule o a b)
part_of_shape (Equation r) own a b = a_formula_part own λ sc around. equation_rule (relation_of r) a b sc
part_of_shape (Inequality r) own a b = a_formula_part own λ sc around. inequality_rule (relation_of r) a b sc
part_of_shape (Joined c) own a b = a_formula_part own λ sc around. connective_rule (join_of c) a b sc
