use Rattle.ae_syntax.specs.declared.exprs.Expr.{size-Expr}
use Rattle.ae_expressions.proofs.classes.+class_of.Given as goal

abbrev pub decreases-class_of : goal.decreases-class_of
decreases-class_of l = size-Expr l.expr.now
