use Rattle.std.proofs.Common.{sym, ◌∙◌, subst, IfOk}
use Rattle.ae_core.specs.declared.formulas.Formula.{Formula, Pred}
use Rattle.ae_literals.specs.Said.{Says}
use Rattle.ae_literals.proofs.saying.said_of.Goals as goal

pub returns-in-Eq : goal.returns-in-Eq
returns-in-Eq c =
    subst (λ (f : Formula). IfOk c.of_equation.result (λ said. Says c.args.store.now (record { positive = c.args.lit.now.positive; formula = f }) said)) (sym c.in-Eq.is) c.of_equation.ensures

pub returns-in-Pred : goal.returns-in-Pred
returns-in-Pred c =
    subst (λ (f : Formula). IfOk c.of_atom.result (λ said. Says c.args.store.now (record { positive = c.args.lit.now.positive; formula = f }) said))
    ((λ i. Pred c.in-Pred.symbol (c.as_slice.ensures i) (c.as_slice-in-Pred.ensures i)) ∙ sym c.in-Pred.is) c.of_atom.ensures
