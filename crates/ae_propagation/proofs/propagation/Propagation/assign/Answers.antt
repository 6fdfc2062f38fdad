use Rattle.std.proofs.Common.{◌≡◌, ℕ, Option, sym, ap, subst}
use Rattle.ae_core.specs.declared.formulas.Formula.{Formula}
use Rattle.ae_explain.specs.Assignments.{number_in}
use Rattle.ae_propagation.specs.Inner.Coding.{IsCoded}
use Rattle.ae_propagation.proofs.propagation.Propagation.assign.Goals as goal

pub invariant_of-self : goal.invariant_of-self
invariant_of-self c = c.number_for.ensures.coded

pub invariant_of-self-2 : goal.invariant_of-self-2
invariant_of-self-2 c =
    let same : number_in c.assign_numbered.new.self.numbers ≡ number_in c.number_for.new.trail.numbers = ap number_in c.assign_numbered.ensures.numbers in
    subst (λ (m : Formula → Option ℕ). IsCoded m c.number_for.new.coded) (sym same) c.number_for.ensures.coded
