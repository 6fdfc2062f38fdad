use Rattle.std.proofs.Common.{◌≡◌, ℕ, Option, sym, ap, subst}
use Rattle.ae_core.specs.declared.formulas.Formula.{Formula}
use Rattle.ae_explain.specs.Assignments.{number_in}
use Rattle.ae_propagation.specs.Inner.Coding.{IsCoded}
use Rattle.ae_propagation.proofs.propagation.Propagation.back_to.Goals as goal

pub invariant_of-self : goal.invariant_of-self
invariant_of-self c =
    let same : number_in c.back_to.new.self.numbers ≡ number_in c.self.inside.trail.numbers = ap number_in c.back_to.ensures.numbers in
    subst (λ (m : Formula → Option ℕ). IsCoded m c.self.inside.coded) (sym same) c.self.invariant
