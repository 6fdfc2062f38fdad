-- Formulas without inequality and quantifier: what is computed at each form of formula.
use Rattle.ae_evaluation.proofs.Literals.{simple-Not, simple-And, simple-Or, simple-Xor, simple-Iff}
use Rattle.ae_reach.proofs.Simple.{simple_true, simple_false, simple_eq, simple_lt, simple_le, simple_pred, simple_all, simple_ex}

pub ruleset formula_rules = (simple_true, simple_false, simple_eq, simple_lt, simple_le, simple_pred, simple-Not, simple-And, simple-Or, simple-Xor, simple-Iff, simple_all, simple_ex)
