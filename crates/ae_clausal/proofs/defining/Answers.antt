use Rattle.std.proofs.Common.{sym, subst, List}
use Rattle.std.specs.List.{AllByRecursion}
use Rattle.std.proofs.lemmas.Result.{IfOk-weaker}
use Rattle.ae_rules.specs.Derivations.{IsAllowed}
use Rattle.ae_core.specs.declared.proofs.ClauseLine.{ClauseLine}
use Rattle.ae_rules.proofs.Defining.{called_allowed}
use Rattle.ae_clausal.proofs.defining.Goals as goal

pub returns-clause-allowed : goal.returns-clause-allowed
returns-clause-allowed c =
    IfOk-weaker c.lines_of.result _ _
    (λ ls e p g earlier ok. subst (λ (w : List ClauseLine). AllByRecursion (IsAllowed p g earlier) w) (sym e) (called_allowed p g earlier c.args.lit.now.formula c.args.lit.now.positive ok))
    c.lines_of.ensures
