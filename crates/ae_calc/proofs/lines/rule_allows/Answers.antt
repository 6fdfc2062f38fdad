use Rattle.std.proofs.Common.{IsTrue, IfOk, ◌↔◌, sym, subst, rules}
use Rattle.std.proofs.lemmas.Int.{to_z-of_z}
use mir.Syntax.{w128}
use Rattle.ae_rules.specs.Lines.{Allowed, AllowedLin, AllowedLeSum, AllowedLtSum}
use Rattle.ae_calc.proofs.lines.rule_allows.Goals as goal

pub returns-in-EqLin-clause-exact : goal.returns-in-EqLin-clause-exact
returns-in-EqLin-clause-exact c =
    let l = c.in-EqLin in
    subst (λ e. IfOk c.lin_allowed.result (λ b. IsTrue b ↔ Allowed c.args.signature.now c.args.hyps.now c.args.earlier.now e)) (sym l.is)
    (subst (λ ps. IfOk c.lin_allowed.result (λ b. IsTrue b ↔ AllowedLin c.args.signature.now c.args.earlier.now l.left l.right l.times ps)) c.as_slice-in-EqLin.ensures
    (subst (λ z. IfOk c.lin_allowed.result (λ b. IsTrue b ↔ AllowedLin c.args.signature.now c.args.earlier.now l.left l.right z c.as_slice-in-EqLin.result.now)) (to_z-of_z w128 l.times (search rules)) c.lin_allowed.ensures.exact))

pub returns-in-LeSum-clause-exact : goal.returns-in-LeSum-clause-exact
returns-in-LeSum-clause-exact c =
    let l = c.in-LeSum in
    subst (λ e. IfOk c.le_sum_allowed.result (λ b. IsTrue b ↔ Allowed c.args.signature.now c.args.hyps.now c.args.earlier.now e)) (sym l.is)
    (subst (λ ps. IfOk c.le_sum_allowed.result (λ b. IsTrue b ↔ AllowedLeSum c.args.signature.now c.args.earlier.now l.left l.right l.times ps)) c.as_slice-in-LeSum.ensures
    (subst (λ z. IfOk c.le_sum_allowed.result (λ b. IsTrue b ↔ AllowedLeSum c.args.signature.now c.args.earlier.now l.left l.right z c.as_slice-in-LeSum.result.now)) (to_z-of_z w128 l.times (search rules)) c.le_sum_allowed.ensures.exact))

pub returns-in-LtSum-clause-exact : goal.returns-in-LtSum-clause-exact
returns-in-LtSum-clause-exact c =
    let l = c.in-LtSum in
    subst (λ e. IfOk c.lt_sum_allowed.result (λ b. IsTrue b ↔ Allowed c.args.signature.now c.args.hyps.now c.args.earlier.now e)) (sym l.is)
    (subst (λ ps. IfOk c.lt_sum_allowed.result (λ b. IsTrue b ↔ AllowedLtSum c.args.signature.now c.args.earlier.now l.left l.right l.times ps)) c.as_slice-in-LtSum.ensures
    (subst (λ z. IfOk c.lt_sum_allowed.result (λ b. IsTrue b ↔ AllowedLtSum c.args.signature.now c.args.earlier.now l.left l.right z c.as_slice-in-LtSum.result.now)) (to_z-of_z w128 l.times (search rules)) c.lt_sum_allowed.ensures.exact))

pub returns-in-LeRound-clause-exact : goal.returns-in-LeRound-clause-exact
returns-in-LeRound-clause-exact c =
    subst (λ e. IfOk c.round_allowed.result (λ b. IsTrue b ↔ Allowed c.args.signature.now c.args.hyps.now c.args.earlier.now e)) (sym c.in-LeRound.is) c.round_allowed.ensures.exact
