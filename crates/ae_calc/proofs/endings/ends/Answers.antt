use Rattle.std.proofs.Common.{IsTrue, IfOk, ◌↔◌, sym, subst}
use Rattle.ae_rules.specs.Derivations.{Ends}
use Rattle.ae_calc.proofs.endings.ends.Goals as goal

pub returns-in-Const-clause-exact : goal.returns-in-Const-clause-exact
returns-in-Const-clause-exact c =
    subst (λ e. IfOk c.const_ends.result (λ b. IsTrue b ↔ Ends c.args.signature.now c.args.hyps.now c.args.lines.now e)) (sym c.in-Const.is) c.const_ends.ensures.exact

pub returns-in-Zero-clause-exact : goal.returns-in-Zero-clause-exact
returns-in-Zero-clause-exact c =
    subst (λ e. IfOk c.zero_ends.result (λ b. IsTrue b ↔ Ends c.args.signature.now c.args.hyps.now c.args.lines.now e)) (sym c.in-Zero.is) c.zero_ends.ensures.exact

pub returns-in-Gcd-clause-exact : goal.returns-in-Gcd-clause-exact
returns-in-Gcd-clause-exact c =
    subst (λ e. IfOk c.gcd_ends.result (λ b. IsTrue b ↔ Ends c.args.signature.now c.args.hyps.now c.args.lines.now e)) (sym c.in-Gcd.is) c.gcd_ends.ensures.exact
