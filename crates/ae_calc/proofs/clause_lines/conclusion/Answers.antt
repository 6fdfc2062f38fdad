use Rattle.std.specs.Prelude.{◌≡◌, IfOk}
use Rattle.std.proofs.Common.{sym, ap, ◌∙◌, subst}
use Rattle.ae_base.specs.Options.{only}
use Rattle.ae_rules.specs.Derivations.{clause_of}
use Rattle.ae_calc.proofs.clause_lines.conclusion.Goals as goal

pub returns-then-not-branch : goal.returns-then-not-branch
returns-then-not-branch c =
    let p = c.args.problem.now in let g = c.args.goal in let l = c.args.line.now in
    sym (ap (λ b. only b (clause_of p g l)) (sym c.in_ok-line_ok.ensures ∙ c.if-not-branch.true))

pub returns : goal.returns
returns c =
    let p = c.args.problem.now in let g = c.args.goal in let l = c.args.line.now in
    subst (λ o. IfOk c.clause_of.result (λ found. found ≡ o)) (sym (ap (λ b. only b (clause_of p g l)) (sym c.in_ok-line_ok.ensures ∙ c.if-not-branch.false))) c.clause_of.ensures
