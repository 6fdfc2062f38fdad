use Rattle.std.proofs.Common.{◌≡◌, ◌∷◌, ◌++◌, [], true, false, sym, ◌∙◌, subst, take}
use Rattle.ae_num.proofs.StepLaws.{same_err}
use Rattle.ae_calc.specs.Reached.{Fit, FirstWide, LineReaches, ProofReaches}
use Rattle.ae_calc.proofs.AllowedLines.{clause_lines_more}
use Rattle.ae_calc.proofs.ProofReach.{fit_more, fit_stop, wide_at}
use Rattle.ae_rules.specs.Derivations.{IsAllowed}
use Rattle.std.proofs.lemmas.List.{take_more}
use Rattle.ae_check.specs.Inner.Knowing.{IsKnown}
use Rattle.ae_check.proofs.Verdicts.{stops_at}
use Rattle.ae_check.proofs.verdict.first_refused.Goals as goal

pub returns-in_err-take_line-clause-wide : goal.returns-in_err-take_line-clause-wide
returns-in_err-take_line-clause-wide c =
    let p = c.args.problem.now in let g = c.args.goal in let ls = c.args.lines.now in let i = c.loop-i.i in let d = c.index-lines-i.result in
    same_err c.from_residual.result c.in_err-take_line.field-0.0 (FirstWide (LineReaches p d)) (FirstWide (ProofReaches p g [] ls)) c.from_residual.ensures.1
    (λ w f. wide_at p g ls i d w c.loop-i-test.true c.loop-i.invariant.allowed c.loop-i.invariant.within (subst (λ l. FirstWide (LineReaches p l) w) c.index-lines-i.is f))
    c.in_err-take_line.ensures.wide

pub returns-then-not-branch-clause-exact : goal.returns-then-not-branch-clause-exact
returns-then-not-branch-clause-exact c =
    let p = c.args.problem.now in let g = c.args.goal in let ls = c.args.lines.now in let i = c.loop-i.i in let d = c.index-lines-i.result in
    stops_at p g ls i d c.loop-i-test.true c.loop-i.invariant.allowed
    (λ a. let q : true ≡ false = sym (c.in_ok-take_line.ensures.exact.1 (subst (IsAllowed p g (take i ls)) (sym c.index-lines-i.is) a)) ∙ c.if-not-branch.true in cc q)

pub returns-then-not-branch-clause-fits : goal.returns-then-not-branch-clause-fits
returns-then-not-branch-clause-fits c =
    let p = c.args.problem.now in let g = c.args.goal in let ls = c.args.lines.now in let i = c.loop-i.i in let d = c.index-lines-i.result in
    fit_stop p g ls i d c.loop-i-test.true c.loop-i.invariant.within (subst (λ l. Fit (LineReaches p l)) c.index-lines-i.is c.in_ok-take_line.ensures.fits)
    (λ a. let q : true ≡ false = sym (c.in_ok-take_line.ensures.exact.1 (subst (IsAllowed p g (take i ls)) (sym c.index-lines-i.is) a)) ∙ c.if-not-branch.true in cc q)

pub loop-i-preserved : goal.loop-i-preserved
loop-i-preserved c =
    let p = c.args.problem.now in let g = c.args.goal in let ls = c.args.lines.now in let i = c.loop-i.i in let d = c.index-lines-i.result in let b = c.loop-i-test.true in
    record {
      allowed = clause_lines_more p g ls i d b c.loop-i.invariant.allowed (subst (IsAllowed p g (take i ls)) c.index-lines-i.is (c.in_ok-take_line.ensures.exact.0 c.if-not-branch.false));
      known = subst (λ z. IsKnown p g z c.take_line.new.known) (sym (take_more ls i d b)) (subst (λ l. IsKnown p g (take i ls ++ l ∷ []) c.take_line.new.known) c.index-lines-i.is (c.in_ok-take_line.ensures.known c.if-not-branch.false));
      within = fit_more p g ls i d b c.loop-i.invariant.within (subst (λ l. Fit (LineReaches p l)) c.index-lines-i.is c.in_ok-take_line.ensures.fits);
    }

pub loop-i-init : goal.loop-i-init
loop-i-init c = record { allowed = tt; within = record { each = λ ss r. absurd r }; known = c.nothing-known.ensures c.args.problem.now c.args.goal }
