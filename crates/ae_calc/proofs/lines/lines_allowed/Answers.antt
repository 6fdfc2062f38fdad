use Rattle.std.proofs.Common.{◌≡◌, true, false, sym, ◌∙◌, subst, take, get_or, [], Some, None}
use Rattle.ae_rules.specs.Lines.{AllAllowed, fact_ok}
use Rattle.ae_rules.specs.Derivations.{Ends}
use Rattle.ae_num.specs.Forms.{first_wide}
use Rattle.ae_numeric.specs.Stated.{line_steps, ending_steps}
use Rattle.ae_calc.specs.Reached.{Fit, FirstWide, IsLineAllowed, BlockReaches}
use Rattle.std.proofs.lemmas.List.{take_all}
use Rattle.ae_calc.proofs.AllowedLines.{lines_more, lines_stop}
use Rattle.std.proofs.lemmas.Result.{on_ok_weaker}
use Rattle.ae_calc.proofs.BlockReach.{fit_more, reach_more, reach_here, fit_end, reach_end, and_known, err_then}
use Rattle.ae_num.proofs.StepLaws.{same_err}
use Rattle.ae_calc.proofs.lines.lines_allowed.Goals as goal

pub loop-i-preserved : goal.loop-i-preserved
loop-i-preserved c =
    let sig = c.args.signature.now in let hyps = c.args.hyps.now in let ls = c.args.lines.now in let i = c.loop-i.i in let d = c.index-lines-i.result in let b = c.loop-i-test.true in
    let allowed : IsLineAllowed sig hyps (take i ls) (get_or ls i d) = subst (IsLineAllowed sig hyps (take i ls)) c.index-lines-i.is (c.in_ok-line_allowed.ensures.exact.0 c.if-not-branch.false) in
    let fits : first_wide (line_steps sig (take i ls) (get_or ls i d)) ≡ None = subst (λ l. first_wide (line_steps sig (take i ls) l) ≡ None) c.index-lines-i.is c.in_ok-line_allowed.ensures.fits in
    record {
      all = lines_more sig hyps ls i d b c.loop-i.invariant.all allowed;
      within = λ h. c.loop-i.invariant.within (fit_more sig hyps c.args.ending.now ls i d b fits (λ a. h));
      reached = λ ss h. c.loop-i.invariant.reached ss (reach_more sig hyps c.args.ending.now ls i d b ss fits allowed h);
    }

pub returns-then-not-branch-clause-exact : goal.returns-then-not-branch-clause-exact
returns-then-not-branch-clause-exact c =
    let sig = c.args.signature.now in let hyps = c.args.hyps.now in let ls = c.args.lines.now in let i = c.loop-i.i in let d = c.index-lines-i.result in
    let stopped : ¬ (IsLineAllowed sig hyps (take i ls) (get_or ls i d)) =
    λ a. let p : true ≡ false = sym (c.in_ok-line_allowed.ensures.exact.1 (subst (IsLineAllowed sig hyps (take i ls)) (sym c.index-lines-i.is) a)) ∙ c.if-not-branch.true in cc p in
    (λ t. let p : false ≡ true = t in cc p, λ a. absurd (lines_stop sig hyps ls i d c.loop-i-test.true stopped a.0))

pub returns-clause-exact : goal.returns-clause-exact
returns-clause-exact c =
    let sig = c.args.signature.now in let hyps = c.args.hyps.now in let ls = c.args.lines.now in
    let all = subst (AllAllowed sig (fact_ok sig) hyps []) (take_all c.loop-i.i ls c.loop-i-test.false) c.loop-i.invariant.all in
    and_known c.ends.result (AllAllowed sig (fact_ok sig) hyps [] ls) (Ends sig hyps ls c.args.ending.now) all c.ends.ensures.exact

pub returns-then-not-branch-clause-fits : goal.returns-then-not-branch-clause-fits
returns-then-not-branch-clause-fits c =
    let sig = c.args.signature.now in let hyps = c.args.hyps.now in let ls = c.args.lines.now in let i = c.loop-i.i in let d = c.index-lines-i.result in
    let stopped : ¬ (IsLineAllowed sig hyps (take i ls) (get_or ls i d)) =
    λ a. let p : true ≡ false = sym (c.in_ok-line_allowed.ensures.exact.1 (subst (IsLineAllowed sig hyps (take i ls)) (sym c.index-lines-i.is) a)) ∙ c.if-not-branch.true in cc p in
    let fits : first_wide (line_steps sig (take i ls) (get_or ls i d)) ≡ None = subst (λ l. first_wide (line_steps sig (take i ls) l) ≡ None) c.index-lines-i.is c.in_ok-line_allowed.ensures.fits in
    c.loop-i.invariant.within (fit_more sig hyps c.args.ending.now ls i d c.loop-i-test.true fits (λ a. absurd (stopped a)))

pub returns-in_err-line_allowed-clause-wide : goal.returns-in_err-line_allowed-clause-wide
returns-in_err-line_allowed-clause-wide c =
    let sig = c.args.signature.now in let hyps = c.args.hyps.now in let ls = c.args.lines.now in let e = c.args.ending.now in let i = c.loop-i.i in let d = c.index-lines-i.result in
    same_err c.from_residual.result c.in_err-line_allowed.field-0.0 (λ w. first_wide (line_steps sig (take i ls) d) ≡ Some w) (FirstWide (BlockReaches sig hyps e [] ls)) c.from_residual.ensures.1
    (λ w f. record {
      steps = line_steps sig (take i ls) (get_or ls i d);
      reached = c.loop-i.invariant.reached (line_steps sig (take i ls) (get_or ls i d)) (reach_here sig hyps e ls i d c.loop-i-test.true);
      first = subst (λ l. first_wide (line_steps sig (take i ls) l) ≡ Some w) c.index-lines-i.is f;
    })
    c.in_err-line_allowed.ensures.wide

pub returns-clause-fits : goal.returns-clause-fits
returns-clause-fits c =
    let sig = c.args.signature.now in let hyps = c.args.hyps.now in let ls = c.args.lines.now in let e = c.args.ending.now in
    on_ok_weaker {P = first_wide (ending_steps sig ls e) ≡ None} {Q = Fit (BlockReaches sig hyps e [] ls)} c.ends.result
    (λ f. c.loop-i.invariant.within (fit_end sig hyps e ls c.loop-i.i c.loop-i-test.false f)) c.ends.ensures.fits

pub returns-clause-wide : goal.returns-clause-wide
returns-clause-wide c =
    let sig = c.args.signature.now in let hyps = c.args.hyps.now in let ls = c.args.lines.now in let e = c.args.ending.now in
    err_then c.ends.result (λ w. first_wide (ending_steps sig ls e) ≡ Some w) (FirstWide (BlockReaches sig hyps e [] ls))
    (λ w f. record { steps = ending_steps sig ls e; reached = c.loop-i.invariant.reached (ending_steps sig ls e) (reach_end sig hyps e ls c.loop-i.i c.loop-i-test.false); first = f }) c.ends.ensures.wide
