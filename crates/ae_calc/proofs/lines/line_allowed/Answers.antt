use Rattle.std.proofs.Common.{◌≡◌, true, false, sym, ap, ◌∙◌}
use Rattle.ae_rules.specs.Lines.{Allowed, fact_ok, states}
use Rattle.ae_calc.proofs.BlockReach.{unsorted_fits, and_known}
use Rattle.ae_calc.proofs.lines.line_allowed.Goals as goal

pub returns-then-not-branch-clause-fits : goal.returns-then-not-branch-clause-fits
returns-then-not-branch-clause-fits c =
    let sig = c.args.signature.now in
    let unsorted : fact_ok sig (states c.args.line.now) ≡ false = ap (fact_ok sig) c.stated-relation.ensures ∙ sym c.in_ok-fact_is_ok.ensures ∙ c.if-not-branch.true in
    unsorted_fits sig c.args.earlier.now c.args.line.now unsorted

pub returns-clause-wide : goal.returns-clause-wide
returns-clause-wide c = c.rule_allows.ensures.wide

pub returns-clause-fits : goal.returns-clause-fits
returns-clause-fits c = c.rule_allows.ensures.fits

pub returns-clause-exact : goal.returns-clause-exact
returns-clause-exact c =
    let sig = c.args.signature.now in
    let sorted : fact_ok sig (states c.args.line.now) ≡ true = ap (fact_ok sig) c.stated-relation.ensures ∙ sym c.in_ok-fact_is_ok.ensures ∙ c.if-not-branch.false in
    and_known c.rule_allows.result (fact_ok sig (states c.args.line.now) ≡ true) (Allowed sig c.args.hyps.now c.args.earlier.now c.args.line.now) sorted c.rule_allows.ensures.exact
