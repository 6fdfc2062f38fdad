use Rattle.std.proofs.Common.{sym, ◌∙◌, arith}
use Rattle.ae_matches.specs.Candidates.{is_determined}
use Rattle.ae_matches.proofs.CandidateRules.{all_no}
use Rattle.ae_matches.proofs.testing.are_determined.Goals as goal

pub returns-then-not-is_determined : goal.returns-then-not-is_determined
returns-then-not-is_determined c =
    sym (all_no (is_determined c.args.terms.now c.args.sorts.now) c.args.sort_vars c.loop-number.number (omega (arith, c.loop-number-test.true, c.loop-number.auto.number-end)) (sym c.is_determined.ensures ∙ c.if-not-is_determined.true))
