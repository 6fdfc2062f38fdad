use Rattle.std.specs.Prelude.{ℕ, List, map}
use Rattle.std.proofs.Common.{◌∙◌, subst, sym}
use Rattle.std.proofs.lemmas.Result.{IfOk-weaker}
use Rattle.ae_core.specs.declared.problems.Problem.{Problem}
use Rattle.ae_rules.specs.Clauses.{Clause}
use Rattle.ae_sure_literals.proofs.Exact.{are_sure}
use Rattle.ae_sure_literals.specs.Inner.Closing.{Closes, is_decision}
use Rattle.ae_sure_literals.specs.Inner.Given.{given_in}
use Rattle.ae_sure_literals.specs.Sure.{AreSure}
use Rattle.ae_sure_literals.proofs.sure.sure_literals.Goals as goal

pub returns : goal.returns
returns c x p g stood holds =
    let t = c.args.trail.now.assigned in
    let js = c.args.lines.now in
    let first = map is_decision t in
    IfOk-weaker c.closed_flags.result (λ fs. Closes t c.as_slice.result.now first fs) (AreSure x js t)
    (λ fs h. are_sure x js t fs c.as_slice-apart.ensures.apart stood holds
    (subst (λ (z : Problem × ℕ). Closes t (given_in z.0 z.1 js) first fs) (λ i. (sym p i, sym g i))
    (subst (λ (ds : List Clause). Closes t ds first fs) (c.as_slice.ensures ∙ c.in_ok-given.ensures) h)))
    c.closed_flags.ensures
