use Rattle.std.proofs.Common.{◌≡◌, ◌↔◌, IsTrue, IfOk, subst}
use Rattle.std.proofs.lemmas.Result.{IfOk-weaker}
use Rattle.ae_rules.specs.Derivations.{AreNew}
use Rattle.ae_rules.specs.Instances.{block_sorts}
use Rattle.ae_core.specs.declared.formulas.Formula.{out-Formula}
use Rattle.ae_calc.specs.Inner.Mentions.{no_mention}
use Rattle.ae_calc.proofs.Novelty.{new_where}
use Rattle.ae_calc.proofs.fresh.are_new.Goals as goal

pub returns : goal.returns
returns c =
    let p = c.args.problem.now in
    let g = c.args.goal in
    let ls = c.args.earlier.now in
    let m = c.args.first in
    let f = c.args.formula.now in
    let known : IfOk c.are_unmentioned.result (λ b. b ≡ no_mention p g ls m (block_sorts (out-Formula f)) f) =
    subst (λ ss. IfOk c.are_unmentioned.result (λ b. b ≡ no_mention p g ls m ss f)) c.block_sorts-sorts.ensures c.are_unmentioned.ensures in
    IfOk-weaker c.are_unmentioned.result (λ b. b ≡ no_mention p g ls m (block_sorts (out-Formula f)) f) (λ b. IsTrue b ↔ AreNew p g ls m f)
    (λ b e. new_where p g ls m (block_sorts (out-Formula f)) f b e) known
