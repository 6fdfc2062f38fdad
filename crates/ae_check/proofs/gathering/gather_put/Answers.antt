use Rattle.std.proofs.Common.{[], ◌∷◌, sym, ap, ◌∙◌}
use Rattle.std.specs.List.{list_any}
use Rattle.std.proofs.lemmas.Result.{on_ok_weaker}
use Rattle.ae_core.specs.declared.formulas.Formula.{out-Formula}
use Rattle.ae_rules.specs.Instances.{count_from, block_sorts}
use Rattle.ae_calc.specs.Inner.Mentions.{mentions}
use Rattle.ae_check.proofs.Gathered.{gathered_as, among_counted}
use Rattle.ae_check.proofs.gathering.gather_put.Goals as goal

pub returns : goal.returns
returns c =
    on_ok_weaker c.gather_terms.result (λ g. gathered_as _ _ _ _ g (λ n s. among_counted n s c.args.first (block_sorts (out-Formula c.args.formula.now))
    ∙ ap (λ ss. list_any (mentions n (s ∷ [])) (count_from c.args.first ss)) (sym c.block_sorts.ensures)
    ∙ ap (list_any (mentions n (s ∷ []))) (sym c.in_ok-put.ensures ∙ sym c.as_slice.ensures))) c.gather_terms.ensures
