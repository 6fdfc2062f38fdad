use Rattle.std.proofs.Common.{[], ◌∷◌, refl}
use Rattle.ae_calc.specs.Inner.Mentions.{formula_mentions}
use Rattle.ae_check.proofs.Gathered.{gathered_none, gathered_read, gathered_all}
use Rattle.ae_check.proofs.gathering.gather_clause.Goals as goal

pub loop-lit-init : goal.loop-lit-init
loop-lit-init c = gathered_none _ _ (λ n s. refl)

pub loop-lit-preserved : goal.loop-lit-preserved
loop-lit-preserved c =
    gathered_read (λ n s. λ l. formula_mentions n (s ∷ []) l.formula) _ _ _ c.args.clause.now c.loop-lit.lit-index c.lit-item.result c.loop-lit-test.true c.lit-item.is c.loop-lit.invariant c.in_ok-gather_formula.ensures

pub returns : goal.returns
returns c = gathered_all (λ n s. λ l. formula_mentions n (s ∷ []) l.formula) _ _ c.args.clause.now c.loop-lit.lit-index c.loop-lit-test.false c.loop-lit.invariant
