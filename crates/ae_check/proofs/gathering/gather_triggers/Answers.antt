use Rattle.std.proofs.Common.{[], ◌∷◌, refl, sym, ap}
use Rattle.std.specs.List.{list_any}
use Rattle.ae_calc.specs.Inner.Mentions.{mentions}
use Rattle.ae_check.proofs.Gathered.{gathered_none, gathered_as, gathered_read, gathered_all}
use Rattle.ae_check.proofs.gathering.gather_triggers.Goals as goal

pub loop-trigger-init : goal.loop-trigger-init
loop-trigger-init c = gathered_none _ _ (λ n s. refl)

pub loop-trigger-preserved : goal.loop-trigger-preserved
loop-trigger-preserved c =
    gathered_read (λ n s. list_any (mentions n (s ∷ []))) _ _ _ c.args.triggers.now c.loop-trigger.trigger-index c.trigger-item.result c.loop-trigger-test.true c.trigger-item.is c.loop-trigger.invariant
    (gathered_as _ _ _ _ c.in_ok-gather_terms.ensures (λ n s. ap (list_any (mentions n (s ∷ []))) (sym c.as_slice.ensures)))

pub returns : goal.returns
returns c = gathered_all (λ n s. list_any (mentions n (s ∷ []))) _ _ c.args.triggers.now c.loop-trigger.trigger-index c.loop-trigger-test.false c.loop-trigger.invariant
