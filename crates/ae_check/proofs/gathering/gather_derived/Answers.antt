use Rattle.std.proofs.Common.{[], ◌∷◌, refl}
use Rattle.ae_calc.specs.Inner.Mentions.{derived_mentions}
use Rattle.ae_check.proofs.Gathered.{gathered_none, gathered_read, gathered_all}
use Rattle.ae_check.proofs.gathering.gather_derived.Goals as goal

pub loop-line-init : goal.loop-line-init
loop-line-init c = gathered_none _ _ (λ n s. refl)

pub loop-line-preserved : goal.loop-line-preserved
loop-line-preserved c =
    gathered_read (λ n s. derived_mentions n (s ∷ [])) _ _ _ c.args.lines.now c.loop-line.line-index c.line-item.result c.loop-line-test.true c.line-item.is c.loop-line.invariant c.in_ok-gather_stated.ensures

pub returns : goal.returns
returns c = gathered_all (λ n s. derived_mentions n (s ∷ [])) _ _ c.args.lines.now c.loop-line.line-index c.loop-line-test.false c.loop-line.invariant
