use Rattle.std.specs.Prelude.{◌<◌, ◌^◌}
use Rattle.std.specs.List.{AllByRecursion}
use Rattle.std.proofs.Common.{arith, subst}
use Rattle.std.proofs.lemmas.List.{take_all}
use Rattle.ae_journal.specs.declared.systems.PointAt.{PointAt}
use Rattle.ae_ordered_rounds.proofs.Fractions.{all_taken}
use Rattle.ae_ordered_rounds.proofs.ordering.names_fit.Goals as goal

pub loop-at-preserved : goal.loop-at-preserved
loop-at-preserved c = all_taken (λ (q : PointAt). q.name < 2 ^ 64) c.args.made.now c.loop-at.at-index _ c.loop-at-test.true c.loop-at.invariant c.name_fits.ensures

pub returns : goal.returns
returns c = subst (AllByRecursion (λ (q : PointAt). q.name < 2 ^ 64)) (take_all c.loop-at.at-index c.args.made.now (let t = c.loop-at-test.false in omega (arith, t))) c.loop-at.invariant
