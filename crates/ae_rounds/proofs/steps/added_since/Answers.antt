use Rattle.std.proofs.Common.{refl, arith}
use Rattle.ae_rounds.proofs.steps.added_since.Goals as goal

pub returns-then-counted-before : goal.returns-then-counted-before
returns-then-counted-before c = record { lines = λ more. refl; same = λ few. absurd (omega (arith, few, c.counted.ensures.count, c.if-counted-before.true)) }

pub returns : goal.returns
returns c = record { lines = λ more. absurd (omega (arith, more, c.counted.ensures.count, c.if-counted-before.false)); same = λ few. refl }
