use Rattle.std.proofs.Common.{ap, ◌∙◌}
use Rattle.std.specs.Prelude.{map}
use Rattle.std.proofs.lemmas.List.{take_all}
use Rattle.ae_journal.specs.States.{at_point}
use Rattle.ae_ineq.proofs.JournalSums.{fraction_at, values_at}
use Rattle.ae_ineq.proofs.solving.fractions.Goals as goal

pub returns : goal.returns
returns c =
    ap at_point (c.loop-at.invariant.so_far ∙ ap (map fraction_at) (take_all c.loop-at.at-index c.args.made.now c.loop-at-test.false))
    ∙ (λ i n. values_at c.args.made.now n i)
