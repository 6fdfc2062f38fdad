use Rattle.std.proofs.Common.{◌≡◌}
use Rattle.ae_multiset.specs.Normal.{reduced_within}
use Rattle.ae_journal.specs.Evaluate.{sides_at}
use Rattle.ae_decide.proofs.NormalForms.{Ends, count_steps, fuel}
use Rattle.ae_decide.proofs.overlaps.normal_form.Given as goal

abbrev pub invariant-steps : goal.invariant-steps
invariant-steps l =
    Ends (sides_at l.symbol.head l.symbol.sorts l.rules) (fuel l.rules l.symbol l.names) l.now
    × (reduced_within (fuel l.rules l.symbol l.names) (sides_at l.symbol.head l.symbol.sorts l.rules) l.now
    ≡ reduced_within (fuel l.rules l.symbol l.names) (sides_at l.symbol.head l.symbol.sorts l.rules) l.names)

abbrev pub decreases-steps : goal.decreases-steps
decreases-steps l = count_steps (sides_at l.symbol.head l.symbol.sorts l.rules) (fuel l.rules l.symbol l.names) l.now
