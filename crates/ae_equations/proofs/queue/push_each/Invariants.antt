use Rattle.ae_pmap.specs.Forest.{Lasts as MapLasts}
use Rattle.ae_equations.proofs.QueueLaws.{IsPushing}
use Rattle.ae_equations.proofs.queue.push_each.Given as goal

abbrev pub invariant-loop-pair : goal.invariant-loop-pair
invariant-loop-pair l = IsPushing l.initial.queue l.queue l.pairs l.pair-index × MapLasts l.initial.queue.places l.queue.places
