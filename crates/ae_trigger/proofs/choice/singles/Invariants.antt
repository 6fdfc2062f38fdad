use Rattle.std.proofs.Common.{◌≡◌, take, map, [], ◌∷◌}
use Rattle.ae_trigger.proofs.choice.singles.Given as goal

abbrev pub invariant-loop-term : goal.invariant-loop-term
invariant-loop-term l = l.triggers ≡ map (λ u. u ∷ []) (take l.term-index l.terms)
