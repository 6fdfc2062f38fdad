use Rattle.std.proofs.Common.{◌≡◌, take}
use Rattle.ae_theory.specs.Names.{terms_in}
use Rattle.ae_stories.proofs.telling.names_of.Given as goal

abbrev pub invariant-loop-name : goal.invariant-loop-name
invariant-loop-name l = l.names ≡ take l.name (terms_in l.store)
