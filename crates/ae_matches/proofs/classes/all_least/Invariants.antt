use Rattle.std.proofs.Common.{take, length}
use Rattle.ae_matches.specs.Classes.{AreLeast}
use Rattle.ae_matches.proofs.classes.all_least.Given as goal

abbrev pub invariant-loop-name : goal.invariant-loop-name
invariant-loop-name g l = AreLeast (g.E.Equalities.alike l.equalities) (length l.store.nodes) (take l.name-index l.names) l.all
