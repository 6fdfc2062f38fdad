use Rattle.std.proofs.Common.{◌≡◌, ◌++◌, map, drop}
use Rattle.ae_termreader.proofs.heads.type_words.Given as goal

abbrev pub invariant-loop-entry : goal.invariant-loop-entry
invariant-loop-entry l = l.out ++ map (λ e. e.name) (drop l.entry-index l.types) ≡ map (λ e. e.name) l.types
