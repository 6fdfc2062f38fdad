use Rattle.std.proofs.Common.{◌≡◌, true, take}
use Rattle.std.specs.List.{list_all}
use Rattle.ae_core.specs.Sorts as sorted
use Rattle.ae_calc.proofs.clause_lines.terms_ok.Given as goal

abbrev pub invariant-loop-term : goal.invariant-loop-term
invariant-loop-term l = list_all (sorted.term_ok l.signature) (take l.term-index l.terms) ≡ true
