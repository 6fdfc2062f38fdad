use Rattle.std.proofs.Common.{◌≡◌, take, map, []}
use Rattle.ae_rules.specs.Clauses.{is_true}
use Rattle.ae_core.specs.declared.formulas.Formula.{Eq}
use Rattle.ae_core.specs.declared.terms.Term.{Apply}
use Rattle.ae_data.proofs.enumerations.is_one_of.Given as goal

abbrev pub invariant-loop-head : goal.invariant-loop-head
invariant-loop-head l = l.clause ≡ map (λ h. is_true (Eq l.term (Apply h [] []))) (take l.head-index l.heads)
