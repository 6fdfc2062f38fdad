-- Orders in a trail.
use Rattle.std.specs.Prelude.{◌⊎◌, List}
use Rattle.ae_core.specs.declared.formulas.Formula.{Eq, Lt}
use Rattle.ae_core.specs.declared.terms.Term.{Term}
use Rattle.ae_explain.specs.declared.trail.Assigned.{Assigned}
use Rattle.ae_propagation.specs.Settled.{Holds}
use Rattle.ae_rules.specs.Clauses.{is_true, is_false}

-- of two terms of which it is denied that they are equal and that the one is below the other, the other is below the one
abbrev pub AreOrdered : List Assigned → Type 0
AreOrdered t = (s u : Term) → Holds t (is_false (Eq s u)) ⊎ Holds t (is_false (Eq u s)) → Holds t (is_false (Lt s u)) → Holds t (is_true (Lt u s))
