-- Literals that say of two numbers that the one isn't above the other.
use Rattle.std.specs.Prelude.{true, false, List}
use Rattle.std.proofs.Common.{ap}
use Rattle.ae_core.specs.declared.formulas.Formula.{Le, Lt}
use Rattle.ae_core.specs.declared.formulas.Formula.TheVariants.{outs-Le, outs-Lt}
use Rattle.ae_explain.specs.declared.trail.Assigned.{Assigned}
use Rattle.ae_journal.specs.States.{inequality_of}
use Rattle.ae_ordered_rounds.specs.Inner.Orderable.{IsTrueInequality}
use Rattle.ae_propagation.specs.Settled.{Holds}
use Rattle.ae_rules.specs.Clauses.{is_false, is_true}
use Rattle.ae_tight_sides.specs.declared.sides.Sides.{Sides}

pub denied_weak : (t : List Assigned) (both : Sides) → Holds t (is_false (Lt both.right both.left)) → IsTrueInequality t both
denied_weak t both h = record { literal = is_false (Lt both.right both.left); strict = false; holds = h; is = ap (inequality_of false) (outs-Lt both.right both.left) }

pub said_weak : (t : List Assigned) (both : Sides) → Holds t (is_true (Le both.left both.right)) → IsTrueInequality t both
said_weak t both h = record { literal = is_true (Le both.left both.right); strict = false; holds = h; is = ap (inequality_of true) (outs-Le both.left both.right) }
