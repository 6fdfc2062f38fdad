-- Tests of a problem: its hypotheses, and the goal's negation.
use Rattle.std.specs.Prelude.{ℕ, zero, suc, Bool, true, not, ◌&&◌, List, [], length, Option, Some, None}
use Rattle.std.specs.List.{list_all}
use Rattle.ae_base.specs.Options.{known}
use Rattle.ae_core.specs.declared.formulas.Formula.{Formula}
use Rattle.ae_core.specs.declared.formulas.Lit.{Lit}
use Rattle.ae_core.specs.declared.problems.Problem.{Problem}
use Rattle.ae_rules.specs.Clauses.{stands, yes_of, no_of}
use Rattle.ae_rules.specs.Derivations.{goal_body}
use Rattle.ae_rules.specs.Instances.{hypothesis}
use Rattle.ae_journal.specs.States.{of_axiom, pattern_of}
use Rattle.ae_journal.specs.declared.systems.Saturated.{Saturated}
use Rattle.ae_saturated.specs.Literals.{is_closed}

abbrev pub yes_stands : List Lit → Option Formula → Bool
yes_stands ls (Some f) = stands ls (yes_of f)
yes_stands ls None = true

abbrev pub no_stands : List Lit → Option Formula → Bool
no_stands ls (Some f) = stands ls (no_of f)
no_stands ls None = true

-- the hypotheses without type variables among the first n items stand
abbrev pub hypotheses_stand : Problem → ℕ → List Lit → ℕ → Bool
hypotheses_stand p g ls zero = true
hypotheses_stand p g ls (suc k) = yes_stands ls (hypothesis p g k []) && hypotheses_stand p g ls k

abbrev pub firsts_stand : Problem → ℕ → List Lit → Bool
firsts_stand p g ls = hypotheses_stand p g ls (length p.items) && no_stands ls (goal_body p g)

-- none of the first n items is an axiom with type variables before the goal
abbrev pub none_generic : Problem → ℕ → ℕ → Bool
none_generic p g zero = true
none_generic p g (suc k) = not (known (pattern_of p g (of_axiom k))) && none_generic p g k

-- nothing is quantified
abbrev pub is_closed_state : Problem → ℕ → Saturated → Bool
is_closed_state p g st = list_all is_closed st.literals && none_generic p g (length p.items)
