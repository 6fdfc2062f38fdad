use Rattle.std.specs.Prelude.{Bool, true, false, ◌≡◌, ◌↔◌}
use native.Mathlib.Decide.{map_dec}
use Rattle.ae_base.specs.Decided.{decided}
use Rattle.ae_base.proofs.Decided.{decided_of, decided_yes}
use Rattle.ae_core.specs.declared.problems.Signature.{Signature}
use Rattle.ae_journal.specs.declared.systems.System.{System}
use Rattle.ae_decide.specs.Clauses.{RulesFit, AllOverlapsJoin}
use Rattle.ae_system_checks.specs.Tests.{HasTest, HasTestAmong}
use Rattle.ae_system_checks.proofs.Overlaps.{decide_completed, decide_overlaps, decide_joins}
use Rattle.ae_system_checks.proofs.Tests.{decide_terms, decide_leaves, decide_computed, decide_records, decide_congruence, decide_rules, decide_reduction}
use Rattle.ae_system_checks.proofs.laws.completed_can_be_tested.Goals as goal

tested : {P : Signature → System → Type 0} → ((sig : Signature) (y : System) → Dec (P sig y)) → HasTest P
tested d = (λ sig y. decided (d sig y), λ sig y. (decided_yes (d sig y), decided_of (d sig y)))

pub returns-clause-terms : goal.returns-clause-terms
returns-clause-terms c = tested decide_terms

pub returns-clause-leaves : goal.returns-clause-leaves
returns-clause-leaves c = tested decide_leaves

pub returns-clause-computing : goal.returns-clause-computing
returns-clause-computing c = tested decide_computed

pub returns-clause-records : goal.returns-clause-records
returns-clause-records c = tested decide_records

pub returns-clause-congruence : goal.returns-clause-congruence
returns-clause-congruence c = tested decide_congruence

pub returns-clause-rules : goal.returns-clause-rules
returns-clause-rules c = tested decide_rules

pub returns-clause-reduction : goal.returns-clause-reduction
returns-clause-reduction c = tested decide_reduction

-- a test among the systems that have a property which can be tested
among : {Q P : Signature → System → Type 0} → ((sig : Signature) (y : System) → Dec (Q sig y))
    → ((sig : Signature) (y : System) → Q sig y → Dec (P sig y)) → HasTestAmong Q P
among {Q} {P} q d = (λ sig y. test sig y (q sig y), λ sig y h. exact sig y h (q sig y))
  where
    test : (sig : Signature) (y : System) → Dec (Q sig y) → Bool
    test sig y (yes h) = decided (d sig y h)
    test sig y (no n) = false

    exact : (sig : Signature) (y : System) → Q sig y → (e : Dec (Q sig y)) → (test sig y e ≡ true) ↔ P sig y
    exact sig y h (yes g) = (decided_yes (d sig y g), decided_of (d sig y g))
    exact sig y h (no n) = absurd (n h)

pub returns-clause-overlaps : goal.returns-clause-overlaps
returns-clause-overlaps c = among decide_rules decide_overlaps

pub returns-clause-joins : goal.returns-clause-joins
returns-clause-joins c = among both_rules (λ sig y h. decide_joins sig y h.0 h.1)
  where
    with_rules : (sig : Signature) (y : System) → Dec (RulesFit sig y) → Dec (RulesFit sig y × AllOverlapsJoin sig y)
    with_rules sig y (yes r) = map_dec (λ o. (r, o)) (λ p. p.1) (decide_overlaps sig y r)
    with_rules sig y (no n) = no (λ p. n p.0)

    both_rules : (sig : Signature) (y : System) → Dec (RulesFit sig y × AllOverlapsJoin sig y)
    both_rules sig y = with_rules sig y (decide_rules sig y)

pub returns-clause-all : goal.returns-clause-all
returns-clause-all c = tested decide_completed
