use Rattle.std.specs.List.{AllByRecursion}
use Rattle.std.proofs.Common.{sym, subst}
use Rattle.ae_base.proofs.AllOf.{all_append}
use Rattle.ae_journal.specs.Ground.{IsGroundLine}
use Rattle.ae_ground_proofs.proofs.Chosen.{before_ground, names_ground, own_signature}
use Rattle.ae_ground_proofs.proofs.Derived.{first_lines, choice_lines, derived_ground}
use Rattle.ae_ground_proofs.proofs.Formulas.{with_parts}
use Rattle.ae_theory.specs.Names.{terms_in}
use Rattle.ae_ground_proofs.proofs.laws.refutations_are_ground.Goals as goal

pub returns : goal.returns
returns c = λ p g firsts first old before s lines clauses law reach ground begun same empty n adds proof over d.
    let w = with_parts p g reach ground law firsts first begun old before same empty n s lines clauses adds in
    let begins = subst (AllByRecursion (IsGroundLine p g)) (sym adds.lines_are)
    (all_append (IsGroundLine p g) firsts adds.more_lines (first_lines p g firsts first begun.states)
    (choice_lines p g (terms_in before) (before_ground p g firsts first begun old before same empty n law reach ground) adds.more_lines adds.more adds.states)) in
    derived_ground p g law ground s (own_signature p g firsts first begun old before same empty n s lines clauses adds) (names_ground p g firsts first begun old before same empty n s lines clauses adds law reach ground)
    w.0 w.3 lines proof begins (over w.0 w.1 w.2) d
