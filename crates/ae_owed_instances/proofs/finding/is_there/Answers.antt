use Rattle.std.proofs.Common.{List, MatchBool, sym, subst}
use Rattle.std.specs.List.{Contains}
use Rattle.ae_core.specs.declared.formulas.Formula.{Formula}
use Rattle.ae_explain.specs.declared.trail.Assigned.{Assigned}
use Rattle.ae_journal.specs.States.{Owner}
use Rattle.ae_open_states.specs.Shown.{trail_literals}
use Rattle.ae_owed.specs.Owed.{OwnerIsThere}
use Rattle.ae_owed_instances.specs.Inner.Passing.{lit_of}
use Rattle.ae_owners.proofs.Numbers.{literal_of, place_of}
use Rattle.ae_owed_instances.proofs.finding.is_there.Goals as goal

pub returns-in-Some : goal.returns-in-Some
returns-in-Some c = subst (OwnerIsThere (trail_literals c.args.search.now.solver.propagation.trail)) (sym (place_of c.args.owner.now c.in-Some._place c.in-Some.is)) tt

pub returns-in-None : goal.returns-in-None
returns-in-None c =
    let lits = trail_literals c.args.search.now.solver.propagation.trail in
    let r = c.stands.result in
    subst (λ (z : Owner). MatchBool r (OwnerIsThere lits z) (¬ OwnerIsThere lits z)) (sym (literal_of c.args.owner.now c.in-None.is))
    (subst (λ (z : List Assigned × Formula). MatchBool r (Contains (trail_literals z.0) (lit_of c.args.owner.now.positive z.1)) (¬ Contains (trail_literals z.0) (lit_of c.args.owner.now.positive z.1)))
    (λ k. (c.trail.ensures k, c.get.ensures k)) c.stands.ensures)
