use Rattle.std.proofs.Common.{sym, subst, arith}
use Rattle.std.specs.List.{AllByRecursion}
use Rattle.ae_owners.proofs.Numbers.{all_right, before_goal, none_apart, none_below, there_further}
use Rattle.ae_owners.specs.Inner.Places.{AreAxiomsBelow}
use Rattle.ae_owners.specs.Owners.{AreOwnersApart, IsOwnerIn}
use Rattle.ae_owners.proofs.finding.axiom_owners.Goals as goal

pub add_axiom-requires : goal.add_axiom-requires
add_axiom-requires c = record { before = c.loop-place.invariant.3 }

pub loop-place-init : goal.loop-place-init
loop-place-init c =
    let e = sym c.new-owners.ensures in
    (subst (AllByRecursion (IsOwnerIn c.args.problem.now c.args.goal)) e tt, λ k q l e. absurd (omega (arith, l)), subst AreOwnersApart e none_apart, subst (AreAxiomsBelow 0) e none_below)

pub loop-place-preserved : goal.loop-place-preserved
loop-place-preserved c =
    let i = c.loop-place.invariant in
    let a = c.in_ok-add_axiom.ensures in (
      all_right (IsOwnerIn c.args.problem.now c.args.goal) _ _ a.more i.0,
      there_further c.args.problem.now c.args.goal c.loop-place.place (IsOwnerIn c.args.problem.now c.args.goal) _ _ i.1 a.more a.own,
      a.apart i.2,
      a.next,
    )

pub returns : goal.returns
returns c = record { right = c.loop-place.invariant.0; all = λ k q e. c.loop-place.invariant.1 k q (let l = before_goal c.args.problem.now c.args.goal k q e in omega (arith, l)) e; apart = c.loop-place.invariant.2 }
