use Rattle.std.proofs.Common.{arith, ◌∙◌, subst}
use Rattle.ae_base.proofs.ListFacts.{value_at}
use Rattle.ae_bound_blocks.specs.Ancestors.{itself, parent}
use Rattle.ae_bound_solve.specs.Inner.Sorts.{IsFirstParent}
use Rattle.ae_bound_solve.proofs.OneSort.{first_before, last_assumed}
use Rattle.ae_bound_solve.proofs.sorts.is_real.Goals as goal

pub down-init : goal.down-init
down-init c = record { ancestor = itself; within = c.requires.place; next = c.parent_at-parent.ensures }

pub down-smaller : goal.down-smaller
down-smaller c =
    let i = c.down.invariant in
    let at = value_at c.args.rows.now c.down.at i.within in
    (first_before c.args.rows.now c.requires.founded c.down.at c.in-Some.next at.0 at.1 (subst (IsFirstParent at.0.from) c.in-Some.is (i.next at.0 at.1))).0

pub parent_at-parent-requires-in-Some : goal.parent_at-parent-requires-in-Some
parent_at-parent-requires-in-Some c =
    let i = c.down.invariant in
    let at = value_at c.args.rows.now c.down.at i.within in
    let l = (first_before c.args.rows.now c.requires.founded c.down.at c.in-Some.next at.0 at.1 (subst (IsFirstParent at.0.from) c.in-Some.is (i.next at.0 at.1))).0 in
    let w = i.within in
    omega (arith, l, w)

pub down-preserved : goal.down-preserved
down-preserved c =
    let i = c.down.invariant in
    let at = value_at c.args.rows.now c.down.at i.within in
    let h = first_before c.args.rows.now c.requires.founded c.down.at c.in-Some.next at.0 at.1 (subst (IsFirstParent at.0.from) c.in-Some.is (i.next at.0 at.1)) in
    let l = h.0 in
    let w = i.within in
    record { ancestor = parent c.down.at c.in-Some.next i.ancestor h.1; within = omega (arith, l, w); next = c.parent_at-parent-in-Some.ensures }

pub given_sort-requires-clause-place : goal.given_sort-requires-clause-place
given_sort-requires-clause-place c = c.down.invariant.within

pub returns : goal.returns
returns c real h =
    let i = c.down.invariant in
    let at = value_at c.args.rows.now c.down.at i.within in
    let f = last_assumed at.0 (subst (IsFirstParent at.0.from) c.in_default.is (i.next at.0 at.1)) in
    let g = value_at c.args.given.now f.0 (c.requires.given c.down.at f.0 at.0 at.1 f.1) in
    c.given_sort.ensures at.0 f.0 g.0 at.1 f.1 g.1 ∙ h c.down.at f.0 at.0 g.0 i.ancestor at.1 f.1 g.1
