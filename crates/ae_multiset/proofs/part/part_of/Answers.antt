use Rattle.std.proofs.Common.{◌≤◌, ◌⊎◌, length, inl, inr, arith}
use Rattle.ae_multiset.specs.Multisets.{IsPart}
use Rattle.ae_multiset.proofs.Rising.{rises}
use Rattle.ae_base.proofs.Orders.{cmp_below, cmp_equal, cmp_above}
use Rattle.ae_multiset.proofs.Parts.{by_equality, misses, both_have, passes, lacks, complete}
use Rattle.ae_multiset.proofs.part.part_of.Goals.{then-loop-i-test+else-j-large, else-loop-i-test}
use Rattle.ae_multiset.proofs.part.part_of.Goals as goal

pub returns-in-Less : goal.returns-in-Less
returns-in-Less c =
    misses c.args.small.now c.args.large.now c.loop-i.i c.loop-i.j c.loop-i.invariant (rises c.args.large.now c.requires.large) c.loop-i-test.true c.if-j-large.true (cmp_below _ _ c.in-Less.ensures)

pub loop-i-preserved-in-Equal : goal.loop-i-preserved-in-Equal
loop-i-preserved-in-Equal c = both_have c.args.small.now c.args.large.now c.loop-i.i c.loop-i.j c.loop-i.invariant c.loop-i-test.true c.if-j-large.true (cmp_equal _ _ c.in-Equal.ensures)

pub loop-i-preserved : goal.loop-i-preserved
loop-i-preserved c =
    passes c.args.small.now c.args.large.now c.loop-i.i c.loop-i.j c.loop-i.invariant (rises c.args.small.now c.requires.small) c.loop-i-test.true c.if-j-large.true (cmp_above _ _ c.in-Greater.ensures)

over : (c : goal.Left-loop-i) → (length c.args.small.now ≤ c.loop-i.i) ⊎ (length c.args.large.now ≤ c.loop-i.j)
over c = elim c.loop-i-test.branch [ then-loop-i-test+else-j-large w ↦ inr w.if-j-large.false | else-loop-i-test w ↦ inl w.loop-i-test.false ]

pub returns : goal.returns
returns c =
    by_equality c.loop-i.i (length c.args.small.now) (IsPart c.args.small.now c.args.large.now) (IsPart c.args.small.now c.args.large.now → ⊥)
    (λ e. complete c.args.small.now c.args.large.now c.loop-i.i c.loop-i.j c.loop-i.invariant (omega (arith, e)))
    (λ d. elim (over c) as (λ _. IsPart c.args.small.now c.args.large.now → ⊥) [
      | inl l ↦ absurd (d (omega (arith, c.loop-i.invariant.small_in, l)))
      | inr l ↦ lacks c.args.small.now c.args.large.now c.loop-i.i c.loop-i.j c.loop-i.invariant (omega (arith, c.loop-i.invariant.small_in, d)) l
    ])
