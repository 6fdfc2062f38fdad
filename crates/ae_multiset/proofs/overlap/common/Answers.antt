use Rattle.std.proofs.Common.{min, ◌≤◌, ℕ, List, ◌⊎◌, inl, inr, length, drop, sym, ◌∙◌, subst, arith}
use Rattle.ae_multiset.proofs.Counts.{count-common}
use Rattle.ae_multiset.proofs.Rising.{non_decreasing}
use Rattle.ae_multiset.proofs.Merging.{Merging, begun, ends, equal_taken, greater_dropped, less_dropped, rises_front}
use Rattle.ae_multiset.proofs.overlap.common.Goals.{then-loop-i-test+else-j-right, else-loop-i-test}
use Rattle.ae_multiset.proofs.overlap.common.Goals as goal

pub loop-i-init : goal.loop-i-init
loop-i-init c =
    subst (λ (w : List ℕ). Merging min c.args.left.now c.args.right.now w 0 0) (sym c.new-merged.ensures.items)
    (begun min c.args.left.now c.args.right.now c.requires.left c.requires.right)

pub loop-i-preserved-in-Less : goal.loop-i-preserved-in-Less
loop-i-preserved-in-Less c = less_dropped min c.args.left.now c.args.right.now c.loop-i.merged.items c.loop-i.i c.loop-i.j c.loop-i.invariant c.loop-i-test.true c.if-j-right.true c.in-Less.ensures (λ k. omega arith)

pub loop-i-preserved-in-Equal : goal.loop-i-preserved-in-Equal
loop-i-preserved-in-Equal c = equal_taken min c.args.left.now c.args.right.now c.loop-i.merged.items c.loop-i.i c.loop-i.j c.loop-i.invariant c.loop-i-test.true c.if-j-right.true c.in-Equal.ensures (λ k n. omega arith) _ c.in_ok-push-in-Equal.ensures.items

pub loop-i-preserved : goal.loop-i-preserved
loop-i-preserved c = greater_dropped min c.args.left.now c.args.right.now c.loop-i.merged.items c.loop-i.i c.loop-i.j c.loop-i.invariant c.loop-i-test.true c.if-j-right.true c.in-Greater.ensures (λ k. omega arith)

over : (c : goal.Left-loop-i) → (length c.args.left.now ≤ c.loop-i.i) ⊎ (length c.args.right.now ≤ c.loop-i.j)
over c = elim c.loop-i-test.branch [ then-loop-i-test+else-j-right w ↦ inr w.if-j-right.false | else-loop-i-test w ↦ inl w.loop-i-test.false ]

pub returns-clause-names : goal.returns-clause-names
returns-clause-names c = record { each = λ x. ends min c.args.left.now c.args.right.now c.loop-i.merged.items c.loop-i.i c.loop-i.j c.loop-i.invariant (over c) (λ k. omega arith) (λ k. omega arith) x ∙ sym (count-common x c.args.left.now c.args.right.now) }

pub returns-clause-rises : goal.returns-clause-rises
returns-clause-rises c = non_decreasing c.loop-i.merged.items (rises_front c.loop-i.merged.items (drop c.loop-i.i c.args.left.now) c.loop-i.invariant.left_rises)
