use Rattle.std.proofs.Common.{◌≡◌, ◌-◌, ◌≤◌, ℕ, List, ◌++◌, ◌⊎◌, inl, inr, length, drop, sym, ◌∙◌, ap, subst, arith}
use Rattle.std.specs.List.Sorted.{IsNonDecreasing}
use Rattle.std.proofs.lemmas.List.{take_rest}
use Rattle.ae_multiset.specs.Multisets.{count}
use Rattle.ae_multiset.proofs.Counts.{count-minus}
use Rattle.ae_multiset.proofs.Rising.{non_decreasing}
use Rattle.ae_multiset.proofs.Merging.{Merging, begun, ends_by_left, equal_dropped, greater_dropped, less_taken}
use Rattle.ae_multiset.proofs.difference.minus.Goals.{then-loop-i-test+else-j-right, else-loop-i-test}
use Rattle.ae_multiset.proofs.difference.minus.Goals as goal

pub loop-i-init : goal.loop-i-init
loop-i-init c =
    subst (λ (w : List ℕ). Merging (λ m n. m - n) c.args.left.now c.args.right.now w 0 0) (sym c.new-merged.ensures.items)
    (begun (λ m n. m - n) c.args.left.now c.args.right.now c.requires.left c.requires.right)

pub loop-i-preserved-in-Less : goal.loop-i-preserved-in-Less
loop-i-preserved-in-Less c = less_taken (λ m n. m - n) c.args.left.now c.args.right.now c.loop-i.merged.items c.loop-i.i c.loop-i.j c.loop-i.invariant c.loop-i-test.true c.if-j-right.true c.in-Less.ensures (λ k. omega arith) _ c.in_ok-push-in-Less.ensures.items

pub loop-i-preserved-in-Equal : goal.loop-i-preserved-in-Equal
loop-i-preserved-in-Equal c = equal_dropped (λ m n. m - n) c.args.left.now c.args.right.now c.loop-i.merged.items c.loop-i.i c.loop-i.j c.loop-i.invariant c.loop-i-test.true c.if-j-right.true c.in-Equal.ensures (λ k n. omega arith)

pub loop-i-preserved : goal.loop-i-preserved
loop-i-preserved c = greater_dropped (λ m n. m - n) c.args.left.now c.args.right.now c.loop-i.merged.items c.loop-i.i c.loop-i.j c.loop-i.invariant c.loop-i-test.true c.if-j-right.true c.in-Greater.ensures (λ k. omega arith)

over : (c : goal.In_ok-extend_from_slice) → (length c.args.left.now ≤ c.loop-i.i) ⊎ (length c.args.right.now ≤ c.loop-i.j)
over c = elim c.loop-i-test.branch [ then-loop-i-test+else-j-right w ↦ inr w.if-j-right.false | else-loop-i-test w ↦ inl w.loop-i-test.false ]

made : (c : goal.In_ok-extend_from_slice) → c.extend_from_slice.new.self.items ≡ c.loop-i.merged.items ++ drop c.loop-i.i c.args.left.now
made c = c.in_ok-extend_from_slice.ensures.items ∙ ap (λ (w : List ℕ). c.loop-i.merged.items ++ w) (take_rest c.args.left.now c.loop-i.i)

pub returns-clause-names : goal.returns-clause-names
returns-clause-names c = record {
  each = λ x. ap (count x) (made c) ∙ (ends_by_left (λ m n. m - n) c.args.left.now c.args.right.now c.loop-i.merged.items c.loop-i.i c.loop-i.j c.loop-i.invariant (over c) (λ k. omega arith) (λ k. omega arith) x ∙ sym (count-minus x c.args.left.now c.args.right.now));
}

pub returns-clause-rises : goal.returns-clause-rises
returns-clause-rises c = subst IsNonDecreasing (sym (made c)) (non_decreasing (c.loop-i.merged.items ++ drop c.loop-i.i c.args.left.now) c.loop-i.invariant.left_rises)
