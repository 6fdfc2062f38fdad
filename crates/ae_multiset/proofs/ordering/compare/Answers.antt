use Rattle.std.proofs.Common.{◌≡◌, ◌-◌, ℕ, suc, drop, length, inr, sym, subst, arith}
use Rattle.ae_multiset.proofs.Compares.{lower_at}
use Rattle.ae_multiset.proofs.Rising.{rises}
use Rattle.ae_multiset.proofs.ordering.compare.Goals as goal

pub returns-then-left-i : goal.returns-then-left-i
returns-then-left-i c =
    let l : length c.args.left.now ≡ length c.args.right.now = omega (arith, c.if-left-right.false, c.if-right-left.false) in
    let e : c.loop-i.i ≡ suc (c.loop-i.i - 1) = omega arith in
    inr (
      l,
      lower_at c.args.left.now c.args.right.now (c.loop-i.i - 1) (rises c.args.left.now c.requires.left) (rises c.args.right.now c.requires.right) (omega (arith, c.loop-i.invariant.inside)) (omega (arith, c.loop-i.invariant.inside))
          (subst (λ (w : ℕ). drop w c.args.left.now ≡ drop w c.args.right.now) e c.loop-i.invariant.same) c.if-left-i.true,
    )

pub returns-then-right-i : goal.returns-then-right-i
returns-then-right-i c =
    let l : length c.args.right.now ≡ length c.args.left.now = omega (arith, c.if-left-right.false, c.if-right-left.false) in
    let e : c.loop-i.i ≡ suc (c.loop-i.i - 1) = omega arith in
    inr (
      l,
      lower_at c.args.right.now c.args.left.now (c.loop-i.i - 1) (rises c.args.right.now c.requires.right) (rises c.args.left.now c.requires.left) (omega (arith, c.loop-i.invariant.inside)) (omega (arith, c.loop-i.invariant.inside))
          (subst (λ (w : ℕ). drop w c.args.right.now ≡ drop w c.args.left.now) e (sym c.loop-i.invariant.same)) c.if-right-i.true,
    )
