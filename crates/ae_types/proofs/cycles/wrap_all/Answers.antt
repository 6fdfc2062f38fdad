use Rattle.std.proofs.Common.{◌≡◌, ◌≢◌, ◌-◌, ◌+◌, sym, subst, arith}
use Rattle.ae_core.specs.declared.terms.Sort.{Var}
use Rattle.ae_types.specs.Inner.Graphs.{slot_at, slots_of}
use Rattle.ae_types.specs.Inner.Walks.{frame_at, begin, Wraps}
use Rattle.ae_types.proofs.CycleLaws.{wraps_none, wraps_more, wrap_built}
use Rattle.ae_types.proofs.cycles.wrap_all.Goals as goal

pub loop-at-init : goal.loop-at-init
loop-at-init c = record {
  above = c.requires.order;
  below = omega arith;
  wraps = λ end r. wraps_none c.args.nodes.now c.args.classes.now c.args.path.now c.args.to end c.args.inner;
  built = λ h. absurd (omega arith);
}

pub loop-at-preserved : goal.loop-at-preserved
loop-at-preserved c =
    let i = c.loop-at.invariant in
    let t = c.loop-at-test.true in
    let b = i.below in
    let k = c.loop-at.at - 1 in
    let e : c.loop-at.at ≡ c.loop-at.at - 1 + 1 = omega arith in
    let s = slot_at (slots_of c.args.nodes.now c.args.classes.now) (frame_at c.args.path.now (c.loop-at.at - 1)).place in
    record {
      above = omega arith;
      below = omega arith;
      wraps = λ end r.
          subst (Wraps c.args.nodes.now c.args.classes.now (begin c.args.path.now (c.loop-at.at - 1) c.args.to end) end c.args.inner) (sym c.in_ok-sort.ensures)
          (wraps_more c.args.nodes.now c.args.classes.now c.args.path.now c.args.from (c.loop-at.at - 1) c.args.to end c.args.inner c.loop-at.sort (omega arith) (omega arith) c.requires.parts r
          (subst (λ j. Wraps c.args.nodes.now c.args.classes.now (begin c.args.path.now j c.args.to end) end c.args.inner c.loop-at.sort) e (i.wraps end r)));
      built = λ h q n. subst (λ x. x ≢ Var n) (sym c.in_ok-sort.ensures)
          (wrap_built c.args.nodes.now s (frame_at c.args.path.now (c.loop-at.at - 1)).next n c.loop-at.sort q);
    }
