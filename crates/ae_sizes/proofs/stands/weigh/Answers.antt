use Rattle.std.proofs.Common.{arith, ◌≡◌, ◌∙◌, ◌+◌, ◌-◌, drop, get_or, ap}
use Rattle.ae_elab.specs.Nodes.{tree_at, trees_at}
use Rattle.ae_sizes.specs.Inner.Counted.{counted_weight}
use Rattle.ae_sizes.specs.Inner.Weights as own
use Rattle.ae_sizes.specs.Inner.Stands.{stand_of}
use Rattle.ae_sizes.proofs.MeasureLaws.{standing_next}
use Rattle.ae_sizes.proofs.stands.weigh.Goals as goal

pub loop-place-preserved : goal.loop-place-preserved
loop-place-preserved c =
    let p = c.loop-place.place - 1 in
    let ns = c.args.terms.now in
    let g = stand_of c.args.stands in
    let h : c.loop-place.place ≡ p + 1 = omega (arith, c.loop-place-test.true) in
    let low = c.loop-place.invariant.0 in (
      omega arith,
      λ f es q.
          let v = own.standing (g p).times (g p).levels (own.weight c.args.last f (tree_at es (get_or ns p 0))) in
          let w = own.all_standing g (p + 1) (own.weight_list c.args.last f (trees_at es (drop (p + 1) ns))) in
          c.together-weight.ensures v w
          (c.stood-one.ensures (own.weight c.args.last f (tree_at es (get_or ns p 0))) (c.weight_at.ensures f es q))
          (c.loop-place.invariant.1 f es q ∙ ap (λ k. counted_weight (own.all_standing g k (own.weight_list c.args.last f (trees_at es (drop k ns))))) h)
          ∙ ap counted_weight (standing_next c.args.last f g es ns p (omega arith)),
    )
