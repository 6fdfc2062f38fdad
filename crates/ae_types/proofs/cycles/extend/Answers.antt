use Rattle.std.proofs.Common.{◌∙◌, ap, arith, length, length-append, [], ◌∷◌}
use Rattle.ae_types.specs.declared.cycles.Mark.TheVariants.{New}
use Rattle.ae_types.specs.Inner.Walks.{mark_at}
use Rattle.ae_types.proofs.WalkLaws.{new_more}
use Rattle.ae_types.proofs.cycles.extend.Goals as goal

pub loop-place-preserved : goal.loop-place-preserved
loop-place-preserved c =
    let i = c.loop-place.invariant in
    let e = c.in_ok-push.ensures.ok in
    let m = ap length e ∙ length-append c.loop-place.marks (New ∷ []) in
    record {
      new = λ k. ap (λ ms. mark_at ms k) e ∙ new_more c.loop-place.marks i.new k;
      size = omega (arith, m, i.size);
    }
