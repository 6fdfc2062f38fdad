use Rattle.std.specs.Prelude.{fold}
use Rattle.std.proofs.Common.{arith, rules, sym, ap, ◌∙◌}
use Rattle.std.proofs.lemmas.List.{take_all}
use Rattle.ae_bounds.specs.Inner.Directions.{part_written}
use Rattle.ae_bounds.proofs.Feeding.{each_more}
use Rattle.ae_bounds.proofs.directions.hash_parts.Goals as goal

pub loop-i-preserved : goal.loop-i-preserved
loop-i-preserved g c =
    let t = c.loop-i-test.true in
    let x = c.part_at-part.result.now in (
      omega (arith, t),
      c.hash_part.ensures ∙ ap (λ s. fold g.H.Hasher.write s (part_written x)) (c.loop-i.invariant.1)
          ∙ sym (each_more g.H.Hasher.write part_written c.args.state.now c.args.parts.now c.loop-i.i x c.part_at-part.ensures),
    )

pub returns : goal.returns
returns g c = search (rules, take_all)
