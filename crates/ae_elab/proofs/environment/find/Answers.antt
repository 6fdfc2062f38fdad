use Rattle.std.proofs.Common.{◌∙◌, ◌+◌, [], Some, take, sym, ap, subst}
use Rattle.std.proofs.lemmas.Option.{slice_get-get_or}
use Rattle.ae_base.proofs.AllOf.{all_at}
use Rattle.ae_elab.specs.Environments.{IsMeaning, FindsAmong, locals_inside}
use Rattle.ae_elab.proofs.LocalLaws.{found_here, found_before, found_whole}
use Rattle.ae_elab.proofs.environment.find.Goals.{then-eq+in_ok-copy_meaning, else-eq}
use Rattle.ae_elab.proofs.environment.find.Goals as goal

pub loop-local-preserved : goal.loop-local-preserved
loop-local-preserved c es h =
    let ls = c.args.locals.now in
    let i = c.loop-local.local-index in
    let x = c.local-item.result in
    let name = c.args.name.now in
    elim c.if-eq.branch [
      | then-eq+in_ok-copy_meaning w ↦ subst (FindsAmong es (locals_inside es [] (take (i + 1) ls)) name) (sym w.found-is)
          (found_here es name ls i x c.loop-local.found c.loop-local-test.true c.local-item.is w.in_ok-copy_meaning.field-0 w.in_ok-copy_meaning.ensures
          (all_at (λ l. IsMeaning es l.meaning) ls i x h (slice_get-get_or ls i x c.loop-local-test.true ∙ ap Some (sym c.local-item.is))) (sym c.eq.ensures ∙ w.if-eq.true))
      | else-eq w ↦ subst (FindsAmong es (locals_inside es [] (take (i + 1) ls)) name) (sym w.found-is)
          (found_before es name ls i x c.loop-local.found c.loop-local-test.true c.local-item.is (c.loop-local.invariant es h) (sym c.eq.ensures ∙ w.if-eq.false))
    ]

pub returns : goal.returns
returns c es h = found_whole es c.args.name.now c.args.locals.now c.loop-local.local-index c.loop-local.found c.loop-local-test.false (c.loop-local.invariant es h)
