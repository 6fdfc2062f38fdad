use Rattle.std.proofs.Common.{arith, ◌∙◌, List, ap}
use Rattle.std.specs.List.{flat_map}
use Rattle.std.proofs.lemmas.List.{take_all}
use Rattle.ae_core.specs.declared.terms.Term.{Term}
use Rattle.ae_elab.specs.Numbering.{once_more, sorts_in_term}
use Rattle.ae_elaboration.proofs.CollectLaws.{opened, part_next}
use Rattle.ae_elaboration.proofs.numbering.collect_triggers.Goals as goal

pub loop-trigger-preserved : goal.loop-trigger-preserved
loop-trigger-preserved c =
    part_next (flat_map sorts_in_term) c.args.variables.now c.loop-trigger.variables c.collect_terms.new.variables c.args.triggers.now c.loop-trigger.trigger-index c.trigger-item.result
    c.loop-trigger-test.true c.trigger-item.is c.loop-trigger.invariant
    (c.in_ok-collect_terms.ensures ∙ ap (λ (z : List Term). once_more c.loop-trigger.variables (opened (flat_map sorts_in_term z))) c.as_slice.ensures)

pub returns : goal.returns
returns c =
    c.loop-trigger.invariant
    ∙ ap (λ (z : List (List Term)). once_more c.args.variables.now (opened (flat_map (flat_map sorts_in_term) z)))
    (take_all c.loop-trigger.trigger-index c.args.triggers.now (omega (arith, c.loop-trigger-test.false)))
