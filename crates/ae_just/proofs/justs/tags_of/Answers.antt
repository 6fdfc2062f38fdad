use Rattle.std.proofs.Common.{◌∙◌, ap, sym, ◌++◌, length}
use Rattle.ae_just.specs.declared.steps.Step.{Step}
use Rattle.ae_just.specs.Steps.{tag_of}
use Rattle.ae_just.proofs.NeededLaws.{within_at}
use Rattle.ae_just.proofs.EmitLaws.{tags_turn}
use Rattle.ae_just.proofs.justs.tags_of.Goals as goal

pub loop-step-preserved : goal.loop-step-preserved
loop-step-preserved c =
    tags_turn c.args.steps.now c.args.needed.now c.loop-step.step-index _ c.index-steps-step.result c.loop-step.found c.push_tag.new.found c.loop-step-test.true
    (within_at c.args.needed.now (length c.args.steps.now) c.loop-step.step-index _ c.requires.needed c.loop-step-test.true) c.index-steps-step.is c.loop-step.invariant
    (c.in_ok-push_tag.ensures ∙ ap (λ (s : Step). c.loop-step.found ++ tag_of s.rule) (sym c.index-steps-step.is))
