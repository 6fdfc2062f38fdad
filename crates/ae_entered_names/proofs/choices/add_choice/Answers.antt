use Rattle.std.proofs.Common.{Some, refl, sym, ap, subst, ◌∙◌}
use Rattle.std.proofs.lemmas.Option.{same_Some}
use Rattle.ae_base.proofs.Options.{never_some}
use Rattle.ae_core.specs.declared.problems.Signature.{Signature}
use Rattle.ae_core.specs.declared.terms.Sort.{out-Sort}
use Rattle.ae_entered_names.proofs.Chosen.{none_chosen}
use Rattle.ae_entered_names.proofs.Stepping.{goes_nowhere, same_itself}
use Rattle.ae_rules.specs.Instances.{choices_of}
use Rattle.ae_store.specs.Stores.{IsStore}
use Rattle.ae_store.specs.declared.nodes.Node.{Node}
use Rattle.ae_entered_names.proofs.choices.add_choice.Goals as goal

pub returns-in-None-clause-goes_on : goal.returns-in-None-clause-goes_on
returns-in-None-clause-goes_on v c = goes_nowhere c.args.task.problem.now c.args.task.goal c.args.task.generations c.args.search.now c.requires.holds

pub returns-in-None-clause-chosen : goal.returns-in-None-clause-chosen
returns-in-None-clause-chosen v c u own d e =
    let o = c.args.search.now in
    let sig = c.args.task.problem.now.signature in
    none_chosen sig o.store.nodes (subst (λ (z : Signature). IsStore z o.store.nodes) (sym c.requires.searching.1.signature) c.requires.holds.store) c.args.name c.node-node.result.now u c.node-node.ensures.node own d e
    (sym c.in_ok-choices_of.ensures ∙ c.in-None.is)

pub returns-in-None-clause-beside : goal.returns-in-None-clause-beside
returns-in-None-clause-beside v c = same_itself c.args.search.now

pub add_for-requires-clause-heads : goal.add_for-requires-clause-heads
add_for-requires-clause-heads v c x at =
    ap (λ (z : Node). choices_of c.args.task.problem.now.signature (out-Sort z.sort)) (same_Some x c.node-node.result.now (sym at ∙ c.node-node.ensures.node)) ∙ sym c.in_ok-choices_of.ensures ∙ c.in-Some.is ∙ ap Some (sym c.as_slice.ensures)

pub returns-in-None-clause-plain : goal.returns-in-None-clause-plain
returns-in-None-clause-plain v c h = (refl, refl)

pub returns-in-Some-clause-plain : goal.returns-in-Some-clause-plain
returns-in-Some-clause-plain v c h = never_some c.in-Some.heads (sym (h c.node-node.result.now c.node-node.ensures.node) ∙ (sym c.in_ok-choices_of.ensures ∙ c.in-Some.is))
