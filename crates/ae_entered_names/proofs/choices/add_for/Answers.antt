use Rattle.std.proofs.Common.{◌≡◌, Some, slice_get, sym, subst, ◌∙◌, inl}
use Rattle.std.specs.List.{Contains}
use Rattle.std.proofs.lemmas.Option.{same_Some}
use Rattle.ae_base.proofs.ListFacts.{value_at}
use Rattle.ae_core.specs.declared.problems.Signature.{Signature}
use Rattle.ae_entered_names.proofs.Chosen.{one_chosen}
use Rattle.ae_entered_names.proofs.Stepping.{goes_nowhere, same_itself}
use Rattle.ae_entered_names.specs.Inner.Choosing.{IsChosen, IsOneAlone}
use Rattle.ae_journal.proofs.Splits.{contains_at}
use Rattle.ae_store.specs.Stores.{IsStore}
use Rattle.ae_theory.specs.Names.{terms_in}
use Rattle.ae_entered_names.proofs.choices.add_for.Goals as goal

pub returns-then-is_one_alone-clause-goes_on : goal.returns-then-is_one_alone-clause-goes_on
returns-then-is_one_alone-clause-goes_on v c = goes_nowhere c.args.task.problem.now c.args.task.goal c.args.task.generations c.args.search.now c.requires.holds

pub returns-then-is_one_alone-clause-chosen : goal.returns-then-is_one_alone-clause-chosen
returns-then-is_one_alone-clause-chosen v c u own d e =
    let o = c.args.search.now in
    let sig = c.args.task.problem.now.signature in
    let x = value_at o.store.nodes c.args.name c.requires.within in
    let same : c.get.result.now ≡ u = c.get.ensures ∙ c.in_ok-held.ensures ∙ same_Some c.in_ok-term.term u (sym c.in_ok-term.ensures.term ∙ own) in
    inl
    (one_chosen sig o.store.nodes (subst (λ (z : Signature). IsStore z o.store.nodes) (sym c.requires.searching.1.signature) c.requires.holds.store) c.args.name x.0 u x.1 own d e c.args.heads.now (c.requires.heads x.0 x.1)
    (subst (IsOneAlone c.args.heads.now) same (c.is_one_alone.ensures c.if-is_one_alone.true)))

pub returns-then-is_one_alone-clause-beside : goal.returns-then-is_one_alone-clause-beside
returns-then-is_one_alone-clause-beside v c = same_itself c.args.search.now

pub add_for_term-requires-clause-there : goal.add_for_term-requires-clause-there
add_for_term-requires-clause-there v c =
    let ts = terms_in c.args.search.now.store in
    subst (Contains ts) (sym (c.get-2.ensures ∙ c.in_ok-held.ensures)) (contains_at ts c.args.name c.in_ok-term.term c.in_ok-term.ensures.term)

pub returns-clause-chosen : goal.returns-clause-chosen
returns-clause-chosen v c u own =
    let new = c.add_for_term.new.search in
    let kept : slice_get (terms_in new.store) c.args.name ≡ Some c.in_ok-term.term = c.in_ok-add_for_term.ensures.goes_on.extends.keeps c.args.name c.in_ok-term.term c.in_ok-term.ensures.term in
    let same : c.get-2.result.now ≡ u = c.get-2.ensures ∙ c.in_ok-held.ensures ∙ same_Some c.in_ok-term.term u (sym kept ∙ own) in
    subst (IsChosen c.args.task.problem.now.signature new.solver.propagation.clauses) same c.in_ok-add_for_term.ensures.chosen
