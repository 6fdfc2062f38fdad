use Rattle.std.specs.Prelude.{◌≡◌, true, List}
use Rattle.std.specs.List.{AllByRecursion}
use Rattle.std.proofs.Common.{refl, sym, ◌∙◌, subst}
use Rattle.std.proofs.lemmas.Result.{IfOk-from_err, IfOk-weaker}
use Rattle.ae_rules.specs.Clauses.{Clause}
use Rattle.ae_rules.specs.Derivations.{clause_ok}
use Rattle.ae_goal_search.specs.Started.{IsStoreOf}
use Rattle.ae_goal_search.proofs.Sorted.{all_sorted}
use Rattle.ae_search.proofs.proving.prove.Goals as goal

pub named_store-requires-clause-lawful : goal.named_store-requires-clause-lawful
named_store-requires-clause-lawful g c = c.requires.lawful.signature

pub named_store-requires-clause-sorted : goal.named_store-requires-clause-sorted
named_store-requires-clause-sorted g c =
    subst (λ (cs : List Clause). AllByRecursion (λ d. clause_ok c.args.problem.now.signature d ≡ true) cs) (sym c.as_slice.ensures)
    (all_sorted c.args.problem.now c.args.goal c.in_ok-first.first.lines.items c.in_ok-first.first.clauses c.in_ok-first.ensures.first.states)

pub add_choices-requires : goal.add_choices-requires
add_choices-requires g c = let names = c.in_ok-store.ensures in record { same = sym (names.named.signature ∙ names.signature) }

pub answer_from-requires : goal.answer_from-requires
answer_from-requires g c = record {
  started = record {
    lawful = c.requires.lawful;
    reach = c.requires.reach;
    firsts = c.in_ok-first.first.lines.items;
    first = c.in_ok-first.first.clauses;
    begun = c.in_ok-first.ensures.first;
    before = c.in_ok-store.store;
    names = subst (λ (cs : List Clause). IsStoreOf c.args.problem.now.signature cs c.in_ok-store.store) c.as_slice.ensures c.in_ok-store.ensures;
    choices = c.in_ok-add_choices.ensures c.args.problem.now c.args.goal refl;
    right = c.len-names.ensures.store;
  };
}

pub returns-in_err-first-clause-written : goal.returns-in_err-first-clause-written
returns-in_err-first-clause-written g c low = IfOk-from_err c.from_residual.result _ c.from_residual.ensures.0

pub returns-in_err-store-clause-written : goal.returns-in_err-store-clause-written
returns-in_err-store-clause-written g c low = IfOk-from_err c.from_residual-in_err-store.result _ c.from_residual-in_err-store.ensures.0

pub returns-in_err-add_choices-clause-written : goal.returns-in_err-add_choices-clause-written
returns-in_err-add_choices-clause-written g c low = IfOk-from_err c.from_residual-in_err-add_choices.result _ c.from_residual-in_err-add_choices.ensures.0

pub returns : goal.returns
returns g c = record { right = c.answer_from.ensures.right; written = λ low. IfOk-weaker c.answer_from.result _ _ (λ a h. h low) c.answer_from.ensures.written }
