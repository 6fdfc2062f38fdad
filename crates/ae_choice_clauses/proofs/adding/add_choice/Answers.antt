use Rattle.std.proofs.Common.{◌≡◌, slice_get, Some, None, sym, ap, subst, ◌∙◌, inl}
use Rattle.std.proofs.lemmas.Option.{same_Some}
use Rattle.std.proofs.lemmas.Result.{on_ok_weaker}
use Rattle.ae_core.specs.declared.terms.Term.{Term}
use Rattle.ae_theory.specs.Names.{terms_in}
use Rattle.ae_choice_clauses.specs.Inner.Added.{choices_at, NamesChoices, IsKept, left_out}
use Rattle.ae_choice_clauses.proofs.Constructors.{no_clause}
use Rattle.ae_choice_clauses.proofs.Growth.{none_to_name}
use Rattle.ae_choice_clauses.proofs.adding.add_choice.Goals as goal

pub add_for-requires-clause-choices : goal.add_for-requires-clause-choices
add_for-requires-clause-choices c =
    ap (choices_at c.args.signature.now) (c.get-in-Some.ensures ∙ sym c.get.ensures) ∙ sym c.in_ok-choices.ensures ∙ c.in-Some.is ∙ ap Some (sym c.as_slice.ensures)

pub returns-in-None : goal.returns-in-None
returns-in-None c =
    let sig = c.args.signature.now in
    let name = c.args.name in
    let ts = terms_in c.args.store.now in
    let same : (u : Term) → slice_get ts name ≡ Some u → c.get.result.now ≡ u = λ u at. c.get.ensures ∙ c.in_ok-held.ensures ∙ same_Some c.in_ok-term.term u (sym c.in_ok-term.ensures.term ∙ at) in
    let none : (u : Term) → slice_get ts name ≡ Some u → choices_at sig u ≡ None = λ u at. ap (choices_at sig) (sym (same u at)) ∙ sym c.in_ok-choices.ensures ∙ c.in-None.is in
    record {
      named = λ u at. none_to_name sig u c.args.store.now (none u at);
      kept = λ u at. left_out (inl (no_clause sig u (none u at)));
    }

pub returns : goal.returns
returns c =
    let sig = c.args.signature.now in
    let ts = terms_in c.args.store.now in
    let same : (u : Term) → slice_get ts c.args.name ≡ Some u → c.get-in-Some.result.now ≡ u =
    λ u at. c.get-in-Some.ensures ∙ c.in_ok-held.ensures ∙ same_Some c.in_ok-term.term u (sym c.in_ok-term.ensures.term ∙ at) in
    record {
      named = on_ok_weaker c.add_for.result (λ h u at. subst (λ (z : Term). NamesChoices sig z c.args.store.now c.add_for.new.store) (same u at) h) c.add_for.ensures.named;
      kept = on_ok_weaker c.add_for.result
          (λ h u at. subst (λ (z : Term). IsKept sig z c.args.first.now.lines.items c.args.first.now.clauses c.add_for.new.first.lines.items c.add_for.new.first.clauses) (same u at) h)
          c.add_for.ensures.kept;
    }
