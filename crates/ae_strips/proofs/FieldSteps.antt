-- The steps between names of fields are allowed.
use Rattle.std.specs.Prelude.{ℕ, List, [], ◌∷◌, ◌≡◌, map, Some}
use Rattle.std.proofs.Common.{sym, ap, ◌∙◌, subst}
use Rattle.std.proofs.lemmas.Option.{same_Some}
use Rattle.ae_core.specs.Sorts.{sort_of}
use Rattle.ae_core.specs.declared.terms.Sort.{Sort}
use Rattle.ae_core.specs.declared.terms.Term.{Term, Apply}
use Rattle.ae_core.specs.declared.terms.Head.TheVariants as head
use Rattle.ae_core.specs.declared.problems.Signature.{Signature}
use Rattle.ae_rules.specs.Lines.{equal, Stated}
use Rattle.ae_store.specs.declared.nodes.Node.{Node}
use Rattle.ae_store.specs.Shapes.{shapes}
use Rattle.ae_store.specs.Terms.{terms, named, node_sort}
use Rattle.ae_store.specs.Stores.{IsStore}
use Rattle.ae_store.proofs.StoreLaws.{name_term}
use Rattle.ae_just.specs.declared.steps.Side.TheVariants as side
use Rattle.ae_just.specs.declared.steps.Rule.TheVariants as rule
use Rattle.ae_just.specs.declared.steps.Step.{Step}
use Rattle.ae_just.specs.Steps.{IsAllowedStep, own_line}
use Rattle.ae_state_steps.proofs.Stated.{stated_by, one_sort}
use Rattle.ae_strips.specs.Stripping.{IsFieldOf}
use Rattle.ae_strips.specs.Inner.Saying.{AreMoved, IsFieldOfWritten}
use Rattle.ae_strips.proofs.FieldSorts.{field_sorted, owned, argument_sorted}

module _ (sig : Signature) (nodes : List Node) (store : IsStore sig nodes) (steps : List Step) where
  abbrev ts : List Term
  ts = terms (shapes nodes)

  named_is : (n k place : ℕ) (ss : List Sort) (a : ℕ) (f : IsFieldOf ts n k place ss a) → named ts n ≡ Apply (head.Field k place) ss (f.owner ∷ [])
  named_is n k place ss a f = name_term ts n (Apply (head.Field k place) ss (f.owner ∷ [])) f.is

  sorted_name : (n k place : ℕ) (ss : List Sort) (a : ℕ) → IsFieldOf ts n k place ss a → sort_of sig (named ts n) ≡ Some (node_sort sig (head.Field k place) ss)
  sorted_name n k place ss a f = ap (sort_of sig) (named_is n k place ss a f) ∙ field_sorted sig nodes store n k place ss f.owner f.is

  pub moved_step : (left right id : ℕ) → AreMoved ts steps left right id → IsAllowedStep sig ts steps (record { left = side.Name left; right = side.Name right; rule = rule.Cong (id ∷ []) })
  moved_step left right id m =
      let f = m.left_is in
      let g = m.right_is in
      let s = node_sort sig (head.Field m.type m.place) m.sorts in
      let line : Stated (map (own_line ts) steps) id (equal (named ts m.first) (named ts m.second)) = stated_by ts steps id (record { left = side.Name m.first; right = side.Name m.second; rule = (m.equal).by }) (m.equal).there in
      let moved : Stated (map (own_line ts) steps) id (equal f.owner g.owner) =
      subst (λ t. Stated (map (own_line ts) steps) id (equal f.owner t)) (name_term ts m.second g.owner g.owner_is)
      (subst (λ t. Stated (map (own_line ts) steps) id (equal t (named ts m.second))) (name_term ts m.first f.owner f.owner_is) line) in
      record {
        sorted = one_sort s (sort_of sig (named ts left)) (sort_of sig (named ts right)) (sorted_name left m.type m.place m.sorts m.first f) (sorted_name right m.type m.place m.sorts m.second g);
        allowed = (
          head.Field m.type m.place,
          m.sorts,
          f.owner ∷ [],
          g.owner ∷ [],
          named_is left m.type m.place m.sorts m.first f,
          named_is right m.type m.place m.sorts m.second g,
          (moved, tt),
        );
      }

  pub argument_step : (n u : ℕ) → IsFieldOfWritten ts n u → IsAllowedStep sig ts steps (record { left = side.Name n; right = side.Name u; rule = rule.Field })
  argument_step n u h =
      let f = h.field in
      let w = h.written in
      let s = node_sort sig (head.Field h.type h.place) h.sorts in
      let is : named ts u ≡ w.argument = name_term ts u w.argument w.argument_is in
      let owner : f.owner ≡ Apply (head.Build h.type) h.sorts w.arguments = same_Some f.owner (Apply (head.Build h.type) h.sorts w.arguments) (sym f.owner_is ∙ w.is) in
      record {
        sorted = one_sort s (sort_of sig (named ts n)) (sort_of sig (named ts u)) (sorted_name n h.type h.place h.sorts h.owner f)
            (ap (sort_of sig) is ∙ argument_sorted sig nodes store h.owner h.type h.place h.sorts f.owner u (owned sig nodes store n h.type h.place h.sorts f.owner f.is) f.owner_is w);
        allowed = (
          h.type,
          h.place,
          h.sorts,
          w.arguments,
          named_is n h.type h.place h.sorts h.owner f ∙ ap (λ (t : Term). Apply (head.Field h.type h.place) h.sorts (t ∷ [])) owner,
          w.at ∙ ap Some (sym is),
        );
      }
