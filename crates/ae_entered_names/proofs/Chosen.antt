-- Whether a name is a constructor of its sort.
use Rattle.std.specs.Prelude.{ℕ, ◌≡◌, List, map, slice_get, Some, None}
use Rattle.std.proofs.Common.{sym, ap, ◌∙◌, inl, inr}
use Rattle.std.proofs.lemmas.Option.{same_Some}
use Rattle.ae_base.proofs.Options.{never_some, bind_some}
use Rattle.ae_base.specs.Options.{◌>>=◌}
use Rattle.ae_core.specs.Sorts.{sort_of}
use Rattle.ae_core.specs.declared.problems.Signature.{Signature}
use Rattle.ae_core.specs.declared.terms.Head.{Head}
use Rattle.ae_core.specs.declared.terms.Sort.{Sort, out-Sort}
use Rattle.ae_core.specs.declared.terms.Term.{Term}
use Rattle.ae_entered_names.specs.Inner.Choosing.{IsOneAlone}
use Rattle.ae_open_states.specs.Choices.{IsChoiceOf}
use Rattle.ae_open_states.proofs.Choices.{choice}
use Rattle.ae_rules.specs.Clauses.{Clause}
use Rattle.ae_rules.specs.Instances.{choices_of, exhaustion}
use Rattle.ae_settled.proofs.Sorts.{predicate_of, predicate_unsorted}
use Rattle.ae_store.proofs.SortedLaws.{node_sorted}
use Rattle.ae_store.specs.Shapes.{shapes}
use Rattle.ae_store.specs.Stores.{IsStore}
use Rattle.ae_store.specs.Terms.{terms}
use Rattle.ae_store.specs.declared.nodes.Node.{Node}

-- the constructors of a term that has a clause
pub its_heads : (sig : Signature) (u : Term) (c : Clause) → exhaustion sig u ≡ Some c → (s : Sort) × (hs : List Head) × (sort_of sig u ≡ Some s) × (choices_of sig (out-Sort s) ≡ Some hs) × (map (choice u) hs ≡ c)
its_heads sig u c e =
    let s = bind_some (sort_of sig u) (λ s. choices_of sig (out-Sort s) >>= λ hs. Some (map (choice u) hs)) c e in
    let h = bind_some (choices_of sig (out-Sort s.0)) (λ hs. Some (map (choice u) hs)) c s.2 in
    (s.0, h.0, s.1, h.1, same_Some (map (choice u) h.0) c h.2)

module _ (sig : Signature) (nodes : List Node) (store : IsStore sig nodes) (n : ℕ) (x : Node) (u : Term) (at : slice_get nodes n ≡ Some x) (own : slice_get (terms (shapes nodes)) n ≡ Some u) (c : Clause)
    (e : exhaustion sig u ≡ Some c) where
  node_sort : sort_of sig u ≡ Some x.sort
  node_sort =
      let w = its_heads sig u c e in
      elim (node_sorted sig nodes n x u store.sound at own) as (λ _. sort_of sig u ≡ Some x.sort) [
        | inl h ↦ h
        | inr h ↦ absurd (predicate_unsorted sig u w.0 (predicate_of sig u h.0) w.2)
      ]

  pub none_chosen : {P : Type 0} → choices_of sig (out-Sort x.sort) ≡ None → P
  none_chosen none =
      let w = its_heads sig u c e in
      never_some w.1 (sym none ∙ ap (λ (s : Sort). choices_of sig (out-Sort s)) (same_Some x.sort w.0 (sym node_sort ∙ w.2)) ∙ w.3)

  pub one_chosen : (hs : List Head) → choices_of sig (out-Sort x.sort) ≡ Some hs → IsOneAlone hs u → IsChoiceOf sig u u
  one_chosen hs has k = record { sort = x.sort; heads = hs; head = k.0; sorted = node_sort; choices = has; one = k.1; is = k.2 }
