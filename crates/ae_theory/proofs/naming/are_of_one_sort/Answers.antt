use Rattle.std.proofs.Common.{◌≡◌, ◌∙◌, sym, ap, subst, inl, inr, slice_get}
use Rattle.ae_base.proofs.Decided.{decided_yes, decided_no}
use Rattle.ae_core.specs.Decided.{Sort_discrete}
use Rattle.ae_core.specs.declared.terms.Sort.{Sort, Bool as BoolSort}
use Rattle.ae_store.specs.Terms.{IsOfSort}
use Rattle.ae_theory.specs.Names.{terms_in}
use Rattle.ae_theory.proofs.Following.{not_bool}
use Rattle.ae_theory.proofs.naming.are_of_one_sort.Goals as goal

pub returns-then-not-is_sort : goal.returns-then-not-is_sort
returns-then-not-is_sort c h =
    let s = c.args.store.now in
    let sort : Sort = c.node.result.now.sort in
    let other : sort ≡ BoolSort → ⊥ = decided_no (Sort_discrete sort BoolSort) (sym c.is_sort.ensures ∙ c.if-not-is_sort.true) in
    let same : sort ≡ c.node-then-not-is_sort.result.now.sort = decided_yes (Sort_discrete sort c.node-then-not-is_sort.result.now.sort) (sym c.is_sort-then-not-is_sort.ensures ∙ h) in (
      sort,
      λ n t o e. elim o [
        | inl a ↦ not_bool s.signature t sort (c.node.ensures.sort t (ap (slice_get (terms_in s)) (sym a) ∙ e)) other
        | inr b ↦ not_bool s.signature t sort (subst (λ (w : Sort). IsOfSort s.signature t w) (sym same) (c.node-then-not-is_sort.ensures.sort t (ap (slice_get (terms_in s)) (sym b) ∙ e))) other
      ],
    )
