-- Arguments of equal values give equal values.
use Rattle.std.specs.Prelude.{ℕ, ◌<◌, true, List, ◌≡◌, ◌⊎◌, map, length, Some}
use Rattle.std.proofs.Common.{sym, ap, ◌∙◌, subst, arith, inl, inr}
use Rattle.std.proofs.lemmas.Option.{slice_get_within}
use Rattle.ae_base.specs.Options.{known}
use Rattle.ae_base.proofs.Options.{known_each}
use Rattle.ae_base.proofs.ListFacts.{value_at as there}
use Rattle.ae_core.specs.Sorts.{sort_of, term_ok}
use Rattle.ae_core.specs.declared.terms.Sort.{Sort}
use Rattle.ae_core.specs.declared.terms.Term.{Term, Apply}
use Rattle.ae_core.specs.declared.terms.Head.{Head}
use Rattle.ae_journal.specs.Values.{Val, meaning}
use Rattle.ae_journal.specs.Systems.{IsName, IsPredicateName, ValuesOf, value_at}
use Rattle.ae_evaluation.proofs.SortFacts.{is_applied, result_is}
use Rattle.ae_store.specs.Terms.{named}
use Rattle.ae_store.proofs.StoreLaws.{name_term}
use Rattle.ae_settled.specs.Held.{Held, terms_of, system_of}
use Rattle.ae_settled.specs.Settled.{IsSettled}
use Rattle.ae_settled.proofs.Sorts.{same_arguments, predicate_apart}
use Rattle.ae_settled.proofs.Nodes.{application}
use Rattle.ae_settled.proofs.Written.{value_of_written}
use Rattle.ae_settled.proofs.Terms.{named_sorted}
use Rattle.ae_settled.proofs.Alike.{has, same_reps}

module _ (x : Held) (settled : IsSettled x) where
  -- a well-sorted name has the value of its representative
  of_rep : (n : ℕ) (t : Term) (s : Sort) → IsName (system_of x) n t → sort_of x.signature t ≡ Some s → value_at (system_of x) n ≡ value_at (system_of x) (x.rep n)
  of_rep n t s e o =
      let l : n < length (terms_of x) = slice_get_within (terms_of x) n t e in
      let w = there x.values n (omega (arith, l, settled.values.one_each)) in
      let v = value_of_written (system_of x) n w.0 w.1 in
      v ∙ sym (settled.representatives s (meaning w.0) n (has x settled s t (meaning w.0) o (n, e, v))).has.value

  by_sort : (m n : ℕ) (h : Head) (ss : List Sort) (us ws : List Term) (vs : List Val) (s : Sort) → IsName (system_of x) m (Apply h ss us) → IsName (system_of x) n (Apply h ss ws)
      → sort_of x.signature (Apply h ss us) ≡ Some s → ValuesOf (system_of x) us vs → ValuesOf (system_of x) ws vs
      → ((r : Sort) × (sort_of x.signature (Apply h ss ws) ≡ Some r)) ⊎ IsPredicateName x.signature (Apply h ss ws) → value_at (system_of x) m ≡ value_at (system_of x) n
  by_sort m n h ss us ws vs s e f o p q (inr r) =
      let a = is_applied x.signature h ss us s o in absurd (predicate_apart x.signature h ss ws s r (result_is x.signature h ss a.args s a.headed))
  by_sort m n h ss us ws vs s e f o p q (inl r) =
      let a = is_applied x.signature h ss us s o in
      let b = is_applied x.signature h ss ws r.0 r.1 in
      let same : b.args ≡ a.args = same_arguments x.signature h ss b.args a.args r.0 s b.headed a.headed in
      let i = application x.signature x.nodes settled.store m h ss us e in
      let j = application x.signature x.nodes settled.store n h ss ws f in
      let c = ap (map (sort_of x.signature)) i.shape.args ∙ known_each (sort_of x.signature) us a.args a.known in
      let d = ap (map (sort_of x.signature)) j.shape.args ∙ known_each (sort_of x.signature) ws b.args b.known ∙ ap (map Some) same in
      let reps : map x.rep i.node.args ≡ map x.rep j.node.args =
      same_reps x settled i.node.args j.node.args a.args vs i.within j.within c d (subst (λ ts. ValuesOf (system_of x) ts vs) (sym i.shape.args) p) (subst (λ ts. ValuesOf (system_of x) ts vs) (sym j.shape.args) q) in
      let ok : term_ok x.signature (named (terms_of x) m) ≡ true = ap (term_ok x.signature) (name_term (terms_of x) m (Apply h ss us) e) ∙ ap known o in
      let one : x.rep m ≡ x.rep n =
      settled.swept.congruent m n i.node j.node i.at j.at (record { head = h; first = i.shape.heads; second = j.shape.heads; sorts = i.shape.sorts ∙ sym j.shape.sorts; args = reps }) ok in
      of_rep m (Apply h ss us) s e o ∙ ap (value_at (system_of x)) one ∙ sym (of_rep n (Apply h ss ws) r.0 f r.1)

  pub congruent : (m n : ℕ) (h : Head) (ss : List Sort) (us ws : List Term) (vs : List Val) (s : Sort) → IsName (system_of x) m (Apply h ss us) → IsName (system_of x) n (Apply h ss ws)
      → sort_of x.signature (Apply h ss us) ≡ Some s → ValuesOf (system_of x) us vs → ValuesOf (system_of x) ws vs → value_at (system_of x) m ≡ value_at (system_of x) n
  congruent m n h ss us ws vs s e f o p q = by_sort m n h ss us ws vs s e f o p q (named_sorted x settled.store n (Apply h ss ws) f)
