-- The test and what is offered, over the names of a store.
use Rattle.std.specs.Prelude.{ℕ, zero, suc, ◌<◌, ◌↔◌, ◌≡◌, Bool, true, List, [], ◌∷◌, map, length, slice_get, reverse, Some}
use Rattle.std.specs.List.{AllByRecursion, list_any}
use Rattle.std.proofs.Common.{sym, ap, ◌∙◌, arith, inl, inr}
use Rattle.std.proofs.lemmas.List.{length-map, length-reverse}
use Rattle.std.proofs.lemmas.Option.{slice_get_within}
use Rattle.ae_base.proofs.AllOf.{all_at_reverse}
use Rattle.ae_base.proofs.ListFacts.{value_at}
use Rattle.ae_core.specs.Signatures.{has_variable}
use Rattle.ae_core.specs.declared.terms.Sort.{Sort}
use Rattle.ae_core.specs.declared.terms.Term.{Term}
use Rattle.ae_core.specs.declared.problems.Signature.{Signature}
use Rattle.ae_rules.specs.Matches.{Equals, is_arithmetic}
use Rattle.ae_rules.specs.Matches.Equals.{variable, application, turned, own}
use Rattle.ae_journal.specs.Triggers.{numbers_below}
use Rattle.ae_store.specs.declared.nodes.Node.{Node}
use Rattle.ae_store.specs.Shapes.{shapes, shape_of}
use Rattle.ae_store.specs.Stores.{IsStore}
use Rattle.ae_store.specs.Terms.{terms, named}
use Rattle.ae_store.proofs.StoreLaws.{name_term}
use Rattle.ae_store.proofs.TermLaws.{length_terms}
use Rattle.ae_matching.specs.Views.{Store}
use Rattle.ae_matching.specs.Testing.{test}
use Rattle.ae_matching.specs.Laws.{In, AreWithin, IsKnownTerm, AreSame, IsEquivalence}
use Rattle.ae_matching.specs.Triggers.{AreEqual, IsFound}
use Rattle.ae_matching.proofs.Exact.{below_in, test_exact}
use Rattle.ae_matching.proofs.Covers.{in_parts}
use Rattle.ae_matching.proofs.Found.{each_found}
use Rattle.ae_match.specs.Seen.{seen, seen_node}
use Rattle.ae_match.specs.Matches.{EqualKnown}
use Rattle.ae_match.proofs.SeenLaws.{seen_sound}

in_below : (k m : ℕ) → In (numbers_below k) m → m < k
in_below zero m h = elim h [ ]
in_below (suc k) m h = elim (in_parts (numbers_below k) (k ∷ []) m h) as (λ _. m < suc k) [
  | inl l ↦ omega (arith, in_below k m l)
  | inr r ↦ elim r as (λ _. m < suc k) [ inl e ↦ omega (arith, e) | inr none ↦ elim none [ ] ]
]

-- what a term of a trigger equals is known
known_end : (sig : Signature) (known : Term → Type 0) (same : Term → Term → Type 0) (sorts : List Sort) (values : List Term) (p u : Term) → Equals sig known same sorts values p u → known u
known_end sig known same sorts values p u (variable e k s) = k
known_end sig known same sorts values p u (application n es m s) = s.1
known_end sig known same sorts values p u (turned a n e f m s) = s.1
known_end sig known same sorts values p u (own o s) = s.1

module _ (sig : Signature) (ns : List Node) (alike : ℕ → ℕ → Bool) (below : ℕ) (sorts : List Sort) (values : List ℕ) (s : IsStore sig ns) (within : AllByRecursion (λ v. v < length ns) values) where
  abbrev ts : List Term
  ts = terms (shapes ns)

  abbrev store : Store
  store = seen sig ns

  count : length ts ≡ length ns
  count = length_terms (shapes ns) ∙ length-map ns shape_of

  count_nodes : length store.nodes ≡ length ns
  count_nodes = length-map ns (seen_node ts)

  pub names_within : AreWithin store values
  names_within = record {
    each = λ i v e.
        let l : i < length values = omega (arith, slice_get_within (reverse values) i v e, length-reverse values) in
        let h : v < length ns = all_at_reverse (λ v. v < length ns) values i v within l e in
        let g = value_at ts v (omega (arith, h, count)) in
        g.1 ∙ ap Some (sym (name_term ts v g.0 g.1));
  }

  exact : (p : Term) (n : ℕ) (u : Term) → slice_get ts n ≡ Some u
      → test store alike below sorts values is_arithmetic p n ≡ true ↔ Equals sig (IsKnownTerm store below) (AreSame store alike) sorts (map (named ts) values) p u
  exact = test_exact store alike below sorts values (seen_sound sig ns s) names_within

  pub tested_equal : (ps : List Term) → AreEqual store alike below sorts values is_arithmetic ps → EqualKnown sig ns alike below sorts values ps
  tested_equal [] a = tt
  tested_equal (p ∷ ps) a =
      let g = value_at ts a.0.0 (omega (arith, in_below (length store.nodes) a.0.0 a.0.1, count, count_nodes)) in
      ((g.0, (exact p a.0.0 g.0 g.1).0 a.0.2), tested_equal ps a.1)

  pub equal_tested : (ps : List Term) → EqualKnown sig ns alike below sorts values ps → AreEqual store alike below sorts values is_arithmetic ps
  equal_tested [] a = tt
  equal_tested (p ∷ ps) a =
      let k = known_end sig (IsKnownTerm store below) (AreSame store alike) sorts (map (named ts) values) p a.0.0 a.0.1 in
      let l : k.name < length store.nodes = omega (arith, slice_get_within ts k.name a.0.0 k.at, count, count_nodes) in
      ((k.name, below_in (length store.nodes) k.name l, (exact p k.name a.0.0 k.at).1 a.0.1), equal_tested ps a.1)

  pub found : IsEquivalence alike → (ps : List Term) → ((i : ℕ) → i < length values → list_any (has_variable i) ps ≡ true) → EqualKnown sig ns alike below sorts values ps
      → IsFound store alike below sorts values is_arithmetic ps
  found q ps occur a = each_found store alike below sorts values is_arithmetic (seen_sound sig ns s) q names_within ps occur (equal_tested ps a)
