-- Terms that are known at a number, as matching sees them.
use Rattle.std.specs.Prelude.{ℕ, ◌<◌, ◌+◌, Bool, false, nat_lt, List, [], ◌∷◌, ◌≡◌, map, length, slice_get, option_map, Option, Some, None}
use Rattle.std.specs.List.{AllByRecursion}
use Rattle.std.proofs.Common.{refl, sym, ap, ◌∙◌, arith, lt-ltb}
use Rattle.std.proofs.lemmas.Bool.{ltb-true}
use Rattle.std.proofs.lemmas.List.{length-map}
use Rattle.std.proofs.lemmas.Option.{slice_get-map, slice_get_within}
use Rattle.ae_base.specs.Options.{or_else, ◌>>=◌}
use Rattle.ae_base.proofs.ListFacts.{get_map}
use Rattle.ae_base.proofs.Tests.{false_true}
use Rattle.ae_core.specs.declared.terms.Term.{Term}
use Rattle.ae_match.specs.Seen.{seen, seen_node}
use Rattle.ae_matching.specs.Laws.{IsKnownTerm, AreSame}
use Rattle.ae_matching.specs.Views as views
use Rattle.ae_owed.specs.Known.{IsYoung, AreAlike}
use Rattle.ae_store.proofs.StoreLaws.{name_term}
use Rattle.ae_store.proofs.TermLaws.{length_terms}
use Rattle.ae_store.specs.Shapes.{shapes, shape_of}
use Rattle.ae_store.specs.Stores.{Stored}
use Rattle.ae_store.specs.Terms.{terms, named}
use Rattle.ae_store.specs.declared.nodes.Node.{Node}

module _ (s : Stored) where
  abbrev ts : List Term
  ts = terms (shapes s.nodes)

  pub count : length ts ≡ length s.nodes
  count = length_terms (shapes s.nodes) ∙ length-map s.nodes shape_of

  abbrev is_young : ℕ → Option views.Node → Bool
  is_young n o = or_else (o >>= λ x. Some (nat_lt x.generation (n + 1))) false

  pub known_of_young : (n : ℕ) (t : Term) → IsYoung s n t → IsKnownTerm (seen s.signature s.nodes) (n + 1) t
  known_of_young n t y = record {
    name = y.name;
    at = y.at;
    young = ap (is_young n) (get_map (seen_node ts) s.nodes y.name y.node y.there) ∙ lt-ltb y.node.generation (n + 1) (let h = y.young in omega (arith, h));
  }

  pub young_of_known : (n : ℕ) (t : Term) → IsKnownTerm (seen s.signature s.nodes) (n + 1) t → IsYoung s n t
  young_of_known n t k = by (slice_get s.nodes k.name) refl
    where
      seen_at : (o : Option Node) → slice_get s.nodes k.name ≡ o → is_young n (slice_get (map (seen_node ts) s.nodes) k.name) ≡ is_young n (option_map (seen_node ts) o)
      seen_at o e = ap (is_young n) (slice_get-map (seen_node ts) s.nodes k.name ∙ ap (option_map (seen_node ts)) e)

      by : (o : Option Node) → slice_get s.nodes k.name ≡ o → IsYoung s n t
      by None e = false_true (sym (seen_at None e) ∙ k.young)
      by (Some x) e =
          let h : x.generation < n + 1 = ltb-true x.generation (n + 1) (sym (seen_at (Some x) e) ∙ k.young) in
          record { name = k.name; at = k.at; node = x; there = e; young = omega (arith, h) }

  pub same_of_alike : (alike : ℕ → ℕ → Bool) (t u : Term) → AreAlike s alike t u → AreSame (seen s.signature s.nodes) alike t u
  same_of_alike alike t u a = record { left = a.left; right = a.right; left_at = a.left_at; right_at = a.right_at; alike_ones = a.alike_ones }

  pub alike_of_same : (alike : ℕ → ℕ → Bool) (t u : Term) → AreSame (seen s.signature s.nodes) alike t u → AreAlike s alike t u
  alike_of_same alike t u a = record { left = a.left; right = a.right; left_at = a.left_at; right_at = a.right_at; alike_ones = a.alike_ones }

  -- the names of known terms
  pub names_of : (n : ℕ) (us : List Term) → AllByRecursion (IsYoung s n) us → (ns : List ℕ) × (map (named ts) ns ≡ us) × AllByRecursion (λ v. v < length s.nodes) ns
  names_of n [] a = ([], refl, tt)
  names_of n (u ∷ us) a =
      let r = names_of n us a.1 in
      let y = a.0 in
      (y.name ∷ r.0, (λ i. name_term ts y.name u y.at i ∷ r.1 i), (omega (arith, slice_get_within ts y.name u y.at, count), r.2))
