-- At the names of a class, or at all names of a head.
use Rattle.std.specs.Prelude.{ℕ, zero, suc, ◌+◌, ◌≡◌, ◌↔◌, ◌<◌, ◌≤◌, Bool, true, false, cond, not, ◌&&◌, ◌||◌, nat_eq, nat_lt, List, [], ◌∷◌, ◌++◌, map, length, slice_get, slice_index_or, Option, Some, None}
use Rattle.std.specs.List.{flat_map, list_any, Contains}
use Rattle.std.proofs.Math.Bool.{and-false}
use Rattle.std.proofs.Common.{refl, sym, ap, ◌∙◌, subst, arith, append_assoc, inl, inr}
use Rattle.std.proofs.lemmas.Bool.{cases_Bool, and_parts, eqb-true, ltb-true, ltb-false}
use Rattle.std.proofs.lemmas.List.{append-nil, length-map}
use Rattle.std.proofs.lemmas.Map.Keys.{any_passes_from_place}
use Rattle.std.proofs.lemmas.Option.{slice_get-get_or, slice_get_within}
use Rattle.ae_base.specs.Options.{or_else, ◌>>=◌}
use Rattle.ae_base.proofs.ListFacts.{get_read, number_at}
use Rattle.ae_base.proofs.Tests.{nat_eq_itself, same_truths}
use Rattle.ae_core.specs.Sorts.{same_sorts}
use Rattle.ae_core.specs.declared.terms.Sort.{Sort}
use Rattle.ae_core.specs.declared.terms.Head.{Head}
use Rattle.ae_core.specs.declared.terms.Term.{Term}
use Rattle.ae_core.specs.declared.problems.Signature.{Signature}
use Rattle.ae_rules.specs.Matches.{is_arithmetic}
use Rattle.ae_journal.specs.Triggers.{numbers_below}
use Rattle.ae_store.specs.declared.nodes.Node.{Node}
use Rattle.ae_store.specs.declared.nodes.NodeHead.TheVariants as node
use Rattle.ae_store.specs.Shapes.{shapes}
use Rattle.ae_store.specs.Terms.{terms}
use Rattle.ae_theory.specs.Names.{IsOrdered}
use Rattle.ae_matching.specs.Views as views
use Rattle.ae_matching.specs.declared.bindings.Bindings.{Bindings}
use Rattle.ae_matching.specs.SortMatching.{match_sorts}
use Rattle.ae_matching.specs.Generating.{is_ac, applies, Generator, sorted_then, node_case, generate}
use Rattle.ae_matching.specs.Laws.{In}
use Rattle.ae_matching.proofs.Complete.{any_in}
use Rattle.ae_matching.proofs.Exact.{any_from, below_in}
use Rattle.ae_match.specs.Seen.{seen, seen_node}
use Rattle.ae_known.specs.declared.known.Known.{Known}
use Rattle.ae_known.specs.Index.{is_listed, with_head, HasHeads}
use Rattle.ae_finding.specs.Nodes.{at_node, node_passes, either_order}
use Rattle.ae_finding.proofs.GenerateRules.{nodes_of_head, at_missing}
use Rattle.ae_finding.proofs.TestRules.{any_of_head}

-- ---- so many numbers from one on
abbrev from : ℕ → ℕ → List ℕ
from zero lo = []
from (suc c) lo = lo ∷ from c (suc lo)

numbers_from : (lo c : ℕ) → numbers_below (lo + c) ≡ numbers_below lo ++ from c lo
numbers_from lo zero = let e : lo + zero ≡ lo = omega arith in ap numbers_below e ∙ sym (append-nil (numbers_below lo))
numbers_from lo (suc c) = let e : lo + suc c ≡ suc lo + c = omega arith in ap numbers_below e ∙ numbers_from (suc lo) c ∙ append_assoc (numbers_below lo) (lo ∷ []) (from c (suc lo))

-- ---- rising numbers, none below one
abbrev Rises : ℕ → List ℕ → Type 0
Rises lo [] = Unit {0}
Rises lo (x ∷ ns) = (lo ≤ x) × Rises (suc x) ns

rises : (ns : List ℕ) (lo : ℕ) → IsOrdered ns → ((k : ℕ) → k < length ns → lo ≤ slice_index_or ns k 0) → Rises lo ns
rises [] lo o b = tt
rises (x ∷ ns) lo o b =
    (b 0 (omega arith), rises ns (suc x) (λ i j l m. o (suc i) (suc j) (omega (arith, l)) (omega (arith, m))) (λ k l. let g = o 0 (suc k) (omega arith) (omega (arith, l)) in omega (arith, g)))

unlisted : (ns : List ℕ) (lo m : ℕ) → Rises lo ns → m < lo → is_listed m ns ≡ false
unlisted [] lo m r l = refl
unlisted (x ∷ ns) lo m r l = ap (λ b. b || is_listed m ns) differs ∙ unlisted ns (suc x) m r.1 (omega (arith, l, r.0))
  where
    differs : nat_eq m x ≡ false
    differs = elim (cases_Bool (nat_eq m x)) as (λ _. nat_eq m x ≡ false) [ inl y ↦ absurd (omega (arith, l, r.0, eqb-true m x y)) | inr n ↦ n ]

module _ {B : Type 0} (f : ℕ → List B) (p : ℕ → Bool) (idle : (m : ℕ) → p m ≡ false → f m ≡ []) where
  none_past : (ns : List ℕ) (lo : ℕ) → Rises lo ns → ((m : ℕ) → lo ≤ m → f m ≡ []) → flat_map f ns ≡ []
  none_past [] lo r e = refl
  none_past (x ∷ ns) lo r e = λ i. e x r.0 i ++ none_past ns (suc x) r.1 (λ m l. e m (omega (arith, l, r.0))) i

  -- the numbers that pass, of so many from one on
  walk : (c lo : ℕ) (ns : List ℕ) → Rises lo ns → ((m : ℕ) → lo ≤ m → m < lo + c → is_listed m ns ≡ p m) → ((m : ℕ) → lo + c ≤ m → f m ≡ []) → flat_map f ns ≡ flat_map f (from c lo)
  walk zero lo ns r all past = none_past ns lo r (λ m l. past m (omega (arith, l)))
  walk (suc c) lo [] r all past =
      let here : f lo ≡ [] = idle lo (sym (all lo (omega arith) (omega arith))) in
      let rest = walk c (suc lo) [] tt (λ m l b. all m (omega (arith, l)) (omega (arith, b))) (λ m l. past m (omega (arith, l))) in
      λ i. sym here i ++ rest i
  walk (suc c) lo (x ∷ ns) r all past = elim (cases_Bool (nat_eq x lo)) as (λ _. flat_map f (x ∷ ns) ≡ flat_map f (from (suc c) lo)) [
    | inl y ↦
        let e : x ≡ lo = eqb-true x lo y in
        let rest = walk c (suc lo) ns (subst (λ z. Rises (suc z) ns) e r.1) (λ m l b. sym (ap (λ q. q || is_listed m ns) (other m (omega (arith, l, e)))) ∙ all m (omega (arith, l)) (omega (arith, b))) (λ m l. past m (omega (arith, l))) in
        λ i. f (e i) ++ rest i
    | inr n ↦
        let above : lo < x = above_of n in
        let here : f lo ≡ [] = idle lo (sym (all lo (omega arith) (omega arith)) ∙ unlisted (x ∷ ns) x lo (omega arith, r.1) above) in
        let rest = walk c (suc lo) (x ∷ ns) (omega (arith, above), r.1) (λ m l b. all m (omega (arith, l)) (omega (arith, b))) (λ m l. past m (omega (arith, l))) in
        rest ∙ ap (λ l. l ++ flat_map f (from c (suc lo))) (sym here)
  ]
    where
      other : (m : ℕ) → x < m → nat_eq m x ≡ false
      other m l = elim (cases_Bool (nat_eq m x)) as (λ _. nat_eq m x ≡ false) [ inl y ↦ absurd (omega (arith, l, eqb-true m x y)) | inr n ↦ n ]

      above_of : nat_eq x lo ≡ false → lo < x
      above_of n = elim (cases_Bool (nat_lt lo x)) as (λ _. lo < x) [ inl y ↦ ltb-true lo x y | inr m ↦ absurd (differ (omega (arith, r.0, ltb-false lo x m))) ]
        where
          differ : x ≡ lo → ⊥
          differ e = let z : ◌≡◌ {A = Bool} false true = sym n ∙ ap (nat_eq x) (sym e) ∙ nat_eq_itself x in cc z

-- ---- the names of a class
module _ (alike : ℕ → ℕ → Bool) (n count : ℕ) (names : List ℕ) (all : (m : ℕ) → m < count → Contains names m ↔ alike n m ≡ true) (ordered : IsOrdered names) where
  listed_if : (m : ℕ) → alike n m ≡ true → m < count → is_listed m names ≡ true
  listed_if m e l =
      let c = (all m l).1 e in
      any_passes_from_place (nat_eq m) names c.0 m (slice_get-get_or names c.0 m c.1 ∙ ap Some c.2) (nat_eq_itself m)

  listed : (m : ℕ) → m < count → is_listed m names ≡ alike n m
  listed m l = same_truths (is_listed m names) (alike n m) (λ e. let k = number_at names m e in let g = get_read names k.0 m m k.1 in (all m l).0 (k.0, g.1, g.0)) (λ e. listed_if m e l)

  pub class_names : {B : Type 0} (f : ℕ → List B) → ((m : ℕ) → alike n m ≡ false → f m ≡ []) → ((m : ℕ) → count ≤ m → f m ≡ []) → flat_map f names ≡ flat_map f (numbers_below count)
  class_names f idle past =
      walk f (alike n) idle count 0 names (rises names 0 ordered (λ k l. omega arith)) (λ m z l. listed m (omega (arith, l))) (λ m l. past m (omega (arith, l))) ∙ ap (flat_map f) (sym (numbers_from 0 count)) ∙ ap (λ c. flat_map f (numbers_below c)) whole
    where
      whole : 0 + count ≡ count
      whole = omega arith

  listed_in : (m : ℕ) → is_listed m names ≡ true → In names m
  listed_in m e = let r = any_in (nat_eq m) names e in subst (In names) (sym (eqb-true m r.0 r.2)) r.1

  module _ (sig : Signature) (ns : List Node) (is_count : count ≡ length ns) (symmetric : (l m : ℕ) → alike l m ≡ true → alike m l ≡ true) (below : ℕ) (k : Known) (has : HasHeads ns k) (h : Head) where
    abbrev store : views.Store
    store = seen sig ns

    apart : (m : ℕ) → alike n m ≡ false → alike m n ≡ false
    apart m e = elim (cases_Bool (alike m n)) as (λ _. alike m n ≡ false) [ inl y ↦ let z : ◌≡◌ {A = Bool} true false = sym (symmetric m n y) ∙ e in cc z | inr f ↦ f ]

    -- ---- bindings
    module _ (ss : List Sort) (us : List Term) (env : Bindings) where
      abbrev gen : Term → Generator
      gen = generate store alike below is_arithmetic

      far : (m : ℕ) → alike n m ≡ false → at_node store alike below h ss us n env m ≡ []
      far m e = go (slice_get store.nodes m)
        where
          go : (o : Option views.Node) → node_case store alike below h ss (map gen us) n env m o ≡ []
          go None = refl
          go (Some x) =
              let there = sorted_then (map gen us) x.args (is_ac sig h) env (match_sorts ss x.sorts env.sorts) in
              ap (λ b. cond (nat_lt x.generation below && b && not x.arithmetic && applies h x.head) there []) (apart m e)
              ∙ ap (λ b. cond (b && not x.arithmetic && applies h x.head) there []) (and-false (nat_lt x.generation below))

      pub class_nodes : flat_map (at_node store alike below h ss us n env) names ≡ flat_map (at_node store alike below h ss us n env) (with_head k (node.Of h))
      class_nodes =
          class_names (at_node store alike below h ss us n env) far (λ m l. at_missing sig ns alike below h ss us n env m (omega (arith, l, is_count)))
          ∙ ap (λ c. flat_map (at_node store alike below h ss us n env) (numbers_below c)) (is_count ∙ sym (length-map ns (seen_node (terms (shapes ns)))))
          ∙ sym (nodes_of_head sig ns alike below k has h ss us n env)

    -- ---- tests
    module _ (sorts : List Sort) (values : List ℕ) (put : List Sort) (us : List Term) where
      abbrev passes : ℕ → Bool
      passes = node_passes store alike below sorts values h put us n

      abbrev rest : views.Node → Bool
      rest x = not x.arithmetic && applies h x.head && same_sorts x.sorts put && either_order store alike below sorts values (is_ac sig h) us x.args

      passed : (m : ℕ) → passes m ≡ true → (m < length store.nodes) × (alike m n ≡ true)
      passed m e = go (slice_get store.nodes m) refl e
        where
          go : (o : Option views.Node) → slice_get store.nodes m ≡ o → or_else (o >>= λ x. Some (nat_lt x.generation below && alike m n && rest x)) false ≡ true → (m < length store.nodes) × (alike m n ≡ true)
          go None at e = cc e
          go (Some x) at e = (slice_get_within store.nodes m x at, (and_parts (nat_lt x.generation below) (alike m n) (and_parts (nat_lt x.generation below && alike m n) (rest x) e).0).1)

      pub class_passes : list_any passes names ≡ list_any passes (with_head k (node.Of h))
      class_passes =
          same_truths (list_any passes names) (list_any passes (numbers_below (length ns)))
          (λ e. let r = any_in passes names e in any_from passes (numbers_below (length ns)) r.0 (below_in (length ns) r.0 (omega (arith, (passed r.0 r.2).0, length-map ns (seen_node (terms (shapes ns)))))) r.2)
          (λ e.
          let r = any_in passes (numbers_below (length ns)) e in
          let p = passed r.0 r.2 in
          any_from passes names r.0 (listed_in r.0 (listed_if r.0 (symmetric r.0 n p.1) (omega (arith, p.0, length-map ns (seen_node (terms (shapes ns))), is_count)))) r.2)
          ∙ sym (any_of_head sig ns alike below sorts values n k has h put us)
