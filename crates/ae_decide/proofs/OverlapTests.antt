-- The test of overlaps says `true` exactly where the eighth clause holds, if the right side of each rule is the smaller.
use Rattle.std.specs.Prelude.{ℕ, ◌<◌, min, Bool, true, not, ◌&&◌, ◌≡◌, ◌↔◌, ◌⊎◌, List, [], ◌∷◌, slice_get, Some}
use Rattle.std.specs.List.{list_all}
use Rattle.std.proofs.Common.{inl, inr}
use Rattle.std.proofs.lemmas.Bool.{and_parts, and_from}
use mathlib.Core.List.{List-discrete}
use mathlib.Core.Path.{refl, sym, subst, ◌∙◌}
use native.Mathlib.Decide.{ℕ_discrete}
use native.Mathlib.Omega.{arith}
use Rattle.ae_base.proofs.AllOf.{test_of_all, all_from_places}
use Rattle.ae_base.proofs.Decided.{decided_of, decided_yes}
use Rattle.ae_base.proofs.ListFacts.{list_all_at}
use Rattle.ae_core.specs.declared.problems.AcSymbol.{AcSymbol}
use Rattle.ae_core.specs.declared.problems.Signature.{Signature}
use Rattle.ae_core.specs.declared.terms.Head.{Head}
use Rattle.ae_core.specs.declared.terms.Sort.{Sort}
use Rattle.ae_multiset.specs.Multisets.{count, common, IsSame}
use Rattle.ae_multiset.specs.Rewriting.{Decreases, Joins, ReducesTo, overlap_first, overlap_second}
use Rattle.ae_multiset.proofs.Comparing.{same_or_not}
use Rattle.ae_multiset.proofs.Confluence.{with_itself}
use Rattle.ae_multiset.proofs.Counts.{count-common, count_same}
use Rattle.ae_multiset.proofs.NormalForms.{linked_from, nf_linked}
use Rattle.ae_journal.specs.Systems.{IsRule}
use Rattle.ae_journal.specs.declared.systems.RuleEntry.{RuleEntry}
use Rattle.ae_journal.specs.declared.systems.System.{System}
use Rattle.ae_decide.specs.Clauses.{AllOverlapsJoin}
use Rattle.ae_decide.specs.Overlaps.{AllFall, nf, share, results_agree, overlap_joins, all_join}
use Rattle.ae_decide.specs.Reduction.{is_empty, same_symbol}
use Rattle.ae_decide.proofs.NormalForms.{normal_forms}
use Rattle.ae_decide.proofs.ReductionTests.{symbol_of_test, test_of_symbol}
use Rattle.ae_decide.proofs.ValueTests.{implied, by_implied}

-- ---- a common name
share_by : (a b : List ℕ) (n : ℕ) → 0 < count n a → 0 < count n b → share a b ≡ true
share_by a b n h k = go (common a b) (count-common n a b)
  where
    go : (m : List ℕ) → count n m ≡ min (count n a) (count n b) → not (is_empty m) ≡ true
    go [] e = absurd (omega (arith, e, h, k))
    go (x ∷ xs) e = refl

shared : (a b : List ℕ) → share a b ≡ true → (n : ℕ) × (0 < count n a) × (0 < count n b)
shared a b e = go (common a b) (λ x. count-common x a b) e
  where
    go : (m : List ℕ) → ((x : ℕ) → count x m ≡ min (count x a) (count x b)) → not (is_empty m) ≡ true → (n : ℕ) × (0 < count n a) × (0 < count n b)
    go [] f e = absurd (cc)
    go (x ∷ xs) f e = (x, omega (arith, f x, count_same x xs), omega (arith, f x, count_same x xs))

module _ (sig : Signature) (y : System) (falls : AllFall y.rules) where
  decreases : (h : Head) (ss : List Sort) → Decreases (IsRule y h ss)
  decreases h ss l r (k, i) = falls k (record { symbol = record { head = h; sorts = ss }; left = l; right = r }) i

  joins_by : all_join y.rules ≡ true → AllOverlapsJoin sig y
  joins_by e h ss l r m q (j, x) (k, z) different n s t =
      let c : AcSymbol = record { head = h; sorts = ss } in
      let d : RuleEntry = record { symbol = c; left = l; right = r } in
      let f : RuleEntry = record { symbol = c; left = m; right = q } in
      let both = list_all_at (overlap_joins y.rules d) y.rules k f (list_all_at (λ d. list_all (overlap_joins y.rules d) y.rules) y.rules j d e x) z in
      let agree = by_implied (same_symbol c c && share l m) (results_agree y.rules d f) both (and_from (same_symbol c c) (share l m) (test_of_symbol c c refl) (share_by l m n s t)) in
      let same = decided_yes (List-discrete ℕ_discrete (nf y.rules c (overlap_first l r m)) (nf y.rules c (overlap_second l m q))) agree in
      record {
        at = nf y.rules c (overlap_first l r m);
        first = (normal_forms y h ss falls).follows (overlap_first l r m);
        second = subst (λ (w : List ℕ). ReducesTo (IsRule y h ss) (overlap_second l m q) w) (sym same) ((normal_forms y h ss falls).follows (overlap_second l m q));
      }

  agree_by : AllOverlapsJoin sig y → (j : ℕ) (d : RuleEntry) → slice_get y.rules j ≡ Some d → (k : ℕ) (e : RuleEntry) → slice_get y.rules k ≡ Some e
      → d.symbol ≡ e.symbol → share d.left e.left ≡ true → results_agree y.rules d e ≡ true
  agree_by o j d x k e z same common =
      decided_of (List-discrete ℕ_discrete (nf y.rules d.symbol (overlap_first d.left d.right e.left)) (nf y.rules d.symbol (overlap_second d.left e.left e.right)))
      (equal (joined (same_or_not d.left e.left) (same_or_not d.right e.right)))
    where
      R : List ℕ → List ℕ → Type 0
      R = IsRule y d.symbol.head d.symbol.sorts

      second : R e.left e.right
      second = (k, z ∙ (λ i. Some (record { symbol = sym same i; left = e.left; right = e.right })))

      by_clause : (IsSame d.left e.left → IsSame d.right e.right → ⊥) → Joins R (overlap_first d.left d.right e.left) (overlap_second d.left e.left e.right)
      by_clause different =
          let (n, s, t) = shared d.left e.left common in
          o d.symbol.head d.symbol.sorts d.left d.right e.left e.right (j, x) second different n s t

      joined : IsSame d.left e.left ⊎ (IsSame d.left e.left → ⊥) → IsSame d.right e.right ⊎ (IsSame d.right e.right → ⊥)
          → Joins R (overlap_first d.left d.right e.left) (overlap_second d.left e.left e.right)
      joined (inl p) (inl q) = with_itself R d.left d.right e.left e.right p q
      joined (inl p) (inr q) = by_clause (λ a b. q b)
      joined (inr p) q = by_clause (λ a b. p a)

      linked : (a b : List ℕ) → ReducesTo R a b → nf y.rules d.symbol a ≡ nf y.rules d.symbol b
      linked a b r =
          nf_linked R (decreases d.symbol.head d.symbol.sorts) (o d.symbol.head d.symbol.sorts) (nf y.rules d.symbol)
          (normal_forms y d.symbol.head d.symbol.sorts falls) a b (linked_from R r)

      equal : Joins R (overlap_first d.left d.right e.left) (overlap_second d.left e.left e.right)
          → nf y.rules d.symbol (overlap_first d.left d.right e.left) ≡ nf y.rules d.symbol (overlap_second d.left e.left e.right)
      equal g = linked (overlap_first d.left d.right e.left) g.at g.first ∙ sym (linked (overlap_second d.left e.left e.right) g.at g.second)

  by_joins : AllOverlapsJoin sig y → all_join y.rules ≡ true
  by_joins o =
      test_of_all (λ d. list_all (overlap_joins y.rules d) y.rules ≡ true) (λ d. list_all (overlap_joins y.rules d) y.rules) (λ d q. q) y.rules
      (all_from_places (λ d. list_all (overlap_joins y.rules d) y.rules ≡ true) y.rules
      (λ j d x. test_of_all (λ e. overlap_joins y.rules d e ≡ true) (overlap_joins y.rules d) (λ e q. q) y.rules
      (all_from_places (λ e. overlap_joins y.rules d e ≡ true) y.rules
      (λ k e z. implied (same_symbol d.symbol e.symbol && share d.left e.left) (results_agree y.rules d e)
      (λ t. let p = and_parts (same_symbol d.symbol e.symbol) (share d.left e.left) t in
      agree_by o j d x k e z (symbol_of_test d.symbol e.symbol p.0) p.1)))))

  pub overlaps_tested : (b : Bool) → b ≡ all_join y.rules → (b ≡ true) ↔ AllOverlapsJoin sig y
  overlaps_tested b e = (λ t. joins_by (sym e ∙ t), λ c. e ∙ by_joins c)
