-- The systems of the two constants.
use Rattle.std.specs.Prelude.{ℕ, ◌≡◌, ◌≢◌, ◌<◌, ◌≤◌, List, [], ◌∷◌, Some}
use Rattle.std.proofs.Common.{inl}
use Rattle.std.proofs.lemmas.Option.{same_Some}
use mathlib.Core.Path.{refl, sym, ap, ◌∙◌}
use native.Mathlib.Omega.{arith}
use Rattle.ae_core.specs.declared.terms.Head.TheVariants as head
use Rattle.ae_multiset.specs.Multisets.{count, IsPart, IsSame}
use Rattle.ae_multiset.specs.Rewriting.{Joins, IsReduced}
use Rattle.ae_multiset.specs.Rewriting.ReducesTo.{done}
use Rattle.ae_multiset.proofs.Counts.{count-append}
use Rattle.ae_journal.specs.Values.{Val, leaf}
use Rattle.ae_journal.specs.Systems.{IsCompleted, IsRule, IsRuleFit, IsLeaf}
use Rattle.ae_journal.specs.declared.systems.RuleEntry.{RuleEntry}
use Rattle.ae_evaluation.proofs.ExampleSystem.{no_entry}
use Rattle.ae_evaluation.proofs.Names.{two_parts}
use Rattle.ae_decide.proofs.NineClauses.{completed_of}
use Rattle.ae_decide.specs.Clauses.{Part, Clause, FailsAlone, HasLeaves, RulesFit, AreReduced, AllOverlapsJoin}
use Rattle.ae_decide.specs.Clauses.Part.{terms, leaves, computing, records, congruence, rules, reduction, overlaps, joins}
use Rattle.ae_system_checks.specs.Examples.{signature, T, pair, rule, overlapping, second_leaf, equated, crossed, single_left, reducible, apart}
use Rattle.ae_system_checks.specs.Laws.{LeafOfOther}
use Rattle.ae_system_checks.proofs.Facts.{T_fields}
use Rattle.ae_system_checks.proofs.Entries.{of_two}
use Rattle.ae_system_checks.proofs.Symbols.{computed_of, records_of, own_leaf, leaf_tells}
use Rattle.ae_system_checks.proofs.Rules.{of_two_rules, two_reduced, one_reduced, one_overlap, none_fit, none_reduced, none_overlap, stays, by_rule}
use Rattle.ae_system_checks.proofs.Pairs.{of_leaves, pair_terms, pair_leaves, pair_congruent, pair_joins, first_has, second_value, leaf_0, leaf_1, own_leaves, represents_0, represents_1, fits}

-- ---- systems of two constants
-- all clauses but one, where those on values and rules hold that aren't this one
pair_others : (m n : ℕ) (rs : List RuleEntry) (missing : Part) → (leaves ≢ missing → HasLeaves signature (pair m n rs))
    → (rules ≢ missing → RulesFit signature (pair m n rs)) → (reduction ≢ missing → AreReduced signature (pair m n rs))
    → (overlaps ≢ missing → AllOverlapsJoin signature (pair m n rs))
    → (part : Part) → part ≢ missing → Clause signature (pair m n rs) part
pair_others m n rs missing l r d o terms not = pair_terms m n rs
pair_others m n rs missing l r d o leaves not = l not
pair_others m n rs missing l r d o computing not = computed_of signature T_fields (pair m n rs) (of_leaves m n rs)
pair_others m n rs missing l r d o records not = records_of signature T_fields (pair m n rs) (of_leaves m n rs)
pair_others m n rs missing l r d o congruence not = pair_congruent m n rs
pair_others m n rs missing l r d o rules not = r not
pair_others m n rs missing l r d o reduction not = d not
pair_others m n rs missing l r d o overlaps not = o not
pair_others m n rs missing l r d o joins not = pair_joins m n rs

pair_all : (m n : ℕ) (rs : List RuleEntry) → HasLeaves signature (pair m n rs) → RulesFit signature (pair m n rs) → AreReduced signature (pair m n rs)
    → AllOverlapsJoin signature (pair m n rs) → (part : Part) → Clause signature (pair m n rs) part
pair_all m n rs l r d o terms = pair_terms m n rs
pair_all m n rs l r d o leaves = l
pair_all m n rs l r d o computing = computed_of signature T_fields (pair m n rs) (of_leaves m n rs)
pair_all m n rs l r d o records = records_of signature T_fields (pair m n rs) (of_leaves m n rs)
pair_all m n rs l r d o congruence = pair_congruent m n rs
pair_all m n rs l r d o rules = r
pair_all m n rs l r d o reduction = d
pair_all m n rs l r d o overlaps = o
pair_all m n rs l r d o joins = pair_joins m n rs

without_rules : (m n : ℕ) → HasLeaves signature (pair m n []) → IsCompleted signature (pair m n [])
without_rules m n l =
    completed_of signature (pair m n [])
    (pair_all m n [] l (none_fit signature (pair m n []) no_entry) (none_reduced signature (pair m n []) no_entry) (none_overlap signature (pair m n []) no_entry))

pub equated_completed : IsCompleted signature equated
equated_completed = without_rules 0 0 (pair_leaves 0 0 [] (leaf_0 [] 0) (leaf_0 [] 0))

pub second_leaf_completed : IsCompleted signature second_leaf
second_leaf_completed = without_rules 1 1 (pair_leaves 1 1 [] (leaf_1 [] 1) (leaf_1 [] 1))

pub leaf_of_other : LeafOfOther
leaf_of_other = (leaf_1 [] 1, record { has = first_has 1 1 []; least = λ k h. omega arith })

-- ---- parts
not_part : (x : ℕ) (k l : List ℕ) → count x l < count x k → ¬ IsPart k l
not_part x k l h p = omega (arith, h, p.each x)

-- ---- a rule that overlaps itself and another
pub overlapping_completed : IsCompleted signature overlapping
overlapping_completed =
    completed_of signature overlapping
    (pair_all 0 1 rs (own_leaves rs)
    (of_two (rule (0 ∷ 0 ∷ []) (0 ∷ [])) (rule (0 ∷ 1 ∷ []) (0 ∷ [])) (λ k e. IsRuleFit signature overlapping e)
    (fits rs (0 ∷ 0 ∷ []) (0 ∷ []) (represents_0 rs, (represents_0 rs, tt)) (represents_0 rs, tt) (omega arith) (omega arith) (inl (omega arith)))
    (fits rs (0 ∷ 1 ∷ []) (0 ∷ []) (represents_0 rs, (represents_1 rs, tt)) (represents_0 rs, tt) (omega arith) (omega arith) (inl (omega arith))))
    (two_reduced 0 1 (0 ∷ 0 ∷ []) (0 ∷ []) (0 ∷ 1 ∷ []) (0 ∷ []) (not_part 0 (0 ∷ 0 ∷ []) (0 ∷ 1 ∷ []) (omega arith))
    (not_part 1 (0 ∷ 1 ∷ []) (0 ∷ 0 ∷ []) (omega arith)) (two_parts 0 0 0 []) (two_parts 0 0 0 []) (two_parts 0 0 1 []) (two_parts 0 0 1 []))
    (of_two_rules 0 1 (0 ∷ 0 ∷ []) (0 ∷ []) (0 ∷ 1 ∷ []) (0 ∷ [])
    (λ R x z. record {
      at = 0 ∷ [];
      first = by_rule R (0 ∷ 1 ∷ []) (0 ∷ []) z [] (0 ∷ 1 ∷ []) (0 ∷ []) refl refl;
      second = by_rule R (0 ∷ 0 ∷ []) (0 ∷ []) x [] (0 ∷ 0 ∷ []) (0 ∷ []) refl refl;
    })
    (λ R z x. record {
      at = 0 ∷ [];
      first = by_rule R (0 ∷ 0 ∷ []) (0 ∷ []) x [] (0 ∷ 0 ∷ []) (0 ∷ []) refl refl;
      second = by_rule R (0 ∷ 1 ∷ []) (0 ∷ []) z [] (0 ∷ 1 ∷ []) (0 ∷ []) refl refl;
    })))
  where
    rs : List RuleEntry
    rs = rule (0 ∷ 0 ∷ []) (0 ∷ []) ∷ rule (0 ∷ 1 ∷ []) (0 ∷ []) ∷ []

-- ---- each of these systems is refused by one clause alone
-- a and b have each other's leaf
pub crossed_fails : FailsAlone signature crossed leaves
crossed_fails = (
  λ h. no_leaf ((h.over T (leaf 1) 0 (first_has 1 0 [])).2),
  pair_others 1 0 [] leaves (λ n. absurd (n refl)) (λ n. none_fit signature crossed no_entry) (λ n. none_reduced signature crossed no_entry) (λ n. none_overlap signature crossed no_entry),
)
  where
    no_leaf : IsLeaf signature crossed T 1 → ⊥
    no_leaf l =
        let z = leaf_tells 0 1 (same_Some (leaf 0) (leaf 1) (sym (second_value 1 0 []) ∙ l.value ∙ ap (λ (v : Val). Some v) (own_leaf 1))) in
        omega (arith, z)

-- a rule has one element on its left
pub single_left_fails : FailsAlone signature single_left rules
single_left_fails = (
  λ h. let z : 2 ≤ 1 = (h 0 (rule (1 ∷ []) (0 ∷ [])) refl).two in omega (arith, z),
  pair_others 0 1 (rule (1 ∷ []) (0 ∷ []) ∷ []) rules (λ n. own_leaves (rule (1 ∷ []) (0 ∷ []) ∷ [])) (λ n. absurd (n refl))
      (λ n. one_reduced 0 1 (1 ∷ []) (0 ∷ []) (not_part 1 (1 ∷ []) (0 ∷ []) (omega arith))) (λ n. one_overlap 0 1 (1 ∷ []) (0 ∷ [])),
)

-- a rule reduces the left side of another
pub reducible_fails : FailsAlone signature reducible reduction
reducible_fails = (
  λ h. h.left_reduced 0 1 (rule (0 ∷ 0 ∷ []) (0 ∷ [])) (rule (0 ∷ 0 ∷ 0 ∷ []) (0 ∷ [])) zero_one refl refl refl
      (record { each = λ x. omega (arith, count-append x (0 ∷ 0 ∷ []) (0 ∷ [])) }),
  pair_others 0 1 rs reduction (λ n. own_leaves rs) (λ n. fit) (λ n. absurd (n refl)) (λ n. join),
)
  where
    rs : List RuleEntry
    rs = rule (0 ∷ 0 ∷ []) (0 ∷ []) ∷ rule (0 ∷ 0 ∷ 0 ∷ []) (0 ∷ []) ∷ []

    zero_one : ◌≢◌ {A = ℕ} 0 1
    zero_one e = omega (arith, e)

    fit : RulesFit signature reducible
    fit =
        of_two (rule (0 ∷ 0 ∷ []) (0 ∷ [])) (rule (0 ∷ 0 ∷ 0 ∷ []) (0 ∷ [])) (λ k e. IsRuleFit signature reducible e)
        (fits rs (0 ∷ 0 ∷ []) (0 ∷ []) (represents_0 rs, (represents_0 rs, tt)) (represents_0 rs, tt) (omega arith) (omega arith) (inl (omega arith)))
        (fits rs (0 ∷ 0 ∷ 0 ∷ []) (0 ∷ []) (represents_0 rs, (represents_0 rs, (represents_0 rs, tt))) (represents_0 rs, tt) (omega arith) (omega arith)
        (inl (omega arith)))

    join : AllOverlapsJoin signature reducible
    join =
        of_two_rules 0 1 (0 ∷ 0 ∷ []) (0 ∷ []) (0 ∷ 0 ∷ 0 ∷ []) (0 ∷ [])
        (λ R x z. record {
          at = 0 ∷ [];
          first = by_rule R (0 ∷ 0 ∷ []) (0 ∷ []) x [] (0 ∷ 0 ∷ []) (0 ∷ []) refl refl;
          second = done (record { each = λ n. refl });
        })
        (λ R z x. record {
          at = 0 ∷ [];
          first = done (record { each = λ n. refl });
          second = by_rule R (0 ∷ 0 ∷ []) (0 ∷ []) x [] (0 ∷ 0 ∷ []) (0 ∷ []) refl refl;
        })

-- the results of Deduce don't reduce to one multiset
pub apart_fails : FailsAlone signature apart overlaps
apart_fails = (
  λ h. no_join (h (head.Symbol 3) [] (0 ∷ 0 ∷ []) (1 ∷ []) (0 ∷ 1 ∷ 1 ∷ []) (1 ∷ []) (0, refl) (1, refl) different 0 (omega arith) (omega arith)),
  pair_others 0 1 rs overlaps (λ n. own_leaves rs) (λ n. fit) (λ n. reduced) (λ n. absurd (n refl)),
)
  where
    rs : List RuleEntry
    rs = rule (0 ∷ 0 ∷ []) (1 ∷ []) ∷ rule (0 ∷ 1 ∷ 1 ∷ []) (1 ∷ []) ∷ []

    different : IsSame (0 ∷ 0 ∷ []) (0 ∷ 1 ∷ 1 ∷ []) → IsSame (1 ∷ []) (1 ∷ []) → ⊥
    different s t = let z : 0 ≡ 2 = s.each 1 in omega (arith, z)

    U : List ℕ → List ℕ → Type 0
    U = IsRule apart (head.Symbol 3) []

    fixed : (xs : List ℕ) → ¬ IsPart (0 ∷ 0 ∷ []) xs → ¬ IsPart (0 ∷ 1 ∷ 1 ∷ []) xs → IsReduced U xs
    fixed xs p q l r x =
        of_two (rule (0 ∷ 0 ∷ []) (1 ∷ [])) (rule (0 ∷ 1 ∷ 1 ∷ []) (1 ∷ [])) (λ k e. IsPart e.left xs → ⊥) p q x.0
        (record { symbol = record { head = head.Symbol 3; sorts = [] }; left = l; right = r }) x.1

    no_join : Joins U (1 ∷ 1 ∷ 1 ∷ []) (1 ∷ 0 ∷ []) → ⊥
    no_join j =
        let s = stays U (1 ∷ 1 ∷ 1 ∷ []) j.at
        (fixed (1 ∷ 1 ∷ 1 ∷ []) (not_part 0 (0 ∷ 0 ∷ []) (1 ∷ 1 ∷ 1 ∷ []) (omega arith)) (not_part 0 (0 ∷ 1 ∷ 1 ∷ []) (1 ∷ 1 ∷ 1 ∷ []) (omega arith)))
        j.first in
        let t = stays U (1 ∷ 0 ∷ []) j.at
        (fixed (1 ∷ 0 ∷ []) (not_part 0 (0 ∷ 0 ∷ []) (1 ∷ 0 ∷ []) (omega arith)) (not_part 1 (0 ∷ 1 ∷ 1 ∷ []) (1 ∷ 0 ∷ []) (omega arith)))
        j.second in
        let x : 3 ≡ count 1 j.at = s.each 1 in
        let z : 1 ≡ count 1 j.at = t.each 1 in
        omega (arith, x, z)

    fit : RulesFit signature apart
    fit =
        of_two (rule (0 ∷ 0 ∷ []) (1 ∷ [])) (rule (0 ∷ 1 ∷ 1 ∷ []) (1 ∷ [])) (λ k e. IsRuleFit signature apart e)
        (fits rs (0 ∷ 0 ∷ []) (1 ∷ []) (represents_0 rs, (represents_0 rs, tt)) (represents_1 rs, tt) (omega arith) (omega arith) (inl (omega arith)))
        (fits rs (0 ∷ 1 ∷ 1 ∷ []) (1 ∷ []) (represents_0 rs, (represents_1 rs, (represents_1 rs, tt))) (represents_1 rs, tt) (omega arith) (omega arith)
        (inl (omega arith)))

    reduced : AreReduced signature apart
    reduced =
        two_reduced 0 1 (0 ∷ 0 ∷ []) (1 ∷ []) (0 ∷ 1 ∷ 1 ∷ []) (1 ∷ []) (not_part 0 (0 ∷ 0 ∷ []) (0 ∷ 1 ∷ 1 ∷ []) (omega arith))
        (not_part 1 (0 ∷ 1 ∷ 1 ∷ []) (0 ∷ 0 ∷ []) (omega arith)) (two_parts 1 0 0 []) (two_parts 1 0 0 []) (two_parts 1 0 1 (1 ∷ [])) (two_parts 1 0 1 (1 ∷ []))
