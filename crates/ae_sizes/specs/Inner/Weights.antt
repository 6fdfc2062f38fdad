-- How large the formula of a typed tree is, told from the tree: no formula is built. What a weight says of the cases of a term is
-- said where weights are defined; here it is told of every tree, also of records whose fields aren't written once each, and of the
-- terms of triggers, which stand without their `if`s.
use Rattle.std.specs.Prelude.{ℕ, suc, ◌+◌, ◌-◌, ◌*◌, Bool, true, false, cond, not, ◌&&◌, nat_eq, nat_lt, List, [], ◌∷◌, ◌++◌, length, take, slice_get, Option, Some, None}
use Rattle.std.specs.List.{list_any}
use Rattle.ae_core.specs.declared.terms.Sort.{Sort}
use Rattle.ae_elab.specs.Sizes.{Size, round}
use Rattle.ae_elab.specs.Trees.{Tree, Trees, Patterns, Claim, none, more, no_pattern, and_pattern, variable, numeral, apply, operation, build, update, choice, truth, falsity, relation, predicate, distinct, holds, negation, conjunction, disjunction, exclusion, equivalence, implication, conditional, quantified}
use Rattle.ae_elab.specs.Weights.{Weight, one_case, together, either_weight, within, beside, size_of, missing, pairs, above_pair, relation_nodes, merges, block_size, sort_sizes}

-- ---- how often a term stands in an atom, and how many levels there are above it
pub record Stand : Type 0 where
  pub times : ℕ
  pub levels : ℕ

-- in each case the values so many times, and so many levels deeper
abbrev pub standing : ℕ → ℕ → Weight → Weight
standing ℕ.zero d w = record { cases = w.cases; nodes = 0; added = w.added; above = w.above; reach = w.above; conditions = w.conditions }
standing (suc k) d w = record { cases = w.cases; nodes = w.nodes * suc k; added = w.added; above = w.above; reach = w.reach + d; conditions = w.conditions }

-- terms, of which each stands as is said of its place
abbrev pub all_standing : (ℕ → Stand) → ℕ → List Weight → Weight
all_standing g i [] = one_case 0
all_standing g i (w ∷ ws) = together (standing (g i).times (g i).levels w) (all_standing g (suc i) ws)

abbrev pub once : ℕ → Stand
once i = record { times = 1; levels = 0 }

-- the terms of `distinct`: each in as many pairs as there are others, the first pair being the deepest
abbrev pub in_pairs : ℕ → ℕ → Stand
in_pairs n i = record { times = n - 1; levels = 2 + above_pair (pairs n) i }

-- the values of a record: one that stands for a field, and none before it does
abbrev pub is_first : ℕ → List ℕ → Option ℕ → Bool
is_first n seen None = false
is_first n seen (Some p) = nat_lt p n && not (list_any (nat_eq p) seen)

abbrev pub in_fields : ℕ → List ℕ → ℕ → Stand
in_fields n ps i = record { times = cond (is_first n (take i ps) (slice_get ps i)) 1 0; levels = 0 }

-- ---- `distinct`
abbrev pub inequalities : ℕ → Size
inequalities p = record { nodes = p + p + (p - 1); levels = 0 }

abbrev pub distinct_round : ℕ → Weight → Weight
distinct_round ℕ.zero w = within 1 w
distinct_round (suc ℕ.zero) w = within 1 w
distinct_round (suc (suc n)) w = beside (inequalities (pairs (suc (suc n))) ∷ []) w

abbrev pub distinct_weight : List Weight → Weight
distinct_weight ws = distinct_round (length ws) (all_standing (in_pairs (length ws)) 0 ws)

-- ---- records: the fields that are copied from another record, and the written values
abbrev pub copies : ℕ → List Size → Weight → Weight
copies k ss b = standing k 0 (within 1 (beside ss b))

abbrev pub record_weight : List Size → ℕ → Weight → List ℕ → List Weight → Weight
record_weight ss n b ps ws = within 1 (together (beside ss (copies (missing n (take (length ws) ps)) ss b)) (all_standing (in_fields n ps) 0 ws))

-- of an `if` both branches, or the second alone
abbrev pub chosen : Bool → Size → Weight → Weight → Weight
chosen true c v w = w
chosen false c v w = either_weight c v w

-- ---- the weight of a term, with all its cases or with its last one alone, and the size of a formula
abbrev mutual
  pub weight : Bool → (ℕ → Sort) → Tree → Weight
  weight last f (variable x) = one_case 1
  weight last f (numeral a b r) = one_case 1
  weight last f (apply h ss us) = within 1 (beside (sort_sizes f ss) (all_standing once 0 (weight_list last f us)))
  weight last f (operation o s us) = within 1 (all_standing once 0 (weight_list last f us))
  weight last f (build of ss n ps us) = record_weight (sort_sizes f ss) n (one_case 1) ps (weight_list last f us)
  weight last f (update of ss n b ps us) = record_weight (sort_sizes f ss) n (weight last f b) ps (weight_list last f us)
  weight last f (choice c s t) = chosen last (claim_size f c) (weight last f s) (weight last f t)

  pub weight_list : Bool → (ℕ → Sort) → Trees → List Weight
  weight_list last f none = []
  weight_list last f (more t us) = weight last f t ∷ weight_list last f us

  pub pattern_sizes : (ℕ → Sort) → Patterns → List Size
  pattern_sizes f no_pattern = []
  pattern_sizes f (and_pattern place us ps) = size_of (all_standing once 0 (weight_list true f us)) ∷ pattern_sizes f ps

  pub claim_size : (ℕ → Sort) → Claim → Size
  claim_size f truth = round []
  claim_size f falsity = round []
  claim_size f (relation r s t) = size_of (within (relation_nodes r) (together (weight false f s) (weight false f t)))
  claim_size f (predicate k ss us) = size_of (within 1 (beside (sort_sizes f ss) (all_standing once 0 (weight_list false f us))))
  claim_size f (distinct us) = size_of (distinct_weight (weight_list false f us))
  claim_size f (holds t) = size_of (within 1 (beside (round [] ∷ []) (weight false f t)))
  claim_size f (negation a) = round (claim_size f a ∷ [])
  claim_size f (conjunction a b) = round (claim_size f a ∷ claim_size f b ∷ [])
  claim_size f (disjunction a b) = round (claim_size f a ∷ claim_size f b ∷ [])
  claim_size f (exclusion a b) = round (claim_size f a ∷ claim_size f b ∷ [])
  claim_size f (equivalence a b) = round (claim_size f a ∷ claim_size f b ∷ [])
  claim_size f (implication a b) = round (round (claim_size f a ∷ []) ∷ claim_size f b ∷ [])
  claim_size f (conditional c a b) =
      round (round (round (claim_size f c ∷ []) ∷ claim_size f a ∷ []) ∷ round (claim_size f c ∷ claim_size f b ∷ []) ∷ [])
  claim_size f (quantified q xs ss ps a) =
      block_size (merges q ps a) (sort_sizes f ss ++ pattern_sizes f ps) (claim_size f a)
