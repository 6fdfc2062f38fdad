-- How large the conjunction of the inequalities of terms is: each term stands in as many as there are others, and the first of them
-- is the deepest.
use Rattle.std.proofs.Common.{arith, ◌≡◌, ◌∙◌, ℕ, zero, suc, ◌+◌, ◌*◌, ◌-◌, ◌≤◌, max, List, [], ◌∷◌, ◌++◌, map, length, refl, sym, ap}
use Rattle.std.proofs.lemmas.List.{length-append, map-append}
use Rattle.std.proofs.Math.Nat.{mul-suc, suc-mul, mul_comm}
use Rattle.ae_core.specs.declared.terms.Term.{Term}
use Rattle.ae_core.specs.declared.formulas.Formula.{Formula, Not, Eq, And}
use Rattle.ae_elab.specs.Elaboration.{differs_from, differences, all_after, all_true}
use Rattle.ae_elab.specs.Sizes.{Size, formula_size, term_size, round, total, deepest}
use Rattle.ae_elab.specs.Weights.{Weight, within, beside, either_weight, pairs, above_pair}
use Rattle.ae_elab.proofs.WeightLaws.{same_size, same_weight, one, size_not, size_and, within_branches, beside_branches}
use Rattle.ae_sizes.specs.Inner.Weights.{in_pairs, inequalities, distinct_round}
use Rattle.ae_sizes.proofs.CountedLaws.{total_both, deepest_both}
use Rattle.ae_sizes.proofs.FoldSizes.{size_eq, size_true}
use Rattle.ae_sizes.proofs.Standing.{shared, use_size, sized}

-- ---- a conjunction, grouped to the left
-- the levels of formulas of which each has its conjunction and those of the later ones above it, and k more
abbrev down : ℕ → List Size → ℕ
down k [] = 0
down k (t ∷ ts) = max (t.levels + suc (length ts + k)) (down k ts)

conjunction : (f : Formula) (gs : List Formula) → formula_size (all_after f gs) ≡ record {
  nodes = (formula_size f).nodes + total (map formula_size gs) + length gs;
  levels = max ((formula_size f).levels + length gs) (down 0 (map formula_size gs));
}
conjunction f [] = same_size (formula_size f) (record { nodes = (formula_size f).nodes + 0 + 0; levels = max ((formula_size f).levels + 0) 0 }) (omega arith) (omega arith)
conjunction f (g ∷ gs) =
    let s = formula_size f in
    let t = formula_size g in
    let ts = map formula_size gs in
    let e = size_and f g in
    let n : (formula_size (And f g)).nodes ≡ suc (s.nodes + (t.nodes + 0)) = ap (λ x. x.nodes) e in
    let l : (formula_size (And f g)).levels ≡ suc (max s.levels (max t.levels 0)) = ap (λ x. x.levels) e in
    let c : length ts ≡ length gs = as_long gs in
    conjunction (And f g) gs
    ∙ same_size (record { nodes = (formula_size (And f g)).nodes + total ts + length gs; levels = max ((formula_size (And f g)).levels + length gs) (down 0 ts) })
    (record { nodes = s.nodes + (t.nodes + total ts) + suc (length gs); levels = max (s.levels + suc (length gs)) (max (t.levels + suc (length ts + 0)) (down 0 ts)) })
    (omega arith) (omega arith)
  where
    as_long : (gs : List Formula) → length (map formula_size gs) ≡ length gs
    as_long [] = refl
    as_long (g ∷ gs) = ap suc (as_long gs)

-- ---- inequalities
abbrev differ : Size → Size → Size
differ s t = round (round (s ∷ t ∷ []) ∷ [])

abbrev from : Size → List Size → List Size
from s [] = []
from s (t ∷ ts) = differ s t ∷ from s ts

abbrev all_of : List Size → List Size
all_of [] = []
all_of (s ∷ ss) = from s ss ++ all_of ss

one_differs : (t u : Term) → formula_size (Not (Eq t u)) ≡ differ (term_size t) (term_size u)
one_differs t u = size_not (Eq t u) ∙ ap (λ x. round (x ∷ [])) (size_eq t u)

from_sizes : (t : Term) (us : List Term) → map formula_size (differs_from t us) ≡ from (term_size t) (map term_size us)
from_sizes t [] = refl
from_sizes t (u ∷ us) = ap (λ x. x ∷ map formula_size (differs_from t us)) (one_differs t u) ∙ ap (λ xs. differ (term_size t) (term_size u) ∷ xs) (from_sizes t us)

all_sizes : (ts : List Term) → map formula_size (differences ts) ≡ all_of (map term_size ts)
all_sizes [] = refl
all_sizes (t ∷ ts) =
    map-append formula_size (differs_from t ts) (differences ts)
    ∙ ap (λ xs. xs ++ map formula_size (differences ts)) (from_sizes t ts)
    ∙ ap (λ xs. from (term_size t) (map term_size ts) ++ xs) (all_sizes ts)

from_long : (s : Size) (ts : List Size) → length (from s ts) ≡ length ts
from_long s [] = refl
from_long s (t ∷ ts) = ap suc (from_long s ts)

all_long : (ts : List Size) → length (all_of ts) ≡ pairs (length ts)
all_long [] = refl
all_long (s ∷ ss) =
    length-append (from s ss) (all_of ss) ∙ ap (λ n. n + length (all_of ss)) (from_long s ss) ∙ ap (λ n. length ss + n) (all_long ss)

-- ---- their nodes
from_nodes : (s : Size) (ts : List Size) → total (from s ts) ≡ length ts * s.nodes + (total ts + (length ts + length ts))
from_nodes s [] = omega arith
from_nodes s (t ∷ ts) = let e = from_nodes s ts in let m = suc-mul (length ts) s.nodes in omega arith

all_nodes : (ts : List Size) → total (all_of ts) ≡ total ts * (length ts - 1) + (pairs (length ts) + pairs (length ts))
all_nodes [] = omega arith
all_nodes (s ∷ []) = omega arith
all_nodes (s ∷ t ∷ ts) =
    let ss = t ∷ ts in
    let n = length ts in
    let a = total_both (from s ss) (all_of ss) in
    let b = from_nodes s ss in
    let c = all_nodes (t ∷ ts) in
    let d : (s.nodes + total ss) * suc n ≡ s.nodes * suc n + total ss * suc n = sym (shared s.nodes (total ss) n) in
    let e : suc n * s.nodes ≡ s.nodes * suc n = mul_comm (suc n) s.nodes in
    let f : total ss * suc n ≡ total ss * n + total ss = mul-suc (total ss) n in
    let g : total ss * (suc n - 1) ≡ total ss * n = ap (λ k. total ss * k) (let h : suc n - 1 ≡ n = omega arith in h) in
    let i : (s.nodes + total ss) * (suc (suc n) - 1) ≡ (s.nodes + total ss) * suc n = ap (λ k. (s.nodes + total ss) * k) (let h : suc (suc n) - 1 ≡ suc n = omega arith in h) in
    omega arith

-- ---- their levels
down_both : (k : ℕ) (xs ys : List Size) → down k (xs ++ ys) ≡ max (down (length ys + k) xs) (down k ys)
down_both k [] ys = omega arith
down_both k (x ∷ xs) ys = let e = down_both k xs ys in let l = length-append xs ys in omega arith

down_low : (k : ℕ) (xs : List Size) → down k xs ≤ deepest xs + (length xs + k)
down_low k [] = omega arith
down_low k (x ∷ xs) = let e = down_low k xs in omega arith

from_low : (s : Size) (ts : List Size) → deepest (from s ts) ≤ 2 + max s.levels (deepest ts)
from_low s [] = omega arith
from_low s (t ∷ ts) = let e = from_low s ts in omega arith

all_low : (ts : List Size) → deepest (all_of ts) ≤ 2 + deepest ts
all_low [] = omega arith
all_low (s ∷ ss) = let e = all_low ss in let f = from_low s ss in let g = deepest_both (from s ss) (all_of ss) in omega arith

-- terms of which each stands under as many conjunctions as there are later ones, and k more
abbrev later : ℕ → List Size → ℕ
later k [] = 0
later k (t ∷ ts) = max (t.levels + (2 + suc (length ts + k))) (later k ts)

later_low : (k : ℕ) (ts : List Size) → deepest ts + (2 + k) ≤ max (2 + k) (later k ts)
later_low k [] = omega arith
later_low k (t ∷ ts) = let e = later_low k ts in omega arith

from_down : (k n : ℕ) (s : Size) (ts : List Size) → s.levels + (2 + (length ts + k)) ≤ n → max n (down k (from s ts)) ≡ max n (later k ts)
from_down k n s [] h = refl
from_down k n s (t ∷ ts) h = let e = from_down k n s ts (omega arith) in let l = from_long s ts in omega arith

-- the levels of all inequalities of two terms and more
all_down : (s t : Size) (ts : List Size) → let q = pairs (suc (length ts)) in
    max ((differ s t).levels + (length ts + q)) (down 0 (from s ts ++ all_of (t ∷ ts)))
    ≡ max (s.levels + (2 + (length ts + q))) (max (t.levels + (2 + (length ts + q))) (later q ts))
all_down s t ts =
    let q = pairs (suc (length ts)) in
    let n = s.levels + (2 + (length ts + q)) in
    let long : length (all_of (t ∷ ts)) ≡ q = all_long (t ∷ ts) in
    let both = down_both 0 (from s ts) (all_of (t ∷ ts)) in
    let same : down (length (all_of (t ∷ ts)) + 0) (from s ts) ≡ down q (from s ts) = ap (λ k. down k (from s ts)) (let e : length (all_of (t ∷ ts)) + 0 ≡ q = omega arith in e) in
    let first = from_down q n s ts (omega arith) in
    let low = down_low 0 (all_of (t ∷ ts)) in
    let top = all_low (t ∷ ts) in
    let deep = later_low q ts in
    omega arith

-- ---- terms as they stand in pairs
one_stood : (n i : ℕ) (s : Size) → use_size (suc (suc n) - 1) (2 + above_pair (pairs (suc (suc n))) i) s
    ≡ record { nodes = s.nodes * suc n; levels = s.levels + (2 + above_pair (pairs (suc (suc n))) i) }
one_stood n i s = ap (λ k. use_size k (2 + above_pair (pairs (suc (suc n))) i) s) (let e : suc (suc n) - 1 ≡ suc n = omega arith in e)

stood : (p n i : ℕ) (vs : List Term) → p ≡ pairs (suc (suc n)) → (k : ℕ) → p ≡ suc (i + (length vs + k))
    → (sized (in_pairs (suc (suc n))) (suc (suc i)) vs).levels ≡ later k (map term_size vs)
stood p n i [] e k h = refl
stood p n i (v ∷ vs) e k h =
    let r = stood p n (suc i) vs e k (omega arith) in
    let l = as_long vs in
    let m = ap (λ z. z.levels) (one_stood n (suc (suc i)) (term_size v)) in
    let d : pairs (suc (suc n)) - suc i ≡ suc (length vs + k) = omega arith in
    omega arith
  where
    as_long : (vs : List Term) → length (map term_size vs) ≡ length vs
    as_long [] = refl
    as_long (v ∷ vs) = ap suc (as_long vs)

stood_nodes : (n i : ℕ) (vs : List Term) → (sized (in_pairs (suc (suc n))) i vs).nodes ≡ total (map term_size vs) * suc n
stood_nodes n i [] = omega arith
stood_nodes n i (v ∷ vs) =
    let e = stood_nodes n (suc i) vs in
    let m = ap (λ z. z.nodes) (one_stood n i (term_size v)) in
    let s = shared (term_size v).nodes (total (map term_size vs)) n in
    omega arith

-- ---- the whole
by_length : (vs : List Term) → one (formula_size (all_true (differences vs))) ≡ distinct_round (length vs) (one (sized (in_pairs (length vs)) 0 vs))
by_length [] =
    ap one size_true
    ∙ same_weight (one (round [])) (within 1 (one (record { nodes = 0; levels = 0 }))) (omega arith) (omega arith) (omega arith) (omega arith) (omega arith) (omega arith)
by_length (v ∷ []) =
    ap one size_true
    ∙ same_weight (one (round [])) (within 1 (one (sized (in_pairs 1) 0 (v ∷ [])))) (omega arith) (omega arith) (omega arith) (omega arith) (omega arith) (omega arith)
by_length (v ∷ w ∷ us) =
    let n = length us in
    let s = term_size v in
    let t = term_size w in
    let ss = map term_size us in
    let p = pairs (suc (suc n)) in
    let gs = differs_from v us ++ differences (w ∷ us) in
    let whole = sized (in_pairs (suc (suc n))) 0 (v ∷ w ∷ us) in
    let c : length ss ≡ n = as_long us in
    let g : map formula_size gs ≡ from s ss ++ all_of (t ∷ ss) =
    map-append formula_size (differs_from v us) (differences (w ∷ us)) ∙ ap (λ xs. xs ++ map formula_size (differences (w ∷ us))) (from_sizes v us)
    ∙ ap (λ xs. from s ss ++ xs) (all_sizes (w ∷ us)) in
    let f = one_differs v w in
    let l : length gs ≡ n + pairs (suc n) = length-append (differs_from v us) (differences (w ∷ us)) ∙ both_long v w us in
    let a = all_nodes (s ∷ t ∷ ss) in
    let b = stood_nodes n 0 (v ∷ w ∷ us) in
    let d = all_down s t ss in
    let k = stood p n 0 us refl (pairs (suc n)) (let h : p ≡ suc (0 + (n + pairs (suc n))) = omega arith in h) in
    let hv = ap (λ z. z.levels) (one_stood n 0 s) in
    let hw = ap (λ z. z.levels) (one_stood n 1 t) in
    let q : pairs (suc (length ss)) ≡ pairs (suc n) = ap (λ i. pairs (suc i)) c in
    let r : total (s ∷ t ∷ ss) * (suc (suc (length ss)) - 1) ≡ total (s ∷ t ∷ ss) * suc n = ap (λ i. total (s ∷ t ∷ ss) * i) (let h : suc (suc (length ss)) - 1 ≡ suc n = omega arith in h) in
    let x : later (pairs (suc (length ss))) ss ≡ later (pairs (suc n)) ss = ap (λ i. later i ss) q in
    let y : pairs (suc (suc (length ss))) ≡ p = ap (λ i. pairs (suc (suc i))) c in
    let nodes : (formula_size (Not (Eq v w))).nodes ≡ (differ s t).nodes = ap (λ z. z.nodes) f in
    let levels : (formula_size (Not (Eq v w))).levels ≡ (differ s t).levels = ap (λ z. z.levels) f in
    let sum : total (map formula_size gs) ≡ total (from s ss ++ all_of (t ∷ ss)) = ap total g in
    let deep : down 0 (map formula_size gs) ≡ down 0 (from s ss ++ all_of (t ∷ ss)) = ap (down 0) g in
    ap one (conjunction (Not (Eq v w)) gs)
    ∙ same_weight
    (one (record {
      nodes = (formula_size (Not (Eq v w))).nodes + total (map formula_size gs) + length gs;
      levels = max ((formula_size (Not (Eq v w))).levels + length gs) (down 0 (map formula_size gs));
    }))
    (beside (inequalities p ∷ []) (one whole))
    refl (omega arith) refl refl (omega arith) refl
  where
    as_long : (vs : List Term) → length (map term_size vs) ≡ length vs
    as_long [] = refl
    as_long (v ∷ vs) = ap suc (as_long vs)

    from_terms : (t : Term) (us : List Term) → length (differs_from t us) ≡ length us
    from_terms t [] = refl
    from_terms t (u ∷ us) = ap suc (from_terms t us)

    pair_terms : (us : List Term) → length (differences us) ≡ pairs (length us)
    pair_terms [] = refl
    pair_terms (u ∷ us) = length-append (differs_from u us) (differences us) ∙ ap (λ n. n + length (differences us)) (from_terms u us) ∙ ap (λ n. length us + n) (pair_terms us)

    both_long : (v w : Term) (us : List Term) → length (differs_from v us) + length (differences (w ∷ us)) ≡ length us + pairs (suc (length us))
    both_long v w us = ap (λ n. n + length (differences (w ∷ us))) (from_terms v us) ∙ ap (λ n. length us + n) (pair_terms (w ∷ us))

pub distinct_size : (n : ℕ) (vs : List Term) → length vs ≡ n → one (formula_size (all_true (differences vs))) ≡ distinct_round n (one (sized (in_pairs n) 0 vs))
distinct_size n vs e = by_length vs ∙ ap (λ n. distinct_round n (one (sized (in_pairs n) 0 vs))) e

pub distinct_branches : (n : ℕ) (c : Size) (v w : Weight) → either_weight c (distinct_round n v) (distinct_round n w) ≡ distinct_round n (either_weight c v w)
distinct_branches zero c v w = within_branches 1 c v w
distinct_branches (suc zero) c v w = within_branches 1 c v w
distinct_branches (suc (suc n)) c v w = beside_branches (inequalities (pairs (suc (suc n))) ∷ []) c v w
