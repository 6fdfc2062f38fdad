-- Candidates of terms, at each variant.
use Rattle.std.specs.Prelude.{ℕ, ℤ, ◌-◌, ◌≡◌, Bool, true, false, cond, not, nat_lt, List, [], ◌∷◌, ◌++◌, map, Option, Some, None}
use Rattle.std.specs.List.{flat_map}
use Rattle.std.proofs.Common.{refl, sym, ap, ◌∙◌, append_assoc}
use Rattle.std.proofs.lemmas.List.{map-append}
use Rattle.ae_base.specs.Options.{when, ◌>>=◌}
use Rattle.ae_core.proofs.Recursion.{para_bound, para_num, para_fresh, para_apply, fold_bound, fold_num, fold_fresh, fold_apply}
use Rattle.ae_core.specs.declared.terms.Sort.{Sort}
use Rattle.ae_core.specs.declared.terms.Head.{Head}
use Rattle.ae_core.specs.declared.terms.Head.TheVariants as head
use Rattle.ae_core.specs.declared.terms.Op.TheVariants as op
use Rattle.ae_core.specs.declared.terms.Term.{Term, Bound, Num, Fresh, Apply}
use Rattle.ae_core.specs.declared.problems.Signature.{Signature}
use Rattle.ae_journal.specs.Triggers.{candidates, candidates_step, is_candidate, outer, outer_step, known_ones}
use Rattle.ae_trigger.specs.Inner.Candidates.{is_product, outers, outer_candidates, outer_candidates_of, whole_candidate}

-- ---- numbers and products
pub is_known : {A : Type 0} (b : Bool) (x y : A) → Some y ≡ cond b (Some x) None → true ≡ b
is_known true x y e = refl
is_known false x y e = cc

pub is_unknown : {A : Type 0} (b : Bool) (x : A) → None ≡ cond b (Some x) None → false ≡ b
is_unknown true x e = cc
is_unknown false x e = refl

pub product_int : (sig : Signature) (us : List Term) → is_candidate sig (head.Int op.Mul) us ≡ is_product us
product_int sig [] = refl
product_int sig (a ∷ []) = refl
product_int sig (a ∷ b ∷ []) = refl
product_int sig (a ∷ b ∷ c ∷ us) = refl

pub product_real : (sig : Signature) (us : List Term) → is_candidate sig (head.Real op.Mul) us ≡ is_product us
product_real sig [] = refl
product_real sig (a ∷ []) = refl
product_real sig (a ∷ b ∷ []) = refl
product_real sig (a ∷ b ∷ c ∷ us) = refl

pub ruleset product_rules = (product_int, product_real)

-- ---- terms outside of inner variables
pub outer_bound : (d i : ℕ) → outer d (Bound i) ≡ when (not (nat_lt i d)) (Bound (i - d))
unfolding outer
outer_bound d i = fold_bound (Option Term) (outer_step d) i

pub outer_num : (d : ℕ) (a b : ℤ) (r : Bool) → outer d (Num a b r) ≡ Some (Num a b r)
unfolding outer
outer_num d a b r = fold_num (Option Term) (outer_step d) a b r

pub outer_fresh : (d k : ℕ) (s : Sort) → outer d (Fresh k s) ≡ Some (Fresh k s)
unfolding outer
outer_fresh d k s = fold_fresh (Option Term) (outer_step d) k s

pub outer_apply : (d : ℕ) (h : Head) (ss : List Sort) (us : List Term) → outer d (Apply h ss us) ≡ (outers d us >>= λ ts. Some (Apply h ss ts))
unfolding outer
outer_apply d h ss us = fold_apply (Option Term) (outer_step d) h ss us

pub ruleset outer_rules = (outer_bound, outer_num, outer_fresh, outer_apply)

-- ---- candidates
firsts : {A : Type 0} (g : Term → A) (us : List Term) → map (λ (u : Term × A). u.0) (map (λ t. (t, g t)) us) ≡ us
firsts g [] = refl
firsts g (u ∷ us) = ap (λ w. u ∷ w) (firsts g us)

flat_seconds : (g : Term → List Term) (us : List Term) → flat_map (λ (u : Term × List Term). u.1) (map (λ t. (t, g t)) us) ≡ flat_map g us
flat_seconds g [] = refl
flat_seconds g (u ∷ us) = ap (λ w. g u ++ w) (flat_seconds g us)

known_more : (xs ys : List (Option Term)) → known_ones (xs ++ ys) ≡ known_ones xs ++ known_ones ys
known_more [] ys = refl
known_more (None ∷ xs) ys = known_more xs ys
known_more (Some t ∷ xs) ys = ap (λ w. t ∷ w) (known_more xs ys)

outer_more : (d : ℕ) (xs ys : List Term) → known_ones (map (outer d) (xs ++ ys)) ≡ known_ones (map (outer d) xs) ++ known_ones (map (outer d) ys)
outer_more d xs ys = ap known_ones (map-append (outer d) xs ys) ∙ known_more (map (outer d) xs) (map (outer d) ys)

outer_flat : (sig : Signature) (d : ℕ) (us : List Term) → known_ones (map (outer d) (flat_map (candidates sig) us)) ≡ outer_candidates_of sig d us
unfolding outer_candidates
outer_flat sig d [] = refl
outer_flat sig d (u ∷ us) = outer_more d (candidates sig u) (flat_map (candidates sig) us) ∙ ap (λ w. outer_candidates sig d u ++ w) (outer_flat sig d us)

whole_is : (d : ℕ) (t : Term) (b : Bool) → known_ones (map (outer d) (cond b (t ∷ []) [])) ≡ cond b (known_ones (outer d t ∷ [])) []
whole_is d t true = refl
whole_is d t false = refl

pub candidates_bound : (sig : Signature) (d i : ℕ) → outer_candidates sig d (Bound i) ≡ []
unfolding candidates outer_candidates
candidates_bound sig d i = ap (λ c. known_ones (map (outer d) c)) (para_bound (List Term) (candidates_step sig) i)

pub candidates_num : (sig : Signature) (d : ℕ) (a b : ℤ) (r : Bool) → outer_candidates sig d (Num a b r) ≡ []
unfolding candidates outer_candidates
candidates_num sig d a b r = ap (λ c. known_ones (map (outer d) c)) (para_num (List Term) (candidates_step sig) a b r)

pub candidates_fresh : (sig : Signature) (d k : ℕ) (s : Sort) → outer_candidates sig d (Fresh k s) ≡ []
unfolding candidates outer_candidates
candidates_fresh sig d k s = ap (λ c. known_ones (map (outer d) c)) (para_fresh (List Term) (candidates_step sig) k s)

pub candidates_apply : (sig : Signature) (d : ℕ) (h : Head) (ss : List Sort) (us : List Term)
    → outer_candidates sig d (Apply h ss us) ≡ whole_candidate sig d (Apply h ss us) h us ++ outer_candidates_of sig d us
unfolding candidates outer_candidates
candidates_apply sig d h ss us =
    ap (λ c. known_ones (map (outer d) c))
    (para_apply (List Term) (candidates_step sig) h ss us
    ∙ (λ i. cond (is_candidate sig h (firsts (candidates sig) us i)) (Apply h ss (firsts (candidates sig) us i) ∷ []) [] ++ flat_seconds (candidates sig) us i))
    ∙ outer_more d (cond (is_candidate sig h us) (Apply h ss us ∷ []) []) (flat_map (candidates sig) us)
    ∙ (λ i. whole_is d (Apply h ss us) (is_candidate sig h us) i ++ outer_flat sig d us i)

pub ruleset candidate_rules = (candidates_bound, candidates_num, candidates_fresh, candidates_apply)

pub apply_joined : (sig : Signature) (d : ℕ) (t : Term) (h : Head) (ss : List Sort) (us vs ws : List Term) (found one two : List Term) → t ≡ Apply h ss us → vs ≡ us → ws ≡ us
    → one ≡ found ++ whole_candidate sig d t h vs → two ≡ one ++ outer_candidates_of sig d ws → two ≡ found ++ outer_candidates sig d t
apply_joined sig d t h ss us vs ws found one two e v w f g =
    g ∙ (λ i. f i ++ outer_candidates_of sig d (w i)) ∙ append_assoc found (whole_candidate sig d t h vs) (outer_candidates_of sig d us)
    ∙ (λ i. found ++ (whole_candidate sig d (e i) h (v i) ++ outer_candidates_of sig d us))
    ∙ ap (λ x. found ++ x) (sym (ap (outer_candidates sig d) e ∙ candidates_apply sig d h ss us))
