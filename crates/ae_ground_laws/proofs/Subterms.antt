-- What stands in a term.
use Rattle.std.specs.Prelude.{ℕ, ℤ, Bool, List, [], ◌∷◌, ◌++◌, ◌≡◌, map}
use Rattle.std.specs.List.{AllByRecursion, flat_map}
use Rattle.std.proofs.Common.{refl, sym, ap, ◌∙◌, subst}
use Rattle.ae_base.proofs.AllOf.{all_append}
use Rattle.ae_core.specs.Inner.Induction.{by_terms}
use Rattle.ae_core.specs.declared.terms.Sort.{Sort}
use Rattle.ae_core.specs.declared.terms.Head.{Head}
use Rattle.ae_core.specs.declared.terms.Term.{Term, Term-F, Bound, Num, Fresh, Apply, out-Term}
use Rattle.ae_core.specs.declared.terms.Term.TheOpen as layer
use Rattle.ae_core.specs.declared.terms.Term.TheVariants.{outs-Num, outs-Fresh, outs-Apply}
use Rattle.ae_core.proofs.Recursion.{para_bound, para_num, para_fresh, para_apply}
use Rattle.ae_evaluation.proofs.Decisions.{both_all}
use Rattle.ae_journal.specs.Ground.{subterms, subterms_step}

pub subterms_bound : (i : ℕ) → subterms (Bound i) ≡ Bound i ∷ []
unfolding subterms
subterms_bound i = para_bound (List Term) subterms_step i

pub subterms_num : (top bottom : ℤ) (real : Bool) → subterms (Num top bottom real) ≡ Num top bottom real ∷ []
unfolding subterms
subterms_num top bottom real = para_num (List Term) subterms_step top bottom real

pub subterms_fresh : (n : ℕ) (s : Sort) → subterms (Fresh n s) ≡ Fresh n s ∷ []
unfolding subterms
subterms_fresh n s = para_fresh (List Term) subterms_step n s

firsts : (us : List Term) → map {A = Term × List Term} (λ a. a.0) (map (λ t. (t, subterms t)) us) ≡ us
firsts [] = refl
firsts (t ∷ us) = ap (λ vs. t ∷ vs) (firsts us)

seconds : (us : List Term) → flat_map {X = Term × List Term} (λ a. a.1) (map (λ t. (t, subterms t)) us) ≡ flat_map subterms us
seconds [] = refl
seconds (t ∷ us) = ap (λ vs. subterms t ++ vs) (seconds us)

subterms_layer : (h : Head) (ss : List Sort) (us : List Term)
    → subterms (Apply h ss us) ≡ Apply h ss (map {A = Term × List Term} (λ a. a.0) (map (λ t. (t, subterms t)) us)) ∷ flat_map {X = Term × List Term} (λ a. a.1) (map (λ t. (t, subterms t)) us)
unfolding subterms
subterms_layer h ss us = para_apply (List Term) subterms_step h ss us

pub subterms_apply : (h : Head) (ss : List Sort) (us : List Term) → subterms (Apply h ss us) ≡ Apply h ss us ∷ flat_map subterms us
subterms_apply h ss us = subterms_layer h ss us ∙ (λ i. Apply h ss (firsts us i) ∷ seconds us i)

-- ---- what holds of all that stands in terms
pub all_flat : (P : Term → Type 0) (us : List Term) → AllByRecursion (λ u. AllByRecursion P (subterms u)) us → AllByRecursion P (flat_map subterms us)
all_flat P [] a = tt
all_flat P (u ∷ us) a = all_append P (subterms u) (flat_map subterms us) a.0 (all_flat P us a.1)

pub all_apart : (P : Term → Type 0) (us : List Term) → AllByRecursion P (flat_map subterms us) → AllByRecursion (λ u. AllByRecursion P (subterms u)) us
all_apart P [] a = tt
all_apart P (u ∷ us) a = let b = both_all P (subterms u) (flat_map subterms us) a in (b.0, all_apart P us b.1)

-- a term stands in itself
pub own : (P : Term → Type 0) (t : Term) → AllByRecursion P (subterms t) → P t
own P =
    by_terms (λ t. AllByRecursion P (subterms t) → P t)
    (λ i a. (subst (AllByRecursion P) (subterms_bound i) a).0)
    (λ x y r a. (subst (AllByRecursion P) (subterms_num x y r) a).0)
    (λ n s a. (subst (AllByRecursion P) (subterms_fresh n s) a).0)
    (λ h ss us k a. (subst (AllByRecursion P) (subterms_apply h ss us) a).0)

-- ---- terms of different forms
pub number_no_application : (top bottom : ℤ) (real : Bool) (h : Head) (ss : List Sort) (us : List Term) → Num top bottom real ≡ Apply h ss us → ⊥
number_no_application top bottom real h ss us e =
    let z : ◌≡◌ {A = Term-F Term} (layer.Num top bottom real) (layer.Apply h ss us) = sym (outs-Num top bottom real) ∙ ap out-Term e ∙ outs-Apply h ss us in cc

pub constant_no_application : (n : ℕ) (s : Sort) (h : Head) (ss : List Sort) (us : List Term) → Fresh n s ≡ Apply h ss us → ⊥
constant_no_application n s h ss us e =
    let z : ◌≡◌ {A = Term-F Term} (layer.Fresh n s) (layer.Apply h ss us) = sym (outs-Fresh n s) ∙ ap out-Term e ∙ outs-Apply h ss us in cc

pub same_head : (h k : Head) (ss os : List Sort) (us vs : List Term) → Apply h ss us ≡ Apply k os vs → h ≡ k
same_head h k ss os us vs e =
    let z : ◌≡◌ {A = Term-F Term} (layer.Apply h ss us) (layer.Apply k os vs) = sym (outs-Apply h ss us) ∙ ap out-Term e ∙ outs-Apply k os vs in cc

pub same_arguments : (h k : Head) (ss os : List Sort) (us vs : List Term) → Apply h ss us ≡ Apply k os vs → us ≡ vs
same_arguments h k ss os us vs e =
    let z : ◌≡◌ {A = Term-F Term} (layer.Apply h ss us) (layer.Apply k os vs) = sym (outs-Apply h ss us) ∙ ap out-Term e ∙ outs-Apply k os vs in cc
