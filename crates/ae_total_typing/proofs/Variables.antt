-- The unknowns of pairs of sorts, as a list: it gets shorter where one of them is bound.
use native.Mathlib.Decide.{ℕ_discrete}
use Rattle.std.proofs.Common.{◌≡◌, ℕ, suc, ◌<◌, ◌≤◌, ◌⊎◌, inl, inr, List, [], ◌∷◌, ◌++◌, map, length, sym, ◌∙◌, subst, arith}
use Rattle.std.proofs.lemmas.Bool.{cases_lt}
use Rattle.std.specs.List.{AllByRecursion}
use Rattle.ae_base.specs.Decided.{pick}
use Rattle.ae_base.proofs.AllOf.{all_weaker}
use Rattle.ae_core.specs.declared.terms.Sort.{Sort}
use Rattle.ae_types.specs.declared.pairs.SortPair.{SortPair}
use Rattle.ae_types.specs.Substitutions.{put}
use Rattle.ae_types.specs.Clashes.{total, count_of}
use Rattle.ae_total_typing.proofs.SortForms.{by_forms, only_itself, none_in_constant, in_arguments, found}
use Rattle.ae_total_typing.proofs.Unifiers.{put_pairs, bind, bind_here, bind_other}

-- ---- lists of unknowns
abbrev pub Has : List ℕ → ℕ → Type 0
Has [] x = ⊥
Has (y ∷ ys) x = (x ≡ y) ⊎ Has ys x

has_left : (ys zs : List ℕ) (x : ℕ) → Has ys x → Has (ys ++ zs) x
has_left [] zs x h = absurd h
has_left (y ∷ ys) zs x (inl e) = inl e
has_left (y ∷ ys) zs x (inr h) = inr (has_left ys zs x h)

has_right : (ys zs : List ℕ) (x : ℕ) → Has zs x → Has (ys ++ zs) x
has_right [] zs x h = h
has_right (y ∷ ys) zs x h = inr (has_right ys zs x h)

abbrev pub without : ℕ → List ℕ → List ℕ
without x [] = []
without x (y ∷ ys) = pick (ℕ_discrete y x) (without x ys) (y ∷ without x ys)

stays_at : (x y z : ℕ) (zs : List ℕ) (e : Dec (z ≡ x)) → ¬ (y ≡ x) → (Has zs y → Has (without x zs) y) → (y ≡ z) ⊎ Has zs y
    → Has (pick e (without x zs) (z ∷ without x zs)) y
stays_at x y z zs (yes i) d k (inl j) = absurd (d (j ∙ i))
stays_at x y z zs (yes i) d k (inr h) = k h
stays_at x y z zs (no n) d k (inl j) = inl j
stays_at x y z zs (no n) d k (inr h) = inr (k h)

pub stays : (x y : ℕ) (zs : List ℕ) → ¬ (y ≡ x) → Has zs y → Has (without x zs) y
stays x y [] d h = absurd h
stays x y (z ∷ zs) d h = stays_at x y z zs (ℕ_discrete z x) d (stays x y zs d) h

one_at_most : (x y : ℕ) (ys : List ℕ) (e : Dec (y ≡ x)) → length (without x ys) ≤ length ys
    → length (pick e (without x ys) (y ∷ without x ys)) ≤ suc (length ys)
one_at_most x y ys (yes i) a = omega arith
one_at_most x y ys (no n) a = omega arith

no_longer : (x : ℕ) (ys : List ℕ) → length (without x ys) ≤ length ys
no_longer x [] = omega arith
no_longer x (y ∷ ys) = one_at_most x y ys (ℕ_discrete y x) (no_longer x ys)

shorter_at : (x y : ℕ) (ys : List ℕ) (e : Dec (y ≡ x)) → length (without x ys) ≤ length ys → (Has ys x → length (without x ys) < length ys)
    → (x ≡ y) ⊎ Has ys x → length (pick e (without x ys) (y ∷ without x ys)) < suc (length ys)
shorter_at x y ys (yes i) a k h = omega arith
shorter_at x y ys (no n) a k (inl e) = absurd (n (sym e))
shorter_at x y ys (no n) a k (inr h) = let q = k h in omega arith

pub shorter : (x : ℕ) (ys : List ℕ) → Has ys x → length (without x ys) < length ys
shorter x [] h = absurd h
shorter x (y ∷ ys) h = shorter_at x y ys (ℕ_discrete y x) (no_longer x ys) (shorter x ys) h

-- ---- the unknowns of a sort, and of pairs, are among these
abbrev pub Inside : List ℕ → Sort → Type 0
Inside vs s = (x : ℕ) → 0 < count_of x s → Has vs x

abbrev pub InsidePair : List ℕ → SortPair → Type 0
InsidePair vs q = Inside vs q.left × Inside vs q.right

abbrev pub AllInside : List ℕ → List SortPair → Type 0
AllInside vs qs = AllByRecursion (InsidePair vs) qs

abbrev InsideAll : List ℕ → List Sort → Type 0
InsideAll vs ss = (x : ℕ) → 0 < total (map (count_of x) ss) → Has vs x

listed_in : (ss : List Sort) → AllByRecursion (λ s. (vs : List ℕ) × Inside vs s) ss → (vs : List ℕ) × InsideAll vs ss
listed_in [] a = ([], λ x h. absurd (omega arith))
listed_in (s ∷ ss) a =
    let rest = listed_in ss a.1 in (
      a.0.0 ++ rest.0,
      λ x h. elim (cases_lt 0 (count_of x s)) [
        | inl b ↦ has_left a.0.0 rest.0 x (a.0.1 x b)
        | inr b ↦ has_right a.0.0 rest.0 x (rest.1 x (omega arith))
      ],
    )

listed : (s : Sort) → (vs : List ℕ) × Inside vs s
listed = by_forms (λ s. (vs : List ℕ) × Inside vs s)
    (λ i. (i ∷ [], λ x h. inl (sym (only_itself x i h))))
    (λ c. ([], λ x h. none_in_constant x c h))
    (λ h ss a. (let l = listed_in ss a in (l.0, λ x p. l.1 x (in_arguments x h ss p))))

listed_more : (q : SortPair) (qs : List SortPair) → (vs : List ℕ) × Inside vs q.left → (vs : List ℕ) × Inside vs q.right
    → (vs : List ℕ) × AllInside vs qs → (vs : List ℕ) × AllInside vs (q ∷ qs)
listed_more q qs l r rest = (
  l.0 ++ (r.0 ++ rest.0),
  (
    (λ x h. has_left l.0 (r.0 ++ rest.0) x (l.1 x h), λ x h. has_right l.0 (r.0 ++ rest.0) x (has_left r.0 rest.0 x (r.1 x h))),
    all_weaker (InsidePair rest.0) (InsidePair (l.0 ++ (r.0 ++ rest.0)))
        (λ p a. (λ x h. beyond x (a.0 x h), λ x h. beyond x (a.1 x h))) qs rest.1,
  ),
)
  where
    beyond : (x : ℕ) → Has rest.0 x → Has (l.0 ++ (r.0 ++ rest.0)) x
    beyond x h = has_right l.0 (r.0 ++ rest.0) x (has_right r.0 rest.0 x h)

pub all_listed : (qs : List SortPair) → (vs : List ℕ) × AllInside vs qs
all_listed [] = ([], tt)
all_listed (q ∷ qs) = listed_more q qs (listed q.left) (listed q.right) (all_listed qs)

-- ---- a bound unknown is gone
bound_at : (x : ℕ) (t : Sort) (vs : List ℕ) → count_of x t ≤ 0 → Inside vs t → (s : Sort) → Inside vs s → (y z : ℕ) → 0 < count_of z s
    → 0 < count_of y (bind x t z) → Dec (z ≡ x) → Has (without x vs) y
bound_at x t vs c it s is y z p q (yes e) =
    let r = subst (λ u. 0 < count_of y u) (bind_here x z t e) q in
    stays x y vs (λ i. (let w = subst (λ u. 0 < count_of u t) i r in omega arith)) (it y r)
bound_at x t vs c it s is y z p q (no d) =
    let r = only_itself y z (subst (λ u. 0 < count_of y u) (bind_other x z t d) q) in
    stays x y vs (λ i. d (r ∙ i)) (is y (subst (λ u. 0 < count_of u s) r p))

bound_in : (x : ℕ) (t : Sort) (vs : List ℕ) → count_of x t ≤ 0 → Inside vs t → (s : Sort) → Inside vs s
    → Inside (without x vs) (put (bind x t) s)
bound_in x t vs c it s is y h = found (bind x t) y (Has (without x vs) y) s (λ z p q. bound_at x t vs c it s is y z p q (ℕ_discrete z x)) h

pub all_bound : (x : ℕ) (t : Sort) (vs : List ℕ) → count_of x t ≤ 0 → Inside vs t → (qs : List SortPair) → AllInside vs qs
    → AllInside (without x vs) (put_pairs (bind x t) qs)
all_bound x t vs c it [] a = tt
all_bound x t vs c it (q ∷ qs) a = ((bound_in x t vs c it q.left a.0.0, bound_in x t vs c it q.right a.0.1), all_bound x t vs c it qs a.1)
