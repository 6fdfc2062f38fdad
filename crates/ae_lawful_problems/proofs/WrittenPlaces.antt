-- Places that are written once each: as many of them as there are places are all of them.
use Rattle.std.proofs.Common.{arith, ◌≡◌, ◌∙◌, ◌<◌, ℕ, true, false, ◌||◌, nat_eq, List, [], ◌∷◌, length, sym, ap, subst, Some, slice_get}
use Rattle.std.proofs.Common.{true≢false}
use Rattle.ae_base.proofs.ListFacts.{number_at}
use Rattle.std.specs.List.{AllByRecursion, list_any, IsDistinct}
use Rattle.std.proofs.lemmas.Bool.{eqb-true, eq-eqb, or_parts}
use Rattle.std.proofs.lemmas.Map.Steps.{length-le_from_distinct_below}
use Rattle.ae_base.proofs.Tests.{by_bool, not_both}

-- each of them is none of those before
abbrev pub Once : List ℕ → List ℕ → Type 0
Once got [] = Unit {0}
Once got (p ∷ ps) = (list_any (nat_eq p) got ≡ false) × Once (p ∷ got) ps

unequal_turned : (x y : ℕ) → nat_eq x y ≡ false → nat_eq y x ≡ false
unequal_turned x y e = by_bool (nat_eq y x) (λ t. not_both (nat_eq x y) (eq-eqb x y (sym (eqb-true y x t))) e) (λ f. f)

abbrev NotIn : List ℕ → ℕ → Type 0
NotIn got k = list_any (nat_eq k) got ≡ false

first_not : (p : ℕ) (got ps : List ℕ) → AllByRecursion (NotIn (p ∷ got)) ps → AllByRecursion (λ y. nat_eq p y ≡ false) ps
first_not p got [] a = tt
first_not p got (k ∷ ps) a = (unequal_turned k p (or_parts (nat_eq k p) (list_any (nat_eq k) got) a.0).0, first_not p got ps a.1)

others_not : (p : ℕ) (got ps : List ℕ) → AllByRecursion (NotIn (p ∷ got)) ps → AllByRecursion (NotIn got) ps
others_not p got [] a = tt
others_not p got (k ∷ ps) a = ((or_parts (nat_eq k p) (list_any (nat_eq k) got) a.0).1, others_not p got ps a.1)

none_before : (got ps : List ℕ) → Once got ps → AllByRecursion (NotIn got) ps
none_before got [] o = tt
none_before got (p ∷ ps) o = (o.0, others_not p got ps (none_before (p ∷ got) ps o.1))

once_distinct : (got ps : List ℕ) → Once got ps → IsDistinct nat_eq ps
unfolding IsDistinct
once_distinct got [] o = tt
once_distinct got (p ∷ ps) o = (first_not p got ps (none_before (p ∷ got) ps o.1), once_distinct (p ∷ got) ps o.1)

below_of : (n : ℕ) (ps : List ℕ) → AllByRecursion (λ k. k < n) ps → (q : ℕ) → list_any (nat_eq q) ps ≡ true → q < n
below_of n [] a q e = absurd (true≢false (sym e))
below_of n (p ∷ ps) a q e =
    by_bool (nat_eq q p) (λ t. subst (λ (x : ℕ). x < n) (sym (eqb-true q p t)) a.0)
    (λ f. below_of n ps a.1 q (sym (ap (λ b. b || list_any (nat_eq q) ps) f) ∙ e))

none_equal : (q : ℕ) (ps : List ℕ) → list_any (nat_eq q) ps ≡ false → AllByRecursion (λ y. nat_eq q y ≡ false) ps
none_equal q [] e = tt
none_equal q (p ∷ ps) e = let x = or_parts (nat_eq q p) (list_any (nat_eq q) ps) e in (x.0, none_equal q ps x.1)

one_more : (k : ℕ) (ps : List ℕ) → AllByRecursion (λ y. nat_eq k y ≡ false) ps → IsDistinct nat_eq ps → IsDistinct nat_eq (k ∷ ps)
unfolding IsDistinct
one_more k ps a d = (a, d)

pub all_there : (n : ℕ) (ps : List ℕ) → Once [] ps → AllByRecursion (λ k. k < n) ps → length ps ≡ n → (k : ℕ) → k < n → (j : ℕ) × (slice_get ps j ≡ Some k)
all_there n ps o a e k l =
    by_bool (list_any (nat_eq k) ps) (λ t. number_at ps k t)
    (λ f. absurd (let x = length-le_from_distinct_below (k ∷ ps) n (one_more k ps (none_equal k ps f) (once_distinct [] ps o)) (below_of n (k ∷ ps) (l, a)) in omega (arith, e, x)))
