-- Two rising lists of terms are the same where one is a permutation of the other.
use Rattle.std.specs.Prelude.{ℕ, suc, ◌+◌, ◌<◌, ◌≤◌, Bool, true, false, List, [], ◌∷◌, ◌≡◌, ◌≢◌, length, get_or}
use Rattle.std.specs.List.{AllByRecursion, sum_by}
use Rattle.std.specs.List.Sorted.{IsPermutation, IsSortedByClosure}
use Rattle.std.specs.Ordering.{is_lt, ordering_reverse}
use Rattle.std.specs.declared.cmp.Ordering.{Ordering}
use Rattle.std.specs.declared.cmp.Ordering.TheVariants.{Less, Equal, Greater}
use Rattle.std.specs.Fn.{Called}
use Rattle.std.proofs.lemmas.Fn.{always_returns_same}
use Rattle.std.proofs.lemmas.List.Sums.{sum_by-cons}
use Rattle.std.proofs.lemmas.List.Sorted.{ranks_by, sorted_far, sum_by-IsPermutation, IsPermutation-sym, IsPermutation-trans}
use denote.Ref.{Bor}
use denote.Param.Members.{Mut}
use mathlib.Core.Path.{refl, sym, ap, ◌∙◌, subst}
use native.Mathlib.Omega.{arith}
use Rattle.ae_core.specs.Orders.{term_order}
use Rattle.ae_core.specs.Decided.{Term_discrete}
use Rattle.ae_base.specs.Decided.{pick}
use Rattle.ae_base.proofs.Decided.{pick_yes, pick_no}
use Rattle.ae_core.proofs.OrderLaws.{term_total, term_exact}
use Rattle.ae_core.specs.declared.terms.Term.{Term}
use Rattle.ae_calc.specs.Inner.LentTerms.{values, IsRisingList}

abbrev SameSums : List Term → List Term → Type 0
SameSums xs ys = (f : Term → ℕ) → sum_by f xs ≡ sum_by f ys

-- 1 at the term, 0 elsewhere
abbrev mark : Term → Term → ℕ
mark t u = pick (Term_discrete t u) 1 0

absent : (t : Term) (us : List Term) → AllByRecursion (λ u. t ≢ u) us → sum_by (mark t) us ≡ 0
absent t [] a = refl
absent t (u ∷ us) a =
    let here : mark t u ≡ 0 = pick_no (Term_discrete t u) 1 0 a.0 in
    let rest = absent t us a.1 in
    sum_by-cons (mark t) u us ∙ (λ i. here i + rest i)

-- what comes before the first one isn't there
not_behind : (x y : Term) (ys : List Term) → term_order x y ≡ Less → AllByRecursion (λ u. is_lt (term_order u y) ≡ false) ys → AllByRecursion (λ u. x ≢ u) ys
not_behind x y [] l a = tt
not_behind x y (u ∷ us) l a =
    let before : x ≡ u → is_lt (term_order u y) ≡ true = λ e. ap (λ w. is_lt (term_order w y)) (sym e) ∙ ap is_lt l in
    let never : x ≢ u = λ e. let p = sym (before e) ∙ a.0 in cc p in
    (never, not_behind x y us l a.1)

not_itself : (x y : Term) → term_order x y ≡ Less → x ≢ y
not_itself x y l e = let p = sym l ∙ (term_exact x y).1 e in cc p

apart : (x y : Term) (xs ys : List Term) → term_order x y ≡ Less → IsRisingList (y ∷ ys) → SameSums (x ∷ xs) (y ∷ ys) → ⊥
apart x y xs ys l a s =
    let none : sum_by (mark x) (y ∷ ys) ≡ 0 = absent x (y ∷ ys) (not_itself x y l, not_behind x y ys l a.0) in
    let one : mark x x ≡ 1 = pick_yes (Term_discrete x x) 1 0 refl in
    let all : 1 + sum_by (mark x) xs ≡ 0 = (λ i. sym one i + sum_by (mark x) xs) ∙ sym (sum_by-cons (mark x) x xs) ∙ s (mark x) ∙ none in
    omega (arith, all)

tails : (x y : Term) (xs ys : List Term) → x ≡ y → SameSums (x ∷ xs) (y ∷ ys) → SameSums xs ys
tails x y xs ys e s f =
    let h : f x + sum_by f xs ≡ f x + sum_by f ys = sym (sum_by-cons f x xs) ∙ s f ∙ sum_by-cons f y ys ∙ ap (λ w. f w + sum_by f ys) (sym e) in
    omega (arith, h)

turned : (x y : Term) → term_order x y ≡ Greater → term_order y x ≡ Less
turned x y g = term_total.antisymm y x ∙ ap ordering_reverse g

same_heads : (x y : Term) (xs ys : List Term) → IsRisingList (x ∷ xs) → IsRisingList (y ∷ ys) → SameSums (x ∷ xs) (y ∷ ys) → (SameSums xs ys → xs ≡ ys) → (o : Ordering) → term_order x y ≡ o → x ∷ xs ≡ y ∷ ys
same_heads x y xs ys a b s rest Less o = absurd (apart x y xs ys o b s)
same_heads x y xs ys a b s rest Equal o =
    let e = (term_exact x y).0 o in
    let r = rest (tails x y xs ys e s) in
    λ i. e i ∷ r i
same_heads x y xs ys a b s rest Greater o = absurd (apart y x ys xs (turned x y o) a (λ f. sym (s f)))

-- rising lists with the same sums are the same
same_rising : (xs ys : List Term) → IsRisingList xs → IsRisingList ys → SameSums xs ys → xs ≡ ys
same_rising [] [] a b s = refl
same_rising [] (y ∷ ys) a b s = absurd (let h : 0 ≡ 1 + sum_by (λ u. 1) ys = s (λ u. 1) ∙ sum_by-cons (λ u. 1) y ys in omega (arith, h))
same_rising (x ∷ xs) [] a b s = absurd (let h : 1 + sum_by (λ u. 1) xs ≡ 0 = sym (sum_by-cons (λ u. 1) x xs) ∙ s (λ u. 1) in omega (arith, h))
same_rising (x ∷ xs) (y ∷ ys) a b s = same_heads x y xs ys a b s (λ t. same_rising xs ys a.1 b.1 t) (term_order x y) refl

-- rising lists of the elements of two lists are the same exactly where one of these is a permutation of the other
pub rising_permutations : (us vs xs ys : List Term) → IsPermutation us xs → IsPermutation vs ys → IsRisingList xs → IsRisingList ys → IsPermutation us vs → xs ≡ ys
rising_permutations us vs xs ys p q a b h =
    same_rising xs ys a b (λ f. sum_by-IsPermutation f us xs p ∙ sym (sum_by-IsPermutation f us vs h) ∙ sym (sum_by-IsPermutation f vs ys q))

pub permutations_of_one : (us vs xs ys : List Term) → IsPermutation us xs → IsPermutation vs ys → xs ≡ ys → IsPermutation us vs
permutations_of_one us vs xs ys p q e =
    IsPermutation-trans us xs vs p (subst (λ w. IsPermutation w vs) (sym e) (IsPermutation-sym vs ys q))

-- ---- what a sort of lent terms gives
each_of : (P : Term → Type 0) (xs : List (Bor Term)) → ((j : ℕ) (d : Bor Term) → j < length xs → P (get_or xs j d).now) → AllByRecursion P (values xs)
each_of P [] h = tt
each_of P (x ∷ xs) h = (h 0 x (omega arith), each_of P xs (λ j d b. h (suc j) d (omega (arith, b))))

rising_from_far : (xs : List (Bor Term)) → ((i j : ℕ) (d : Bor Term) → i ≤ j → j < length xs → is_lt (term_order (get_or xs j d).now (get_or xs i d).now) ≡ false) → IsRisingList (values xs)
rising_from_far [] h = tt
rising_from_far (x ∷ xs) h = (
  each_of (λ u. is_lt (term_order u x.now) ≡ false) xs (λ j d b. h 0 (suc j) d (omega arith) (omega (arith, b))),
  rising_from_far xs (λ i j d a b. h (suc i) (suc j) d (omega (arith, a)) (omega (arith, b))),
)

pub rising_from_sort : {F : Type 0} {g : Mut F (Bor (Bor Term) × (Bor (Bor Term) × Unit {0})) Ordering} {f : F} (xs : List (Bor Term)) → IsSortedByClosure g f xs
    → ((a : Bor (Bor Term) × (Bor (Bor Term) × Unit {0})) (r : Ordering) (f' : F) → Called g f a r f' → (r ≡ term_order a.0.now.now a.1.0.now.now) × (f' ≡ f)) → IsRisingList (values xs)
rising_from_sort {g = g} {f = f} xs up h =
    let lt : Bor Term → Bor Term → Bool = λ x y. is_lt (term_order x.now y.now) in
    let order = ranks_by term_total (λ (t : Bor Term). t.now) in
    rising_from_far xs
    (sorted_far lt order xs
    (up lt order (always_returns_same g (λ a r. is_lt r ≡ is_lt (term_order a.0.now.now a.1.0.now.now)) f (λ a r f' k. (ap is_lt (h a r f' k).0, (h a r f' k).1)))))
