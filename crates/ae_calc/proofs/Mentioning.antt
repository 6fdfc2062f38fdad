-- Where the constants that a line puts stand: at each form of term, formula and line.
use Rattle.std.specs.Prelude.{ℕ, zero, suc, ◌+◌, ◌-◌, ◌<◌, ◌≤◌, ℤ, Bool, true, false, ◌||◌, List, [], ◌∷◌, ◌++◌, ◌≡◌, map, length, take, drop, get_or, slice_get, Some}
use Rattle.std.specs.List.{list_any, flat_map}
use Rattle.std.proofs.Math.Bool.{or-false, or-true}
use Rattle.std.proofs.lemmas.List.Folds.{list_any-append, flat_map-map}
use Rattle.std.proofs.lemmas.List.{take_all, length-drop}
use mathlib.Core.Path.{refl, sym, ap, ◌∙◌}
use native.Mathlib.Omega.{arith}
use Rattle.ae_base.specs.Decided.{decided}
use Rattle.ae_core.specs.Decided.{Sort_discrete, Term_discrete}
use Rattle.ae_core.specs.Sorts.{same_sort}
use Rattle.ae_base.specs.Options.{or_else, ◌>>=◌}
use Rattle.ae_rules.specs.Instances.{count_from}
use Rattle.ae_core.specs.Constants.{constants, constants_step, formula_constants, formula_constants_step}
use Rattle.ae_core.specs.declared.terms.Sort.{Sort}
use Rattle.ae_core.specs.declared.terms.Head.{Head}
use Rattle.ae_core.specs.declared.terms.Term.{Term, Bound, Num, Fresh, Apply}
use Rattle.ae_core.specs.declared.formulas.Formula.{Formula, True, False, Eq, Lt, Le, Pred, Not, And, Or, Xor, Iff, All, Ex}
use Rattle.ae_core.specs.declared.formulas.Quant.{Quant, Quant-F, fold-Quant}
use Rattle.ae_core.proofs.Recursion.{fold_bound, fold_num, fold_fresh, fold_apply, fold_true, fold_false, fold_eq, fold_lt, fold_le, fold_pred, fold_not, fold_and, fold_or, fold_xor, fold_iff, fold_all, fold_ex, fold_block}
use Rattle.ae_calc.specs.Inner.Mentions.{has_sort, is_put, mentions, formula_mentions, quant_mentions}
use Rattle.ae_calc.proofs.FreshTerms.{count_more}

-- ---- lists
pub any_flat : {A B : Type 0} (p : B → Bool) (f : A → List B) (xs : List A) → list_any p (flat_map f xs) ≡ list_any (λ x. list_any p (f x)) xs
any_flat p f [] = refl
any_flat p f (x ∷ xs) = list_any-append p (f x) (flat_map f xs) ∙ ap (λ b. list_any p (f x) || b) (any_flat p f xs)

any_map : {A B : Type 0} (p : B → Bool) (f : A → List B) (xs : List A) → list_any p (flat_map (λ u. u) (map f xs)) ≡ list_any (λ x. list_any p (f x)) xs
any_map p f xs = ap (list_any p) (flat_map-map (λ u. u) f xs) ∙ any_flat p f xs

-- ---- the constants that are put
same_fresh : (m : ℕ) (x s : Sort) → decided (Term_discrete (Fresh m x) (Fresh m s)) ≡ same_sort x s
same_fresh m x s =
    elim (Term_discrete (Fresh m x) (Fresh m s)) as (λ d. decided d ≡ same_sort x s) [
      | yes e ↦ elim (Sort_discrete x s) as (λ d. true ≡ decided d) [ yes f ↦ refl | no n ↦ absurd (n cc) ]
      | no n ↦ elim (Sort_discrete x s) as (λ d. false ≡ decided d) [ yes f ↦ absurd (n (ap (Fresh m) f)) | no k ↦ refl ]
    ]

other_fresh : (m n : ℕ) (x s : Sort) → (m ≡ n → ⊥) → decided (Term_discrete (Fresh m x) (Fresh n s)) ≡ false
other_fresh m n x s h =
    elim (Term_discrete (Fresh m x) (Fresh n s)) as (λ d. decided d ≡ false) [
      | yes e ↦ absurd (h cc)
      | no k ↦ refl
    ]

put_below : (m : ℕ) (ss : List Sort) (n : ℕ) (s : Sort) → n < m → is_put m ss (Fresh n s) ≡ false
unfolding is_put
put_below m [] n s b = refl
put_below m (x ∷ ss) n s b = ap (λ h. h || is_put (suc m) ss (Fresh n s)) (other_fresh m n x s (λ e. omega (arith, b, e))) ∙ put_below (suc m) ss n s (omega (arith, b))

plus_zero : (m : ℕ) → m + 0 ≡ m
plus_zero m = omega arith

next_number : (m k : ℕ) → m + suc k ≡ suc m + k
next_number m k = omega arith

put_at : (m : ℕ) (ss : List Sort) (k : ℕ) (s : Sort) → is_put m ss (Fresh (m + k) s) ≡ has_sort ss k s
unfolding is_put
put_at m [] k s = refl
put_at m (x ∷ ss) zero s =
    ap (λ n. is_put m (x ∷ ss) (Fresh n s)) (plus_zero m) ∙ ap (λ h. h || is_put (suc m) ss (Fresh m s)) (same_fresh m x s) ∙ ap (λ h. same_sort x s || h) (put_below (suc m) ss m s (omega arith)) ∙ or-false (same_sort x s)
put_at m (x ∷ ss) (suc k) s =
    ap (λ h. h || is_put (suc m) ss (Fresh (m + suc k) s)) (other_fresh m (m + suc k) x s (λ e. omega (arith, e)))
    ∙ ap (λ n. is_put (suc m) ss (Fresh n s)) (next_number m k) ∙ put_at (suc m) ss k s

get_dropped : (g : ℕ) (ss : List Sort) (k : ℕ) → slice_get (drop g ss) k ≡ slice_get ss (k + g)
get_dropped zero ss k = ap (slice_get ss) (omega arith)
get_dropped (suc g) [] k = refl
get_dropped (suc g) (x ∷ ss) k = get_dropped g ss k ∙ ap (slice_get (x ∷ ss)) (next k g)
  where
    next : (k g : ℕ) → suc (k + g) ≡ k + suc g
    next k g = omega arith

has_beyond : (ss : List Sort) (k : ℕ) (s : Sort) → length ss ≤ k → has_sort ss k s ≡ false
has_beyond [] k s b = refl
has_beyond (x ∷ ss) zero s b = absurd (omega (arith, b))
has_beyond (x ∷ ss) (suc k) s b = has_beyond ss k s (omega (arith, b))

-- the number is `base + offset`
pub put_early : (m : ℕ) (ss : List Sort) (base offset : ℕ) (s : Sort) → base < m → offset < m - base → is_put m ss (Fresh (base + offset) s) ≡ false
put_early m ss base offset s b c = put_below m ss (base + offset) s (omega (arith, b, c))

pub put_later : (m : ℕ) (ss : List Sort) (base offset : ℕ) (s : Sort) → base < m → m - base ≤ offset → is_put m ss (Fresh (base + offset) s) ≡ has_sort ss (offset - (m - base)) s
put_later m ss base offset s b c = ap (λ n. is_put m ss (Fresh n s)) (omega (arith, b, c)) ∙ put_at m ss (offset - (m - base)) s

pub put_beyond : (m : ℕ) (ss : List Sort) (base offset : ℕ) (s : Sort) → m ≤ base → length ss ≤ base - m → is_put m ss (Fresh (base + offset) s) ≡ false
put_beyond m ss base offset s b c =
    ap (λ n. is_put m ss (Fresh n s)) (omega (arith, b)) ∙ put_at m ss (base - m + offset) s ∙ has_beyond ss (base - m + offset) s (omega (arith, c))

pub put_behind : (m : ℕ) (ss : List Sort) (base offset : ℕ) (s : Sort) → m ≤ base → is_put m ss (Fresh (base + offset) s) ≡ has_sort (take (length ss - (base - m)) (drop (base - m) ss)) offset s
put_behind m ss base offset s b =
    ap (λ n. is_put m ss (Fresh n s)) (omega (arith, b)) ∙ put_at m ss (offset + (base - m)) s
    ∙ ap (λ o. or_else (o >>= λ x. Some (same_sort x s)) false) (sym (get_dropped (base - m) ss offset))
    ∙ ap (λ z. has_sort z offset s) (sym (take_all (length ss - (base - m)) (drop (base - m) ss) (omega (arith, length-drop (base - m) ss))))

-- constants of other sorts, numbered from n: the first i of them
pub put_none : (m : ℕ) (ss : List Sort) (n : ℕ) (os : List Sort) (i : ℕ) (d : Sort) → i < length os → list_any (is_put m ss) (count_from n (take i os)) ≡ false → is_put m ss (Fresh (n + i) (get_or os i d)) ≡ false → list_any (is_put m ss) (count_from n (take (i + 1) os)) ≡ false
put_none m ss n os i d b p q =
    ap (list_any (is_put m ss)) (count_more n os i d b) ∙ list_any-append (is_put m ss) (count_from n (take i os)) (Fresh (n + i) (get_or os i d) ∷ [])
    ∙ (λ j. p j || (q j || false))

pub put_some : (m : ℕ) (ss : List Sort) (n : ℕ) (os : List Sort) (i : ℕ) (d : Sort) → i < length os → is_put m ss (Fresh (n + i) (get_or os i d)) ≡ true → list_any (is_put m ss) (count_from n os) ≡ true
put_some m ss n [] i d b q = absurd (omega (arith, b))
put_some m ss n (x ∷ os) zero d b q = ap (λ h. h || list_any (is_put m ss) (count_from (suc n) os)) (ap (λ k. is_put m ss (Fresh k x)) (sym (plus_zero n)) ∙ q)
put_some m ss n (x ∷ os) (suc i) d b q =
    ap (λ h. is_put m ss (Fresh n x) || h) (put_some m ss (suc n) os i d (omega (arith, b)) (ap (λ k. is_put m ss (Fresh k (get_or os i d))) (sym (next_number n i)) ∙ q)) ∙ or-true (is_put m ss (Fresh n x))

-- ---- terms
pub mentions_bound : (m : ℕ) (ss : List Sort) (i : ℕ) → mentions m ss (Bound i) ≡ false
unfolding mentions constants
mentions_bound m ss i = ap (list_any (is_put m ss)) (fold_bound (List Term) constants_step i)

pub mentions_num : (m : ℕ) (ss : List Sort) (a b : ℤ) (r : Bool) → mentions m ss (Num a b r) ≡ false
unfolding mentions constants
mentions_num m ss a b r = ap (list_any (is_put m ss)) (fold_num (List Term) constants_step a b r)

pub mentions_fresh : (m : ℕ) (ss : List Sort) (n : ℕ) (s : Sort) → mentions m ss (Fresh n s) ≡ is_put m ss (Fresh n s)
unfolding mentions constants
mentions_fresh m ss n s = ap (list_any (is_put m ss)) (fold_fresh (List Term) constants_step n s) ∙ or-false (is_put m ss (Fresh n s))

pub mentions_apply : (m : ℕ) (ss : List Sort) (h : Head) (os : List Sort) (us : List Term) → mentions m ss (Apply h os us) ≡ list_any (mentions m ss) us
unfolding mentions constants
mentions_apply m ss h os us = ap (list_any (is_put m ss)) (fold_apply (List Term) constants_step h os us) ∙ any_map (is_put m ss) constants us

pub ruleset mention_rules = (mentions_bound, mentions_num, mentions_fresh, mentions_apply)

-- ---- formulas
abbrev quant_constants_step : Quant-F (List Term) (List Term) → List Term
quant_constants_step q = flat_map (flat_map constants) q.triggers ++ q.body

-- one formula's parts, each with its constants
both : (m : ℕ) (ss : List Sort) (a b : Formula) → list_any (is_put m ss) (formula_constants a ++ formula_constants b) ≡ formula_mentions m ss a || formula_mentions m ss b
unfolding formula_mentions
both m ss a b = list_any-append (is_put m ss) (formula_constants a) (formula_constants b)

sides : (m : ℕ) (ss : List Sort) (a b : Term) → list_any (is_put m ss) (constants a ++ constants b) ≡ mentions m ss a || mentions m ss b
unfolding mentions
sides m ss a b = list_any-append (is_put m ss) (constants a) (constants b)

in_list : (m : ℕ) (ss : List Sort) (us : List Term) → list_any (is_put m ss) (flat_map constants us) ≡ list_any (mentions m ss) us
unfolding mentions
in_list m ss us = any_flat (is_put m ss) constants us

in_triggers : (m : ℕ) (ss : List Sort) (ts : List (List Term)) → list_any (is_put m ss) (flat_map (flat_map constants) ts) ≡ list_any (list_any (mentions m ss)) ts
in_triggers m ss [] = refl
in_triggers m ss (t ∷ ts) =
    list_any-append (is_put m ss) (flat_map constants t) (flat_map (flat_map constants) ts) ∙ (λ j. in_list m ss t j || in_triggers m ss ts j)

pub formula_true : (m : ℕ) (ss : List Sort) → formula_mentions m ss True ≡ false
unfolding formula_mentions formula_constants
formula_true m ss = ap (list_any (is_put m ss)) (fold_true (List Term) (List Term) formula_constants_step quant_constants_step)

pub formula_false : (m : ℕ) (ss : List Sort) → formula_mentions m ss False ≡ false
unfolding formula_mentions formula_constants
formula_false m ss = ap (list_any (is_put m ss)) (fold_false (List Term) (List Term) formula_constants_step quant_constants_step)

pub formula_eq : (m : ℕ) (ss : List Sort) (a b : Term) → formula_mentions m ss (Eq a b) ≡ (mentions m ss a || mentions m ss b)
unfolding formula_mentions formula_constants
formula_eq m ss a b = ap (list_any (is_put m ss)) (fold_eq (List Term) (List Term) formula_constants_step quant_constants_step a b) ∙ sides m ss a b

pub formula_lt : (m : ℕ) (ss : List Sort) (a b : Term) → formula_mentions m ss (Lt a b) ≡ (mentions m ss a || mentions m ss b)
unfolding formula_mentions formula_constants
formula_lt m ss a b = ap (list_any (is_put m ss)) (fold_lt (List Term) (List Term) formula_constants_step quant_constants_step a b) ∙ sides m ss a b

pub formula_le : (m : ℕ) (ss : List Sort) (a b : Term) → formula_mentions m ss (Le a b) ≡ (mentions m ss a || mentions m ss b)
unfolding formula_mentions formula_constants
formula_le m ss a b = ap (list_any (is_put m ss)) (fold_le (List Term) (List Term) formula_constants_step quant_constants_step a b) ∙ sides m ss a b

pub formula_pred : (m : ℕ) (ss : List Sort) (p : ℕ) (os : List Sort) (us : List Term) → formula_mentions m ss (Pred p os us) ≡ list_any (mentions m ss) us
unfolding formula_mentions formula_constants
formula_pred m ss p os us = ap (list_any (is_put m ss)) (fold_pred (List Term) (List Term) formula_constants_step quant_constants_step p os us) ∙ in_list m ss us

pub formula_not : (m : ℕ) (ss : List Sort) (a : Formula) → formula_mentions m ss (Not a) ≡ formula_mentions m ss a
unfolding formula_mentions formula_constants
formula_not m ss a = ap (list_any (is_put m ss)) (fold_not (List Term) (List Term) formula_constants_step quant_constants_step a)

pub formula_and : (m : ℕ) (ss : List Sort) (a b : Formula) → formula_mentions m ss (And a b) ≡ (formula_mentions m ss a || formula_mentions m ss b)
unfolding formula_mentions formula_constants
formula_and m ss a b = ap (list_any (is_put m ss)) (fold_and (List Term) (List Term) formula_constants_step quant_constants_step a b) ∙ both m ss a b

pub formula_or : (m : ℕ) (ss : List Sort) (a b : Formula) → formula_mentions m ss (Or a b) ≡ (formula_mentions m ss a || formula_mentions m ss b)
unfolding formula_mentions formula_constants
formula_or m ss a b = ap (list_any (is_put m ss)) (fold_or (List Term) (List Term) formula_constants_step quant_constants_step a b) ∙ both m ss a b

pub formula_xor : (m : ℕ) (ss : List Sort) (a b : Formula) → formula_mentions m ss (Xor a b) ≡ (formula_mentions m ss a || formula_mentions m ss b)
unfolding formula_mentions formula_constants
formula_xor m ss a b = ap (list_any (is_put m ss)) (fold_xor (List Term) (List Term) formula_constants_step quant_constants_step a b) ∙ both m ss a b

pub formula_iff : (m : ℕ) (ss : List Sort) (a b : Formula) → formula_mentions m ss (Iff a b) ≡ (formula_mentions m ss a || formula_mentions m ss b)
unfolding formula_mentions formula_constants
formula_iff m ss a b = ap (list_any (is_put m ss)) (fold_iff (List Term) (List Term) formula_constants_step quant_constants_step a b) ∙ both m ss a b

of_block : (m : ℕ) (ss : List Sort) (q : Quant) → list_any (is_put m ss) (fold-Quant (List Term) (List Term) formula_constants_step quant_constants_step q) ≡ quant_mentions m ss q
unfolding quant_mentions formula_mentions formula_constants
of_block m ss q =
    ap (list_any (is_put m ss)) (fold_block (List Term) (List Term) formula_constants_step quant_constants_step q)
    ∙ list_any-append (is_put m ss) (flat_map (flat_map constants) q.triggers) (formula_constants q.body)
    ∙ ap (λ b. b || list_any (is_put m ss) (formula_constants q.body)) (in_triggers m ss q.triggers)

pub formula_all : (m : ℕ) (ss : List Sort) (q : Quant) → formula_mentions m ss (All q) ≡ quant_mentions m ss q
unfolding formula_mentions formula_constants
formula_all m ss q = ap (list_any (is_put m ss)) (fold_all (List Term) (List Term) formula_constants_step quant_constants_step q) ∙ of_block m ss q

pub formula_ex : (m : ℕ) (ss : List Sort) (q : Quant) → formula_mentions m ss (Ex q) ≡ quant_mentions m ss q
unfolding formula_mentions formula_constants
formula_ex m ss q = ap (list_any (is_put m ss)) (fold_ex (List Term) (List Term) formula_constants_step quant_constants_step q) ∙ of_block m ss q

pub quant_block : (m : ℕ) (ss : List Sort) (q : Quant) → quant_mentions m ss q ≡ (list_any (list_any (mentions m ss)) q.triggers || formula_mentions m ss q.body)
unfolding quant_mentions
quant_block m ss q = refl

pub ruleset formula_mention_rules = (formula_true, formula_false, formula_eq, formula_lt, formula_le, formula_pred, formula_not, formula_and, formula_or, formula_xor, formula_iff, formula_all, formula_ex)
