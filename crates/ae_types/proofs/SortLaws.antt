-- Laws of substitutions and of sizes of sorts.
use Rattle.std.proofs.Common.{◌≡◌, ◌≢◌, ℕ, zero, suc, ◌+◌, ◌<◌, ◌≤◌, List, [], ◌∷◌, map, refl, ap, sym, ◌∙◌, subst, arith, nat_eq, if◌then◌else◌}
use Rattle.std.proofs.lemmas.Bool.Decides.{nat_tests}
use Rattle.std.specs.List.{AllByRecursion}
use Rattle.ae_core.specs.Inner.Induction.{by_sorts}
use Rattle.ae_core.specs.declared.terms.Sort.{Sort, Sort-F, Var, Rigid, Int, Real, Bool as BoolSort, Unit as UnitSort, Named, fold-Sort, fold-roll-Sort, out-Sort}
use Rattle.ae_core.specs.declared.terms.Sort.TheOpen as layer
use Rattle.ae_core.specs.declared.terms.Sort.TheVariants.{rolls-Named, rolls-Var, rolls-Rigid, rolls-Int, rolls-Real, rolls-Bool, rolls-Unit, outs-Named}
use Rattle.ae_types.specs.declared.graph.Constant.{Constant}
use Rattle.ae_types.specs.declared.graph.Constant.TheVariants as constant
use Rattle.ae_types.specs.Substitutions.{put, put_step}
use Rattle.ae_types.specs.Clashes.{total, count_of, count_step, head_of, head_step}
use Rattle.ae_types.specs.Inner.Graphs.{constant_sort}

pub put_named : (f : ℕ → Sort) (h : ℕ) (args : List Sort) → put f (Named h args) ≡ Named h (map (put f) args)
unfolding put
put_named f h args = ap (put f) (sym (rolls-Named h args)) ∙ fold-roll-Sort Sort (put_step f) (layer.Named h args)

pub put_var : (f : ℕ → Sort) (i : ℕ) → put f (Var i) ≡ f i
unfolding put
put_var f i = ap (put f) (sym (rolls-Var i)) ∙ fold-roll-Sort Sort (put_step f) (layer.Var i)

pub put_rigid : (f : ℕ → Sort) (i : ℕ) → put f (Rigid i) ≡ Rigid i
unfolding put
put_rigid f i = ap (put f) (sym (rolls-Rigid i)) ∙ fold-roll-Sort Sort (put_step f) (layer.Rigid i)

pub put_int : (f : ℕ → Sort) → put f Int ≡ Int
unfolding put
put_int f = ap (put f) (sym rolls-Int) ∙ fold-roll-Sort Sort (put_step f) layer.Int

pub put_real : (f : ℕ → Sort) → put f Real ≡ Real
unfolding put
put_real f = ap (put f) (sym rolls-Real) ∙ fold-roll-Sort Sort (put_step f) layer.Real

pub put_bool : (f : ℕ → Sort) → put f BoolSort ≡ BoolSort
unfolding put
put_bool f = ap (put f) (sym rolls-Bool) ∙ fold-roll-Sort Sort (put_step f) layer.Bool

pub put_unit : (f : ℕ → Sort) → put f UnitSort ≡ UnitSort
unfolding put
put_unit f = ap (put f) (sym rolls-Unit) ∙ fold-roll-Sort Sort (put_step f) layer.Unit

pub ruleset puts = (put_named, put_var, put_rigid, put_int, put_real, put_bool, put_unit)

-- putting into a sort without parts changes nothing
pub put_constant : (f : ℕ → Sort) (c : Constant) → put f (constant_sort c) ≡ constant_sort c
put_constant f (constant.Rigid n) = put_rigid f n
put_constant f constant.Int = put_int f
put_constant f constant.Real = put_real f
put_constant f constant.Bool = put_bool f
put_constant f constant.Unit = put_unit f

-- putting twice is putting once
maps_put : (h m g : ℕ → Sort) (ss : List Sort) → AllByRecursion (λ s. put h (put m s) ≡ put g s) ss
    → map (put h) (map (put m) ss) ≡ map (put g) ss
maps_put h m g [] a = refl
maps_put h m g (s ∷ ss) a = ap (λ x. x ∷ map (put h) (map (put m) ss)) a.0 ∙ ap (λ xs. put g s ∷ xs) (maps_put h m g ss a.1)

-- m followed by h is g
pub put_put : (h m g : ℕ → Sort) → ((n : ℕ) → put h (m n) ≡ g n) → (s : Sort) → put h (put m s) ≡ put g s
put_put h m g e = by_sorts (λ s. put h (put m s) ≡ put g s)
    (λ n. ap (put h) (put_var m n) ∙ e n ∙ sym (put_var g n))
    (λ n. ap (put h) (put_rigid m n) ∙ put_rigid h n ∙ sym (put_rigid g n))
    (ap (put h) (put_int m) ∙ put_int h ∙ sym (put_int g))
    (ap (put h) (put_real m) ∙ put_real h ∙ sym (put_real g))
    (ap (put h) (put_bool m) ∙ put_bool h ∙ sym (put_bool g))
    (ap (put h) (put_unit m) ∙ put_unit h ∙ sym (put_unit g))
    (λ k args a. ap (put h) (put_named m k args) ∙ put_named h k (map (put m) args) ∙ ap (Named k) (maps_put h m g args a) ∙ sym (put_named g k args))

-- putting variables for themselves changes nothing
maps_own : (ss : List Sort) → AllByRecursion (λ s. put Var s ≡ s) ss → map (put Var) ss ≡ ss
maps_own [] a = refl
maps_own (s ∷ ss) a = ap (λ x. x ∷ map (put Var) ss) a.0 ∙ ap (λ xs. s ∷ xs) (maps_own ss a.1)

pub put_own : (s : Sort) → put Var s ≡ s
put_own = by_sorts (λ s. put Var s ≡ s) (put_var Var) (put_rigid Var) (put_int Var) (put_real Var) (put_bool Var) (put_unit Var)
    (λ h args a. put_named Var h args ∙ ap (Named h) (maps_own args a))

-- ---- sizes
abbrev pub size_step : Sort-F ℕ → ℕ
size_step (layer.Var i) = 1
size_step (layer.Rigid i) = 1
size_step layer.Int = 1
size_step layer.Real = 1
size_step layer.Bool = 1
size_step layer.Unit = 1
size_step (layer.Named h ns) = total ns + 1

unfoldable pub size : Sort → ℕ
size = fold-Sort ℕ size_step

pub size_named : (h : ℕ) (args : List Sort) → size (Named h args) ≡ total (map size args) + 1
unfolding size
size_named h args = ap size (sym (rolls-Named h args)) ∙ fold-roll-Sort ℕ size_step (layer.Named h args)

-- ---- named sorts are equal only part by part
pub named_parts : (h k : ℕ) (xs ys : List Sort) → Named h xs ≡ Named k ys → (h ≡ k) × (xs ≡ ys)
named_parts h k xs ys e =
    let o = sym (outs-Named h xs) ∙ ap out-Sort e ∙ outs-Named k ys in
    let a : h ≡ k = cc in
    let b : xs ≡ ys = cc in
    (a, b)

pub constant_not_named : (c : Constant) (k : ℕ) (ys : List Sort) → constant_sort c ≡ Named k ys → ⊥
unfolding out-Sort
constant_not_named (constant.Rigid n) k ys e = let o = ap out-Sort e ∙ outs-Named k ys in cc
constant_not_named constant.Int k ys e = let o = ap out-Sort e ∙ outs-Named k ys in cc
constant_not_named constant.Real k ys e = let o = ap out-Sort e ∙ outs-Named k ys in cc
constant_not_named constant.Bool k ys e = let o = ap out-Sort e ∙ outs-Named k ys in cc
constant_not_named constant.Unit k ys e = let o = ap out-Sort e ∙ outs-Named k ys in cc

pub constant_parts : (a b : Constant) → constant_sort a ≡ constant_sort b → a ≡ b
constant_parts (constant.Rigid n) (constant.Rigid m) e = let o = ap out-Sort e in let q : n ≡ m = cc in ap constant.Rigid q
constant_parts constant.Int constant.Int e = refl
constant_parts constant.Real constant.Real e = refl
constant_parts constant.Bool constant.Bool e = refl
constant_parts constant.Unit constant.Unit e = refl
constant_parts a b e = let o = ap out-Sort e in absurd (cc)

pub constant_not_var : (c : Constant) (n : ℕ) → constant_sort c ≢ Var n
unfolding out-Sort
constant_not_var (constant.Rigid m) n = λ e. let o = ap out-Sort e in cc
constant_not_var constant.Int n = λ e. let o = ap out-Sort e in cc
constant_not_var constant.Real n = λ e. let o = ap out-Sort e in cc
constant_not_var constant.Bool n = λ e. let o = ap out-Sort e in cc
constant_not_var constant.Unit n = λ e. let o = ap out-Sort e in cc

pub named_not_var : (h : ℕ) (args : List Sort) (n : ℕ) → Named h args ≢ Var n
unfolding out-Sort
named_not_var h args n = λ e. let o = sym (outs-Named h args) ∙ ap out-Sort e in cc

-- ---- heads
pub head_named : (h : ℕ) (args : List Sort) → head_of (Named h args) ≡ Named h (map (λ s. UnitSort) args)
unfolding head_of
head_named h args = ap head_of (sym (rolls-Named h args)) ∙ fold-roll-Sort Sort head_step (layer.Named h args) ∙ ap (Named h) (maps_over args)
  where
    maps_over : (args : List Sort) → map (λ s. UnitSort) (map (fold-Sort Sort head_step) args) ≡ map (λ s. UnitSort) args
    maps_over [] = refl
    maps_over (s ∷ ss) = ap (λ xs. UnitSort ∷ xs) (maps_over ss)

pub head_constant : (c : Constant) → head_of (constant_sort c) ≡ constant_sort c
unfolding head_of
head_constant (constant.Rigid n) = ap head_of (sym (rolls-Rigid n)) ∙ fold-roll-Sort Sort head_step (layer.Rigid n)
head_constant constant.Int = ap head_of (sym rolls-Int) ∙ fold-roll-Sort Sort head_step layer.Int
head_constant constant.Real = ap head_of (sym rolls-Real) ∙ fold-roll-Sort Sort head_step layer.Real
head_constant constant.Bool = ap head_of (sym rolls-Bool) ∙ fold-roll-Sort Sort head_step layer.Bool
head_constant constant.Unit = ap head_of (sym rolls-Unit) ∙ fold-roll-Sort Sort head_step layer.Unit

-- ---- occurrences
pub count_named : (x h : ℕ) (args : List Sort) → count_of x (Named h args) ≡ total (map (count_of x) args)
unfolding count_of
count_named x h args = ap (count_of x) (sym (rolls-Named h args)) ∙ fold-roll-Sort ℕ (count_step x) (layer.Named h args)

pub count_var : (x i : ℕ) → count_of x (Var i) ≡ (if nat_eq i x then 1 else 0)
unfolding count_of
count_var x i = ap (count_of x) (sym (rolls-Var i)) ∙ fold-roll-Sort ℕ (count_step x) (layer.Var i)

pub count_own : (x : ℕ) → count_of x (Var x) ≡ 1
count_own x = count_var x x ∙ (let q : (if nat_eq x x then 1 else 0) ≡ 1 = grind (arith, nat_tests) in q)

count_rigid : (x i : ℕ) → count_of x (Rigid i) ≡ 0
unfolding count_of
count_rigid x i = ap (count_of x) (sym (rolls-Rigid i)) ∙ fold-roll-Sort ℕ (count_step x) (layer.Rigid i)

count_int : (x : ℕ) → count_of x Int ≡ 0
unfolding count_of
count_int x = ap (count_of x) (sym rolls-Int) ∙ fold-roll-Sort ℕ (count_step x) layer.Int

count_real : (x : ℕ) → count_of x Real ≡ 0
unfolding count_of
count_real x = ap (count_of x) (sym rolls-Real) ∙ fold-roll-Sort ℕ (count_step x) layer.Real

count_bool : (x : ℕ) → count_of x BoolSort ≡ 0
unfolding count_of
count_bool x = ap (count_of x) (sym rolls-Bool) ∙ fold-roll-Sort ℕ (count_step x) layer.Bool

count_unit : (x : ℕ) → count_of x UnitSort ≡ 0
unfolding count_of
count_unit x = ap (count_of x) (sym rolls-Unit) ∙ fold-roll-Sort ℕ (count_step x) layer.Unit

-- a sort in which a variable occurs is at least as large as the variable's sort, and larger if it isn't the variable
occurring_var : (f : ℕ → Sort) (x i : ℕ) → 0 < (if nat_eq i x then 1 else 0) → i ≡ x
occurring_var f x i h = grind (arith, nat_tests)

parts_step : (c m : ℕ) (a b : ℕ) (k : ℕ) → (0 < c → k ≤ a) → (0 < m → k ≤ b) → 0 < c + m → k ≤ a + b
parts_step zero m a b k f g h = let q = g (omega arith) in omega arith
parts_step (suc c) m a b k f g h = let q = f (omega arith) in omega arith

parts_large : (f : ℕ → Sort) (x : ℕ) (ss : List Sort) → AllByRecursion (λ s. 0 < count_of x s → size (f x) ≤ size (put f s)) ss
    → 0 < total (map (count_of x) ss) → size (f x) ≤ total (map size (map (put f) ss))
parts_large f x [] a h = absurd (omega arith)
parts_large f x (s ∷ ss) a h =
    parts_step (count_of x s) (total (map (count_of x) ss)) (size (put f s)) (total (map size (map (put f) ss))) (size (f x)) a.0 (parts_large f x ss a.1) h

pub occurs_large : (f : ℕ → Sort) (x : ℕ) (s : Sort) → 0 < count_of x s → size (f x) ≤ size (put f s)
occurs_large f x = by_sorts (λ s. 0 < count_of x s → size (f x) ≤ size (put f s))
    (λ i h. (let e = occurring_var f x i (subst (λ n. 0 < n) (count_var x i) h) in let q = ap size (put_var f i ∙ ap f e) in omega arith))
    (λ i h. absurd (let e = count_rigid x i in omega arith))
    (λ h. absurd (let e = count_int x in omega arith))
    (λ h. absurd (let e = count_real x in omega arith))
    (λ h. absurd (let e = count_bool x in omega arith))
    (λ h. absurd (let e = count_unit x in omega arith))
    (λ k args a h. (let p = parts_large f x args a (subst (λ n. 0 < n) (count_named x k args) h) in
    let e = ap size (put_named f k args) ∙ size_named k (map (put f) args) in omega arith))

pub within_larger : (f : ℕ → Sort) (x : ℕ) (s : Sort) → 0 < count_of x s → s ≢ Var x → size (f x) < size (put f s)
within_larger f x = by_sorts (λ s. 0 < count_of x s → s ≢ Var x → size (f x) < size (put f s))
    (λ i h n. absurd (n (ap Var (occurring_var f x i (subst (λ n. 0 < n) (count_var x i) h)))))
    (λ i h n. absurd (let e = count_rigid x i in omega arith))
    (λ h n. absurd (let e = count_int x in omega arith))
    (λ h n. absurd (let e = count_real x in omega arith))
    (λ h n. absurd (let e = count_bool x in omega arith))
    (λ h n. absurd (let e = count_unit x in omega arith))
    (λ k args a h n. (let p = parts_large f x args (all_large f x args) (subst (λ n. 0 < n) (count_named x k args) h) in
    let e = ap size (put_named f k args) ∙ size_named k (map (put f) args) in omega arith))
  where
    all_large : (f : ℕ → Sort) (x : ℕ) (ss : List Sort) → AllByRecursion (λ s. 0 < count_of x s → size (f x) ≤ size (put f s)) ss
    all_large f x [] = tt
    all_large f x (s ∷ ss) = (occurs_large f x s, all_large f x ss)
