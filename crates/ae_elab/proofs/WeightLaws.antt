-- What cases weigh: an atom that is put together from its cases, and cases under cases. With these laws the sizes that are told
-- from a typed tree are those of its formula.
use Rattle.std.proofs.Common.{◌≡◌, ℕ, ◌+◌, max, List, [], ◌∷◌, ap, ◌∙◌, arith}
use Rattle.ae_core.specs.declared.formulas.Formula.{Formula, Not, And, Or}
use Rattle.ae_elab.specs.Elaboration.{Cases, leaf, branch, ◌|>◌, either_way, formula_of}
use Rattle.ae_elab.specs.Sizes.{Size, formula_size, formula_size_step, quant_size_step, round}
use Rattle.ae_elab.specs.Weights.{Weight, together, either_weight, within, beside, size_of}
use Rattle.ae_core.proofs.Recursion.{fold_not, fold_and, fold_or}

-- ---- sizes and weights are the same where their parts are
pub same_size : (a b : Size) → a.nodes ≡ b.nodes → a.levels ≡ b.levels → a ≡ b
same_size a b n l = ap (λ x. record { nodes = x; levels = a.levels }) n ∙ ap (λ x. record { nodes = b.nodes; levels = x }) l

weight_of : ℕ → ℕ → ℕ → ℕ → ℕ → ℕ → Weight
weight_of c n a b r k = record { cases = c; nodes = n; added = a; above = b; reach = r; conditions = k }

pub same_weight : (v w : Weight) → v.cases ≡ w.cases → v.nodes ≡ w.nodes → v.added ≡ w.added → v.above ≡ w.above → v.reach ≡ w.reach → v.conditions ≡ w.conditions → v ≡ w
unfolding weight_of
same_weight v w c n a b r k =
    ap (λ x. weight_of x v.nodes v.added v.above v.reach v.conditions) c ∙ ap (λ x. weight_of w.cases x v.added v.above v.reach v.conditions) n
    ∙ ap (λ x. weight_of w.cases w.nodes x v.above v.reach v.conditions) a ∙ ap (λ x. weight_of w.cases w.nodes w.added x v.reach v.conditions) b
    ∙ ap (λ x. weight_of w.cases w.nodes w.added w.above x v.conditions) r ∙ ap (λ x. weight_of w.cases w.nodes w.added w.above w.reach x) k

-- ---- what the cases of a value weigh, by the size of each value
abbrev pub one : Size → Weight
one s = record { cases = 1; nodes = s.nodes; added = 0; above = 0; reach = s.levels; conditions = 0 }

abbrev pub weigh : {A : Type 0} → (A → Size) → Cases A → Weight
weigh s (leaf x) = one (s x)
weigh s (branch c a b) = either_weight (formula_size c) (weigh s a) (weigh s b)

-- ---- an atom under the conditions of its cases
pub size_not : (a : Formula) → formula_size (Not a) ≡ round (formula_size a ∷ [])
unfolding formula_size
size_not = fold_not Size Size formula_size_step quant_size_step

pub size_and : (a b : Formula) → formula_size (And a b) ≡ round (formula_size a ∷ formula_size b ∷ [])
unfolding formula_size
size_and = fold_and Size Size formula_size_step quant_size_step

pub size_or : (a b : Formula) → formula_size (Or a b) ≡ round (formula_size a ∷ formula_size b ∷ [])
unfolding formula_size
size_or = fold_or Size Size formula_size_step quant_size_step

abbrev pub either_size : Size → Size → Size → Size
either_size c a b = round (round (round (c ∷ []) ∷ a ∷ []) ∷ round (c ∷ b ∷ []) ∷ [])

pub size_either : (c a b : Formula) → formula_size (either_way c a b) ≡ either_size (formula_size c) (formula_size a) (formula_size b)
size_either c a b =
    size_and (Or (Not c) a) (Or c b)
    ∙ ap (λ x. round (x ∷ formula_size (Or c b) ∷ [])) (size_or (Not c) a ∙ ap (λ x. round (x ∷ formula_size a ∷ [])) (size_not c))
    ∙ ap (λ x. round (round (round (formula_size c ∷ []) ∷ formula_size a ∷ []) ∷ x ∷ [])) (size_or c b)

either_nodes : (c : Size) (a b : Weight) → (either_size c (size_of a) (size_of b)).nodes ≡ (size_of (either_weight c a b)).nodes
either_nodes c a b = omega arith

either_levels : (c : Size) (a b : Weight) → (either_size c (size_of a) (size_of b)).levels ≡ (size_of (either_weight c a b)).levels
either_levels c a b = omega arith

one_size : (s : Size) → s ≡ size_of (one s)
one_size s = same_size s (size_of (one s)) (omega arith) (omega arith)

pub size_of_cases : (cs : Cases Formula) → formula_size (formula_of cs) ≡ size_of (weigh formula_size cs)
size_of_cases (leaf f) = one_size (formula_size f)
size_of_cases (branch c a b) =
    size_either c (formula_of a) (formula_of b)
    ∙ ap (λ x. either_size (formula_size c) x (formula_size (formula_of b))) (size_of_cases a)
    ∙ ap (either_size (formula_size c) (size_of (weigh formula_size a))) (size_of_cases b)
    ∙ same_size (either_size (formula_size c) (size_of (weigh formula_size a)) (size_of (weigh formula_size b)))
    (size_of (either_weight (formula_size c) (weigh formula_size a) (weigh formula_size b)))
    (either_nodes (formula_size c) (weigh formula_size a) (weigh formula_size b))
    (either_levels (formula_size c) (weigh formula_size a) (weigh formula_size b))

-- ---- cases whose values are changed: h says how, of one value and of two branches
pub changed : {A B : Type 0} (s : A → Size) (t : B → Size) (g : A → B) (h : Weight → Weight) → ((x : A) → one (t (g x)) ≡ h (one (s x)))
    → ((c : Size) (v w : Weight) → either_weight c (h v) (h w) ≡ h (either_weight c v w))
    → (a : Cases A) → weigh t (a |> λ x. leaf (g x)) ≡ h (weigh s a)
changed s t g h e d (leaf x) = e x
changed s t g h e d (branch c a b) =
    ap (λ v. either_weight (formula_size c) v (weigh t (b |> λ x. leaf (g x)))) (changed s t g h e d a)
    ∙ ap (either_weight (formula_size c) (h (weigh s a))) (changed s t g h e d b)
    ∙ d (formula_size c) (weigh s a) (weigh s b)

pub within_branches : (n : ℕ) (c : Size) (v w : Weight) → either_weight c (within n v) (within n w) ≡ within n (either_weight c v w)
within_branches n c v w =
    same_weight (either_weight c (within n v) (within n w)) (within n (either_weight c v w))
    (omega arith) (omega arith) (omega arith) (omega arith) (omega arith) (omega arith)

pub beside_branches : (ss : List Size) (c : Size) (v w : Weight) → either_weight c (beside ss v) (beside ss w) ≡ beside ss (either_weight c v w)
beside_branches ss c v w =
    same_weight (either_weight c (beside ss v) (beside ss w)) (beside ss (either_weight c v w))
    (omega arith) (omega arith) (omega arith) (omega arith) (omega arith) (omega arith)

-- ---- cases under cases
right_branches : (s c : Size) (v w : Weight) → either_weight c (together (one s) v) (together (one s) w) ≡ together (one s) (either_weight c v w)
right_branches s c v w =
    same_weight (either_weight c (together (one s) v) (together (one s) w)) (together (one s) (either_weight c v w))
    (omega arith) (omega arith) (omega arith) (omega arith) (omega arith) (omega arith)

left_branches : (c : Size) (u v w : Weight) → either_weight c (together u w) (together v w) ≡ together (either_weight c u v) w
left_branches c u v w =
    same_weight (either_weight c (together u w) (together v w)) (together (either_weight c u v) w)
    (omega arith) (omega arith) (omega arith) (omega arith) (omega arith) (omega arith)

-- the size of what is made of two values, n nodes round both
abbrev pub pair_size : ℕ → Size → Size → Size
pair_size n s t = record { nodes = s.nodes + t.nodes + n; levels = max s.levels t.levels + n }

one_pair : (n : ℕ) (s t : Size) → one (pair_size n s t) ≡ within n (together (one s) (one t))
one_pair n s t =
    same_weight (one (pair_size n s t)) (within n (together (one s) (one t)))
    (omega arith) (omega arith) (omega arith) (omega arith) (omega arith) (omega arith)

pub under : {A B C : Type 0} (s : A → Size) (t : B → Size) (u : C → Size) (n : ℕ) (g : A → B → C) → ((x : A) (y : B) → u (g x y) ≡ pair_size n (s x) (t y))
    → (x : A) (b : Cases B) → weigh u (b |> λ y. leaf (g x y)) ≡ within n (together (one (s x)) (weigh t b))
under s t u n g e x (leaf y) = ap one (e x y) ∙ one_pair n (s x) (t y)
under s t u n g e x (branch c a b) =
    ap (λ v. either_weight (formula_size c) v (weigh u (b |> λ y. leaf (g x y)))) (under s t u n g e x a)
    ∙ ap (either_weight (formula_size c) (within n (together (one (s x)) (weigh t a)))) (under s t u n g e x b)
    ∙ within_branches n (formula_size c) (together (one (s x)) (weigh t a)) (together (one (s x)) (weigh t b))
    ∙ ap (within n) (right_branches (s x) (formula_size c) (weigh t a) (weigh t b))

pub both : {A B C : Type 0} (s : A → Size) (t : B → Size) (u : C → Size) (n : ℕ) (g : A → B → C) → ((x : A) (y : B) → u (g x y) ≡ pair_size n (s x) (t y))
    → (a : Cases A) (b : Cases B) → weigh u (a |> λ x. b |> λ y. leaf (g x y)) ≡ within n (together (weigh s a) (weigh t b))
both s t u n g e (leaf x) b = under s t u n g e x b
both s t u n g e (branch c d a) b =
    ap (λ v. either_weight (formula_size c) v (weigh u (a |> λ x. b |> λ y. leaf (g x y)))) (both s t u n g e d b)
    ∙ ap (either_weight (formula_size c) (within n (together (weigh s d) (weigh t b)))) (both s t u n g e a b)
    ∙ within_branches n (formula_size c) (together (weigh s d) (weigh t b)) (together (weigh s a) (weigh t b))
    ∙ ap (within n) (left_branches (formula_size c) (weigh s d) (weigh s a) (weigh t b))
