-- Terms that stand in an atom, each so often and so deep: what their cases weigh there.
use Rattle.std.proofs.Common.{◌≡◌, ◌∙◌, ℕ, zero, suc, ◌+◌, ◌*◌, Bool, true, false, List, [], ◌∷◌, ◌++◌, map, length, refl, ap, arith}
use Rattle.std.proofs.Math.Nat.{mul-suc}
use Rattle.ae_core.specs.declared.terms.Sort.{Sort}
use Rattle.ae_core.specs.declared.terms.Term.{Term}
use Rattle.ae_elab.specs.Elaboration.{Cases, leaf, branch, ◌|>◌, value_of, term_cases, terms_cases}
use Rattle.ae_elab.specs.Sizes.{Size, formula_size, term_size, round}
use Rattle.ae_elab.specs.Trees.{Trees, none, more}
use Rattle.ae_elab.specs.Weights.{Weight, either_weight, within, beside}
use Rattle.ae_elab.proofs.WeightLaws.{same_size, same_weight, one, weigh, pair_size}
use Rattle.ae_sizes.proofs.CountedLaws.{total_both, deepest_both}
use Rattle.ae_sizes.specs.Inner.Counted.{pile}
use Rattle.ae_sizes.specs.Inner.Weights.{Stand, once, standing}

-- ---- all cases, or the last one alone
abbrev pub picked : {A : Type 0} → Bool → Cases A → Cases A
picked true cs = leaf (value_of cs)
picked false cs = cs

pub picked_leaf : {A : Type 0} (b : Bool) (x : A) → picked b (leaf x) ≡ leaf x
picked_leaf true x = refl
picked_leaf false x = refl

value_map : {A B : Type 0} (cs : Cases A) (g : A → B) → value_of (cs |> λ x. leaf (g x)) ≡ g (value_of cs)
value_map (leaf x) g = refl
value_map (branch c a b) g = value_map b g

value_both : {A B C : Type 0} (cs : Cases A) (ds : Cases B) (g : A → B → C) → value_of (cs |> λ x. ds |> λ y. leaf (g x y)) ≡ g (value_of cs) (value_of ds)
value_both (leaf x) ds g = value_map ds (g x)
value_both (branch c a b) ds g = value_both b ds g

pub picked_map : {A B : Type 0} (b : Bool) (cs : Cases A) (g : A → B) → picked b (cs |> λ x. leaf (g x)) ≡ (picked b cs |> λ x. leaf (g x))
picked_map true cs g = ap leaf (value_map cs g)
picked_map false cs g = refl

pub picked_both : {A B C : Type 0} (b : Bool) (cs : Cases A) (ds : Cases B) (g : A → B → C)
    → picked b (cs |> λ x. ds |> λ y. leaf (g x y)) ≡ (picked b cs |> λ x. picked b ds |> λ y. leaf (g x y))
picked_both true cs ds g = ap leaf (value_both cs ds g)
picked_both false cs ds g = refl

-- ---- what holds of the value of each case
abbrev pub AllCases : {A : Type 0} → (A → Type 0) → Cases A → Type 0
AllCases P (leaf x) = P x
AllCases P (branch c a b) = AllCases P a × AllCases P b

all_map : {A B : Type 0} (Q : A → Type 0) (P : B → Type 0) (g : A → B) → ((x : A) → Q x → P (g x)) → (cs : Cases A) → AllCases Q cs → AllCases P (cs |> λ x. leaf (g x))
all_map Q P g f (leaf x) q = f x q
all_map Q P g f (branch c a b) q = (all_map Q P g f a q.0, all_map Q P g f b q.1)

all_both : {A B C : Type 0} (Q : B → Type 0) (P : C → Type 0) (g : A → B → C) → ((x : A) (y : B) → Q y → P (g x y)) → (cs : Cases A) (ds : Cases B) → AllCases Q ds
    → AllCases P (cs |> λ x. ds |> λ y. leaf (g x y))
all_both Q P g f (leaf x) ds q = all_map Q P (g x) (f x) ds q
all_both Q P g f (branch c a b) ds q = (all_both Q P g f a ds q, all_both Q P g f b ds q)

all_value : {A : Type 0} (P : A → Type 0) (cs : Cases A) → AllCases P cs → P (value_of cs)
all_value P (leaf x) p = p
all_value P (branch c a b) p = all_value P b p.1

pub all_picked : {A : Type 0} (P : A → Type 0) (b : Bool) (cs : Cases A) → AllCases P cs → AllCases P (picked b cs)
all_picked P true cs p = all_value P cs p
all_picked P false cs p = p

abbrev pub count : Trees → ℕ
count none = 0
count (more t us) = suc (count us)

pub lengths : (m : ℕ → Sort) (env : List ℕ) (us : Trees) → AllCases (λ vs. length vs ≡ count us) (terms_cases m env us)
lengths m env none = refl
lengths m env (more t us) =
    all_both (λ vs. length vs ≡ count us) (λ vs. length vs ≡ suc (count us)) (λ v vs. v ∷ vs) (λ v vs e. ap suc e) (term_cases m env t) (terms_cases m env us) (lengths m env us)

-- ---- cases whose values are said to be larger
pub weigh_by : {A : Type 0} (P : A → Type 0) (s t : A → Size) (h : Weight → Weight) → ((x : A) → P x → one (t x) ≡ h (one (s x)))
    → ((c : Size) (v w : Weight) → either_weight c (h v) (h w) ≡ h (either_weight c v w))
    → (cs : Cases A) → AllCases P cs → weigh t cs ≡ h (weigh s cs)
weigh_by P s t h e d (leaf x) p = e x p
weigh_by P s t h e d (branch c a b) p =
    ap (λ v. either_weight (formula_size c) v (weigh t b)) (weigh_by P s t h e d a p.0)
    ∙ ap (either_weight (formula_size c) (h (weigh s a))) (weigh_by P s t h e d b p.1)
    ∙ d (formula_size c) (weigh s a) (weigh s b)

pub always : {A : Type 0} (cs : Cases A) → AllCases (λ x. Unit {0}) cs
always (leaf x) = tt
always (branch c a b) = (always a, always b)

-- cases that are changed in two ways, which come to the same
pub map_where : {A B C : Type 0} (P : A → Type 0) (s : B → Size) (t : C → Size) (g : A → B) (h : A → C) → ((x : A) → P x → s (g x) ≡ t (h x))
    → (cs : Cases A) → AllCases P cs → weigh s (cs |> λ x. leaf (g x)) ≡ weigh t (cs |> λ x. leaf (h x))
map_where P s t g h e (leaf x) p = ap one (e x p)
map_where P s t g h e (branch c a b) p =
    ap (λ v. either_weight (formula_size c) v (weigh s (b |> λ x. leaf (g x)))) (map_where P s t g h e a p.0)
    ∙ ap (either_weight (formula_size c) (weigh t (a |> λ x. leaf (h x)))) (map_where P s t g h e b p.1)

pub moved : {A B : Type 0} (t : B → Size) (g : A → B) (cs : Cases A) → weigh t (cs |> λ x. leaf (g x)) ≡ weigh (λ x. t (g x)) cs
moved t g (leaf x) = refl
moved t g (branch c a b) =
    ap (λ v. either_weight (formula_size c) v (weigh t (b |> λ x. leaf (g x)))) (moved t g a)
    ∙ ap (either_weight (formula_size c) (weigh (λ x. t (g x)) a)) (moved t g b)

pub then_same : {A B C : Type 0} (s : B → Size) (t : C → Size) (g : A → Cases B) (h : A → Cases C) → ((x : A) → weigh s (g x) ≡ weigh t (h x))
    → (cs : Cases A) → weigh s (cs |> g) ≡ weigh t (cs |> h)
then_same s t g h e (leaf x) = e x
then_same s t g h e (branch c a b) =
    ap (λ v. either_weight (formula_size c) v (weigh s (b |> g))) (then_same s t g h e a)
    ∙ ap (either_weight (formula_size c) (weigh t (a |> h))) (then_same s t g h e b)

-- ---- one term
abbrev pub use_size : ℕ → ℕ → Size → Size
use_size zero d s = record { nodes = 0; levels = 0 }
use_size (suc k) d s = record { nodes = s.nodes * suc k; levels = s.levels + d }

pub one_standing : (k d : ℕ) (s : Size) → one (use_size k d s) ≡ standing k d (one s)
one_standing zero d s = refl
one_standing (suc k) d s = refl

pub shared : (x y k : ℕ) → x * suc k + y * suc k ≡ (x + y) * suc k
shared x y zero = omega arith
shared x y (suc k) =
    let a = mul-suc x (suc k) in let b = mul-suc y (suc k) in let c = mul-suc (x + y) (suc k) in
    let e = shared x y k in omega arith

pub standing_branches : (k d : ℕ) (c : Size) (v w : Weight) → either_weight c (standing k d v) (standing k d w) ≡ standing k d (either_weight c v w)
standing_branches zero d c v w = same_weight (either_weight c (standing 0 d v) (standing 0 d w)) (standing 0 d (either_weight c v w)) refl (omega arith) refl refl refl refl
standing_branches (suc k) d c v w =
    same_weight (either_weight c (standing (suc k) d v) (standing (suc k) d w)) (standing (suc k) d (either_weight c v w))
    refl (shared v.nodes w.nodes k) refl refl (omega arith) refl

pub weigh_standing : {A : Type 0} (s : A → Size) (k d : ℕ) (cs : Cases A) → weigh (λ x. use_size k d (s x)) cs ≡ standing k d (weigh s cs)
weigh_standing s k d cs = weigh_by (λ x. Unit {0}) s (λ x. use_size k d (s x)) (standing k d) (λ x p. one_standing k d (s x)) (standing_branches k d) cs (always cs)

-- ---- terms
abbrev pub sized : (ℕ → Stand) → ℕ → List Term → Size
sized g i [] = record { nodes = 0; levels = 0 }
sized g i (v ∷ vs) = pair_size 0 (use_size (g i).times (g i).levels (term_size v)) (sized g (suc i) vs)

-- each once
pub once_each : (i : ℕ) (vs : List Term) → sized once i vs ≡ pile (map term_size vs)
once_each i [] = refl
once_each i (v ∷ vs) =
    let e = once_each (suc i) vs in
    same_size (sized once i (v ∷ vs)) (pile (map term_size (v ∷ vs)))
    (let n = ap (λ s. s.nodes) e in omega arith) (let l = ap (λ s. s.levels) e in omega arith)

pub within_none : (w : Weight) → within 0 w ≡ w
within_none w = same_weight (within 0 w) w (omega arith) (omega arith) (omega arith) (omega arith) (omega arith) (omega arith)

-- a node round sizes and others
pub wrapped : (xs ys : List Size) → one (round (xs ++ ys)) ≡ within 1 (beside xs (one (pile ys)))
wrapped xs ys =
    same_weight (one (round (xs ++ ys))) (within 1 (beside xs (one (pile ys))))
    (omega arith) (let e = total_both xs ys in omega arith) (omega arith) (omega arith) (let e = deepest_both xs ys in omega arith) (omega arith)

pub one_of_pile : (s : Size) → pile (s ∷ []) ≡ s
one_of_pile s = same_size (pile (s ∷ [])) s (omega arith) (omega arith)
