-- The trees of different sorts, heads, terms and formulas differ, so that their orders tell different values apart.
use Rattle.std.specs.Prelude.{ℕ, ℤ, Bool, List, map, ◌≡◌, ◌↔◌}
use Rattle.std.specs.declared.cmp.Ordering.{Ordering}
use Rattle.std.specs.declared.cmp.Ordering.TheVariants.{Equal}
use Rattle.std.specs.Ordering.{nat_cmp, ordering_then}
use Rattle.std.specs.Cmp.{IsTotalOrder}
use Rattle.std.specs.Cmp.Lexicographic.{slice_cmp}
use Rattle.std.proofs.lemmas.Cmp.{on_total}
use mathlib.Core.Path.{refl, sym, ap, ◌∙◌, subst}
use Rattle.ae_core.specs.Orders.{Tree, number, whole, ◌▸◌, tree_order, trees, none, flag, rank, sort_tree, sort_tree_step, sort_order, op_tree, head_tree, head_order, term_tree, term_tree_step, terms_tree, term_order, formula_tree, formula_tree_step, quant_tree, quant_tree_step, formula_order, quant_order}
use Rattle.ae_core.specs.Inner.TreeOrder.{tree_total, formula_total as formulas_total}
use Rattle.ae_core.proofs.TreeLaws.{Ranked, by_rank, lists_order, own_lists, own_trees, own_flags, then_assoc, lists_exact, exact}
use Rattle.ae_core.proofs.Recursion.{fold_var, fold_rigid, fold_int, fold_real, fold_bool, fold_unit, fold_named, fold_bound, fold_num, fold_fresh, fold_apply, fold_true, fold_false, fold_eq, fold_lt, fold_le, fold_pred, fold_not, fold_and, fold_or, fold_xor, fold_iff, fold_all, fold_ex, fold_block}
use Rattle.ae_core.specs.declared.terms.Sort.{Sort, Sort-F, Var, Rigid, Int, Real, Bool as BoolSort, Unit as UnitSort, Named, map-Sort, ind-Sort, fold-roll-Sort, fold_out-Sort, out-Sort, roll-Sort, roll-out-Sort}
use Rattle.ae_core.specs.declared.terms.Sort.TheOpen as sort_layer
use Rattle.ae_core.specs.declared.terms.Sort.TheVariants.{rolls-Var, rolls-Rigid, rolls-Int, rolls-Real, rolls-Bool, rolls-Unit, rolls-Named}
use Rattle.ae_core.specs.declared.terms.Op.{Op}
use Rattle.ae_core.specs.declared.terms.Op.TheVariants as op
use Rattle.ae_core.specs.declared.terms.Head.{Head}
use Rattle.ae_core.specs.declared.terms.Head.TheVariants as head
use Rattle.ae_core.specs.declared.terms.Term.{Term, Term-F, Bound, Num, Fresh, Apply, map-Term, ind-Term, fold-roll-Term, fold_out-Term, out-Term, roll-Term, roll-out-Term}
use Rattle.ae_core.specs.declared.terms.Term.TheOpen as layer
use Rattle.ae_core.specs.declared.terms.Term.TheVariants.{rolls-Bound, rolls-Num, rolls-Fresh, rolls-Apply}
use Rattle.ae_core.specs.declared.formulas.Formula.{Formula, Formula-F, True, False, Eq, Lt, Le, Pred, Not, And, Or, Xor, Iff, All, Ex, map-Formula, ind-Formula, fold-roll-Formula, fold_out-Formula, out-Formula, roll-Formula, roll-out-Formula}
use Rattle.ae_core.specs.declared.formulas.Formula.TheOpen as formula_layer
use Rattle.ae_core.specs.declared.formulas.Formula.TheVariants.{rolls-True, rolls-False, rolls-Eq, rolls-Lt, rolls-Le, rolls-Pred, rolls-Not, rolls-And, rolls-Or, rolls-Xor, rolls-Iff, rolls-All, rolls-Ex}
use Rattle.ae_core.specs.declared.formulas.Quant.{Quant, Quant-F, map-Quant, ind-Quant, fold-roll-Quant, fold_out-Quant, out-Quant, roll-Quant, roll-out-Quant}

-- ---- sorts
pub sort_tree_var : (i : ℕ) → sort_tree (Var i) ≡ number 0 ▸ number i
unfolding sort_tree
sort_tree_var = fold_var Tree sort_tree_step

pub sort_tree_rigid : (i : ℕ) → sort_tree (Rigid i) ≡ number 1 ▸ number i
unfolding sort_tree
sort_tree_rigid = fold_rigid Tree sort_tree_step

pub sort_tree_int : sort_tree Int ≡ number 2 ▸ none
unfolding sort_tree
sort_tree_int = fold_int Tree sort_tree_step

pub sort_tree_real : sort_tree Real ≡ number 3 ▸ none
unfolding sort_tree
sort_tree_real = fold_real Tree sort_tree_step

pub sort_tree_bool : sort_tree BoolSort ≡ number 4 ▸ none
unfolding sort_tree
sort_tree_bool = fold_bool Tree sort_tree_step

pub sort_tree_unit : sort_tree UnitSort ≡ number 5 ▸ none
unfolding sort_tree
sort_tree_unit = fold_unit Tree sort_tree_step

pub sort_tree_named : (h : ℕ) (ss : List Sort) → sort_tree (Named h ss) ≡ number 6 ▸ number h ▸ trees (map sort_tree ss)
unfolding sort_tree
sort_tree_named = fold_named Tree sort_tree_step

pub ruleset sort_trees = (sort_tree_var, sort_tree_rigid, sort_tree_int, sort_tree_real, sort_tree_bool, sort_tree_unit, sort_tree_named)

abbrev OwnSort : Sort → Type 0
OwnSort s = (t : Sort) → sort_tree s ≡ sort_tree t → s ≡ t

sort_layers : (y : Sort-F ((s : Sort) × OwnSort s)) (z : Sort-F Sort) → sort_tree_step (map-Sort Sort Tree sort_tree (map-Sort ((s : Sort) × OwnSort s) Sort (λ e. e.0) y)) ≡ sort_tree_step (map-Sort Sort Tree sort_tree z) → map-Sort ((s : Sort) × OwnSort s) Sort (λ e. e.0) y ≡ z
sort_layers (sort_layer.Var i) (sort_layer.Var j) e = cc e
sort_layers (sort_layer.Rigid i) (sort_layer.Rigid j) e = cc e
sort_layers sort_layer.Int sort_layer.Int e = refl
sort_layers sort_layer.Real sort_layer.Real e = refl
sort_layers sort_layer.Bool sort_layer.Bool e = refl
sort_layers sort_layer.Unit sort_layer.Unit e = refl
sort_layers (sort_layer.Named h xs) (sort_layer.Named k ys) e =
    let p : h ≡ k = cc e in
    let q : trees (map sort_tree (map (λ e. e.0) xs)) ≡ trees (map sort_tree ys) = cc e in
    λ i. sort_layer.Named (p i) (own_lists sort_tree xs ys q i)
sort_layers y z e = cc e

pub own_sort : (s : Sort) → OwnSort s
unfolding sort_tree
own_sort = ind-Sort OwnSort
    (λ x y e t q.
    let E : sort_tree_step (map-Sort Sort Tree sort_tree x) ≡ sort_tree_step (map-Sort Sort Tree sort_tree (out-Sort t)) = sym (fold-roll-Sort Tree sort_tree_step x) ∙ q ∙ fold_out-Sort Tree sort_tree_step t in
    let r = sort_layers y (out-Sort t) (ap (λ w. sort_tree_step (map-Sort Sort Tree sort_tree w)) e ∙ E) in
    ap roll-Sort (sym e ∙ r) ∙ roll-out-Sort t)

pub sort_total : IsTotalOrder sort_order
sort_total = on_total sort_tree tree_total

pub sort_exact : (s t : Sort) → (sort_order s t ≡ Equal) ↔ (s ≡ t)
sort_exact = exact sort_tree own_sort

pub sorts_exact : (ss tt' : List Sort) → (slice_cmp sort_order ss tt' ≡ Equal) ↔ (ss ≡ tt')
sorts_exact = lists_exact sort_order sort_exact

pub named_order : (h : ℕ) (ss : List Sort) (k : ℕ) (us : List Sort) → nat_cmp h k ≡ Equal → sort_order (Named h ss) (Named k us) ≡ slice_cmp sort_order ss us
named_order h ss k us e =
    (λ i. tree_order (sort_tree_named h ss i) (sort_tree_named k us i)) ∙ ap (λ o. ordering_then o (tree_order (trees (map sort_tree ss)) (trees (map sort_tree us)))) e ∙ lists_order sort_tree ss us

-- different variants
sort_layer_ranked : (x : Sort-F Tree) → Ranked (sort_tree_step x)
sort_layer_ranked sort_layer.Int = refl
sort_layer_ranked x = refl

sort_ranked : (s : Sort) → Ranked (sort_tree s)
unfolding sort_tree
sort_ranked s = subst Ranked (sym (fold_out-Sort Tree sort_tree_step s)) (sort_layer_ranked (map-Sort Sort Tree sort_tree (out-Sort s)))

abbrev sort_layer_rank : Sort-F Sort → ℕ
sort_layer_rank x = rank (sort_tree_step (map-Sort Sort Tree sort_tree x))

pub sorts_apart : (s t : Sort) (n : ℕ) (u : Tree) → sort_tree s ≡ number n ▸ u → ((x : Sort-F Sort) → roll-Sort x ≡ t → sort_layer_rank x ≡ n → ⊥) → nat_cmp (rank (sort_tree s)) (rank (sort_tree t)) ≡ sort_order s t
unfolding sort_tree
sorts_apart s t n u p d =
    by_rank (sort_tree s) (sort_tree t) (sort_ranked s) (sort_ranked t)
    (λ e. d (out-Sort t) (roll-out-Sort t) (ap rank (sym (fold_out-Sort Tree sort_tree_step t)) ∙ sym e ∙ ap rank p))

pub sort_not_var : {t : Sort} → ((i : ℕ) → t ≡ Var i → ⊥) → (x : Sort-F Sort) → roll-Sort x ≡ t → sort_layer_rank x ≡ 0 → ⊥
sort_not_var n (sort_layer.Var i) e v = n i (sym e ∙ rolls-Var i)
sort_not_var n x e v = cc v

pub sort_not_rigid : {t : Sort} → ((i : ℕ) → t ≡ Rigid i → ⊥) → (x : Sort-F Sort) → roll-Sort x ≡ t → sort_layer_rank x ≡ 1 → ⊥
sort_not_rigid n (sort_layer.Rigid i) e v = n i (sym e ∙ rolls-Rigid i)
sort_not_rigid n x e v = cc v

pub sort_not_int : {t : Sort} → (t ≡ Int → ⊥) → (x : Sort-F Sort) → roll-Sort x ≡ t → sort_layer_rank x ≡ 2 → ⊥
sort_not_int n sort_layer.Int e v = n (sym e ∙ rolls-Int)
sort_not_int n x e v = cc v

pub sort_not_real : {t : Sort} → (t ≡ Real → ⊥) → (x : Sort-F Sort) → roll-Sort x ≡ t → sort_layer_rank x ≡ 3 → ⊥
sort_not_real n sort_layer.Real e v = n (sym e ∙ rolls-Real)
sort_not_real n x e v = cc v

pub sort_not_bool : {t : Sort} → (t ≡ BoolSort → ⊥) → (x : Sort-F Sort) → roll-Sort x ≡ t → sort_layer_rank x ≡ 4 → ⊥
sort_not_bool n sort_layer.Bool e v = n (sym e ∙ rolls-Bool)
sort_not_bool n x e v = cc v

pub sort_not_unit : {t : Sort} → (t ≡ UnitSort → ⊥) → (x : Sort-F Sort) → roll-Sort x ≡ t → sort_layer_rank x ≡ 5 → ⊥
sort_not_unit n sort_layer.Unit e v = n (sym e ∙ rolls-Unit)
sort_not_unit n x e v = cc v

pub sort_not_named : {t : Sort} → ((h : ℕ) (ss : List Sort) → t ≡ Named h ss → ⊥) → (x : Sort-F Sort) → roll-Sort x ≡ t → sort_layer_rank x ≡ 6 → ⊥
sort_not_named n (sort_layer.Named h ss) e v = n h ss (sym e ∙ rolls-Named h ss)
sort_not_named n x e v = cc v

-- ---- heads
own_op : (a b : Op) → op_tree a ≡ op_tree b → a ≡ b
own_op op.Add op.Add e = refl
own_op op.Sub op.Sub e = refl
own_op op.Neg op.Neg e = refl
own_op op.Mul op.Mul e = refl
own_op op.Div op.Div e = refl
own_op op.Mod op.Mod e = refl
own_op a b e = cc e

own_head : (a b : Head) → head_tree a ≡ head_tree b → a ≡ b
own_head (head.Symbol m) (head.Symbol n) e = cc e
own_head (head.Build m) (head.Build n) e = cc e
own_head (head.Field m i) (head.Field n j) e = cc e
own_head (head.Int o) (head.Int p) e = let q : op_tree o ≡ op_tree p = cc e in ap head.Int (own_op o p q)
own_head (head.Real o) (head.Real p) e = let q : op_tree o ≡ op_tree p = cc e in ap head.Real (own_op o p q)
own_head head.True head.True e = refl
own_head head.False head.False e = refl
own_head head.Void head.Void e = refl
own_head a b e = cc e

pub head_exact : (a b : Head) → (head_order a b ≡ Equal) ↔ (a ≡ b)
head_exact = exact head_tree own_head

head_ranked : (h : Head) → Ranked (head_tree h)
head_ranked head.Void = refl
head_ranked h = refl

pub heads_apart : (a b : Head) → (rank (head_tree a) ≡ rank (head_tree b) → ⊥) → nat_cmp (rank (head_tree a)) (rank (head_tree b)) ≡ head_order a b
heads_apart a b = by_rank (head_tree a) (head_tree b) (head_ranked a) (head_ranked b)

-- ---- terms
pub term_tree_bound : (i : ℕ) → term_tree (Bound i) ≡ number 0 ▸ number i
unfolding term_tree
term_tree_bound = fold_bound Tree term_tree_step

pub term_tree_num : (a : ℤ) (b : ℤ) (real : Bool) → term_tree (Num a b real) ≡ number 1 ▸ whole a ▸ whole b ▸ flag real
unfolding term_tree
term_tree_num = fold_num Tree term_tree_step

pub term_tree_fresh : (n : ℕ) (s : Sort) → term_tree (Fresh n s) ≡ number 2 ▸ number n ▸ sort_tree s
unfolding term_tree
term_tree_fresh = fold_fresh Tree term_tree_step

pub term_tree_apply : (h : Head) (ss : List Sort) (us : List Term) → term_tree (Apply h ss us) ≡ number 3 ▸ head_tree h ▸ trees (map sort_tree ss) ▸ terms_tree us
unfolding term_tree
term_tree_apply = fold_apply Tree term_tree_step

pub ruleset term_trees = (term_tree_bound, term_tree_num, term_tree_fresh, term_tree_apply)

abbrev OwnTerm : Term → Type 0
OwnTerm s = (t : Term) → term_tree s ≡ term_tree t → s ≡ t

term_layers : (y : Term-F ((s : Term) × OwnTerm s)) (z : Term-F Term) → term_tree_step (map-Term Term Tree term_tree (map-Term ((s : Term) × OwnTerm s) Term (λ e. e.0) y)) ≡ term_tree_step (map-Term Term Tree term_tree z) → map-Term ((s : Term) × OwnTerm s) Term (λ e. e.0) y ≡ z
term_layers (layer.Bound i) (layer.Bound j) e = cc e
term_layers (layer.Num a b r) (layer.Num c d s) e =
    let p : a ≡ c = cc e in
    let q : b ≡ d = cc e in
    let h : flag r ≡ flag s = cc e in
    λ i. layer.Num (p i) (q i) (own_flags r s h i)
term_layers (layer.Fresh n s) (layer.Fresh k t) e =
    let p : n ≡ k = cc e in
    let q : sort_tree s ≡ sort_tree t = cc e in
    λ i. layer.Fresh (p i) (own_sort s t q i)
term_layers (layer.Apply h ss xs) (layer.Apply k us ys) e =
    let p : head_tree h ≡ head_tree k = cc e in
    let q : trees (map sort_tree ss) ≡ trees (map sort_tree us) = cc e in
    let r : trees (map term_tree (map (λ e. e.0) xs)) ≡ trees (map term_tree ys) = cc e in
    λ i. layer.Apply (own_head h k p i) (own_trees sort_tree own_sort ss us q i) (own_lists term_tree xs ys r i)
term_layers y z e = cc e

pub own_term : (s : Term) → OwnTerm s
unfolding term_tree
own_term = ind-Term OwnTerm
    (λ x y e t q.
    let E : term_tree_step (map-Term Term Tree term_tree x) ≡ term_tree_step (map-Term Term Tree term_tree (out-Term t)) = sym (fold-roll-Term Tree term_tree_step x) ∙ q ∙ fold_out-Term Tree term_tree_step t in
    let r = term_layers y (out-Term t) (ap (λ w. term_tree_step (map-Term Term Tree term_tree w)) e ∙ E) in
    ap roll-Term (sym e ∙ r) ∙ roll-out-Term t)

pub term_total : IsTotalOrder term_order
term_total = on_total term_tree tree_total

pub term_exact : (s t : Term) → (term_order s t ≡ Equal) ↔ (s ≡ t)
term_exact = exact term_tree own_term

pub terms_exact : (ss us : List Term) → (slice_cmp term_order ss us ≡ Equal) ↔ (ss ≡ us)
terms_exact = lists_exact term_order term_exact

pub triggers_exact : (ss us : List (List Term)) → (slice_cmp (slice_cmp term_order) ss us ≡ Equal) ↔ (ss ≡ us)
triggers_exact = lists_exact (slice_cmp term_order) terms_exact

pub apply_order : (h : Head) (ss : List Sort) (xs : List Term) (k : Head) (us : List Sort) (ys : List Term) (o : Ordering) → o ≡ ordering_then (head_order h k) (slice_cmp sort_order ss us) → term_order (Apply h ss xs) (Apply k us ys) ≡ ordering_then o (slice_cmp term_order xs ys)
apply_order h ss xs k us ys o e =
    (λ i. tree_order (term_tree_apply h ss xs i) (term_tree_apply k us ys i))
    ∙ (λ i. ordering_then (head_order h k) (ordering_then (lists_order sort_tree ss us i) (lists_order term_tree xs ys i)))
    ∙ sym (then_assoc (head_order h k) (slice_cmp sort_order ss us) (slice_cmp term_order xs ys))
    ∙ ap (λ p. ordering_then p (slice_cmp term_order xs ys)) (sym e)

-- different variants
term_layer_ranked : (x : Term-F Tree) → Ranked (term_tree_step x)
term_layer_ranked (layer.Bound i) = refl
term_layer_ranked x = refl

term_ranked : (s : Term) → Ranked (term_tree s)
unfolding term_tree
term_ranked s = subst Ranked (sym (fold_out-Term Tree term_tree_step s)) (term_layer_ranked (map-Term Term Tree term_tree (out-Term s)))

abbrev term_layer_rank : Term-F Term → ℕ
term_layer_rank x = rank (term_tree_step (map-Term Term Tree term_tree x))

pub terms_apart : (s t : Term) (n : ℕ) (u : Tree) → term_tree s ≡ number n ▸ u → ((x : Term-F Term) → roll-Term x ≡ t → term_layer_rank x ≡ n → ⊥) → nat_cmp (rank (term_tree s)) (rank (term_tree t)) ≡ term_order s t
unfolding term_tree
terms_apart s t n u p d =
    by_rank (term_tree s) (term_tree t) (term_ranked s) (term_ranked t)
    (λ e. d (out-Term t) (roll-out-Term t) (ap rank (sym (fold_out-Term Tree term_tree_step t)) ∙ sym e ∙ ap rank p))

pub term_not_bound : {t : Term} → ((i : ℕ) → t ≡ Bound i → ⊥) → (x : Term-F Term) → roll-Term x ≡ t → term_layer_rank x ≡ 0 → ⊥
term_not_bound n (layer.Bound i) e v = n i (sym e ∙ rolls-Bound i)
term_not_bound n x e v = cc v

pub term_not_num : {t : Term} → ((a : ℤ) (b : ℤ) (real : Bool) → t ≡ Num a b real → ⊥) → (x : Term-F Term) → roll-Term x ≡ t → term_layer_rank x ≡ 1 → ⊥
term_not_num n (layer.Num a b real) e v = n a b real (sym e ∙ rolls-Num a b real)
term_not_num n x e v = cc v

pub term_not_fresh : {t : Term} → ((n : ℕ) (s : Sort) → t ≡ Fresh n s → ⊥) → (x : Term-F Term) → roll-Term x ≡ t → term_layer_rank x ≡ 2 → ⊥
term_not_fresh n (layer.Fresh k s) e v = n k s (sym e ∙ rolls-Fresh k s)
term_not_fresh n x e v = cc v

pub term_not_apply : {t : Term} → ((h : Head) (ss : List Sort) (us : List Term) → t ≡ Apply h ss us → ⊥) → (x : Term-F Term) → roll-Term x ≡ t → term_layer_rank x ≡ 3 → ⊥
term_not_apply n (layer.Apply h ss us) e v = n h ss us (sym e ∙ rolls-Apply h ss us)
term_not_apply n x e v = cc v

-- ---- formulas
pub formula_tree_true : formula_tree True ≡ number 0 ▸ none
unfolding formula_tree quant_tree
formula_tree_true = fold_true Tree Tree formula_tree_step quant_tree_step

pub formula_tree_false : formula_tree False ≡ number 1 ▸ none
unfolding formula_tree quant_tree
formula_tree_false = fold_false Tree Tree formula_tree_step quant_tree_step

pub formula_tree_eq : (a : Term) (b : Term) → formula_tree (Eq a b) ≡ number 2 ▸ term_tree a ▸ term_tree b
unfolding formula_tree quant_tree
formula_tree_eq = fold_eq Tree Tree formula_tree_step quant_tree_step

pub formula_tree_lt : (a : Term) (b : Term) → formula_tree (Lt a b) ≡ number 3 ▸ term_tree a ▸ term_tree b
unfolding formula_tree quant_tree
formula_tree_lt = fold_lt Tree Tree formula_tree_step quant_tree_step

pub formula_tree_le : (a : Term) (b : Term) → formula_tree (Le a b) ≡ number 4 ▸ term_tree a ▸ term_tree b
unfolding formula_tree quant_tree
formula_tree_le = fold_le Tree Tree formula_tree_step quant_tree_step

pub formula_tree_pred : (p : ℕ) (ss : List Sort) (us : List Term) → formula_tree (Pred p ss us) ≡ number 5 ▸ number p ▸ trees (map sort_tree ss) ▸ terms_tree us
unfolding formula_tree quant_tree
formula_tree_pred = fold_pred Tree Tree formula_tree_step quant_tree_step

pub formula_tree_not : (a : Formula) → formula_tree (Not a) ≡ number 6 ▸ formula_tree a
unfolding formula_tree quant_tree
formula_tree_not = fold_not Tree Tree formula_tree_step quant_tree_step

pub formula_tree_and : (a : Formula) (b : Formula) → formula_tree (And a b) ≡ number 7 ▸ formula_tree a ▸ formula_tree b
unfolding formula_tree quant_tree
formula_tree_and = fold_and Tree Tree formula_tree_step quant_tree_step

pub formula_tree_or : (a : Formula) (b : Formula) → formula_tree (Or a b) ≡ number 8 ▸ formula_tree a ▸ formula_tree b
unfolding formula_tree quant_tree
formula_tree_or = fold_or Tree Tree formula_tree_step quant_tree_step

pub formula_tree_xor : (a : Formula) (b : Formula) → formula_tree (Xor a b) ≡ number 9 ▸ formula_tree a ▸ formula_tree b
unfolding formula_tree quant_tree
formula_tree_xor = fold_xor Tree Tree formula_tree_step quant_tree_step

pub formula_tree_iff : (a : Formula) (b : Formula) → formula_tree (Iff a b) ≡ number 10 ▸ formula_tree a ▸ formula_tree b
unfolding formula_tree quant_tree
formula_tree_iff = fold_iff Tree Tree formula_tree_step quant_tree_step

pub formula_tree_all : (q : Quant) → formula_tree (All q) ≡ number 11 ▸ quant_tree q
unfolding formula_tree quant_tree
formula_tree_all = fold_all Tree Tree formula_tree_step quant_tree_step

pub formula_tree_ex : (q : Quant) → formula_tree (Ex q) ≡ number 12 ▸ quant_tree q
unfolding formula_tree quant_tree
formula_tree_ex = fold_ex Tree Tree formula_tree_step quant_tree_step

pub ruleset formula_trees = (formula_tree_true, formula_tree_false, formula_tree_eq, formula_tree_lt, formula_tree_le, formula_tree_pred, formula_tree_not, formula_tree_and, formula_tree_or, formula_tree_xor, formula_tree_iff, formula_tree_all, formula_tree_ex)

pub quant_tree_block : (q : Quant) → quant_tree q ≡ trees (map sort_tree q.sorts) ▸ trees (map terms_tree q.triggers) ▸ formula_tree q.body
unfolding formula_tree quant_tree
quant_tree_block = fold_block Tree Tree formula_tree_step quant_tree_step

abbrev OwnFormula : Formula → Type 0
OwnFormula f = (g : Formula) → formula_tree f ≡ formula_tree g → f ≡ g

abbrev OwnQuant : Quant → Type 0
OwnQuant p = (q : Quant) → quant_tree p ≡ quant_tree q → p ≡ q

abbrev FormulaOf : Type 0
FormulaOf = (f : Formula) × OwnFormula f

abbrev QuantOf : Type 0
QuantOf = (q : Quant) × OwnQuant q

abbrev step_of : Formula-F Formula Quant → Tree
step_of x = formula_tree_step (map-Formula Formula Quant Tree Tree formula_tree quant_tree x)

abbrev block_of : Quant-F Formula Quant → Tree
block_of x = quant_tree_step (map-Quant Formula Quant Tree Tree formula_tree quant_tree x)

abbrev bare : Formula-F FormulaOf QuantOf → Formula-F Formula Quant
bare y = map-Formula FormulaOf QuantOf Formula Quant (λ e. e.0) (λ e. e.0) y

abbrev bare_block : Quant-F FormulaOf QuantOf → Quant-F Formula Quant
bare_block y = map-Quant FormulaOf QuantOf Formula Quant (λ e. e.0) (λ e. e.0) y

formula_layers : (y : Formula-F FormulaOf QuantOf) (z : Formula-F Formula Quant) → step_of (bare y) ≡ step_of z → bare y ≡ z
formula_layers formula_layer.True formula_layer.True e = refl
formula_layers formula_layer.False formula_layer.False e = refl
formula_layers (formula_layer.Eq a b) (formula_layer.Eq c d) e =
    let p : term_tree a ≡ term_tree c = cc e in
    let q : term_tree b ≡ term_tree d = cc e in
    λ i. formula_layer.Eq (own_term a c p i) (own_term b d q i)
formula_layers (formula_layer.Lt a b) (formula_layer.Lt c d) e =
    let p : term_tree a ≡ term_tree c = cc e in
    let q : term_tree b ≡ term_tree d = cc e in
    λ i. formula_layer.Lt (own_term a c p i) (own_term b d q i)
formula_layers (formula_layer.Le a b) (formula_layer.Le c d) e =
    let p : term_tree a ≡ term_tree c = cc e in
    let q : term_tree b ≡ term_tree d = cc e in
    λ i. formula_layer.Le (own_term a c p i) (own_term b d q i)
formula_layers (formula_layer.Pred p ss xs) (formula_layer.Pred q us ys) e =
    let h : p ≡ q = cc e in
    let k : trees (map sort_tree ss) ≡ trees (map sort_tree us) = cc e in
    let l : terms_tree xs ≡ terms_tree ys = cc e in
    λ i. formula_layer.Pred (h i) (own_trees sort_tree own_sort ss us k i) (own_trees term_tree own_term xs ys l i)
formula_layers (formula_layer.Not a) (formula_layer.Not c) e = let p : formula_tree a.0 ≡ formula_tree c = cc e in ap formula_layer.Not (a.1 c p)
formula_layers (formula_layer.And a b) (formula_layer.And c d) e =
    let p : formula_tree a.0 ≡ formula_tree c = cc e in
    let q : formula_tree b.0 ≡ formula_tree d = cc e in
    λ i. formula_layer.And (a.1 c p i) (b.1 d q i)
formula_layers (formula_layer.Or a b) (formula_layer.Or c d) e =
    let p : formula_tree a.0 ≡ formula_tree c = cc e in
    let q : formula_tree b.0 ≡ formula_tree d = cc e in
    λ i. formula_layer.Or (a.1 c p i) (b.1 d q i)
formula_layers (formula_layer.Xor a b) (formula_layer.Xor c d) e =
    let p : formula_tree a.0 ≡ formula_tree c = cc e in
    let q : formula_tree b.0 ≡ formula_tree d = cc e in
    λ i. formula_layer.Xor (a.1 c p i) (b.1 d q i)
formula_layers (formula_layer.Iff a b) (formula_layer.Iff c d) e =
    let p : formula_tree a.0 ≡ formula_tree c = cc e in
    let q : formula_tree b.0 ≡ formula_tree d = cc e in
    λ i. formula_layer.Iff (a.1 c p i) (b.1 d q i)
formula_layers (formula_layer.All a) (formula_layer.All c) e = let p : quant_tree a.0 ≡ quant_tree c = cc e in ap formula_layer.All (a.1 c p)
formula_layers (formula_layer.Ex a) (formula_layer.Ex c) e = let p : quant_tree a.0 ≡ quant_tree c = cc e in ap formula_layer.Ex (a.1 c p)
formula_layers y z e = cc e

block_layers : (y : Quant-F FormulaOf QuantOf) (z : Quant-F Formula Quant) → block_of (bare_block y) ≡ block_of z → bare_block y ≡ z
block_layers y z e =
    let p : trees (map sort_tree y.sorts) ≡ trees (map sort_tree z.sorts) = cc e in
    let q : trees (map terms_tree y.triggers) ≡ trees (map terms_tree z.triggers) = cc e in
    let r : formula_tree y.body.0 ≡ formula_tree z.body = cc e in
    λ i. record {
      sorts = own_trees sort_tree own_sort y.sorts z.sorts p i;
      triggers = own_trees terms_tree (own_trees term_tree own_term) y.triggers z.triggers q i;
      body = y.body.1 z.body r i;
    }

own_step : (x : Formula-F Formula Quant) (y : Formula-F FormulaOf QuantOf) → bare y ≡ x → OwnFormula (roll-Formula x)
unfolding formula_tree quant_tree
own_step x y e g q =
    let E : step_of x ≡ step_of (out-Formula g) = sym (fold-roll-Formula Tree Tree formula_tree_step quant_tree_step x) ∙ q ∙ fold_out-Formula Tree Tree formula_tree_step quant_tree_step g in
    ap roll-Formula (sym e ∙ formula_layers y (out-Formula g) (ap step_of e ∙ E)) ∙ roll-out-Formula g

own_block : (x : Quant-F Formula Quant) (y : Quant-F FormulaOf QuantOf) → bare_block y ≡ x → OwnQuant (roll-Quant x)
unfolding formula_tree quant_tree
own_block x y e g q =
    let E : block_of x ≡ block_of (out-Quant g) = sym (fold-roll-Quant Tree Tree formula_tree_step quant_tree_step x) ∙ q ∙ fold_out-Quant Tree Tree formula_tree_step quant_tree_step g in
    ap roll-Quant (sym e ∙ block_layers y (out-Quant g) (ap block_of e ∙ E)) ∙ roll-out-Quant g

own_formula : (f : Formula) → OwnFormula f
own_formula = ind-Formula OwnFormula OwnQuant own_step own_block

own_quant : (q : Quant) → OwnQuant q
own_quant = ind-Quant OwnFormula OwnQuant own_step own_block

pub formula_total : IsTotalOrder formula_order
formula_total = formulas_total

pub formula_exact : (f g : Formula) → (formula_order f g ≡ Equal) ↔ (f ≡ g)
formula_exact = exact formula_tree own_formula

pub quant_exact : (p q : Quant) → (quant_order p q ≡ Equal) ↔ (p ≡ q)
quant_exact = exact quant_tree own_quant

pub pred_order : (p : ℕ) (ss : List Sort) (xs : List Term) (q : ℕ) (us : List Sort) (ys : List Term) → formula_order (Pred p ss xs) (Pred q us ys) ≡ ordering_then (ordering_then (nat_cmp p q) (slice_cmp sort_order ss us)) (slice_cmp term_order xs ys)
pred_order p ss xs q us ys =
    (λ i. tree_order (formula_tree_pred p ss xs i) (formula_tree_pred q us ys i))
    ∙ (λ i. ordering_then (nat_cmp p q) (ordering_then (lists_order sort_tree ss us i) (lists_order term_tree xs ys i)))
    ∙ sym (then_assoc (nat_cmp p q) (slice_cmp sort_order ss us) (slice_cmp term_order xs ys))

pub eq_order : (a b c d : Term) → formula_order (Eq a b) (Eq c d) ≡ ordering_then (term_order a c) (term_order b d)
eq_order a b c d = λ i. tree_order (formula_tree_eq a b i) (formula_tree_eq c d i)

pub lt_order : (a b c d : Term) → formula_order (Lt a b) (Lt c d) ≡ ordering_then (term_order a c) (term_order b d)
lt_order a b c d = λ i. tree_order (formula_tree_lt a b i) (formula_tree_lt c d i)

pub le_order : (a b c d : Term) → formula_order (Le a b) (Le c d) ≡ ordering_then (term_order a c) (term_order b d)
le_order a b c d = λ i. tree_order (formula_tree_le a b i) (formula_tree_le c d i)

pub and_order : (a b c d : Formula) → formula_order (And a b) (And c d) ≡ ordering_then (formula_order a c) (formula_order b d)
and_order a b c d = λ i. tree_order (formula_tree_and a b i) (formula_tree_and c d i)

pub or_order : (a b c d : Formula) → formula_order (Or a b) (Or c d) ≡ ordering_then (formula_order a c) (formula_order b d)
or_order a b c d = λ i. tree_order (formula_tree_or a b i) (formula_tree_or c d i)

pub xor_order : (a b c d : Formula) → formula_order (Xor a b) (Xor c d) ≡ ordering_then (formula_order a c) (formula_order b d)
xor_order a b c d = λ i. tree_order (formula_tree_xor a b i) (formula_tree_xor c d i)

pub iff_order : (a b c d : Formula) → formula_order (Iff a b) (Iff c d) ≡ ordering_then (formula_order a c) (formula_order b d)
iff_order a b c d = λ i. tree_order (formula_tree_iff a b i) (formula_tree_iff c d i)

pub block_order : (p q : Quant) (o : Ordering) → o ≡ ordering_then (slice_cmp sort_order p.sorts q.sorts) (slice_cmp (slice_cmp term_order) p.triggers q.triggers) → quant_order p q ≡ ordering_then o (formula_order p.body q.body)
block_order p q o e =
    (λ i. tree_order (quant_tree_block p i) (quant_tree_block q i))
    ∙ (λ i. ordering_then (lists_order sort_tree p.sorts q.sorts i) (ordering_then (lists_order terms_tree p.triggers q.triggers i) (formula_order p.body q.body)))
    ∙ (λ i. ordering_then (slice_cmp sort_order p.sorts q.sorts) (ordering_then (slice_cmp (λ x y. lists_order term_tree x y i) p.triggers q.triggers) (formula_order p.body q.body)))
    ∙ sym (then_assoc (slice_cmp sort_order p.sorts q.sorts) (slice_cmp (slice_cmp term_order) p.triggers q.triggers) (formula_order p.body q.body))
    ∙ ap (λ r. ordering_then r (formula_order p.body q.body)) (sym e)

-- different variants
formula_layer_ranked : (x : Formula-F Tree Tree) → Ranked (formula_tree_step x)
formula_layer_ranked formula_layer.True = refl
formula_layer_ranked x = refl

formula_ranked : (f : Formula) → Ranked (formula_tree f)
unfolding formula_tree quant_tree
formula_ranked f = subst Ranked (sym (fold_out-Formula Tree Tree formula_tree_step quant_tree_step f)) (formula_layer_ranked (map-Formula Formula Quant Tree Tree formula_tree quant_tree (out-Formula f)))

abbrev formula_layer_rank : Formula-F Formula Quant → ℕ
formula_layer_rank x = rank (step_of x)

pub formulas_apart : (f g : Formula) (n : ℕ) (u : Tree) → formula_tree f ≡ number n ▸ u → ((x : Formula-F Formula Quant) → roll-Formula x ≡ g → formula_layer_rank x ≡ n → ⊥) → nat_cmp (rank (formula_tree f)) (rank (formula_tree g)) ≡ formula_order f g
unfolding formula_tree quant_tree
formulas_apart f g n u p d =
    by_rank (formula_tree f) (formula_tree g) (formula_ranked f) (formula_ranked g)
    (λ e. d (out-Formula g) (roll-out-Formula g) (ap rank (sym (fold_out-Formula Tree Tree formula_tree_step quant_tree_step g)) ∙ sym e ∙ ap rank p))

pub formula_not_true : {t : Formula} → (t ≡ True → ⊥) → (x : Formula-F Formula Quant) → roll-Formula x ≡ t → formula_layer_rank x ≡ 0 → ⊥
formula_not_true n formula_layer.True e v = n (sym e ∙ rolls-True)
formula_not_true n x e v = cc v

pub formula_not_false : {t : Formula} → (t ≡ False → ⊥) → (x : Formula-F Formula Quant) → roll-Formula x ≡ t → formula_layer_rank x ≡ 1 → ⊥
formula_not_false n formula_layer.False e v = n (sym e ∙ rolls-False)
formula_not_false n x e v = cc v

pub formula_not_eq : {t : Formula} → ((a : Term) (b : Term) → t ≡ Eq a b → ⊥) → (x : Formula-F Formula Quant) → roll-Formula x ≡ t → formula_layer_rank x ≡ 2 → ⊥
formula_not_eq n (formula_layer.Eq a b) e v = n a b (sym e ∙ rolls-Eq a b)
formula_not_eq n x e v = cc v

pub formula_not_lt : {t : Formula} → ((a : Term) (b : Term) → t ≡ Lt a b → ⊥) → (x : Formula-F Formula Quant) → roll-Formula x ≡ t → formula_layer_rank x ≡ 3 → ⊥
formula_not_lt n (formula_layer.Lt a b) e v = n a b (sym e ∙ rolls-Lt a b)
formula_not_lt n x e v = cc v

pub formula_not_le : {t : Formula} → ((a : Term) (b : Term) → t ≡ Le a b → ⊥) → (x : Formula-F Formula Quant) → roll-Formula x ≡ t → formula_layer_rank x ≡ 4 → ⊥
formula_not_le n (formula_layer.Le a b) e v = n a b (sym e ∙ rolls-Le a b)
formula_not_le n x e v = cc v

pub formula_not_pred : {t : Formula} → ((p : ℕ) (ss : List Sort) (us : List Term) → t ≡ Pred p ss us → ⊥) → (x : Formula-F Formula Quant) → roll-Formula x ≡ t → formula_layer_rank x ≡ 5 → ⊥
formula_not_pred n (formula_layer.Pred p ss us) e v = n p ss us (sym e ∙ rolls-Pred p ss us)
formula_not_pred n x e v = cc v

pub formula_not_not : {t : Formula} → ((a : Formula) → t ≡ Not a → ⊥) → (x : Formula-F Formula Quant) → roll-Formula x ≡ t → formula_layer_rank x ≡ 6 → ⊥
formula_not_not n (formula_layer.Not a) e v = n a (sym e ∙ rolls-Not a)
formula_not_not n x e v = cc v

pub formula_not_and : {t : Formula} → ((a : Formula) (b : Formula) → t ≡ And a b → ⊥) → (x : Formula-F Formula Quant) → roll-Formula x ≡ t → formula_layer_rank x ≡ 7 → ⊥
formula_not_and n (formula_layer.And a b) e v = n a b (sym e ∙ rolls-And a b)
formula_not_and n x e v = cc v

pub formula_not_or : {t : Formula} → ((a : Formula) (b : Formula) → t ≡ Or a b → ⊥) → (x : Formula-F Formula Quant) → roll-Formula x ≡ t → formula_layer_rank x ≡ 8 → ⊥
formula_not_or n (formula_layer.Or a b) e v = n a b (sym e ∙ rolls-Or a b)
formula_not_or n x e v = cc v

pub formula_not_xor : {t : Formula} → ((a : Formula) (b : Formula) → t ≡ Xor a b → ⊥) → (x : Formula-F Formula Quant) → roll-Formula x ≡ t → formula_layer_rank x ≡ 9 → ⊥
formula_not_xor n (formula_layer.Xor a b) e v = n a b (sym e ∙ rolls-Xor a b)
formula_not_xor n x e v = cc v

pub formula_not_iff : {t : Formula} → ((a : Formula) (b : Formula) → t ≡ Iff a b → ⊥) → (x : Formula-F Formula Quant) → roll-Formula x ≡ t → formula_layer_rank x ≡ 10 → ⊥
formula_not_iff n (formula_layer.Iff a b) e v = n a b (sym e ∙ rolls-Iff a b)
formula_not_iff n x e v = cc v

pub formula_not_all : {t : Formula} → ((q : Quant) → t ≡ All q → ⊥) → (x : Formula-F Formula Quant) → roll-Formula x ≡ t → formula_layer_rank x ≡ 11 → ⊥
formula_not_all n (formula_layer.All q) e v = n q (sym e ∙ rolls-All q)
formula_not_all n x e v = cc v

pub formula_not_ex : {t : Formula} → ((q : Quant) → t ≡ Ex q → ⊥) → (x : Formula-F Formula Quant) → roll-Formula x ≡ t → formula_layer_rank x ≡ 12 → ⊥
formula_not_ex n (formula_layer.Ex q) e v = n q (sym e ∙ rolls-Ex q)
formula_not_ex n x e v = cc v
