-- Laws of sorts that are put for unknowns: what two most general typings have in common.
use Rattle.ae_base.proofs.ListFacts.{cons_head, cons_tail}
use Rattle.std.proofs.Common.{◌≡◌, ℕ, List, [], ◌∷◌, map, refl, ap, sym, ◌∙◌, arith}
use Rattle.std.specs.List.{AllByRecursion}
use Rattle.ae_core.specs.Inner.Induction.{by_sorts}
use Rattle.ae_core.specs.declared.terms.Sort.{Sort, Sort-F, Var, Rigid, Int, Real, Bool as BoolSort, Unit as UnitSort, Named, fold-roll-Sort, out-Sort}
use Rattle.ae_core.specs.declared.terms.Sort.TheOpen as layer
use Rattle.ae_core.specs.declared.terms.Sort.TheVariants.{rolls-Named, rolls-Var, rolls-Rigid, rolls-Int, rolls-Real, rolls-Bool, rolls-Unit, outs-Named, outs-Var, outs-Rigid, outs-Int, outs-Real, outs-Bool, outs-Unit}
use Rattle.ae_types.specs.Substitutions.{put, put_step}
use Rattle.ae_elab.specs.Conditions.{blank}

pub put_named : (f : ℕ → Sort) (h : ℕ) (args : List Sort) → put f (Named h args) ≡ Named h (map (put f) args)
unfolding put
put_named f h args = ap (put f) (sym (rolls-Named h args)) ∙ fold-roll-Sort Sort (put_step f) (layer.Named h args)

pub put_var : (f : ℕ → Sort) (i : ℕ) → put f (Var i) ≡ f i
unfolding put
put_var f i = ap (put f) (sym (rolls-Var i)) ∙ fold-roll-Sort Sort (put_step f) (layer.Var i)

pub put_rigid : (f : ℕ → Sort) (i : ℕ) → put f (Rigid i) ≡ Rigid i
unfolding put
put_rigid f i = ap (put f) (sym (rolls-Rigid i)) ∙ fold-roll-Sort Sort (put_step f) (layer.Rigid i)

pub put_int : (f : ℕ → Sort) → put f Int ≡ Int
unfolding put
put_int f = ap (put f) (sym rolls-Int) ∙ fold-roll-Sort Sort (put_step f) layer.Int

pub put_real : (f : ℕ → Sort) → put f Real ≡ Real
unfolding put
put_real f = ap (put f) (sym rolls-Real) ∙ fold-roll-Sort Sort (put_step f) layer.Real

pub put_bool : (f : ℕ → Sort) → put f BoolSort ≡ BoolSort
unfolding put
put_bool f = ap (put f) (sym rolls-Bool) ∙ fold-roll-Sort Sort (put_step f) layer.Bool

pub put_unit : (f : ℕ → Sort) → put f UnitSort ≡ UnitSort
unfolding put
put_unit f = ap (put f) (sym rolls-Unit) ∙ fold-roll-Sort Sort (put_step f) layer.Unit

maps_put : (h m g : ℕ → Sort) (ss : List Sort) → AllByRecursion (λ s. put h (put m s) ≡ put g s) ss → map (put h) (map (put m) ss) ≡ map (put g) ss
maps_put h m g [] a = refl
maps_put h m g (s ∷ ss) a = ap (λ x. x ∷ map (put h) (map (put m) ss)) a.0 ∙ ap (λ xs. put g s ∷ xs) (maps_put h m g ss a.1)

-- m followed by h is g
pub put_put : (h m g : ℕ → Sort) → ((n : ℕ) → put h (m n) ≡ g n) → (s : Sort) → put h (put m s) ≡ put g s
put_put h m g e = by_sorts (λ s. put h (put m s) ≡ put g s)
    (λ n. ap (put h) (put_var m n) ∙ e n ∙ sym (put_var g n))
    (λ n. ap (put h) (put_rigid m n) ∙ put_rigid h n ∙ sym (put_rigid g n))
    (ap (put h) (put_int m) ∙ put_int h ∙ sym (put_int g))
    (ap (put h) (put_real m) ∙ put_real h ∙ sym (put_real g))
    (ap (put h) (put_bool m) ∙ put_bool h ∙ sym (put_bool g))
    (ap (put h) (put_unit m) ∙ put_unit h ∙ sym (put_unit g))
    (λ k args a. ap (put h) (put_named m k args) ∙ put_named h k (map (put m) args) ∙ ap (Named k) (maps_put h m g args a) ∙ sym (put_named g k args))

-- ---- what kind of sort it is
abbrev is_var : Sort-F Sort → ℕ
is_var (layer.Var i) = 1
is_var _ = 0

abbrev args_in : Sort-F Sort → List Sort
args_in (layer.Named h args) = args
args_in _ = []

pub named_args : (h k : ℕ) (ss ts : List Sort) → Named h ss ≡ Named k ts → ss ≡ ts
named_args h k ss ts e = sym (ap args_in (outs-Named h ss)) ∙ ap (λ s. args_in (out-Sort s)) e ∙ ap args_in (outs-Named k ts)

not_both : (n : ℕ) → n ≡ 0 → n ≡ 1 → ⊥
not_both n a b = omega arith

no_var : (s : Sort) (o : Sort-F Sort) (n : ℕ) → out-Sort s ≡ o → is_var o ≡ 0 → s ≡ Var n → ⊥
no_var s o n a b e = not_both (is_var (out-Sort s)) (ap is_var a ∙ b) (ap (λ t. is_var (out-Sort t)) e ∙ ap is_var (outs-Var n))

-- only an unknown becomes an unknown
pub from_var : (g : ℕ → Sort) (t : Sort) → (n : ℕ) → put g t ≡ Var n → (k : ℕ) × (t ≡ Var k)
from_var g = by_sorts (λ t. (n : ℕ) → put g t ≡ Var n → (k : ℕ) × (t ≡ Var k))
    (λ i n e. (i, refl))
    (λ i n e. absurd (no_var (Rigid i) (layer.Rigid i) n (outs-Rigid i) refl (sym (put_rigid g i) ∙ e)))
    (λ n e. absurd (no_var Int layer.Int n outs-Int refl (sym (put_int g) ∙ e)))
    (λ n e. absurd (no_var Real layer.Real n outs-Real refl (sym (put_real g) ∙ e)))
    (λ n e. absurd (no_var BoolSort layer.Bool n outs-Bool refl (sym (put_bool g) ∙ e)))
    (λ n e. absurd (no_var UnitSort layer.Unit n outs-Unit refl (sym (put_unit g) ∙ e)))
    (λ h args a n e. absurd (no_var (Named h (map (put g) args)) (layer.Named h (map (put g) args)) n (outs-Named h (map (put g) args)) refl (sym (put_named g h args) ∙ e)))

-- ---- two sorts of which each becomes the other are the same up to the names of unknowns
abbrev pub zeros : ℕ → Sort
zeros n = Var 0

blanks_same : (f g : ℕ → Sort) (ss : List Sort) → AllByRecursion (λ s. put g (put f s) ≡ s → blank (put f s) ≡ blank s) ss
    → map (put g) (map (put f) ss) ≡ ss → map (put zeros) (map (put f) ss) ≡ map (put zeros) ss
blanks_same f g [] a e = refl
blanks_same f g (s ∷ ss) a e =
    let x = a.0 (cons_head (put g (put f s)) s (map (put g) (map (put f) ss)) ss e) in
    let xs = blanks_same f g ss a.1 (cons_tail (put g (put f s)) s (map (put g) (map (put f) ss)) ss e) in
    ap (λ y. y ∷ map (put zeros) (map (put f) ss)) x ∙ ap (λ ys. blank s ∷ ys) xs

blank_var : (t : Sort) → (k : ℕ) × (t ≡ Var k) → blank t ≡ Var 0
blank_var t e = ap (put zeros) e.1 ∙ put_var zeros e.0

pub blank_same : (f g : ℕ → Sort) (s : Sort) → put g (put f s) ≡ s → blank (put f s) ≡ blank s
blank_same f g = by_sorts (λ s. put g (put f s) ≡ s → blank (put f s) ≡ blank s)
    (λ n e. blank_var (put f (Var n)) (from_var g (put f (Var n)) n e) ∙ sym (put_var zeros n))
    (λ n e. ap (put zeros) (put_rigid f n))
    (λ e. ap (put zeros) (put_int f))
    (λ e. ap (put zeros) (put_real f))
    (λ e. ap (put zeros) (put_bool f))
    (λ e. ap (put zeros) (put_unit f))
    (λ h args a e.
    (let back : Named h (map (put g) (map (put f) args)) ≡ Named h args =
    sym (ap (put g) (put_named f h args) ∙ put_named g h (map (put f) args)) ∙ e in
    let xs = blanks_same f g args a (named_args h h (map (put g) (map (put f) args)) args back) in
    ap (put zeros) (put_named f h args) ∙ put_named zeros h (map (put f) args) ∙ ap (Named h) xs ∙ sym (put_named zeros h args)))

-- what is shown of a sort is the sort as it stands, with one sort for all that is undetermined
pub shown_put : (m : ℕ → Sort) (s : Sort) → put zeros (put m s) ≡ put (λ n. put zeros (m n)) s
shown_put m s = put_put zeros m (λ n. put zeros (m n)) (λ n. refl) s

pub ruleset puts = (put_var, put_rigid, put_int, put_real, put_bool, put_unit, put_named)
