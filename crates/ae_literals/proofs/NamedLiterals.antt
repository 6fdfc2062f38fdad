-- Literals and the names of what stands in them.
use Rattle.std.specs.Prelude.{ℕ, zero, suc, ◌<◌, Bool, List, [], ◌∷◌, ◌≡◌, map, length, get_or, slice_get, Some}
use Rattle.std.proofs.Common.{refl, sym, ap, ◌∙◌, arith}
use Rattle.std.specs.List.{AllByRecursion}
use Rattle.std.proofs.lemmas.Option.{same_Some, slice_get_within}
use Rattle.ae_base.proofs.AllOf.{all_weaker}
use Rattle.ae_base.proofs.ListFacts.{get_map}
use Rattle.ae_core.specs.Sorts.{sort_of}
use Rattle.ae_core.specs.declared.terms.Sort.{Sort}
use Rattle.ae_core.specs.declared.terms.Term.{Term}
use Rattle.ae_core.specs.declared.formulas.Formula.{Formula, Formula-F, Eq, Pred, out-Formula}
use Rattle.ae_core.specs.declared.formulas.Formula.TheOpen as layer
use Rattle.ae_core.specs.declared.formulas.Formula.TheVariants.{outs-Eq, outs-Pred}
use Rattle.ae_core.specs.declared.formulas.Quant.{Quant}
use Rattle.ae_core.specs.declared.formulas.Lit.{Lit}
use Rattle.ae_core.specs.declared.terms.Head.TheVariants.{Symbol}
use Rattle.ae_store.specs.declared.nodes.NodeHead.TheVariants.{Of}
use Rattle.ae_store.specs.Shapes.{shape_of}
use Rattle.ae_store.specs.Stores.{Stored, IsStore}
use Rattle.ae_store.specs.Terms.{named}
use Rattle.ae_store.specs.declared.nodes.Node.{Node}
use Rattle.ae_theory.specs.Names.{terms_in}
use Rattle.ae_theory.specs.Classes.{IsEquation}
use Rattle.ae_literals.specs.Said.{IsAtomOf, IsAtom, IsOther}

-- ---- formulas
pub eq_parts : (s t a b : Term) → Eq s t ≡ Eq a b → (s ≡ a) × (t ≡ b)
eq_parts s t a b e = let z : ◌≡◌ {A = Formula-F Formula Quant} (layer.Eq s t) (layer.Eq a b) = sym (outs-Eq s t) ∙ ap out-Formula e ∙ outs-Eq a b in (cc z, cc z)

pub eq_no_pred : (s t : Term) (q : ℕ) (ss : List Sort) (us : List Term) → Eq s t ≡ Pred q ss us → ⊥
eq_no_pred s t q ss us e = let z : ◌≡◌ {A = Formula-F Formula Quant} (layer.Eq s t) (layer.Pred q ss us) = sym (outs-Eq s t) ∙ ap out-Formula e ∙ outs-Pred q ss us in cc z

pub pred_parts : (p q : ℕ) (rs ss : List Sort) (ts us : List Term) → Pred p rs ts ≡ Pred q ss us → (p ≡ q) × (rs ≡ ss) × (ts ≡ us)
pred_parts p q rs ss ts us e =
    let z : ◌≡◌ {A = Formula-F Formula Quant} (layer.Pred p rs ts) (layer.Pred q ss us) = sym (outs-Pred p rs ts) ∙ ap out-Formula e ∙ outs-Pred q ss us in (cc z, cc z, cc z)

-- ---- equations
module _ (s : Stored) (b : Bool) (t u : Term) where
  abbrev equation : Lit
  equation = record { positive = b; formula = Eq t u }

  no_atom : (d : Bool) (n : ℕ) → ¬ IsAtom s d equation n
  no_atom d n a = eq_no_pred t u a.predicate a.sorts a.args (ap (λ (z : Lit). z.formula) a.is)

  sides : (d : Bool) (l r : ℕ) (e : IsEquation s d equation l r) → (t ≡ e.left) × (u ≡ e.right)
  sides d l r e = eq_parts t u e.left e.right (ap (λ (z : Lit). z.formula) e.is)

  pub not_of_one_sort : ((r : Sort) → sort_of s.signature t ≡ Some r → sort_of s.signature u ≡ Some r → ⊥) → IsOther s equation
  not_of_one_sort h = record {
    no_equation = λ d l r e. let p = sides d l r e in h e.sort (ap (sort_of s.signature) p.0 ∙ e.left_sorted) (ap (sort_of s.signature) p.1 ∙ e.right_sorted);
    no_atom = no_atom;
  }

  pub left_unnamed : ((n : ℕ) → slice_get (terms_in s) n ≡ Some t → ⊥) → IsOther s equation
  left_unnamed h = record { no_equation = λ d l r e. h l (e.left_at ∙ ap (λ z. Some z) (sym (sides d l r e).0)); no_atom = no_atom }

  pub right_unnamed : ((n : ℕ) → slice_get (terms_in s) n ≡ Some u → ⊥) → IsOther s equation
  right_unnamed h = record { no_equation = λ d l r e. h r (e.right_at ∙ ap (λ z. Some z) (sym (sides d l r e).1)); no_atom = no_atom }

  pub both_named : (r : Sort) → sort_of s.signature t ≡ Some r → sort_of s.signature u ≡ Some r → (m n : ℕ) → slice_get (terms_in s) m ≡ Some t → slice_get (terms_in s) n ≡ Some u → IsEquation s b equation m n
  both_named r p q m n e f = record { left = t; right = u; sort = r; is = refl; left_at = e; right_at = f; left_sorted = p; right_sorted = q }

-- ---- atoms
module _ (s : Stored) (b : Bool) (q : ℕ) (ss : List Sort) (us : List Term) where
  abbrev atom : Lit
  atom = record { positive = b; formula = Pred q ss us }

  pub atom_named : (n : ℕ) → IsAtomOf s n q ss us → IsAtom s b atom n
  atom_named n a = record { predicate = q; sorts = ss; args = us; is = refl; of = a }

  pub atom_unnamed : ((n : ℕ) → ¬ IsAtomOf s n q ss us) → IsOther s atom
  atom_unnamed h = record { no_equation = λ d l r e. eq_no_pred e.left e.right q ss us (sym (ap (λ (z : Lit). z.formula) e.is)); no_atom = none }
    where
      none : (d : Bool) (n : ℕ) → ¬ IsAtom s d atom n
      none d n a =
          let p = pred_parts q a.predicate ss a.sorts us a.args (ap (λ (z : Lit). z.formula) a.is) in
          h n (record {
            node = (a.of).node;
            at = (a.of).at;
            head = (a.of).head ∙ ap (λ k. Of (Symbol k)) (sym p.0);
            sorts_are = (a.of).sorts_are ∙ sym p.1;
            args_are = (a.of).args_are ∙ sym p.2;
          })

-- ---- other literals
pub neither : (s : Stored) (x : Lit) → ((a b : Term) → x.formula ≡ Eq a b → ⊥) → ((q : ℕ) (ss : List Sort) (us : List Term) → x.formula ≡ Pred q ss us → ⊥) → IsOther s x
neither s x no_eq no_pred =
    record {
      no_equation = λ b l r e. no_eq e.left e.right (ap (λ (z : Lit). z.formula) e.is);
      no_atom = λ b n a. no_pred a.predicate a.sorts a.args (ap (λ (z : Lit). z.formula) a.is);
    }

-- ---- a node
module _ (s : Stored) (n : ℕ) (p : Node) (at : slice_get s.nodes n ≡ Some p) (q : ℕ) (ss : List Sort) (us : List Term) where
  node_is : (a : IsAtomOf s n q ss us) → a.node ≡ p
  node_is a = same_Some a.node p (sym a.at ∙ at)

  pub head_of : IsAtomOf s n q ss us → p.head ≡ Of (Symbol q)
  head_of a = ap (λ (x : Node). x.head) (sym (node_is a)) ∙ a.head

  pub sorts_of : IsAtomOf s n q ss us → p.sorts ≡ ss
  sorts_of a = ap (λ (x : Node). x.sorts) (sym (node_is a)) ∙ a.sorts_are

  pub args_of : IsAtomOf s n q ss us → map (named (terms_in s)) p.args ≡ us
  args_of a = ap (λ (x : Node). map (named (terms_in s)) x.args) (sym (node_is a)) ∙ a.args_are

  pub atom_of : p.head ≡ Of (Symbol q) → p.sorts ≡ ss → map (named (terms_in s)) p.args ≡ us → IsAtomOf s n q ss us
  atom_of h e f = record { node = p; at = at; head = h; sorts_are = e; args_are = f }

  pub args_within : IsStore s.signature s.nodes → AllByRecursion (λ a. a < length s.nodes) p.args
  args_within store =
      let l : n < length s.nodes = slice_get_within s.nodes n p at in
      all_weaker (λ a. a < n) (λ a. a < length s.nodes) (λ a j. omega (arith, j, l)) p.args ((store.sound).places n (shape_of p) (get_map shape_of s.nodes n p at)).args

-- ---- lists of names
pub names_push : (f : ℕ → Term) (ns : List ℕ) (ts : List Term) → length ns ≡ length ts → ((k : ℕ) (t : Term) → slice_get ts k ≡ Some t → f (get_or ns k 0) ≡ t) → map f ns ≡ ts
names_push f [] [] n h = refl
names_push f [] (t ∷ ts) n h = absurd (omega (arith, n))
names_push f (a ∷ ns) [] n h = absurd (omega (arith, n))
names_push f (a ∷ ns) (t ∷ ts) n h =
    let first : f a ≡ t = h 0 t refl in
    let rest : map f ns ≡ ts = names_push f ns ts (omega (arith, n)) (λ k u e. h (suc k) u e) in
    λ i. first i ∷ rest i

pub names_at : (f : ℕ → Term) (ns : List ℕ) (ts : List Term) → map f ns ≡ ts → (k : ℕ) (t : Term) → k < length ns → slice_get ts k ≡ Some t → f (get_or ns k 0) ≡ t
names_at f [] ts e k t l g = absurd (omega (arith, l))
names_at f (a ∷ ns) [] e k t l g = absurd (let z : ◌≡◌ {A = List Term} (f a ∷ map f ns) [] = e in cc z)
names_at f (a ∷ ns) (u ∷ ts) e zero t l g = let x : f a ≡ u = cc e in x ∙ same_Some u t g
names_at f (a ∷ ns) (u ∷ ts) e (suc k) t l g = let x : map f ns ≡ ts = cc e in names_at f ns ts x k t (omega (arith, l)) g
