-- The term of a place, by its node.
use Rattle.std.specs.Prelude.{ℕ, ℤ, ◌<◌, List, ◌≡◌, map, length, get_or, slice_get, Some}
use Rattle.std.specs.List.{AllByRecursion}
use Rattle.std.proofs.Common.{sym, ap, ◌∙◌, subst}
use Rattle.ae_store.proofs.Gets.{below_at}
use Rattle.ae_core.specs.Sorts.{same_sort}
use Rattle.ae_base.specs.Options.{or_else}
use Rattle.ae_core.specs.declared.terms.Sort.{Sort, Real}
use Rattle.ae_core.specs.declared.terms.Head.{Head}
use Rattle.ae_core.specs.declared.terms.Term.{Term, Bound, Num, Fresh, Apply}
use Rattle.ae_store.specs.declared.nodes.NodeHead.TheVariants as node
use Rattle.ae_store.specs.declared.nodes.Node.{Node}
use Rattle.ae_store.specs.Shapes.{shape_of, shapes}
use Rattle.ae_store.specs.Terms.{terms, named, term_of, IsPlaced}
use Rattle.ae_base.proofs.ListFacts.{get_map}
use Rattle.ae_store.proofs.TermLaws.{term_placed}

module _ (ns : List Node) (placed : IsPlaced (shapes ns)) (i : ℕ) (n : Node) (at : slice_get ns i ≡ Some n) where
  here : slice_get (terms (shapes ns)) i ≡ Some (term_of (terms (shapes ns)) (shape_of n))
  here = term_placed (shapes ns) placed i (shape_of n) (get_map shape_of ns i n at)

  pub number_term : (a b : ℤ) (u : Term) → n.head ≡ node.Num a b → u ≡ Num a b (same_sort n.sort Real) → slice_get (terms (shapes ns)) i ≡ Some u
  number_term a b u e f = let t : term_of (terms (shapes ns)) (shape_of n) ≡ u = cc (e, f) in here ∙ ap Some t

  pub fresh_term : (k : ℕ) (s : Sort) → n.head ≡ node.Fresh k → s ≡ n.sort → slice_get (terms (shapes ns)) i ≡ Some (Fresh k s)
  fresh_term k s e f = let t : term_of (terms (shapes ns)) (shape_of n) ≡ Fresh k s = cc (e, f) in here ∙ ap Some t

  pub applied_term_at : (h : Head) (ss : List Sort) (us : List Term) → n.head ≡ node.Of h → ss ≡ n.sorts → us ≡ map (named (terms (shapes ns))) n.args → slice_get (terms (shapes ns)) i ≡ Some (Apply h ss us)
  applied_term_at h ss us e f g = let t : term_of (terms (shapes ns)) (shape_of n) ≡ Apply h ss us = cc (e, f, g) in here ∙ ap Some t

  pub arg_below : (names : List ℕ) (k : ℕ) → names ≡ n.args → k < length names → get_or names k 0 < i
  arg_below names k e l = below_at i names k (subst (AllByRecursion (λ a. a < i)) (sym e) (placed.args i (shape_of n) (get_map shape_of ns i n at))) l

pub name_term : (ts : List Term) (a : ℕ) (t : Term) → slice_get ts a ≡ Some t → named ts a ≡ t
name_term ts a t e = ap (λ o. or_else o (Bound 0)) e
