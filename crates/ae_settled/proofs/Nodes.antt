-- Names as nodes: the node of a name, and the names of its arguments.
use Rattle.std.specs.Prelude.{ℕ, ℤ, Bool, ◌<◌, List, ◌≡◌, map, length, slice_get, Some}
use Rattle.std.specs.List.{AllByRecursion}
use Rattle.std.proofs.Common.{refl, sym, ap, ◌∙◌, arith}
use Rattle.std.proofs.lemmas.List.{length-map}
use Rattle.std.proofs.lemmas.Option.{same_Some, slice_get_within}
use Rattle.ae_base.proofs.ListFacts.{value_at, get_map}
use Rattle.ae_core.specs.Sorts.{same_sort}
use Rattle.ae_core.specs.declared.terms.Sort.{Sort, Real}
use Rattle.ae_core.specs.declared.terms.Term.{Term, Term-F, Num, Fresh, Apply, out-Term}
use Rattle.ae_core.specs.declared.terms.Term.TheOpen as layer
use Rattle.ae_core.specs.declared.terms.Term.TheVariants.{outs-Apply, outs-Num, outs-Fresh}
use Rattle.ae_core.specs.declared.terms.Head.{Head}
use Rattle.ae_core.specs.declared.problems.Signature.{Signature}
use Rattle.ae_store.specs.declared.nodes.Node.{Node}
use Rattle.ae_store.specs.declared.nodes.Shape.{Shape}
use Rattle.ae_store.specs.declared.nodes.NodeHead.{NodeHead}
use Rattle.ae_store.specs.declared.nodes.NodeHead.TheVariants as node
use Rattle.ae_store.specs.Shapes.{shapes, shape_of}
use Rattle.ae_store.specs.Terms.{terms, named, term_of}
use Rattle.ae_store.specs.Stores.{IsStore}
use Rattle.ae_store.proofs.TermLaws.{length_terms, term_at, widened}
use Rattle.ae_store.proofs.StoreLaws.{name_term}

apply_num : (h : Head) (ss : List Sort) (us : List Term) (a b : ℤ) (r : Bool) → Apply h ss us ≡ Num a b r → ⊥
apply_num h ss us a b r e =
    let e2 : ◌≡◌ {A = Term-F Term} (layer.Apply h ss us) (layer.Num a b r) = sym (outs-Apply h ss us) ∙ ap out-Term e ∙ outs-Num a b r in cc e2

apply_fresh : (h : Head) (ss : List Sort) (us : List Term) (n : ℕ) (s : Sort) → Apply h ss us ≡ Fresh n s → ⊥
apply_fresh h ss us n s e =
    let e2 : ◌≡◌ {A = Term-F Term} (layer.Apply h ss us) (layer.Fresh n s) = sym (outs-Apply h ss us) ∙ ap out-Term e ∙ outs-Fresh n s in cc e2

-- an application is the term of a shape with its head, its sorts and names of its arguments
pub record IsShapeOf (ts : List Term) (q : Shape) (h : Head) (ss : List Sort) (us : List Term) : Type 0 where
  pub heads : q.head ≡ node.Of h
  pub sorts : q.sorts ≡ ss
  pub args : map (named ts) q.args ≡ us

shape_by : (ts : List Term) (q : Shape) (k : NodeHead) → q.head ≡ k → (h : Head) (ss : List Sort) (us : List Term) → Apply h ss us ≡ term_of ts q → IsShapeOf ts q h ss us
shape_by ts q (node.Of k) e h ss us f =
    let e1 : Apply h ss us ≡ Apply k q.sorts (map (named ts) q.args) = cc (e, f) in
    let e2 : ◌≡◌ {A = Term-F Term} (layer.Apply h ss us) (layer.Apply k q.sorts (map (named ts) q.args)) =
    sym (outs-Apply h ss us) ∙ ap out-Term e1 ∙ outs-Apply k q.sorts (map (named ts) q.args) in
    let eh : h ≡ k = cc e2 in
    let es : ss ≡ q.sorts = cc e2 in
    let ea : us ≡ map (named ts) q.args = cc e2 in
    record { heads = e ∙ ap node.Of (sym eh); sorts = sym es; args = sym ea }
shape_by ts q (node.Num a b) e h ss us f = absurd (apply_num h ss us a b (same_sort q.sort Real) (cc (e, f)))
shape_by ts q (node.Fresh k) e h ss us f = absurd (apply_fresh h ss us k q.sort (cc (e, f)))

-- the node of a name of an application, with the names of its arguments
pub record IsApplication (nodes : List Node) (n : ℕ) (h : Head) (ss : List Sort) (us : List Term) : Type 0 where
  pub node : Node
  pub at : slice_get nodes n ≡ Some node
  pub shape : IsShapeOf (terms (shapes nodes)) (shape_of node) h ss us
  pub within : AllByRecursion (λ a. a < length (terms (shapes nodes))) node.args

-- ---- the term of a name that is there
pub named_at : (ts : List Term) (a : ℕ) → a < length ts → slice_get ts a ≡ Some (named ts a)
named_at ts a l = let g = value_at ts a l in g.1 ∙ ap (λ t. Some t) (sym (name_term ts a g.0 g.1))

module _ (sig : Signature) (nodes : List Node) (store : IsStore sig nodes) where
  pub node_there : (n : ℕ) (t : Term) → slice_get (terms (shapes nodes)) n ≡ Some t → (p : Node) × (slice_get nodes n ≡ Some p) × (t ≡ term_of (terms (shapes nodes)) (shape_of p))
  node_there n t e =
      let l : n < length (terms (shapes nodes)) = slice_get_within (terms (shapes nodes)) n t e in
      let k : length (terms (shapes nodes)) ≡ length nodes = length_terms (shapes nodes) ∙ length-map nodes shape_of in
      let p = value_at nodes n (omega (arith, l, k)) in
      let q = term_at sig (shapes nodes) store.sound n (shape_of p.0) (get_map shape_of nodes n p.0 p.1) in
      (p.0, p.1, same_Some t (term_of (terms (shapes nodes)) (shape_of p.0)) (sym e ∙ q))

  pub application : (n : ℕ) (h : Head) (ss : List Sort) (us : List Term) → slice_get (terms (shapes nodes)) n ≡ Some (Apply h ss us) → IsApplication nodes n h ss us
  application n h ss us e =
      let p = node_there n (Apply h ss us) e in
      let l : n < length (terms (shapes nodes)) = slice_get_within (terms (shapes nodes)) n (Apply h ss us) e in
      let all = (store.sound.places n (shape_of p.0) (get_map shape_of nodes n p.0 p.1)).args in
      record {
        node = p.0;
        at = p.1;
        shape = shape_by (terms (shapes nodes)) (shape_of p.0) (p.0).head refl h ss us p.2;
        within = widened n (length (terms (shapes nodes))) (omega (arith, l)) (p.0).args all;
      }
