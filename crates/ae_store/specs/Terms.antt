-- The terms that nodes stand for: the arguments of a node are the places of earlier ones.
use Rattle.std.specs.Prelude.{ℕ, true, ◌<◌, ◌⊎◌, List, [], ◌∷◌, ◌++◌, ◌≡◌, map, slice_get, Some}
use Rattle.std.specs.List.{AllByRecursion}
use Rattle.ae_core.specs.Sorts.{sort_of, applied_ok, is_closed_sort, same_sort}
use Rattle.ae_base.specs.Options.{or_else, ◌>>=◌}
use Rattle.ae_core.specs.Putting.{put_sort}
use Rattle.ae_core.specs.declared.terms.Sort.{Sort, Int, Real, Named, Bool as BoolSort, Unit as UnitSort}
use Rattle.ae_core.specs.declared.terms.Head.{Head}
use Rattle.ae_core.specs.declared.terms.Head.TheVariants as head
use Rattle.ae_core.specs.declared.problems.Signature.{Signature}
use Rattle.ae_core.specs.Signatures.{fields_of}
use Rattle.ae_core.specs.declared.terms.Term.{Term, Bound, Num, Fresh, Apply, out-Term}
use Rattle.ae_store.specs.declared.nodes.NodeHead.{NodeHead}
use Rattle.ae_store.specs.declared.nodes.NodeHead.TheVariants as node
use Rattle.ae_store.specs.declared.nodes.Shape.{Shape}

-- the term of a name, among the terms of the earlier names
abbrev pub named : List Term → ℕ → Term
named ts a = or_else (slice_get ts a) (Bound 0)

-- the term of a shape
abbrev pub term_of : List Term → Shape → Term
term_of ts x =
    elim x.head [
      | node.Of h ↦ Apply h x.sorts (map (named ts) x.args)
      | node.Num a b ↦ Num a b (same_sort x.sort Real)
      | node.Fresh n ↦ Fresh n x.sort
    ]

abbrev pub terms_after : List Term → List Shape → List Term
terms_after ts [] = ts
terms_after ts (x ∷ xs) = terms_after (ts ++ term_of ts x ∷ []) xs

-- the terms of shapes, in their order
unfoldable pub terms : List Shape → List Term
terms xs = terms_after [] xs

-- the sort of an application, where it is well sorted; that of a predicate's application is `bool`
abbrev pub node_sort : Signature → Head → List Sort → Sort
node_sort sig (head.Symbol n) ss = or_else (slice_get sig.symbols n >>= λ e. e.result >>= λ s. Some (put_sort ss s)) BoolSort
node_sort sig (head.Build n) ss = Named n ss
node_sort sig (head.Field n place) ss = or_else (slice_get sig.types n >>= λ e. slice_get (fields_of e) place >>= λ f. Some (put_sort ss f.sort)) BoolSort
node_sort sig (head.Int o) ss = Int
node_sort sig (head.Real o) ss = Real
node_sort sig head.True ss = BoolSort
node_sort sig head.False ss = BoolSort
node_sort sig head.Void ss = UnitSort

-- the shape of an application
abbrev pub applied : Signature → Head → List Sort → List ℕ → Shape
applied sig h ss names = record { head = node.Of h; sorts = ss; args = names; sort = node_sort sig h ss }

-- an application has the sort of its head at its sorts; a numeral and a fresh constant have no sorts put and no arguments
abbrev pub IsAlone : Signature → Shape → NodeHead → Type 0
IsAlone sig x (node.Of h) = x.sort ≡ node_sort sig h x.sorts
IsAlone sig x (node.Num a b) = (x.sorts ≡ []) × (x.args ≡ []) × ((x.sort ≡ Int) ⊎ (x.sort ≡ Real))
IsAlone sig x (node.Fresh k) = (x.sorts ≡ []) × (x.args ≡ [])

-- what a shape at place n is: its arguments are earlier ones
pub record IsShapeAt (sig : Signature) (n : ℕ) (x : Shape) : Type 0 where
  pub args : AllByRecursion (λ a. a < n) x.args
  pub alone : IsAlone sig x x.head

-- no term has two names
abbrev pub HasOneName : List Term → Type 0
HasOneName ts = (i j : ℕ) (t : Term) → slice_get ts i ≡ Some t → slice_get ts j ≡ Some t → i ≡ j

-- each term of old keeps its name in new
abbrev pub Keeps : List Term → List Term → Type 0
Keeps old new = (i : ℕ) (t : Term) → slice_get old i ≡ Some t → slice_get new i ≡ Some t

-- the closed term is well sorted and has this sort; or it is a predicate's application to such terms, and the sort is `bool`
abbrev pub IsOfSort : Signature → Term → Sort → Type 0
IsOfSort sig t s = (sort_of sig t ≡ Some s) ⊎ ((applied_ok sig (is_closed_sort sig) [] (out-Term t) ≡ true) × (s ≡ BoolSort))

-- each term is of the sort of its name
pub record AreSorted (sig : Signature) (xs : List Shape) : Type 0 where
  pub each : (i : ℕ) (x : Shape) (t : Term) → slice_get xs i ≡ Some x → slice_get (terms xs) i ≡ Some t → IsOfSort sig t x.sort

pub record IsSound (sig : Signature) (xs : List Shape) : Type 0 where
  pub places : (i : ℕ) (x : Shape) → slice_get xs i ≡ Some x → IsShapeAt sig i x
  pub one_name : HasOneName (terms xs)
  pub sorted : AreSorted sig xs

-- each argument of a shape is an earlier one
pub record IsPlaced (xs : List Shape) : Type 0 where
  pub args : (i : ℕ) (x : Shape) → slice_get xs i ≡ Some x → AllByRecursion (λ a. a < i) x.args
