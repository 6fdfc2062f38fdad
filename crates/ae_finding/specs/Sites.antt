-- The names at which an application may be found, by an argument that is to be the same as a name.
use Rattle.std.specs.Prelude.{ℕ, ◌≡◌, ◌<◌, Bool, true, cond, nat_eq, List, [], ◌++◌, slice_get, Option, Some, None}
use Rattle.ae_base.specs.Options.{◌>>=◌}
use Rattle.ae_core.specs.declared.terms.Head.{Head}
use Rattle.ae_core.specs.declared.terms.Term.{Term, Term-F, out-Term}
use Rattle.ae_core.specs.declared.terms.Term.TheOpen as layer
use Rattle.ae_store.specs.declared.nodes.Node.{Node}
use Rattle.ae_store.specs.declared.nodes.NodeHead.TheVariants as node
use Rattle.ae_matching.specs.Laws.{In}
use Rattle.ae_known.specs.declared.known.Known.{Known}
use Rattle.ae_known.specs.Index.{with_argument}
use Rattle.ae_finding.specs.declared.sites.Site.{Site}

-- the name of a variable; other terms have none
abbrev pub value_layer : (ℕ → Option ℕ) → Term-F Term → Option ℕ
value_layer value (layer.Bound i) = value i
value_layer value _ = None

abbrev pub value_of : (ℕ → Option ℕ) → Term → Option ℕ
value_of value t = value_layer value (out-Term t)

-- the site's name is that of the variable at its place
abbrev pub IsSite : (ℕ → Option ℕ) → List Term → ℕ → Site → Type 0
IsSite value us count s = ((slice_get us s.place >>= value_of value) ≡ Some s.name) × (s.name < count)

-- the other of the first two places
abbrev pub other_place : ℕ → ℕ
other_place place = cond (nat_eq place 0) 1 0

-- what the index has for an argument at a place, or at either of two
abbrev pub at_argument : Known → Head → Bool → ℕ → ℕ → List ℕ
at_argument k h either place a = with_argument k (node.Of h) place a ++ cond either (with_argument k (node.Of h) (other_place place) a) []

-- among these are the names whose node applies the head to an argument at the place that is the same as the site's name; in either order
-- also those that have such an argument at the other place
pub record HasNames (ns : List Node) (alike : ℕ → ℕ → Bool) (h : Head) (either : Bool) (s : Site) (names : List ℕ) : Type 0 where
  pub straight : (m : ℕ) (x : Node) (a : ℕ) → slice_get ns m ≡ Some x → x.head ≡ node.Of h → slice_get x.args s.place ≡ Some a → alike s.name a ≡ true → In names m
  pub turned : either ≡ true → (m : ℕ) (x : Node) (a : ℕ) → slice_get ns m ≡ Some x → x.head ≡ node.Of h → slice_get x.args (other_place s.place) ≡ Some a → alike s.name a ≡ true → In names m
