-- Which nodes a term of a pattern is looked for at.
use Rattle.std.specs.Prelude.{ℕ, Bool, true, false, cond, not, ◌&&◌, ◌||◌, nat_lt, List, [], ◌∷◌, ◌++◌, map, reverse, slice_get, Option, Some, None}
use Rattle.std.specs.List.{flat_map, list_any}
use Rattle.ae_base.specs.Decided.{decided}
use Rattle.ae_base.specs.Options.{or_else, ◌>>=◌}
use Rattle.ae_core.specs.Decided.{Term_discrete}
use Rattle.ae_core.specs.Sorts.{same_sorts}
use Rattle.ae_core.specs.Putting.{instance_term, put_terms}
use Rattle.ae_core.specs.declared.terms.Sort.{Sort}
use Rattle.ae_core.specs.declared.terms.Head.{Head}
use Rattle.ae_core.specs.declared.terms.Head.TheVariants as head
use Rattle.ae_core.specs.declared.terms.Term.{Term, Term-F, out-Term}
use Rattle.ae_core.specs.declared.terms.Term.TheOpen as layer
use Rattle.ae_matching.specs.Views.{Store}
use Rattle.ae_matching.specs.declared.bindings.Bindings.{Bindings}
use Rattle.ae_rules.specs.Matches.{is_arithmetic}
use Rattle.ae_matching.specs.Generating as generating
use Rattle.ae_matching.specs.Generating.{is_ac, applies, own, own_node, Generator, each, turn, generate, known_node}
use Rattle.ae_matching.specs.Testing.{named, test, test_each}
use Rattle.ae_store.specs.declared.nodes.NodeHead.{NodeHead}
use Rattle.ae_store.specs.declared.nodes.NodeHead.TheVariants as node

-- the node of a name that is known below a number and the same as another
abbrev pub is_near : Store → (ℕ → ℕ → Bool) → ℕ → ℕ → ℕ → Bool
is_near store alike below n m = or_else (slice_get store.nodes m >>= λ x. Some (nat_lt x.generation below && alike m n)) false

-- it applies this head, and isn't computed
abbrev pub is_site : Store → (ℕ → ℕ → Bool) → ℕ → Head → ℕ → ℕ → Bool
is_site store alike below h n m = or_else (slice_get store.nodes m >>= λ x. Some (nat_lt x.generation below && alike m n && not x.arithmetic && applies h x.head)) false

-- linear forms compute operations alone
abbrev pub is_operation : Head → Bool
is_operation (head.Int o) = true
is_operation (head.Real o) = true
is_operation _ = false

-- what the node of a term's name applies or is
abbrev pub node_head_layer : Term-F Term → Option NodeHead
node_head_layer (layer.Apply h ss us) = Some (node.Of h)
node_head_layer (layer.Num a b r) = Some (node.Num a b)
node_head_layer (layer.Fresh k s) = Some (node.Fresh k)
node_head_layer (layer.Bound i) = None

abbrev pub node_head : Term → Option NodeHead
node_head t = node_head_layer (out-Term t)

-- each of the generators at its name, one after another, from each of these bindings
abbrev pub from_each : List Generator → List ℕ → List Bindings → List Bindings
from_each [] [] found = found
from_each [] (n ∷ ns) found = []
from_each (f ∷ fs) [] found = []
from_each (f ∷ fs) (n ∷ ns) found = from_each fs ns (flat_map (f n) found)

-- an application at the node of a name
abbrev pub own_at : Store → Head → List Sort → List Term → Bindings → ℕ → List Bindings
own_at store h ss us env n = own_node store h ss (map (own store) us) env (slice_get store.nodes n)

module _ (store : Store) (alike : ℕ → ℕ → Bool) (below : ℕ) where
  abbrev pub gen : Term → Generator
  gen = generate store alike below is_arithmetic

  -- an application at the node of a name that is the same as this one
  abbrev pub at_node : Head → List Sort → List Term → ℕ → Bindings → ℕ → List Bindings
  at_node h ss us = generating.at_node store alike below h ss (map gen us)

  -- the arguments one after another, in either order where it is said
  abbrev pub each_order : List Term → List ℕ → Bool → Bindings → List Bindings
  each_order us ns either env = each (map gen us) ns env ++ cond either (each (map gen us) (turn ns) env) []

-- ---- tests
-- a term with sorts and terms put
abbrev pub made : List Sort → List Term → Term → Term
made sorts terms p = put_terms 0 terms (instance_term sorts p)

abbrev pub variable_test : (ℕ → ℕ → Bool) → List ℕ → ℕ → ℕ → Bool
variable_test alike values i n = or_else (slice_get (reverse values) i >>= λ v. Some (alike v n)) false

module _ (store : Store) (alike : ℕ → ℕ → Bool) (below : ℕ) where
  -- the term of a known name that is the same as this one
  abbrev pub is_named : Term → ℕ → ℕ → Bool
  is_named t n m = known_node store alike below (λ x. decided (Term_discrete (named store.terms m) t)) n m

  abbrev pub own_among : List Sort → List Term → List ℕ → Term → ℕ → Bool
  own_among sorts terms ms p n = list_any (is_named (made sorts terms p) n) ms

  module _ (sorts : List Sort) (values : List ℕ) where
    abbrev pub tst : Term → ℕ → Bool
    tst = test store alike below sorts values is_arithmetic

    abbrev pub either_order : Bool → List Term → List ℕ → Bool
    either_order either us ns = test_each (map tst us) ns || (either && test_each (map tst us) (turn ns))

    -- an application of a head at these sorts, by the node of a known name that is the same as this one
    abbrev pub node_passes : Head → List Sort → List Term → ℕ → ℕ → Bool
    node_passes h put us n m =
        known_node store alike below (λ x. not x.arithmetic && applies h x.head && same_sorts x.sorts put && either_order (is_ac store.signature h) us x.args) n m
