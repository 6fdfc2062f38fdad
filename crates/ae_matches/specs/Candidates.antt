-- The bindings for all terms of a trigger and for its variables, and the matches picked from them.
use Rattle.std.specs.Prelude.{ℕ, Bool, true, false, cond, not, ◌&&◌, ◌||◌, nat_eq, nat_lt, List, [], ◌∷◌, ◌++◌, map, length, slice_get, Option, Some, None}
use Rattle.std.specs.List.{flat_map, list_any, list_all}
use Rattle.ae_base.specs.Options.{or_else}
use Rattle.ae_core.specs.Putting.{put_sort}
use Rattle.ae_core.specs.Sorts.{is_closed_sort, same_sort}
use Rattle.ae_core.specs.declared.terms.Sort.{Sort, Unit as UnitSort}
use Rattle.ae_core.specs.declared.terms.Head.{Head}
use Rattle.ae_core.specs.declared.terms.Term.{Term, Term-F, Bound, out-Term}
use Rattle.ae_core.specs.declared.terms.Term.TheOpen as layer
use Rattle.ae_core.specs.declared.problems.Signature.{Signature}
use Rattle.ae_rules.specs.Matches.{is_arithmetic, term_has}
use Rattle.ae_rules.specs.Instances.{have_sorts}
use Rattle.ae_journal.specs.Triggers.{numbers_below}
use Rattle.ae_store.specs.declared.nodes.Node.{Node}
use Rattle.ae_store.specs.Shapes.{shapes}
use Rattle.ae_store.specs.Terms.{terms, named}
use Rattle.ae_store.specs.declared.nodes.NodeHead.TheVariants as node
use Rattle.ae_matching.specs.Views.{Store}
use Rattle.ae_matching.specs.declared.bindings.Bindings.{Bindings}
use Rattle.ae_matching.specs.SortMatching.{found}
use Rattle.ae_matching.specs.Generating.{name_found, with_name, own_at}
use Rattle.ae_matching.specs.Testing.{is_known_name}
use Rattle.ae_matching.specs.Laws.{In}
use Rattle.ae_matching.specs.Triggers.{picked}
use Rattle.ae_match.specs.Seen.{seen}
use Rattle.ae_known.specs.declared.known.Known.{Known}
use Rattle.ae_known.specs.Index.{with_head}
use Rattle.ae_finding.specs.Nodes.{at_node, is_named, made, node_passes}
use Rattle.ae_trigger.specs.declared.patterns.Pattern.{Pattern}
use Rattle.ae_trigger.specs.declared.patterns.Subst.{Subst}
use Rattle.ae_matches.specs.Answers.{is_same_match}

module _ (store : Store) (alike : ℕ → ℕ → Bool) (below : ℕ) (k : Known) where
  -- a variable without a name is given any that is known
  abbrev pub any_name : ℕ → Bindings → ℕ → List Bindings
  any_name i env n = cond (is_known_name store below n) (with_name env i false n ∷ []) []

  abbrev pub bound_root : ℕ → Bindings → Option ℕ → List Bindings
  bound_root i env (Some m) = env ∷ []
  bound_root i env None = flat_map (any_name i env) (numbers_below (length store.nodes))

  -- an application equals a known name of its head
  abbrev pub own_root : Term → Bindings → ℕ → List Bindings
  own_root p env m = own_at store alike below p m env m

  abbrev pub node_root : Head → List Sort → List Term → Bindings → ℕ → List Bindings
  node_root h ss us env m = at_node store alike below h ss us m env m

  abbrev pub roots_layer : Term → Bindings → Term-F Term → List Bindings
  roots_layer p env (layer.Bound i) = bound_root i env (name_found i env.names)
  roots_layer p env (layer.Num a b r) = env ∷ []
  roots_layer p env (layer.Fresh i s) = env ∷ []
  roots_layer p env (layer.Apply h ss us) =
      cond (is_arithmetic p) (flat_map (own_root p env) (with_head k (node.Of h))) (flat_map (node_root h ss us env) (with_head k (node.Of h)))

  -- a term equals some known name
  unfoldable pub roots : Term → Bindings → List Bindings
  roots p env = roots_layer p env (out-Term p)

  -- one term after another
  abbrev pub chained : List Term → List Bindings → List Bindings
  chained [] envs = envs
  chained (p ∷ ps) envs = chained ps (flat_map (roots p) envs)

-- each of the bindings is among others
abbrev pub AllAmong : List Bindings → List Bindings → Type 0
AllAmong envs others = (env : Bindings) → In envs env → In others env

-- the terms of a trigger, and each variable
abbrev pub with_variables : ℕ → List Term → List Term
with_variables vars ps = ps ++ map Bound (numbers_below vars)

-- the sorts of so many type variables, `unit` where none is found
abbrev pub sort_of_variable : Bindings → ℕ → Sort
sort_of_variable env i = or_else (found i env.sorts) UnitSort

abbrev pub picked_sorts : ℕ → Bindings → List Sort
picked_sorts type_vars env = map (sort_of_variable env) (numbers_below type_vars)

abbrev pub subst_of : Pattern → Bindings → Subst
subst_of p env = record { sorts = picked_sorts p.sort_vars env; terms = picked (length p.vars) env }

-- ---- the test of a match
abbrev pub is_own_root : Store → (ℕ → ℕ → Bool) → ℕ → List Sort → List Term → Term → ℕ → Bool
is_own_root store alike below sorts vs p m = is_named store alike below (made sorts vs p) m m

module _ (store : Store) (alike : ℕ → ℕ → Bool) (below : ℕ) (k : Known) (sorts : List Sort) (values : List ℕ) (vs : List Term) where
  abbrev own : Term → ℕ → Bool
  own = is_own_root store alike below sorts vs

  abbrev pub passes_layer : Term → Term-F Term → Bool
  passes_layer p (layer.Bound i) = nat_lt i (length values)
  passes_layer p (layer.Num a b r) = list_any (own p) (with_head k (node.Num a b))
  passes_layer p (layer.Fresh i s) = list_any (own p) (with_head k (node.Fresh i))
  passes_layer p (layer.Apply h ss us) =
      cond (is_arithmetic p) (list_any (own p) (with_head k (node.Of h)))
      (list_any (λ m. node_passes store alike below sorts values h (map (put_sort sorts) ss) us m m) (with_head k (node.Of h)))

  -- the term equals some known name
  unfoldable pub passes : Term → Bool
  passes p = passes_layer p (out-Term p)

-- the sort is `unit`, where there is one
abbrev pub is_unit_at : Option Sort → Bool
is_unit_at None = true
is_unit_at (Some s) = same_sort s UnitSort

-- a type variable that doesn't occur has the sort `unit`
abbrev pub is_determined : List Term → List Sort → ℕ → Bool
is_determined ps sorts i = list_any (term_has i) ps || is_unit_at (slice_get sorts i)

abbrev pub sorted_match : Signature → Store → (ℕ → ℕ → Bool) → ℕ → Known → Pattern → List Term → Subst → Bool
sorted_match sig store alike below k p vs m =
    have_sorts sig vs (map (put_sort m.sorts) p.vars) && list_all (passes store alike below k m.sorts m.terms vs) p.terms

abbrev pub is_match : Signature → Store → (ℕ → ℕ → Bool) → ℕ → Known → Pattern → List Term → Subst → Bool
is_match sig store alike below k p vs m =
    nat_eq (length m.sorts) p.sort_vars && list_all (is_closed_sort sig) m.sorts && list_all (is_determined p.terms m.sorts) (numbers_below p.sort_vars) && list_all (is_known_name store below) m.terms
    && sorted_match sig store alike below k p vs m

-- ---- those that pass, each once
abbrev pub is_new : (ℕ → ℕ → Bool) → List Subst → Subst → Bool
is_new alike kept m = not (list_any (is_same_match alike m) kept)

abbrev pub with_new : (Subst → Bool) → (ℕ → ℕ → Bool) → List Subst → Subst → List Subst
with_new test alike kept m = cond (test m && is_new alike kept m) (kept ++ m ∷ []) kept

abbrev pub once_each : (Subst → Bool) → (ℕ → ℕ → Bool) → List Subst → List Subst → List Subst
once_each test alike kept [] = kept
once_each test alike kept (m ∷ ms) = once_each test alike (with_new test alike kept m) ms

abbrev pub test_of : Signature → List Node → (ℕ → ℕ → Bool) → ℕ → Known → Pattern → Subst → Bool
test_of sig ns alike below k p m = is_match sig (seen sig ns) alike below k p (map (named (terms (shapes ns))) m.terms) m

abbrev pub kept_of : Signature → List Node → (ℕ → ℕ → Bool) → ℕ → Known → Pattern → List Bindings → List Subst
kept_of sig ns alike below k p envs = once_each (test_of sig ns alike below k p) alike [] (map (subst_of p) envs)
