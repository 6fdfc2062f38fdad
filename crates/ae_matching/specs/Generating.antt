-- The bindings that a pattern's term asks for so that it equals a name: the possible ones, of which some may be no matches.
use Rattle.ae_journal.specs.Triggers.{numbers_below}
use Rattle.std.specs.Prelude.{ℕ, Bool, true, false, cond, not, ◌&&◌, nat_eq, nat_lt, List, [], ◌∷◌, ◌++◌, map, length, slice_get, Option, Some, None}
use Rattle.std.specs.List.{flat_map}
use Rattle.ae_base.specs.Decided.{decided}
use Rattle.ae_core.specs.Decided.{Head_discrete}
use Rattle.ae_base.specs.Options.{or_else, ◌>>=◌}
use Rattle.ae_core.specs.declared.terms.Sort.{Sort}
use Rattle.ae_core.specs.declared.terms.Term.{Term, Term-F, Apply, para-Term}
use Rattle.ae_core.specs.declared.terms.Term.TheOpen as layer
use Rattle.ae_core.specs.declared.terms.Head.{Head}
use Rattle.ae_core.specs.declared.terms.Head.TheVariants as head
use Rattle.ae_core.specs.declared.terms.Op.TheVariants as op
use Rattle.ae_core.specs.declared.problems.Signature.{Signature}
use Rattle.ae_core.specs.declared.problems.Nature.TheVariants.{Free, Ac, Choice}
use Rattle.ae_matching.specs.Views.{Store}
use Rattle.ae_matching.specs.Views.{Node}
use Rattle.ae_matching.specs.declared.sorts.SortBinding.{SortBinding}
use Rattle.ae_matching.specs.declared.bindings.NameBinding.{NameBinding}
use Rattle.ae_matching.specs.declared.bindings.Bindings.{Bindings}
use Rattle.ae_matching.specs.SortMatching.{match_sorts}

-- ---- names
abbrev pub is_ac : Signature → Head → Bool
is_ac sig (head.Symbol n) = or_else (slice_get sig.symbols n >>= λ e. Some (elim e.nature [ Ac ↦ true | Free ↦ false | Choice of place ↦ false ])) false
is_ac sig (head.Int op.Mul) = true
is_ac sig (head.Real op.Mul) = true
is_ac sig _ = false

abbrev pub applies : Head → Option Head → Bool
applies h (Some k) = decided (Head_discrete h k)
applies h None = false

abbrev pub turn : List ℕ → List ℕ
turn (a ∷ b ∷ []) = b ∷ a ∷ []
turn ns = ns

-- ---- bindings of variables
abbrev pub name_found : ℕ → List NameBinding → Option ℕ
name_found i [] = None
name_found i (b ∷ bs) = cond (nat_eq b.variable i) (Some b.name) (name_found i bs)

abbrev pub exact_found : ℕ → List NameBinding → Option ℕ
exact_found i [] = None
exact_found i (b ∷ bs) = cond (nat_eq b.variable i && b.exact) (Some b.name) (exact_found i bs)

abbrev pub with_name : Bindings → ℕ → Bool → ℕ → Bindings
with_name env i exact n = record { sorts = env.sorts; names = env.names ++ record { variable = i; name = n; exact = exact } ∷ [] }

abbrev pub with_sorts : Bindings → List SortBinding → Bindings
with_sorts env bs = record { sorts = bs; names = env.names }

abbrev pub Generator : Type 0
Generator = ℕ → Bindings → List Bindings

abbrev pub each : List Generator → List ℕ → Bindings → List Bindings
each [] [] env = env ∷ []
each [] (n ∷ ns) env = []
each (f ∷ fs) [] env = []
each (f ∷ fs) (n ∷ ns) env = flat_map (each fs ns) (f n env)

abbrev pub sorted_then : List Generator → List ℕ → Bool → Bindings → Option (List SortBinding) → List Bindings
sorted_then fs ns ac env None = []
sorted_then fs ns ac env (Some bs) = each fs ns (with_sorts env bs) ++ cond ac (each fs (turn ns) (with_sorts env bs)) []

-- ---- a term that its linear form computes equals its own name: variables are given the very names, sorts too
abbrev pub bind_exact : ℕ → ℕ → Bindings → Option ℕ → List Bindings
bind_exact i n env (Some m) = cond (nat_eq m n) (env ∷ []) []
bind_exact i n env None = with_name env i true n ∷ []

module _ (store : Store) where
  abbrev pub own_node : Head → List Sort → List Generator → Bindings → Option Node → List Bindings
  own_node h ss fs env (Some x) = cond (applies h x.head) (sorted_then fs x.args false env (match_sorts ss x.sorts env.sorts)) []
  own_node h ss fs env None = []

  abbrev pub own_step : Term-F (Term × Generator) → Generator
  own_step (layer.Bound i) n env = bind_exact i n env (exact_found i env.names)
  own_step (layer.Num a b r) n env = env ∷ []
  own_step (layer.Fresh k s) n env = env ∷ []
  own_step (layer.Apply h ss us) n env = own_node h ss (map (λ u. u.1) us) env (slice_get store.nodes n)

  unfoldable pub own : Term → Generator
  own = para-Term Generator own_step

-- ---- the other terms
module _ (store : Store) (alike : ℕ → ℕ → Bool) (below : ℕ) where
  abbrev pub bind_loose : ℕ → ℕ → Bindings → Option ℕ → List Bindings
  bind_loose i n env (Some m) = cond (alike m n) (env ∷ []) []
  bind_loose i n env None = with_name env i false n ∷ []

  abbrev pub known_node : (Node → Bool) → ℕ → ℕ → Bool
  known_node test n m = or_else (slice_get store.nodes m >>= λ x. Some (nat_lt x.generation below && alike m n && test x)) false

  abbrev pub node_case : Head → List Sort → List Generator → ℕ → Bindings → ℕ → Option Node → List Bindings
  node_case h ss fs n env m (Some x) =
      cond (nat_lt x.generation below && alike m n && not x.arithmetic && applies h x.head)
      (sorted_then fs x.args (is_ac store.signature h) env (match_sorts ss x.sorts env.sorts)) []
  node_case h ss fs n env m None = []

  abbrev pub at_node : Head → List Sort → List Generator → ℕ → Bindings → ℕ → List Bindings
  at_node h ss fs n env m = node_case h ss fs n env m (slice_get store.nodes m)

  abbrev pub own_at : Term → ℕ → Bindings → ℕ → List Bindings
  own_at p n env m = cond (known_node (λ x. true) n m) (own store p m env) []

  abbrev pub all_own : Term → Generator
  all_own p n env = flat_map (own_at p n env) (numbers_below (length store.nodes))

  abbrev pub generate_step : (Term → Bool) → Term-F (Term × Generator) → Generator
  generate_step is_own (layer.Bound i) n env = bind_loose i n env (name_found i env.names)
  generate_step is_own (layer.Num a b r) n env = env ∷ []
  generate_step is_own (layer.Fresh k s) n env = env ∷ []
  generate_step is_own (layer.Apply h ss us) n env =
      cond (is_own (Apply h ss (map (λ u. u.0) us))) (all_own (Apply h ss (map (λ u. u.0) us)) n env)
      (flat_map (at_node h ss (map (λ u. u.1) us) n env) (numbers_below (length store.nodes)))

  unfoldable pub generate : (Term → Bool) → Term → Generator
  generate is_own = para-Term Generator (generate_step is_own)
