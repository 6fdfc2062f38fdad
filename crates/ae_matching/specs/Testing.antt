-- Whether a term of a pattern equals a name, with sorts and names put for its variables: a test, which what a match is says too.
use Rattle.std.specs.Prelude.{ℕ, Bool, true, false, cond, not, ◌&&◌, ◌||◌, nat_lt, List, [], ◌∷◌, ◌≡◌, map, length, reverse, slice_get, Option, Some, None}
use Rattle.std.specs.List.{AllByRecursion, list_any}
use Rattle.ae_base.specs.Decided.{decided}
use Rattle.ae_core.specs.Decided.{Term_discrete}
use Rattle.ae_base.specs.Options.{or_else, ◌>>=◌}
use Rattle.ae_core.specs.Sorts.{same_sorts}
use Rattle.ae_core.specs.Putting.{put_sort}
use Rattle.ae_core.specs.Putting.{instance_term, put_terms}
use Rattle.ae_core.specs.declared.terms.Sort.{Sort}
use Rattle.ae_core.specs.declared.terms.Term.{Term, Term-F, Bound, Num, Fresh, Apply, para-Term}
use Rattle.ae_core.specs.declared.terms.Term.TheOpen as layer
use Rattle.ae_core.specs.declared.terms.Head.{Head}
use Rattle.ae_matching.specs.Views.{Store}
use Rattle.ae_matching.specs.Views.{Node}
use Rattle.ae_matching.specs.declared.bindings.NameBinding.{NameBinding}
use Rattle.ae_matching.specs.declared.bindings.Bindings.{Bindings}
use Rattle.ae_matching.specs.SortMatching.{AreSortsOf}
use Rattle.ae_matching.specs.Generating.{is_ac, applies, turn, known_node}
use Rattle.ae_journal.specs.Triggers.{numbers_below}

abbrev pub named : List Term → ℕ → Term
named ts n = or_else (slice_get ts n) (Bound 0)

abbrev pub Test : Type 0
Test = ℕ → Bool

abbrev pub test_each : List Test → List ℕ → Bool
test_each [] [] = true
test_each [] (n ∷ ns) = false
test_each (f ∷ fs) [] = false
test_each (f ∷ fs) (n ∷ ns) = f n && test_each fs ns

abbrev pub is_known_name : Store → ℕ → ℕ → Bool
is_known_name store below n = or_else (slice_get store.nodes n >>= λ x. Some (nat_lt x.generation below)) false

module _ (store : Store) (alike : ℕ → ℕ → Bool) (below : ℕ) (sorts : List Sort) (values : List ℕ) where
  abbrev pub node_test : Head → List Sort → List Test → Node → Bool
  node_test h ss fs x =
      not x.arithmetic && applies h x.head && same_sorts x.sorts (map (put_sort sorts) ss)
      && (test_each fs x.args || (is_ac store.signature h && test_each fs (turn x.args)))

  abbrev pub is_known : ℕ → Bool
  is_known n = is_known_name store below n

  -- with sorts and names put it is the term of a known name
  abbrev pub own_test : Term → ℕ → ℕ → Bool
  own_test p n m = known_node store alike below (λ x. decided (Term_discrete (named store.terms m) (put_terms 0 (map (named store.terms) values) (instance_term sorts p)))) n m

  abbrev pub variable_test : ℕ → ℕ → Bool
  variable_test i n = or_else (slice_get (reverse values) i >>= λ v. Some (alike v n)) false

  -- an application equals a known name: by its own name, or by the arguments of a known application that is the same
  abbrev pub application_test : Bool → Term → Head → List Sort → List Test → Test
  application_test own p h ss fs n =
      is_known n && list_any (cond own (own_test p n) (known_node store alike below (node_test h ss fs) n)) (numbers_below (length store.nodes))

  abbrev pub test_step : (Term → Bool) → Term-F (Term × Test) → Test
  test_step is_own (layer.Bound i) n = is_known n && variable_test i n
  test_step is_own (layer.Num a b r) n = is_known n && list_any (own_test (Num a b r) n) (numbers_below (length store.nodes))
  test_step is_own (layer.Fresh k s) n = is_known n && list_any (own_test (Fresh k s) n) (numbers_below (length store.nodes))
  test_step is_own (layer.Apply h ss us) n =
      application_test (is_own (Apply h ss (map (λ u. u.0) us))) (Apply h ss (map (λ u. u.0) us)) h ss (map (λ u. u.1) us) n

  unfoldable pub test : (Term → Bool) → Term → Test
  test is_own = para-Term Test (test_step is_own)

  -- a binding is one of these names, or of names that are the same
  abbrev pub binding_fits : Bool → Option ℕ → ℕ → Type 0
  binding_fits exact None n = ⊥
  binding_fits true (Some v) n = v ≡ n
  binding_fits false (Some v) n = alike v n ≡ true

  abbrev pub IsNameOf : NameBinding → Type 0
  IsNameOf b = binding_fits b.exact (slice_get (reverse values) b.variable) b.name

  -- the bindings are those of the sorts and names
  pub record Fits (env : Bindings) : Type 0 where
    pub sorted : AreSortsOf sorts env.sorts
    pub named_ones : AllByRecursion IsNameOf env.names
