-- The bindings for all terms of a trigger, the names picked from them, and that each match is among these up to names that are the same.
use Rattle.std.specs.Prelude.{ℕ, ◌<◌, Bool, true, List, [], ◌∷◌, ◌≡◌, map, length, reverse}
use Rattle.std.specs.List.{AllByRecursion, flat_map, list_any}
use Rattle.ae_base.specs.Options.{or_else}
use Rattle.ae_core.specs.Signatures.{has_variable}
use Rattle.ae_core.specs.declared.terms.Sort.{Sort}
use Rattle.ae_core.specs.declared.terms.Term.{Term}
use Rattle.ae_matching.specs.Views.{Store}
use Rattle.ae_matching.specs.declared.bindings.Bindings.{Bindings}
use Rattle.ae_matching.specs.Generating.{name_found, exact_found, generate}
use Rattle.ae_journal.specs.Triggers.{numbers_below}
use Rattle.ae_matching.specs.Testing.{test, Fits}
use Rattle.ae_matching.specs.Laws.{In, IsSoundStore, IsEquivalence, AreWithin}
use Rattle.ae_matching.specs.Stable.{AreClose, has_exact}

-- a term equals some name
abbrev pub at_names : Store → (ℕ → ℕ → Bool) → ℕ → (Term → Bool) → Term → Bindings → List Bindings
at_names store alike below is_own p env = flat_map (λ n. generate store alike below is_own p n env) (numbers_below (length store.nodes))

-- one term after another
abbrev pub chain : Store → (ℕ → ℕ → Bool) → ℕ → (Term → Bool) → List Term → Bindings → List Bindings
chain store alike below is_own [] env = env ∷ []
chain store alike below is_own (p ∷ ps) env = flat_map (chain store alike below is_own ps) (at_names store alike below is_own p env)

-- the name of its own, if there is one, else the first
abbrev pub choose : Bindings → ℕ → ℕ
choose env i = or_else (exact_found i env.names) (or_else (name_found i env.names) 0)

-- the names for so many variables, the last variable last
abbrev pub picked : ℕ → Bindings → List ℕ
picked vars env = reverse (map (choose env) (numbers_below vars))

abbrev pub empty : Bindings
empty = record { sorts = []; names = [] }

-- the terms of the trigger each equal a name
abbrev pub AreEqual : Store → (ℕ → ℕ → Bool) → ℕ → List Sort → List ℕ → (Term → Bool) → List Term → Type 0
AreEqual store alike below sorts values is_own = AllByRecursion (λ p. (n : ℕ) × In (numbers_below (length store.nodes)) n × (test store alike below sorts values is_own p n ≡ true))

-- bindings are offered whose names are those of the match, up to names that are the same, and are a match too
pub record IsFound (store : Store) (alike : ℕ → ℕ → Bool) (below : ℕ) (sorts : List Sort) (values : List ℕ) (is_own : Term → Bool) (ps : List Term) : Type 0 where
  pub env : Bindings
  pub offered : In (chain store alike below is_own ps empty) env
  pub fits : Fits store alike below sorts values env
  pub close : AreClose alike (has_exact env) values (picked (length values) env)
  pub equal : AreEqual store alike below sorts (picked (length values) env) is_own ps

abbrev pub EachMatchIsFound : Type 0
EachMatchIsFound =
    (store : Store) (alike : ℕ → ℕ → Bool) (below : ℕ) (sorts : List Sort) (values : List ℕ) (is_own : Term → Bool) → IsSoundStore store → IsEquivalence alike → AreWithin store values → (ps : List Term)
    → ((i : ℕ) → i < length values → list_any (has_variable i) ps ≡ true) → AreEqual store alike below sorts values is_own ps → IsFound store alike below sorts values is_own ps
