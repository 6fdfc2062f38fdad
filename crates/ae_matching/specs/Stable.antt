-- The names of a match may be given in place of others that are the same, but for those that stand in terms which equal their own name alone.
use Rattle.ae_base.specs.Options.{known as is_some}
use Rattle.std.specs.Prelude.{ℕ, Bool, true, cond, List, ◌≡◌, map, length, reverse, slice_get, Some}
use Rattle.std.specs.List.{list_all}
use Rattle.ae_core.specs.declared.terms.Sort.{Sort}
use Rattle.ae_core.specs.declared.terms.Term.{Term, Term-F, Apply, fold-Term, para-Term}
use Rattle.ae_core.specs.declared.terms.Term.TheOpen as layer
use Rattle.ae_matching.specs.Views.{Store}
use Rattle.ae_matching.specs.declared.bindings.Bindings.{Bindings}
use Rattle.ae_matching.specs.Generating.{name_found, exact_found, generate}
use Rattle.ae_matching.specs.Testing.{test}
use Rattle.ae_matching.specs.Laws.{IsEquivalence, In}

-- each variable in the term passes
abbrev pub all_pass_step : (ℕ → Bool) → Term-F Bool → Bool
all_pass_step ex (layer.Bound i) = ex i
all_pass_step ex (layer.Apply h ss us) = list_all (λ b. b) us
all_pass_step ex _ = true

unfoldable pub all_pass : (ℕ → Bool) → Term → Bool
all_pass ex = fold-Term Bool (all_pass_step ex)

-- so does each variable in its parts that equal their own name alone
abbrev pub own_pass_step : (Term → Bool) → (ℕ → Bool) → Term-F (Term × Bool) → Bool
own_pass_step is_own ex (layer.Apply h ss us) = cond (is_own (Apply h ss (map (λ u. u.0) us))) (all_pass ex (Apply h ss (map (λ u. u.0) us))) (list_all (λ u. u.1) us)
own_pass_step is_own ex _ = true

unfoldable pub own_pass : (Term → Bool) → (ℕ → Bool) → Term → Bool
own_pass is_own ex = para-Term Bool (own_pass_step is_own ex)

-- names that are the same one by one, and equal for the variables that pass
pub record AreClose (alike : ℕ → ℕ → Bool) (ex : ℕ → Bool) (values others : List ℕ) : Type 0 where
  pub as_many : length others ≡ length values
  pub other : (i v : ℕ) → slice_get (reverse values) i ≡ Some v → (w : ℕ) × (slice_get (reverse others) i ≡ Some w) × (alike w v ≡ true)
  pub exact : (i : ℕ) → ex i ≡ true → slice_get (reverse others) i ≡ slice_get (reverse values) i

abbrev pub TestIsStable : Type 0
TestIsStable =
    (store : Store) (alike : ℕ → ℕ → Bool) (below : ℕ) (sorts : List Sort) (values others : List ℕ) (is_own : Term → Bool) (ex : ℕ → Bool) → IsEquivalence alike → AreClose alike ex values others
    → (p : Term) (n : ℕ) → own_pass is_own ex p ≡ true → test store alike below sorts values is_own p n ≡ true → test store alike below sorts others is_own p n ≡ true

-- ---- what is bound
-- the variable has a name; it has one of its own
abbrev pub has_name : Bindings → ℕ → Bool
has_name env i = is_some (name_found i env.names)

abbrev pub has_exact : Bindings → ℕ → Bool
has_exact env i = is_some (exact_found i env.names)

-- the bindings of the second go on from those of the first
pub record Grows (old new : Bindings) : Type 0 where
  pub names : (i : ℕ) → has_name old i ≡ true → has_name new i ≡ true
  pub exact : (i : ℕ) → has_exact old i ≡ true → has_exact new i ≡ true

-- each variable of the term has a name, and one of its own where it stands in a part that equals its own name alone
pub record Covers (is_own : Term → Bool) (p : Term) (env : Bindings) : Type 0 where
  pub names : all_pass (has_name env) p ≡ true
  pub exact : own_pass is_own (has_exact env) p ≡ true

abbrev pub GeneratorCovers : Type 0
GeneratorCovers =
    (store : Store) (alike : ℕ → ℕ → Bool) (below : ℕ) (is_own : Term → Bool) (p : Term) (n : ℕ) (env new : Bindings) → In (generate store alike below is_own p n env) new → Grows env new × Covers is_own p new
