-- What bindings that are offered have: the sorts of a term's type variables, and names of one kind alone.
use Rattle.std.specs.Prelude.{ℕ, Bool, true, false, ◌&&◌, List, ◌≡◌, Some}
use Rattle.std.specs.List.{AllByRecursion, list_all, list_any}
use Rattle.ae_core.specs.declared.terms.Term.{Term, Term-F, fold-Term}
use Rattle.ae_core.specs.declared.terms.Term.TheOpen as layer
use Rattle.ae_rules.specs.Matches.{sort_has}
use Rattle.ae_matching.specs.SortCovers.{sort_pass, has_sort}
use Rattle.ae_matching.specs.Generating.{name_found}
use Rattle.ae_matching.specs.declared.bindings.Bindings.{Bindings}

abbrev pub sorts_pass_step : (ℕ → Bool) → Term-F Bool → Bool
sorts_pass_step ex (layer.Apply h ss us) = list_all (sort_pass ex) ss && list_all (λ b. b) us
sorts_pass_step ex _ = true

-- each type variable in the sorts of a term's applications passes
unfoldable pub sorts_pass : (ℕ → Bool) → Term → Bool
sorts_pass ex = fold-Term Bool (sorts_pass_step ex)

abbrev pub fresh_has_step : ℕ → Term-F Bool → Bool
fresh_has_step i (layer.Fresh n s) = sort_has i s
fresh_has_step i (layer.Apply h ss us) = list_any (λ b. b) us
fresh_has_step i _ = false

-- the type variable i occurs in the sort of a fresh constant
unfoldable pub fresh_has : ℕ → Term → Bool
fresh_has i = fold-Term Bool (fresh_has_step i)

-- each name that is bound is of this kind
abbrev pub AllOf : (ℕ → Type 0) → Bindings → Type 0
AllOf K env = AllByRecursion (λ b. K b.name) env.names

-- bindings go on from others, have the sorts of the term's type variables, and keep the names that variables have
pub record IsStep (K : ℕ → Type 0) (p : Term) (env new : Bindings) : Type 0 where
  pub kept : (i : ℕ) → has_sort env.sorts i ≡ true → has_sort new.sorts i ≡ true
  pub sorted : sorts_pass (has_sort new.sorts) p ≡ true
  pub named : AllOf K env → AllOf K new
  pub found : (i n : ℕ) → name_found i env.names ≡ Some n → name_found i new.names ≡ Some n

pub record AreSteps (K : ℕ → Type 0) (ps : List Term) (env new : Bindings) : Type 0 where
  pub kept : (i : ℕ) → has_sort env.sorts i ≡ true → has_sort new.sorts i ≡ true
  pub sorted : list_all (sorts_pass (has_sort new.sorts)) ps ≡ true
  pub named : AllOf K env → AllOf K new
  pub found : (i n : ℕ) → name_found i env.names ≡ Some n → name_found i new.names ≡ Some n
