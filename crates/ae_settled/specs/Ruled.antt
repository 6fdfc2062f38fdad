-- The rules, at any time between two changes.
use Rattle.std.specs.Prelude.{ℕ, ◌<◌, ◌≤◌, ◌++◌, ◌≡◌, length, Option, Some}
use Rattle.std.specs.List.{AllByRecursion}
use Rattle.ae_core.specs.Sorts.{sort_of}
use Rattle.ae_core.specs.declared.terms.Sort.{Sort}
use Rattle.ae_core.specs.declared.terms.Term.{Term}
use Rattle.ae_core.specs.declared.problems.Signature.{Signature}
use Rattle.ae_rules.specs.Lines.{IsAc}
use Rattle.ae_multiset.specs.Multisets.{IsLess}
use Rattle.ae_journal.specs.Systems.{IsName, ac_sort}
use Rattle.ae_journal.specs.declared.systems.RuleEntry.{RuleEntry}
use Rattle.ae_journal.specs.declared.systems.System.{System}

-- the name's term is of the sort
pub record IsOfSort (sig : Signature) (y : System) (s : Sort) (n : ℕ) : Type 0 where
  pub term : Term
  pub is : IsName y n term
  pub sort : sort_of sig term ≡ Some s

-- a rule of an AC symbol from the larger to the smaller of two multisets of names of its sort, the larger of two names or more
pub record IsRuleOver (sig : Signature) (y : System) (e : RuleEntry) : Type 0 where
  pub sort : Sort
  pub symbol : ac_sort sig e.symbol.head e.symbol.sorts ≡ Some sort
  pub ac : IsAc sig e.symbol.head
  pub names : AllByRecursion (IsOfSort sig y sort) (e.left ++ e.right)
  pub some : 0 < length e.right
  pub two : 2 ≤ length e.left
  pub falls : IsLess e.right e.left

pub record AreRulesOver (sig : Signature) (y : System) (rules : ℕ → Option RuleEntry) (next : ℕ) : Type 0 where
  pub each : (n : ℕ) (e : RuleEntry) → rules n ≡ Some e → IsRuleOver sig y e
  pub below : (n : ℕ) (e : RuleEntry) → rules n ≡ Some e → n < next
