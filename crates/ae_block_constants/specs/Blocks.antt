-- Blocks that were opened, each with its first constant, and numberings of all formulas that agree with them.
use Rattle.std.specs.Prelude.{ℕ, ◌+◌, ◌<◌, ◌≤◌, ◌≡◌, List, length, map}
use Rattle.std.specs.List.{Contains}
use Rattle.ae_core.specs.declared.formulas.Formula.{Formula, out-Formula}
use Rattle.ae_rules.specs.Instances.{block_sorts}
use Rattle.ae_block_constants.specs.declared.opened.Opened.{Opened}

-- how many variables a block has; what is no block has none
abbrev pub variables : Formula → ℕ
variables f = length (block_sorts (out-Formula f))

-- no block was opened with two numbers, no constant is of two blocks, and all constants are below a number
pub record AreApart (next : ℕ) (opened : List Opened) : Type 0 where
  pub below : (o : Opened) → Contains opened o → o.first + variables o.formula ≤ next
  pub once : (o e : Opened) → Contains opened o → Contains opened e → o.formula ≡ e.formula → o.first ≡ e.first
  pub apart : (o e : Opened) (i j : ℕ) → Contains opened o → Contains opened e → i < variables o.formula → j < variables e.formula → o.first + i ≡ e.first + j → o.formula ≡ e.formula

-- the formulas that were opened have their numbers
abbrev pub Agrees : List Opened → (Formula → ℕ) → Type 0
Agrees opened fresh = (o : Opened) → Contains opened o → fresh o.formula ≡ o.first

-- no constant belongs to two formulas
abbrev pub HaveOwnNumbers : (Formula → ℕ) → Type 0
HaveOwnNumbers fresh = (f h : Formula) (i j : ℕ) → i < variables f → j < variables h → fresh f + i ≡ fresh h + j → f ≡ h

-- each block that was opened with its first constant
abbrev pub opened_pairs : List Opened → List (Formula × ℕ)
opened_pairs os = map (λ (o : Opened). (o.formula, o.first)) os
