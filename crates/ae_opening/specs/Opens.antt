-- A block is opened.
use Rattle.std.specs.Prelude.{ℕ, ◌+◌, ◌≡◌, List, [], ◌∷◌, ◌++◌, Some}
use Rattle.ae_block_constants.specs.Blocks.{variables}
use Rattle.ae_block_constants.specs.declared.opened.Opened.{Opened}
use Rattle.ae_core.specs.declared.formulas.Formula.{Formula, out-Formula}
use Rattle.ae_core.specs.declared.proofs.ClauseLine.{ClauseLine}
use Rattle.ae_core.specs.declared.proofs.ClauseLine.TheVariants.{Fresh}
use Rattle.ae_rules.specs.Clauses.{Clause}
use Rattle.ae_rules.specs.Instances.{fresh_clause}

-- the block takes the constants from number n on, and those from m on are the next; it stands behind the blocks that were opened, and its line comes with its clause
pub record Opens (f : Formula) (n m : ℕ) (old new : List Opened) (l : ClauseLine) (c : Clause) : Type 0 where
  pub next : m ≡ n + variables f
  pub more : new ≡ old ++ record { formula = f; first = n } ∷ []
  pub line : l ≡ Fresh f n
  pub clause : fresh_clause f n (out-Formula f) ≡ Some c
