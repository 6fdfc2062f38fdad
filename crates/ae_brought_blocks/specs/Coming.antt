-- The clause of a block comes into a search.
use Rattle.std.specs.Prelude.{ℕ, ◌≤◌, ◌≡◌, ◌⊎◌, List, [], ◌∷◌, ◌++◌}
use Rattle.ae_ages.specs.Ages.{HasAge}
use Rattle.ae_ages.specs.declared.entries.Aged.{Aged}
use Rattle.ae_brought_clauses.specs.Brought.{AreBrought}
use Rattle.ae_core.specs.declared.formulas.Formula.{Formula}
use Rattle.ae_core.specs.declared.proofs.ClauseLine.{ClauseLine}
use Rattle.ae_opening.specs.Opens.{Opens}
use Rattle.ae_opening.specs.declared.opening.OpenedBlocks.{OpenedBlocks}
use Rattle.ae_rules.specs.Clauses.{Clause}
use Rattle.ae_store.specs.Stores.{IsStore, Stored}

-- the block is opened; its clause is brought at its least generation, or at the bound where it has none below it, and stands behind the others with its line
pub record ComesIn (bound : ℕ) (f : Formula) (old new : OpenedBlocks) (s s2 : Stored) (es fs : List Aged) (ls ls2 : List ClauseLine) (cs cs2 : List Clause) : Type 0 where
  pub line : ClauseLine
  pub clause : Clause
  pub generation : ℕ
  pub opens : Opens f old.next new.next old.opened new.opened line clause
  pub least : (n : ℕ) → HasAge es n f → generation ≤ n
  pub known : HasAge es generation f ⊎ (generation ≡ bound)
  pub brought : AreBrought old.opened generation s es s2 fs clause
  pub store : IsStore s2.signature s2.nodes
  pub lines : ls2 ≡ ls ++ line ∷ []
  pub clauses : cs2 ≡ cs ++ clause ∷ []
