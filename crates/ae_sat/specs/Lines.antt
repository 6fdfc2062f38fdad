-- What the lines speak of that a search writes.
use Rattle.std.specs.Prelude.{◌≡◌, List, ◌++◌}
use Rattle.std.specs.List.{AllByRecursion, Contains}
use Rattle.ae_core.specs.declared.formulas.Formula.{Formula}
use Rattle.ae_core.specs.declared.formulas.Lit.{Lit}
use Rattle.ae_core.specs.declared.proofs.Block.{Block}
use Rattle.ae_core.specs.declared.proofs.ClauseLine.{ClauseLine}
use Rattle.ae_core.specs.declared.problems.Signature.{Signature}
use Rattle.ae_core.specs.declared.proofs.ClauseLine.TheVariants as clause_line
use Rattle.ae_core.specs.declared.proofs.EqLine.{EqLine}
use Rattle.ae_core.specs.declared.proofs.Relation.TheVariants.{Equal}
use Rattle.ae_core.specs.declared.terms.Term.{Term}
use Rattle.ae_rules.specs.Built.{HasFactorsWithin, IsBuilt}
use Rattle.ae_rules.specs.Lines.{states}
use Rattle.ae_store.specs.Stores.{Stored}
use Rattle.ae_theory.specs.Names.{terms_in}

-- a line that states something of two terms that are built of these names, with factors within their limits
pub record IsBuiltLine (sig : Signature) (ts : List Term) (l : EqLine) : Type 0 where
  pub left : IsBuilt sig ts (states l).left
  pub right : IsBuilt sig ts (states l).right
  pub factors : HasFactorsWithin l

-- a block whose hypotheses are of these formulas, and whose lines are between terms that are built of the store's names
pub record IsBlockOver (s : Stored) (fs : List Formula) (b : Block) : Type 0 where
  pub hyps : AllByRecursion (λ (l : Lit). Contains fs l.formula) b.deriv.hyps
  pub lines : AllByRecursion (IsBuiltLine s.signature (terms_in s)) b.deriv.lines

-- a line over these formulas: a row of one of them, such a block, or a clause of them
abbrev pub IsLineOver : Stored → List Formula → ClauseLine → Type 0
IsLineOver s fs (clause_line.Def r f) = Contains fs f
IsLineOver s fs (clause_line.Block b) = IsBlockOver s fs b
IsLineOver s fs (clause_line.Rup c hints) = AllByRecursion (λ (l : Lit). Contains fs l.formula) c
IsLineOver s fs _ = ⊥

-- such lines come behind the old ones
abbrev pub AddsLinesOver : Stored → List Formula → List ClauseLine → List ClauseLine → Type 0
AddsLinesOver s fs old new = (added : List ClauseLine) × (new ≡ old ++ added) × AllByRecursion (IsLineOver s fs) added

-- each line of a block states an equation
abbrev pub StatesEquations : ClauseLine → Type 0
StatesEquations (clause_line.Block b) = AllByRecursion (λ l. (states l).relation ≡ Equal) b.deriv.lines
StatesEquations _ = Unit {0}

-- such lines come behind the old ones, and the lines of each block state equations
abbrev pub AddsEquationsOver : Stored → List Formula → List ClauseLine → List ClauseLine → Type 0
AddsEquationsOver s fs old new = (added : List ClauseLine) × (new ≡ old ++ added) × AllByRecursion (λ l. IsLineOver s fs l × StatesEquations l) added
