-- Lines of instances that may be noted, and what noting one changes.
use Rattle.std.specs.Prelude.{ℕ, suc, ◌<◌, ◌≡◌, ◌⊎◌, true, List, [], ◌∷◌, ◌++◌, length, Some}
use Rattle.std.specs.List.{AllByRecursion, Contains}
use Rattle.ae_between_rounds.specs.Fine.{IsFineFormula, IsFineLine}
use Rattle.ae_between_rounds.specs.declared.search.Search.{Search}
use Rattle.ae_brought_clauses.specs.Brought.{AreBrought}
use Rattle.ae_core.specs.declared.formulas.Lit.{Lit}
use Rattle.ae_core.specs.declared.problems.Problem.{Problem}
use Rattle.ae_instance_lines.specs.declared.lines.InstanceLine.{InstanceLine}
use Rattle.ae_journal.specs.InstanceLines.{MayInstantiate}
use Rattle.ae_journal.specs.Journals.{counted_in}
use Rattle.ae_journal.specs.Laws.{NoBack}
use Rattle.ae_journal.specs.Standing.{Setting}
use Rattle.ae_journal.specs.declared.lines.Line.{Line}
use Rattle.ae_made_instances.specs.Inner.Beside.{IsBeside}
use Rattle.ae_new_constants.specs.Below.{IsLineBelow}
use Rattle.ae_orderless.specs.Orderless.{is_orderless, IsOrderlessGoal}
use Rattle.ae_rules.specs.Clauses.{Clause}
use Rattle.ae_rules.specs.Derivations.{conclusion}
use Rattle.ae_searching.specs.Steps.{HasNews, IsCombination, IsStatedBy}
use Rattle.ae_searching.specs.Told.{IsToldIn}
use Rattle.ae_store.specs.Stores.{IsStore}
use Rattle.ae_theory.specs.Names.{Extends, terms_in}
use Rattle.ae_writable.specs.Numbers.{HasLowestNumerals}

-- a line of an instance that may be noted, unless it was; its constants, numerals and formulas are such as the search keeps them
pub record IsReadyLine (p : Problem) (g bound : ℕ) (o : Search) (l : InstanceLine) : Type 0 where
  pub stated_by : IsStatedBy l.own l.statement
  pub concludes : conclusion p g l.statement ≡ Some l.clause
  pub legal : (x : Setting) → IsToldIn p g o.store o.blocks.opened x → ¬ Contains o.journal.lines l.own → MayInstantiate x bound o.journal.lines l.own
  pub below : IsLineBelow p g o.blocks.next l.statement
  pub fine : HasLowestNumerals p → IsFineLine l.statement × ((m : Lit) → Contains l.clause m → IsFineFormula m.formula)
  pub orderless : IsOrderlessGoal p g → (m : Lit) → Contains l.clause m → is_orderless m.formula ≡ true

-- a clause was brought at n, and nothing else changed
pub record Says (n : ℕ) (c : Clause) (o o2 : Search) : Type 0 where
  pub brought : AreBrought o.blocks.opened n o.store o.ages o2.store o2.ages c
  pub store : IsStore o2.store.signature o2.store.nodes
  pub solver : o2.solver ≡ o.solver
  pub journal : o2.journal ≡ o.journal
  pub lines : o2.lines ≡ o.lines
  pub items : o2.lines.items ≡ o.lines.items
  pub blocks : o2.blocks ≡ o.blocks
  pub known : o2.known ≡ o.known
  pub looked : o2.looked ≡ o.looked
  pub owners : o2.owners ≡ o.owners
  pub instances : o2.instances ≡ o.instances

-- so it was with a line's clause; the line was noted, and its clause stands behind the others
pub record Comes (n : ℕ) (l : InstanceLine) (o o2 : Search) : Type 0 where
  pub brought : AreBrought o.blocks.opened n o.store o.ages o2.store o2.ages l.clause
  pub store : IsStore o2.store.signature o2.store.nodes
  pub clauses : o2.solver.propagation.clauses ≡ o.solver.propagation.clauses ++ l.clause ∷ []
  pub trail : o2.solver.propagation.trail ≡ o.solver.propagation.trail
  pub theory : o2.solver.theory ≡ o.solver.theory
  pub journal : o2.journal ≡ record o.journal { lines = o.journal.lines ++ l.own ∷ [] }
  pub news : HasNews o2.journal.lines
  pub lines : o2.lines.items ≡ o.lines.items ++ l.statement ∷ []
  pub blocks : o2.blocks ≡ o.blocks
  pub known : o2.known ≡ o.known
  pub looked : o2.looked ≡ o.looked
  pub owners : o2.owners ≡ o.owners
  pub instances : o2.instances ≡ o.instances

-- names may have come, and lines of instances, no others: the trail and the theory stay, and so do blocks and owners
pub record GoesOn (o o2 : Search) : Type 0 where
  pub extends : Extends o.store o2.store
  pub trail : o2.solver.propagation.trail ≡ o.solver.propagation.trail
  pub theory : o2.solver.theory ≡ o.solver.theory
  pub blocks : o2.blocks ≡ o.blocks
  pub owners : o2.owners ≡ o.owners
  pub limit : o2.journal.limit ≡ o.journal.limit
  pub added : List Line
  pub is : o2.journal.lines ≡ o.journal.lines ++ added
  pub forth : NoBack added
  pub plain : AllByRecursion (λ j. ¬ IsCombination j) added

-- nothing was noted and no name came, or a line of an instance was noted, which is counted
pub data Came (o o2 : Search) : Type 0 where
  nothing : o2.solver ≡ o.solver → o2.journal ≡ o.journal → o2.lines ≡ o.lines → o2.lines.items ≡ o.lines.items → terms_in o2.store ≡ terms_in o.store → Came o o2
  some : HasNews o2.journal.lines → length o.journal.lines < length o2.journal.lines → length o.lines.items < length o2.lines.items → counted_in o.journal.lines < counted_in o2.journal.lines → Came o o2

-- what noting a line at n comes to, whether it was there or not
pub record IsNoted (p : Problem) (g n : ℕ) (l : InstanceLine) (o o2 : Search) : Type 0 where
  pub beside : IsBeside p g o2
  pub goes_on : GoesOn o o2
  pub came : Came o o2
  pub noted : (Contains o.journal.lines l.own × (o2.journal.lines ≡ o.journal.lines)) ⊎ (o2.journal.lines ≡ o.journal.lines ++ l.own ∷ [])
  pub brought : AreBrought o.blocks.opened (suc n) o.store o.ages o2.store o2.ages l.clause
  pub looked : o2.looked ≡ o.looked
  pub instances : o2.instances ≡ o.instances
