-- What may come next.
use Rattle.std.specs.Prelude.{◌≡◌, ◌⊎◌, ℕ, ◌≤◌, List, [], ◌∷◌, ◌++◌, Some}
use Rattle.std.specs.List.{AllByRecursion, Contains}
use Rattle.ae_core.specs.declared.formulas.Lit.{Lit}
use Rattle.ae_core.specs.declared.problems.Problem.{Problem}
use Rattle.ae_core.specs.declared.proofs.ClauseLine.{ClauseLine}
use Rattle.ae_core.specs.declared.proofs.ClauseLine.TheVariants as clause_line
use Rattle.ae_core.specs.declared.terms.Term.{Term}
use Rattle.ae_rules.specs.Clauses.{Clause}
use Rattle.ae_rules.specs.Derivations.{conclusion, IsAllowed}
use Rattle.ae_explain.specs.declared.trail.Assigned.{Assigned}
use Rattle.ae_journal.specs.Journals.{BringsClause, HasLine}
use Rattle.ae_journal.specs.Legal.{IsLegalLine}
use Rattle.ae_journal.specs.Standing.{Setting, IsEntered, IsFormula, IsPossible}
use Rattle.ae_journal.specs.declared.lines.Line.{Line}
use Rattle.ae_journal.specs.declared.lines.Line.TheVariants as line
use Rattle.ae_store.specs.Stores.{Stored}
use Rattle.ae_theory.specs.Names.{AreNamed, Extends, terms_in}
use Rattle.ae_searching.specs.Searching.{RestsBelow}
use Rattle.ae_searching.specs.Told.{IsToldIn}
use Rattle.ae_block_constants.specs.declared.opened.Opened.{Opened}

-- the store has more terms, and more blocks were opened; each new term is a name of the journal
pub record Grows (p : Problem) (g : ℕ) (old new : Stored) (opened opened2 : List Opened) (js : List Line) : Type 0 where
  pub extends : Extends old new
  pub opened_still : (o : Opened) → Contains opened o → Contains opened2 o
  pub entered : (x : Setting) → IsToldIn p g new opened2 x → (n : Term) → Contains (terms_in new) n → Contains (terms_in old) n ⊎ IsEntered x js n

-- a line with its clause, whose terms have names; for each setting the clause is a possible one, over formulas of the journal
pub record MayCome (p : Problem) (g : ℕ) (s : Stored) (opened : List Opened) (lines : List ClauseLine) (js : List Line) (l : ClauseLine) (c : Clause) : Type 0 where
  pub allowed : IsAllowed p g lines l
  pub states : conclusion p g l ≡ Some c
  pub named : (m : Lit) → Contains c m → AreNamed s m.formula
  pub possible : (x : Setting) → IsToldIn p g s opened x → IsPossible x js c
  pub formulas : (x : Setting) → IsToldIn p g s opened x → (m : Lit) → Contains c m → IsFormula x js m.formula

-- the line of a proof that states the clause of an instance line
abbrev pub IsStatedBy : Line → ClauseLine → Type 0
IsStatedBy (line.TypeInstance k ss) l = l ≡ clause_line.Hyp k ss
IsStatedBy (line.TermInstance f ts) l = l ≡ clause_line.Inst f ts
IsStatedBy _ l = ⊥

-- an instance line, with the line and the clause that it brings. The terms of the clause have names in a store that may have grown by them.
pub record MayBring (p : Problem) (g bound : ℕ) (old new : Stored) (opened : List Opened) (js : List Line) (j : Line) (l : ClauseLine) (c : Clause) : Type 0 where
  pub legal : (x : Setting) → IsToldIn p g new opened x → IsLegalLine x bound js j
  pub stated_by : IsStatedBy j l
  pub states : conclusion p g l ≡ Some c
  pub named : (m : Lit) → Contains c m → AreNamed new m.formula
  pub grows : Grows p g old new opened opened (js ++ j ∷ [])

-- the line of an instance
abbrev pub IsInstanceLine : Line → Type 0
IsInstanceLine (line.TypeInstance k ss) = Unit {0}
IsInstanceLine (line.TermInstance f ts) = Unit {0}
IsInstanceLine _ = ⊥

-- lines were noted, none of them that of an instance
pub record NotesNoInstance (old new : List Line) : Type 0 where
  pub added : List Line
  pub is : new ≡ old ++ added
  pub none : (j : Line) → Contains added j → ¬ IsInstanceLine j

-- a combination of rows
abbrev pub IsCombination : Line → Type 0
IsCombination (line.Combine strict f) = Unit {0}
IsCombination _ = ⊥

-- lines were noted, none of them a combination of rows
pub record NotesNoCombination (old new : List Line) : Type 0 where
  pub added : List Line
  pub is : new ≡ old ++ added
  pub none : AllByRecursion (λ j. ¬ IsCombination j) added

-- since the last `Back` line, or the beginning, an instance or a `Learn` line has come
pub record HasNews (js : List Line) : Type 0 where
  pub since_back : (a b : List Line) (m : ℕ) → js ≡ a ++ line.Back m ∷ b → HasLine BringsClause b
  pub some : HasLine BringsClause js

-- a given clause that fires at no level below `least` lets a search that rests below `level` rest below `least`
pub record Lowers (t : List Assigned) (c : Clause) (level least : ℕ) : Type 0 where
  pub within : least ≤ level
  pub rests : RestsBelow t least c
