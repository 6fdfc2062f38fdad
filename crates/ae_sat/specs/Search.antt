-- What each step of a search keeps, and how it ends.
use Rattle.std.specs.Prelude.{◌≡◌, ◌⊎◌, ℕ, Bool, true, false, ◌<◌, ◌≤◌, ◌==◌, count_by, List, [], ◌∷◌, ◌++◌, length, slice_get, slice_index_or, Some}
use Rattle.std.specs.List.{AllByRecursion, Contains}
use Rattle.ae_base.specs.Options.{◌>>=◌}
use Rattle.ae_rules.specs.Clauses.{Clause, literal, row}
use Rattle.ae_rules.specs.Defining.{called_rows}
use Rattle.ae_rules.specs.Derivations.{conclusion, AreAllowed}
use Rattle.ae_core.specs.declared.formulas.Formula.{Formula}
use Rattle.ae_core.specs.declared.formulas.Lit.{Lit}
use Rattle.ae_core.specs.declared.problems.Problem.{Problem}
use Rattle.ae_core.specs.declared.proofs.Block.{Block}
use Rattle.ae_core.specs.declared.proofs.ClauseLine.{ClauseLine}
use Rattle.ae_core.specs.declared.proofs.ClauseLine.TheVariants as clause_line
use Rattle.ae_explain.specs.declared.trail.Assigned.{Assigned}
use Rattle.ae_explain.specs.Trail.{clause, AreFalse}
use Rattle.ae_explain.specs.Levels.{level_of, greatest_of, literals_under}
use Rattle.ae_explain.specs.declared.conflict.Learnt.{Learnt}
use Rattle.ae_journal.specs.declared.lines.Line.{Line}
use Rattle.ae_journal.specs.declared.lines.Line.TheVariants as line
use Rattle.ae_journal.specs.Noted.{Noted}
use Rattle.ae_journal.specs.Journals.{live, counted_in}
use Rattle.ae_store.specs.Stores.{Stored}
use Rattle.ae_theory.specs.Tagged.{Tagged}
use Rattle.ae_theory.specs.Names.{AreNamed}
use Rattle.ae_propagation.specs.Settled.{HasTrue, Holds, last_level}
use Rattle.ae_sat.specs.Layers.{IsLayered}
use Rattle.ae_sat.specs.Standing.{IsOneOf, HasRows}
use Rattle.ae_sat.specs.Marked.{IsRunning}
use Rattle.ae_journal.specs.SolverLines.{IsSourceLine}
use Rattle.ae_journal.specs.Journals.{MayLearnAgain}
use Rattle.ae_journal.specs.Standing.{IsFormula, IsGiven, IsPossible, Setting, parts_of}
use Rattle.ae_journal.specs.Legal.{AreLegal}

-- the terms of each clause have names
abbrev pub AllNamed : Stored → List Clause → Type 0
AllNamed store clauses = (c : Clause) (l : Lit) → IsOneOf clauses c → Contains c l → AreNamed store l.formula

-- with a formula the list has the formulas of the literals that say of its parts that they hold or fail
abbrev pub HasParts : List Formula → Type 0
HasParts fs = (h a : Formula) (sign : Bool) → Contains fs h → Contains (parts_of h) a → Contains fs (literal sign a).formula

-- the formulas of all literals are among these
abbrev pub AllAmong : List Formula → List Clause → Type 0
AllAmong fs clauses = (c : Clause) (l : Lit) → IsOneOf clauses c → Contains c l → Contains fs l.formula

-- each line is allowed, and each clause is the one that its line states
pub record IsStated (p : Problem) (g : ℕ) (lines : List ClauseLine) (clauses : List Clause) (places : List ℕ) : Type 0 where
  pub allowed : AreAllowed p g [] lines
  pub size : length places ≡ length clauses
  pub states : (k : ℕ) → k < length clauses → (slice_get lines (slice_index_or places k 0) >>= conclusion p g) ≡ Some (clause clauses k)

-- what makes the next lines legal
pub record IsLawfulState (setting : Setting) (t : List Assigned) (clauses : List Clause) (expanded : ℕ) (lines : List ClauseLine) (js : List Line) : Type 0 where
  pub possible : (c : Clause) → IsOneOf clauses c → IsPossible setting js c
  pub formulas : (c : Clause) (l : Lit) → IsOneOf clauses c → Contains c l → IsFormula setting js l.formula
  pub given : (c : Clause) → IsGiven setting js c → IsOneOf clauses c
  pub rows : HasRows t expanded clauses
  pub layered : IsLayered t (IsGiven setting js)
  pub sources : AllByRecursion (IsSourceLine setting js) lines
  pub again : MayLearnAgain js

-- lines were noted, each of them legal after those before it
pub record NotesLegally (setting : Setting) (bound : ℕ) (old new : List Line) : Type 0 where
  pub added : List Line
  pub is : new ≡ old ++ added
  pub legal : AreLegal setting bound old added

-- the last line states the empty clause
abbrev pub EndsEmpty : List ClauseLine → Type 0
EndsEmpty lines = (before : List ClauseLine) × (hints : List ℕ) × (lines ≡ before ++ clause_line.Rup [] hints ∷ [])

-- the block and what is learnt from it are the last of the lines, and what is learnt is over formulas that are there
abbrev pub AddsLearnt : Block → List Clause → List ClauseLine → List ClauseLine → Type 0
AddsLearnt b clauses old new = (c : Clause) × (hints : List ℕ) × (new ≡ old ++ clause_line.Block b ∷ clause_line.Rup c hints ∷ [])
    × ((fs : List Formula) → HasParts fs → AllAmong fs clauses → (l : Lit) → Contains c l → Contains fs l.formula)

-- the trail has grown behind its end alone
abbrev pub Lengthens : List Assigned → List Assigned → Type 0
Lengthens old new = (more : List Assigned) × (new ≡ old ++ more)

-- a row that the truth of a literal of the trail calls for
abbrev pub IsCalled : List Assigned → Clause → Type 0
IsCalled t c = (l : Lit) × (r : ℕ) × Holds t l × Contains (called_rows l.positive l.formula) r × (row r l.formula ≡ Some c)

-- no literal goes, none is decided, and each clause is an old one or a row that a true literal calls for
pub record Brings (t : List Assigned) (clauses : List Clause) (t2 : List Assigned) (clauses2 : List Clause) : Type 0 where
  pub holds : (l : Lit) → Holds t l → Holds t2 l
  pub level : last_level t2 ≡ last_level t
  pub front : Lengthens t t2
  pub from : (c : Clause) → IsOneOf clauses2 c → IsOneOf clauses c ⊎ IsCalled t2 c

-- each clause has a true literal, and so has each row that a true literal calls for
pub record IsOpen (t : List Assigned) (clauses : List Clause) : Type 0 where
  pub clauses_true : (k : ℕ) → k < length clauses → HasTrue t (clause clauses k)
  pub rows : HasRows t (length t) clauses

-- what is learnt from a clause that is false by the trail, where the greatest level of the clause is `top`
pub record IsLearnt (t : List Assigned) (r : Learnt) (top : ℕ) : Type 0 where
  pub false_ones : AreFalse t r.clause
  pub empty : top ≡ 0 → r.clause ≡ []
  pub one : 0 < top → count_by (λ m. level_of t m == top) r.clause ≡ 1
  pub highest : (m : Lit) → Contains r.clause m → level_of t m ≤ top
  pub level : r.level ≡ greatest_of t (literals_under t (greatest_of t r.clause) r.clause)

module _ {T M : Type 0} (fits : T → Stored → Type 0) (assumed : T → List Tagged) (fits_mark : T → M → T → Type 0) (in_step : T → List Line → Type 0) where
  -- the conditions of a search; the rows of the first `expanded` literals are among the clauses
  pub record IsAlive (store : Stored) (theory : T) (marks : List M) (t : List Assigned) (clauses : List Clause) (told expanded : ℕ) (js : List Line) : Type 0 where
    pub running : IsRunning assumed fits_mark in_step theory marks t clauses told (live js)
    pub fits_store : fits theory store
    pub named : AllNamed store clauses
    pub told_within : told ≤ length t
    pub expanded_within : expanded ≤ length t
    pub has_rows : HasRows t expanded clauses

-- the journal holds at least one counted line more, and its limit stays
pub record Progresses (old new : Noted) : Type 0 where
  pub limit : new.limit ≡ old.limit
  pub more : counted_in old.lines < counted_in new.lines
  pub within : counted_in new.lines ≤ new.limit

-- a line of the solver or of its theory: no instance line, and no combination of rows
abbrev pub is_own_line : Line → Bool
is_own_line (line.TypeInstance k ss) = false
is_own_line (line.TermInstance f ts) = false
is_own_line (line.Combine strict f) = false
is_own_line _ = true

-- such lines alone came behind the old ones
abbrev pub AddsOwnLines : List Line → List Line → Type 0
AddsOwnLines old new = (added : List Line) × (new ≡ old ++ added) × AllByRecursion (λ j. is_own_line j ≡ true) added

-- only such lines were noted, and the limit stays
pub record Keeps (old new : Noted) : Type 0 where
  pub limit : new.limit ≡ old.limit
  pub more : counted_in old.lines ≤ counted_in new.lines
  pub own : AddsOwnLines old.lines new.lines
