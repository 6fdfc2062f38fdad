-- When kept rows are right for a trail, and for a setting of the journal.
use Rattle.std.specs.Prelude.{ℕ, ◌≤◌, ◌≡◌, ◌≢◌, Bool, List, map, take, length, Option, Some, None}
use Rattle.std.specs.List.{AllByRecursion}
use Rattle.ae_agreed_rows.specs.Kept.{AreRowsOf, AreStandingLiterals, NoneCombined}
use Rattle.ae_bound_rest.specs.Laws.{AreAgreed}
use Rattle.ae_core.specs.declared.formulas.Lit.{Lit}
use Rattle.ae_explain.specs.declared.trail.Assigned.{Assigned}
use Rattle.ae_inequalities.specs.Held.{AreOfTags, Fits}
use Rattle.ae_journal.specs.Standing.{Setting}
use Rattle.ae_journal.specs.declared.lines.Line.{Line}
use Rattle.ae_kept_rows.specs.declared.kept.KeptRows.{KeptRows}
use Rattle.ae_literal_rows.specs.Beside.{IsBeside}
use Rattle.ae_literal_rows.specs.Trails.{AreMarked, literals_from}
use Rattle.ae_num.specs.Forms.{IsNormal}
use Rattle.ae_sat.specs.Marked.{atoms}
use Rattle.ae_state.specs.declared.holding.Holding.{Holding}
use Rattle.ae_store.specs.Stores.{Stored}

-- the first literals of a trail, so many
abbrev pub literals_to : List Assigned → ℕ → List Lit
literals_to t n = map (λ (a : Assigned). a.lit) (take n t)

-- the rows are given right over the store, by literals of the trail
pub record AreRowsFor (s : Stored) (t : List Assigned) (k : KeptRows) : Type 0 where
  pub fits : Fits s k.bounds
  pub literals : k.literals ≤ length t
  pub tags : AreOfTags (atoms t) k.bounds
  pub even : length k.bounds.tags ≡ length k.bounds.given

-- they are the rows of the first literals of the trail, and agree with the journal
pub record AreInStepWith (x : Setting) (js : List Line) (t : List Assigned) (k : KeptRows) : Type 0 where
  pub rows : AreRowsOf x js (literals_to t k.literals) k.bounds.rows
  pub agreed : AreAgreed x js k.bounds.rows
  pub normal : AllByRecursion (λ r. IsNormal r.lin) k.bounds.rows

-- while the journal has so many lines, those that are kept are right
abbrev pub AreKeptAt : Stored → List Assigned → ℕ → Option KeptRows → Type 0
AreKeptAt s t lines None = Unit {0}
AreKeptAt s t lines (Some k) = k.lines ≡ lines → AreRowsFor s t k

-- and agree with it; where none are kept for it, the last line is no combination
abbrev pub AgreeAt : Setting → List Line → List Assigned → Option KeptRows → Type 0
AgreeAt x js t None = NoneCombined js
AgreeAt x js t (Some k) = (k.lines ≡ length js → AreInStepWith x js t k) × (k.lines ≢ length js → NoneCombined js)

-- the state stands beside the journal, the literals of the trail stand in it, the marked ones surely, and the rows that are kept agree with it
pub record StandBeside (x : Setting) (js : List Line) (s : Stored) (o : Holding) (t : List Assigned) (marks : List Bool) (kept : Option KeptRows) : Type 0 where
  pub beside : IsBeside x js s o
  pub stand : AreStandingLiterals x js (literals_from t 0)
  pub marked : AreMarked x js t marks
  pub agree : AgreeAt x js t kept
