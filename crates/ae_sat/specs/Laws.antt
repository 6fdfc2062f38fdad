-- Laws, as statements.
use Rattle.std.specs.Prelude.{◌≡◌, ◌≢◌, ℕ, ◌<◌, ◌+◌, ◌≤◌, ◌==◌, List, [], ◌∷◌, ◌++◌, length, count_by, None}
use Rattle.std.specs.List.{Contains}
use Rattle.ae_rules.specs.Clauses.{Clause}
use Rattle.ae_core.specs.declared.formulas.Lit.{Lit}
use Rattle.ae_explain.specs.declared.trail.Assigned.{Assigned}
use Rattle.ae_explain.specs.Trail.{Apart, at, place_in, IsLawful, AreFalse}
use Rattle.ae_explain.specs.Levels.{level_of}
use Rattle.ae_journal.specs.declared.lines.Line.{Line}
use Rattle.ae_propagation.specs.Settled.{Holds, HasTrue, IsQuiet}
use Rattle.ae_sat.specs.Layers.{Fires, IsLayered, IsCut}
use Rattle.ae_propagation.specs.Settled.{last_level}
use Rattle.ae_sat.specs.Standing.{IsOneOf, HasRows, decided_lits}
use Rattle.ae_sat.specs.Search.{IsLawfulState}
use Rattle.ae_rules.specs.Derivations.{AreAllowed}
use Rattle.ae_core.specs.declared.proofs.ClauseLine.{ClauseLine}
use Rattle.ae_core.specs.declared.proofs.ClauseLine.TheVariants.{Rup}
use Rattle.ae_journal.specs.Journals.{live, decisions}
use Rattle.ae_journal.specs.declared.lines.Line.TheVariants.{Learn, Decide}
use Rattle.ae_journal.specs.Journals.{IsDecided, MayGoBack}
use Rattle.ae_journal.specs.Standing.{IsGiven, IsPossible, MayStand, Setting, SurelyStands}
use Rattle.ae_journal.specs.SolverLines.{MayDecide, MayLearn}

module _ (setting : Setting) (js : List Line) (t : List Assigned) (clauses : List Clause) where
  -- what the decisions in the journal and the given clauses ask of a settled trail
  pub record IsSettled : Type 0 where
    pub lawful : IsLawful t clauses
    pub quiet : IsQuiet t clauses
    pub decided : (l : Lit) → IsDecided js l → Holds t l
    pub given : (c : Clause) → IsGiven setting js c → IsOneOf clauses c
    pub rows : HasRows t (length t) clauses

  -- what surely stands is in the trail
  abbrev pub SurelyIsTrue : Type 0
  SurelyIsTrue = IsSettled → (l : Lit) → SurelyStands setting js l → Holds t l

  -- a literal without a value of a possible clause without a true literal may be decided
  abbrev pub OpenMayBeDecided : Type 0
  OpenMayBeDecided = IsSettled → (c : Clause) (l : Lit) → IsPossible setting js c → Contains c l → place_in t l.formula ≡ None → ¬ HasTrue t c → MayDecide setting js l

  -- no given clause is a part of what is learnt from a conflict
  abbrev pub LearntIsNew : Type 0
  LearntIsNew = IsLawful t clauses → IsLayered t (IsGiven setting js) → (c : Clause) → AreFalse t c → (level : ℕ) → 0 < level → level ≤ last_level t
      → count_by (λ m. level_of t m == level) c ≡ 1 → ((m : Lit) → Contains c m → level_of t m ≤ level)
      → (d : Clause) → IsGiven setting js d → ¬ ((m : Lit) → Contains d m → Contains c m)

  -- each literal of the trail may stand
  abbrev pub TrailMayStand : Type 0
  TrailMayStand = IsLawful t clauses → decisions (live js) ≡ decided_lits t → ((c : Clause) → IsOneOf clauses c → IsPossible setting js c) → (j : ℕ) → j < length t → MayStand setting js (at t j).lit

  -- what is learnt from a conflict is a legal line, where the lines that derive it are allowed
  abbrev pub LearningIsLegal : Type 0
  LearningIsLegal = (n : ℕ) (ks : List ClauseLine) → IsLawful t clauses → decisions (live js) ≡ decided_lits t → IsLawfulState setting t clauses n ks js → (c : Clause) (hints : List ℕ) (level : ℕ) → c ≢ [] → AreFalse t c
      → (level ≡ 0 → c ≡ []) → (0 < level → count_by (λ m. level_of t m == level) c ≡ 1) → ((m : Lit) → Contains c m → level_of t m ≤ level) → AreAllowed setting.problem setting.goal [] (ks ++ Rup c hints ∷ []) → MayLearn setting js c

  -- and so is going back after it
  abbrev pub GoingBackIsLegal : Type 0
  GoingBackIsLegal = (c : Clause) (n : ℕ) → IsLawful t clauses → decisions (live js) ≡ decided_lits t → n < last_level t → MayGoBack (js ++ Learn c ∷ []) n

  -- after a decision the next lines are legal on the same ground
  abbrev pub DecidingKeeps : Type 0
  DecidingKeeps = (n : ℕ) (ks : List ClauseLine) (a : Assigned) (l : Lit) → IsLawful t clauses → IsQuiet t clauses → n ≤ length t → a.level ≡ last_level t + 1
      → IsLawfulState setting t clauses n ks js → IsLawfulState setting (t ++ a ∷ []) clauses n ks (js ++ Decide l ∷ [])

module _ (t cut : List Assigned) (level : ℕ) where
  -- going back keeps given clauses from firing below the present level
  abbrev pub GoingBackKeepsLayers : (Clause → Type 0) → Type 0
  GoingBackKeepsLayers given = IsCut t level cut → last_level cut ≤ level → last_level cut ≤ last_level t → IsLayered t given → IsLayered cut given

  -- a new given clause fires at no level below the one gone back to, if that is the least at which it fires
  abbrev pub NewClauseRests : Type 0
  NewClauseRests = (new : Clause) → IsCut t level cut → last_level cut ≤ level → ((k : ℕ) → k < level → ¬ Fires t new k) → (k : ℕ) → k < last_level cut → ¬ Fires cut new k

  -- what was learnt rests too
  abbrev pub LearntRests : Type 0
  LearntRests = Apart t → (top : ℕ) (c : Clause) (o s : Lit) → IsCut t level cut → level < top → last_level cut ≤ level → Contains c o → level_of t o ≡ top → Contains c s → level_of t s ≡ level
      → (k : ℕ) → k < last_level cut → ¬ Fires cut c k
