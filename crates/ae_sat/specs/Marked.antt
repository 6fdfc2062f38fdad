-- A solver's theory and marks beside its trail and a journal.
use Rattle.std.specs.Prelude.{◌≡◌, ℕ, suc, ◌<◌, List, [], ◌∷◌, ◌++◌, length, take, slice_index_or, cond, None}
use Rattle.ae_rules.specs.Clauses.{Clause}
use Rattle.ae_explain.specs.declared.trail.Assigned.{Assigned}
use Rattle.ae_explain.specs.Trail.{at, IsLawful}
use Rattle.ae_journal.specs.declared.lines.Line.{Line}
use Rattle.ae_journal.specs.Journals.{before_decision, decisions}
use Rattle.ae_theory.specs.Tagged.{Tagged}
use Rattle.ae_theory.specs.Names.{is_atom}
use Rattle.ae_propagation.specs.Settled.{last_level}
use Rattle.std.specs.List.{Contains}
use Rattle.ae_sat.specs.Standing.{IsOneOf, decided_lits}

-- the atoms of a trail, each with its place
abbrev pub atoms_from : ℕ → List Assigned → List Tagged
atoms_from i [] = []
atoms_from i (a ∷ t) = cond (is_atom a.lit.formula) (record { lit = a.lit; tag = i } ∷ []) [] ++ atoms_from (suc i) t

abbrev pub atoms : List Assigned → List Tagged
atoms t = atoms_from 0 t

module _ {T M : Type 0} (assumed : T → List Tagged) (fits_mark : T → M → T → Type 0) (in_step : T → List Line → Type 0) where
  -- the mark stands for the state just before decision number k, from 0
  pub record IsMarkAt (theory : T) (mark : M) (t : List Assigned) (standing : List Line) (k : ℕ) : Type 0 where
    pub then : T
    pub fits : fits_mark theory mark then
    pub place : ℕ
    pub within : place < length t
    pub decision : (at t place).by ≡ None
    pub level : (at t place).level ≡ suc k
    pub assumed_then : assumed then ≡ atoms (take place t)
    pub step : in_step then (before_decision k standing)

  -- `told` literals were handed to the theory; `standing` are the lines that stand in the journal
  pub record IsRunning (theory : T) (marks : List M) (t : List Assigned) (clauses : List Clause) (told : ℕ) (standing : List Line) : Type 0 where
    pub lawful : IsLawful t clauses
    pub count : length marks ≡ last_level t
    pub marked : (k : ℕ) (d : M) → k < length marks → IsMarkAt theory (slice_index_or marks k d) t standing k
    pub step : in_step theory standing
    pub decided : decisions standing ≡ decided_lits t
    pub told_all : assumed theory ≡ atoms (take told t)
    -- each decision is a literal of a clause
    pub stands : (j : ℕ) → j < length t → (at t j).by ≡ None → (c : Clause) × IsOneOf clauses c × Contains c (at t j).lit
