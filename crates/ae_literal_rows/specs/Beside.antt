-- What a state holds beside a journal and a trail.
use Rattle.std.specs.Prelude.{ℕ, true, List, ◌≡◌, slice_get, Some}
use Rattle.ae_core.specs.Sorts.{formula_ok}
use Rattle.ae_explain.specs.declared.trail.Assigned.{Assigned}
use Rattle.ae_journal.specs.Journals.{live}
use Rattle.ae_journal.specs.Standing.{Setting}
use Rattle.ae_journal.specs.declared.lines.Line.{Line}
use Rattle.ae_store.specs.Stores.{Stored}
use Rattle.ae_theory.specs.Names.{AreNamed, IsNamedBy}
use Rattle.ae_sat.specs.Marked.{atoms}
use Rattle.ae_state.specs.declared.holding.Holding.{Holding}
use Rattle.ae_state.specs.Names.{assumed_in}
use Rattle.ae_state.specs.Stepping.{IsInStep}

-- the journal names the store's terms, and the lines that stand in it are in step with what is held
pub record IsBeside (x : Setting) (js : List Line) (s : Stored) (o : Holding) : Type 0 where
  pub named : IsNamedBy x s js
  pub step : IsInStep o (live js)

-- the state has assumed the atoms of the trail, each under its place, and no other literal; the literals are well sorted, and their terms have names in the store
pub record IsTold (o : Holding) (s : Stored) (t : List Assigned) : Type 0 where
  pub assumed : assumed_in o ≡ atoms t
  pub named : (k : ℕ) (a : Assigned) → slice_get t k ≡ Some a → AreNamed s a.lit.formula
  pub sorted : (k : ℕ) (a : Assigned) → slice_get t k ≡ Some a → formula_ok s.signature a.lit.formula ≡ true
