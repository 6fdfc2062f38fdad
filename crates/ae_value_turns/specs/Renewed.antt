-- Other values and more steps than what is held has.
use Rattle.std.specs.Prelude.{ℕ, List, ◌≡◌}
use Rattle.ae_conflicts.specs.Saying.{RestsOnAssumed}
use Rattle.ae_conflicts.specs.declared.assumed.Assumed.{Assumed}
use Rattle.ae_core.specs.declared.terms.Term.{Term}
use Rattle.ae_just.specs.Steps.{Fits}
use Rattle.ae_just.specs.declared.steps.Step.{Step}
use Rattle.ae_pmap.specs.Forest.{present}
use Rattle.ae_settled.specs.Valued.{AreValues}
use Rattle.ae_state.specs.Names.{all_terms}
use Rattle.ae_state.specs.declared.holding.Holding.{Holding}
use Rattle.ae_store.specs.Growing.{IsFront}
use Rattle.ae_store.specs.Stores.{Stored}
use Rattle.ae_theory.specs.Names.{terms_in}
use Rattle.ae_value_fitting.specs.Fitting.{system_in, AreSaid}
use Rattle.ae_value_fitting.specs.Sources.{SaysValue}
use Rattle.ae_value_table.specs.Table.{Contents}
use Rattle.ae_value_table.specs.Versions.{Lasts}

-- what is held, with these values and these steps
abbrev pub renewed : Holding → Contents → List Step → Holding
renewed o c steps = record o { values = c; justs = steps }

-- what is known of names for good is as it was
abbrev pub KeepsEntries : Contents → Contents → Type 0
KeepsEntries old new = new ≡ record old { rows = new.rows; leaves = new.leaves; justs = new.justs }

-- the steps that say values rest on assumed literals alone
abbrev pub AreGrounded : List Term → List (ℕ × Assumed) → List Step → Contents → Type 0
AreGrounded ts held steps c = (id : ℕ) → SaysValue c id → RestsOnAssumed ts steps held id

-- steps came behind those of before; they say the values, which are right for the store, and rest on assumed literals alone
pub record AreRenewed (s : Stored) (o : Holding) (c : Contents) (steps : List Step) : Type 0 where
  pub front : IsFront o.justs steps
  pub fits : Fits s.signature (terms_in s) steps
  pub entries : KeepsEntries o.values c
  pub valued : AreValues s.signature (system_in (terms_in s) c)
  pub said : AreSaid s.signature (terms_in s) steps c
  pub grounded : AreGrounded (all_terms o) (present o.assumed) steps c
  pub lasts : Lasts o.values c
