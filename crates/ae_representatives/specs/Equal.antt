-- Names with their representatives.
use Rattle.std.specs.Prelude.{ℕ, ◌≡◌, true, List, [], IsTrue}
use Rattle.ae_base.specs.Options.{known}
use Rattle.ae_core.specs.Sorts.{sort_of}
use Rattle.ae_core.specs.declared.terms.Term.{Term}
use Rattle.ae_core.specs.declared.problems.Signature.{Signature}
use Rattle.ae_just.specs.declared.steps.Step.{Step}
use Rattle.ae_state_steps.specs.ValueSteps.{StatesEqual}
use Rattle.ae_store.specs.Terms.{named}
use Rattle.ae_sweeps.specs.Given.{rep_in}
use Rattle.ae_value_table.specs.Table.{Contents}
use Rattle.ae_value_table.specs.Alike.{alike}
use Rattle.ae_value_fitting.specs.Sources.{RestsOnValues}

-- a name and its representative have sorts, and are the same
pub record IsRepresented (sig : Signature) (ts : List Term) (c : Contents) (reps : List ℕ) (name : ℕ) : Type 0 where
  pub name_sorted : known (sort_of sig (named ts name)) ≡ true
  pub rep_sorted : known (sort_of sig (named ts (rep_in reps name))) ≡ true
  pub same : IsTrue (alike c name (rep_in reps name))

-- the step equates a name with its representative, and rests on steps of old that say values
pub record IsEqualTo (old new : List Step) (c : Contents) (reps : List ℕ) (name id : ℕ) : Type 0 where
  pub states : StatesEqual new id name (rep_in reps name)
  pub rests : RestsOnValues old new c [] id
