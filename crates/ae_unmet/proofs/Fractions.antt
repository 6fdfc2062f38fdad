-- Values of integers that aren't whole.
use Rattle.std.specs.Prelude.{ℕ, List, ◌≡◌, Some}
use Rattle.ae_core.specs.declared.problems.Signature.{Signature}
use Rattle.ae_core.specs.declared.terms.Term.{Term}
use Rattle.ae_linear.specs.declared.rows.Row.{Row}
use Rattle.ae_linear.specs.Rows.{row_at}
use Rattle.ae_pmap.specs.Forest.{present}
use Rattle.ae_store.specs.Stores.{Stored}
use Rattle.ae_store.specs.Terms.{HasOneName, Keeps}
use Rattle.ae_just.specs.declared.steps.Step.{Step}
use Rattle.ae_settled.specs.Valued.{AreValues}
use Rattle.ae_theory.specs.Names.{terms_in}
use Rattle.ae_value_table.specs.Table.{Contents, held, just_at}
use Rattle.ae_value_fitting.specs.Fitting.{system_in, ArePatterns, AreSaid}
use Rattle.ae_value_fitting.specs.Sources.{by_number}
use Rattle.ae_conflicts.specs.declared.assumed.Assumed.{Assumed}
use Rattle.ae_conflicts.specs.declared.conflicts.Conflict.TheVariants.{Unsolvable}
use Rattle.ae_conflicts.specs.Saying.{RestsOnAssumed}
use Rattle.ae_conflicts.specs.Conflicting.{IsConflict}
use Rattle.ae_whole_values.specs.Wholes.{IsFraction, HaveArguments}
use Rattle.ae_state.specs.declared.holding.Holding.{Holding}
use Rattle.ae_state.specs.Right.{of_value}
use Rattle.ae_state.proofs.ExplainedValues.{reason_rests}
use Rattle.ae_turns.specs.Representing.{IsTaken}
use Rattle.ae_turns.proofs.Representatives.{valued}
use Rattle.ae_unmet.proofs.TakenNames.{patterns, said_now, closed_now}

-- the step of such a value is a conflict
abbrev pub FractionsAreConflicts : Type 0
FractionsAreConflicts = (sig : Signature) (ts now : List Term) (c : Contents) (steps : List Step) (assumed : List (ℕ × Assumed)) (id : ℕ) → Keeps now ts → HasOneName now → HaveArguments (system_in now c)
    → AreValues sig (system_in now c) → AreSaid sig now steps c → ArePatterns sig now (held c) → RestsOnAssumed ts steps assumed id → IsFraction c id → IsConflict sig ts steps assumed (Unsolvable id)

-- each value that was put is said by a step
pub rows_said : (o : Holding) (s : Stored) → IsTaken o s → (n : ℕ) (row : Row) → row_at o.values.rows n ≡ Some row → (step : ℕ) × (just_at o.values n ≡ Some step)
rows_said o s t n row at = let w = (said_now o s t).numbers n row at in (w.step, w.just)

pub fraction_now : (s : Stored) (o : Holding) → IsTaken o s → FractionsAreConflicts → (id : ℕ) → IsFraction o.values id → IsConflict s.signature (terms_in s) o.justs (present o.assumed) (Unsolvable id)
fraction_now s o t law id f =
    law s.signature (terms_in s) (terms_in s) o.values o.justs (present o.assumed) id (λ i u e. e) (closed_now o s t).apart (closed_now o s t).arguments (valued o s t) (said_now o s t) (patterns o s t)
    (reason_rests o s t.fits id (of_value (record { name = f.name; put = by_number f.row f.there; just = f.just }))) f
