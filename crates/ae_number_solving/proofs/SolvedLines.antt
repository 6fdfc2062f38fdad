-- A step is added that states the solution of a difference, and its line is noted.
use Rattle.std.specs.Prelude.{ℕ, Bool, List, [], ◌∷◌, ◌++◌, ◌≡◌, Result, IfOk, OnErr}
use Rattle.std.proofs.Common.{ap, ◌∙◌}
use Rattle.ae_num.specs.Forms.{meaning}
use Rattle.ae_num.specs.declared.forms.Lin.{Lin}
use Rattle.ae_num.specs.declared.forms.Value.{Number}
use Rattle.ae_linear.specs.Solving.{SolvesFor}
use Rattle.ae_journal.specs.Journals.{live}
use Rattle.ae_journal.specs.Noted.{Noted}
use Rattle.ae_journal.specs.declared.lines.Line.{Line}
use Rattle.ae_just.specs.Steps.{Fits}
use Rattle.ae_just.specs.declared.steps.Step.{Step}
use Rattle.ae_name_licences.specs.Laws.{StoresAreInStep, SolvedNumbersAreLegal}
use Rattle.ae_state_steps.specs.ValueSteps.{name_side, value_side}
use Rattle.ae_store.specs.Growing.{IsFront}
use Rattle.ae_store.specs.Stores.{Stored}
use Rattle.ae_theory.specs.Names.{terms_in}
use Rattle.ae_equal_steps.proofs.Adding.{front_added}
use Rattle.ae_value_steps.specs.Stating.{AddsStep}
use Rattle.ae_state.specs.Stepping.{IsInStep}
use Rattle.ae_state.specs.declared.holding.Holding.{Holding}
use Rattle.ae_turns.specs.Leading.{Leads}
use Rattle.ae_turns.specs.Representing.{IsTaken}
use Rattle.ae_turns.proofs.Steps.{noted_none, legal_none}
use Rattle.ae_value_turns.specs.Renewed.{renewed, AreRenewed}
use Rattle.ae_value_turns.proofs.RenewedValues.{more_steps, taken_after, leads_after}
use Rattle.ae_value_turns.proofs.SolveLines.{solve_line, solve_noted, solve_legal, step_same}
use Rattle.ae_number_solving.specs.Inner.Equated.{AreEquated, IsDifference}
use Rattle.ae_number_solving.proofs.Joining.{solution_legal}

-- the step of the solution comes behind the others, or it is refused
pub front_of : {E : Type 0} (old new : List Step) (real : Bool) (name : ℕ) (number : Lin) (from : ℕ) (res : Result ℕ E) → IfOk res (λ id. AddsStep old new id (name_side real name number) (value_side real number) (from ∷ []))
    → OnErr res (new ≡ old) → IsFront old new
front_of old new real name number from res added err = front_added old new (name_side real name number) (value_side real number) (from ∷ []) res added err

-- the same line of an equal number
pub line_of : (j k : Noted) (name : ℕ) (copy number : Lin) → copy ≡ number → k ≡ record j { lines = j.lines ++ solve_line name (Number copy) ∷ [] } → k ≡ record j { lines = j.lines ++ solve_line name (Number number) ∷ [] }
line_of j k name copy number e h = h ∙ ap (λ (f : Lin). record j { lines = j.lines ++ solve_line name (Number f) ∷ [] }) e

-- ---- more steps alone
module _ (o : Holding) (s : Stored) (t : IsTaken o s) (steps : List Step) (front : IsFront o.justs steps) (fits : Fits s.signature (terms_in s) steps) where
  abbrev pub stepped : Holding
  stepped = renewed o o.values steps

  new : AreRenewed s o o.values steps
  new = more_steps o s t steps front fits

  pub stepped_taken : IsTaken stepped s
  stepped_taken = taken_after o s t o.values steps new

  pub stepped_leads : (j : Noted) → Leads s o j stepped j
  stepped_leads j = leads_after o s t o.values steps new j j (noted_none j) (λ x bound named may. legal_none x bound j.lines)

  pub stepped_in_step : (js : List Line) → IsInStep o js → IsInStep stepped js
  stepped_in_step js h = step_same o s t steps new js h

-- ---- with the line of the solution
module _ (s : Stored) (o : Holding) (real : Bool) (left right equal : ℕ) (e : AreEquated s o real left right equal) (form : Lin) (zero : ℕ) (d : IsDifference s o real left right form zero) (name : ℕ) (number : Lin)
    (solves : SolvesFor (meaning form) name number) (steps : List Step) (front : IsFront o.justs steps) (fits : Fits s.signature (terms_in s) steps) where
  pub solved_leads : StoresAreInStep → SolvedNumbersAreLegal → (j k : Noted) → IsInStep o (live j.lines) → k ≡ record j { lines = j.lines ++ solve_line name (Number number) ∷ [] } → Leads s o j (stepped o s e.taken steps front fits) k
  solved_leads law legal j k h line =
      leads_after o s e.taken o.values steps (more_steps o s e.taken steps front fits) j k (solve_noted j k name (Number number) line)
      (λ x bound named_by may. solve_legal j k name (Number number) line x bound (solution_legal s o real left right equal e form zero d name number solves law legal j.lines h x named_by may))
