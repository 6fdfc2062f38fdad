-- What holds of a holding at any time.
use Rattle.std.specs.Prelude.{ℕ, ◌≤◌, List, ◌≡◌, length, slice_get, Some}
use Rattle.std.specs.List.{Contains}
use Rattle.ae_pmap.specs.Forest.{present}
use Rattle.ae_pmap.specs.Pairs.{found}
use Rattle.ae_just.specs.Steps.{Fits}
use Rattle.ae_store.specs.Stores.{Stored, IsStore}
use Rattle.ae_store.specs.Terms.{Keeps}
use Rattle.ae_settled.specs.Valued.{AreValues}
use Rattle.ae_theory.specs.Names.{terms_in, AreNamed}
use Rattle.ae_monoid.specs.declared.rules.Kept.{Kept}
use Rattle.ae_monoid.specs.Rules.{rule_at}
use Rattle.ae_equations.specs.declared.queue.Waiting.{Waiting}
use Rattle.ae_equations.specs.Queued.{waiting}
use Rattle.ae_equation_turns.specs.Said.{IsHeld}
use Rattle.ae_name_lines.specs.Closed.{AreClosed}
use Rattle.ae_value_fitting.specs.Fitting.{system_in, AreSaid}
use Rattle.ae_value_fitting.specs.Sources.{SaysValue}
use Rattle.ae_patterns.specs.Patterns.{AreEntriesOf}
use Rattle.ae_conflicts.specs.declared.assumed.Assumed.{Assumed}
use Rattle.ae_conflicts.specs.Saying.{RestsOnAssumed}
use Rattle.ae_literals.specs.declared.said.Said.{Said}
use Rattle.ae_literals.specs.Said.{Says}
use Rattle.ae_state.specs.declared.holding.Holding.{Holding}
use Rattle.ae_state.specs.Names.{all_terms, terms_now}

-- ---- steps
-- the step of this number says a value of a name, or is the justification of a rule or of an equation that waits
pub data IsReason (o : Holding) (id : ℕ) : Type 0 where
  of_value : SaysValue o.values id → IsReason o id
  of_rule : (n : ℕ) (rule : Kept) → rule_at o.equations.rules n ≡ Some rule → rule.just ≡ id → IsReason o id
  of_equation : (w : Waiting) → Contains (waiting o.equations.queue) w → w.step ≡ id → IsReason o id

-- ---- literals
-- the places of the assumed literals are the numbers below `next`, in their order
pub record AreNumbered (next : ℕ) (held : List (ℕ × Assumed)) : Type 0 where
  pub many : length held ≡ next
  pub places : (k : ℕ) (p : ℕ × Assumed) → slice_get held k ≡ Some p → p.0 ≡ k

-- the store has the signature, and each name that ever came has its term
pub record HasTerms (o : Holding) (s : Stored) : Type 0 where
  pub signature : s.signature ≡ o.signature
  pub keeps : Keeps (all_terms o) (terms_in s)

-- the terms of a literal have names in each such store, and what it says of the names is at the place
pub record IsRead (o : Holding) (place : ℕ) (a : Assumed) : Type 0 where
  pub what : Said
  pub at : found (present o.said) place ≡ Some what
  pub named : (s : Stored) → HasTerms o s → AreNamed s a.lit.formula
  pub says : (s : Stored) → IsStore s.signature s.nodes → HasTerms o s → Says s a.lit what

-- ---- all of it
pub record IsRight (o : Holding) : Type 0 where
  -- what is known for good of the first names is theirs, and those among them that have values have their arguments and fields among them
  pub entries : AreEntriesOf o.signature (all_terms o) o.values.entries
  pub within : o.values.taken ≤ length o.values.entries
  pub closed : AreClosed o.signature (terms_now o)
  -- steps are allowed; the values, the rules and the equations that wait are fit for the names, and said by steps
  pub steps : Fits o.signature (all_terms o) o.justs
  pub valued : AreValues o.signature (system_in (terms_now o) o.values)
  pub said : AreSaid o.signature (terms_now o) o.justs o.values
  pub ruled : IsHeld o.signature (terms_now o) o.justs o.equations
  -- these steps rest on assumed literals alone
  pub grounded : (id : ℕ) → IsReason o id → RestsOnAssumed (all_terms o) o.justs (present o.assumed) id
  -- what each assumed literal says is known
  pub numbered : AreNumbered o.next (present o.assumed)
  pub read : (place : ℕ) (a : Assumed) → found (present o.assumed) place ≡ Some a → IsRead o place a
