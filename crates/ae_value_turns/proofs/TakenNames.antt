-- What is held of a store of which all names have values, said over the terms of the store.
use Rattle.std.specs.Prelude.{ℕ, ◌≤◌, List, ◌≡◌, length}
use Rattle.std.proofs.Common.{sym, ap, ◌∙◌, subst, arith}
use Rattle.std.proofs.Math.Nat.{min-le_left}
use Rattle.std.proofs.lemmas.List.{length-take, take_all}
use Rattle.ae_conflicts.specs.Saying.{RestsOnAssumed}
use Rattle.ae_core.specs.declared.terms.Term.{Term}
use Rattle.ae_core.specs.declared.problems.Signature.{Signature}
use Rattle.ae_entering.proofs.PatternFacts.{patterns_fit}
use Rattle.ae_journal.specs.declared.lines.Line.{Line}
use Rattle.ae_just.specs.Steps.{Fits}
use Rattle.ae_just.specs.declared.steps.Step.{Step}
use Rattle.ae_name_lines.specs.Closed.{AreClosed}
use Rattle.ae_name_lines.specs.InStep.{AreLineValues}
use Rattle.ae_patterns.specs.Patterns.{AreEntriesOf}
use Rattle.ae_pmap.specs.Forest.{present}
use Rattle.ae_settled.specs.Valued.{AreValues}
use Rattle.ae_state.specs.Names.{all_terms, terms_now}
use Rattle.ae_state.specs.Right.{of_value}
use Rattle.ae_state.specs.Stepping.{IsInStep}
use Rattle.ae_state.specs.declared.holding.Holding.{Holding}
use Rattle.ae_state.proofs.Explained.{steps_in_store}
use Rattle.ae_state.proofs.Growing.{keeps_long}
use Rattle.ae_store.specs.Stores.{Stored}
use Rattle.ae_theory.specs.Names.{terms_in}
use Rattle.ae_turns.specs.Representing.{IsTaken}
use Rattle.ae_turns.proofs.Representatives.{valued}
use Rattle.ae_value_fitting.specs.Fitting.{system_in, ArePatterns, AreSaid}
use Rattle.ae_value_table.specs.Table.{held, values}
use Rattle.ae_value_turns.specs.Renewed.{AreGrounded}

module _ (o : Holding) (s : Stored) (t : IsTaken o s) where
  abbrev ts : List Term
  ts = terms_in s

  -- the signature and the names
  pub same : ◌≡◌ {A = Signature × List Term} (o.signature, terms_now o) (s.signature, ts)
  same = λ i. (sym t.fits.terms.signature i, t.all i)

  kept_long : length (all_terms o) ≤ length ts
  kept_long = keeps_long (all_terms o) ts t.fits.terms.keeps

  long : length (all_terms o) ≤ o.values.taken
  long = omega (arith, kept_long, ap length t.all, length-take o.values.taken (all_terms o), min-le_left o.values.taken (length (all_terms o)))

  pub all_are : all_terms o ≡ ts
  all_are = sym (take_all o.values.taken (all_terms o) long) ∙ t.all

  -- all entries are held
  within : o.values.taken ≤ length o.values.entries
  within = t.fits.right.within

  entries_within : length o.values.entries ≤ length (all_terms o)
  entries_within = t.fits.right.entries.within

  pub each_held : held o.values ≡ o.values.entries
  each_held = take_all o.values.taken o.values.entries (omega (arith, entries_within, long))

  pub one_each : length o.values.entries ≡ length ts
  one_each = omega (arith, within, entries_within, long, ap length all_are)

  pub taken_is : o.values.taken ≡ length ts
  taken_is = omega (arith, within, entries_within, long, ap length all_are)

  -- what is held, over the store's terms
  pub patterns_are : ArePatterns s.signature ts (held o.values)
  patterns_are =
      subst (ArePatterns s.signature ts) (sym each_held)
      (patterns_fit s.signature ts ((t.store).sound).one_name o.values.entries
      (subst (λ (z : Signature × List Term). AreEntriesOf z.0 z.1 o.values.entries) (λ i. (sym t.fits.terms.signature i, all_are i)) t.fits.right.entries) one_each)

  pub values_are : AreValues s.signature (system_in ts o.values)
  values_are = valued o s t

  pub steps_are : Fits s.signature ts o.justs
  steps_are = steps_in_store o s t.fits

  pub said_are : AreSaid s.signature ts o.justs o.values
  said_are = subst (λ (z : Signature × List Term). AreSaid z.0 z.1 o.justs o.values) same t.fits.right.said

  pub closed_are : AreClosed s.signature ts
  closed_are = subst (λ (z : Signature × List Term). AreClosed z.0 z.1) same t.fits.right.closed

  pub lines_are : (js : List Line) → IsInStep o js → AreLineValues s.signature ts (values o.values) js
  lines_are js step = subst (λ (z : Signature × List Term). AreLineValues z.0 z.1 (values o.values) js) same step.valued

  -- what steps rest on, over the store's terms
  pub over_store : (steps : List Step) (id : ℕ) → RestsOnAssumed (all_terms o) steps (present o.assumed) id → RestsOnAssumed ts steps (present o.assumed) id
  over_store steps id = subst (λ (us : List Term). RestsOnAssumed us steps (present o.assumed) id) all_are

  pub over_held : (steps : List Step) (id : ℕ) → RestsOnAssumed ts steps (present o.assumed) id → RestsOnAssumed (all_terms o) steps (present o.assumed) id
  over_held steps id = subst (λ (us : List Term). RestsOnAssumed us steps (present o.assumed) id) (sym all_are)

  pub grounded_are : AreGrounded ts (present o.assumed) o.justs o.values
  grounded_are id v = over_store o.justs id (t.fits.right.grounded id (of_value v))
