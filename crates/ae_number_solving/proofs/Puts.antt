-- What holds after a number was put for a name.
use Rattle.std.specs.Prelude.{ℕ, ◌<◌, Bool, List, [], ◌∷◌, ◌++◌, ◌≡◌, length, slice_get, Some}
use Rattle.std.specs.List.{AllByRecursion}
use Rattle.std.proofs.Common.{refl, sym, subst, arith}
use Rattle.std.proofs.lemmas.Option.{slice_get_within}
use Rattle.ae_base.proofs.ListFacts.{value_at}
use Rattle.ae_core.specs.declared.terms.Term.{Term}
use Rattle.ae_num.specs.Forms.{IsNormal}
use Rattle.ae_num.specs.declared.forms.Lin.{Lin}
use Rattle.ae_num.specs.declared.forms.Value.{Number}
use Rattle.ae_evaluation.proofs.Exact.{forms-Number}
use Rattle.ae_journal.specs.Journals.{live}
use Rattle.ae_journal.specs.Licences.{IsLicensed}
use Rattle.ae_journal.specs.Noted.{Noted}
use Rattle.ae_journal.specs.declared.answers.NumStep.TheVariants as step
use Rattle.ae_journal.specs.declared.answers.WideAt.{WideAt}
use Rattle.ae_journal.specs.declared.lines.Line.{Line}
use Rattle.ae_journal.specs.declared.systems.System.{System}
use Rattle.ae_just.specs.Steps.{Fits}
use Rattle.ae_just.specs.declared.steps.Step.{Step}
use Rattle.ae_name_lines.proofs.Putting.{put_numbers_are_in_step}
use Rattle.ae_name_licences.specs.Joining.{IsInStepWith}
use Rattle.ae_name_licences.specs.Laws.{StoresAreInStep, PutsAreLicensed}
use Rattle.ae_pmap.specs.Forest.{present}
use Rattle.ae_settled.specs.Valued.{AreValues}
use Rattle.ae_settled.proofs.Leaves.{normal}
use Rattle.ae_state_steps.specs.ValueSteps.{sort_for}
use Rattle.ae_store.specs.Growing.{IsFront}
use Rattle.ae_store.specs.Stores.{Stored}
use Rattle.ae_store.proofs.PartLaws.{is_one}
use Rattle.ae_theory.specs.Names.{terms_in}
use Rattle.ae_value_changes.specs.Put.{IsNumberPut}
use Rattle.ae_value_table.specs.Table.{Contents, values}
use Rattle.ae_value_table.specs.Versions.{Lasts}
use Rattle.ae_value_fitting.specs.Fitting.{system_in, held_by, AreSaid}
use Rattle.ae_value_fitting.specs.Sources.{AreFromValues}
use Rattle.ae_values.specs.Widths.{IsPutWide}
use Rattle.ae_conflicts.specs.Saying.{RestsOnAssumed}
use Rattle.ae_state.specs.Names.{all_terms}
use Rattle.ae_state.specs.Right.{of_value}
use Rattle.ae_state.specs.Stepping.{IsInStep}
use Rattle.ae_state.specs.declared.holding.Holding.{Holding}
use Rattle.ae_turns.specs.Ending.{MayBeWide}
use Rattle.ae_turns.specs.Leading.{Leads}
use Rattle.ae_turns.specs.Representing.{IsTaken}
use Rattle.ae_turns.proofs.Steps.{noted_none, legal_none}
use Rattle.ae_value_turns.specs.Renewed.{renewed, KeepsEntries, AreRenewed}
use Rattle.ae_value_turns.proofs.TakenNames.{taken_is, values_are, closed_are, lines_are}
use Rattle.ae_value_turns.proofs.RenewedValues.{taken_after, leads_after}
use Rattle.ae_value_turns.proofs.GroundedSteps.{put_ground}
use Rattle.ae_value_turns.proofs.SolveLines.{solve_line, step_after}
use Rattle.ae_number_solving.specs.Inner.Solving.{MayBePut}

module _ (s : Stored) (o : Holding) (real : Bool) (name : ℕ) (number : Lin) (just : ℕ) (m : MayBePut s o real name number just) where
  abbrev ts : List Term
  ts = terms_in s

  t : IsTaken o s
  t = m.taken

  name_taken : name < o.values.taken
  name_taken = omega (arith, slice_get_within ts name (m.own).term (m.own).is, taken_is o s t)

  module _ (c : Contents) (steps : List Step) (front : IsFront o.justs steps) (fits : Fits s.signature ts steps) (entries : KeepsEntries o.values c) (are : AreValues s.signature (system_in ts c)) (said : AreSaid s.signature ts steps c)
      (sources : AreFromValues o.justs steps o.values c (just ∷ [])) (lasts : Lasts o.values c) where
    new : AreRenewed s o c steps
    new = record {
      front = front;
      fits = fits;
      entries = entries;
      valued = are;
      said = said;
      grounded =
          put_ground (all_terms o) (present o.assumed) o.justs steps o.values c (just ∷ []) (λ p i. subst (RestsOnAssumed (all_terms o) o.justs (present o.assumed)) (sym (is_one p just i)) m.rests)
          (λ id v. (t.fits).right.grounded id (of_value v)) sources;
      lasts = lasts;
    }

    pub put_taken : IsTaken (renewed o c steps) s
    put_taken = taken_after o s t c steps new

    pub put_leads : (j : Noted) → Leads s o j (renewed o c steps) j
    put_leads j = leads_after o s t c steps new j j (noted_none j) (λ x bound named may. legal_none x bound j.lines)

    -- the values are in step with the line
    pub put_step : IsNumberPut (held_by s.signature s.nodes o.values) (sort_for real) name number (values c) → (js : List Line) → IsInStep o js → IsInStep (renewed o c steps) (js ++ solve_line name (Number number) ∷ [])
    put_step put js h =
        step_after o s t c steps new js name (Number number) name_taken
        (put_numbers_are_in_step (held_by s.signature s.nodes o.values) (sort_for real) name number (values c) js (closed_are o s t) (values_are o s t) are put (lines_are o s t js h)) h

-- ---- a width of a value in which a number is put
module _ (s : Stored) (o : Holding) (t : IsTaken o s) where
  abbrev y : System
  y = system_in (terms_in s) o.values

  normal_at : (n : ℕ) (f : Lin) → slice_get (values o.values) n ≡ Some (Number f) → IsNormal f
  normal_at n f e = (subst (AllByRecursion IsNormal) (forms-Number f) (normal (held_by s.signature s.nodes o.values) t.store (values_are o s t) n (Number f) e)).0

  pub put_licensed : StoresAreInStep → PutsAreLicensed → (js ks : List Line) (name : ℕ) (number : Lin) (w : WideAt) → IsInStep o (live js) → IsNormal number → ks ≡ js ++ solve_line name (Number number) ∷ []
      → IsPutWide o.values name number w → MayBeWide s o js ks w
  put_licensed law licence js ks name number w h n lines q x named_by may =
      let with_step : IsInStepWith x js y = law x js s y named_by refl (closed_are o s t) (values_are o s t) (lines_are o s t (live js) h) in
      let inside : q.of < length (values o.values) = slice_get_within (values o.values) q.of (Number w.left) q.left in
      let term = value_at (terms_in s) q.of (omega (arith, inside, (values_are o s t).one_each)) in
      let same : w ≡ record { step = step.Subst; left = w.left; key = Some name; right = number; wide = w.wide } = λ i. record { step = q.step i; left = w.left; key = q.key i; right = q.right i; wide = w.wide } in
      subst (λ (z : List Line × WideAt). IsLicensed x z.0 z.1) (λ i. (sym lines i, sym same i))
      (licence x js y q.of name term.0 w.left number w.wide with_step term.1 q.left (normal_at q.of w.left q.left) n q.wide)
