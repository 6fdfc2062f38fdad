-- Two numbers that a step equates: the line that solves their difference, and the widths that are licensed.
use Rattle.std.specs.Prelude.{ℕ, ◌<◌, Bool, List, [], ◌∷◌, ◌≡◌, length, None}
use Rattle.std.specs.List.{AllByRecursion}
use Rattle.std.proofs.Common.{refl, sym, ◌∙◌, subst, arith}
use Rattle.std.proofs.lemmas.List.{length-map}
use Rattle.ae_base.proofs.Tests.{false_true}
use native.Mathlib.Decide.{ℕ_discrete}
use Rattle.ae_math.specs.Fractions.{zero_ℚ}
use Rattle.ae_math.specs.Forms.{number as number_form, minus, single, scale}
use Rattle.ae_math.proofs.FormLaws.{same_sym, same_trans}
use Rattle.ae_core.specs.declared.terms.Term.{Term}
use Rattle.ae_core.specs.declared.problems.Signature.{Signature}
use Rattle.ae_num.specs.Forms.{meaning, SameMeaning}
use Rattle.ae_num.specs.declared.forms.Lin.{Lin}
use Rattle.ae_num.specs.declared.forms.Value.{Number}
use Rattle.ae_linear.specs.Solving.{IsOff, SolvesFor}
use Rattle.ae_first_values.proofs.Keys.{keys_of_difference}
use Rattle.ae_journal.specs.Journals.{live}
use Rattle.ae_journal.specs.Licences.{IsLicensed}
use Rattle.ae_journal.specs.SolverLines.{MayOrientName}
use Rattle.ae_journal.specs.Standing.{Setting}
use Rattle.ae_journal.specs.declared.answers.NumStep.TheVariants as step
use Rattle.ae_journal.specs.declared.answers.WideAt.{WideAt}
use Rattle.ae_journal.specs.declared.lines.Line.{Line}
use Rattle.ae_journal.specs.declared.systems.System.{System}
use Rattle.ae_just.specs.Steps.{Fits}
use Rattle.ae_just.specs.declared.steps.Step.{Step}
use Rattle.ae_pmap.specs.Forest.{present}
use Rattle.ae_settled.specs.Valued.{AreValues, IsOwnNumber}
use Rattle.ae_settled.proofs.Nodes.{named_at}
use Rattle.ae_state_steps.specs.ValueSteps.{sort_for, IsNumberName, IsWritten, name_side, value_side}
use Rattle.ae_store.specs.Growing.{IsFront}
use Rattle.ae_store.specs.Shapes.{shapes, shape_of}
use Rattle.ae_store.specs.Stores.{Stored}
use Rattle.ae_store.specs.Terms.{named}
use Rattle.ae_store.proofs.PartLaws.{is_one}
use Rattle.ae_store.proofs.TermLaws.{length_terms}
use Rattle.ae_theory.specs.Names.{IsNamedBy, terms_in}
use Rattle.ae_theory.specs.Noting.{MayAll, literals}
use Rattle.ae_name_licences.specs.Joining.{IsInStepWith, MayJoin}
use Rattle.ae_name_licences.specs.Laws.{StoresAreInStep, SolvedNumbersAreLegal, DifferencesAreLicensed, ScalingsAreLicensed}
use Rattle.ae_value_steps.specs.Stating.{AddsStep}
use Rattle.ae_value_steps.proofs.Added.{states_value}
use Rattle.ae_value_table.specs.Table.{number_at, held}
use Rattle.ae_value_fitting.specs.Fitting.{system_in, ArePatterns}
use Rattle.ae_value_fitting.proofs.Resting.{rests_on_named}
use Rattle.ae_conflicts.specs.Conflicting.{IsConflict, IsConstant}
use Rattle.ae_conflicts.specs.Saying.{RestsOnAssumed}
use Rattle.ae_conflicts.specs.declared.conflicts.Conflict.TheVariants as conflict
use Rattle.ae_state.specs.Names.{all_terms, assumed_in}
use Rattle.ae_state.specs.Stepping.{IsInStep}
use Rattle.ae_state.specs.declared.holding.Holding.{Holding}
use Rattle.ae_turns.specs.Budget.{IsUnsolved, a_leaf, own_number}
use Rattle.ae_turns.specs.Ending.{MayBeWide}
use Rattle.ae_value_turns.specs.Renewed.{renewed}
use Rattle.ae_value_turns.proofs.TakenNames.{all_are, patterns_are, values_are, steps_are, closed_are, lines_are}
use Rattle.ae_value_turns.proofs.RenewedValues.{more_steps, taken_after}
use Rattle.ae_value_turns.proofs.GroundedSteps.{these_ground}
use Rattle.ae_value_turns.proofs.Consequences.{may_follow}
use Rattle.ae_number_solving.specs.Inner.Equated.{AreEquated, IsDifference}
use Rattle.ae_number_solving.specs.Inner.Solving.{MayBePut}
use Rattle.ae_number_solving.specs.Inner.Widths.{IsDifferenceWide, IsScalingWide}
use Rattle.ae_number_solving.proofs.AlikeNumbers.{alike_where_zero}
use Rattle.ae_number_solving.proofs.Constants.{constant_conflict}
use Rattle.ae_number_solving.proofs.OwnNumbers.{shown, over_own, own_name, its_names, other_names}

module _ (s : Stored) (o : Holding) (real : Bool) (left right equal : ℕ) (e : AreEquated s o real left right equal) where
  abbrev ts : List Term
  ts = terms_in s

  abbrev y : System
  y = system_in ts o.values

  abbrev f : Lin
  f = number_at o.values left

  abbrev g : Lin
  g = number_at o.values right

  abbrev IsOwn : ℕ → Type 0
  IsOwn = IsOwnNumber s.signature y (sort_for real)

  many : length ts ≡ length s.nodes
  many = length_terms (shapes s.nodes) ∙ length-map s.nodes shape_of

  left_in : left < length ts
  left_in = omega (arith, e.left_within, many)

  right_in : right < length ts
  right_in = omega (arith, e.right_within, many)

  patterns : ArePatterns s.signature ts (held o.values)
  patterns = patterns_are o s e.taken

  valued : AreValues s.signature y
  valued = values_are o s e.taken

  rests_in : RestsOnAssumed ts o.justs (present o.assumed) equal
  rests_in = subst (λ (us : List Term). RestsOnAssumed us o.justs (present o.assumed) equal) (all_are o s e.taken) e.rests

  -- ---- with a journal
  module _ (law : StoresAreInStep) (x : Setting) (js : List Line) (named_by : IsNamedBy x s js) where
    with_step : IsInStep o (live js) → IsInStepWith x js y
    with_step h = law x js s y named_by refl (closed_are o s e.taken) valued (lines_are o s e.taken (live js) h)

    join : MayAll x (literals (assumed_in o)) js → MayJoin x js y (Number f) (Number g)
    join may = record {
      first = left;
      second = right;
      left = named ts left;
      right = named ts right;
      first_is = named_at ts left left_in;
      second_is = named_at ts right right_in;
      first_value = shown s.signature ts o.values patterns valued real left left_in (e.left_written).name;
      second_value = shown s.signature ts o.values patterns valued real right right_in (e.right_written).name;
      follows = may_follow o s o.justs (steps_are o s e.taken) x js named_by may equal left right e.states rests_in;
    }

  pub difference_licensed : StoresAreInStep → DifferencesAreLicensed → (js : List Line) (w : WideAt) → IsInStep o (live js) → IsDifferenceWide f g w → MayBeWide s o js js w
  difference_licensed law licence js w h d x named_by may =
      let same : w ≡ record { step = step.Plus; left = f; key = None; right = w.right; wide = w.wide } = λ i. record { step = d.step_is i; left = d.left_is i; key = d.key_is i; right = w.right; wide = w.wide } in
      subst (IsLicensed x js) (sym same)
      (licence x js y f g w.right w.wide (with_step law x js named_by h) (join law x js named_by may) (e.left_written).normal (e.right_written).normal d.right_is d.wide_is)

  -- ---- the difference
  module _ (form : Lin) (zero : ℕ) (d : IsDifference s o real left right form zero) where
    pub scaling_licensed : StoresAreInStep → ScalingsAreLicensed → (js : List Line) (w : WideAt) → IsInStep o (live js) → IsScalingWide form w → MayBeWide s o js js w
    scaling_licensed law licence js w h q x named_by may =
        let same : w ≡ record { step = step.Scale; left = w.left; key = None; right = w.right; wide = w.wide } = λ i. record { step = q.step_is i; left = w.left; key = q.key_is i; right = w.right; wide = w.wide } in
        subst (IsLicensed x js) (sym same)
        (licence x js y f g form w.right w.left w.wide (with_step law x js named_by h) (join law x js named_by may) (d.over).normal d.means q.scaling q.number q.wide_is)

    own_parts : AllByRecursion (λ p. IsOwn p.key) form.parts
    own_parts =
        keys_of_difference IsOwn f g form (d.over).normal d.means (over_own s.signature ts o.values patterns valued real left left_in (e.left_written).name)
        (over_own s.signature ts o.values patterns valued real right right_in (e.right_written).name)

    -- the numbers differ
    pub not_zero : SameMeaning (meaning form) (number_form zero_ℚ) → ⊥
    not_zero h =
        let both : SameMeaning (minus (meaning f) (meaning g)) (number_form zero_ℚ) =
        same_trans ℕ_discrete (minus (meaning f) (meaning g)) (meaning form) (number_form zero_ℚ) (same_sym ℕ_discrete (meaning form) (minus (meaning f) (meaning g)) d.means) h in
        false_true
        (sym e.apart
        ∙ alike_where_zero s.signature ts o.values patterns valued real left right left_in right_in (e.left_written).name (e.right_written).name (e.left_written).normal (e.right_written).normal both)

    -- a difference without names is a conflict
    pub constant_is_conflict : IsOff (meaning form) → IsConflict o.signature (all_terms o) o.justs (present o.assumed) (conflict.Constant zero)
    constant_is_conflict off =
        subst (λ (z : Signature × List Term). IsConstant z.0 z.1 o.justs (present o.assumed) zero) (λ i. (((e.taken).fits).terms.signature i, sym (all_are o s e.taken) i))
        (constant_conflict s.signature ts real form d.over off o.justs zero (present o.assumed) d.states
        (subst (λ (us : List Term). RestsOnAssumed us o.justs (present o.assumed) zero) (all_are o s e.taken) d.rests))

    -- ---- its solution
    module _ (name : ℕ) (number : Lin) (solves : SolvesFor (meaning form) name number) where
      solves_difference : SolvesFor (minus (meaning f) (meaning g)) name number
      solves_difference = record {
        times = solves.times;
        nonzero = solves.nonzero;
        normal = solves.normal;
        smaller = solves.smaller;
        equation =
            same_trans ℕ_discrete (minus (meaning f) (meaning g)) (meaning form) (scale solves.times (minus (single name) (meaning number)))
            (same_sym ℕ_discrete (meaning form) (minus (meaning f) (meaning g)) d.means) solves.equation;
      }

      pub solution_legal : StoresAreInStep → SolvedNumbersAreLegal → (js : List Line) → IsInStep o (live js) → (x : Setting) → IsNamedBy x s js → MayAll x (literals (assumed_in o)) js → MayOrientName x js name (Number number)
      solution_legal law legal js h x named_by may = legal x js y f g name number (with_step law x js named_by h) (join law x js named_by may) solves_difference

      -- the name is left to solve
      pub solution_unsolved : IsUnsolved s o.values name
      solution_unsolved = a_leaf (own_number (sort_for real) (own_name form number name solves IsOwn own_parts))

      pub solution_written : IsWritten s.signature ts real name number
      solution_written = record {
        name = own_name form number name solves (IsNumberName s.signature ts real) (d.over).parts;
        parts = its_names form number name solves (IsNumberName s.signature ts real) (d.over).parts;
        normal = solves.normal;
      }

      -- where a step states it
      module _ (steps : List Step) (just : ℕ) (front : IsFront o.justs steps) (fits : Fits s.signature ts steps) (added : AddsStep o.justs steps just (name_side real name number) (value_side real number) (zero ∷ [])) where
        pub solution_may_be_put : MayBePut s (renewed o o.values steps) real name number just
        solution_may_be_put = record {
          taken = taken_after o s e.taken o.values steps (more_steps o s e.taken steps front fits);
          own = own_name form number name solves IsOwn own_parts;
          normal = solves.normal;
          over = its_names form number name solves IsOwn own_parts;
          other = other_names form number name solves;
          states = states_value o.justs steps just real name number (zero ∷ []) added;
          rests =
              these_ground (all_terms o) (present o.assumed) o.justs steps (zero ∷ []) just (λ p m. subst (RestsOnAssumed (all_terms o) o.justs (present o.assumed)) (sym (is_one p zero m)) d.rests)
              (rests_on_named s.signature ts o.justs steps just (name_side real name number) (value_side real number) (zero ∷ []) added fits);
        }
