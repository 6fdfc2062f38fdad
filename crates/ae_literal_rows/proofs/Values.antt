-- The values of names of numbers, and the difference of two.
use Rattle.std.specs.Prelude.{ℕ, ◌<◌, ◌≡◌, Bool, true, false, not, List, length, slice_get, Some}
use Rattle.std.specs.List.{AllByRecursion}
use Rattle.std.proofs.Common.{arith, refl, sym, ap, ◌∙◌, subst}
use Rattle.std.proofs.lemmas.Option.{same_Some}
use Rattle.ae_base.proofs.AllOf.{all_weaker}
use Rattle.ae_base.proofs.ListFacts.{get_append}
use Rattle.ae_base.proofs.Options.{bind_some}
use Rattle.ae_base.proofs.Tests.{true_false}
use Rattle.ae_math.specs.Forms.{single, minus}
use Rattle.ae_core.specs.Sorts.{sort_of}
use Rattle.ae_core.specs.declared.terms.Sort.{Sort, Int}
use Rattle.ae_core.specs.declared.terms.Term.{Term}
use Rattle.ae_core.specs.declared.formulas.Lit.{Lit}
use Rattle.ae_core.specs.declared.problems.Signature.{Signature}
use Rattle.ae_rules.specs.Linear.{form}
use Rattle.ae_num.specs.declared.forms.Part.{Part}
use Rattle.ae_num.specs.declared.forms.Lin.{Lin}
use Rattle.ae_num.specs.declared.forms.Value.{Value}
use Rattle.ae_num.specs.declared.forms.Value as value
use Rattle.ae_num.specs.Forms.{meaning, SameMeaning, IsNormal}
use Rattle.ae_first_values.proofs.Keys.{keys_of_difference}
use Rattle.ae_journal.specs.Values.{Val, sum_of_lin, sum_in, minus_val, meaning as val_meaning}
use Rattle.ae_journal.specs.Journals.{live}
use Rattle.ae_journal.specs.Standing.{Setting, value_now}
use Rattle.ae_journal.specs.Systems.{ValueOf}
use Rattle.ae_journal.specs.declared.lines.Line.{Line}
use Rattle.ae_settled.specs.Valued.{AreValues, IsOwnNumber}
use Rattle.ae_settled.proofs.Nodes.{named_at}
use Rattle.ae_store.specs.Stores.{Stored}
use Rattle.ae_store.specs.Terms.{named}
use Rattle.ae_store.proofs.StoreLaws.{name_term}
use Rattle.ae_theory.specs.Names.{terms_in}
use Rattle.ae_state_steps.specs.ValueSteps.{sort_for, IsNumberName, IsWritten}
use Rattle.ae_entering.specs.Laws.{EntriesFit}
use Rattle.ae_name_lines.specs.Closed.{AreClosed}
use Rattle.ae_name_lines.specs.InStep.{AreLineValues}
use Rattle.ae_name_lines.proofs.Spelled.{val_of, same_val, difference_val}
use Rattle.ae_name_licences.specs.Joining.{IsInStepWith}
use Rattle.ae_name_licences.proofs.Now.{value_is, number_is, stores_are_in_step}
use Rattle.ae_value_table.specs.Table.{number_at, held, values}
use Rattle.ae_value_table.proofs.ValueLaws.{same_numbers}
use Rattle.ae_value_fitting.specs.Fitting.{system_in, ArePatterns}
use Rattle.ae_value_fitting.proofs.Written.{numeric_sort, number_held, written, one_sort}
use Rattle.ae_state.specs.declared.holding.Holding.{Holding}
use Rattle.ae_state.specs.Names.{system_now}
use Rattle.ae_turns.specs.Representing.{IsTaken}
use Rattle.ae_representatives.proofs.Taken.{as_many, seen_now, patterns}
use Rattle.ae_bound_blocks.proofs.Sorting.{name_within}
use Rattle.ae_given_rows.specs.Sides.{IsBetween}
use Rattle.ae_agreed_rows.specs.Kept.{IsOfRow, IsFormOf}
use Rattle.ae_opaque_numbers.specs.Opaque.{AreOpaqueNumbers}
use Rattle.ae_literal_rows.specs.Beside.{IsBeside}

module _ (o : Holding) (s : Stored) (t : IsTaken o s) where
  pub are : AreValues s.signature (system_in (terms_in s) o.values)
  are = subst (λ (z : Signature × List Term). AreValues z.0 (system_in z.1 o.values)) (seen_now o s t) ((t.fits).right).valued

  pub closed : AreClosed s.signature (terms_in s)
  closed = subst (λ (z : Signature × List Term). AreClosed z.0 z.1) (seen_now o s t) ((t.fits).right).closed

  -- ---- beside a journal
  module _ (x : Setting) (js : List Line) (b : IsBeside x js s o) where
    pub in_step : IsInStepWith x js (system_in (terms_in s) o.values)
    in_step =
        stores_are_in_step x js s (system_in (terms_in s) o.values) b.named refl closed are
        (subst (λ (z : Signature × List Term). AreLineValues z.0 z.1 (values o.values) (live js)) (seen_now o s t) (b.step).valued)

    -- the values of the system
    pub system_value : (u : Term) (v : Val) → ValueOf (system_now o) u v → value_now x js u ≡ v
    system_value u v h =
        let w = bind_some (slice_get (values o.values) h.0) (λ (z : Value). Some (val_meaning z)) v h.2 in
        value_is x js (system_in (terms_in s) o.values) in_step h.0 u w.0 (ap (λ (us : List Term). slice_get us h.0) (sym t.all) ∙ h.1) w.1 ∙ same_Some (val_meaning w.0) v w.2

  module _ (law : EntriesFit) where
    have_patterns : ArePatterns s.signature (terms_in s) (held o.values)
    have_patterns = patterns o s t law

    -- ---- a name of a number
    module _ (real : Bool) (n : ℕ) (name : IsNumberName s.signature (terms_in s) real n) where
      pub within : n < length (terms_in s)
      within = name_within s.signature (terms_in s) real n name

      pub taken_within : n < o.values.taken
      taken_within = let w = within in let m = as_many o s t in omega (arith, w, m)

      pub name_at : slice_get (terms_in s) n ≡ Some (named (terms_in s) n)
      name_at = named_at (terms_in s) n within

      pub shown : slice_get (values o.values) n ≡ Some (value.Number (number_at o.values n))
      shown = number_held s.signature (terms_in s) o.values have_patterns are real n (named (terms_in s) n) name_at name

      pub written_is : IsWritten s.signature (terms_in s) real n (number_at o.values n)
      written_is = written s.signature (terms_in s) o.values have_patterns are real n within name

      over : AllByRecursion (λ p. IsOwnNumber s.signature (system_in (terms_in s) o.values) (sort_for real) p.key) (number_at o.values n).parts
      over =
          let w = are.numbers n (named (terms_in s) n) (sort_for real) (value.Number (number_at o.values n)) name_at name shown (numeric_sort real) in
          subst (λ (f : Lin). AllByRecursion (λ p. IsOwnNumber s.signature (system_in (terms_in s) o.values) (sort_for real) p.key) f.parts) (sym (same_numbers (number_at o.values n) w.form w.is)) w.over

      pub number_now : (x : Setting) (js : List Line) → IsBeside x js s o → value_now x js (named (terms_in s) n) ≡ val_of (meaning (number_at o.values n))
      number_now x js b = number_is x js (system_in (terms_in s) o.values) (in_step x js b) n (named (terms_in s) n) (number_at o.values n) name_at shown

    -- ---- the difference of two
    module _ (real : Bool) (upper lower : ℕ) (up : IsNumberName s.signature (terms_in s) real upper) (low : IsNumberName s.signature (terms_in s) real lower) (f : Lin) (normal : IsNormal f)
        (same : SameMeaning (meaning f) (minus (meaning (number_at o.values upper)) (meaning (number_at o.values lower)))) where
      sum_now : (x : Setting) (js : List Line) → IsBeside x js s o → sum_of_lin f ≡ sum_in (minus_val (value_now x js (named (terms_in s) upper)) (value_now x js (named (terms_in s) lower)))
      sum_now x js b =
          ap sum_in (same_val (meaning f) (minus (meaning (number_at o.values upper)) (meaning (number_at o.values lower))) same ∙ sym (difference_val (meaning (number_at o.values upper)) (meaning (number_at o.values lower))))
          ∙ (λ i. sum_in (minus_val (sym (number_now real upper up x js b) i) (sym (number_now real lower low x js b) i)))

      numbers : AllByRecursion (λ p. IsNumberName s.signature (terms_in s) real p.key) f.parts
      numbers =
          keys_of_difference (IsNumberName s.signature (terms_in s) real) (number_at o.values upper) (number_at o.values lower) f normal same (written_is real upper up).parts (written_is real lower low).parts

      -- a name of the sort is over integers where the sort is `int`
      of_row : (x : Setting) (js : List Line) → IsBeside x js s o → (integral : Bool) → integral ≡ not real → (k : ℕ) → IsNumberName s.signature (terms_in s) real k → IsOfRow x integral k
      of_row x js b integral e k h =
          let sort : sort_of x.problem.signature (named (terms_in s) k) ≡ Some (sort_for real) = ap (λ (g : Signature). sort_of g (named (terms_in s) k)) (b.named).signature ∙ h in
          record {
            term = named (terms_in s) k;
            at = ap (λ (us : List Term). slice_get us k) (b.named).names ∙ get_append (terms_in s) (b.named).more k (named (terms_in s) k) (name_at real k h);
            whole = λ i. sort ∙ ap (λ (z : Bool). Some (sort_for z)) (is_int real (sym e ∙ i));
            is_integral = λ i. e ∙ ap not (one_sort real false (same_Some (sort_for real) Int (sym sort ∙ i)));
          }
        where
          is_int : (z : Bool) → not z ≡ true → z ≡ false
          is_int true q = true_false (sym q)
          is_int false q = refl

      pub form_is : (x : Setting) (js : List Line) → IsBeside x js s o → (l : Lit) (strict integral : Bool) → integral ≡ not real → IsBetween (terms_in s) l strict upper lower → IsFormOf x js l f strict integral
      unfolding of_row
      form_is x js b l strict integral e w =
          let first : named (terms_in s) upper ≡ w.above = name_term (terms_in s) upper w.above w.upper_is in
          let second : named (terms_in s) lower ≡ w.below = name_term (terms_in s) lower w.below w.lower_is in
          let u = of_row x js b integral e upper up in
          record {
            upper = w.above;
            lower = w.below;
            is = w.is;
            normal = normal;
            sum = sum_now x js b ∙ (λ i. sum_in (minus_val (value_now x js (first i)) (value_now x js (second i))));
            whole = λ i. ap (sort_of x.problem.signature) (sym first) ∙ u.whole i;
            is_integral = λ i. u.is_integral (ap (sort_of x.problem.signature) first ∙ i);
            names = all_weaker (λ (p : Part). IsNumberName s.signature (terms_in s) real p.key) (λ (p : Part). IsOfRow x integral p.key) (λ p h. of_row x js b integral e p.key h) f.parts numbers;
          }

      -- its names are opaque
      own_now : (sort : Sort) (k : ℕ) → IsOwnNumber s.signature (system_in (terms_in s) o.values) sort k → IsOwnNumber s.signature (system_now o) sort k
      own_now sort k w = record { term = w.term; is = ap (λ (us : List Term). slice_get us k) t.all ∙ w.is; sort = w.sort; value = w.value; value_is = w.value_is; own = w.own }

      pub opaque_parts : AreOpaqueNumbers s.signature (system_now o) → AllByRecursion (λ p. form (named (terms_in s) p.key) ≡ single (named (terms_in s) p.key)) f.parts
      unfolding own_now
      opaque_parts opaque =
          all_weaker (λ (p : Part). IsOwnNumber s.signature (system_in (terms_in s) o.values) (sort_for real) p.key) (λ (p : Part). form (named (terms_in s) p.key) ≡ single (named (terms_in s) p.key))
          (λ p w. let q = own_now (sort_for real) p.key w in
          subst (λ (u : Term). form u ≡ single u) (sym (name_term (terms_in s) p.key w.term w.is)) (opaque (sort_for real) p.key w.term q q.is)) f.parts
          (keys_of_difference (IsOwnNumber s.signature (system_in (terms_in s) o.values) (sort_for real)) (number_at o.values upper) (number_at o.values lower) f normal same (over real upper up) (over real lower low))
