-- The widths of the operands of a new name are licensed, where the names before it have the numbers that the lines make of their terms.
use Rattle.std.specs.Prelude.{ℕ, pos, negsuc, ◌<◌, ◌⊎◌, Bool, true, false, List, [], ◌∷◌, ◌≡◌, length, slice_get, Option, Some, None}
use Rattle.std.specs.List.{Contains}
use Rattle.std.proofs.Common.{refl, sym, ap, ◌∙◌, subst, inl, inr}
use Rattle.std.proofs.lemmas.Bool.{cases_lt}
use Rattle.std.proofs.lemmas.List.Elements.{Contains-get_or}
use Rattle.std.proofs.lemmas.Option.{none-some, get_or_from_slice_get, slice_get_within, slice_get_past}
use Rattle.ae_base.specs.Options.{or_else}
use Rattle.ae_math.specs.Fractions.{ℚ}
use Rattle.ae_math.specs.Forms.{number as number_form}
use Rattle.ae_core.specs.Sorts.{sort_of, is_closed_sort, is_numeric}
use Rattle.ae_core.proofs.SortLaws.{sort_in_bound}
use Rattle.ae_core.specs.declared.terms.Sort.{Sort, Int, Real}
use Rattle.ae_core.specs.declared.terms.Term.{Term, Bound, Apply}
use Rattle.ae_core.specs.declared.terms.Head.TheVariants as head
use Rattle.ae_core.specs.declared.terms.Op.{Op}
use Rattle.ae_core.specs.declared.terms.Op.TheVariants as op
use Rattle.ae_core.specs.declared.problems.Signature.{Signature}
use Rattle.ae_rules.specs.Linear.{form}
use Rattle.ae_num.specs.Forms.{meaning as form_of, SameMeaning, IsNormal, plus_steps, scale_steps, multiple_of}
use Rattle.ae_num.specs.declared.forms.Lin.{Lin}
use Rattle.ae_num.proofs.StepLaws.{first_wide-none}
use Rattle.ae_journal.specs.Values.{sum_in, sum_of_lin}
use Rattle.ae_journal.specs.Systems.{IsPredicateName}
use Rattle.ae_journal.specs.Journals.{live}
use Rattle.ae_journal.specs.Licences.{HasName, IsOp, IsLicensed}
use Rattle.ae_journal.specs.Points.{constant_sum}
use Rattle.ae_journal.specs.Standing.{Setting, IsEntered}
use Rattle.ae_journal.specs.TermValues.{value_by}
use Rattle.ae_journal.specs.declared.answers.NumStep.{NumStep}
use Rattle.ae_journal.specs.declared.answers.NumStep.TheVariants as num
use Rattle.ae_journal.specs.declared.answers.WideAt.{WideAt}
use Rattle.ae_journal.specs.declared.lines.Line.{Line}
use Rattle.ae_settled.proofs.Nodes.{named_at}
use Rattle.ae_settled.proofs.Sorts.{predicate_apart}
use Rattle.ae_store.specs.Stores.{Stored, IsStore}
use Rattle.ae_store.specs.Terms.{named}
use Rattle.ae_just.specs.Sides.{joined, numeric}
use Rattle.ae_theory.specs.Names.{IsNamedBy, terms_in}
use Rattle.ae_entering.specs.Firsts.{AreFirst}
use Rattle.ae_entering.proofs.Sorting.{IsOnNumbers, int_operands, real_operands}
use Rattle.ae_strips.proofs.FieldTerms.{argument_below}
use Rattle.ae_take_in.specs.Widths.{IsStepWide, IsOperandWidth, of_sum, of_difference, of_left_factor, of_right_factor, of_quotient}
use Rattle.ae_name_lines.specs.Closed.{AreClosed}
use Rattle.ae_name_lines.proofs.MoreNames.{value_more}
use Rattle.ae_name_lines.proofs.Spelled.{val_of, same_val}
use Rattle.ae_name_lines.proofs.Stores.{stores_are_closed}
use Rattle.ae_name_licences.specs.Joining.{IsNegation}
use Rattle.ae_name_licences.specs.Laws.{IsNow}
use Rattle.ae_name_licences.proofs.Widths.{negations_fit, sums_are_licensed, subtractions_are_licensed, left_factors_are_licensed, right_factors_are_licensed, quotients_are_licensed}
use Rattle.ae_new_widths.proofs.Negations.{negation_means}

-- a name of a sort is there
pub sorted_within : (sig : Signature) (ts : List Term) (s : Sort) (n : ℕ) → sort_of sig (named ts n) ≡ Some s → n < length ts
sorted_within sig ts s n e =
    elim (cases_lt n (length ts)) [
      | inl l ↦ l
      | inr l ↦
          let past : named ts n ≡ Bound 0 = ap (λ (o : Option Term). or_else o (Bound 0)) (slice_get_past ts n l) in
          absurd (none-some s (sym (sort_in_bound sig (is_closed_sort sig) [] 0) ∙ ap (sort_of sig) (sym past) ∙ e))
    ]

is_op : (real : Bool) (o : Op) → IsOp o (numeric real o)
is_op true o = inr refl
is_op false o = inl refl

module _ (x : Setting) (s : Stored) (js : List Line) (by : IsNamedBy x s js) (store : IsStore s.signature s.nodes) (name : ℕ) (here : name < length (terms_in s)) (number : ℕ → Lin) (leaf : ℕ → ℕ)
    (first : AreFirst s.signature (terms_in s) name number leaf)
    (right : (k : ℕ) (t : Term) (r : Sort) → k < name → slice_get (terms_in s) k ≡ Some t → sort_of s.signature t ≡ Some r → is_numeric r ≡ true
    → value_by s.signature (terms_in s) (live js) t ≡ val_of (form_of (number k))) where
  abbrev ts : List Term
  ts = terms_in s

  closed : AreClosed s.signature ts
  closed = stores_are_closed s.signature s.nodes store

  -- ---- the values of names in the journal
  number_now : (k : ℕ) (t : Term) (r : Sort) → k < name → slice_get ts k ≡ Some t → sort_of s.signature t ≡ Some r → is_numeric r ≡ true → IsNow x js t (number k)
  number_now k t r l at o m =
      ap sum_in
      ((λ i. value_by (by.signature i) (by.names i) (live js) t) ∙ value_more s.signature ts by.more (live js) closed t (k, at) ∙ right k t r l at o m)

  entered_at : (k : ℕ) (t : Term) → slice_get ts k ≡ Some t → IsEntered x js t
  entered_at k t at = by.entered t (subst (Contains ts) (get_or_from_slice_get ts k t t at) (Contains-get_or ts k t (slice_get_within ts k t at)))

  -- ---- a name that applies an operation on numbers
  on_numbers : (real : Bool) (o : Op) (us : List Term) → slice_get ts name ≡ Some (Apply (numeric real o) [] us) → ((r : Sort) × (sort_of s.signature (Apply (numeric real o) [] us) ≡ Some r))
      ⊎ IsPredicateName s.signature (Apply (numeric real o) [] us) → (r : Sort) × IsOnNumbers s.signature r [] us
  on_numbers true o us at (inl e) = (e.0, real_operands s.signature o [] us e.0 e.1)
  on_numbers false o us at (inl e) = (e.0, int_operands s.signature o [] us e.0 e.1)
  on_numbers true o us at (inr p) = absurd (predicate_apart s.signature (head.Real o) [] us Real p refl)
  on_numbers false o us at (inr p) = absurd (predicate_apart s.signature (head.Int o) [] us Int p refl)

  -- an operand with its number
  record IsOperand (a : ℕ) : Type 0 where
    now : IsNow x js (named ts a) (number a)
    normal : IsNormal (number a)

  -- the operation is of a name of the journal
  record AreOperands (real : Bool) (o : Op) (a b : ℕ) : Type 0 where
    entered : IsEntered x js (joined (numeric real o) [] (named ts a) (named ts b))
    left : IsOperand a
    right_one : IsOperand b

  operand_by : (real : Bool) (o : Op) (us : List Term) (i a : ℕ) (r : Sort) → slice_get ts name ≡ Some (Apply (numeric real o) [] us) → slice_get us i ≡ Some (named ts a) → is_numeric r ≡ true
      → sort_of s.signature (named ts a) ≡ Some r → IsOperand a
  operand_by real o us i a r at place m sorted =
      let there = named_at ts a (sorted_within s.signature ts r a sorted) in
      let low : a < name = argument_below s.signature s.nodes store name (numeric real o) [] us i (named ts a) a at place there in
      record { now = number_now a (named ts a) r low there sorted m; normal = (first.numbers a r low sorted m).normal }

  operands : (real : Bool) (o : Op) (a b : ℕ) → named ts name ≡ joined (numeric real o) [] (named ts a) (named ts b) → AreOperands real o a b
  operands real o a b is =
      let us = named ts a ∷ named ts b ∷ [] in
      let at : slice_get ts name ≡ Some (Apply (numeric real o) [] us) = named_at ts name here ∙ ap Some is in
      let on = on_numbers real o us at (closed.sorted name (Apply (numeric real o) [] us) at) in
      record {
        entered = entered_at name (Apply (numeric real o) [] us) at;
        left = operand_by real o us 0 a on.0 at refl (on.1).numeric ((on.1).each).0;
        right_one = operand_by real o us 1 b on.0 at refl (on.1).numeric (((on.1).each).1).0;
      }

  has_name : (real : Bool) (o : Op) (a b : ℕ) → AreOperands real o a b → HasName x js o (named ts a) (named ts b)
  has_name real o a b h = (numeric real o, [], is_op real o, h.entered)

  -- ---- widths
  as_said : (z : NumStep) (f h : Lin) (w : WideAt) → IsStepWide z f h w → IsLicensed x js (record { step = z; left = f; key = None; right = h; wide = w.wide }) → IsLicensed x js w
  as_said z f h w i l = subst (IsLicensed x js) (λ k. record { step = sym i.step k; left = sym i.left k; key = sym i.key k; right = sym i.right k; wide = w.wide }) l

  constant_is : (f : Lin) (z : ℚ) → SameMeaning (form_of f) (number_form z) → sum_of_lin f ≡ constant_sum z
  constant_is f z same = ap sum_in (same_val (form_of f) (number_form z) same)

  pub width_licensed : (w : WideAt) → IsOperandWidth ts number name w → IsLicensed x js w
  width_licensed w (of_sum a b real is i) =
      let h = operands real op.Add a b is in
      as_said num.Plus (number a) (number b) w i
      (sums_are_licensed x js (named ts a) (named ts b) (number a) (number b) w.wide (has_name real op.Add a b h) (h.left).now (h.right_one).now (i.normal).0 (i.normal).1 i.wide)
  width_licensed w (of_difference a b real is i) =
      let h = operands real op.Sub a b is in
      let g = number b in
      let n = multiple_of (negsuc 0) (pos 1) g in
      let normal = (h.right_one).normal in
      let negation : IsNegation g n = record { normal = (i.normal).1; form = refl; means = negation_means g normal (i.normal).1 } in
      as_said num.Plus (number a) n w i
      (subtractions_are_licensed x js (named ts a) (named ts b) (number a) g n w.wide (has_name real op.Sub a b h) (h.left).now (h.right_one).now (i.normal).0 normal negation
      (first_wide-none (scale_steps (negsuc 0) (pos 1) g) (plus_steps (number a) n) (negations_fit g normal) ∙ i.wide))
  width_licensed w (of_left_factor a b real is c same i) =
      let h = operands real op.Mul a b is in
      as_said num.Scale (number a) w.right w i
      (left_factors_are_licensed x js (named ts a) (named ts b) (number a) w.right w.wide (has_name real op.Mul a b h) c (constant_is w.right (form (named ts b)).constant same) (h.left).now (i.normal).0 (i.normal).1
      i.wide)
  width_licensed w (of_right_factor a b real is c same i) =
      let h = operands real op.Mul a b is in
      as_said num.Scale (number b) w.right w i
      (right_factors_are_licensed x js (named ts a) (named ts b) (number b) w.right w.wide (has_name real op.Mul a b h) c (constant_is w.right (form (named ts a)).constant same) (h.right_one).now (i.normal).0
      (i.normal).1 i.wide)
  width_licensed w (of_quotient a b top bottom r is numeral z same i) =
      let h = operands true op.Div a b is in
      as_said num.Scale (number a) w.right w i
      (quotients_are_licensed x js [] (named ts a) top bottom r (number a) w.right w.wide (subst (λ (t : Term). IsEntered x js (Apply (head.Real op.Div) [] (named ts a ∷ t ∷ []))) numeral h.entered) z
      (constant_is w.right _ same) (h.left).now (i.normal).0 (i.normal).1 i.wide)
