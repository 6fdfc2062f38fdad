-- The equation of the value of an integer that isn't whole has no solution: its gap is no number, since a number would be 0.
use Rattle.std.specs.Prelude.{ℕ, ℤ, pos, false, List, [], ◌∷◌, ◌≡◌, ◌≢◌, ◌⊎◌, ◌<◌, length, slice_get, Some}
use Rattle.std.specs.List.{AllByRecursion}
use Rattle.std.proofs.Common.{refl, sym, ap, ◌∙◌, subst, arith, inl, inr}
use Rattle.std.proofs.lemmas.Option.{slice_get_within}
use Rattle.ae_base.specs.Decided.{pick}
use Rattle.ae_base.proofs.ListFacts.{value_at}
use Rattle.ae_math.specs.Fractions.{ℚ, zero_ℚ, one_ℚ, neg_ℚ, ◌+ℚ◌, ◌*ℚ◌, ratio, whole, ℚ_discrete}
use Rattle.ae_math.specs.Forms.{number, scale, value, factor_in}
use Rattle.ae_math.proofs.FractionLaws.{add_zero_q, zero_add_q, mul_zero_q, one_mul_q, add_neg_q}
use Rattle.ae_math.proofs.FormLaws.{minus_one, value-plus, value-scale, value-number, value-same}
use Rattle.ae_math.proofs.Wholes.{zero_whole}
use Rattle.ae_core.specs.Decided.{Term_discrete}
use Rattle.ae_core.specs.Sorts.{sort_of}
use Rattle.ae_core.specs.declared.problems.Signature.{Signature}
use Rattle.ae_core.specs.declared.terms.Sort.{Int}
use Rattle.ae_core.specs.declared.terms.Term.{Term}
use Rattle.ae_rules.specs.Derivations.{IsNumber, HasNoSolution}
use Rattle.ae_rules.specs.Linear.{Linear, form, factor_of}
use Rattle.ae_rules.specs.Lines.{gap}
use Rattle.ae_num.specs.declared.forms.Part.{Part}
use Rattle.ae_num.specs.declared.forms.Lin.{Lin}
use Rattle.ae_num.specs.declared.forms.Value.{Number}
use Rattle.ae_journal.specs.Systems.{IsName}
use Rattle.ae_journal.specs.declared.systems.System.{System}
use Rattle.ae_store.specs.Terms.{named, HasOneName, Keeps}
use Rattle.ae_store.proofs.StoreLaws.{name_term}
use Rattle.ae_just.specs.declared.steps.Step.{Step}
use Rattle.ae_just.specs.declared.steps.Times.{Times}
use Rattle.ae_just.specs.declared.steps.Side.TheVariants as side
use Rattle.ae_just.specs.Sides.{side_term}
use Rattle.ae_just.specs.Values.{combination, value_equation}
use Rattle.ae_just.proofs.ValueLaws.{written_out}
use Rattle.ae_settled.specs.Valued.{AreValues, IsOwnNumber}
use Rattle.ae_state_steps.specs.ValueSteps.{times_of, name_side, value_side, IsNumberName, IsWritten}
use Rattle.ae_state_steps.proofs.OverTerms.{whole_ratio}
use Rattle.ae_state_steps.proofs.SideSorts.{value_sorted, name_sorted}
use Rattle.ae_value_steps.specs.Stating.{IsStated}
use Rattle.ae_value_table.proofs.ValueLaws.{same_numbers}
use Rattle.ae_conflicts.specs.declared.assumed.Assumed.{Assumed}
use Rattle.ae_conflicts.specs.Saying.{RestsOnAssumed}
use Rattle.ae_conflicts.specs.Conflicting.{IsUnsolvable}
use Rattle.ae_whole_values.specs.Wholes.{IsWhole, HaveArguments}
use Rattle.ae_whole_values.specs.Inner.Multiples.{AreIntegers}
use Rattle.ae_whole_values.proofs.CommonDivisors.{not_whole}
use Rattle.ae_whole_values.proofs.NotWhole.{no_solution, other_constant}
use Rattle.ae_whole_values.proofs.Evaluated.{g, constant_is, evaluated, int_numeric}

-- ---- an opaque term occurs in a form, or it is a number
some_factor : (F : Term → ℚ) (ps : List (Term × ℚ)) → ((u : Term) × (F u ≢ zero_ℚ)) ⊎ ((t : Term) → (F t ≡ zero_ℚ) ⊎ (factor_in Term_discrete ps t ≡ zero_ℚ))
some_factor F [] = inr (λ t. inr refl)
some_factor F (p ∷ ps) = by_first (ℚ_discrete (F p.0) zero_ℚ) (some_factor F ps)
  where
    others : F p.0 ≡ zero_ℚ → ((t : Term) → (F t ≡ zero_ℚ) ⊎ (factor_in Term_discrete ps t ≡ zero_ℚ)) → (t : Term) (d : Dec (p.0 ≡ t))
        → (F t ≡ zero_ℚ) ⊎ (pick d (p.1 +ℚ factor_in Term_discrete ps t) (factor_in Term_discrete ps t) ≡ zero_ℚ)
    others e a t (yes f) = inl (ap F (sym f) ∙ e)
    others e a t (no n) = a t

    by_first : Dec (F p.0 ≡ zero_ℚ) → ((u : Term) × (F u ≢ zero_ℚ)) ⊎ ((t : Term) → (F t ≡ zero_ℚ) ⊎ (factor_in Term_discrete ps t ≡ zero_ℚ))
        → ((u : Term) × (F u ≢ zero_ℚ)) ⊎ ((t : Term) → (F t ≡ zero_ℚ) ⊎ (factor_in Term_discrete (p ∷ ps) t ≡ zero_ℚ))
    by_first (no n) r = inl (p.0, n)
    by_first (yes e) (inl w) = inl w
    by_first (yes e) (inr a) = inr (λ t. others e a t (Term_discrete p.0 t))

occurs_or_number : (f : Linear) → ((u : Term) × (factor_of f u ≢ zero_ℚ)) ⊎ IsNumber f
occurs_or_number f = by_factors (some_factor (factor_of f) f.parts)
  where
    both : (t : Term) → (factor_of f t ≡ zero_ℚ) ⊎ (factor_of f t ≡ zero_ℚ) → factor_of f t ≡ zero_ℚ
    both t (inl p) = p
    both t (inr p) = p

    by_factors : ((u : Term) × (factor_of f u ≢ zero_ℚ)) ⊎ ((t : Term) → (factor_of f t ≡ zero_ℚ) ⊎ (factor_of f t ≡ zero_ℚ)) → ((u : Term) × (factor_of f u ≢ zero_ℚ)) ⊎ IsNumber f
    by_factors (inl w) = inl w
    by_factors (inr a) = inr (λ t. both t (a t))

-- ---- the equation of a value
module _ (sig : Signature) (ts : List Term) (y : System) (keeps : Keeps y.names ts) (one : HasOneName y.names) (arguments : HaveArguments y) (values : AreValues sig y) where
  abbrev G : Term → ℚ
  G = g sig y one arguments values

  -- the value of a form where each opaque term counts as the constant of its value
  abbrev at : Linear → ℚ
  at = value G one_ℚ

  named_is : (n : ℕ) (t : Term) → IsName y n t → named ts n ≡ t
  named_is n t e = name_term ts n t (keeps n t e)

  -- numbers that are their own values count as 0
  own_zero : (p : Part) → IsOwnNumber sig y Int p.key → at (form (named ts p.key)) ≡ zero_ℚ
  own_zero p o =
      ap (λ (u : Term). at (form u)) (named_is p.key o.term o.is) ∙ sym (evaluated sig y one arguments values o.term p.key o.is o.sort)
      ∙ constant_is sig y one arguments values p.key o.term o.value o.is o.value_is ∙ (o.own).constants

  sum_constant : (ps : List Part) (c : ℤ) → AllByRecursion (λ p. IsOwnNumber sig y Int p.key) ps → at (combination ts (times_of ps) c) ≡ whole c
  sum_constant [] c a = value-number G one_ℚ (whole c) ∙ one_mul_q (whole c)
  sum_constant (p ∷ ps) c a =
      let F : Linear = form (named ts p.key) in
      value-plus G one_ℚ (scale (whole p.factor) F) (combination ts (times_of ps) c)
      ∙ (λ i. (value-scale G one_ℚ (whole p.factor) F ∙ ap (λ (z : ℚ). whole p.factor *ℚ z) (own_zero p a.0) ∙ mul_zero_q (whole p.factor)) i +ℚ sum_constant ps c a.1 i) ∙ zero_add_q (whole c)

  own_sorted : (ps : List Part) → AllByRecursion (λ p. IsOwnNumber sig y Int p.key) ps → AllByRecursion (λ p. IsNumberName sig ts false p.key) ps
  own_sorted [] a = tt
  own_sorted (p ∷ ps) a = (ap (sort_of sig) (named_is p.key (a.0).term (a.0).is) ∙ (a.0).sort, own_sorted ps a.1)

  times_sorted : (ps : List Part) → AllByRecursion (λ p. IsNumberName sig ts false p.key) ps → AllByRecursion (λ p. sort_of sig (named ts p.name) ≡ Some Int) (times_of ps)
  times_sorted [] a = tt
  times_sorted (p ∷ ps) a = (a.0, times_sorted ps a.1)

  module _ (n : ℕ) (f : Lin) (v : slice_get y.values n ≡ Some (Number f)) (w : IsWritten sig y.names false n f) where
    abbrev times : Times
    times = record { factor = f.den; name = n }

    named_there : (t : Term) × IsName y n t
    named_there = let l : n < length y.values = slice_get_within y.values n (Number f) v in value_at y.names n (omega (arith, l, values.one_each))

    abbrev own : Term
    own = named_there.0

    sorted : sort_of sig own ≡ Some Int
    sorted = ap (sort_of sig) (sym (name_term y.names n own named_there.1)) ∙ w.name

    over : AllByRecursion (λ p. IsOwnNumber sig y Int p.key) f.parts
    over =
        let h = values.numbers n own Int (Number f) named_there.1 sorted v int_numeric in
        subst (λ (l : Lin). AllByRecursion (λ p. IsOwnNumber sig y Int p.key) l.parts) (sym (same_numbers f h.form h.is)) h.over

    sorted_in : sort_of sig (named ts n) ≡ Some Int
    sorted_in = ap (sort_of sig) (named_is n own named_there.1) ∙ sorted

    integers : AreIntegers sig ts n (times_of f.parts)
    integers = record { of_name = sorted_in; of_parts = times_sorted f.parts (own_sorted f.parts over) }

    written_in : IsWritten sig ts false n f
    written_in = record { name = sorted_in; parts = own_sorted f.parts over; normal = w.normal }

    -- both sides have one constant
    right_is : at (combination ts (times_of f.parts) f.constant) ≡ whole f.constant
    right_is = sum_constant f.parts f.constant over

    left_is : at (combination ts (times ∷ []) (pos 0)) ≡ whole f.constant
    left_is =
        let F : Linear = form (named ts n) in
        let here : at F ≡ ratio f.constant f.den =
        ap (λ (u : Term). at (form u)) (named_is n own named_there.1) ∙ sym (evaluated sig y one arguments values own n named_there.1 sorted) ∙ constant_is sig y one arguments values n own f named_there.1 v in
        value-plus G one_ℚ (scale (whole f.den) F) (combination ts [] (pos 0))
        ∙ (λ i. (value-scale G one_ℚ (whole f.den) F ∙ ap (λ (z : ℚ). whole f.den *ℚ z) here ∙ whole_ratio f.constant f.den (w.normal).positive) i
        +ℚ (value-number G one_ℚ (whole (pos 0)) ∙ one_mul_q (whole (pos 0)) ∙ sym zero_whole) i) ∙ add_zero_q (whole f.constant)

    abbrev difference : Linear
    difference = gap (value_equation ts false f.den (times_of f.parts) f.constant times)

    zero_constant : IsNumber difference → difference.constant ≡ zero_ℚ
    zero_constant k =
        let L : Linear = form (side_term ts (side.Sum (times ∷ []) (pos 0) false)) in
        let R : Linear = form (side_term ts (side.Sum (times_of f.parts) f.constant false)) in
        let by_number : at difference ≡ difference.constant =
        value-same Term_discrete G one_ℚ difference (number difference.constant) (record { factors = k; constants = refl }) ∙ value-number G one_ℚ difference.constant ∙ one_mul_q difference.constant in
        let left : at L ≡ whole f.constant = value-same Term_discrete G one_ℚ L (combination ts (times ∷ []) (pos 0)) (written_out ts (times ∷ []) (pos 0) false) ∙ left_is in
        let right : at R ≡ whole f.constant =
        value-same Term_discrete G one_ℚ R (combination ts (times_of f.parts) f.constant) (written_out ts (times_of f.parts) f.constant false) ∙ right_is in
        sym by_number ∙ value-plus G one_ℚ R (scale (neg_ℚ one_ℚ) L)
        ∙ (λ i. right i +ℚ (value-scale G one_ℚ (neg_ℚ one_ℚ) L ∙ ap (λ (z : ℚ). neg_ℚ one_ℚ *ℚ z) left ∙ minus_one (whole f.constant)) i) ∙ add_neg_q (whole f.constant)

    unsolved : (IsWhole f → ⊥) → HasNoSolution difference
    unsolved fraction =
        let d = not_whole f w.normal fraction in
        elim (occurs_or_number difference) as (λ _. HasNoSolution difference) [
          | inl o ↦ no_solution sig ts d.0 f.den f.constant (times_of f.parts) n d.1 integers o.0 o.1
          | inr k ↦ absurd (other_constant sig ts d.0 f.den f.constant (times_of f.parts) n d.1 integers (zero_constant k))
        ]

  pub unsolvable : (steps : List Step) (held : List (ℕ × Assumed)) (n id : ℕ) (f : Lin) → slice_get y.values n ≡ Some (Number f) → (IsWhole f → ⊥) → IsStated sig y.names steps false n f id
      → RestsOnAssumed ts steps held id → IsUnsolvable sig ts steps held id
  unsolvable steps held n id f v fraction s rests =
      record {
        left = side_term ts (name_side false n f);
        right = side_term ts (value_side false f);
        integers = (name_sorted sig ts false n f (written_in n f v s.written), value_sorted sig ts false n f (written_in n f v s.written));
        unsolvable = unsolved n f v s.written fraction;
        says = record { step = record { left = name_side false n f; right = value_side false f; rule = (s.stated).by }; is = (s.stated).there; states = refl; rests = rests };
      }
