-- A difference and its solution are over names that are their own numbers.
use Rattle.std.specs.Prelude.{ℕ, ◌<◌, ◌≤◌, ◌≢◌, ◌≡◌, Bool, List, length, slice_get, Some}
use Rattle.std.specs.List.{AllByRecursion}
use Rattle.std.proofs.Common.{refl, sym, ap, ◌∙◌, subst, arith}
use native.Mathlib.Decide.{ℕ_discrete}
use Rattle.ae_base.proofs.Decided.{pick_yes, pick_no}
use Rattle.ae_math.specs.Fractions.{ℚ, zero_ℚ, one_ℚ, neg_ℚ, ◌+ℚ◌, ◌*ℚ◌}
use Rattle.ae_math.specs.Forms.{factor, minus}
use Rattle.ae_math.proofs.FractionLaws.{zero_add_q, add_zero_q, mul_zero_q, one_mul_q', neg_neg_q, neg_zero_q, cancel_q}
use Rattle.ae_math.proofs.FormLaws.{minus_one, key_factor}
use Rattle.ae_core.specs.declared.terms.Term.{Term}
use Rattle.ae_core.specs.declared.problems.Signature.{Signature}
use Rattle.ae_num.specs.Forms.{meaning, SameMeaning, IsNormal}
use Rattle.ae_num.specs.declared.forms.Lin.{Lin}
use Rattle.ae_num.specs.declared.forms.Value as value
use Rattle.ae_linear.specs.Solving.{SolvesFor}
use Rattle.ae_first_values.proofs.Keys.{keyed, keys, keys_of_difference}
use Rattle.ae_store.specs.Terms.{named}
use Rattle.ae_settled.specs.Valued.{AreValues, IsOwnNumber}
use Rattle.ae_settled.proofs.Nodes.{named_at}
use Rattle.ae_state_steps.specs.ValueSteps.{sort_for, IsNumberName, IsWritten, IsFormOver}
use Rattle.ae_value_table.specs.Table.{Contents, number_at, held, values}
use Rattle.ae_value_table.proofs.ValueLaws.{same_numbers}
use Rattle.ae_value_fitting.specs.Fitting.{system_in, ArePatterns}
use Rattle.ae_value_fitting.proofs.Written.{numeric_sort, number_held}

-- ---- the numbers of names
module _ (sig : Signature) (ts : List Term) (c : Contents) (patterns : ArePatterns sig ts (held c)) (are : AreValues sig (system_in ts c)) (real : Bool) (n : ℕ) (l : n < length ts) (name : IsNumberName sig ts real n) where
  pub shown : slice_get (values c) n ≡ Some (value.Number (number_at c n))
  shown = number_held sig ts c patterns are real n (named ts n) (named_at ts n l) name

  pub over_own : AllByRecursion (λ p. IsOwnNumber sig (system_in ts c) (sort_for real) p.key) (number_at c n).parts
  over_own =
      let o = are.numbers n (named ts n) (sort_for real) (value.Number (number_at c n)) (named_at ts n l) name shown (numeric_sort real) in
      subst (λ (f : Lin). AllByRecursion (λ p. IsOwnNumber sig (system_in ts c) (sort_for real) p.key) f.parts) (sym (same_numbers (number_at c n) o.form o.is)) o.over

-- ---- the difference of two written numbers is over their names
pub form_over : (sig : Signature) (ts : List Term) (real : Bool) (m n : ℕ) (f g d : Lin) → IsWritten sig ts real m f → IsWritten sig ts real n g → IsNormal d → SameMeaning (meaning d) (minus (meaning f) (meaning g))
    → IsFormOver sig ts real d
form_over sig ts real m n f g d a b normal h = record { parts = keys_of_difference (IsNumberName sig ts real) f g d normal h a.parts b.parts; normal = normal }

-- ---- a form that is solved for a name
all_left : (a z : ℚ) → z ≡ zero_ℚ → a *ℚ (one_ℚ +ℚ zero_ℚ +ℚ neg_ℚ one_ℚ *ℚ z) ≡ a
all_left a z e =
    ap (λ (y : ℚ). a *ℚ (one_ℚ +ℚ zero_ℚ +ℚ neg_ℚ one_ℚ *ℚ y)) e ∙ ap (λ (y : ℚ). a *ℚ (one_ℚ +ℚ zero_ℚ +ℚ y)) (mul_zero_q (neg_ℚ one_ℚ))
    ∙ ap (λ (y : ℚ). a *ℚ y) (add_zero_q (one_ℚ +ℚ zero_ℚ) ∙ add_zero_q one_ℚ) ∙ one_mul_q' a

nothing_there : (a z : ℚ) → a ≢ zero_ℚ → a *ℚ (zero_ℚ +ℚ neg_ℚ one_ℚ *ℚ z) ≡ zero_ℚ → z ≡ zero_ℚ
nothing_there a z n e =
    let gone : zero_ℚ +ℚ neg_ℚ one_ℚ *ℚ z ≡ zero_ℚ = cancel_q a (zero_ℚ +ℚ neg_ℚ one_ℚ *ℚ z) zero_ℚ n (e ∙ sym (mul_zero_q a)) in
    let opposite : neg_ℚ z ≡ zero_ℚ = sym (minus_one z) ∙ sym (zero_add_q (neg_ℚ one_ℚ *ℚ z)) ∙ gone in
    sym (neg_neg_q z) ∙ ap neg_ℚ opposite ∙ neg_zero_q

module _ (d q : Lin) (name : ℕ) (s : SolvesFor (meaning d) name q) where
  own_factor : factor ℕ_discrete (meaning d) name ≡ s.times
  own_factor =
      s.equation.factors name ∙ key_factor ℕ_discrete name name s.times (meaning q)
      ∙ ap (λ (y : ℚ). s.times *ℚ (y +ℚ neg_ℚ one_ℚ *ℚ factor ℕ_discrete (meaning q) name)) (pick_yes (ℕ_discrete name name) (one_ℚ +ℚ zero_ℚ) zero_ℚ refl)
      ∙ all_left s.times (factor ℕ_discrete (meaning q) name) (s.smaller name (let l : name ≤ name = omega arith in l))

  -- a name of the solution is one of the form
  factor_there : (k : ℕ) → name ≢ k → factor ℕ_discrete (meaning q) k ≢ zero_ℚ → factor ℕ_discrete (meaning d) k ≢ zero_ℚ
  factor_there k n f e =
      f (nothing_there s.times (factor ℕ_discrete (meaning q) k) s.nonzero
      (ap (λ (y : ℚ). s.times *ℚ (y +ℚ neg_ℚ one_ℚ *ℚ factor ℕ_discrete (meaning q) k)) (sym (pick_no (ℕ_discrete name k) (one_ℚ +ℚ zero_ℚ) zero_ℚ n))
      ∙ sym (s.equation.factors k ∙ key_factor ℕ_discrete name k s.times (meaning q)) ∙ e))

  pub other_names : AllByRecursion (λ p. p.key ≢ name) q.parts
  other_names = keyed (λ k. k ≢ name) q s.normal (λ k f e. f (s.smaller k (omega (arith, e))))

  module _ (P : ℕ → Type 0) (all : AllByRecursion (λ p. P p.key) d.parts) where
    pub own_name : P name
    own_name = keys P d all name (λ e. s.nonzero (sym own_factor ∙ e))

    pub its_names : AllByRecursion (λ p. P p.key) q.parts
    its_names = keyed P q s.normal (λ k f. keys P d all k (factor_there k (λ e. f (s.smaller k (omega (arith, e)))) f))
