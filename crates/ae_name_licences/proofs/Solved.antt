-- A form that is 0 exactly where a name has a value.
use Rattle.std.specs.Prelude.{ℕ, ◌<◌, ◌≤◌, ◌≡◌}
use Rattle.std.proofs.Common.{refl, sym, ap, ◌∙◌, arith}
use native.Mathlib.Decide.{ℕ_discrete}
use Rattle.ae_base.proofs.Decided.{pick_yes, pick_no}
use Rattle.ae_math.specs.Fractions.{ℚ, zero_ℚ, one_ℚ, neg_ℚ, ◌+ℚ◌, ◌*ℚ◌}
use Rattle.ae_math.specs.Forms.{Form, number, factor, substitute}
use Rattle.ae_math.proofs.FractionLaws.{zero_add_q, add_zero_q, mul_add_q, mul_zero_q, one_mul_q', neg_add_self_q}
use Rattle.ae_math.proofs.FormLaws.{minus_one, by_key, key_factor, substitute_gone, substitute_elsewhere}
use Rattle.ae_num.specs.Forms.{meaning, SameMeaning}
use Rattle.ae_num.specs.declared.forms.Lin.{Lin}
use Rattle.ae_linear.specs.Solving.{SolvesFor}

cancelled : (a z : ℚ) → a *ℚ (zero_ℚ +ℚ neg_ℚ one_ℚ *ℚ z) +ℚ a *ℚ z ≡ zero_ℚ
cancelled a z =
    ap (λ (y : ℚ). a *ℚ y +ℚ a *ℚ z) (zero_add_q (neg_ℚ one_ℚ *ℚ z) ∙ minus_one z) ∙ sym (mul_add_q a (neg_ℚ z) z) ∙ ap (λ (y : ℚ). a *ℚ y) (neg_add_self_q z) ∙ mul_zero_q a

nothing_left : (a z : ℚ) → z ≡ zero_ℚ → a *ℚ (zero_ℚ +ℚ neg_ℚ one_ℚ *ℚ z) ≡ zero_ℚ
nothing_left a z e = ap (λ (y : ℚ). a *ℚ (zero_ℚ +ℚ neg_ℚ one_ℚ *ℚ y)) e ∙ ap (λ (y : ℚ). a *ℚ y) (zero_add_q (neg_ℚ one_ℚ *ℚ zero_ℚ) ∙ mul_zero_q (neg_ℚ one_ℚ)) ∙ mul_zero_q a

all_left : (a z : ℚ) → z ≡ zero_ℚ → a *ℚ (one_ℚ +ℚ zero_ℚ +ℚ neg_ℚ one_ℚ *ℚ z) ≡ a
all_left a z e =
    ap (λ (y : ℚ). a *ℚ (one_ℚ +ℚ zero_ℚ +ℚ neg_ℚ one_ℚ *ℚ y)) e
    ∙ ap (λ (y : ℚ). a *ℚ (one_ℚ +ℚ zero_ℚ +ℚ y)) (mul_zero_q (neg_ℚ one_ℚ)) ∙ ap (λ (y : ℚ). a *ℚ y) (add_zero_q (one_ℚ +ℚ zero_ℚ) ∙ add_zero_q one_ℚ) ∙ one_mul_q' a

module _ (d : Form ℕ) (x : ℕ) (q : Lin) (s : SolvesFor d x q) where
  elsewhere : (k : ℕ) → ¬ (x ≡ k) → factor ℕ_discrete d k ≡ s.times *ℚ (zero_ℚ +ℚ neg_ℚ one_ℚ *ℚ factor ℕ_discrete (meaning q) k)
  elsewhere k n =
      s.equation.factors k ∙ key_factor ℕ_discrete x k s.times (meaning q)
      ∙ ap (λ (y : ℚ). s.times *ℚ (y +ℚ neg_ℚ one_ℚ *ℚ factor ℕ_discrete (meaning q) k)) (pick_no (ℕ_discrete x k) (one_ℚ +ℚ zero_ℚ) zero_ℚ n)

  own_gone : factor ℕ_discrete (meaning q) x ≡ zero_ℚ
  own_gone = s.smaller x (let l : x ≤ x = omega arith in l)

  pub own_factor : factor ℕ_discrete d x ≡ s.times
  own_factor =
      s.equation.factors x ∙ key_factor ℕ_discrete x x s.times (meaning q)
      ∙ ap (λ (y : ℚ). s.times *ℚ (y +ℚ neg_ℚ one_ℚ *ℚ factor ℕ_discrete (meaning q) x)) (pick_yes (ℕ_discrete x x) (one_ℚ +ℚ zero_ℚ) zero_ℚ refl)
      ∙ all_left s.times (factor ℕ_discrete (meaning q) x) own_gone

  pub none_above : (k : ℕ) → x < k → factor ℕ_discrete d k ≡ zero_ℚ
  none_above k l = elsewhere k (λ e. omega (arith, e, l)) ∙ nothing_left s.times (factor ℕ_discrete (meaning q) k) (s.smaller k (omega (arith, l)))

  pub none_there : factor ℕ_discrete (meaning q) x ≡ zero_ℚ
  none_there = own_gone

  -- with the value put for the name nothing is left
  pub solved_away : SameMeaning (substitute ℕ_discrete d x (meaning q)) (number zero_ℚ)
  solved_away =
      by_key ℕ_discrete x (substitute ℕ_discrete d x (meaning q)) (number zero_ℚ) (substitute_gone ℕ_discrete d x (meaning q) own_gone)
      (λ t n. substitute_elsewhere ℕ_discrete d x (meaning q) t n ∙ (λ i. elsewhere t n i +ℚ own_factor i *ℚ factor ℕ_discrete (meaning q) t) ∙ cancelled s.times (factor ℕ_discrete (meaning q) t))
      ((λ i. s.equation.constants i +ℚ own_factor i *ℚ (meaning q).constant) ∙ cancelled s.times (meaning q).constant)
