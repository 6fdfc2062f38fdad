-- A number that is put for a name in rows is put for it in all values.
use Rattle.std.specs.Prelude.{ℕ, ◌≡◌, ◌≢◌, false, ◌||◌, Option, Some, None}
use Rattle.std.proofs.Common.{refl, sym, ap, ◌∙◌, subst}
use Rattle.std.proofs.lemmas.Bool.{ne_eqb}
use native.Mathlib.Decide.{ℕ_discrete}
use Rattle.ae_base.proofs.Decided.{pick_yes, pick_no}
use Rattle.ae_math.specs.Fractions.{zero_ℚ, one_ℚ, ◌+ℚ◌, ◌*ℚ◌}
use Rattle.ae_math.specs.Forms.{Form, single, factor, substitute}
use Rattle.ae_math.proofs.FractionLaws.{zero_add_q, add_zero_q, one_mul_q}
use Rattle.ae_math.proofs.FormLaws.{same_refl, same_sym, same_trans, substitute-same, substitute_there, substitute_elsewhere}
use Rattle.ae_num.specs.declared.forms.Lin.{Lin}
use Rattle.ae_num.specs.declared.forms.Value as value
use Rattle.ae_num.specs.Forms.{meaning, SameMeaning, IsNormal, has_key}
use Rattle.ae_num.proofs.MeaningLaws.{subst_absent}
use Rattle.ae_linear.specs.declared.rows.Row.{Row}
use Rattle.ae_linear.specs.Rows.{AreRows, IsSubstitutedAt, ArePut}
use Rattle.ae_value_table.specs.Table.{own}
use Rattle.ae_value_fitting.proofs.Written.{number_by, own_normal}

-- ---- a form put for a name in that name alone is the form
module _ (k : ℕ) (g : Form ℕ) where
  single_there : factor ℕ_discrete (single k) k ≡ one_ℚ
  single_there = pick_yes (ℕ_discrete k k) (one_ℚ +ℚ zero_ℚ) zero_ℚ refl ∙ add_zero_q one_ℚ

  single_elsewhere : (t : ℕ) → ¬ (k ≡ t) → factor ℕ_discrete (single k) t ≡ zero_ℚ
  single_elsewhere t n = pick_no (ℕ_discrete k t) (one_ℚ +ℚ zero_ℚ) zero_ℚ n

  factors_put : (t : ℕ) → Dec (k ≡ t) → factor ℕ_discrete (substitute ℕ_discrete (single k) k g) t ≡ factor ℕ_discrete g t
  factors_put t (yes e) =
      subst (λ (z : ℕ). factor ℕ_discrete (substitute ℕ_discrete (single k) k g) z ≡ factor ℕ_discrete g z) e
      (substitute_there ℕ_discrete (single k) k g ∙ ap (λ x. x *ℚ factor ℕ_discrete g k) single_there ∙ one_mul_q (factor ℕ_discrete g k))
  factors_put t (no n) =
      substitute_elsewhere ℕ_discrete (single k) k g t n
      ∙ (λ i. single_elsewhere t n i +ℚ single_there i *ℚ factor ℕ_discrete g t)
      ∙ zero_add_q (one_ℚ *ℚ factor ℕ_discrete g t) ∙ one_mul_q (factor ℕ_discrete g t)

  pub once_put : SameMeaning (substitute ℕ_discrete (single k) k g) g
  once_put = record {
    factors = λ t. factors_put t (ℕ_discrete k t);
    constants = ap (λ x. zero_ℚ +ℚ x *ℚ g.constant) single_there ∙ zero_add_q (one_ℚ *ℚ g.constant) ∙ one_mul_q g.constant;
  }

-- ---- the numbers of names, by their rows
pub own_lacks : (n key : ℕ) → n ≢ key → has_key (own n).parts key ≡ false
own_lacks n key d = ap (λ b. b || false) (ne_eqb n key d)

pub number_normal : (rows : ℕ → Option Row) → AreRows rows → (n : ℕ) → IsNormal (number_by (rows n) n)
number_normal rows are n = by_row (rows n) refl
  where
    by_row : (o : Option Row) → rows n ≡ o → IsNormal (number_by o n)
    by_row None e = own_normal n
    by_row (Some row) e = are.normal n row e

module _ (old new : ℕ → Option Row) (name : ℕ) (q : Lin) (nq : IsNormal q) (is_own : SameMeaning (meaning (number_by (old name) name)) (single name)) (put : ArePut old name q 0 new) where
  -- the number of the name, and those of others
  at_name : number_by (new name) name ≡ q
  at_name = ap (λ (o : Option Row). number_by o name) put.row

  abbrev IsPutIn : Lin → Lin → Type 0
  IsPutIn f g = IsNormal g × SameMeaning (meaning g) (substitute ℕ_discrete (meaning f) name (meaning q))

  name_put : IsPutIn (number_by (old name) name) q
  name_put = (
    nq,
    same_sym ℕ_discrete (substitute ℕ_discrete (meaning (number_by (old name) name)) name (meaning q)) (meaning q)
        (same_trans ℕ_discrete (substitute ℕ_discrete (meaning (number_by (old name) name)) name (meaning q)) (substitute ℕ_discrete (single name) name (meaning q)) (meaning q)
        (substitute-same ℕ_discrete (meaning (number_by (old name) name)) (single name) name (meaning q) (meaning q) is_own (same_refl ℕ_discrete (meaning q))) (once_put name (meaning q))),
  )

  other_put : (m : ℕ) → m ≢ name → (o p : Option Row) → IsSubstitutedAt o name q p → IsPutIn (number_by o m) (number_by p m)
  other_put m d None p h = subst (λ (r : Option Row). IsPutIn (own m) (number_by r m)) (sym h) (own_normal m, subst_absent (own m) q name (own_normal m) (own_lacks m name d))
  other_put m d (Some row) p h = subst (λ (r : Option Row). IsPutIn row.value (number_by r m)) (sym h.1) (h.2.normal, h.2.form)

  pub put_at : (m : ℕ) → IsPutIn (number_by (old m) m) (number_by (new m) m)
  put_at m = by_name (ℕ_discrete m name)
    where
      by_name : Dec (m ≡ name) → IsPutIn (number_by (old m) m) (number_by (new m) m)
      by_name (yes e) = subst (λ (z : ℕ). IsPutIn (number_by (old z) z) (number_by (new z) z)) (sym e) (subst (IsPutIn (number_by (old name) name)) (sym at_name) name_put)
      by_name (no d) = other_put m d (old m) (new m) (put.others m d)
