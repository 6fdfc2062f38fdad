-- What holds of each leaf of some sums holds of each leaf of what is computed from them, and of a sum that solves one of them.
use Rattle.std.specs.Prelude.{ℕ, Bool, true, false, cond, nat_eq, nat_lt, List, [], ◌∷◌, ◌≡◌, ◌≢◌}
use Rattle.std.specs.List.{AllByRecursion}
use Rattle.std.proofs.Common.{refl, sym, ap, ◌∙◌, subst, arith, inl, inr}
use Rattle.std.proofs.lemmas.Bool.{cases_eq, eqb-true}
use native.Mathlib.Decide.{ℕ_discrete}
use Rattle.ae_base.proofs.AllOf.{all_append}
use Rattle.ae_evaluation.proofs.Sums.{factor_same, factor_other, factor-settled}
use Rattle.ae_journal.specs.Values.{Sum, Above, IsSettled, leaf_factor, put_part, enter, settled, scaled}
use Rattle.ae_journal.specs.TermValues.{put_in}
use Rattle.ae_math.proofs.FormLaws.{substitute_elsewhere}
use Rattle.ae_math.proofs.FractionLaws.{add_zero_q, cancel_q, mul_zero_q, zero_add_q}
use Rattle.ae_math.specs.Forms.{Form, is_zero, substitute}
use Rattle.ae_math.specs.Fractions.{ℚ, zero_ℚ, ◌+ℚ◌, ◌*ℚ◌, ℚ_discrete}

abbrev pub Over : (ℕ → Type 0) → List (ℕ × ℚ) → Type 0
Over Q ps = AllByRecursion (λ (p : ℕ × ℚ). Q p.0) ps

-- ---- what is computed
module _ (Q : ℕ → Type 0) where
  either : (b : Bool) (ps qs : List (ℕ × ℚ)) → Over Q ps → Over Q qs → Over Q (cond b ps qs)
  either true ps qs a c = a
  either false ps qs a c = c

  put_over : (k : ℕ) (z : ℚ) (ps : List (ℕ × ℚ)) → Q k → Over Q ps → Over Q (put_part k z ps)
  put_over k z ps q a = either (is_zero z) ps ((k, z) ∷ ps) a (q, a)

  enter_over : (k : ℕ) (z : ℚ) (ps : List (ℕ × ℚ)) → Q k → Over Q ps → Over Q (enter k z ps)
  enter_over k z [] q a = put_over k z [] q tt
  enter_over k z (p ∷ ps) q a =
      either (nat_lt p.0 k) (p ∷ enter k z ps) (cond (nat_lt k p.0) (put_part k z (p ∷ ps)) (put_part k (z +ℚ p.1) ps)) (a.0, enter_over k z ps q a.1)
      (either (nat_lt k p.0) (put_part k z (p ∷ ps)) (put_part k (z +ℚ p.1) ps) (put_over k z (p ∷ ps) q a) (put_over k (z +ℚ p.1) ps q a.1))

  pub settled_over : (ps : List (ℕ × ℚ)) → Over Q ps → Over Q (settled ps)
  settled_over [] a = tt
  settled_over (p ∷ ps) a = enter_over p.0 p.1 (settled ps) a.0 (settled_over ps a.1)

  pub scaled_over : (z : ℚ) (ps : List (ℕ × ℚ)) → Over Q ps → Over Q (scaled z ps)
  scaled_over z [] a = tt
  scaled_over z (p ∷ ps) a = (a.0, scaled_over z ps a.1)

  -- where a leaf of the kind has a sum of such leaves, the sum may be put for it
  pub put_in_over : (n : ℕ) (f : Sum) (qs : List (ℕ × ℚ)) → (Q n → Over Q f.parts) → Over Q qs → Over Q (put_in n f qs)
  put_in_over n f [] h a = tt
  put_in_over n f (q ∷ qs) h a = all_append (λ (p : ℕ × ℚ). Q p.0) (cond (nat_eq q.0 n) (scaled q.1 f.parts) (q ∷ [])) (put_in n f qs) (replaced (nat_eq q.0 n) refl) (put_in_over n f qs h a.1)
    where
      replaced : (b : Bool) → nat_eq q.0 n ≡ b → Over Q (cond b (scaled q.1 f.parts) (q ∷ []))
      replaced true e = scaled_over q.1 f.parts (h (subst Q (eqb-true q.0 n e) a.0))
      replaced false e = (a.0, tt)

  -- a leaf that has a factor is there
  pub factor_there : (ps : List (ℕ × ℚ)) → Over Q ps → (n : ℕ) → leaf_factor ps n ≢ zero_ℚ → Q n
  factor_there [] a n d = absurd (d refl)
  factor_there ((k, z) ∷ ps) a n d = elim (cases_eq n k) [ inl e ↦ subst Q (sym e) a.0 | inr o ↦ factor_there ps a.1 n (λ e. d (factor_other n k z ps o ∙ e)) ]

-- ---- a settled sum is over the leaves that have a factor in it
none_above : (k : ℕ) (ps : List (ℕ × ℚ)) → Above k ps → leaf_factor ps k ≡ zero_ℚ
none_above k [] a = refl
none_above k ((l, z) ∷ ps) a = factor_other k l z ps (λ e. let m = a.0 in omega (arith, m, e)) ∙ none_above k ps a.1

module _ (Q : ℕ → Type 0) where
  pub over_factors : (ps : List (ℕ × ℚ)) → IsSettled ps → ((n : ℕ) → leaf_factor ps n ≢ zero_ℚ → Q n) → Over Q ps
  over_factors [] s h = tt
  over_factors ((k, z) ∷ ps) s h = (h k (λ e. s.0 (sym front ∙ e)), over_factors ps s.2 rest)
    where
      front : leaf_factor ((k, z) ∷ ps) k ≡ z
      front = factor_same k z ps ∙ ap (λ y. z +ℚ y) (none_above k ps s.1) ∙ add_zero_q z

      rest : (n : ℕ) → leaf_factor ps n ≢ zero_ℚ → Q n
      rest n d = elim (cases_eq n k) [ inl e ↦ absurd (d (ap (leaf_factor ps) e ∙ none_above k ps s.1)) | inr o ↦ h n (λ e. d (sym (factor_other n k z ps o) ∙ e)) ]

-- ---- what is put for a leaf of a difference to make it zero is over leaves of the difference
pub solving_leaves : (Q : ℕ → Type 0) (d f : Form ℕ) (n : ℕ) → Over Q (settled d.parts) → leaf_factor d.parts n ≢ zero_ℚ → leaf_factor f.parts n ≡ zero_ℚ
    → ((k : ℕ) → leaf_factor (substitute ℕ_discrete d n f).parts k ≡ zero_ℚ) → (k : ℕ) → leaf_factor f.parts k ≢ zero_ℚ → Q k
solving_leaves Q d f n a some own gone k has = elim (cases_eq n k) [
  | inl e ↦ absurd (has (sym (ap (leaf_factor f.parts) e) ∙ own))
  | inr o ↦ elim (ℚ_discrete (leaf_factor d.parts k) zero_ℚ) [
    | yes z ↦ absurd
        (has
        (cancel_q (leaf_factor d.parts n) (leaf_factor f.parts k) zero_ℚ some
        (sym (zero_add_q (leaf_factor d.parts n *ℚ leaf_factor f.parts k)) ∙ ap (λ w. w +ℚ leaf_factor d.parts n *ℚ leaf_factor f.parts k) (sym z) ∙ sym (substitute_elsewhere ℕ_discrete d n f k o) ∙ gone k ∙ sym (mul_zero_q (leaf_factor d.parts n)))))
    | no z ↦ factor_there Q (settled d.parts) a k (λ e. z (sym (factor-settled d.parts k) ∙ e))
  ]
]
