-- The multiple that is taken of a form without its largest name.
use Rattle.std.specs.Prelude.{◌<◌, ◌≤◌, ◌⊎◌, List, [], ◌≡◌, None}
use Rattle.std.proofs.Common.{refl, sym, ap, ◌∙◌, subst, arith, inl, inr}
use Rattle.std.proofs.lemmas.Bool.{cases_lt}
use native.Mathlib.Decide.{ℕ_discrete}
use Rattle.ae_math.specs.Fractions.{zero_ℚ}
use Rattle.ae_math.specs.Forms.{number, substitute}
use Rattle.ae_math.proofs.FormLaws.{same_sym, same_trans}
use Rattle.ae_num.specs.Forms.{meaning, SameMeaning, IsNormal, factor_of, first_wide, scale_steps}
use Rattle.ae_num.specs.declared.forms.Part.{Part}
use Rattle.ae_num.specs.declared.forms.Lin.{Lin}
use Rattle.ae_num.specs.declared.numbers.Wide.{Wide}
use Rattle.ae_num.proofs.UniqueLaws.{unique}
use Rattle.ae_journal.specs.declared.answers.NumStep.TheVariants as step
use Rattle.ae_linear.specs.Solving.{IsLargest, IsWideScaling, negated_inverse}
use Rattle.ae_number_solving.specs.Inner.Widths.{IsScalingWide}

-- ---- one part is that of the largest name
not_below : (ps : List Part) (p q : Part) → IsLargest ps p → IsLargest ps q → p.key < q.key → ⊥
not_below ps p q a b l = b.nonzero (sym b.factor ∙ a.above q.key l)

one_key : (ps : List Part) (p q : Part) → IsLargest ps p → IsLargest ps q → p.key ≡ q.key
one_key ps p q a b = by_order (cases_lt p.key q.key) (cases_lt q.key p.key)
  where
    by_order : (p.key < q.key) ⊎ (q.key ≤ p.key) → (q.key < p.key) ⊎ (p.key ≤ q.key) → p.key ≡ q.key
    by_order (inl l) m = absurd (not_below ps p q a b l)
    by_order (inr l) (inl m) = absurd (not_below ps q p b a m)
    by_order (inr l) (inr m) = omega (arith, l, m)

one_largest : (ps : List Part) (p q : Part) → IsLargest ps p → IsLargest ps q → p ≡ q
one_largest ps p q a b =
    let k : p.key ≡ q.key = one_key ps p q a b in
    let f : p.factor ≡ q.factor = sym a.factor ∙ ap (factor_of ps) k ∙ b.factor in
    λ i. record { key = k i; factor = f i }

-- ---- the multiple
pub not_empty : (d : Lin) (wide : Wide) → IsWideScaling d wide → d.parts ≡ [] → ⊥
not_empty d wide (by, rest, s, w) e = (s.is_largest).nonzero (sym (s.is_largest).factor ∙ ap (λ (ps : List Part). factor_of ps (s.largest).key) e)

pub scaling_wide : (d : Lin) (p : Part) (by rest : Lin) (wide : Wide) → IsLargest d.parts p → by ≡ negated_inverse d.den p.factor → IsNormal by → IsNormal rest
    → SameMeaning (meaning rest) (substitute ℕ_discrete (meaning d) p.key (number zero_ℚ)) → IsWideScaling d wide
    → IsScalingWide d (record { step = step.Scale; left = rest; key = None; right = by; wide = wide })
scaling_wide d p by rest wide l b nb nr exact (other, less, s, w) =
    let one : p ≡ s.largest = one_largest d.parts p s.largest l s.is_largest in
    let same_by : by ≡ other = b ∙ ap (λ (x : Part). negated_inverse d.den x.factor) one ∙ sym s.by_inverse in
    let other_exact : SameMeaning (meaning rest) (substitute ℕ_discrete (meaning d) (s.largest).key (number zero_ℚ)) =
    subst (λ (x : Part). SameMeaning (meaning rest) (substitute ℕ_discrete (meaning d) x.key (number zero_ℚ))) one exact in
    let same_rest : rest ≡ less =
    unique rest less nr s.normal
    (same_trans ℕ_discrete (meaning rest) (substitute ℕ_discrete (meaning d) (s.largest).key (number zero_ℚ)) (meaning less) other_exact
    (same_sym ℕ_discrete (meaning less) (substitute ℕ_discrete (meaning d) (s.largest).key (number zero_ℚ)) s.is_rest)) in
    record {
      step_is = refl;
      key_is = refl;
      scaling = record { largest = p; is_largest = l; by_inverse = b; normal = nr; is_rest = exact };
      number = nb;
      wide_is = (λ i. first_wide (scale_steps (same_by i).constant (same_by i).den (same_rest i))) ∙ w;
    }
