-- The names of a form.
use Rattle.std.specs.Prelude.{ℕ, ℤ, pos, ◌≤◌, ◌≡◌, ◌≢◌, Bool, true, length, slice_get, Some}
use Rattle.std.specs.List.{AllByRecursion}
use Rattle.std.proofs.Common.{arith, sym, ap, ◌∙◌}
use Rattle.std.proofs.lemmas.Option.{same_Some, slice_get_within}
use lib.IntN.{ℤ_discrete}
use Rattle.ae_base.proofs.AllOf.{all_weaker}
use Rattle.ae_math.specs.Fractions.{zero_ℚ, ratio}
use Rattle.ae_math.proofs.Wholes.{ratio_of_zero}
use Rattle.ae_core.specs.Sorts.{sort_of}
use Rattle.ae_core.specs.declared.terms.Term.{Term}
use Rattle.ae_core.specs.declared.terms.Sort.{Int}
use Rattle.ae_num.specs.declared.forms.Part.{Part}
use Rattle.ae_num.specs.declared.forms.Lin.{Lin}
use Rattle.ae_num.specs.Forms.{meaning, factor_of, IsNormal}
use Rattle.ae_num.proofs.MeaningLaws.{factor_meaning}
use Rattle.ae_rows.specs.Rows.{factor_at, IsOver}
use Rattle.ae_journal.specs.Sides.{AreWhole}
use Rattle.ae_journal.specs.Standing.{Setting}
use Rattle.ae_bound_blocks.proofs.Naming.{at_factor}
use Rattle.ae_bound_rest.specs.Laws.{IsWholeName}
use Rattle.ae_agreed_rows.specs.Kept.{IsOfRow}

module _ (Q : ℕ → Type 0) (l : Lin) (normal : IsNormal l) (all : AllByRecursion (λ (p : Part). Q p.key) l.parts) where
  -- what holds of each name of a form holds of each that has a factor
  pub of_factor : (k : ℕ) → factor_at k (meaning l) ≢ zero_ℚ → Q k
  of_factor k some = at_factor Q l.parts all k (λ e. some (factor_meaning l k normal.rising ∙ ap (λ (z : ℤ). ratio z l.den) e ∙ ratio_of_zero l.den))

  -- where it holds of none from a number on, none of these has one
  pub over_names : (n : ℕ) → ((k : ℕ) → n ≤ k → ¬ (Q k)) → IsOver n (meaning l)
  over_names n none = record { absent = λ k h. by_case k h (ℤ_discrete (factor_of l.parts k) (pos 0)) }
    where
      by_case : (k : ℕ) → n ≤ k → Dec (factor_of l.parts k ≡ pos 0) → factor_at k (meaning l) ≡ zero_ℚ
      by_case k h (yes e) = factor_meaning l k normal.rising ∙ ap (λ (z : ℤ). ratio z l.den) e ∙ ratio_of_zero l.den
      by_case k h (no d) = absurd (none k h (at_factor Q l.parts all k d))

module _ (x : Setting) (integral : Bool) (l : Lin) (normal : IsNormal l) (all : AllByRecursion (λ (p : Part). IsOfRow x integral p.key) l.parts) where
  -- all names are listed
  pub named : IsOver (length x.names) (meaning l)
  named = over_names (IsOfRow x integral) l normal all (length x.names) (λ k h o. let w = slice_get_within x.names k o.term o.at in omega (arith, h, w))

  pub whole_names : integral ≡ true → AreWhole x.problem.signature x.names l
  whole_names i =
      all_weaker (λ (p : Part). IsOfRow x integral p.key) (λ (p : Part). (t : Term) × (slice_get x.names p.key ≡ Some t) × (sort_of x.problem.signature t ≡ Some Int)) (λ p o. (o.term, o.at, o.whole i)) l.parts all

  pub sorted_whole : (k : ℕ) → factor_at k (meaning l) ≢ zero_ℚ → integral ≡ true → IsWholeName x k
  sorted_whole k some i = let o = of_factor (IsOfRow x integral) l normal all k some in (o.term, o.at, o.whole i)

  pub sorted_integral : (k : ℕ) → factor_at k (meaning l) ≢ zero_ℚ → IsWholeName x k → integral ≡ true
  sorted_integral k some w =
      let o = of_factor (IsOfRow x integral) l normal all k some in
      o.is_integral (ap (sort_of x.problem.signature) (same_Some o.term w.0 (sym o.at ∙ w.1)) ∙ w.2)
