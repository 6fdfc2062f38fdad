-- The numbers that names have, and that their values can be written out.
use Rattle.std.specs.Prelude.{ℕ, ◌<◌, ◌≡◌, Bool, true, false, List, [], ◌∷◌, length, slice_get, Option, Some}
use Rattle.std.specs.List.{AllByRecursion}
use Rattle.std.proofs.Common.{refl, sym, ap, ◌∙◌, subst, arith, inl, inr}
use Rattle.std.proofs.lemmas.List.{length-map}
use Rattle.std.proofs.lemmas.Option.{slice_get_within}
use native.Mathlib.Decide.{ℕ_discrete}
use Rattle.ae_base.specs.Options.{or_else}
use Rattle.ae_base.proofs.AllOf.{all_weaker}
use Rattle.ae_base.proofs.ListFacts.{value_at}
use Rattle.ae_math.specs.Fractions.{ℚ, zero_ℚ}
use Rattle.ae_math.specs.Forms.{single, factor}
use Rattle.ae_math.proofs.Wholes.{one_whole, zero_whole}
use Rattle.ae_core.specs.Sorts.{sort_of, is_numeric}
use Rattle.ae_core.specs.declared.terms.Sort.{Sort, Sort-F, Int, Real, out-Sort}
use Rattle.ae_core.specs.declared.terms.Sort.TheOpen as layer
use Rattle.ae_core.specs.declared.terms.Sort.TheVariants.{outs-Int, outs-Real}
use Rattle.ae_core.specs.declared.terms.Term.{Term}
use Rattle.ae_core.specs.declared.problems.Signature.{Signature}
use Rattle.ae_num.specs.Forms.{meaning, SameMeaning, IsNormal}
use Rattle.ae_num.specs.declared.forms.Part.{Part}
use Rattle.ae_num.specs.declared.forms.Lin.{Lin}
use Rattle.ae_num.specs.declared.forms.Value.{Value}
use Rattle.ae_num.specs.declared.forms.Value as value
use Rattle.ae_num.proofs.NormalLaws.{single_normal}
use Rattle.ae_evaluation.proofs.SortFacts.{of_numeric}
use Rattle.ae_linear.specs.declared.rows.Row.{Row}
use Rattle.ae_linear.specs.Rows.{value_of}
use Rattle.ae_store.proofs.StoreLaws.{name_term}
use Rattle.ae_settled.specs.Valued.{AreValues, IsOwnNumber}
use Rattle.ae_state_steps.specs.ValueSteps.{sort_for, IsNumberName, IsWritten}
use Rattle.ae_value_table.specs.declared.patterns.Pattern.{Number}
use Rattle.ae_value_table.specs.declared.patterns.Entry.{Entry}
use Rattle.ae_value_table.specs.Table.{Contents, own, number_at, leaf_at, held, values, value_in}
use Rattle.ae_value_table.proofs.ValueLaws.{by-Number, same_numbers}
use Rattle.ae_value_fitting.specs.Fitting.{system_in, ArePatterns}
use Rattle.ae_value_fitting.proofs.Lookups.{pattern_there}

-- ---- the numbers of names, by their rows
abbrev pub number_by : Option Row → ℕ → Lin
number_by o n = or_else (value_of o) (own n)

pub own_normal : (n : ℕ) → IsNormal (own n)
own_normal n = single_normal (own n) n refl

pub own_means : (n : ℕ) → SameMeaning (meaning (own n)) (single n)
own_means n = record {
  factors = λ k. ap (λ (x : ℚ). factor ℕ_discrete (record { parts = (n, x) ∷ []; constant = zero_ℚ }) k) (sym one_whole);
  constants = sym zero_whole;
}

-- ---- sorts of numbers
pub numeric_sort : (r : Bool) → is_numeric (sort_for r) ≡ true
numeric_sort true = of_numeric (sort_for true) (inr refl)
numeric_sort false = of_numeric (sort_for false) (inl refl)

real_not_int : Real ≡ Int → ⊥
real_not_int e = let o : ◌≡◌ {A = Sort-F Sort} layer.Real layer.Int = sym outs-Real ∙ ap out-Sort e ∙ outs-Int in cc o

pub one_sort : (r s : Bool) → sort_for r ≡ sort_for s → r ≡ s
one_sort true true e = refl
one_sort false false e = refl
one_sort true false e = absurd (real_not_int e)
one_sort false true e = absurd (real_not_int (sym e))

-- ---- values of names, written out
module _ (sig : Signature) (ts : List Term) (c : Contents) (patterns : ArePatterns sig ts (held c)) (are : AreValues sig (system_in ts c)) where
  -- a number name has the number that is held
  pub number_held : (real : Bool) (n : ℕ) (t : Term) → slice_get ts n ≡ Some t → sort_of sig t ≡ Some (sort_for real) → slice_get (values c) n ≡ Some (value.Number (number_at c n))
  number_held real n t e s =
      let l : n < length ts = slice_get_within ts n t e in
      let w = value_at (held c) n (omega (arith, l, are.one_each, length-map (held c) (λ (x : Entry). value_in c x.pattern))) in
      pattern_there c n w.0 (Number n) w.1 (patterns.numbers n t (sort_for real) w.0 e s w.1 (numeric_sort real)) ∙ ap (λ (v : Value). Some v) (by-Number (number_at c) (leaf_at c) n)

  pub written : (real : Bool) (n : ℕ) → n < length ts → IsNumberName sig ts real n → IsWritten sig ts real n (number_at c n)
  written real n l name =
      let t = value_at ts n l in
      let s : sort_of sig t.0 ≡ Some (sort_for real) = sym (ap (sort_of sig) (name_term ts n t.0 t.1)) ∙ name in
      let o = are.numbers n t.0 (sort_for real) (value.Number (number_at c n)) t.1 s (number_held real n t.0 t.1 s) (numeric_sort real) in
      let same : number_at c n ≡ o.form = same_numbers (number_at c n) o.form o.is in
      record {
        name = name;
        parts = subst (λ (f : Lin). AllByRecursion (λ p. IsNumberName sig ts real p.key) f.parts) (sym same)
            (all_weaker (λ (p : Part). IsOwnNumber sig (system_in ts c) (sort_for real) p.key) (λ (p : Part). IsNumberName sig ts real p.key)
            (λ p w. ap (sort_of sig) (name_term ts p.key w.term w.is) ∙ w.sort) o.form.parts o.over);
        normal = subst IsNormal (sym same) o.normal;
      }
