-- Two numbers whose difference is 0 are alike.
use Rattle.std.specs.Prelude.{ℕ, ◌<◌, Bool, List, ◌≡◌, length, slice_get, Some, IsTrue}
use Rattle.std.proofs.Common.{sym, ap, ◌∙◌, arith}
use Rattle.std.proofs.lemmas.List.{length-map}
use native.Mathlib.Decide.{ℕ_discrete}
use Rattle.ae_base.proofs.ListFacts.{value_at}
use Rattle.ae_math.specs.Fractions.{ℚ, zero_ℚ, ◌+ℚ◌}
use Rattle.ae_math.specs.Forms.{Form, number, minus, factor}
use Rattle.ae_math.proofs.FractionLaws.{same_from_zero_q}
use Rattle.ae_math.proofs.FormLaws.{minus_one, minus_factor}
use Rattle.ae_core.specs.declared.terms.Term.{Term}
use Rattle.ae_core.specs.declared.problems.Signature.{Signature}
use Rattle.ae_num.specs.Forms.{meaning, SameMeaning, IsNormal}
use Rattle.ae_num.specs.declared.forms.Lin.{Lin}
use Rattle.ae_num.specs.declared.forms.Value.{Value}
use Rattle.ae_num.specs.declared.forms.Value as value
use Rattle.ae_num.proofs.UniqueLaws.{unique}
use Rattle.ae_settled.specs.Valued.{AreValues}
use Rattle.ae_settled.proofs.Nodes.{named_at}
use Rattle.ae_state_steps.specs.ValueSteps.{sort_for, IsNumberName}
use Rattle.ae_store.specs.Terms.{named}
use Rattle.ae_value_table.specs.declared.patterns.Entry.{Entry}
use Rattle.ae_value_table.specs.Alike.{alike}
use Rattle.ae_value_table.specs.Table.{Contents, number_at, leaf_at, value_in, held}
use Rattle.ae_value_table.proofs.ValueLaws.{by-Number}
use Rattle.ae_value_fitting.specs.Fitting.{system_in, ArePatterns}
use Rattle.ae_value_fitting.proofs.Written.{numeric_sort}
use Rattle.ae_state.proofs.Alikeness.{from_known}

same_both : (f g : Form ℕ) → SameMeaning (minus f g) (number zero_ℚ) → SameMeaning f g
same_both f g h = record {
  factors = λ k.
      same_from_zero_q (factor ℕ_discrete f k) (factor ℕ_discrete g k)
      (ap (λ (z : ℚ). factor ℕ_discrete f k +ℚ z) (sym (minus_one (factor ℕ_discrete g k))) ∙ sym (minus_factor ℕ_discrete f g k) ∙ h.factors k);
  constants = same_from_zero_q f.constant g.constant (ap (λ (z : ℚ). f.constant +ℚ z) (sym (minus_one g.constant)) ∙ h.constants);
}

module _ (sig : Signature) (ts : List Term) (c : Contents) (patterns : ArePatterns sig ts (held c)) (are : AreValues sig (system_in ts c)) (real : Bool) where
  -- what is known of a number
  record IsKnown (n : ℕ) : Type 0 where
    pub entry : Entry
    pub at : slice_get (held c) n ≡ Some entry
    pub sort : entry.sort ≡ sort_for real
    pub is : value_in c entry.pattern ≡ value.Number (number_at c n)

  known : (n : ℕ) → n < length ts → IsNumberName sig ts real n → IsKnown n
  known n l name =
      let w = value_at (held c) n (omega (arith, l, are.one_each, length-map (held c) (λ (e : Entry). value_in c e.pattern))) in
      let there = named_at ts n l in
      record {
        entry = w.0;
        at = w.1;
        sort = patterns.sorts n (named ts n) (sort_for real) w.0 there name w.1;
        is = ap (value_in c) (patterns.numbers n (named ts n) (sort_for real) w.0 there name w.1 (numeric_sort real)) ∙ by-Number (number_at c) (leaf_at c) n;
      }

  pub alike_where_zero : (m n : ℕ) → m < length ts → n < length ts → IsNumberName sig ts real m → IsNumberName sig ts real n → IsNormal (number_at c m) → IsNormal (number_at c n)
      → SameMeaning (minus (meaning (number_at c m)) (meaning (number_at c n))) (number zero_ℚ) → IsTrue (alike c m n)
  alike_where_zero m n l k a b p q h =
      let x = known m l a in
      let y = known n k b in
      let same : number_at c m ≡ number_at c n = unique (number_at c m) (number_at c n) p q (same_both (meaning (number_at c m)) (meaning (number_at c n)) h) in
      from_known c m n
      (record { first = x.entry; second = y.entry; first_is = x.at; second_is = y.at; sorts = x.sort ∙ sym y.sort; values_are = x.is ∙ ap (λ (f : Lin). value.Number f) same ∙ sym y.is })
