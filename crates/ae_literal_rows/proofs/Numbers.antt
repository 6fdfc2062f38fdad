-- Names of numbers in a system, and rows of the difference of two.
use Rattle.std.specs.Prelude.{ℕ, ◌<◌, ◌≡◌, ◌↔◌, Bool, true, false, not, List, [], length, slice_get, Some, IsTrue}
use Rattle.std.specs.List.{AllByRecursion}
use Rattle.std.proofs.Common.{refl, sym, ap, ◌∙◌, subst, inl, inr}
use Rattle.std.proofs.lemmas.Option.{same_Some}
use Rattle.ae_base.proofs.ListFacts.{value_at}
use Rattle.ae_base.proofs.Tests.{true_false}
use Rattle.ae_math.specs.Forms.{single, minus}
use Rattle.ae_core.specs.Sorts.{sort_of}
use Rattle.ae_core.specs.declared.problems.Signature.{Signature}
use Rattle.ae_core.specs.declared.proofs.Deriv.{Deriv}
use Rattle.ae_core.specs.declared.terms.Sort.{Sort, Real}
use Rattle.ae_core.specs.declared.terms.Term.{Term}
use Rattle.ae_num.specs.Forms.{meaning, SameMeaning}
use Rattle.ae_num.specs.declared.forms.Lin.{Lin}
use Rattle.ae_num.specs.declared.forms.Value.{Value}
use Rattle.ae_num.specs.declared.forms.Value as value
use Rattle.ae_rules.specs.Built.{IsBuiltEquation}
use Rattle.ae_rules.specs.Linear.{form}
use Rattle.ae_rules.specs.Lines.{AllAllowed, fact_ok}
use Rattle.ae_journal.specs.declared.systems.System.{System}
use Rattle.ae_just.proofs.EmitLaws.{terms_long}
use Rattle.ae_settled.proofs.Sorts.{predicate_of, predicate_unsorted}
use Rattle.ae_store.specs.Stores.{Stored}
use Rattle.ae_store.specs.Terms.{named, IsOfSort}
use Rattle.ae_store.proofs.StoreLaws.{name_term}
use Rattle.ae_theory.specs.Names.{terms_in}
use Rattle.ae_state_steps.specs.ValueSteps.{sort_for, IsNumberName}
use Rattle.ae_entering.specs.Laws.{EntriesFit}
use Rattle.ae_value_table.specs.Table.{number_at}
use Rattle.ae_value_fitting.proofs.Written.{one_sort}
use Rattle.ae_state.specs.declared.holding.Holding.{Holding}
use Rattle.ae_state.specs.Explaining.{EndsWithValue}
use Rattle.ae_state.specs.Names.{system_now}
use Rattle.ae_turns.specs.Representing.{IsTaken}
use Rattle.ae_bound_blocks.specs.Said.{IsGiven}
use Rattle.ae_bound_blocks.specs.declared.given.Given.{Given}
use Rattle.ae_bound_blocks.proofs.Sorting.{name_within}
use Rattle.ae_given_rows.specs.Sides.{IsTold}
use Rattle.ae_inequalities.specs.Rows.{IsRightRow}
use Rattle.ae_literal_rows.proofs.Values.{shown, within, written_is}

module _ (o : Holding) (s : Stored) (t : IsTaken o s) (law : EntriesFit) (real : Bool) (n : ℕ) (name : IsNumberName s.signature (terms_in s) real n) where
  pub name_below : n < length s.nodes
  name_below = subst (λ (k : ℕ). n < k) (terms_long s.nodes) (within o s t law real n name)

  -- ---- by the system
  module _ (y : System) (is : y ≡ system_now o) where
    pub shown_now : (f : Lin) × (slice_get y.values n ≡ Some (value.Number f))
    shown_now = (number_at o.values n, ap (λ (z : System). slice_get z.values n) is ∙ shown o s t law real n name)

    pub number_is_at : (v : Lin) → slice_get y.values n ≡ Some (value.Number v) → v ≡ number_at o.values n
    unfolding shown_now
    number_is_at v at =
        let e : value.Number v ≡ value.Number (number_at o.values n) = same_Some (value.Number v) (value.Number (number_at o.values n)) (sym at ∙ shown_now.1) in
        cc e

  -- ---- lines that say the value
  pub told : (v : Lin) → v ≡ number_at o.values n → (why : Deriv) → AllAllowed s.signature (fact_ok s.signature) why.hyps [] why.lines
      → EndsWithValue (terms_in s) real n (number_at o.values n) why.lines → AllByRecursion (IsBuiltEquation s.signature (terms_in s)) why.lines → IsTold s.signature (terms_in s) real n v why
  told v e why allowed ends built =
      subst (λ (w : Lin). IsTold s.signature (terms_in s) real n w why) (sym e)
      (record { allowed = allowed; last = ends.last; long = ends.long; says = ends.is; written = written_is o s t law real n name; built = built })

-- ---- sorts
node_sort : (sig : Signature) (u : Term) (r : Sort) (real : Bool) → IsOfSort sig u r → sort_of sig u ≡ Some (sort_for real) → r ≡ sort_for real
node_sort sig u r real (inl h) e = same_Some r (sort_for real) (sym h ∙ e)
node_sort sig u r real (inr h) e = absurd (predicate_unsorted sig u (sort_for real) (predicate_of sig u h.0) e)

is_real : (r : Sort) (real b : Bool) → r ≡ sort_for real → IsTrue b ↔ (r ≡ Real) → b ≡ real
is_real r true b e h = h.1 e
is_real r false false e h = refl
is_real r false true e h = one_sort true false (sym (h.0 refl) ∙ e)

-- two names of one sort of numbers, by the sort of a node
pub numbers_at : (sig : Signature) (ts : List Term) (real : Bool) (upper lower : ℕ) → IsNumberName sig ts real upper → IsNumberName sig ts real lower
    → (r : Sort) → ((u : Term) → slice_get ts upper ≡ Some u → IsOfSort sig u r) → (b : Bool) → IsTrue b ↔ (r ≡ Real) → IsNumberName sig ts b upper × IsNumberName sig ts b lower
numbers_at sig ts real upper lower up low r of b h =
    let u = value_at ts upper (name_within sig ts real upper up) in
    let sort : sort_of sig u.0 ≡ Some (sort_for real) = ap (sort_of sig) (sym (name_term ts upper u.0 u.1)) ∙ up in
    let same : b ≡ real = is_real r real b (node_sort sig u.0 r real (of u.0 u.1) sort) h in
    (subst (λ (z : Bool). IsNumberName sig ts z upper) (sym same) up, subst (λ (z : Bool). IsNumberName sig ts z lower) (sym same) low)

-- ---- the row
pub difference_at : (f u v w z : Lin) → u ≡ w → v ≡ z → SameMeaning (meaning f) (minus (meaning u) (meaning v)) → SameMeaning (meaning f) (minus (meaning w) (meaning z))
difference_at f u v w z a b = subst (λ (p : Lin × Lin). SameMeaning (meaning f) (minus (meaning p.0) (meaning p.1))) (λ i. (a i, b i))

not_real : (real : Bool) → not real ≡ true → real ≡ false
not_real true e = true_false (sym e)
not_real false e = refl

pub right_row : (sig : Signature) (ts : List Term) (real : Bool) (f : Lin) (strict : Bool) (g : Given) (tags : List ℕ) → IsGiven sig ts real (record { lin = f; strict = strict }) g → g.real ≡ real
    → AllByRecursion (λ p. form (named ts p.key) ≡ single (named ts p.key)) f.parts
    → IsRightRow sig ts (record { lin = f; strict = strict; integral = not g.real; multiple = g.multiple; real = g.real; from = record { deriv = g.deriv; tags = tags } })
right_row sig ts real f strict g tags given same opaque = record {
  said = subst (λ (r : Bool). IsGiven sig ts r (record { lin = f; strict = strict }) g) (sym same) given;
  whole = not_real g.real;
  opaque = λ i. opaque;
}
