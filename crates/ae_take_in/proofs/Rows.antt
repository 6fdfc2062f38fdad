-- Rows in which the next name doesn't stand.
use Rattle.std.specs.Prelude.{ℕ, ◌≡◌, ◌≢◌, Bool, true, false, cond, ◌||◌, nat_eq, List, [], ◌∷◌, Option, Some, None}
use Rattle.std.specs.List.{AllByRecursion}
use Rattle.std.proofs.Common.{refl, sym, ap, ◌∙◌, subst}
use Rattle.std.proofs.lemmas.Bool.{eqb-true}
use Rattle.std.proofs.lemmas.Option.{none-some}
use native.Mathlib.Decide.{ℕ_discrete}
use Rattle.ae_base.proofs.Tests.{by_bool, by_either, false_true, true_false, nat_eq_itself}
use Rattle.ae_math.specs.Forms.{single, substitute}
use Rattle.ae_math.proofs.FormLaws.{same_sym, same_trans}
use Rattle.ae_core.specs.declared.terms.Term.{Term}
use Rattle.ae_core.specs.declared.problems.Signature.{Signature}
use Rattle.ae_num.specs.Forms.{meaning, SameMeaning, IsNormal, Step, has_key, first_wide, subst_steps}
use Rattle.ae_num.specs.declared.forms.Part.{Part}
use Rattle.ae_num.specs.declared.forms.Lin.{Lin}
use Rattle.ae_num.specs.declared.numbers.Wide.{Wide}
use Rattle.ae_num.proofs.UniqueLaws.{unique}
use Rattle.ae_num.proofs.MeaningLaws.{subst_absent}
use Rattle.ae_linear.specs.declared.rows.Row.{Row}
use Rattle.ae_linear.specs.Rows.{row_at, AreRows, IsSubstituted, IsSubstitutedAt, IsFirstWide}
use Rattle.ae_just.specs.declared.steps.Step.{Step as JustStep}
use Rattle.ae_state_steps.specs.ValueSteps.{sort_for}
use Rattle.ae_value_table.specs.Table.{Contents, own, number_at, leaf_at}
use Rattle.ae_value_fitting.specs.Fitting.{AreSaid}
use Rattle.ae_value_fitting.proofs.Written.{number_by, own_normal, own_means, numeric_sort}
use Rattle.ae_entering.specs.Firsts.{IsKnown, IsOwnAt, AreFirst}
use Rattle.ae_take_in.specs.Inner.Next.{AreBelow}

-- ---- keys
pub key_of_all : (P : ℕ → Type 0) (ps : List Part) (key : ℕ) → AllByRecursion (λ p. P p.key) ps → has_key ps key ≡ true → P key
key_of_all P [] key a h = false_true h
key_of_all P (p ∷ ps) key a h = by_either (nat_eq p.key key) (has_key ps key) h (λ e. subst P (eqb-true p.key key e) a.0) (λ e. key_of_all P ps key a.1 e)

pub no_key : (ps : List Part) (key : ℕ) → AllByRecursion (λ p. p.key ≢ key) ps → has_key ps key ≡ false
no_key ps key a = by_bool (has_key ps key) (λ t. absurd (key_of_all (λ k. k ≢ key) ps key a t refl)) (λ f. f)

-- ---- a name that is its own number has no row
no_row : (rows : ℕ → Option Row) (name : ℕ) → AreRows rows → SameMeaning (meaning (number_by (rows name) name)) (single name) → rows name ≡ None
no_row rows name are same = by_row (rows name) refl
  where
    by_row : (o : Option Row) → rows name ≡ o → o ≡ None
    by_row None e = refl
    by_row (Some row) e =
        let s : SameMeaning (meaning row.value) (single name) = subst (λ (o : Option Row). SameMeaning (meaning (number_by o name)) (single name)) e same in
        let f : row.value ≡ own name = unique row.value (own name) (are.normal name row e) (own_normal name)
        (same_trans ℕ_discrete (meaning row.value) (single name) (meaning (own name)) s (same_sym ℕ_discrete (meaning (own name)) (single name) (own_means name))) in
        sym e ∙ are.free name row e name (ap (λ (l : Lin). has_key l.parts name) f ∙ ap (λ b. b || false) (nat_eq_itself name))

module _ (sig : Signature) (ts : List Term) (c : Contents) (are : AreRows (λ n. row_at c.rows n)) (n : ℕ) (real : Bool) (v : Lin)
    (over : AllByRecursion (λ p. IsOwnAt sig ts n (number_at c) (sort_for real) p.key × (p.key ≢ n)) v.parts) where
  pub free : (key : ℕ) → has_key v.parts key ≡ true → row_at c.rows key ≡ None
  free key h =
      let i = key_of_all (λ k. IsOwnAt sig ts n (number_at c) (sort_for real) k × (k ≢ n)) v.parts key over h in
      no_row (λ n. row_at c.rows n) key are i.0.own

  pub absent : has_key v.parts n ≡ false
  absent = by_bool (has_key v.parts n) (λ t. absurd ((key_of_all (λ k. IsOwnAt sig ts n (number_at c) (sort_for real) k × (k ≢ n)) v.parts n over t).1 refl)) (λ f. f)

-- ---- no row has a name that isn't known
module _ (sig : Signature) (ts : List Term) (steps : List JustStep) (c : Contents) (n : ℕ) (below : AreBelow n c) (said : AreSaid sig ts steps c) (first : AreFirst sig ts n (number_at c) (leaf_at c)) where
  pub alone : (IsKnown ts n n → ⊥) → (k : ℕ) (row : Row) → row_at c.rows k ≡ Some row → has_key row.value.parts n ≡ false
  alone unknown k row at =
      let w = said.numbers k row at in
      let i = first.numbers k (sort_for w.real) (below.rows k row at) w.stated.written.name (numeric_sort w.real) in
      let e : number_at c k ≡ row.value = ap (λ (o : Option Row). number_by o k) at in
      let over : AllByRecursion (λ p. IsOwnAt sig ts n (number_at c) (sort_for w.real) p.key) row.value.parts = subst (λ (f : Lin). AllByRecursion (λ p. IsOwnAt sig ts n (number_at c) (sort_for w.real) p.key) f.parts) e i.over in
      by_bool (has_key row.value.parts n) (λ t. absurd (unknown (key_of_all (λ j. IsOwnAt sig ts n (number_at c) (sort_for w.real) j) row.value.parts n over t).known)) (λ f. f)

-- ---- where a number is put for a name that stands in no row, the rows are as they were
pub same_row : (n : ℕ) (v : Lin) (o p : Option Row) → ((row : Row) → o ≡ Some row → IsNormal row.value × (has_key row.value.parts n ≡ false)) → IsSubstitutedAt o n v p → p ≡ o
same_row n v None p f h = h
same_row n v (Some row) p f h =
    let g = f row refl in
    let s : IsSubstituted row n v h.0 = h.2 in
    let value : (h.0).value ≡ row.value =
    unique (h.0).value row.value s.normal g.0
    (same_trans ℕ_discrete (meaning (h.0).value) (substitute ℕ_discrete (meaning row.value) n (meaning v)) (meaning row.value) s.form
    (same_sym ℕ_discrete (meaning row.value) (substitute ℕ_discrete (meaning row.value) n (meaning v)) (subst_absent row.value v n g.0 g.1))) in
    let same : h.0 ≡ row = λ i. record { value = value i; just = s.just i } in
    h.1 ∙ ap (λ (r : Row). Some r) same

wide_if : (b : Bool) (ss : List Step) → b ≡ false → first_wide (cond b ss []) ≡ None
wide_if true ss e = true_false e
wide_if false ss e = refl

no_steps : (row : Row) (n : ℕ) (v : Lin) → has_key row.value.parts n ≡ false → first_wide (subst_steps row.value n v) ≡ None
no_steps row n v e = wide_if (has_key row.value.parts n) _ e

pub never_wide : (rows : ℕ → Option Row) (n : ℕ) (v : Lin) (w : Wide) → ((k : ℕ) (row : Row) → rows k ≡ Some row → has_key row.value.parts n ≡ false) → IsFirstWide rows n v w → ⊥
never_wide rows n v w alone h =
    let row = h.leaves.row in
    none-some w (sym (no_steps row n v (alone h.at row h.leaves.there)) ∙ h.leaves.leaves)
