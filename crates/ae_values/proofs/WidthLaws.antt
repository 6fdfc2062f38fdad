-- The row in which a product or a sum leaves the limits is the value of its name.
use Rattle.std.specs.Prelude.{ℕ, ◌<◌, ◌≡◌, List, length, Option, Some, None, IfNone}
use Rattle.std.proofs.Common.{refl, sym, ap, ◌∙◌, subst}
use Rattle.std.proofs.lemmas.Option.{none-some}
use Rattle.ae_base.proofs.ListFacts.{value_at}
use Rattle.ae_core.specs.Sorts.{sort_of}
use Rattle.ae_core.specs.declared.terms.Term.{Term}
use Rattle.ae_core.specs.declared.problems.Signature.{Signature}
use Rattle.ae_num.specs.declared.forms.Lin.{Lin}
use Rattle.ae_num.specs.declared.forms.Value as value
use Rattle.ae_num.specs.declared.numbers.Wide.{Wide}
use Rattle.ae_journal.specs.declared.answers.WideAt.{WideAt}
use Rattle.ae_linear.specs.declared.rows.Row.{Row}
use Rattle.ae_linear.specs.Rows.{FitsAt, IsFirstWide}
use Rattle.ae_store.proofs.StoreLaws.{name_term}
use Rattle.ae_just.specs.declared.steps.Step.{Step}
use Rattle.ae_just.specs.Steps.{Fits}
use Rattle.ae_settled.specs.Valued.{AreValues}
use Rattle.ae_state_steps.specs.ValueSteps.{sort_for}
use Rattle.ae_value_fitting.specs.Fitting.{system_in, ArePatterns, AreSaid}
use Rattle.ae_value_table.specs.Table.{Contents, number_at, held}
use Rattle.ae_value_table.specs.Versions.{IsAs}
use Rattle.ae_values.specs.Widths.{IsPutWide}
use Rattle.ae_values.specs.declared.widths.Leaving.{Leaving}
use Rattle.ae_values.specs.Inner.Leaving.{IsRowWide}
use Rattle.ae_value_fitting.proofs.Written.{number_by, number_held}

-- where nothing of a row leaves the limits, the number fits there
pub none_leaves : (found : Option Leaving) (row : Option Row) (name : ℕ) (number : Lin) → ((l : Leaving) → found ≡ Some l → ⊥) → IfNone found (FitsAt row name number) → FitsAt row name number
none_leaves None row name number n h = h
none_leaves (Some l) row name number n h = absurd (n l refl)

-- where each row up to the end fits, none is wide
pub none_wide : (rows : ℕ → Option Row) (name : ℕ) (number : Lin) (end : ℕ) → ((n : ℕ) → n < end → FitsAt (rows n) name number) → (wide : Wide) (w : IsFirstWide rows name number wide) → w.at < end → ⊥
none_wide rows name number end fits wide w l = none-some wide (sym (fits w.at l w.leaves.row w.leaves.there) ∙ w.leaves.leaves)

pub put_wide : (sig : Signature) (ts : List Term) (steps : List Step) (c : Contents) → ArePatterns sig ts (held c) → AreValues sig (system_in ts c) → AreSaid sig ts steps c → Fits sig ts steps
    → (name : ℕ) (number : Lin) (w : WideAt) → IsRowWide c name number w → IsPutWide c name number w
put_wide sig ts steps c patterns are said fits name number w r =
    let n = r.of in
    let s = said.numbers n r.leaving.row r.leaving.there in
    let inside : n < length ts = ((fits.within.each s.step _ s.stated.stated.there).0).0 in
    let t = value_at ts n inside in
    let sorted : sort_of sig t.0 ≡ Some (sort_for s.real) = sym (ap (sort_of sig) (name_term ts n t.0 t.1)) ∙ s.stated.written.name in
    let form : number_at c n ≡ w.left = ap (λ (o : Option Row). number_by o n) r.leaving.there ∙ sym r.leaving.form in
    record {
      step = r.step;
      key = r.key;
      right = r.right;
      of = n;
      left = number_held sig ts c patterns are s.real n t.0 t.1 sorted ∙ ap (λ (f : Lin). Some (value.Number f)) form;
      wide = r.leaving.wide;
      before = r.before;
    }

-- where the same rows are held, and the number is equal
pub row_wide_as : (c d : Contents) → IsAs d c → (name : ℕ) (f g : Lin) → f ≡ g → (w : WideAt) → IsRowWide d name f w → IsRowWide c name g w
row_wide_as c d same name f g e w r = subst (λ (h : Lin). IsRowWide c name h w) e (record {
  step = r.step;
  key = r.key;
  right = r.right;
  of = r.of;
  leaving = record { row = r.leaving.row; there = sym (same.rows r.of) ∙ r.leaving.there; form = r.leaving.form; wide = r.leaving.wide };
  before = λ n l row at. r.before n l row (same.rows n ∙ at);
})
