-- The rows of inequality literals agree with a journal.
use Rattle.std.specs.Prelude.{ℕ, ◌≡◌, ◌⊎◌, Bool, true, List, ◌++◌, Some, length}
use Rattle.std.specs.List.{AllByRecursion, Contains}
use Rattle.std.proofs.Common.{sym, ap, ◌∙◌, inl, inr}
use Rattle.std.proofs.lemmas.Option.{same_Some}
use Rattle.std.proofs.lemmas.List.Elements.{Contains-append_left, Contains-append_cases}
use Rattle.ae_base.proofs.AllOf.{all_append, all_from_places}
use Rattle.ae_core.specs.declared.terms.Term.{Term}
use Rattle.ae_core.specs.declared.formulas.Lit.{Lit}
use Rattle.ae_num.specs.declared.forms.Lin.{Lin}
use Rattle.ae_num.specs.Forms.{meaning}
use Rattle.ae_rows.specs.Rows.{IsOver}
use Rattle.ae_journal.specs.Values.{Sum, sum_of_lin, sum_in, minus_val}
use Rattle.ae_journal.specs.States.{inequality}
use Rattle.ae_journal.specs.Sides.{AreWhole}
use Rattle.ae_journal.specs.Standing.{Setting, MayStand, SurelyStands, value_now}
use Rattle.ae_journal.specs.Rows.{IsRow}
use Rattle.ae_journal.specs.declared.lines.Line.{Line}
use Rattle.ae_journal.proofs.Splits.{contains_at}
use Rattle.ae_combine_lines.specs.Laws.{IsSure}
use Rattle.ae_combine_lines.specs.Laws.IsSure.{of_literal, of_line}
use Rattle.ae_bounds.specs.declared.rows.Row.{Row}
use Rattle.ae_bounds.specs.declared.rows.Origin.{Origin}
use Rattle.ae_bounds.specs.declared.rows.Origin.TheVariants.{Assumed, Combined}
use Rattle.ae_bounds.specs.Rounding.{HasForm}
use Rattle.ae_bound_rest.specs.Rest.{counted}
use Rattle.ae_bound_rest.specs.Laws.{IsStanding, IsSorted, AreAgreed}
use Rattle.ae_agreed_rows.specs.Kept.{IsKeptFor, AreKeptFor, NoneCombined}
use Rattle.ae_agreed_rows.specs.Laws.{FirstRowsAgree, MoreRowsAgree}
use Rattle.ae_agreed_rows.proofs.Single.{counted_is, has_form, row_named, row_whole, row_sorted, row_stands, counted_stands}

-- a row that was assumed isn't combined
not_combined : (r : Row) (number lower upper : ℕ) → r.from ≡ Assumed number → r.from ≡ Combined lower upper → ⊥
not_combined r number lower upper e d = let z : ◌≡◌ {A = Origin} (Assumed number) (Combined lower upper) = sym e ∙ d in cc z

-- the sum of the form of a row that was kept for a literal, by the sides of the literal
pub same_sum : (x : Setting) (js : List Line) (l : Lit) (r : Row) (k : IsKeptFor x js l r) (s t : Term) (strict : Bool) → inequality l ≡ Some (s, t, strict)
    → (sum_of_lin k.form ≡ sum_in (minus_val (value_now x js s) (value_now x js t))) × (k.strict ≡ strict) × ((k.of).upper ≡ s)
same_sum x js l r k s t strict e =
    let z = same_Some ((k.of).upper, (k.of).lower, k.strict) (s, t, strict) (sym (k.of).is ∙ e) in (
      (k.of).sum ∙ (λ i. sum_in (minus_val (value_now x js (z i).0) (value_now x js (z i).1))),
      ap (λ (w : Term × Term × Bool). w.2) z,
      ap (λ (w : Term × Term × Bool). w.0) z,
    )

module _ (x : Setting) (js : List Line) (ls : List Lit) (rows : List Row) (kept : AreKeptFor x js ls rows) (may : (l : Lit) → Contains ls l → MayStand x js l) where
  -- ---- of each row
  all_stand : AllByRecursion (λ (r : Row). IsOver 0 (meaning r.lin) ⊎ IsRow x js r.strict (sum_of_lin r.lin)) rows
  all_stand =
      all_from_places (λ (r : Row). IsOver 0 (meaning r.lin) ⊎ IsRow x js r.strict (sum_of_lin r.lin)) rows
      (λ i r at. let k = kept.each r (contains_at rows i r at) in row_stands x js k.0 r k.2 (may k.0 k.1))

  all_named : AllByRecursion (λ (r : Row). IsOver (length x.names) (meaning r.lin)) rows
  all_named = all_from_places (λ (r : Row). IsOver (length x.names) (meaning r.lin)) rows (λ i r at. let k = kept.each r (contains_at rows i r at) in row_named x js k.0 r k.2)

  all_whole : AllByRecursion (λ (r : Row). r.integral ≡ true → AreWhole x.problem.signature x.names r.lin) rows
  all_whole = all_from_places (λ (r : Row). r.integral ≡ true → AreWhole x.problem.signature x.names r.lin) rows (λ i r at. let k = kept.each r (contains_at rows i r at) in row_whole x js k.0 r k.2)

  counted_rows : (r : Row) → Contains rows r → IsStanding x js (counted r)
  counted_rows r c = let k = kept.each r c in counted_stands x js k.0 r k.2 (may k.0 k.1)

  sorted_rows : (r : Row) → Contains rows r → IsSorted x r
  sorted_rows r c = let k = kept.each r c in row_sorted x js k.0 r k.2

  none_made : (r : Row) (lower upper : ℕ) → Contains rows r → r.from ≡ Combined lower upper → ⊥
  none_made r lower upper c e = let k = kept.each r c in not_combined r (k.2).number lower upper ((k.2).kept).from e

  -- the row of a literal
  literal_row : (l : Lit) (s t : Term) (strict : Bool) → Contains ls l → inequality l ≡ Some (s, t, strict) → SurelyStands x js l
      → (r : Row) × (tag : ℕ) × Contains rows r × (r.from ≡ Assumed tag) × (r.counts ≡ true) × (sum_of_lin (counted r).lin ≡ sum_in (minus_val (value_now x js s) (value_now x js t)))
  literal_row l s t strict c e h =
      let k = kept.all l s t strict c e in
      (k.0, (k.2).number, k.1, ((k.2).kept).from, (k.2).counting h, ap (λ (w : Row). sum_of_lin w.lin) (counted_is x js l k.0 k.2) ∙ (same_sum x js l k.0 k.2 s t strict e).0)

  -- ---- the first rows
  module _ (sure : (l : Lit) (s t : Term) (strict : Bool) → SurelyStands x js l → inequality l ≡ Some (s, t, strict) → Contains ls l) (none : NoneCombined js) where
    all_there : (g : Sum) → IsSure x js g → (r : Row) × (f : Lin) × Contains rows r × HasForm r f × (sum_of_lin f ≡ g)
    all_there _ (of_literal l s t b h e) =
        let k = kept.all l s t b (sure l s t b h e) e in
        (k.0, (k.2).form, k.1, has_form x js l k.0 k.2 ((k.2).counting h), (same_sum x js l k.0 k.2 s t b e).0)
    all_there _ (of_line before after b h e only) = absurd (none before after b h e only)

    pub first_agree : AreAgreed x js rows
    first_agree = record {
      standing = record { stand = all_stand; named = all_named; whole = all_whole; all = all_there };
      was = λ r tag c e. counted_rows r c;
      sorted = sorted_rows;
      literals = λ l s t strict h e. literal_row l s t strict (sure l s t strict h e) e h;
      lines = λ before after b h e only. absurd (none before after b h e only);
      noted = λ r lower upper c e some. absurd (none_made r lower upper c e);
    }

  -- ---- more rows
  module _ (old : List Row) (a : AreAgreed x js old) where
    pub more_agree : AreAgreed x js (old ++ rows)
    more_agree = record {
      standing = record {
        stand = all_append (λ (r : Row). IsOver 0 (meaning r.lin) ⊎ IsRow x js r.strict (sum_of_lin r.lin)) old rows (a.standing).stand all_stand;
        named = all_append (λ (r : Row). IsOver (length x.names) (meaning r.lin)) old rows (a.standing).named all_named;
        whole = all_append (λ (r : Row). r.integral ≡ true → AreWhole x.problem.signature x.names r.lin) old rows (a.standing).whole all_whole;
        all = λ g s. let w = (a.standing).all g s in (w.0, w.1, Contains-append_left old rows w.0 w.2, w.3, w.4);
      };
      was = λ r tag c e. elim (Contains-append_cases old rows r c) [ inl d ↦ a.was r tag d e | inr d ↦ counted_rows r d ];
      sorted = λ r c. elim (Contains-append_cases old rows r c) [ inl d ↦ a.sorted r d | inr d ↦ sorted_rows r d ];
      literals = λ l s t strict h e. let w = a.literals l s t strict h e in (w.0, w.1, Contains-append_left old rows w.0 w.2, w.3, w.4, w.5);
      lines = λ before after b h e only. let w = a.lines before after b h e only in (w.0, w.1, w.2, Contains-append_left old rows w.0 w.3, w.4, w.5, w.6);
      noted = λ r lower upper c e some. elim (Contains-append_cases old rows r c) [ inl d ↦ a.noted r lower upper d e some | inr d ↦ absurd (none_made r lower upper d e) ];
    }

pub first_rows_agree : FirstRowsAgree
first_rows_agree x js ls rows kept st none = first_agree x js ls rows kept st.may st.sure none

pub more_rows_agree : MoreRowsAgree
more_rows_agree x js ls rows more a kept may = more_agree x js ls more kept may rows a
