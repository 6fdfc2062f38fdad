-- The line that adds up an inequality and the values of its sides is allowed, and gives the row.
use Rattle.std.specs.Prelude.{ℕ, ℤ, pos, neg_ℤ, ◌*ℤ◌, ◌<ℤ◌, ◌≡◌, Bool, true, false, List, [], ◌∷◌, ◌++◌}
use Rattle.std.proofs.Common.{refl, sym, ap, ◌∙◌, subst, inl}
use Rattle.ae_math.specs.Fractions.{whole}
use Rattle.ae_math.specs.Forms.{minus, scale}
use Rattle.ae_math.proofs.FormLaws.{same_trans, scale-same}
use Rattle.ae_core.specs.Decided.{Term_discrete}
use Rattle.ae_core.specs.declared.terms.Term.{Term}
use Rattle.ae_core.specs.declared.formulas.Lit.{Lit}
use Rattle.ae_core.specs.declared.problems.Signature.{Signature}
use Rattle.ae_core.specs.declared.proofs.EqLine.{EqLine}
use Rattle.ae_num.specs.declared.forms.Lin.{Lin}
use Rattle.ae_num.specs.Forms.{meaning, SameMeaning, IsNormal}
use Rattle.ae_num.proofs.MeaningLaws.{product_positive}
use Rattle.ae_rules.specs.Linear.{Linear, IsSame}
use Rattle.ae_rules.specs.Lines.{Fact, equal, Stated, Allowed, AllAllowed, fact_ok, gap, total, states, HaveSort}
use Rattle.ae_row_lines.specs.Says.{Says}
use Rattle.ae_rules.proofs.Written.{all_append}
use Rattle.ae_row_lines.proofs.TwoRows.{product_sign}
use Rattle.ae_first_values.proofs.Keys.{keys_of_difference}
use Rattle.ae_store.specs.Terms.{named}
use Rattle.ae_just.specs.Sides.{side_term}
use Rattle.ae_just.proofs.ValueLaws.{apart_line}
use Rattle.ae_state_steps.specs.ValueSteps.{sort_for, name_side, value_side, IsNumberName, IsWritten}
use Rattle.ae_state_steps.proofs.OverTerms.{over_terms, over_same, over_minus, says_value}
use Rattle.ae_state_steps.proofs.SideSorts.{value_sorted, name_sorted}
use Rattle.ae_bound_blocks.specs.declared.given.Given.{Given}
use Rattle.ae_bound_blocks.specs.Said.{relation_of, row_fact, row_line, AreBuilt, AreNumbersOf, IsBuiltLine, IsGiven}
use Rattle.ae_base.proofs.AllOf.{all_push}
use Rattle.ae_just.proofs.BuiltSides.{numbers_of}
use Rattle.ae_num.specs.Limits.{FitsLimits}
use Rattle.ae_bound_blocks.proofs.Building.{neg_fits, row_built, times_fit}
use Rattle.ae_bound_blocks.proofs.Saying.{says_row}
use Rattle.ae_bound_blocks.proofs.Sorting.{is_number_sort, row_sorted, row_good, line_states}
use Rattle.ae_given_rows.specs.Inner.Lines.{parts_between}
use Rattle.ae_given_rows.proofs.Gaps.{row_gap}

-- what the lines of the values state, and what the hypothesis does
abbrev pub value_fact : List Term → Bool → ℕ → Lin → Fact
value_fact ts real n l = equal (side_term ts (name_side real n l)) (side_term ts (value_side real l))

abbrev pub hyp_fact : List Term → Bool → ℕ → ℕ → Fact
hyp_fact ts strict upper lower = record { relation = relation_of strict; left = named ts lower; right = named ts upper }

module _ (sig : Signature) (ts : List Term) (real : Bool) (form v w : Lin) (upper lower : ℕ) (normal : IsNormal form) (above : IsWritten sig ts real upper v) (below : IsWritten sig ts real lower w)
    (same : SameMeaning (meaning form) (minus (meaning v) (meaning w))) where
  abbrev V : Lin → Linear
  V l = over_terms ts (meaning l)

  pub numbers : AreNumbersOf sig ts real form
  numbers = keys_of_difference (IsNumberName sig ts real) v w form normal same above.parts below.parts

  parted : IsSame (V form) (minus (V v) (V w))
  parted = same_trans Term_discrete (V form) (over_terms ts (minus (meaning v) (meaning w))) (minus (V v) (V w)) (over_same ts (meaning form) (minus (meaning v) (meaning w)) same) (over_minus ts (meaning v) (meaning w))

  gap_is : (strict : Bool) → IsSame (gap (row_fact ts real strict form)) (scale (whole form.den) (minus (V v) (V w)))
  gap_is strict =
      same_trans Term_discrete (gap (row_fact ts real strict form)) (scale (whole form.den) (V form)) (scale (whole form.den) (minus (V v) (V w))) (row_gap ts real strict form normal)
      (scale-same Term_discrete (whole form.den) (V form) (minus (V v) (V w)) parted)

  abbrev facts : Bool → List (ℤ × Fact)
  facts strict = (w.den *ℤ v.den, hyp_fact ts strict upper lower) ∷ (neg_ℤ v.den, value_fact ts real lower w) ∷ (w.den, value_fact ts real upper v) ∷ []

  module _ (d : ℤ) (times : d *ℤ form.den ≡ w.den *ℤ v.den) where
    positive : pos 0 <ℤ d
    positive = product_sign d form.den w.den v.den normal.positive (below.normal).positive (above.normal).positive times

    product : pos 0 <ℤ (w.den *ℤ v.den)
    product = product_positive w.den v.den (below.normal).positive (above.normal).positive

    sums : (strict : Bool) → IsSame (scale (whole d) (gap (row_fact ts real strict form))) (total (facts strict))
    sums strict =
        apart_line d form.den w.den v.den (named ts lower) (named ts upper) (V w) (V v) (row_fact ts real strict form) (value_fact ts real lower w) (value_fact ts real upper v) (gap_is strict)
        (says_value ts real lower w below.normal) (says_value ts real upper v above.normal) times

    module _ (hyps : List Lit) (earlier : List EqLine) (below_line above_line : ℕ) (one : Stated earlier below_line (value_fact ts real lower w)) (other : Stated earlier above_line (value_fact ts real upper v)) where
      pub row_allowed : (strict : Bool) → Stated earlier 0 (hyp_fact ts strict upper lower) → Allowed sig hyps earlier (row_line ts real strict form d (parts_between w.den v.den below_line above_line))
      row_allowed true hyp = (
        positive,
        facts true,
        (refl, hyp, (refl, one, (refl, other, tt))),
        (product, (tt, (tt, tt))),
        inl refl,
        record {
          sort = sort_for real;
          numeric = is_number_sort real;
          sorted = row_sorted sig ts real true form normal numbers;
          all_sorted = ((below.name, above.name), ((name_sorted sig ts real lower w below, value_sorted sig ts real lower w below), ((name_sorted sig ts real upper v above, value_sorted sig ts real upper v above), tt)));
          sums = sums true;
        },
      )
      row_allowed false hyp = (
        positive,
        facts false,
        (refl, hyp, (refl, one, (refl, other, tt))),
        (product, (tt, (tt, tt))),
        record {
          sort = sort_for real;
          numeric = is_number_sort real;
          sorted = row_sorted sig ts real false form normal numbers;
          all_sorted = ((below.name, above.name), ((name_sorted sig ts real lower w below, value_sorted sig ts real lower w below), ((name_sorted sig ts real upper v above, value_sorted sig ts real upper v above), tt)));
          sums = sums false;
        },
      )

      -- the lines with this one behind them give the row
      pub row_given : FitsLimits (w.den *ℤ v.den) → AreBuilt sig ts earlier → (strict : Bool) (g : Given) → Stated earlier 0 (hyp_fact ts strict upper lower) → AllAllowed sig (fact_ok sig) hyps [] earlier → g.deriv.hyps ≡ hyps
          → g.deriv.lines ≡ earlier ++ row_line ts real strict form d (parts_between w.den v.den below_line above_line) ∷ [] → g.multiple ≡ form.den → IsGiven sig ts real (record { lin = form; strict = strict }) g
      row_given fits built strict g hyp allowed h l m =
          let ps = parts_between w.den v.den below_line above_line in
          let last = row_line ts real strict form d ps in
          let is : states last ≡ row_fact ts real strict form = line_states ts real strict form d ps in
          let all : AllAllowed sig (fact_ok sig) hyps [] (earlier ++ last ∷ []) =
          all_append sig (fact_ok sig) hyps [] earlier (last ∷ []) allowed ((ap (fact_ok sig) is ∙ row_good sig ts real strict form normal numbers, row_allowed strict hyp), tt) in
          record {
            allowed = subst (λ (hs : List Lit). AllAllowed sig (fact_ok sig) hs [] g.deriv.lines) (sym h) (subst (AllAllowed sig (fact_ok sig) hyps []) (sym l) all);
            front = earlier;
            last = last;
            lines = l;
            relation = ap (λ (f : Fact). f.relation) is;
            says = subst (λ (n : ℤ). Says (named ts) n (meaning form) (states last)) (sym m) (subst (Says (named ts) form.den (meaning form)) (sym is) (says_row ts real strict form normal));
            sorted = subst (HaveSort sig (sort_for real)) (sym is) (row_sorted sig ts real strict form normal numbers);
            numbers = numbers;
            integers = numbers_of sig ts real upper above.name;
            fits = subst FitsLimits (sym m) normal.within.0;
            built = subst (AreBuilt sig ts) (sym l)
                (all_push (IsBuiltLine sig ts) earlier last built
                (row_built sig ts real (numbers_of sig ts real upper above.name) form normal numbers strict d ps (times_fit d form.den (w.den *ℤ v.den) normal.positive times fits)
                (fits, (neg_fits v.den (above.normal).within.0, ((below.normal).within.0, tt)))));
          }
