-- A difference of values that leaves the limits is licensed.
use Rattle.std.specs.Prelude.{ℕ, ◌≡◌, Bool, List}
use Rattle.std.proofs.Common.{sym, ap, subst}
use Rattle.ae_core.specs.declared.formulas.Lit.{Lit}
use Rattle.ae_core.specs.declared.terms.Term.{Term}
use Rattle.ae_num.specs.Forms.{IsNormal}
use Rattle.ae_num.specs.declared.forms.Lin.{Lin}
use Rattle.ae_journal.specs.Licences.{IsLicensed}
use Rattle.ae_journal.specs.Standing.{Setting, MayStand}
use Rattle.ae_journal.specs.Values.{sum_in}
use Rattle.ae_journal.specs.declared.answers.WideAt.{WideAt}
use Rattle.ae_journal.specs.declared.lines.Line.{Line}
use Rattle.ae_store.specs.Stores.{Stored}
use Rattle.ae_store.specs.Terms.{named}
use Rattle.ae_store.proofs.StoreLaws.{name_term}
use Rattle.ae_theory.specs.Names.{terms_in}
use Rattle.ae_state_steps.specs.ValueSteps.{IsNumberName}
use Rattle.ae_entering.specs.Laws.{EntriesFit}
use Rattle.ae_name_licences.specs.Laws.{IsNow}
use Rattle.ae_value_table.specs.Table.{number_at}
use Rattle.ae_state.specs.declared.holding.Holding.{Holding}
use Rattle.ae_turns.specs.Representing.{IsTaken}
use Rattle.ae_given_rows.specs.Sides.{IsBetween}
use Rattle.ae_row_differences.specs.Laws.{InequalityWidthsAreLicensed}
use Rattle.ae_row_differences.specs.Widths.{IsDifferenceWide}
use Rattle.ae_literal_rows.specs.Beside.{IsBeside}
use Rattle.ae_literal_rows.proofs.Values.{written_is, number_now}

module _ (o : Holding) (s : Stored) (t : IsTaken o s) (law : EntriesFit) where
  -- the value by the journal is the number that is held
  now : (real : Bool) (n : ℕ) (name : IsNumberName s.signature (terms_in s) real n) (x : Setting) (js : List Line) → IsBeside x js s o → (u : Term) → named (terms_in s) n ≡ u
      → (v : Lin) → v ≡ number_at o.values n → IsNow x js u v
  now real n name x js b u e v same =
      subst (λ (z : Term × Lin). IsNow x js z.0 z.1) (λ i. (e i, sym same i)) (ap sum_in (number_now o s t law real n name x js b))

  module _ (real : Bool) (upper lower : ℕ) (up : IsNumberName s.signature (terms_in s) real upper) (low : IsNumberName s.signature (terms_in s) real lower) where
    pub width_is : InequalityWidthsAreLicensed → (x : Setting) (js : List Line) → IsBeside x js s o → (l : Lit) (strict : Bool) → IsBetween (terms_in s) l strict upper lower → MayStand x js l
        → (v w : Lin) → v ≡ number_at o.values upper → w ≡ number_at o.values lower → (wide : WideAt) → IsDifferenceWide v w wide → IsLicensed x js wide
    width_is licensed x js b l strict between may v w first second wide d =
        licensed x js l between.above between.below strict v w wide may between.is
        (now real upper up x js b between.above (name_term (terms_in s) upper between.above between.upper_is) v first)
        (now real lower low x js b between.below (name_term (terms_in s) lower between.below between.lower_is) w second)
        (subst IsNormal (sym first) (written_is o s t law real upper up).normal) (subst IsNormal (sym second) (written_is o s t law real lower low).normal) d
