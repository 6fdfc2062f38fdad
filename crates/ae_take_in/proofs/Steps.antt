-- Numbers of names with the steps that state them.
use Rattle.std.specs.Prelude.{ℕ, Bool, List, [], ◌∷◌, ◌≡◌, Option, Some, None}
use Rattle.std.proofs.Common.{refl, sym, ap, ◌∙◌, subst, inr}
use Rattle.std.proofs.lemmas.Option.{same_Some, slice_get_within}
use Rattle.ae_math.specs.Forms.{Form, single}
use Rattle.ae_core.specs.declared.terms.Term.{Term}
use Rattle.ae_core.specs.declared.problems.Signature.{Signature}
use Rattle.ae_num.specs.Forms.{meaning, SameMeaning}
use Rattle.ae_num.specs.declared.forms.Lin.{Lin}
use Rattle.ae_linear.specs.declared.rows.Row.{Row}
use Rattle.ae_linear.specs.Rows.{row_at}
use Rattle.ae_store.specs.Growing.{IsFront}
use Rattle.ae_store.proofs.EnterLaws.{front_same}
use Rattle.ae_just.specs.Steps.{Fits}
use Rattle.ae_just.specs.declared.steps.Step.{Step}
use Rattle.ae_state_steps.specs.ValueSteps.{sort_for, IsNumberName, IsWritten, name_side, value_side}
use Rattle.ae_value_steps.specs.Stating.{AddsStep, IsStated}
use Rattle.ae_value_steps.proofs.Added.{states_value}
use Rattle.ae_value_table.specs.Table.{Contents, own, number_at, just_at}
use Rattle.ae_value_fitting.specs.Fitting.{AreSaid}
use Rattle.ae_value_fitting.specs.Sources.{SaysValue, by_number, RestsOnValues}
use Rattle.ae_value_fitting.proofs.Resting.{rests_still, says_within}
use Rattle.ae_value_fitting.proofs.Written.{number_by, own_normal, own_means, one_sort}
use Rattle.ae_first_values.specs.declared.numbers.Given.{Given}
use Rattle.ae_take_in.specs.Inner.Operations.{IsGiven}
use Rattle.ae_take_in.proofs.Resting.{rests_none, rests_one, rests_two}

pub own_meaning : (n : ℕ) (l : Lin) → l ≡ own n → SameMeaning (meaning l) (single n)
own_meaning n l e = subst (λ (f : Lin). SameMeaning (meaning f) (single n)) (sym e) (own_means n)

module _ (sig : Signature) (ts : List Term) where
  pub own_written : (real : Bool) (n : ℕ) → IsNumberName sig ts real n → (l : Lin) → l ≡ own n → IsWritten sig ts real n l
  own_written real n name l e = subst (IsWritten sig ts real n) (sym e) (record { name = name; parts = (name, tt); normal = own_normal n })

  pub stated_by : (old new : List Step) (real : Bool) (n : ℕ) (l : Lin) (id : ℕ) (rests : List ℕ) → IsWritten sig ts real n l → AddsStep old new id (name_side real n l) (value_side real l) rests → IsStated sig ts new real n l id
  stated_by old new real n l id rests w a = record { written = w; stated = states_value old new id real n l rests a }

  -- ---- the number of a row, and that of a name without one
  module _ (steps : List Step) (c : Contents) (said : AreSaid sig ts steps c) (real : Bool) (n : ℕ) where
    pub row_stated : IsNumberName sig ts real n → (row : Row) (step : ℕ) → row_at c.rows n ≡ Some row → just_at c n ≡ Some step → (v : Lin) → v ≡ number_at c n → IsStated sig ts steps real n v step
    row_stated name row step at just v e =
        let w = said.numbers n row at in
        let kind : w.real ≡ real = one_sort w.real real (same_Some (sort_for w.real) (sort_for real) (sym w.stated.written.name ∙ name)) in
        let same : row.value ≡ v = sym (e ∙ ap (λ (o : Option Row). number_by o n) at) in
        let number : w.step ≡ step = same_Some w.step step (sym w.just ∙ just) in
        subst (λ (b : Bool). IsStated sig ts steps b n v step) kind
        (subst (λ (l : Lin). IsStated sig ts steps w.real n l step) same (subst (λ (k : ℕ). IsStated sig ts steps w.real n row.value k) number w.stated))

    pub row_rests : Fits sig ts steps → (row : Row) (step : ℕ) → row_at c.rows n ≡ Some row → just_at c n ≡ Some step → RestsOnValues steps steps c [] step
    row_rests fits row step at just =
        let v : SaysValue c step = record { name = n; put = by_number row at; just = just } in
        rests_still sig ts steps steps (front_same steps) fits c [] step (says_within sig ts steps c said step v) (inr v)

    pub own_number : ((row : Row) (step : ℕ) → row_at c.rows n ≡ Some row → just_at c n ≡ Some step → ⊥) → own n ≡ number_at c n
    own_number none = by_row (row_at c.rows n) refl
      where
        by_row : (o : Option Row) → row_at c.rows n ≡ o → own n ≡ number_at c n
        by_row None e = sym (ap (λ (o : Option Row). number_by o n) e)
        by_row (Some row) e = let w = said.numbers n row e in absurd (none row w.step e w.just)

  -- ---- numbers that are computed from those of two names, of one, of none
  module _ (c : Contents) (real : Bool) (n : ℕ) (form : Form ℕ) (g : Given) (means : SameMeaning (meaning g.value) form) (written : IsWritten sig ts real n g.value) where
    pub by_two : (old a b new : List Step) → AreSaid sig ts old c → IsFront old a → Fits sig ts a → IsFront a b → Fits sig ts b → Fits sig ts new → (x y : Given) (left : ℕ) → IsStated sig ts a real left x.value x.step
        → RestsOnValues old a c [] x.step → RestsOnValues a b c [] y.step → AddsStep b new g.step (name_side real n g.value) (value_side real g.value) (x.step ∷ y.step ∷ []) → IsGiven sig ts old new c real n form g
    by_two old a b new said f fa h fb fn x y left st rx ry adds = record {
      means = means;
      stated = stated_by b new real n g.value g.step (x.step ∷ y.step ∷ []) written adds;
      rests =
          rests_two sig ts old a b new c said f fa h fb fn x.step y.step g.step (name_side real n g.value) (value_side real g.value) adds (slice_get_within a x.step _ st.stated.there) rx ry;
    }

    pub by_one : (old a new : List Step) → Fits sig ts new → (x : Given) → RestsOnValues old a c [] x.step → AddsStep a new g.step (name_side real n g.value) (value_side real g.value) (x.step ∷ []) → IsGiven sig ts old new c real n form g
    by_one old a new fn x rx adds = record {
      means = means;
      stated = stated_by a new real n g.value g.step (x.step ∷ []) written adds;
      rests = rests_one sig ts old a new x.step g.step (name_side real n g.value) (value_side real g.value) adds fn c rx;
    }

    pub by_none : (old new : List Step) → Fits sig ts new → AddsStep old new g.step (name_side real n g.value) (value_side real g.value) [] → IsGiven sig ts old new c real n form g
    by_none old new fn adds = record {
      means = means;
      stated = stated_by old new real n g.value g.step [] written adds;
      rests = rests_none sig ts old new g.step (name_side real n g.value) (value_side real g.value) adds fn c;
    }
