-- A number that may be put for a name: its names have no rows, and with it put the values are values and can be stated.
use Rattle.std.specs.Prelude.{ℕ, ◌<◌, ◌≡◌, ◌≢◌, Bool, true, false, List, length, Option, Some, None}
use Rattle.std.specs.List.{AllByRecursion}
use Rattle.std.proofs.Common.{refl, sym, ap, ◌∙◌, subst, arith}
use Rattle.std.proofs.Math.Nat.{min-le_left}
use Rattle.std.proofs.lemmas.List.{length-map, length-take}
use Rattle.std.proofs.lemmas.Option.{same_Some, none-some}
use Rattle.ae_base.proofs.AllOf.{all_weaker}
use Rattle.ae_base.proofs.Tests.{by_bool}
use Rattle.ae_math.specs.Forms.{single}
use Rattle.ae_core.specs.Sorts.{sort_of}
use Rattle.ae_core.specs.declared.terms.Term.{Term}
use Rattle.ae_core.specs.declared.problems.Signature.{Signature}
use Rattle.ae_num.specs.Forms.{meaning, SameMeaning, has_key}
use Rattle.ae_num.specs.declared.forms.Part.{Part}
use Rattle.ae_num.specs.declared.forms.Lin.{Lin}
use Rattle.ae_num.specs.declared.forms.Value as value
use Rattle.ae_linear.specs.declared.rows.Row.{Row}
use Rattle.ae_linear.specs.Rows.{row_at, IsFree, IsSubstitutedAt, ArePut, FitsAt}
use Rattle.ae_pmap.specs.Forest.{present}
use Rattle.ae_pmap.specs.Pairs.{found, with_at}
use Rattle.ae_pmap.proofs.PairLemmas.{at_same, at_other}
use Rattle.ae_store.specs.Shapes.{shapes}
use Rattle.ae_store.specs.Stores.{Stored}
use Rattle.ae_store.specs.Terms.{terms}
use Rattle.ae_store.proofs.EnterLaws.{front_same}
use Rattle.ae_store.proofs.StoreLaws.{name_term}
use Rattle.ae_just.specs.declared.steps.Step.{Step}
use Rattle.ae_just.specs.Steps.{Fits}
use Rattle.ae_settled.specs.Valued.{AreValues, IsOwnNumber}
use Rattle.ae_state_steps.specs.ValueSteps.{sort_for, IsNumberName, IsWritten}
use Rattle.ae_value_steps.specs.Stating.{IsStated}
use Rattle.ae_value_changes.specs.Put.{IsNumberPut, NumbersPut}
use Rattle.ae_value_table.specs.declared.patterns.Entry.{Entry}
use Rattle.ae_value_table.specs.Table.{Contents, just_at, number_at, held, values, value_in}
use Rattle.ae_value_table.proofs.ValueLaws.{same_numbers}
use Rattle.ae_value_fitting.specs.Fitting.{system_in, held_by, ArePatterns, AreSaid}
use Rattle.ae_value_fitting.specs.Sources.{SaysValue, by_number}
use Rattle.ae_values.specs.declared.occurrences.Change.{Change}
use Rattle.ae_values.specs.Inner.Before.{IsBefore, IsChanged}
use Rattle.ae_values.specs.Inner.Putting.{IsRestatable, IsPuttable}
use Rattle.ae_values.proofs.NumberPuts.{put_at}
use Rattle.ae_value_fitting.proofs.Written.{number_held, written as all_written}
use Rattle.ae_values.proofs.PutValues.{number_put}
use Rattle.ae_values.proofs.Said.{key_of_all, no_row, restatable}

-- ---- names with rows have values
pub rows_within : (sig : Signature) (ts : List Term) (steps : List Step) (c : Contents) → Fits sig ts steps → AreValues sig (system_in ts c) → AreSaid sig ts steps c → (n : ℕ) (row : Row) → row_at c.rows n ≡ Some row → n < c.taken
rows_within sig ts steps c fits are said n row at =
    let w = said.numbers n row at in
    let inside : n < length ts = ((fits.within.each w.step _ w.stated.stated.there).0).0 in
    omega (arith, inside, are.one_each, length-map (held c) (λ (e : Entry). value_in c e.pattern), length-take c.taken c.entries, min-le_left c.taken (length c.entries))

pub leaves_within : (sig : Signature) (ts : List Term) (steps : List Step) (c : Contents) → Fits sig ts steps → AreValues sig (system_in ts c) → AreSaid sig ts steps c → (n m : ℕ) → found (present c.leaves) n ≡ Some m → n < c.taken
leaves_within sig ts steps c fits are said n m at =
    let w = said.leaves n m at in
    let inside : n < length ts = (fits.within.each w.step _ w.equal.there).0 in
    omega (arith, inside, are.one_each, length-map (held c) (λ (e : Entry). value_in c e.pattern), length-take c.taken c.entries, min-le_left c.taken (length c.entries))

module _ (s : Stored) (steps : List Step) (c : Contents) (name : ℕ) (number : Lin) (just : ℕ) (real : Bool) (p : IsPuttable s steps c name number just real) where
  abbrev sig : Signature
  sig = s.signature

  abbrev ts : List Term
  ts = terms (shapes s.nodes)

  -- ---- a name that is its own number has no row
  is_own : (key : ℕ) → IsOwnNumber sig (system_in ts c) (sort_for real) key → SameMeaning (meaning (number_at c key)) (single key)
  is_own key o =
      let same : o.value ≡ number_at c key = same_numbers o.value (number_at c key) (same_Some (value.Number o.value) (value.Number (number_at c key)) (sym o.value_is ∙ number_held sig ts c p.patterns p.values real key o.term o.is o.sort)) in
      subst (λ (f : Lin). SameMeaning (meaning f) (single key)) same o.own

  no_row_of : (key : ℕ) → IsOwnNumber sig (system_in ts c) (sort_for real) key → row_at c.rows key ≡ None
  no_row_of key o = no_row (λ n. row_at c.rows n) key p.rows (is_own key o)

  pub none : row_at c.rows name ≡ None
  none = no_row_of name p.own

  pub free : IsFree (λ n. row_at c.rows n) number
  free key h = no_row_of key (key_of_all (IsOwnNumber sig (system_in ts c) (sort_for real)) number.parts key p.over h)

  pub absent : has_key number.parts name ≡ false
  absent = by_bool (has_key number.parts name) (λ t. absurd (key_of_all (λ k. k ≢ name) number.parts name p.other t refl)) (λ f. f)

  -- ---- the number is stated
  numeric : (key : ℕ) → IsOwnNumber sig (system_in ts c) (sort_for real) key → IsNumberName sig ts real key
  numeric key o = ap (sort_of sig) (name_term ts key o.term o.is) ∙ o.sort

  pub written : IsWritten sig ts real name number
  written = record {
    name = numeric name p.own;
    parts = all_weaker (λ (q : Part). IsOwnNumber sig (system_in ts c) (sort_for real) q.key) (λ (q : Part). IsNumberName sig ts real q.key) (λ q o. numeric q.key o) number.parts p.over;
    normal = p.normal;
  }

  pub stated : IsStated sig ts steps real name number just
  stated = record { written = written; stated = p.states }

  -- ---- rows in which the number was put
  module _ (d : Contents) (names : held d ≡ held c) (leaves : present d.leaves ≡ present c.leaves) (put : ArePut (λ n. row_at c.rows n) name number 0 (λ n. row_at d.rows n)) where
    pub number_is_put : IsNumberPut (held_by sig s.nodes c) (sort_for real) name number (values d)
    number_is_put =
        number_put sig s.nodes c d names leaves real name number p.patterns p.own p.normal p.over p.other (λ m. put_at (λ n. row_at c.rows n) (λ n. row_at d.rows n) name number p.normal (is_own name p.own) put m)

    pub values_put : NumbersPut → AreValues sig (system_in ts d)
    values_put law = law (held_by sig s.nodes c) (sort_for real) name number (values d) p.store p.values number_is_put

    pub restatable_all : NumbersPut → ((n : ℕ) → FitsAt (row_at c.rows n) name number) → (changes : List Change) → AllByRecursion (IsBefore c name) changes → AllByRecursion (IsRestatable sig ts steps real name number d) changes
    restatable_all law limits changes each =
        all_weaker (IsBefore c name) (IsRestatable sig ts steps real name number d)
        (restatable sig ts steps steps (front_same steps) c d real name just number p.rows none put p.said p.fits (numeric name p.own)
        (λ n l is. all_written sig ts d (subst (ArePatterns sig ts) (sym names) p.patterns) (values_put law) real n l is) limits)
        changes each

    module _ (justs : (n : ℕ) → just_at d n ≡ with_at (found (present c.justs)) name (Some just) n) where
      pub name_says : SaysValue d just
      name_says = record { name = name; put = by_number (record { value = number; just = 0 }) put.row; just = justs name ∙ at_same (found (present c.justs)) name (Some just) }

      change_says : (change : Change) → IsBefore c name change → SaysValue d change.before.step
      change_says change b =
          let n = change.name in
          let differ : n ≢ name = λ e. none-some b.row (sym none ∙ ap (λ (k : ℕ). row_at c.rows k) (sym e) ∙ b.there) in
          let sub : IsSubstitutedAt (Some b.row) name number (row_at d.rows n) = subst (λ (o : Option Row). IsSubstitutedAt o name number (row_at d.rows n)) b.there (put.others n differ) in
          record { name = n; put = by_number sub.0 sub.1; just = justs n ∙ at_other (found (present c.justs)) name (Some just) n differ ∙ b.step }

      pub changes_say : (changes : List Change) → AllByRecursion (IsBefore c name) changes → AllByRecursion (λ change. SaysValue d change.before.step) changes
      changes_say changes each = all_weaker (IsBefore c name) (λ (change : Change). SaysValue d change.before.step) change_says changes each

  -- ---- each row with the name is one of the changes
  pub all_changed : (changes : List Change) → ((n k : ℕ) (row : Row) → n < c.taken → row_at c.rows n ≡ Some row → just_at c n ≡ Some k → has_key row.value.parts name ≡ true → IsChanged changes n)
      → (n k : ℕ) (row : Row) → row_at c.rows n ≡ Some row → just_at c n ≡ Some k → has_key row.value.parts name ≡ true → IsChanged changes n
  all_changed changes all n k row at step has = all n k row (rows_within sig ts steps c p.fits p.values p.said n row at) at step has
