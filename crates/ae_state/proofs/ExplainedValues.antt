-- The steps that say the values of names, in a store that fits.
use Rattle.std.specs.Prelude.{ℕ, ◌<◌, ◌≤◌, ◌↔◌, Bool, true, false, List, [], ◌≡◌, length, slice_get, Option, Some, None, IsTrue, IfSome, IfNone}
use Rattle.std.proofs.Common.{refl, sym, ap, ◌∙◌, subst, arith, inl, inr, length-take-le}
use Rattle.std.proofs.lemmas.List.{append-nil}
use Rattle.std.proofs.lemmas.Option.{none-some, same_Some}
use Rattle.ae_base.proofs.ListFacts.{get_front}
use Rattle.ae_base.proofs.Tests.{false_true}
use Rattle.ae_core.specs.Sorts.{sort_of}
use Rattle.ae_core.specs.declared.terms.Sort.{Sort, Real}
use Rattle.ae_core.specs.declared.terms.Term.{Term}
use Rattle.ae_core.specs.declared.proofs.EqLine.{EqLine}
use Rattle.ae_num.specs.declared.forms.Lin.{Lin}
use Rattle.ae_linear.specs.declared.rows.Row.{Row}
use Rattle.ae_linear.specs.Rows.{row_at}
use Rattle.ae_pmap.specs.Forest.{present}
use Rattle.ae_store.specs.Stores.{Stored}
use Rattle.ae_store.specs.Terms.{named, IsOfSort}
use Rattle.ae_store.proofs.StoreLaws.{name_term}
use Rattle.ae_settled.proofs.Nodes.{named_at}
use Rattle.ae_settled.proofs.Sorts.{predicate_of, predicate_unsorted}
use Rattle.ae_just.specs.declared.steps.Step.{Step}
use Rattle.ae_just.specs.Steps.{fact_of}
use Rattle.ae_state_steps.specs.ValueSteps.{sort_for, IsNumberName}
use Rattle.ae_theory.specs.Names.{terms_in}
use Rattle.ae_value_table.specs.declared.patterns.Entry.{Entry}
use Rattle.ae_value_table.specs.Table.{Contents, own, number_at, just_at}
use Rattle.ae_value_fitting.specs.Fitting.{IsNumberSaid}
use Rattle.ae_value_fitting.specs.Sources.{by_number}
use Rattle.ae_value_fitting.proofs.Written.{number_by, one_sort}
use Rattle.ae_conflicts.specs.Saying.{EndsWith, RestsOnAssumed}
use Rattle.ae_state.specs.declared.holding.Holding.{Holding}
use Rattle.ae_state.specs.Names.{all_terms, terms_now}
use Rattle.ae_state.specs.Right.{IsReason, of_value}
use Rattle.ae_state.specs.Fitting.{FitsStore}
use Rattle.ae_state.specs.Explaining.{EndsWithValue}
use Rattle.ae_state.proofs.Alikeness.{both_none}
use Rattle.ae_state.proofs.Growing.{rests_kept}
use Rattle.ae_state.proofs.Reasons.{reason_within}

-- a sort that is one of numbers is `real` where the test says so
pub real_by : (b r : Bool) (s : Sort) → s ≡ sort_for r → (IsTrue b ↔ (s ≡ Real)) → b ≡ r
real_by true r s e h = one_sort true r (sym (h.0 refl) ∙ e)
real_by false true s e h = false_true (h.1 e)
real_by false false s e h = refl

-- the step of a row, where there is one
module _ (c : Contents) (n : ℕ) where
  pub row_some : (row : Row) (r : Option ℕ) → Some row ≡ row_at c.rows n → r ≡ just_at c n → IfSome r (λ step. (x : Row) × (row_at c.rows n ≡ Some x) × (just_at c n ≡ Some step))
  row_some row (Some step) e j = (row, sym e, sym j)
  row_some row None e j = tt

  pub row_none : (r : Option ℕ) → r ≡ just_at c n → IfNone r ((x : Row) (step : ℕ) → row_at c.rows n ≡ Some x → just_at c n ≡ Some step → ⊥)
  row_none (Some step) j = tt
  row_none None j = λ x step e k. none-some step (j ∙ k)

  pub no_row : None ≡ row_at c.rows n → (x : Row) (step : ℕ) → row_at c.rows n ≡ Some x → just_at c n ≡ Some step → ⊥
  no_row e x step f k = none-some x (e ∙ f)

module _ (o : Holding) (s : Stored) (fits : FitsStore o s) where
  long : o.values.taken ≤ length (all_terms o)
  long = omega (arith, (fits.right).within, ((fits.right).entries).within)

  -- what a reason rests on, in the store
  pub reason_rests : (id : ℕ) → IsReason o id → RestsOnAssumed (terms_in s) o.justs (present o.assumed) id
  reason_rests id r =
      subst (λ (steps : List Step). RestsOnAssumed (terms_in s) steps (present o.assumed) id) (append-nil o.justs)
      (rests_kept (present o.assumed) (present o.assumed) (record { each = λ place e h. h }) o.signature (all_terms o) (terms_in s) o.justs [] (fits.terms).keeps (fits.right).steps id
      (reason_within o fits.right id r) ((fits.right).grounded id r))

  module _ (n : ℕ) (l : n < o.values.taken) where
    now_there : slice_get (terms_now o) n ≡ Some (named (terms_now o) n)
    now_there = named_at (terms_now o) n (omega (arith, l, length-take-le o.values.taken (all_terms o) long))

    all_there : slice_get (all_terms o) n ≡ Some (named (terms_now o) n)
    all_there = (get_front (all_terms o) o.values.taken n (named (terms_now o) n) now_there).0

    store_named : named (terms_in s) n ≡ named (terms_now o) n
    store_named = name_term (terms_in s) n (named (terms_now o) n) ((fits.terms).keeps n (named (terms_now o) n) all_there)

    number_now : (real : Bool) → IsNumberName s.signature (terms_in s) real n → IsNumberName o.signature (terms_now o) real n
    number_now real h = (λ i. sort_of (sym (fits.terms).signature i) (sym store_named i)) ∙ h

    -- a name of numbers is of one sort
    pub one_real : (q r : Bool) → IsNumberName s.signature (terms_in s) q n → IsNumberName s.signature (terms_in s) r n → q ≡ r
    one_real q r h k = one_sort q r (same_Some (sort_for q) (sort_for r) (sym h ∙ k))

    -- ---- a name with a row
    module _ (row : Row) (step : ℕ) (at : row_at o.values.rows n ≡ Some row) (just : just_at o.values n ≡ Some step) where
      says : IsReason o step
      says = of_value (record { name = n; put = by_number row at; just = just })

      pub row_within : step < length o.justs
      row_within = reason_within o fits.right step says

      pub row_rests : RestsOnAssumed (terms_in s) o.justs (present o.assumed) step
      row_rests = reason_rests step says

      said : IsNumberSaid o.signature (terms_now o) o.justs o.values n row
      said = ((fits.right).said).numbers n row at

      pub row_ends : (lines : List EqLine) → ((st : Step) → slice_get o.justs step ≡ Some st → EndsWith lines (fact_of (terms_in s) st)) → (real : Bool)
          → IsNumberName s.signature (terms_in s) real n → EndsWithValue (terms_in s) real n (number_at o.values n) lines
      row_ends lines ends real name =
          let same : said.step ≡ step = same_Some said.step step (sym said.just ∙ just) in
          let states = (said.stated).stated in
          let first : EndsWithValue (terms_in s) said.real n row.value lines = ends _ (ap (slice_get o.justs) (sym same) ∙ states.there) in
          let real_is : said.real ≡ real =
          one_sort said.real real (same_Some (sort_for said.real) (sort_for real) (sym ((said.stated).written).name ∙ number_now real name)) in
          let value_is : row.value ≡ number_at o.values n = sym (ap (λ x. number_by x n) at) in
          subst (λ (x : Bool × Lin). EndsWithValue (terms_in s) x.0 n x.1 lines) (λ i. (real_is i, value_is i)) first

    -- ---- a name that is its own number
    pub own_ends : (lines : List EqLine) (q r : Bool) → ((row : Row) (step : ℕ) → row_at o.values.rows n ≡ Some row → just_at o.values n ≡ Some step → ⊥)
        → IsNumberName s.signature (terms_in s) q n → IsNumberName s.signature (terms_in s) r n → EndsWithValue (terms_in s) q n (own n) lines → EndsWithValue (terms_in s) r n (number_at o.values n) lines
    own_ends lines q r none h k ends =
        let absent : row_at o.values.rows n ≡ None = both_none (row_at o.values.rows n) None (λ row e. let a = ((fits.right).said).numbers n row e in none row a.step e a.just) (λ row e. none-some row e) in
        let value_is : own n ≡ number_at o.values n = sym (ap (λ x. number_by x n) absent) in
        subst (λ (x : Bool × Lin). EndsWithValue (terms_in s) x.0 n x.1 lines) (λ i. (one_real q r h k i, value_is i)) ends

    sort_by : (e : Entry) (real : Bool) → IsOfSort o.signature (named (terms_now o) n) e.sort → IsNumberName o.signature (terms_now o) real n → e.sort ≡ sort_for real
    sort_by e real (inl x) h = same_Some e.sort (sort_for real) (sym x ∙ h)
    sort_by e real (inr y) h = absurd (predicate_unsorted o.signature (named (terms_now o) n) (sort_for real) (predicate_of o.signature (named (terms_now o) n) y.0) h)

    -- the sort that is known of the name
    pub known_sort : (e : Entry) (real : Bool) → slice_get o.values.entries n ≡ Some e → IsNumberName s.signature (terms_in s) real n → e.sort ≡ sort_for real
    known_sort e real at h =
        let all_named : named (all_terms o) n ≡ named (terms_now o) n = name_term (all_terms o) n (named (terms_now o) n) all_there in
        sort_by e real (subst (λ (t : Term). IsOfSort o.signature t e.sort) all_named (((fits.right).entries).each n e at).sort) (number_now real h)
