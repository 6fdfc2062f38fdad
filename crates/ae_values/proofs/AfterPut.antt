-- What holds where a number was put in the rows, where the step of its name was kept, and where the rows were restated.
use Rattle.std.specs.Prelude.{ℕ, ◌<◌, ◌≡◌, Bool, true, List, [], ◌∷◌, Some}
use Rattle.std.specs.List.{AllByRecursion}
use Rattle.std.proofs.Common.{sym, ap, ◌∙◌, subst}
use Rattle.std.proofs.lemmas.Option.{slice_get_within}
use Rattle.ae_core.specs.declared.terms.Term.{Term}
use Rattle.ae_core.specs.declared.problems.Signature.{Signature}
use Rattle.ae_num.specs.Forms.{has_key}
use Rattle.ae_num.specs.declared.forms.Lin.{Lin}
use Rattle.ae_linear.specs.declared.rows.Row.{Row}
use Rattle.ae_linear.specs.Rows.{row_at, ArePut, FitsAt}
use Rattle.ae_pmap.specs.Forest.{present}
use Rattle.ae_pmap.specs.Pairs.{found, with_at}
use Rattle.ae_store.specs.Growing.{IsFront}
use Rattle.ae_store.specs.Shapes.{shapes}
use Rattle.ae_store.specs.Stores.{Stored}
use Rattle.ae_store.specs.Terms.{terms}
use Rattle.ae_just.specs.declared.steps.Step.{Step}
use Rattle.ae_just.specs.Steps.{Fits}
use Rattle.ae_state_steps.specs.ValueSteps.{sort_for}
use Rattle.ae_value_steps.specs.Stating.{IsStated}
use Rattle.ae_value_steps.proofs.Added.{stated_kept}
use Rattle.ae_value_changes.specs.Put.{IsNumberPut, NumbersPut}
use Rattle.ae_value_table.specs.Table.{Contents, just_at, held, values}
use Rattle.ae_value_fitting.specs.Fitting.{held_by, AreSaid}
use Rattle.ae_value_fitting.specs.Sources.{SaysValue, AreFromValues}
use Rattle.ae_values.specs.declared.occurrences.Change.{Change}
use Rattle.ae_values.specs.Inner.Before.{IsBefore, IsChanged}
use Rattle.ae_values.specs.Inner.Putting.{IsRestatable, AreRestated, IsPuttable}
use Rattle.ae_values.proofs.Puttable.{none, stated, number_is_put, restatable_all, name_says, changes_say, all_changed}
use Rattle.ae_values.proofs.Said.{said_again, sources_again}

-- only the rows, or only the steps, differ
abbrev pub OnlyRows : Contents → Contents → Type 0
OnlyRows c d = d ≡ record { entries = c.entries; taken = c.taken; rows = d.rows; leaves = c.leaves; justs = c.justs }

abbrev pub OnlyJusts : Contents → Contents → Type 0
OnlyJusts c d = d ≡ record { entries = c.entries; taken = c.taken; rows = c.rows; leaves = c.leaves; justs = d.justs }

module _ (s : Stored) (steps : List Step) (c d e : Contents) (name : ℕ) (number : Lin) (just : ℕ) (real : Bool) (p : IsPuttable s steps c name number just real) (in_rows : OnlyRows c d) (in_justs : OnlyJusts d e)
    (put : ArePut (λ n. row_at c.rows n) name number 0 (λ n. row_at d.rows n)) (kept : (n : ℕ) → just_at e n ≡ with_at (found (present d.justs)) name (Some just) n) where
  abbrev sig : Signature
  sig = s.signature

  abbrev ts : List Term
  ts = terms (shapes s.nodes)

  names : held e ≡ held c
  names = ap (λ (x : Contents). held x) in_justs ∙ ap (λ (x : Contents). held x) in_rows

  leaves : present e.leaves ≡ present c.leaves
  leaves = ap (λ (x : Contents). present x.leaves) in_justs ∙ ap (λ (x : Contents). present x.leaves) in_rows

  put_in : ArePut (λ n. row_at c.rows n) name number 0 (λ n. row_at e.rows n)
  put_in = subst (λ (x : Contents). ArePut (λ n. row_at c.rows n) name number 0 (λ n. row_at x.rows n)) (sym in_justs) put

  justs : (n : ℕ) → just_at e n ≡ with_at (found (present c.justs)) name (Some just) n
  justs n = kept n ∙ ap (λ (x : Contents). with_at (found (present x.justs)) name (Some just) n) in_rows

  pub all_restatable : NumbersPut → ((n : ℕ) → FitsAt (row_at c.rows n) name number) → (changes : List Change) → AllByRecursion (IsBefore c name) changes → AllByRecursion (IsRestatable sig ts steps real name number e) changes
  all_restatable law limits changes each = restatable_all s steps c name number just real p e names leaves put_in law limits changes each

  pub all_say : (changes : List Change) → AllByRecursion (IsBefore c name) changes → AllByRecursion (λ change. SaysValue e change.before.step) changes
  all_say changes each = changes_say s steps c name number just real p e names leaves put_in justs changes each

  pub says : SaysValue e just
  says = name_says s steps c name number just real p e names leaves put_in justs

  -- ---- with the rows restated
  module _ (f : Contents) (after : List Step) (front : IsFront steps after) (fits : Fits sig ts after) (changes : List Change) (again : OnlyJusts e f) (restated : AreRestated sig ts steps after real e f changes)
      (all : (n k : ℕ) (row : Row) → n < c.taken → row_at c.rows n ≡ Some row → just_at c n ≡ Some k → has_key row.value.parts name ≡ true → IsChanged changes n) where
    pub names_after : held f ≡ held c
    names_after = ap (λ (x : Contents). held x) again ∙ names

    leaves_after : present f.leaves ≡ present c.leaves
    leaves_after = ap (λ (x : Contents). present x.leaves) again ∙ leaves

    put_after : ArePut (λ n. row_at c.rows n) name number 0 (λ n. row_at f.rows n)
    put_after = subst (λ (x : Contents). ArePut (λ n. row_at c.rows n) name number 0 (λ n. row_at x.rows n)) (sym again) put_in

    stated_after : IsStated sig ts after real name number just
    stated_after = stated_kept sig ts steps after front real name number just (stated s steps c name number just real p)

    pub is_put : IsNumberPut (held_by sig s.nodes c) (sort_for real) name number (values f)
    is_put = number_is_put s steps c name number just real p f names_after leaves_after put_after

    pub said_after : AreSaid sig ts after f
    said_after =
        said_again sig ts steps after front c e real name just number p.rows (none s steps c name number just real p) put_in p.said f changes (λ n. ap (λ (x : Contents). row_at x.rows n) again) leaves_after justs stated_after
        (all_changed s steps c name number just real p changes all) restated

    pub sources_after : AreFromValues steps after c f (just ∷ [])
    sources_after =
        sources_again sig ts steps after front c e real name just number p.rows (none s steps c name number just real p) put_in p.said f changes (λ n. ap (λ (x : Contents). row_at x.rows n) again) leaves_after justs stated_after
        (all_changed s steps c name number just real p changes all) restated fits leaves (slice_get_within steps just _ p.states.there)
