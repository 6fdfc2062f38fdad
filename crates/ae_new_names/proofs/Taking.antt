-- Names are taken in, or a width refuses them.
use Rattle.std.specs.Prelude.{ℕ, ◌≤◌, List, ◌≡◌, take, length, slice_get, Some}
use Rattle.std.proofs.Common.{sym, ap, subst, arith, length-take}
use Rattle.std.proofs.lemmas.List.{length-append, length-map, length-take-le, take_all}
use Rattle.ae_base.proofs.ListFacts.{get_front}
use Rattle.ae_core.specs.declared.terms.Term.{Term}
use Rattle.ae_journal.specs.Journals.{live}
use Rattle.ae_journal.specs.declared.answers.WideAt.{WideAt}
use Rattle.ae_journal.specs.declared.lines.Line.{Line}
use Rattle.ae_num.specs.declared.forms.Value.{Value}
use Rattle.ae_settled.specs.Valued.{AreValues}
use Rattle.ae_store.specs.Growing.{IsFront}
use Rattle.ae_store.specs.Stores.{Stored, IsStore}
use Rattle.ae_store.specs.Terms.{Keeps}
use Rattle.ae_theory.specs.Names.{terms_in}
use Rattle.ae_take_in.specs.TakingWidths.{IsTakingWidth}
use Rattle.ae_name_lines.specs.Closed.{AreClosed}
use Rattle.ae_name_lines.proofs.Stores.{stores_are_closed}
use Rattle.ae_value_table.specs.declared.patterns.Entry.{Entry}
use Rattle.ae_value_table.specs.Table.{Contents, held, value_in, values}
use Rattle.ae_value_table.specs.Versions.{IsAs}
use Rattle.ae_value_fitting.specs.Fitting.{system_in}
use Rattle.ae_state.specs.declared.holding.Holding.{Holding}
use Rattle.ae_state.specs.Names.{all_terms}
use Rattle.ae_state.specs.Fitting.{FitsStore}
use Rattle.ae_state.specs.Stepping.{IsInStep}
use Rattle.ae_turns.specs.Budget.{HasLeft, MayNote}
use Rattle.ae_turns.specs.Ending.{MayBeWide}
use Rattle.ae_turns.proofs.Unsolved.{unsolved_taken}
use Rattle.ae_turns.proofs.Budgets.{left_still}
use Rattle.ae_new_widths.specs.Laws.{TakingWidthsAreLicensed}
use Rattle.ae_new_names.proofs.Stepping.{old_closed, old_lines, old_entries}

module _ (s : Stored) (o : Holding) (fits : FitsStore o s) (all : all_terms o ≡ terms_in s) (store : IsStore s.signature s.nodes) where
  abbrev ts : List Term
  ts = terms_in s

  -- ---- all names have values
  module _ (c : Contents) (done : c.taken ≡ length ts) (valued : AreValues s.signature (system_in (take c.taken ts) c)) where
    all_front : take c.taken ts ≡ ts
    all_front = take_all c.taken ts (omega (arith, done))

    pub done_within : c.taken ≤ length c.entries
    done_within =
        let many : length (take c.taken ts) ≡ c.taken = length-take-le c.taken ts (omega (arith, done)) in
        omega (arith, valued.one_each, many, length-map (held c) (λ (e : Entry). value_in c e.pattern), length-take c.taken c.entries)

    pub done_closed : AreClosed s.signature (take c.taken ts)
    done_closed = subst (AreClosed s.signature) (sym all_front) (stores_are_closed s.signature s.nodes store)

    pub done_keeps : Keeps (take o.values.taken ts) (take c.taken ts)
    done_keeps = subst (Keeps (take o.values.taken ts)) (sym all_front) (λ k t e. (get_front ts o.values.taken k t e).0)

  -- ---- a name that was taken in is left to solve, or isn't
  pub taken_may_note : (c : Contents) → c.taken ≡ length ts → ((n : ℕ) (v : Value) → slice_get (values o.values) n ≡ Some v → slice_get (values c) n ≡ Some v) → (n : ℕ) → MayNote o s n → HasLeft s c o.equations n
  taken_may_note c done kept n h =
      let e = ap length all in
      let more : o.values.taken ≤ c.taken = omega (arith, (fits.right).within, ((fits.right).entries).within, e, done) in
      left_still s o.values c o.equations o.equations (unsolved_taken s o.values c (fits.right).within more kept) (λ none. none) (λ none waits. waits) n h

  -- ---- a refusal
  module _ (c : Contents) (same : IsAs c o.values) (known : IsFront o.values.entries c.entries) where
    pub same_within : c.taken ≤ length c.entries
    same_within = omega (arith, same.taken, (fits.right).within, ap length known.1, length-append o.values.entries known.0)

    pub same_closed : AreClosed s.signature (take c.taken ts)
    same_closed = subst (λ (k : ℕ). AreClosed s.signature (take k ts)) (sym same.taken) (old_closed s o fits all store)

    pub same_keeps : Keeps (take o.values.taken ts) (take c.taken ts)
    same_keeps = subst (λ (k : ℕ). Keeps (take o.values.taken ts) (take k ts)) (sym same.taken) (λ k t e. e)

  pub taking_licensed : TakingWidthsAreLicensed → (wide : WideAt) → IsTakingWidth s.signature ts o.values wide → (js : List Line) → IsInStep o (live js) → MayBeWide s o js js wide
  taking_licensed law wide h js i x named may =
      law x s js o.values wide named store (old_entries s o fits all store) (fits.right).within (old_closed s o fits all store) (old_lines s o fits all store (live js) i) i.solved h
