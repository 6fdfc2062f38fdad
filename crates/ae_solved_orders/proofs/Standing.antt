-- A search that has nothing left to do, beside its journal.
use Rattle.std.specs.Prelude.{ℕ, ◌≡◌, Bool, true, List, ◌++◌, length, Option, Some}
use Rattle.std.proofs.Common.{sym, ap, ◌∙◌, subst}
use Rattle.ae_agreed_rows.specs.Kept.{AreStandingLiterals}
use Rattle.ae_base.specs.Options.{◌>>=◌}
use Rattle.ae_kept_orders.proofs.Passed.{some_told, system_value}
use Rattle.ae_kept_orders.specs.Searches.{IsBetweenRounds, IsOpenSearch, Search}
use Rattle.ae_core.specs.Sorts.{formula_ok}
use Rattle.ae_core.specs.declared.formulas.Lit.{Lit}
use Rattle.ae_core.specs.declared.problems.Problem.{Problem}
use Rattle.ae_core.specs.declared.problems.Signature.{Signature}
use Rattle.ae_core.specs.declared.terms.Term.{Term}
use Rattle.ae_explain.specs.declared.trail.Assigned.{Assigned}
use Rattle.ae_filled_trails.proofs.Filling.{assumed, formula_sorted, names_of}
use Rattle.ae_journal.specs.Standing.{MayStand, Setting, SurelyStands}
use Rattle.ae_journal.specs.Values.{meaning}
use Rattle.ae_journal.specs.declared.lines.Line.{Line}
use Rattle.ae_kept_orders.specs.Orders.{AreOrdersOf}
use Rattle.ae_kept_orders.specs.Rows.{IsBeside, IsTold, KeptRows, StandBeside, literals_from}
use Rattle.ae_num.specs.declared.forms.Value.{Value}
use Rattle.ae_opaque_numbers.specs.Opaque.{AreOpaqueNumbers, OpaqueNumbersAreLeaves}
use Rattle.ae_propagation.specs.Settled.{Holds}
use Rattle.ae_searching.specs.Told.{IsToldIn}
use Rattle.ae_solved_orders.proofs.Trails.{are_marked, at_is, holds_at, is_true, listed}
use Rattle.ae_state.specs.Names.{system_now}
use Rattle.ae_state.specs.declared.holding.Holding.{Holding}
use Rattle.ae_store.specs.Terms.{HasOneName}
use Rattle.ae_sure_literals.specs.Sure.{AreSure}
use Rattle.ae_theory.specs.Names.{IsNamedBy}
use Rattle.ae_turns.specs.Representing.{IsTaken}
use Rattle.std.proofs.lemmas.Option.{slice_get_within}

module _ (p : Problem) (g bound : ℕ) (o : Search) (between : IsBetweenRounds p g bound o) (is_open : IsOpenSearch o) where
  abbrev t : List Assigned
  t = o.solver.propagation.trail

  abbrev js : List Line
  js = o.journal.lines

  pub all_taken : IsTaken o.solver.theory o.store
  all_taken = record { store = between.holds.store; fits = between.searching.alive.fits_store; all = is_open.complete.1 }

  pub is_told : IsTold o.solver.theory o.store t
  is_told = record {
    assumed = assumed p g bound o between is_open;
    named = λ k a e. names_of p g bound o between is_open a.lit (holds_at t k a e);
    sorted = λ k a e.
        subst (λ (z : Signature × Assigned). formula_ok z.0 z.1.lit.formula ≡ true) (λ i. (between.searching.signature i, at_is t k a e i))
        (formula_sorted p g bound o between is_open k (slice_get_within t k a e));
  }

  module _ (x : Setting) (told : IsToldIn p g o.store o.blocks.opened x) where
    pub named_by : IsNamedBy x o.store js
    named_by = record {
      signature = ap (λ (q : Problem). q.signature) told.problem ∙ between.searching.signature;
      more = told.more;
      names = told.names;
      entered = (between.searching.lawful x told).entered;
    }

    pub stands_beside : IsBeside x js o.store o.solver.theory
    stands_beside = record { named = named_by; step = between.searching.alive.running.step }

    pub standing : ((l : Lit) → Holds t l → MayStand x js l) → ((l : Lit) → SurelyStands x js l → Holds t l) → AreStandingLiterals x js (literals_from t 0)
    standing may surely = record { may = λ l c. may l (is_true t l c); sure = λ l u w strict h e. listed t l (surely l h) }

  -- one flag for each literal of the trail
  pub marks_long : (marks : List Bool) → ((x : Setting) → IsToldIn p g o.store o.blocks.opened x → AreSure x js t marks) → length marks ≡ length t
  marks_long marks sure = let w = some_told p g o.blocks.next o.store o.blocks.opened between.holds.constants.apart in (sure w.0 w.1).one_each

  -- what the rows are solved by
  module _ (kept : Option KeptRows) (orders : AreOrdersOf p g o kept) (marks : List Bool) (sure : (x : Setting) → IsToldIn p g o.store o.blocks.opened x → AreSure x js t marks)
      (may : (x : Setting) → IsToldIn p g o.store o.blocks.opened x → (l : Lit) → Holds t l → MayStand x js l)
      (surely : (x : Setting) → IsToldIn p g o.store o.blocks.opened x → (l : Lit) → SurelyStands x js l → Holds t l)
      (h : Holding) (t2 : List Assigned) (marks2 : List Bool) (theory_is : h ≡ o.solver.theory) (trail_is : t2 ≡ t) (marks_are : marks2 ≡ marks) where
    pub stands : (x : Setting) → IsToldIn p g o.store o.blocks.opened x → StandBeside x js o.store h t2 marks2 kept
    stands x told =
        subst (λ (z : Holding × List Assigned × List Bool). StandBeside x js o.store z.0 z.1 z.2 kept) (λ i. (sym theory_is i, sym trail_is i, sym marks_are i)) (record {
          beside = stands_beside x told;
          stand = standing x told (may x told) (surely x told);
          marked = are_marked x js t marks (sure x told);
          agree = orders.agree x told;
        })

  -- numbers that are their own values are opaque terms
  pub are_opaque : OpaqueNumbersAreLeaves → AreOpaqueNumbers o.store.signature (system_now o.solver.theory)
  are_opaque law =
      let w = some_told p g o.blocks.next o.store o.blocks.opened between.holds.constants.apart in
      let x = w.0 in
      let told = w.1 in
      let named = named_by x told in
      let all = is_open.complete.1 in
      subst (λ (sig : Signature). AreOpaqueNumbers sig (system_now o.solver.theory)) named.signature
      (law x bound js (system_now o.solver.theory) told.more (between.searching.lawful x told).legal (told.names ∙ ap (λ (ts : List Term). ts ++ told.more) (sym all))
      (subst HasOneName (sym all) between.holds.store.sound.one_name)
      (λ n u v is e. system_value o.solver.theory o.store all_taken x js (stands_beside x told) u (meaning v) (n, is, ap (λ (q : Option Value). q >>= λ z. Some (meaning z)) e)))
