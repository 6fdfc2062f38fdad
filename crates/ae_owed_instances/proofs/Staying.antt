-- A search between two rounds whose owners are more, or whose store keeps its names.
use Rattle.std.specs.Prelude.{ℕ, ◌≡◌, List, length, slice_get}
use Rattle.std.specs.List.{AllByRecursion, Contains}
use Rattle.std.proofs.Common.{sym, ap, ◌∙◌, subst, arith, inl}
use Rattle.ae_ages.specs.declared.entries.Aged.{Aged}
use Rattle.ae_between_rounds.proofs.Growing.{choices_grow, constants_names}
use Rattle.ae_between_rounds.specs.Between.{IsBetweenRounds}
use Rattle.ae_between_rounds.specs.Finished.{IsOpenSearch}
use Rattle.ae_between_rounds.specs.Held.{HaveInstances}
use Rattle.ae_between_rounds.specs.declared.search.Instance.{Instance}
use Rattle.ae_between_rounds.specs.declared.search.Search.{Search}
use Rattle.ae_between_rounds.specs.Rewriting.{IsMarkOf}
use Rattle.ae_core.specs.declared.problems.Problem.{Problem}
use Rattle.ae_core.specs.declared.terms.Term.{Term}
use Rattle.ae_goal_names.proofs.Joining.{as_many}
use Rattle.ae_kept_heads.proofs.Heads.{heads_stay}
use Rattle.ae_new_constants.specs.Below.{IsTermBelow}
use Rattle.ae_owners.specs.declared.owners.Owner.{Owner}
use Rattle.ae_propagation.specs.Settled.{last_level}
use Rattle.ae_searching.proofs.Searching.{searching_named}
use Rattle.ae_searching.specs.Steps.{Grows}
use Rattle.ae_state.proofs.Standing.{larger_fit}
use Rattle.ae_state.specs.Fitting.{FitsStore}
use Rattle.ae_state.specs.Names.{assumed_in}
use Rattle.ae_state.specs.Stepping.{IsInStep}
use Rattle.ae_store.specs.Stores.{Stored, IsStore}
use Rattle.ae_theory.specs.Names.{Extends, terms_in}

module _ (p : Problem) (g bound : ℕ) (o : Search) (b : IsBetweenRounds p g bound o) where
  -- ---- other owners
  pub owners_stay : (ws : List Owner) → HaveInstances p g bound o.store o.blocks.opened ws o.instances.made o.instances.taken.taken o.ages o.journal.lines
      → IsBetweenRounds p g bound (record o { owners = ws })
  owners_stay ws h = record {
    searching = b.searching;
    looked = b.looked;
    holds = record {
      store = b.holds.store;
      firsts = b.holds.firsts;
      constants = b.holds.constants;
      instances = h;
      choices = b.holds.choices;
      heads = b.holds.heads;
      fine = b.holds.fine;
      orderless = b.holds.orderless;
    };
  }

  -- ---- the same names, with generations of their own
  module _ (t : Stored) (signature : t.signature ≡ o.store.signature) (same : terms_in t ≡ terms_in o.store) (store : IsStore t.signature t.nodes) where
    pub extends : Extends o.store t
    extends = record { signature = signature; keeps = λ n u e. ap (λ (zs : List Term). slice_get zs n) same ∙ e }

    pub many : length t.nodes ≡ length o.store.nodes
    many = sym (as_many t) ∙ ap length same ∙ as_many o.store

    pub grows : Grows p g o.store t o.blocks.opened o.blocks.opened o.journal.lines
    grows = record { extends = extends; opened_still = λ e c. c; entered = λ x told n c. inl (subst (λ (zs : List Term). Contains zs n) same c) }

    pub names_stay : (es : List Aged) (ms : List Instance) → HaveInstances p g bound t o.blocks.opened o.owners ms o.instances.taken.taken es o.journal.lines
        → IsBetweenRounds p g bound (record o { store = t; ages = es; instances = record o.instances { made = ms } })
    names_stay es ms h = record {
      searching =
          searching_named FitsStore assumed_in IsMarkOf IsInStep p g bound o.store t o.blocks.opened o.blocks.opened (last_level o.solver.propagation.trail) o.solver o.lines.items o.journal.lines
          (larger_fit o.solver.theory o.store t extends) grows b.searching;
      looked = b.looked ∙ sym many;
      holds = record {
        store = store;
        firsts = b.holds.firsts;
        constants =
            constants_names p g o.blocks.next o.blocks.opened o.store o.lines.items o.solver.propagation.clauses b.holds.constants t
            (subst (AllByRecursion (IsTermBelow o.blocks.next)) (sym same) b.holds.constants.names);
        instances = h;
        choices = choices_grow p.signature o.store t o.looked o.solver.propagation.clauses o.solver.propagation.clauses extends (λ c i. i) b.holds.choices;
        heads = heads_stay o.looked o.store t o.known b.holds.store store signature extends.keeps (omega (arith, b.looked)) b.holds.heads;
        fine = λ n.
            let f = b.holds.fine n in
            record { names = λ u c. f.names u (subst (λ (zs : List Term). Contains zs u) same c); formulas = f.formulas; lines = f.lines };
        orderless = b.holds.orderless;
      };
    }

    pub open_stays : (es : List Aged) (ms : List Instance) → IsOpenSearch o → IsOpenSearch (record o { store = t; ages = es; instances = record o.instances { made = ms } })
    open_stays es ms i = record { all_true = i.all_true; told = i.told; complete = (i.complete.0, i.complete.1 ∙ sym same) }
