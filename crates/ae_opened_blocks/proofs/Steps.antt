-- A search may go on with the clause of a block.
use Rattle.std.specs.Prelude.{ℕ, ◌≡◌, true, List, Some}
use Rattle.std.specs.List.{Contains}
use Rattle.std.proofs.Common.{sym, ◌∙◌, subst, append-nil}
use Rattle.std.proofs.lemmas.Option.{same_Some}
use Rattle.ae_between_rounds.specs.Between.{IsBetweenRounds}
use Rattle.ae_between_rounds.specs.declared.search.Search.{Search}
use Rattle.ae_block_constants.specs.declared.opened.Opened.{Opened}
use Rattle.ae_core.specs.declared.formulas.Formula.{Formula, out-Formula}
use Rattle.ae_core.specs.declared.formulas.Lit.{Lit}
use Rattle.ae_core.specs.declared.problems.Problem.{Problem}
use Rattle.ae_core.specs.declared.proofs.ClauseLine.{ClauseLine}
use Rattle.ae_core.specs.declared.proofs.ClauseLine.TheVariants.{Fresh}
use Rattle.ae_core.specs.declared.terms.Term.{Term}
use Rattle.ae_goal_names.specs.Named.{clause_terms, HasNamed}
use Rattle.ae_journal.specs.States.{outside}
use Rattle.ae_kept_blocks.proofs.Members.{from_flat}
use Rattle.ae_new_constants.proofs.Lines.{fresh_allowed}
use Rattle.ae_opening.specs.Opens.{Opens}
use Rattle.ae_opening_steps.proofs.Steps.{step}
use Rattle.ae_opening_steps.specs.Ready.{IsReady}
use Rattle.ae_rules.proofs.SortedLines.{stated_sorted}
use Rattle.ae_rules.specs.Clauses.{Clause}
use Rattle.ae_rules.specs.Derivations.{clause_ok}
use Rattle.ae_rules.specs.Instances.{fresh_clause}
use Rattle.ae_sat.specs.Standing.{IsOneOf}
use Rattle.ae_searching.specs.Steps.{Grows, MayCome}
use Rattle.ae_store.specs.Stores.{Stored}
use Rattle.ae_theory.specs.Names.{terms_in}

module _ (p : Problem) (g bound : ℕ) (o : Search) (b : IsBetweenRounds p g bound o) where
  -- the terms of the clauses of blocks have names
  pub there : (e : Opened) (c : Clause) (t : Term) → Contains o.blocks.opened e → fresh_clause e.formula e.first (out-Formula e.formula) ≡ Some c → Contains (clause_terms c) t → Contains (terms_in o.store) t
  there e c t i q h =
      let a = b.holds.constants.added e i in
      let l = from_flat (λ (m : Lit). outside m.formula) c t h in
      b.searching.alive.named c l.0 (subst (IsOneOf o.solver.propagation.clauses) (same_Some a.0 c (sym a.1 ∙ q)) a.2) l.1 t l.2

  pub sorted : (f : Formula) → IsReady p o.blocks.next o.solver.propagation.clauses f → (c : Clause) → fresh_clause f o.blocks.next (out-Formula f) ≡ Some c → clause_ok p.signature c ≡ true
  sorted f ready c e = stated_sorted p g (Fresh f o.blocks.next) c (fresh_allowed p g o.blocks.next f ready.below o.lines.items c b.holds.constants.lines ready.sorted e).1

  module _ (f : Formula) (m : ℕ) (new : List Opened) (l : ClauseLine) (c : Clause) (w : Opens f o.blocks.next m o.blocks.opened new l c) (ready : IsReady p o.blocks.next o.solver.propagation.clauses f) where
    pub goes_on : (s : Stored) → HasNamed o.store s (clause_terms c) → Grows p g o.store s o.blocks.opened new o.journal.lines × MayCome p g s new o.lines.items o.journal.lines l c
    goes_on s named =
        step p g o.blocks.next m o.store s o.blocks.opened new f l c o.lines.items o.journal.lines b.searching.signature w b.holds.constants.lines ready.below ready.sorted
        (subst (HasNamed o.store s) (sym (append-nil (clause_terms c))) named) (λ x told. ready.formula x o.journal.lines (λ d k i j. (b.searching.lawful x told).formulas d k i j))
