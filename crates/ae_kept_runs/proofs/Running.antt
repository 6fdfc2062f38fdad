-- What is held beside the solver is held after a run: clauses and lines come over the formulas that are there and their parts.
use Rattle.std.specs.Prelude.{ℕ, ◌≡◌, true, List}
use Rattle.std.proofs.Common.{refl, sym}
use Rattle.ae_between_rounds.proofs.Growing.{choices_grow, firsts_grow, instances_lines, some_told}
use Rattle.ae_between_rounds.specs.Between.{IsBetweenRounds, IsSearchingBelow, IsStopped}
use Rattle.ae_between_rounds.specs.Fine.{AreOrderless}
use Rattle.ae_between_rounds.specs.declared.search.Search.{Search}
use Rattle.ae_core.specs.declared.formulas.Formula.{Formula}
use Rattle.ae_core.specs.declared.problems.Problem.{Problem}
use Rattle.ae_first_clauses.proofs.Subformulas.{keeps_to}
use Rattle.ae_journal.specs.Standing.{Setting}
use Rattle.ae_kept_blocks.specs.Kept.{GoesOnOver}
use Rattle.ae_orderless.proofs.Forms.{orderless_part}
use Rattle.ae_orderless.specs.Orderless.{is_orderless}
use Rattle.ae_propagation.specs.Settled.{last_level}
use Rattle.ae_rules.specs.Clauses.{Clause}
use Rattle.ae_sat.specs.Standing.{IsOneOf}
use Rattle.ae_searching.specs.Searching.{IsLawfulSoFar}
use Rattle.ae_searching.specs.Steps.{NotesNoInstance}
use Rattle.ae_searching.specs.Told.{IsToldIn}
use Rattle.ae_store.specs.Stores.{Stored}
use Rattle.ae_theory.specs.Names.{Extends}
use Rattle.ae_kept_runs.specs.Runs.{ComesOver, run_to, RunsKeepRounds}
use Rattle.ae_kept_runs.proofs.Constants.{constants_run}
use Rattle.ae_kept_runs.proofs.Numerals.{fine_run}

pub same_store : (s : Stored) → Extends s s
same_store s = record { signature = refl; keeps = λ i t e. e }

pub orderless_run : (cs ds : List Clause) → GoesOnOver cs ds → AreOrderless cs → AreOrderless ds
orderless_run cs ds among h = keeps_to (λ (f : Formula). is_orderless f ≡ true) orderless_part cs ds h among

module _ (p : Problem) (g bound : ℕ) (o n : Search) (h : IsBetweenRounds p g bound o) where
  pub notes_none : ((x : Setting) → IsToldIn p g o.store o.blocks.opened x → NotesNoInstance o.journal.lines n.journal.lines) → NotesNoInstance o.journal.lines n.journal.lines
  notes_none each = let x = some_told p g o.blocks.next o.store o.blocks.opened h.holds.constants.apart in each x.0 x.1

  pub between_run : IsSearchingBelow p g bound (last_level n.solver.propagation.trail) (run_to o n) → ((c : Clause) → IsOneOf o.solver.propagation.clauses c → IsOneOf n.solver.propagation.clauses c)
      → GoesOnOver o.solver.propagation.clauses n.solver.propagation.clauses → ComesOver o.store o.solver.propagation.clauses o.lines.items n.lines.items → NotesNoInstance o.journal.lines n.journal.lines
      → IsBetweenRounds p g bound (run_to o n)
  between_run searching still among adds notes =
      let cs = o.solver.propagation.clauses in
      let ds = n.solver.propagation.clauses in
      record {
        searching = searching;
        looked = h.looked;
        holds = record {
          store = h.holds.store;
          firsts = firsts_grow p g cs ds still h.holds.firsts;
          constants = constants_run p g o.blocks.next o.blocks.opened o.store o.lines.items n.lines.items cs ds n.solver.places still searching.stated adds h.holds.constants;
          instances = instances_lines p g bound o.store o.blocks.opened o.owners o.instances.made o.instances.taken.taken o.ages o.journal.lines h.holds.instances n.journal.lines notes;
          choices = choices_grow p.signature o.store o.store o.looked cs ds (same_store o.store) still h.holds.choices;
          heads = h.holds.heads;
          fine = λ low. fine_run o.store o.lines.items n.lines.items cs ds among adds (h.holds.fine low);
          orderless = λ w. orderless_run cs ds among (h.holds.orderless w);
        };
      }

  pub stopped_run : IsLawfulSoFar p g bound o.store o.blocks.opened n.lines.items n.journal.lines → IsStopped p g bound (run_to o n)
  stopped_run lawful = record { lawful = lawful; apart = h.holds.constants.apart; signature = sym h.searching.signature; store = h.holds.store }

pub runs_keep_rounds : RunsKeepRounds
runs_keep_rounds p g bound o n h searching still among adds notes = between_run p g bound o n h searching still among adds notes
