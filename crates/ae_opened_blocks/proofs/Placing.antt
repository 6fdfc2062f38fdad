-- The block of a literal of the trail that asks for terms can be opened.
use Rattle.std.specs.Prelude.{ℕ, ◌≡◌, List, Some}
use Rattle.std.specs.List.{Contains}
use Rattle.std.proofs.Common.{refl, sym, subst}
use Rattle.ae_between_rounds.specs.Between.{IsBetweenRounds}
use Rattle.ae_between_rounds.specs.declared.search.Search.{Search}
use Rattle.ae_block_counts.proofs.Blocks.{block_in}
use Rattle.ae_block_counts.specs.Counts.{blocks_in}
use Rattle.ae_core.specs.declared.formulas.Formula.{Formula, out-Formula}
use Rattle.ae_core.specs.declared.formulas.Quant.{Quant}
use Rattle.ae_core.specs.declared.problems.Problem.{Problem}
use Rattle.ae_explain.specs.Trail.{at, clause}
use Rattle.ae_explain.specs.declared.trail.Assigned.{Assigned}
use Rattle.ae_journal.specs.States.{quant_of}
use Rattle.ae_kept_blocks.proofs.Members.{contained}
use Rattle.ae_opening.proofs.Asked.{asked}
use Rattle.ae_opening.specs.Asking.{IsNextUnopened, IsOpened}
use Rattle.ae_opening_steps.proofs.Readiness.{ready}
use Rattle.ae_opening_steps.specs.Ready.{IsReady}
use Rattle.ae_rules.specs.Clauses.{Clause}
use Rattle.ae_sat.proofs.Deriving.{in_clause}
use Rattle.ae_sat.specs.Standing.{IsOneOf}

module _ (p : Problem) (g bound : ℕ) (o : Search) (b : IsBetweenRounds p g bound o) (place : ℕ) (next : IsNextUnopened o.solver.propagation.trail o.blocks.opened place) where
  abbrev t : List Assigned
  t = o.solver.propagation.trail

  abbrev cs : List Clause
  cs = o.solver.propagation.clauses

  -- the literal is in a clause
  pub its_clause : (d : Clause) × IsOneOf cs d × Contains d (at t place).lit
  its_clause =
      let run = b.searching.alive.running in
      let w = in_clause t cs run.lawful run.stands place next.within in
      (clause cs w.0, (w.0, w.1, refl), w.2)

  module _ (f : Formula) (is : f ≡ (at t place).lit.formula) where
    pub unopened : ¬ IsOpened o.blocks.opened f
    unopened = subst (λ (x : Formula). ¬ IsOpened o.blocks.opened x) (sym is) next.unopened.1

    pub block : (q : Quant) × (quant_of (out-Formula f) ≡ Some q)
    block = let a = asked (at t place).lit next.unopened.0 in subst (λ (x : Formula). (q : Quant) × (quant_of (out-Formula x) ≡ Some q)) (sym is) (a.1, a.2)

    -- so it is a block of the clauses
    pub among_blocks : Contains (blocks_in cs) f
    among_blocks =
        let w = its_clause in
        let a = asked (at t place).lit next.unopened.0 in
        subst (Contains (blocks_in cs)) (sym is) (block_in cs w.0 (at t place).lit a.1 (contained cs w.0 w.1) w.2 a.2)

    pub can_be_opened : IsReady p o.blocks.next cs f
    can_be_opened =
        let run = b.searching.alive.running in
        subst (IsReady p o.blocks.next cs) (sym is)
        (ready p g o.blocks.next t o.lines.items cs o.solver.places b.searching.stated b.holds.constants.lines run.lawful run.stands place next.within)
