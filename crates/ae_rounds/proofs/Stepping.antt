-- What a step comes to, by what is done in it.
use Rattle.std.specs.Prelude.{ℕ, ◌<◌, ◌≤◌, ◌≡◌, ◌⊎◌, List, length, Result, Ok, Err}
use Rattle.std.specs.List.{AllByRecursion, Contains}
use Rattle.std.proofs.Common.{sym, ap, subst, arith, inl, inr}
use Rattle.ae_between_rounds.specs.Finished.{IsPointOf}
use Rattle.ae_between_rounds.specs.declared.search.Search.{Search}
use Rattle.ae_block_constants.specs.declared.opened.Opened.{Opened}
use Rattle.ae_core.specs.declared.problems.Problem.{Problem}
use Rattle.ae_explain.specs.declared.trail.Assigned.{Assigned}
use Rattle.ae_journal.specs.Systems.{ValueOf}
use Rattle.ae_journal.specs.declared.systems.PointAt.{PointAt}
use Rattle.ae_open_states.specs.Shown.{trail_literals}
use Rattle.ae_opening.specs.Asking.{AllServed}
use Rattle.ae_ordered_rounds.specs.Comes.{IsAsked}
use Rattle.ae_ordered_rounds.specs.declared.orders.Orders.{Orders}
use Rattle.ae_rounds.specs.Ended.{IsInstantiatedFrom, IsSettledAt}
use Rattle.ae_rounds.specs.Turns.{counted, HasAdded, HasFinished, HasStepped}
use Rattle.ae_rounds.specs.declared.progress.Added.{Added}
use Rattle.ae_rounds.specs.declared.progress.Added.TheVariants as added
use Rattle.ae_rounds.specs.declared.progress.Progress.{Progress}
use Rattle.ae_rounds.specs.declared.progress.Progress.TheVariants as progress
use Rattle.ae_state.specs.Names.{system_now}
use Rattle.ae_stategrammar.specs.Points.{PointStands}
use Rattle.ae_theory.specs.declared.theory.Fail.{Fail}

-- the point of a search is one wherever the solver is the same
point_stays : (old new : Search) (point : List PointAt) → new.solver ≡ old.solver → IsPointOf old point → IsPointOf new point
point_stays old new point same h l s t strict v w i e a b =
    h l s t strict v w (subst (λ z. Contains (trail_literals z.propagation.trail) l) same i) e (subst (λ z. ValueOf (system_now z.theory) s v) same a) (subst (λ z. ValueOf (system_now z.theory) t w) same b)

-- so it is with blocks that ask for terms
pub served_still : (old new : Search) → new.solver ≡ old.solver → new.blocks ≡ old.blocks → AllServed old.solver.propagation.trail old.blocks.opened → AllServed new.solver.propagation.trail new.blocks.opened
served_still old new solver blocks h =
    subst (λ (z : List Assigned × List Opened). AllServed z.0 z.1) (λ i. (sym (ap (λ w. w.propagation.trail) solver) i, sym (ap (λ w. w.opened) blocks) i)) h

module _ (p : Problem) (g bound : ℕ) where
  -- a round of the inequalities counted a line, or it asked for an order
  pub added_by : (old new : Search) (before : ℕ) (r : Added) → before ≡ counted old → (before < counted new → r ≡ added.Lines) → (counted new ≤ before → r ≡ added.Order)
      → (counted old < counted new) ⊎ ((counted new ≡ counted old) × IsAsked p old new) → HasAdded p g bound r old new
  added_by old new before r same lines order (inl lt) = subst (λ (a : Added). HasAdded p g bound a old new) (sym (lines (omega (arith, lt, same)))) lt
  added_by old new before r same lines order (inr asked) =
      let as_many = asked.0 in
      subst (λ (a : Added). HasAdded p g bound a old new) (sym (order (omega (arith, as_many, same)))) asked

  -- instances are made behind a round of the inequalities that has counted no fewer lines
  pub finished_later : (old mid new : Search) (k : Orders) (r : Result Progress Fail) → length old.lines.items ≤ length mid.lines.items → counted old ≤ counted mid → HasFinished p g bound mid new k r → HasStepped p g bound old new k r
  finished_later old mid new k (Ok (progress.Ended e)) lines more h = h
  finished_later old mid new k (Ok (progress.Added added.Lines)) lines more h =
      let later = h.lines in
      let less = h.added in
      record { between = h.between; orders = h.orders; lines = omega (arith, lines, later); added = omega (arith, more, less) }
  finished_later old mid new k (Ok (progress.Added added.Blocks)) lines more h = absurd h
  finished_later old mid new k (Ok (progress.Added added.Order)) lines more h = absurd h
  finished_later old mid new k (Err e) lines more h = h

  -- where no block asks for terms, the point is one of the inequalities, and none is owed
  pub settled_from : (mid new : Search) (point : List PointAt) → AllServed mid.solver.propagation.trail mid.blocks.opened → IsPointOf mid point → AllByRecursion PointStands point
      → IsInstantiatedFrom p g bound mid new → IsSettledAt p g bound new point
  settled_from mid new point served is written h = record {
    finished = record {
      between = h.between;
      is_open = h.is_open;
      served = served_still mid new h.solver h.blocks served;
      inequalities = point_stays mid new point h.solver is;
      instantiated = h.instantiated;
    };
    written = written;
  }
