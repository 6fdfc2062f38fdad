-- What a run makes of a step: a turn.
use Rattle.std.specs.Prelude.{ℕ, ◌<◌, ◌≤◌, ◌≡◌, ◌⊎◌, List, [], ◌∷◌, ◌++◌}
use Rattle.std.proofs.Common.{sym, ap, ◌∙◌, subst, arith, inl, inr}
use Rattle.std.proofs.lemmas.Bool.{cases_lt}
use Rattle.ae_between_rounds.specs.Between.{IsBetweenRounds}
use Rattle.ae_between_rounds.specs.Finished.{IsOpenSearch}
use Rattle.ae_between_rounds.specs.declared.search.Search.{Search}
use Rattle.ae_block_counts.specs.Counts.{quantifiers_left}
use Rattle.ae_core.specs.declared.problems.Problem.{Problem}
use Rattle.ae_explain.specs.declared.trail.Assigned.{Assigned}
use Rattle.ae_kept_blocks.proofs.Runs.{quantifiers_kept}
use Rattle.ae_kept_blocks.specs.Kept.{GoesOnOver}
use Rattle.ae_opening.specs.declared.opening.OpenedBlocks.{OpenedBlocks}
use Rattle.ae_order_counts.proofs.Asked.{asked_fewer, asked_quantifiers}
use Rattle.ae_order_counts.specs.Trails.{IsOpenTrail}
use Rattle.ae_ordered_rounds.specs.Comes.{IsAsked}
use Rattle.ae_ordered_rounds.specs.Orders.{AreOrdersOf}
use Rattle.ae_ordered_rounds.specs.declared.orders.Orders.{Orders}
use Rattle.ae_rounds.specs.Ended.{HasSettled}
use Rattle.ae_rounds.specs.Turns.{counted, quantifiers_to_open, HasAdded, HasAdvanced, IsBetweenTurns, IsStep, IsTurn}
use Rattle.ae_rounds.specs.declared.progress.Added.{Added}
use Rattle.ae_rounds.specs.declared.progress.Added.TheVariants as added
use Rattle.ae_rules.specs.Clauses.{Clause}
use Rattle.ae_sat.proofs.Learnt.{new_one}
use Rattle.ae_sat.specs.Search.{Brings}
use Rattle.ae_sat.specs.Standing.{IsOneOf}

-- where no line was counted, the quantifiers are fewer
pub fewer_quantifiers : (m n x y : ℕ) → (m < n) ⊎ ((n ≡ m) × (y < x)) → n ≤ m → (n ≡ m) × (y < x)
fewer_quantifiers m n x y (inl lt) few = absurd (omega (arith, lt, few))
fewer_quantifiers m n x y (inr h) few = h

module _ (p : Problem) (g bound : ℕ) where
  open_trail : (o : Search) → IsBetweenRounds p g bound o → IsOpenSearch o → IsOpenTrail o.solver.propagation.trail o.solver.propagation.clauses
  open_trail o h is = record { lawful = h.searching.alive.running.lawful; stands = h.searching.alive.running.stands; all_true = is.all_true }

  module _ (first mid new : Search) (known k : Orders) (was : IsBetweenTurns p g bound first known) (run : HasSettled p g bound mid new) where
    -- blocks were opened, and no line was counted
    of_blocks : counted mid ≡ counted first → quantifiers_to_open mid < quantifiers_to_open first → counted new ≤ counted first → HasAdvanced added.Blocks first new
    of_blocks same falls few =
        let more = run.counted in
        let kept = quantifiers_kept mid.solver.propagation.clauses new.solver.propagation.clauses run.over new.blocks.opened in
        let blocks = ap (λ (b : OpenedBlocks). quantifiers_left b.opened mid.solver.propagation.clauses) run.blocks in
        (omega (arith, more, same, few), omega (arith, falls, kept, blocks))

    -- an order was asked for, and no line was counted
    of_order : counted mid ≡ counted first → IsAsked p first mid → counted new ≤ counted first → HasAdvanced added.Order first new
    of_order same asked few =
        let more = run.counted in
        let still : counted new ≡ counted mid = omega (arith, more, same, few) in
        let old = first.solver.propagation in
        let now = new.solver.propagation in
        let brings : Brings old.trail (old.clauses ++ asked.clause ∷ []) now.trail now.clauses =
        subst (λ (w : List Clause). Brings old.trail w now.trail now.clauses) asked.clauses (subst (λ (w : List Assigned). Brings w mid.solver.propagation.clauses now.trail now.clauses) asked.trail (run.still still)) in
        let over : GoesOnOver (old.clauses ++ asked.clause ∷ []) now.clauses = subst (λ (w : List Clause). GoesOnOver w now.clauses) asked.clauses run.over in
        let there : IsOneOf now.clauses asked.clause = run.kept asked.clause (subst (λ (w : List Clause). IsOneOf w asked.clause) (sym asked.clauses) (new_one old.clauses asked.clause)) in
        let fewer = asked_fewer p.signature asked.left asked.right asked.clause old.trail now.trail old.clauses now.clauses (open_trail first was.between was.is_open) asked.is_open asked.is brings over there
        (open_trail new run.between run.is_open) in
        let kept = asked_quantifiers p.signature asked.left asked.right asked.clause new.blocks.opened old.clauses now.clauses asked.is over in
        let blocks = ap (λ (b : OpenedBlocks). quantifiers_left b.opened old.clauses) (run.blocks ∙ asked.blocks) in
        (still ∙ same, omega (arith, kept, blocks), fewer)

    of_kind : (a : Added) → HasAdded p g bound a first mid → counted new ≤ counted first → HasAdvanced a first new
    of_kind added.Lines less few = let more = run.counted in absurd (omega (arith, less, few, more))
    of_kind added.Blocks h few = of_blocks h.0 h.1 few
    of_kind added.Order h few = of_order h.0 h.1 few

    advanced : (a r : Added) → HasAdded p g bound a first mid → (counted first < counted new → r ≡ added.Lines) → (counted new ≤ counted first → r ≡ a) → HasAdvanced r first new
    advanced a r h lines same = elim (cases_lt (counted first) (counted new)) as (λ _. HasAdvanced r first new) [
      | inl lt ↦ subst (λ (x : Added). HasAdvanced x first new) (sym (lines lt)) lt
      | inr ge ↦ subst (λ (x : Added). HasAdvanced x first new) (sym (same ge)) (of_kind a h ge)
    ]

    pub turn_from : (a r : Added) (later : Orders) → IsStep p g bound a first mid later → AreOrdersOf p g new k → (counted first < counted new → r ≡ added.Lines) → (counted new ≤ counted first → r ≡ a)
        → IsTurn p g bound r first new k
    turn_from a r later h orders lines same =
        let before = h.lines in
        let behind = run.lines in
        record {
          turns = record { between = run.between; is_open = run.is_open; orders = orders };
          lines = omega (arith, before, behind);
          advanced = advanced a r h.added lines same;
        }
