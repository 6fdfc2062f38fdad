-- What a clause line states: only a block states products and sums, and each block with well-sorted hypotheses states a clause.
use Rattle.std.specs.Prelude.{ℕ, ◌≢◌, map, [], Some}
use mathlib.Core.Path.{refl, ap}
use Rattle.ae_base.specs.Options.{only}
use Rattle.ae_base.proofs.Options.{only_some}
use Rattle.ae_num.specs.declared.numbers.Wide.{Wide}
use Rattle.ae_rules.specs.Clauses.{opposite}
use Rattle.ae_rules.specs.Derivations.{HasConclusion, clause_ok}
use Rattle.ae_core.specs.declared.problems.Problem.{Problem}
use Rattle.ae_core.specs.declared.proofs.Block.{Block as BlockOf}
use Rattle.ae_core.specs.declared.proofs.ClauseLine.{ClauseLine}
use Rattle.ae_core.specs.declared.proofs.ClauseLine.TheVariants.{Hyp, Goal, Def, Inst, Fresh, Exh, Tri, Block, Rup}
use Rattle.ae_calc.specs.Reached.{Fit, FirstWide, BlockReaches, LineReaches}

-- a line other than a block states nothing
pub unstated : (p : Problem) (l : ClauseLine) → ((b : BlockOf) → l ≢ Block b) → Fit (LineReaches p l)
unstated p (Hyp k ss) n = record { each = λ ss r. absurd r }
unstated p Goal n = record { each = λ ss r. absurd r }
unstated p (Def r f) n = record { each = λ ss r. absurd r }
unstated p (Inst f ts) n = record { each = λ ss r. absurd r }
unstated p (Fresh f m) n = record { each = λ ss r. absurd r }
unstated p (Exh t) n = record { each = λ ss r. absurd r }
unstated p (Tri s t) n = record { each = λ ss r. absurd r }
unstated p (Block b) n = absurd (n b refl)
unstated p (Rup c ks) n = record { each = λ ss r. absurd r }

module _ (p : Problem) (g : ℕ) where
  -- so does a line that states no clause
  pub without_clause : (l : ClauseLine) → ¬ (HasConclusion p g l) → Fit (LineReaches p l)
  without_clause (Hyp k ss) n = record { each = λ ss r. absurd r }
  without_clause Goal n = record { each = λ ss r. absurd r }
  without_clause (Def r f) n = record { each = λ ss r. absurd r }
  without_clause (Inst f ts) n = record { each = λ ss r. absurd r }
  without_clause (Fresh f m) n = record { each = λ ss r. absurd r }
  without_clause (Exh t) n = record { each = λ ss r. absurd r }
  without_clause (Tri s t) n = record { each = λ ss r. absurd r }
  without_clause (Block b) n = record { each = λ ss r. absurd (n (map opposite b.deriv.hyps, ap (λ h. only h (Some (map opposite b.deriv.hyps))) r.0)) }
  without_clause (Rup c ks) n = record { each = λ ss r. absurd r }

  pub block_fits : (b : BlockOf) → Fit (BlockReaches p.signature b.deriv.hyps b.ending [] b.deriv.lines) → Fit (LineReaches p (Block b))
  block_fits b f = record { each = λ ss r. f.each ss r.1 }

  pub block_wide : (b : BlockOf) (w : Wide) → HasConclusion p g (Block b) → FirstWide (BlockReaches p.signature b.deriv.hyps b.ending [] b.deriv.lines) w → FirstWide (LineReaches p (Block b)) w
  block_wide b w h f =
      record { steps = f.steps; reached = ((only_some (clause_ok p.signature b.deriv.hyps) (Some (map opposite b.deriv.hyps)) h.0 h.1).0, f.reached); first = f.first }
