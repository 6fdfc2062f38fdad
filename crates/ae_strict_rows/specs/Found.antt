-- Blocks of literals of a trail.
use Rattle.std.specs.Prelude.{List}
use Rattle.ae_bound_blocks.specs.Said.{AreBuilt}
use Rattle.ae_explain.specs.declared.trail.Assigned.{Assigned}
use Rattle.ae_rules.specs.Derivations.{IsContradictory}
use Rattle.ae_sat.specs.Marked.{atoms}
use Rattle.ae_store.specs.Stores.{Stored}
use Rattle.ae_theory.specs.Names.{terms_in}
use Rattle.ae_theory.specs.Noting.{IsBlockOf}
use Rattle.ae_theory.specs.declared.theory.Explained.{Explained}

-- the block is right, its hypotheses are literals of the trail, and its lines are between terms that are built of the names
pub record IsFoundIn (s : Stored) (t : List Assigned) (e : Explained) : Type 0 where
  pub contradictory : IsContradictory s.signature e.block
  pub literals : IsBlockOf (atoms t) e.block.deriv.hyps e.tags
  pub built : AreBuilt s.signature (terms_in s) e.block.deriv.lines
