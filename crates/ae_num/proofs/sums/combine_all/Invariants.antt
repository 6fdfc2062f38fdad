use Rattle.std.proofs.Common.{◌≡◌, ◌++◌, drop}
use Rattle.ae_num.specs.Forms.{first_wide}
use Rattle.ae_num.specs.Inner.Pairs.{combined, outcome_of, all_steps}
use Rattle.ae_num.proofs.sums.combine_all.Given as goal

abbrev pub invariant-loop-pair : goal.invariant-loop-pair
invariant-loop-pair l = record {
  so_far : l.parts ++ combined (outcome_of l.rule) (drop l.pair-index l.pairs) ≡ combined (outcome_of l.rule) l.pairs;
  fits : first_wide (all_steps l.rule l.pairs) ≡ first_wide (all_steps l.rule (drop l.pair-index l.pairs));
}
