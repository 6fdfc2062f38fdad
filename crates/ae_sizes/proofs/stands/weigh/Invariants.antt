use Rattle.std.proofs.Common.{◌≡◌, ◌≤◌, ℕ, List, map, length, drop}
use Rattle.ae_core.specs.declared.terms.Sort.{Sort}
use Rattle.ae_elab.specs.Nodes.{Entry, trees_at}
use Rattle.ae_sizes.specs.Inner.Counted.{counted_weight, told}
use Rattle.ae_sizes.specs.Inner.Stands.{stand_of}
use Rattle.ae_sizes.specs.Inner.Weights.{all_standing, weight_list}
use Rattle.ae_sizes.proofs.stands.weigh.Given as goal

abbrev pub invariant-loop-place : goal.invariant-loop-place
invariant-loop-place l =
    (l.place ≤ length l.terms)
    × ((f : ℕ → Sort) (es : List Entry) → l.measures ≡ map (told f) es
    → l.weight ≡ counted_weight (all_standing (stand_of l.stands) l.place (weight_list l.last f (trees_at es (drop l.place l.terms)))))

abbrev pub decreases-loop-place : goal.decreases-loop-place
decreases-loop-place l = l.place
