use Rattle.std.proofs.Common.{◌≡◌, ◌++◌, ℕ, List, map, take}
use Rattle.ae_core.specs.declared.terms.Sort.{Sort}
use Rattle.ae_elab.specs.Nodes.{Entry, patterns_at}
use Rattle.ae_elab.specs.Sizes.{Size}
use Rattle.ae_sizes.specs.Inner.Counted.{counted, pile, told}
use Rattle.ae_sizes.specs.Inner.Weights.{pattern_sizes}
use Rattle.ae_sizes.proofs.node_sizes.pattern_sizes.Given as goal

abbrev pub invariant-loop-trigger : goal.invariant-loop-trigger
invariant-loop-trigger l =
    (f : ℕ → Sort) (es : List Entry) (ss : List Size) → l.measures ≡ map (told f) es → l.fn.before ≡ counted (pile ss)
    → l.parts ≡ counted (pile (ss ++ pattern_sizes f (patterns_at es (take l.trigger-index l.triggers))))
