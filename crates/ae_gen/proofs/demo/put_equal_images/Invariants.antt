use Rattle.std.proofs.Common.{◌≡◌, ◌+◌, ◌++◌, codes, string_bytes}
use Rattle.ae_gen.specs.Demo.{in_turn, constant}
use Rattle.ae_gen.proofs.demo.put_equal_images.Given as goal

abbrev pub invariant-loop-j : goal.invariant-loop-j
invariant-loop-j l =
    string_bytes l.out
    ≡ string_bytes l.initial.out
    ++ in_turn (λ j. constant l.k j ++ codes " = " ++ constant l.k (j + 1) ++ codes " -> ") l.j
