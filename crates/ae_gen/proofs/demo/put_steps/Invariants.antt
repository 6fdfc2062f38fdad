use Rattle.std.proofs.Common.{◌≡◌, ◌+◌, ◌++◌, codes, string_bytes}
use Rattle.ae_gen.specs.Demo.{in_turn, real_constant}
use Rattle.ae_gen.proofs.demo.put_steps.Given as goal

abbrev pub invariant-loop-j : goal.invariant-loop-j
invariant-loop-j l =
    string_bytes l.out
    ≡ string_bytes l.initial.out
    ++ in_turn (λ j. real_constant j ++ codes " = " ++ real_constant (j + 1) ++ codes " + 1.0 -> ") l.j-counter
