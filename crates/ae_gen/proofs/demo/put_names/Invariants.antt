use Rattle.std.proofs.Common.{◌≡◌, ◌++◌, codes, decimal, string_bytes}
use Rattle.ae_gen.specs.Demo.{in_turn}
use Rattle.ae_gen.proofs.demo.put_names.Given as goal

abbrev pub invariant-loop-n : goal.invariant-loop-n
invariant-loop-n l = string_bytes l.out ≡ string_bytes l.initial.out ++ in_turn (λ n. l.letter ++ decimal n ++ codes ", ") l.n-counter
