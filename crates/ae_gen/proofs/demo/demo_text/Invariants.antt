use Rattle.std.proofs.Common.{◌≡◌, ◌++◌, string_bytes}
use Rattle.ae_gen.specs.Demo.{in_turn, opening, goal_line}
use Rattle.ae_gen.proofs.demo.demo_text.Given as goal

abbrev pub invariant-loop-k : goal.invariant-loop-k
invariant-loop-k l = string_bytes l.text ≡ opening ++ in_turn goal_line l.k
