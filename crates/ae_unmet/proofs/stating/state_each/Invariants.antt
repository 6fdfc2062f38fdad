use Rattle.std.specs.Prelude.{◌≡◌, length, map, take}
use Rattle.ae_conflicts.specs.Saying.{SayEqual}
use Rattle.ae_pmap.specs.Forest.{present}
use Rattle.ae_store.specs.Terms.{named}
use Rattle.ae_theory.specs.Names.{terms_in}
use Rattle.ae_unmet.specs.Inner.Growing.{HasGrown}
use Rattle.ae_unmet.proofs.stating.state_each.Given as goal

abbrev pub invariant-loop-i : goal.invariant-loop-i
invariant-loop-i l = record {
  grown : HasGrown l.store l.initial.held l.held;
  many : length l.left ≡ length l.right;
  say : SayEqual (terms_in l.store) l.held.justs (present l.initial.held.assumed) l.steps (map (named (terms_in l.store)) (take l.i l.left)) (map (named (terms_in l.store)) (take l.i l.right));
}
