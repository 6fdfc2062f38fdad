use Rattle.std.proofs.Common.{ℕ, ◌≡◌, ◌++◌, map, reverse, take, drop}
use Rattle.ae_core.specs.declared.terms.Sort.{Sort}
use Rattle.ae_elab.specs.Declarations.{all_different}
use Rattle.ae_elab.specs.Scope.{name_in}
use Rattle.ae_elab.proofs.NameRules.{Follows}
use Rattle.ae_expressions.proofs.blocks.new_names.Given as goal

abbrev pub invariant-loop-place : goal.invariant-loop-place
invariant-loop-place l = record {
  follows : (m : ℕ → Sort) → Follows (all_different l.text (reverse l.fn.seen) l.places) (all_different l.text (reverse l.seen) (drop l.place-index l.places)) m;
  names : l.seen ≡ l.fn.seen ++ map (name_in l.text) (take l.place-index l.places);
}
