use Rattle.std.proofs.Common.{ℕ, [], reverse, drop}
use Rattle.ae_core.specs.declared.terms.Sort.{Sort}
use Rattle.ae_elab.specs.Declarations.{new_symbols}
use Rattle.ae_elab.proofs.NameRules.{Follows}
use Rattle.ae_elab.proofs.new_names.new_symbols.Given as goal

abbrev pub invariant-loop-place : goal.invariant-loop-place
invariant-loop-place l =
    (m : ℕ → Sort) → Follows (new_symbols l.text l.known [] l.place-items) (new_symbols l.text l.known (reverse l.seen) (drop l.place-index l.place-items)) m
