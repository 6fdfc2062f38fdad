use Rattle.std.proofs.Common.{◌≡◌, map, take}
use Rattle.ae_elab.specs.Declarations.{symbol_entry, with_symbols}
use Rattle.ae_elab.specs.Scope.{name_in}
use Rattle.ae_elab.proofs.declarations.push_symbols.Given as goal

abbrev pub invariant-loop-place : goal.invariant-loop-place
invariant-loop-place l =
    l.known ≡ with_symbols l.fn.known (map (λ x. symbol_entry (name_in l.text x) l.vars l.args l.value l.nature) (take l.place-index l.place-items))
