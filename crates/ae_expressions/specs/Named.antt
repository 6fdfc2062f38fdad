-- What a name stands for at a place of a text, as a function tells it.
use Rattle.std.specs.Prelude.{List, ◌≡◌, Some, slice_get}
use Rattle.ae_core.specs.declared.terms.Sort.{Sort}
use Rattle.ae_core.specs.declared.problems.Signature.{Signature}
use Rattle.ae_core.specs.declared.problems.SymbolEntry.{SymbolEntry}
use Rattle.ae_elab.specs.Environments.{IsMeaning, meaning_in}
use Rattle.ae_elab.specs.Nodes.{Entry}
use Rattle.ae_elab.specs.Scope.{Named, bound, function, predicate, unknown}
use Rattle.ae_expressions.specs.declared.meanings.Named as code_named
use Rattle.ae_expressions.specs.declared.meanings.Named.TheVariants as found

-- a name stands for this: a bound name's tree is there, and a symbol is declared by the entry of its number
abbrev pub IsNamed : List Entry → Signature → Named → code_named.Named → Type 0
IsNamed es sig s (found.Bound m) = IsMeaning es m × (s ≡ bound (meaning_in es m))
IsNamed es sig s (found.Function k) = (e : SymbolEntry) × (r : Sort) × (slice_get sig.symbols k ≡ Some e) × (e.result ≡ Some r) × (s ≡ function k e r)
IsNamed es sig s (found.Predicate k) = (e : SymbolEntry) × (slice_get sig.symbols k ≡ Some e) × (s ≡ predicate k e)
IsNamed es sig s found.Unknown = s ≡ unknown
