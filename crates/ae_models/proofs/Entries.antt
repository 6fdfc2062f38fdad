-- What soundness asks of a signature: its types and symbols are lawful, whatever their names are.
use Rattle.std.specs.Prelude.{ℕ, ◌≡◌, slice_get, Some}
use Rattle.ae_core.specs.Signatures.{IsLawful, IsLawfulType, IsLawfulSymbol}
use Rattle.ae_core.specs.declared.problems.Signature.{Signature}
use Rattle.ae_core.specs.declared.problems.SymbolEntry.{SymbolEntry}
use Rattle.ae_core.specs.declared.problems.TypeEntry.{TypeEntry}

pub record HasLawfulEntries (sig : Signature) : Type 0 where
  pub types : (n : ℕ) (e : TypeEntry) → slice_get sig.types n ≡ Some e → IsLawfulType sig n e
  pub symbols : (n : ℕ) (e : SymbolEntry) → slice_get sig.symbols n ≡ Some e → IsLawfulSymbol sig e

-- a lawful signature has such entries
pub lawful_entries : {sig : Signature} → IsLawful sig → HasLawfulEntries sig
lawful_entries lawful = record { types = lawful.types; symbols = lawful.symbols }
