-- The signature that declares nothing is lawful.
use Rattle.std.specs.Prelude.{ℕ, ◌<◌, [], ◌≡◌, Option, Some, None}
use Rattle.std.proofs.Common.{refl, sym, subst, arith}
use Rattle.ae_core.specs.declared.problems.Signature.{Signature}
use Rattle.ae_core.specs.declared.problems.SymbolEntry.{SymbolEntry}
use Rattle.ae_core.specs.declared.problems.TypeEntry.{TypeEntry}
use Rattle.ae_core.specs.Signatures.{IsLawful}

none_below : (j : ℕ) → j < 0 → ⊥
none_below j l = omega (arith, l)

abbrev none_declared : Signature
none_declared = record { types = []; symbols = [] }

none_lawful : IsLawful none_declared
none_lawful = record {
  names = refl;
  type_names = λ i j d l m. absurd (none_below j m);
  symbol_names = λ i j d l m. absurd (none_below j m);
  field_names = λ i j d l m. absurd (none_below j m);
  types = λ n e q. absurd (let w : ◌≡◌ {A = Option TypeEntry} None (Some e) = q in cc w);
  symbols = λ n e q. absurd (let w : ◌≡◌ {A = Option SymbolEntry} None (Some e) = q in cc w);
}

pub empty_lawful : (sig : Signature) → sig.types ≡ [] → sig.symbols ≡ [] → IsLawful sig
empty_lawful sig p q = let e : sig ≡ none_declared = λ i. record { types = p i; symbols = q i } in subst IsLawful (sym e) none_lawful
