-- The arguments of a written type are smaller than it is.
use Rattle.std.proofs.Common.{arith, ◌≡◌, ℕ, ◌<◌, ◌≤◌, List, length, get_or, sym, subst}
use denote.Param.Weighed.{most, at_most}
use Rattle.ae_syntax.specs.declared.spans.Span.{Span}
use Rattle.ae_syntax.specs.declared.types.WrittenType.{WrittenType, size-WrittenType, size_is-WrittenType}
use Rattle.ae_syntax.specs.declared.types.TypeKind.{TypeKind, size-TypeKind, size_is-TypeKind}
use Rattle.ae_syntax.specs.declared.types.TypeKind as kind
use Rattle.ae_syntax.specs.declared.types.TypeKind.TheVariants.{outs-Named}

args_smaller : (n : Span) (ws : List WrittenType) → most size-WrittenType ws < size-TypeKind (kind.Named n ws)
args_smaller n ws = grind (arith, size_is-TypeKind (kind.Named n ws), outs-Named n ws)

kind_smaller : (w : WrittenType) → size-TypeKind w.kind < size-WrittenType w
kind_smaller w = grind (arith, size_is-WrittenType w)

pub arg_falls : (w : WrittenType) (n : Span) (ws us : List WrittenType) (k : ℕ) (v : WrittenType) → w.kind ≡ kind.Named n ws → us ≡ ws → k < length us → v ≡ get_or us k v → size-WrittenType v < size-WrittenType w
arg_falls w n ws us k v is view l e =
    let here : size-WrittenType v ≤ most size-WrittenType us = subst (λ (x : WrittenType). size-WrittenType x ≤ most size-WrittenType us) (sym e) (at_most size-WrittenType us k v l) in
    let all : most size-WrittenType us < size-TypeKind w.kind =
    subst (λ (x : TypeKind). most size-WrittenType us < size-TypeKind x) (sym is) (subst (λ (xs : List WrittenType). most size-WrittenType xs < size-TypeKind (kind.Named n ws)) (sym view) (args_smaller n ws)) in
    less (size-WrittenType v) (most size-WrittenType us) (size-TypeKind w.kind) (size-WrittenType w) here all (kind_smaller w)
  where
    less : (a b c d : ℕ) → a ≤ b → b < c → c < d → a < d
    less a b c d p q r = omega arith
