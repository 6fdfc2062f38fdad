-- How the terms of an atom stand in it.
use Rattle.std.specs.Prelude.{ℕ, min, ◌≡◌}
use Rattle.ae_elab.specs.Weights.{pairs}
use Rattle.ae_sizes.specs.declared.stands.Stands.{Stands}
use Rattle.ae_sizes.specs.declared.stands.Stands.TheVariants.{Once, Pairs, Fields}
use Rattle.ae_sizes.specs.Inner.Weights.{Stand, once, in_pairs, in_fields}

abbrev pub stand_of : Stands → ℕ → Stand
stand_of Once = once
stand_of (Pairs n p) = in_pairs n
stand_of (Fields n ps) = in_fields n ps.now

-- the pairs are counted up to the greatest number
abbrev pub ArePairs : Stands → Type 0
ArePairs Once = Unit {0}
ArePairs (Pairs n p) = p ≡ min (pairs n) 18446744073709551615
ArePairs (Fields n ps) = Unit {0}
