-- A reading that goes on with its own value.
use Rattle.std.proofs.Common.{◌≡◌, refl}
use Rattle.ae_codes.specs.Codes.{Read, got, stops, wide}
use Rattle.ae_readers.specs.Readers.{after_read}

pub same_after : {A : Type 0} (r : Read A) → r ≡ after_read r (λ a rest. got a rest)
same_after (got a rest) = refl
same_after (stops r) = refl
same_after (wide r) = refl
