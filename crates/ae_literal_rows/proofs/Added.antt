-- What holds of a row that there is.
use Rattle.std.specs.Prelude.{◌≡◌, Option, Some, IfSome}
use Rattle.std.proofs.Common.{subst}

pub some_row : {A : Type 0} (P : A → Type 0) (o : Option A) (r : A) → o ≡ Some r → IfSome o P → P r
some_row P o r e h = subst (λ z. IfSome z P) e h
