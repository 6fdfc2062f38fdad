-- Lists of names of different lengths aren't the same.
use Rattle.std.specs.Prelude.{ℕ, suc, ◌≡◌, ◌≢◌, Bool, false, ◌&&◌, List, [], ◌∷◌, length}
use Rattle.std.proofs.Math.Bool.{and-false}
use Rattle.std.proofs.Common.{refl, ap, ◌∙◌}
use Rattle.ae_inst.specs.Matches.{are_same}

pub lengths_differ : (alike : ℕ → ℕ → Bool) (ms ns : List ℕ) → length ms ≢ length ns → are_same alike ms ns ≡ false
lengths_differ alike [] [] d = absurd (d refl)
lengths_differ alike [] (n ∷ ns) d = refl
lengths_differ alike (m ∷ ms) [] d = refl
lengths_differ alike (m ∷ ms) (n ∷ ns) d = ap (λ b. alike m n && b) (lengths_differ alike ms ns (λ e. d (ap suc e))) ∙ and-false (alike m n)
