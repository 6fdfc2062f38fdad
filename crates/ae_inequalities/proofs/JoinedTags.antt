-- Tags that were added one after another.
use Rattle.std.specs.Prelude.{ℕ, suc, ◌<◌, ◌≡◌, List, [], ◌∷◌, ◌++◌, take, length}
use Rattle.std.specs.List.{flat_map}
use Rattle.std.proofs.Common.{sym, ap, ◌∙◌, get_or}
use Rattle.std.proofs.Math.Seq.{take-suc}
use Rattle.std.proofs.lemmas.Grind.{flat_map-append}
use Rattle.std.proofs.lemmas.List.{append-nil}

pub mapped_more : {A : Type 0} (f : ℕ → List A) (xs : List ℕ) (k : ℕ) (it : ℕ) → k < length xs → it ≡ get_or xs k it → (was new : List A) → was ≡ flat_map f (take k xs) → new ≡ was ++ f it → new ≡ flat_map f (take (suc k) xs)
mapped_more f xs k it l e was new a n =
    n ∙ (λ i. a i ++ f it) ∙ ap (λ w. flat_map f (take k xs) ++ w) (sym (append-nil (f it))) ∙ sym (flat_map-append f (take k xs) (it ∷ [])) ∙ ap (λ w. flat_map f (take k xs ++ w ∷ [])) e
    ∙ ap (flat_map f) (sym (take-suc xs k it l))
