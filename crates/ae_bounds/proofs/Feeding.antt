-- The turn of a loop that feeds a hasher.
use Rattle.std.specs.Prelude.{ℕ, zero, suc, ◌+◌, ◌≡◌, List, [], ◌∷◌, Some, take, fold, slice_get}
use Rattle.std.specs.List.{flat_map}
use Rattle.std.proofs.Common.{arith, sym, ap, ◌∙◌}
use Rattle.std.proofs.lemmas.List.Sums.{fold-append}
use Rattle.std.specs.Hash.{HashWrites}

module _ {S T : Type 0} (write : S → List ℕ → S) (F : T → HashWrites) where
  next : (s : S) (xs : List T) (i : ℕ) (x : T) → slice_get xs i ≡ Some x → fold write s (flat_map F (take (suc i) xs)) ≡ fold write (fold write s (flat_map F (take i xs))) (F x)
  next s [] i x e = cc
  next s (y ∷ ys) zero x e = let h : y ≡ x = cc in fold-append write s (F y) [] ∙ ap (λ z. fold write s (F z)) h
  next s (y ∷ ys) (suc i) x e =
      fold-append write s (F y) (flat_map F (take (suc i) ys)) ∙ next (fold write s (F y)) ys i x e
      ∙ ap (λ t. fold write t (F x)) (sym (fold-append write s (F y) (flat_map F (take i ys))))

  pub each_more : (s : S) (xs : List T) (i : ℕ) (x : T) → slice_get xs i ≡ Some x → fold write s (flat_map F (take (i + 1) xs)) ≡ fold write (fold write s (flat_map F (take i xs))) (F x)
  each_more s xs i x e =
      let n : i + 1 ≡ suc i = omega arith in
      ap (λ k. fold write s (flat_map F (take k xs))) n ∙ next s xs i x e
