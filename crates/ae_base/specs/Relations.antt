-- Lists related place by place.
use Rattle.std.specs.Prelude.{List, [], ◌∷◌}

-- two lists are equally long, and the values at each place are related
abbrev pub Pairwise : {A B : Type 0} → (A → B → Type 0) → List A → List B → Type 0
Pairwise R [] [] = Unit {0}
Pairwise R (x ∷ xs) (y ∷ ys) = R x y × Pairwise R xs ys
Pairwise R _ _ = ⊥
