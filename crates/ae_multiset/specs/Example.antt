-- Three rules, as an example. The third comes of the overlap of the other two.
use Rattle.std.specs.Prelude.{ℕ, List, [], ◌∷◌}

abbrev pub first_two : List (List ℕ × List ℕ)
first_two = (0 ∷ 1 ∷ [], 2 ∷ []) ∷ (0 ∷ 3 ∷ [], 4 ∷ []) ∷ []

abbrev pub all_three : List (List ℕ × List ℕ)
all_three = (0 ∷ 1 ∷ [], 2 ∷ []) ∷ (0 ∷ 3 ∷ [], 4 ∷ []) ∷ (1 ∷ 4 ∷ [], 2 ∷ 3 ∷ []) ∷ []
