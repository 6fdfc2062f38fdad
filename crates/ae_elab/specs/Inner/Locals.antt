-- A list without its last element.
use Rattle.std.specs.Prelude.{List, [], ◌∷◌, ◌++◌, ◌≡◌, ◌⊎◌}

-- without the last one
abbrev pub DropsLast : {A : Type 0} → List A → List A → Type 0
DropsLast {A} old new = ((old ≡ []) × (new ≡ [])) ⊎ ((last : A) × (old ≡ new ++ last ∷ []))
