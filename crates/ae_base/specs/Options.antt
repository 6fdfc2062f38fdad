-- Values that may be absent.
use Rattle.std.specs.Prelude.{Bool, true, false, List, [], ◌∷◌, Option, Some, None}

-- the value, or another where there is none
abbrev pub or_else : {A : Type 0} → Option A → A → A
or_else (Some x) d = x
or_else None d = d

-- what is answered for the value; none where there is none
infixl 10 ◌>>=◌
abbrev pub ◌>>=◌ : {A B : Type 0} → Option A → (A → Option B) → Option B
(Some x) >>= f = f x
None >>= f = None

-- what there is, only where the test holds
abbrev pub only : {A : Type 0} → Bool → Option A → Option A
only true o = o
only false o = None

-- the value, where the test holds
abbrev pub when : {A : Type 0} → Bool → A → Option A
when b x = only b (Some x)

-- all values, where none is absent
abbrev pub all_known : {A : Type 0} → List (Option A) → Option (List A)
all_known [] = Some []
all_known (o ∷ os) = o >>= λ x. all_known os >>= λ xs. Some (x ∷ xs)

-- there is a value
abbrev pub known : {A : Type 0} → Option A → Bool
known (Some x) = true
known None = false
