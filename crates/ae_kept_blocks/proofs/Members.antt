-- Members of clauses, and of what is put together of lists.
use Rattle.std.specs.Prelude.{List, [], ◌∷◌, slice_index_or}
use Rattle.std.specs.List.{Contains, flat_map}
use Rattle.std.proofs.Common.{◌∙◌, arith, inl, inr}
use Rattle.std.proofs.lemmas.List.Elements.{Contains-append_cases}
use Rattle.std.proofs.lemmas.Option.{slice_get-get_or, get_or_from_slice_get}
use Rattle.ae_explain.specs.Trail.{clause}
use Rattle.ae_journal.proofs.Splits.{contains_here, contains_later}
use Rattle.ae_rules.specs.Clauses.{Clause}
use Rattle.ae_sat.specs.Standing.{IsOneOf}

pub one_of : (cs : List Clause) (c : Clause) → Contains cs c → IsOneOf cs c
one_of cs c h = (h.0, h.1, get_or_from_slice_get cs h.0 (slice_index_or cs h.0 c) [] (slice_get-get_or cs h.0 c h.1) ∙ h.2)

pub contained : (cs : List Clause) (c : Clause) → IsOneOf cs c → Contains cs c
contained cs c h = (h.0, h.1, get_or_from_slice_get cs h.0 (clause cs h.0) c (slice_get-get_or cs h.0 [] h.1) ∙ h.2)

pub from_flat : {X Y : Type 0} (f : X → List Y) (xs : List X) (y : Y) → Contains (flat_map f xs) y → (x : X) × Contains xs x × Contains (f x) y
from_flat f [] y h = absurd (omega (arith, h.1))
from_flat {X} {Y} f (x ∷ xs) y h = elim (Contains-append_cases (f x) (flat_map f xs) y h) as (λ _. (z : X) × Contains (x ∷ xs) z × Contains (f z) y) [
  | inl k ↦ (x, contains_here x xs, k)
  | inr k ↦ let w = from_flat f xs y k in (w.0, contains_later x xs w.0 w.1, w.2)
]
