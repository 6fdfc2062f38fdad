-- Lists that are the same after a map are so at each place.
use Rattle.std.specs.Prelude.{ℕ, zero, suc, ◌<◌, ◌≡◌, List, [], ◌∷◌, map, length, get_or}
use Rattle.std.proofs.Common.{arith}
use Rattle.ae_base.proofs.ListFacts.{cons_head, cons_tail}

pub same_at : {A B : Type 0} (f : A → B) (xs ys : List A) (i : ℕ) (a b : A) → i < length xs → i < length ys → map f xs ≡ map f ys → f (get_or xs i a) ≡ f (get_or ys i b)
same_at f [] ys i a b l m e = absurd (omega (arith, l))
same_at f (x ∷ xs) [] i a b l m e = absurd (omega (arith, m))
same_at f (x ∷ xs) (y ∷ ys) zero a b l m e = cons_head (f x) (f y) (map f xs) (map f ys) e
same_at f (x ∷ xs) (y ∷ ys) (suc i) a b l m e = same_at f xs ys i a b (omega (arith, l)) (omega (arith, m)) (cons_tail (f x) (f y) (map f xs) (map f ys) e)
