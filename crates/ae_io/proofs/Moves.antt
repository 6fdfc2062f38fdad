-- Writes one after another.
use Rattle.std.proofs.Common.{◌≡◌, ℕ, ◌+◌, ◌-◌, length, List, ◌++◌, take, drop, sym, ap, ◌∙◌, append_assoc, subst}
use Rattle.std.proofs.Math.Seq.{take-add, take-length}
use Rattle.std.proofs.lemmas.List.{length-drop}
use Rattle.ae_io.specs.Moves.{Written, Lost, Untold, Told, Gets}

gets_lost : (c : Written) (xs ys : List ℕ) → Gets Lost c xs → Gets Lost c ys
gets_lost Lost xs ys h = tt
gets_lost Untold xs ys h = h
gets_lost (Told z) xs ys h = h

pub gets_then : (a b c : Written) (xs ys : List ℕ) → Gets a b xs → Gets b c ys → Gets a c (xs ++ ys)
gets_then Lost Lost c xs ys h k = gets_lost c ys (xs ++ ys) k
gets_then Lost Untold c xs ys h k = absurd h
gets_then Lost (Told y) c xs ys h k = absurd h
gets_then Untold b c xs ys h k = tt
gets_then (Told x) b Lost xs ys h k = tt
gets_then (Told x) Lost Untold xs ys h k = k
gets_then (Told x) Untold Untold xs ys h k = h
gets_then (Told x) (Told y) Untold xs ys h k = k
gets_then (Told x) Lost (Told z) xs ys h k = absurd k
gets_then (Told x) Untold (Told z) xs ys h k = absurd h
gets_then (Told x) (Told y) (Told z) xs ys h k = k ∙ ap (λ w. w ++ ys) h ∙ append_assoc x xs ys

-- the second write is of the rest, as `&xs[d..]` gives it
pub gets_more : (a b c : Written) (d n : ℕ) (xs : List ℕ) → Gets a b (take d xs) → Gets b c (take n (take (length xs - d) (drop d xs))) → Gets a c (take (d + n) xs)
gets_more a b c d n xs h k =
    let whole : take (length xs - d) (drop d xs) ≡ drop d xs = ap (λ m. take m (drop d xs)) (sym (length-drop d xs)) ∙ take-length (drop d xs) in
    subst (λ w. Gets a c w) (sym (take-add d n xs)) (gets_then a b c _ _ h (subst (λ w. Gets b c (take n w)) whole k))
