-- New unknowns, one by one.
use Rattle.std.proofs.Common.{arith, ◌≡◌, ◌∙◌, ℕ, suc, ◌+◌, ◌-◌, ◌<◌, ◌≤◌, List, [], ◌∷◌, ◌++◌, sym, ap, subst}
use Rattle.std.proofs.lemmas.List.{append_assoc, append-nil}
use Rattle.ae_core.specs.declared.terms.Sort.{Sort, Var}
use Rattle.ae_elab.specs.Rules.{Passed, fresh, unknowns, give, ◌>>◌}
use Rattle.ae_elab.specs.Steps.{IsWalked, IsTaken}
use Rattle.ae_elab.proofs.WalkLaws.{give_walked, then_walked}

one_more : (k : ℕ) (m : ℕ → Sort) (p r q : Passed) (n : ℕ) (ss : List Sort) → IsTaken fresh p r n → IsWalked (unknowns k) m m r q ss → IsWalked (unknowns (suc k)) m m p q (Var n ∷ ss)
one_more k m p r q n ss t a =
    then_walked fresh (λ i. unknowns k >> λ vs. give (Var i ∷ vs)) m m m p r q n (Var n ∷ ss) (t m)
    (then_walked (unknowns k) (λ vs. give (Var n ∷ vs)) m m m r q q ss (Var n ∷ ss) a (give_walked (Var n ∷ ss) m q))

-- what the rest comes to, the whole comes to with what is there
abbrev pub Comes : ℕ → ℕ → Passed → Passed → List Sort → Type 0
Comes count i start now done = (m : ℕ → Sort) (q : Passed) (ss : List Sort) → IsWalked (unknowns (count - i)) m m now q ss → IsWalked (unknowns count) m m start q (done ++ ss)

pub comes_next : (count i : ℕ) (start now next : Passed) (done more : List Sort) (n : ℕ) → i < count → IsTaken fresh now next n → more ≡ done ++ Var n ∷ []
    → Comes count i start now done → Comes count (i + 1) start next more
comes_next count i start now next done more n l t e h m q ss a =
    let left : count - i ≡ suc (count - (i + 1)) = omega (arith, l) in
    let b = h m q (Var n ∷ ss) (subst (λ k. IsWalked (unknowns k) m m now q (Var n ∷ ss)) (sym left) (one_more (count - (i + 1)) m now next q n ss t a)) in
    subst (λ z. IsWalked (unknowns count) m m start q z) (sym (append_assoc done (Var n ∷ []) ss) ∙ ap (λ z. z ++ ss) (sym e)) b

pub comes_whole : (count i : ℕ) (start now : Passed) (done : List Sort) → count ≤ i → Comes count i start now done → IsTaken (unknowns count) start now done
comes_whole count i start now done l h m =
    let none_left : count - i ≡ 0 = omega (arith, l) in
    subst (λ z. IsWalked (unknowns count) m m start now z) (append-nil done)
    (h m now [] (subst (λ k. IsWalked (unknowns k) m m now now []) (sym none_left) (give_walked [] m now)))
