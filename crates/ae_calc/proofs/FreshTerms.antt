-- Constants counted from a number on.
use Rattle.std.specs.Prelude.{ℕ, suc, ◌+◌, ◌<◌, List, [], ◌∷◌, ◌++◌, ◌≡◌, length, take, get_or}
use Rattle.std.proofs.lemmas.List.{take_more, length-take-le}
use mathlib.Core.Path.{ap, ◌∙◌}
use native.Mathlib.Omega.{arith}
use Rattle.ae_rules.specs.Instances.{count_from}
use Rattle.ae_core.specs.declared.terms.Sort.{Sort}
use Rattle.ae_core.specs.declared.terms.Term.{Fresh}

count_push : (m : ℕ) (ss : List Sort) (s : Sort) → count_from m (ss ++ s ∷ []) ≡ count_from m ss ++ Fresh (m + length ss) s ∷ []
count_push m [] s = ap (λ k. Fresh k s ∷ []) (omega arith)
count_push m (x ∷ ss) s = ap (λ ts. Fresh m x ∷ ts) (count_push (suc m) ss s ∙ ap (λ k. count_from (suc m) ss ++ Fresh k s ∷ []) (omega arith))

-- one more constant
pub count_more : (m : ℕ) (ss : List Sort) (i : ℕ) (d : Sort) → i < length ss → count_from m (take (i + 1) ss) ≡ count_from m (take i ss) ++ Fresh (m + i) (get_or ss i d) ∷ []
count_more m ss i d b =
    ap (count_from m) (take_more ss i d b) ∙ count_push m (take i ss) (get_or ss i d)
    ∙ ap (λ k. count_from m (take i ss) ++ Fresh (m + k) (get_or ss i d) ∷ []) (length-take-le i ss (omega (arith, b)))
