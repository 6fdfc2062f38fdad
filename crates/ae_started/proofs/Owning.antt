-- One number more.
use Rattle.std.specs.Prelude.{ℕ, ◌+◌, ◌<◌, List, [], ◌∷◌, ◌++◌, ◌≡◌, get_or}
use Rattle.std.proofs.Common.{refl, sym, ◌∙◌, subst, arith, inl, inr, length-append}
use Rattle.std.proofs.Math.Seq.{get_or-append_seam}
use Rattle.std.proofs.Math.ListN.{get_or-append}
use Rattle.std.proofs.lemmas.Bool.{cases_eq}
use Rattle.ae_started.specs.Started.{AreOwn}

pub none_own : AreOwn 0 []
none_own = record { size = refl; own = λ k lt. absurd (omega (arith, lt)) }

pub one_more : (n : ℕ) (ps qs : List ℕ) → AreOwn n ps → qs ≡ ps ++ n ∷ [] → AreOwn (n + 1) qs
one_more n ps qs h e = subst (AreOwn (n + 1)) (sym e) (record { size = omega (arith, length-append ps (n ∷ []), h.size); own = own })
  where
    own : (k : ℕ) → k < n + 1 → get_or (ps ++ n ∷ []) k 0 ≡ k
    own k lt = elim (cases_eq k n) as (λ _. get_or (ps ++ n ∷ []) k 0 ≡ k) [
      | inl q ↦ subst (λ (j : ℕ). get_or (ps ++ n ∷ []) j 0 ≡ k) (h.size ∙ sym q) (get_or-append_seam ps n [] 0 ∙ sym q)
      | inr d ↦ get_or-append ps (n ∷ []) 0 k (omega (arith, lt, d, h.size)) ∙ h.own k (omega (arith, lt, d))
    ]
