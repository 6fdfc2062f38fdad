-- One step along the lines of a proof: what is reached there.
use Rattle.std.specs.Prelude.{ℕ, zero, suc, ◌+◌, ◌<◌, List, [], ◌∷◌, ◌++◌, length, take, get_or}
use mathlib.Core.Logic.{inl, inr, ⊎_elim}
use Rattle.std.proofs.lemmas.List.{take_more}
use mathlib.Core.Path.{sym, subst}
use mathlib.Core.List.{append_assoc, append-nil}
use native.Mathlib.Omega.{arith}
use Rattle.ae_num.specs.declared.numbers.Wide.{Wide}
use Rattle.ae_rules.specs.Derivations.{AreAllowed, IsAllowed}
use Rattle.ae_core.specs.declared.problems.Problem.{Problem}
use Rattle.ae_core.specs.declared.proofs.ClauseLine.{ClauseLine}
use Rattle.ae_calc.specs.Reached.{Fit, FirstWide, LineReaches, ProofReaches}

module _ (p : Problem) (g : ℕ) where
  abbrev Lines : List ClauseLine → List ClauseLine → Type 0
  Lines e ls = Fit (ProofReaches p g e ls)

  -- what is said of all lines is said of the first, and of those after it where it is allowed
  first_fits : (e ls : List ClauseLine) (x : ClauseLine) → Lines e (x ∷ ls) → Fit (LineReaches p x)
  first_fits e ls x a = record { each = λ ss r. a.each ss (inl r) }

  others_fit : (e ls : List ClauseLine) (x : ClauseLine) → Lines e (x ∷ ls) → IsAllowed p g e x → Lines (e ++ x ∷ []) ls
  others_fit e ls x a h = record { each = λ ss r. a.each ss (inr (h, first_fits e ls x a, r)) }

  all_fit : (e ls : List ClauseLine) (x : ClauseLine) → Fit (LineReaches p x) → (IsAllowed p g e x → Lines (e ++ x ∷ []) ls) → Lines e (x ∷ ls)
  all_fit e ls x f n = record { each = λ ss r. ⊎_elim (λ h. f.each ss h) (λ y. (n y.0).each ss y.2) r }

  -- one more line
  fit_push : (e ls : List ClauseLine) (l : ClauseLine) → Lines e ls → Fit (LineReaches p l) → Lines e (ls ++ l ∷ [])
  fit_push e [] l a w = all_fit e [] l w (λ h. record { each = λ ss r. absurd r })
  fit_push e (x ∷ ls) l a w = all_fit e (ls ++ l ∷ []) x (first_fits e ls x a) (λ h. fit_push (e ++ x ∷ []) ls l (others_fit e ls x a h) w)

  -- a line that isn't allowed: after it nothing is stated
  fit_cut : (e ls : List ClauseLine) (i : ℕ) (d : ClauseLine) → i < length ls → Lines e (take i ls) → Fit (LineReaches p (get_or ls i d)) → ¬ (IsAllowed p g (e ++ take i ls) (get_or ls i d)) → Lines e ls
  fit_cut e [] i d b a w n = absurd (omega (arith, b))
  fit_cut e (x ∷ ls) zero d b a w n = all_fit e ls x w (λ h. absurd (n (subst (λ z. IsAllowed p g z x) (sym (append-nil e)) h)))
  fit_cut e (x ∷ ls) (suc i) d b a w n =
      all_fit e ls x (first_fits e (take i ls) x a)
      (λ h. fit_cut (e ++ x ∷ []) ls i d (omega (arith, b)) (others_fit e (take i ls) x a h) w (λ k. n (subst (λ z. IsAllowed p g z (get_or ls i d)) (append_assoc e (x ∷ []) (take i ls)) k)))

  -- a line that states one outside the limits, after lines that are allowed
  wide_cut : (e ls : List ClauseLine) (i : ℕ) (d : ClauseLine) (w : Wide) → i < length ls → AreAllowed p g e (take i ls) → Lines e (take i ls) → FirstWide (LineReaches p (get_or ls i d)) w → FirstWide (ProofReaches p g e ls) w
  wide_cut e [] i d w b a s f = absurd (omega (arith, b))
  wide_cut e (x ∷ ls) zero d w b a s f = record { steps = f.steps; reached = inl f.reached; first = f.first }
  wide_cut e (x ∷ ls) (suc i) d w b a s f =
      let r = wide_cut (e ++ x ∷ []) ls i d w (omega (arith, b)) a.1 (others_fit e (take i ls) x s a.0) f in
      record { steps = r.steps; reached = inr (a.0, first_fits e (take i ls) x s, r.reached); first = r.first }

-- the same of the lines that a loop has gone over
pub fit_more : (p : Problem) (g : ℕ) (ls : List ClauseLine) (i : ℕ) (d : ClauseLine) → i < length ls → Fit (ProofReaches p g [] (take i ls)) → Fit (LineReaches p (get_or ls i d)) → Fit (ProofReaches p g [] (take (i + 1) ls))
fit_more p g ls i d b a w = subst (λ z. Fit (ProofReaches p g [] z)) (sym (take_more ls i d b)) (fit_push p g [] (take i ls) (get_or ls i d) a w)

pub fit_stop : (p : Problem) (g : ℕ) (ls : List ClauseLine) (i : ℕ) (d : ClauseLine) → i < length ls → Fit (ProofReaches p g [] (take i ls)) → Fit (LineReaches p (get_or ls i d)) → ¬ (IsAllowed p g (take i ls) (get_or ls i d)) → Fit (ProofReaches p g [] ls)
fit_stop p g = fit_cut p g []

pub wide_at : (p : Problem) (g : ℕ) (ls : List ClauseLine) (i : ℕ) (d : ClauseLine) (w : Wide) → i < length ls → AreAllowed p g [] (take i ls) → Fit (ProofReaches p g [] (take i ls)) → FirstWide (LineReaches p (get_or ls i d)) w → FirstWide (ProofReaches p g [] ls) w
wide_at p g = wide_cut p g []
