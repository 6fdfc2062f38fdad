-- One step along a list of lines, each of which is allowed after those before it.
use Rattle.std.specs.Prelude.{ℕ, zero, suc, ◌+◌, ◌<◌, List, [], ◌∷◌, ◌++◌, ◌≡◌, true, length, take, get_or, reverse, Some}
use Rattle.std.proofs.lemmas.List.{take_more, get_or-reverse, length-reverse}
use Rattle.std.proofs.lemmas.Option.{slice_get-get_or}
use mathlib.Core.Path.{sym, ap, ◌∙◌, subst}
use mathlib.Core.List.{append_assoc, append-nil}
use native.Mathlib.Omega.{arith}
use Rattle.ae_rules.specs.Lines.{AllAllowed, Allowed, fact_ok, states}
use Rattle.ae_rules.specs.Derivations.{AreAllowed, IsAllowed, last_of}
use Rattle.ae_core.specs.declared.problems.Signature.{Signature}
use Rattle.ae_core.specs.declared.problems.Problem.{Problem}
use Rattle.ae_core.specs.declared.formulas.Lit.{Lit}
use Rattle.ae_core.specs.declared.proofs.EqLine.{EqLine}
use Rattle.ae_core.specs.declared.proofs.ClauseLine.{ClauseLine}

-- ---- derived lines
abbrev LineAllowed : Signature → List Lit → List EqLine → EqLine → Type 0
LineAllowed sig hyps earlier l = (fact_ok sig (states l) ≡ true) × Allowed sig hyps earlier l

module _ (sig : Signature) (hyps : List Lit) where
  abbrev Lines : List EqLine → List EqLine → Type 0
  Lines = AllAllowed sig (fact_ok sig) hyps

  lines_push : (e ls : List EqLine) (l : EqLine) → Lines e ls → LineAllowed sig hyps (e ++ ls) l → Lines e (ls ++ l ∷ [])
  lines_push e [] l a b = (subst (λ z. LineAllowed sig hyps z l) (append-nil e) b, tt)
  lines_push e (x ∷ ls) l a b = (a.0, lines_push (e ++ x ∷ []) ls l a.1 (subst (λ z. LineAllowed sig hyps z l) (sym (append_assoc e (x ∷ []) ls)) b))

  lines_at : (e ls : List EqLine) (i : ℕ) (d : EqLine) → i < length ls → Lines e ls → LineAllowed sig hyps (e ++ take i ls) (get_or ls i d)
  lines_at e [] i d b a = absurd (omega (arith, b))
  lines_at e (x ∷ ls) zero d b a = subst (λ z. LineAllowed sig hyps z x) (sym (append-nil e)) a.0
  lines_at e (x ∷ ls) (suc i) d b a =
      subst (λ z. LineAllowed sig hyps z (get_or ls i d)) (append_assoc e (x ∷ []) (take i ls)) (lines_at (e ++ x ∷ []) ls i d (omega (arith, b)) a.1)

-- one more line that is allowed
pub lines_more : (sig : Signature) (hyps : List Lit) (ls : List EqLine) (i : ℕ) (d : EqLine) → i < length ls → AllAllowed sig (fact_ok sig) hyps [] (take i ls) → (fact_ok sig (states (get_or ls i d)) ≡ true) × Allowed sig hyps (take i ls) (get_or ls i d) → AllAllowed sig (fact_ok sig) hyps [] (take (i + 1) ls)
lines_more sig hyps ls i d b a l = subst (λ z. AllAllowed sig (fact_ok sig) hyps [] z) (sym (take_more ls i d b)) (lines_push sig hyps [] (take i ls) (get_or ls i d) a l)

-- one line that isn't
pub lines_stop : (sig : Signature) (hyps : List Lit) (ls : List EqLine) (i : ℕ) (d : EqLine) → i < length ls → ¬ ((fact_ok sig (states (get_or ls i d)) ≡ true) × Allowed sig hyps (take i ls) (get_or ls i d)) → ¬ (AllAllowed sig (fact_ok sig) hyps [] ls)
lines_stop sig hyps ls i d b n a = n (lines_at sig hyps [] ls i d b a)

-- ---- clause lines
module _ (p : Problem) (g : ℕ) where
  clause_lines_push : (e ls : List ClauseLine) (l : ClauseLine) → AreAllowed p g e ls → IsAllowed p g (e ++ ls) l → AreAllowed p g e (ls ++ l ∷ [])
  clause_lines_push e [] l a b = (subst (λ z. IsAllowed p g z l) (append-nil e) b, tt)
  clause_lines_push e (x ∷ ls) l a b = (a.0, clause_lines_push (e ++ x ∷ []) ls l a.1 (subst (λ z. IsAllowed p g z l) (sym (append_assoc e (x ∷ []) ls)) b))

  clause_lines_at : (e ls : List ClauseLine) (i : ℕ) (d : ClauseLine) → i < length ls → AreAllowed p g e ls → IsAllowed p g (e ++ take i ls) (get_or ls i d)
  clause_lines_at e [] i d b a = absurd (omega (arith, b))
  clause_lines_at e (x ∷ ls) zero d b a = subst (λ z. IsAllowed p g z x) (sym (append-nil e)) a.0
  clause_lines_at e (x ∷ ls) (suc i) d b a =
      subst (λ z. IsAllowed p g z (get_or ls i d)) (append_assoc e (x ∷ []) (take i ls)) (clause_lines_at (e ++ x ∷ []) ls i d (omega (arith, b)) a.1)

-- one more line that is allowed
pub clause_lines_more : (p : Problem) (g : ℕ) (ls : List ClauseLine) (i : ℕ) (d : ClauseLine) → i < length ls → AreAllowed p g [] (take i ls) → IsAllowed p g (take i ls) (get_or ls i d) → AreAllowed p g [] (take (i + 1) ls)
clause_lines_more p g ls i d b a l = subst (AreAllowed p g []) (sym (take_more ls i d b)) (clause_lines_push p g [] (take i ls) (get_or ls i d) a l)

-- one line that isn't
pub clause_lines_stop : (p : Problem) (g : ℕ) (ls : List ClauseLine) (i : ℕ) (d : ClauseLine) → i < length ls → ¬ (IsAllowed p g (take i ls) (get_or ls i d)) → ¬ (AreAllowed p g [] ls)
clause_lines_stop p g ls i d b n a = n (clause_lines_at p g [] ls i d b a)

-- ---- the last line
-- the last line is the one with the number before the length
pub last_of_read : (ls : List ClauseLine) (k : ℕ) (d : ClauseLine) → k + 1 ≡ length ls → last_of ls ≡ Some (get_or ls k d)
last_of_read ls k d e =
    let l = length-reverse ls in
    slice_get-get_or (reverse ls) 0 d (omega arith) ∙ ap Some (get_or-reverse ls 0 d (omega arith) ∙ ap (λ j. get_or ls j d) (omega arith))
