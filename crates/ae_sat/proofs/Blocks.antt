-- A block of a theory: its clause is false, and it is stated.
use Rattle.std.proofs.Common.{◌≡◌, ℕ, zero, suc, true, List, [], ◌∷◌, ◌++◌, length, map, get_or, refl, sym, ◌∙◌, ap, subst, arith, Some, length-append}
use Rattle.std.specs.Prelude.{slice_get}
use Rattle.std.specs.List.{Contains}
use Rattle.std.proofs.Math.ListN.{get_or-append}
use Rattle.ae_base.specs.Options.{◌>>=◌}
use Rattle.ae_rules.specs.Clauses.{Clause, opposite}
use Rattle.ae_rules.specs.Derivations.{IsContradictory, clause_ok, conclusion}
use Rattle.ae_core.specs.declared.formulas.Lit.{Lit}
use Rattle.ae_core.specs.declared.problems.Problem.{Problem}
use Rattle.ae_core.specs.declared.proofs.Block.{Block as BlockOf}
use Rattle.ae_core.specs.declared.proofs.ClauseLine.{ClauseLine}
use Rattle.ae_core.specs.declared.proofs.ClauseLine.TheVariants as clause_line
use Rattle.ae_explain.specs.declared.trail.Assigned.{Assigned}
use Rattle.ae_explain.specs.Trail.{AreFalse}
use Rattle.ae_journal.specs.declared.lines.Line.{Line}
use Rattle.ae_theory.specs.Tagged.{Tagged}
use Rattle.ae_store.specs.Stores.{Stored}
use Rattle.ae_theory.specs.Noting.{literals, IsBlockOf}
use Rattle.ae_propagation.specs.Settled.{Holds}
use Rattle.ae_sat.specs.Marked.{atoms}
use Rattle.ae_sat.specs.Search.{IsStated, IsLawfulState, IsAlive}
use Rattle.ae_rules.proofs.SortedLines.{clause_stated}
use Rattle.ae_rules.proofs.Standing.{opposite_twice}
use Rattle.ae_sat.proofs.Saturating.{atoms_stand}
use Rattle.ae_sat.proofs.Rowing.{stated_line}
use Rattle.ae_journal.specs.Standing.{Setting}

lit_in : (ts : List Tagged) (x : Tagged) → Contains ts x → Contains (literals ts) x.lit
lit_in [] x k = absurd (omega (arith, k.1))
lit_in (a ∷ ts) x (zero, r, e) = (zero, omega arith, ap (λ (t : Tagged). t.lit) e)
lit_in (a ∷ ts) x (suc k, r, e) = let q = lit_in ts x (k, omega (arith, r), e) in (suc q.0, omega (arith, q.1), q.2)

block_holds : (t : List Assigned) (ts : List Tagged) → ((l : Lit) → Contains (literals ts) l → Holds t l) → (hyps : List Lit) (tags : List ℕ) → IsBlockOf ts hyps tags → AreFalse t (map opposite hyps)
block_holds t ts h [] tags b m k = absurd (omega (arith, k.1))
block_holds t ts h (l ∷ ls) [] b m k = absurd b
block_holds t ts h (l ∷ ls) (x ∷ xs) b m (zero, r, e) = let q = h l (lit_in ts (record { lit = l; tag = x }) b.0) in (q.0, q.1, q.2 ∙ (sym (opposite_twice l) ∙ ap opposite e))
block_holds t ts h (l ∷ ls) (x ∷ xs) b m (suc k, r, e) = block_holds t ts h ls xs b.1 m (k, omega (arith, r), e)

-- the hypotheses are atoms of the trail
pub block_false : (t : List Assigned) (ts : List Tagged) → ts ≡ atoms t → (hyps : List Lit) (tags : List ℕ) → IsBlockOf ts hyps tags → AreFalse t (map opposite hyps)
block_false t ts all hyps tags b = block_holds t ts (λ l h. atoms_stand (Holds t) 0 t (λ j lt. (j, lt, refl)) l (subst (λ (w : List Tagged). Contains (literals w) l) all h)) hyps tags b

pub block_stated : (p : Problem) (g : ℕ) (ks : List ClauseLine) (u : List Clause) (places : List ℕ) (b : BlockOf) → IsStated p g ks u places → IsContradictory p.signature b → clause_ok p.signature b.deriv.hyps ≡ true
    → IsStated p g (ks ++ clause_line.Block b ∷ []) (u ++ map opposite b.deriv.hyps ∷ []) (places ++ length ks ∷ [])
block_stated p g ks u places b s h ok = stated_line p g ks u places (clause_line.Block b) (map opposite b.deriv.hyps) s ((map opposite b.deriv.hyps, clause_stated p g (clause_line.Block b) (map opposite b.deriv.hyps) ok refl), h)
    (clause_stated p g (clause_line.Block b) (map opposite b.deriv.hyps) ok refl)

-- without the last clause
pub first_stated : (p : Problem) (g : ℕ) (ks : List ClauseLine) (u : List Clause) (places : List ℕ) (c : Clause) (n : ℕ) → IsStated p g ks (u ++ c ∷ []) (places ++ n ∷ []) → IsStated p g ks u places
first_stated p g ks u places c n s =
    let size : length places ≡ length u = omega (arith, s.size, length-append u (c ∷ []), length-append places (n ∷ [])) in
    record {
      allowed = s.allowed;
      size = size;
      states = λ k l.
          let q : get_or (places ++ n ∷ []) k 0 ≡ get_or places k 0 = get_or-append places (n ∷ []) 0 k (omega (arith, l, size)) in
          ap (λ (m : ℕ). slice_get ks m >>= conclusion p g) (sym q) ∙ (s.states k (omega (arith, l, length-append u (c ∷ []))) ∙ ap Some (get_or-append u (c ∷ []) [] k l));
    }

pub state_same : (setting : Setting) (t t2 : List Assigned) (u u2 : List Clause) (n n2 : ℕ) (ks : List ClauseLine) (js : List Line) → t2 ≡ t → u2 ≡ u → n2 ≡ n
    → IsLawfulState setting t u n ks js → IsLawfulState setting t2 u2 n2 ks js
state_same setting t t2 u u2 n n2 ks js e1 e2 e3 s =
    subst (λ (w : List Assigned). IsLawfulState setting w u2 n2 ks js) (sym e1) (subst (λ (w : List Clause). IsLawfulState setting t w n2 ks js) (sym e2) (subst (λ (w : ℕ). IsLawfulState setting t u w ks js) (sym e3) s))

module _ {T M : Type 0} (fits : T → Stored → Type 0) (assumed : T → List Tagged) (fits_mark : T → M → T → Type 0) (in_step : T → List Line → Type 0) where
  pub alive_same : (store : Stored) (theory theory2 : T) (marks marks2 : List M) (t t2 : List Assigned) (u u2 : List Clause) (told told2 n n2 : ℕ) (js : List Line) → IsAlive fits assumed fits_mark in_step store theory marks t u told n js
      → theory2 ≡ theory → marks2 ≡ marks → t2 ≡ t → u2 ≡ u → told2 ≡ told → n2 ≡ n → IsAlive fits assumed fits_mark in_step store theory2 marks2 t2 u2 told2 n2 js
  alive_same store theory theory2 marks marks2 t t2 u u2 told told2 n n2 js a e1 e2 e3 e4 e5 e6 =
      subst (λ (x : T). IsAlive fits assumed fits_mark in_step store x marks2 t2 u2 told2 n2 js) (sym e1)
      (subst (λ (x : List M). IsAlive fits assumed fits_mark in_step store theory x t2 u2 told2 n2 js) (sym e2)
      (subst (λ (x : List Assigned). IsAlive fits assumed fits_mark in_step store theory marks x u2 told2 n2 js) (sym e3)
      (subst (λ (x : List Clause). IsAlive fits assumed fits_mark in_step store theory marks t x told2 n2 js) (sym e4)
      (subst (λ (x : ℕ). IsAlive fits assumed fits_mark in_step store theory marks t u x n2 js) (sym e5)
      (subst (λ (x : ℕ). IsAlive fits assumed fits_mark in_step store theory marks t u told x js) (sym e6) a)))))
