-- One literal more is told to the theory.
use Rattle.std.proofs.Common.{◌≡◌, ℕ, suc, ◌+◌, ◌<◌, Bool, cond, List, [], ◌∷◌, ◌++◌, length, take, get_or, sym, ◌∙◌, ap, arith, append_assoc, append-nil, length-take}
use Rattle.std.proofs.lemmas.List.{take_more}
use Rattle.ae_rules.specs.Clauses.{Clause}
use Rattle.ae_explain.specs.declared.trail.Assigned.{Assigned}
use Rattle.ae_explain.specs.Trail.{at, nothing}
use Rattle.ae_journal.specs.declared.lines.Line.{Line}
use Rattle.ae_theory.specs.Tagged.{Tagged}
use Rattle.ae_theory.specs.Names.{is_atom}
use Rattle.ae_sat.specs.Marked.{atoms, atoms_from, IsRunning}

atoms_append : (i : ℕ) (t s : List Assigned) → atoms_from i (t ++ s) ≡ atoms_from i t ++ atoms_from (i + length t) s
atoms_append i [] s = ap (λ (n : ℕ). atoms_from n s) (let q : i ≡ i + 0 = omega arith in q)
atoms_append i (a ∷ t) s =
    let q : suc i + length t ≡ i + suc (length t) = omega arith in
    ap (λ (w : List Tagged). cond (is_atom a.lit.formula) (record { lit = a.lit; tag = i } ∷ []) [] ++ w) (atoms_append (suc i) t s ∙ ap (λ (n : ℕ). atoms_from (suc i) t ++ atoms_from n s) q)
    ∙ sym (append_assoc (cond (is_atom a.lit.formula) (record { lit = a.lit; tag = i } ∷ []) []) (atoms_from (suc i) t) (atoms_from (i + suc (length t)) s))

pub atoms_more : (t : List Assigned) (n : ℕ) (b : Bool) → n < length t → is_atom (at t n).lit.formula ≡ b → atoms (take (n + 1) t) ≡ atoms (take n t) ++ cond b (record { lit = (at t n).lit; tag = n } ∷ []) []
atoms_more t n b l e =
    let k : 0 + length (take n t) ≡ n = omega (arith, length-take n t, l) in
    ap atoms (take_more t n nothing l) ∙ (atoms_append 0 (take n t) (at t n ∷ [])
    ∙ ap (λ (w : List Tagged). atoms (take n t) ++ w) (ap (λ (m : ℕ). atoms_from m (at t n ∷ [])) k
    ∙ (append-nil (cond (is_atom (at t n).lit.formula) (record { lit = (at t n).lit; tag = n } ∷ []) []) ∙ ap (λ (c : Bool). cond c (record { lit = (at t n).lit; tag = n } ∷ []) []) e)))

module _ {T M : Type 0} (assumed : T → List Tagged) (fits_mark : T → M → T → Type 0) (in_step : T → List Line → Type 0) where
  pub told_runs : (theory new : T) (marks : List M) (t : List Assigned) (u : List Clause) (told now : ℕ) (standing : List Line) → IsRunning assumed fits_mark in_step theory marks t u told standing
      → assumed new ≡ atoms (take now t) → ((m : M) (then : T) → fits_mark theory m then → fits_mark new m then) → ((js : List Line) → in_step theory js → in_step new js)
      → IsRunning assumed fits_mark in_step new marks t u now standing
  told_runs theory new marks t u told now standing r all lasts steps = record {
    lawful = r.lawful;
    count = r.count;
    marked = λ k d h.
        let m = r.marked k d h in
        record {
          then = m.then;
          fits = lasts (get_or marks k d) m.then m.fits;
          place = m.place;
          within = m.within;
          decision = m.decision;
          level = m.level;
          assumed_then = m.assumed_then;
          step = m.step;
        };
    step = steps standing r.step;
    decided = r.decided;
    told_all = all;
    stands = r.stands;
  }
