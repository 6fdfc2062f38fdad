-- What a theory notes while it saturates.
use Rattle.std.proofs.Common.{◌≡◌, ℕ, zero, suc, ◌<◌, Bool, true, false, List, [], ◌∷◌, ◌++◌, length, get_or, refl, sym, ◌∙◌, ap, subst, arith, append_assoc, append-nil, true≢false, cond}
use Rattle.std.specs.List.{Contains, AllByRecursion}
use Rattle.ae_base.proofs.AllOf.{all_weaker}
use Rattle.ae_rules.specs.Clauses.{Clause}
use Rattle.ae_core.specs.declared.formulas.Lit.{Lit}
use Rattle.ae_core.specs.declared.proofs.ClauseLine.{ClauseLine}
use Rattle.ae_explain.specs.declared.trail.Assigned.{Assigned}
use Rattle.ae_explain.specs.Trail.{at}
use Rattle.ae_journal.specs.Noted.{Noted}
use Rattle.ae_journal.specs.declared.lines.Line.{Line}
use Rattle.ae_journal.specs.declared.lines.Line.TheVariants as line
use Rattle.ae_journal.specs.Journals.{live, after_line, before_decision, decisions}
use Rattle.ae_journal.proofs.Living.{live_push, decisions-append}
use Rattle.ae_theory.specs.Tagged.{Tagged}
use Rattle.ae_theory.specs.Names.{is_atom}
use Rattle.ae_theory.specs.Noting.{literals, is_theory_line, HasNoted, NotesLegal}
use Rattle.ae_sat.specs.Marked.{atoms_from, IsRunning}
use Rattle.ae_sat.specs.Search.{IsLawfulState, NotesLegally, is_own_line}
use Rattle.ae_sat.proofs.Decisions.{before_more}
use Rattle.ae_sat.proofs.Running.{all_lits}
use Rattle.ae_sat.proofs.Legality.{line_keeps}
use Rattle.ae_journal.specs.Journals.{BringsClause}
use Rattle.ae_journal.specs.Standing.{Setting}

abbrev pub OfTheory : List Line → Type 0
OfTheory js = AllByRecursion (λ j. is_theory_line j ≡ true) js

brings_nothing : (j : Line) → is_theory_line j ≡ true → ¬ BringsClause j
brings_nothing (line.Learn c) h b = true≢false (sym h)
brings_nothing (line.TypeInstance k ss) h b = true≢false (sym h)
brings_nothing (line.TermInstance f ts) h b = true≢false (sym h)
brings_nothing (line.Orient o) h b = b
brings_nothing (line.Drop o) h b = b
brings_nothing (line.Pair u l m) h b = b
brings_nothing (line.Decide l) h b = b
brings_nothing (line.Combine s f) h b = b
brings_nothing (line.Back n) h b = b

own_line : (j : Line) → is_theory_line j ≡ true → is_own_line j ≡ true
own_line (line.Orient o) h = refl
own_line (line.Drop o) h = refl
own_line (line.Pair u l m) h = refl
own_line (line.Decide l) h = refl
own_line (line.Back n) h = refl
own_line (line.Learn c) h = refl
own_line (line.TypeInstance k ss) h = absurd (true≢false (sym h))
own_line (line.TermInstance f ts) h = absurd (true≢false (sym h))
own_line (line.Combine s f) h = absurd (true≢false (sym h))

-- they are lines of its own
pub theory_own : (js : List Line) → OfTheory js → AllByRecursion (λ j. is_own_line j ≡ true) js
theory_own js all = all_weaker (λ (j : Line). is_theory_line j ≡ true) (λ (j : Line). is_own_line j ≡ true) own_line js all

stays : (kept : List Line) (j : Line) → is_theory_line j ≡ true → after_line kept j ≡ kept ++ j ∷ []
stays kept (line.Back n) h = absurd (true≢false (sym h))
stays kept (line.Learn c) h = refl
stays kept (line.TypeInstance k ss) h = refl
stays kept (line.TermInstance f ts) h = refl
stays kept (line.Orient o) h = refl
stays kept (line.Drop o) h = refl
stays kept (line.Pair u l m) h = refl
stays kept (line.Decide l) h = refl
stays kept (line.Combine s f) h = refl

none_decided : (j : Line) → is_theory_line j ≡ true → decisions (j ∷ []) ≡ []
none_decided (line.Decide l) h = absurd (true≢false (sym h))
none_decided (line.Back n) h = refl
none_decided (line.Learn c) h = refl
none_decided (line.TypeInstance k ss) h = refl
none_decided (line.TermInstance f ts) h = refl
none_decided (line.Orient o) h = refl
none_decided (line.Drop o) h = refl
none_decided (line.Pair u l m) h = refl
none_decided (line.Combine s f) h = refl

live_theory : (js added : List Line) → OfTheory added → live (js ++ added) ≡ live js ++ added
live_theory js [] h = ap live (append-nil js) ∙ sym (append-nil (live js))
live_theory js (x ∷ added) h =
    ap live (sym (append_assoc js (x ∷ []) added)) ∙ (live_theory (js ++ x ∷ []) added h.1
    ∙ (ap (λ (w : List Line). w ++ added) (live_push js x ∙ stays (live js) x h.0) ∙ append_assoc (live js) (x ∷ []) added))

decisions_theory : (js added : List Line) → OfTheory added → decisions (js ++ added) ≡ decisions js
decisions_theory js [] h = ap decisions (append-nil js)
decisions_theory js (x ∷ added) h =
    ap decisions (sym (append_assoc js (x ∷ []) added)) ∙ (decisions_theory (js ++ x ∷ []) added h.1 ∙ (decisions-append js (x ∷ []) ∙ (ap (λ (w : List Lit). decisions js ++ w) (none_decided x h.0) ∙ append-nil (decisions js))))

module _ (setting : Setting) where
  theory_keeps : (t : List Assigned) (u : List Clause) (n : ℕ) (ks : List ClauseLine) (js added : List Line) → OfTheory added → IsLawfulState setting t u n ks js → IsLawfulState setting t u n ks (js ++ added)
  theory_keeps t u n ks js [] h s = subst (IsLawfulState setting t u n ks) (sym (append-nil js)) s
  theory_keeps t u n ks js (x ∷ added) h s =
      subst (IsLawfulState setting t u n ks) (append_assoc js (x ∷ []) added) (theory_keeps t u n ks (js ++ x ∷ []) added h.1 (line_keeps setting t u n ks js x (brings_nothing x h.0) s))

  pub theory_notes : (bound : ℕ) (old new : Noted) → HasNoted old new → NotesLegal setting bound old.lines new.lines → NotesLegally setting bound old.lines new.lines
  theory_notes bound old new h a = record { added = h.added; is = h.is; legal = a h.added h.is }

  pub theory_leaves : (t : List Assigned) (u : List Clause) (n : ℕ) (ks : List ClauseLine) (old new : Noted) → HasNoted old new → IsLawfulState setting t u n ks old.lines → IsLawfulState setting t u n ks new.lines
  theory_leaves t u n ks old new h s = subst (IsLawfulState setting t u n ks) (sym h.is) (theory_keeps t u n ks old.lines h.added h.theory s)

-- the atoms of a trail are literals of it
pub atoms_stand : (P : Lit → Type 0) (i : ℕ) (t : List Assigned) → ((j : ℕ) → j < length t → P (at t j).lit) → (l : Lit) → Contains (literals (atoms_from i t)) l → P l
atoms_stand P i [] h l k = absurd (omega (arith, k.1))
atoms_stand P i (a ∷ t) h l k = by_atom (is_atom a.lit.formula) (atoms_stand P (suc i) t (λ j lt. h (suc j) (omega (arith, lt)))) k
  where
    first : (xs : List Lit) → (Contains xs l → P l) → Contains (a.lit ∷ xs) l → P l
    first xs ih (zero, r, e) = subst P e (h 0 (omega arith))
    first xs ih (suc n, r, e) = ih (n, omega (arith, r), e)

    by_atom : (b : Bool) → ((m : Lit) → Contains (literals (atoms_from (suc i) t)) m → P m) → Contains (literals (cond b (record { lit = a.lit; tag = i } ∷ []) [] ++ atoms_from (suc i) t)) l → P l
    by_atom true ih r = first (literals (atoms_from (suc i) t)) (ih l) r
    by_atom false ih r = ih l r

module _ {T M : Type 0} (assumed : T → List Tagged) (fits_mark : T → M → T → Type 0) (in_step : T → List Line → Type 0) where
  pub theory_runs : (theory new : T) (marks : List M) (t : List Assigned) (u : List Clause) (told : ℕ) (old now : Noted) → IsRunning assumed fits_mark in_step theory marks t u told (live old.lines)
      → assumed new ≡ assumed theory → ((m : M) (then : T) → fits_mark theory m then → fits_mark new m then) → HasNoted old now → in_step new (live now.lines) → IsRunning assumed fits_mark in_step new marks t u told (live now.lines)
  theory_runs theory new marks t u told old now r same lasts h step =
      let q : live now.lines ≡ live old.lines ++ h.added = ap live h.is ∙ live_theory old.lines h.added h.theory in
      let stood : length (decisions (live old.lines)) ≡ length marks = ap length r.decided ∙ (all_lits t u r.lawful ∙ sym r.count) in
      record {
        lawful = r.lawful;
        count = r.count;
        marked = λ k d l.
            let m = r.marked k d l in
            record {
              then = m.then;
              fits = lasts (get_or marks k d) m.then m.fits;
              place = m.place;
              within = m.within;
              decision = m.decision;
              level = m.level;
              assumed_then = m.assumed_then;
              step = subst (in_step m.then) (sym (ap (before_decision k) q ∙ before_more k (live old.lines) h.added (omega (arith, l, stood)))) m.step;
            };
        step = step;
        decided = ap decisions q ∙ (decisions_theory (live old.lines) h.added h.theory ∙ r.decided);
        told_all = same ∙ r.told_all;
        stands = r.stands;
      }
