-- Learning, step by step: what its calls leave.
use Rattle.std.proofs.Common.{◌≡◌, ◌≢◌, ℕ, zero, suc, ◌<◌, ◌≤◌, ◌==◌, List, [], ◌∷◌, ◌++◌, length, get_or, refl, sym, ◌∙◌, ap, subst, arith, ◌⊎◌, inl, inr, Option, Some, None, length-append, append_assoc}
use Rattle.std.specs.Prelude.{count_by, slice_get}
use Rattle.std.specs.List.{Contains}
use Rattle.std.proofs.lemmas.Bool.{cases_eq, cases_lt}
use Rattle.std.proofs.Math.ListN.{get_or-append}
use Rattle.std.proofs.Math.Seq.{get_or-append_seam}
use Rattle.ae_base.specs.Options.{◌>>=◌}
use Rattle.ae_rules.specs.Clauses.{Clause}
use Rattle.ae_rules.specs.Derivations.{conclusion, AreAllowed}
use Rattle.ae_core.specs.declared.formulas.Lit.{Lit}
use Rattle.ae_core.specs.declared.problems.Problem.{Problem}
use Rattle.ae_core.specs.declared.proofs.ClauseLine.{ClauseLine}
use Rattle.ae_core.specs.declared.proofs.ClauseLine.TheVariants as clause_line
use Rattle.ae_explain.specs.declared.trail.Assigned.{Assigned}
use Rattle.ae_explain.specs.Trail.{at, clause, AreFalse, IsLawful, level_before}
use Rattle.ae_explain.specs.Levels.{level_of, greatest_of, literals_under}
use Rattle.ae_explain.proofs.Places.{level_there}
use Rattle.ae_journal.specs.Noted.{Noted}
use Rattle.ae_journal.specs.declared.lines.Line.{Line}
use Rattle.ae_journal.specs.declared.lines.Line.TheVariants as line
use Rattle.ae_journal.specs.Journals.{live, decisions, counted_in}
use Rattle.ae_journal.proofs.Counting.{counted_push}
use Rattle.ae_explain.specs.Fronts.{IsFront}
use Rattle.ae_sat.specs.Layers.{IsCut}
use Rattle.ae_propagation.specs.Settled.{last_level}
use Rattle.ae_sat.specs.Standing.{IsOneOf, decided_lits}
use Rattle.ae_sat.specs.Search.{IsStated, IsLawfulState, NotesLegally, Keeps, Progresses}
use Rattle.ae_sat.proofs.Layering.{top}
use Rattle.ae_sat.proofs.Members.{some_passes}
use Rattle.ae_propagation.proofs.Trails.{at_old}
use Rattle.ae_sat.proofs.Cutting.{is_cut}
use Rattle.ae_explain.proofs.Marking.{numbers_equal}
use Rattle.ae_sat.proofs.Learning.{learn_is_legal, back_is_legal, last_states}
use Rattle.ae_sat.proofs.Learnt.{greatest_is, second_below, learnt_state}
use Rattle.ae_sat.proofs.Deriving.{get_last}
use Rattle.ae_journal.specs.SolverLines.{MayLearn}
use Rattle.ae_journal.specs.Standing.{Setting}

-- ---- the levels of what is learnt
pub record HasTop (t : List Assigned) (c : Clause) (highest level : ℕ) : Type 0 where
  pub pos : 0 < highest
  pub one : count_by (λ m. level_of t m == highest) c ≡ 1
  pub is : level ≡ greatest_of t (literals_under t highest c)
  pub below : level < last_level t

pub has_top : (t : List Assigned) (u : List Clause) (c : Clause) (highest level : ℕ) → IsLawful t u → AreFalse t c → (highest ≡ 0 → c ≡ []) → (0 < highest → count_by (λ m. level_of t m == highest) c ≡ 1)
    → ((m : Lit) → Contains c m → level_of t m ≤ highest) → c ≢ [] → level ≡ greatest_of t (literals_under t (greatest_of t c) c) → HasTop t c highest level
has_top t u c highest level w false_ones empty one high some is =
    let pos : 0 < highest = elim (cases_eq highest 0) as (λ _. 0 < highest) [ inl z ↦ absurd (some (empty z)) | inr d ↦ omega (arith, d) ] in
    let o = some_passes (λ m. level_of t m == highest) c (one pos) in
    let f = false_ones o.0 o.1 in
    let v : level_of t o.0 ≡ (at t f.0).level = level_there t f.0 o.0 w.apart f.1 (ap (λ (x : Lit). x.formula) f.2) in
    let low : highest ≤ last_level t = omega (arith, numbers_equal (level_of t o.0) highest o.2, v, top t u w (length t) f.0 refl f.1) in
    let e : greatest_of t c ≡ highest = greatest_is t c highest (one pos) high in
    let q : level ≡ greatest_of t (literals_under t highest c) = is ∙ ap (λ (n : ℕ). greatest_of t (literals_under t n c)) e in
    record { pos = pos; one = one pos; is = q; below = omega (arith, q, second_below t c highest pos, low) }

-- ---- the front of a trail
last_le : (cut : List Assigned) (level n : ℕ) → length cut ≡ n → ((j : ℕ) → j < length cut → (at cut j).level ≤ level) → level_before cut n ≤ level
last_le cut level zero e h = omega arith
last_le cut level (suc n) e h = h n (omega (arith, e))

pub front_cut : (t : List Assigned) (u : List Clause) (level : ℕ) (front : List Assigned) → IsLawful t u → IsFront t level front → IsCut t level front
front_cut t u level front w f = subst (IsCut t level) (sym f.is) (is_cut t u w level f.count f.within f.kept f.next)

pub cut_low : (t cut : List Assigned) (level : ℕ) → IsCut t level cut → last_level cut ≤ level
cut_low t cut level h = last_le cut level (length cut) refl h.kept

pub cut_below : (t : List Assigned) (u : List Clause) (cut : List Assigned) (level : ℕ) → IsLawful t u → IsCut t level cut → last_level cut ≤ last_level t
cut_below t u cut level w h = last_le cut (last_level t) (length cut) refl (λ j l.
    let lt : j < length t = subst (λ (x : List Assigned). j < length x) (sym h.is) (omega (arith, l, length-append cut h.undone)) in
    let e : at t j ≡ at cut j = subst (λ (x : List Assigned). at x j ≡ at cut j) (sym h.is) (at_old cut h.undone j l) in
    subst (λ (a : Assigned). a.level ≤ last_level t) e (top t u w (length t) j refl lt))

-- ---- counts
pub keeps_learn : (old mid new : Noted) (c : Clause) (n : ℕ) → mid ≡ record old { lines = old.lines ++ line.Learn c ∷ [] } → (new ≡ mid) ⊎ (new ≡ record mid { lines = mid.lines ++ line.Back n ∷ [] }) → Keeps old new
keeps_learn old mid new c n e (inl q) = record {
  limit = ap (λ (x : Noted). x.limit) (q ∙ e);
  more = omega (arith, counted_push old.lines (line.Learn c), ap (λ (x : Noted). counted_in x.lines) (q ∙ e));
  own = (line.Learn c ∷ [], ap (λ (x : Noted). x.lines) (q ∙ e), (refl, tt));
}
keeps_learn old mid new c n e (inr q) = record {
  limit = ap (λ (x : Noted). x.limit) q ∙ ap (λ (x : Noted). x.limit) e;
  more = omega (arith, counted_push old.lines (line.Learn c), ap (λ (x : Noted). counted_in x.lines) e, counted_push mid.lines (line.Back n), ap (λ (x : Noted). counted_in x.lines) q);
  own = (
    line.Learn c ∷ line.Back n ∷ [],
    ap (λ (x : Noted). x.lines) q ∙ ap (λ (x : Noted). x.lines ++ line.Back n ∷ []) e ∙ append_assoc old.lines (line.Learn c ∷ []) (line.Back n ∷ []),
    (refl, (refl, tt)),
  );
}

pub progresses_learn : (old mid new : Noted) (c : Clause) (n : ℕ) → mid ≡ record old { lines = old.lines ++ line.Learn c ∷ [] } → new ≡ record mid { lines = mid.lines ++ line.Back n ∷ [] } → counted_in mid.lines ≤ mid.limit
    → Progresses old new
progresses_learn old mid new c n e q h = record {
  limit = ap (λ (x : Noted). x.limit) q ∙ ap (λ (x : Noted). x.limit) e;
  more = omega (arith, counted_push old.lines (line.Learn c), ap (λ (x : Noted). counted_in x.lines) e, counted_push mid.lines (line.Back n), ap (λ (x : Noted). counted_in x.lines) q);
  within = omega (arith, counted_push mid.lines (line.Back n), ap (λ (x : Noted). counted_in x.lines) q, ap (λ (x : Noted). x.limit) q, h);
}

-- ---- what is stated
pub stated_more : (p : Problem) (g : ℕ) (ks ks2 : List ClauseLine) (u u2 : List Clause) (places places2 : List ℕ) (c : Clause) (hints : List ℕ) (place : ℕ) → IsStated p g ks2 u places → ks2 ≡ ks ++ clause_line.Rup c hints ∷ []
    → place ≡ length ks
    → u2 ≡ u ++ c ∷ [] → places2 ≡ places ++ place ∷ [] → IsStated p g ks2 u2 places2
stated_more p g ks ks2 u u2 places places2 c hints place s ek ep eu es =
    subst (λ (w : List Clause). IsStated p g ks2 w places2) (sym eu) (subst (λ (w : List ℕ). IsStated p g ks2 (u ++ c ∷ []) w) (sym es) (record {
      allowed = s.allowed;
      size = omega (arith, s.size, length-append u (c ∷ []), length-append places (place ∷ []));
      states = λ k l. elim (cases_lt k (length u)) as (λ _. (slice_get ks2 (get_or (places ++ place ∷ []) k 0) >>= conclusion p g) ≡ Some (clause (u ++ c ∷ []) k)) [
        | inl lt ↦
            let q : get_or (places ++ place ∷ []) k 0 ≡ get_or places k 0 = get_or-append places (place ∷ []) 0 k (omega (arith, lt, s.size)) in
            ap (λ (n : ℕ). slice_get ks2 n >>= conclusion p g) q ∙ (s.states k lt ∙ ap Some (sym (get_or-append u (c ∷ []) [] k lt)))
        | inr ge ↦
            let e : length u ≡ k = omega (arith, ge, l, length-append u (c ∷ [])) in
            let f : length places ≡ k = s.size ∙ e in
            let q : get_or (places ++ place ∷ []) k 0 ≡ length ks = subst (λ (n : ℕ). get_or (places ++ place ∷ []) n 0 ≡ place) f (get_or-append_seam places place [] 0) ∙ ep in
            let r : slice_get ks2 (length ks) ≡ Some (clause_line.Rup c hints) = ap (λ (w : List ClauseLine). slice_get w (length ks)) ek ∙ get_last ks (clause_line.Rup c hints) in
            ap (λ (n : ℕ). slice_get ks2 n >>= conclusion p g) q ∙ (ap (λ (o : Option ClauseLine). o >>= conclusion p g) r
            ∙ (last_states p g [] ks c hints (subst (AreAllowed p g []) ek s.allowed) ∙ ap Some (sym (subst (λ (n : ℕ). clause (u ++ c ∷ []) n ≡ c) e (get_or-append_seam u c [] [])))))
      ];
    }))

-- ---- the lines that are noted
module _ (setting : Setting) (bound : ℕ) (t : List Assigned) (u : List Clause) (n : ℕ) (ks ks2 : List ClauseLine) (js : List Line) (lawful : IsLawful t u)
    (stood : decisions (live js) ≡ decided_lits t) (s : IsLawfulState setting t u n ks js) (c : Clause) (hints : List ℕ) (highest level : ℕ) (some : c ≢ []) (false_ones : AreFalse t c) (empty : highest ≡ 0 → c ≡ [])
    (one : 0 < highest → count_by (λ m. level_of t m == highest) c ≡ 1) (high : (m : Lit) → Contains c m → level_of t m ≤ highest) (h : HasTop t c highest level)
    (ek : ks2 ≡ ks ++ clause_line.Rup c hints ∷ []) (allowed : AreAllowed setting.problem setting.goal [] ks2) where
  may_learn : MayLearn setting js c
  may_learn = learn_is_legal setting t u n ks js lawful stood s c hints highest some false_ones empty one high (subst (λ (w : List ClauseLine). AreAllowed setting.problem setting.goal [] w) ek allowed)

  pub learn_notes : (mid new : List Line) → mid ≡ js ++ line.Learn c ∷ [] → (new ≡ mid) ⊎ (new ≡ mid ++ line.Back level ∷ []) → NotesLegally setting bound js new
  learn_notes mid new e (inl q) = record { added = line.Learn c ∷ []; is = q ∙ e; legal = (may_learn, tt) }
  learn_notes mid new e (inr q) = record {
    added = line.Learn c ∷ line.Back level ∷ [];
    is = q ∙ (ap (λ (w : List Line). w ++ line.Back level ∷ []) e ∙ append_assoc js (line.Learn c ∷ []) (line.Back level ∷ []));
    legal = (may_learn, (back_is_legal t u js c level lawful stood h.below, tt));
  }

  pub learn_leaves : (stands : (j : ℕ) → j < length t → (at t j).by ≡ None → (d : Clause) × IsOneOf u d × Contains d (at t j).lit) → (cut : List Assigned) (u2 : List Clause) (m : ℕ) (mid new : List Line)
      → IsFront t level cut → m ≤ n → u2 ≡ u ++ c ∷ [] → mid ≡ js ++ line.Learn c ∷ [] → new ≡ mid ++ line.Back level ∷ [] → IsLawfulState setting cut u2 m ks2 new
  learn_leaves stands cut u2 m mid new front small eu e q =
      let cutting = front_cut t u level cut lawful front in
      let r = learnt_state setting t cut u n m ks js c hints highest level lawful stands s false_ones h.pos h.one h.is cutting (cut_low t cut level cutting) (cut_below t u cut level lawful cutting) small in
      subst (λ (w : List Line). IsLawfulState setting cut u2 m ks2 w) (sym (q ∙ ap (λ (w : List Line). w ++ line.Back level ∷ []) e))
      (subst (λ (w : List ClauseLine). IsLawfulState setting cut u2 m w ((js ++ line.Learn c ∷ []) ++ line.Back level ∷ [])) (sym ek)
      (subst (λ (w : List Clause). IsLawfulState setting cut w m (ks ++ clause_line.Rup c hints ∷ []) ((js ++ line.Learn c ∷ []) ++ line.Back level ∷ [])) (sym eu) r))

pub lines_either : (mid new : Noted) (n : ℕ) → (new ≡ mid) ⊎ (new ≡ record mid { lines = mid.lines ++ line.Back n ∷ [] }) → (new.lines ≡ mid.lines) ⊎ (new.lines ≡ mid.lines ++ line.Back n ∷ [])
lines_either mid new n (inl e) = inl (ap (λ (x : Noted). x.lines) e)
lines_either mid new n (inr e) = inr (ap (λ (x : Noted). x.lines) e)
