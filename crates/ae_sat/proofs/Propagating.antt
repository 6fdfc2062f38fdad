-- Steps that note nothing, one after another, and the rows of one literal more.
use Rattle.std.proofs.Common.{◌≡◌, ℕ, ◌+◌, ◌<◌, ◌≤◌, List, [], ◌∷◌, ◌++◌, length, get_or, refl, sym, ◌∙◌, ap, subst, arith, inl, inr, Some, length-append}
use Rattle.std.specs.List.{Contains, AllByRecursion}
use Rattle.ae_base.proofs.AllOf.{all_push}
use Rattle.std.proofs.lemmas.Bool.{cases_lt}
use Rattle.std.proofs.Math.ListN.{get_or-append}
use Rattle.std.proofs.lemmas.List.{get_or_default}
use Rattle.ae_rules.specs.Clauses.{Clause, row}
use Rattle.ae_core.specs.declared.proofs.ClauseLine.{ClauseLine}
use Rattle.ae_rules.specs.Defining.{called_rows}
use Rattle.ae_explain.specs.declared.trail.Assigned.{Assigned}
use Rattle.ae_explain.specs.Trail.{at, clause, IsLawful}
use Rattle.ae_journal.specs.declared.lines.Line.{Line}
use Rattle.ae_store.specs.Stores.{Stored}
use Rattle.ae_theory.specs.Tagged.{Tagged}
use Rattle.ae_explain.specs.Fronts.{IsFront}
use Rattle.ae_sat.specs.Layers.{IsCut}
use Rattle.ae_sat.specs.Standing.{IsOneOf, HasRows}
use Rattle.ae_propagation.specs.Settled.{Grown}
use Rattle.ae_sat.specs.Marked.{IsRunning}
use Rattle.ae_sat.specs.Search.{AllNamed, IsAlive, IsStated, IsLawfulState}
use Rattle.ae_sat.specs.Inner.Steps.{Continues}
use Rattle.ae_sat.proofs.Enlarging.{enlarges_same, enlarges_more, enlarges_to, brings_same, brings_more, brings_to, brings_grown}
use Rattle.ae_journal.specs.Journals.{live, decisions}
use Rattle.ae_sat.proofs.Growing.{rows_grown}
use Rattle.ae_theory.specs.Names.{AreNamed}
use Rattle.ae_sat.proofs.Deriving.{in_clause}
use Rattle.ae_sat.proofs.Learnt.{still_one}
use Rattle.ae_sat.proofs.LearnSteps.{front_cut}
use Rattle.ae_journal.specs.SolverLines.{IsSourceLine}
use Rattle.ae_journal.specs.Standing.{Setting}

pub rows_clause : (t : List Assigned) (n : ℕ) (u : List Clause) (c : Clause) → HasRows t n u → HasRows t n (u ++ c ∷ [])
rows_clause t n u c rows j r d l k i e = still_one u c d (rows j r d l k i e)

pub rows_front : (t : List Assigned) (u : List Clause) (level : ℕ) (cut : List Assigned) (n m : ℕ) → IsLawful t u → IsFront t level cut → m ≤ n → HasRows t n u → HasRows cut m u
rows_front t u level cut n m lawful front small rows j r d l k h q =
    let cutting : IsCut t level cut = front_cut t u level cut lawful front in
    let w : at t j ≡ at cut j = subst (λ (x : List Assigned). at x j ≡ at cut j) (sym cutting.is) (get_or-append cut cutting.undone _ j k) in
    let lk : j < length t = subst (λ (x : List Assigned). j < length x) (sym cutting.is) (omega (arith, k, length-append cut cutting.undone)) in
    rows j r d (omega (arith, l, small)) lk (subst (λ (x : Assigned). Contains (called_rows x.lit.positive x.lit.formula) r) (sym w) h) (subst (λ (x : Assigned). row r x.lit.formula ≡ Some d) (sym w) q)

abbrev pub HasRowsOf : List Assigned → ℕ → List Clause → Type 0
HasRowsOf t n u = (r : ℕ) (c : Clause) → Contains (called_rows (at t n).lit.positive (at t n).lit.formula) r → row r (at t n).lit.formula ≡ Some c → IsOneOf u c

pub rows_next : (t : List Assigned) (n : ℕ) (u : List Clause) → HasRows t n u → HasRowsOf t n u → HasRows t (n + 1) u
rows_next t n u rows own j r c l k i e = elim (cases_lt j n) as (λ _. IsOneOf u c) [
  | inl lt ↦ rows j r c lt k i e
  | inr ge ↦
      let q : n ≡ j = omega (arith, l, ge) in
      subst (λ (m : ℕ). Contains (called_rows (at t m).lit.positive (at t m).lit.formula) r → row r (at t m).lit.formula ≡ Some c → IsOneOf u c) q (own r c) i e
]

pub state_next : (setting : Setting) (t : List Assigned) (u : List Clause) (n : ℕ) (ks : List ClauseLine) (js : List Line) → HasRowsOf t n u → IsLawfulState setting t u n ks js → IsLawfulState setting t u (n + 1) ks js
state_next setting t u n ks js own s = record {
  possible = s.possible;
  formulas = s.formulas;
  given = s.given;
  rows = rows_next t n u s.rows own;
  layered = s.layered;
  sources = s.sources;
  again = s.again;
}

sources_first : (P : ClauseLine → Type 0) (ks : List ClauseLine) (k : ClauseLine) → AllByRecursion P (ks ++ k ∷ []) → AllByRecursion P ks
sources_first P [] k h = tt
sources_first P (x ∷ ks) k h = (h.0, sources_first P ks k h.1)

-- without the last line
pub prefix_state : (setting : Setting) (t : List Assigned) (u : List Clause) (n : ℕ) (ks new : List ClauseLine) (js : List Line) (k : ClauseLine) → new ≡ ks ++ k ∷ [] → IsLawfulState setting t u n new js → IsLawfulState setting t u n ks js
prefix_state setting t u n ks new js k e s = record {
  possible = s.possible;
  formulas = s.formulas;
  given = s.given;
  rows = s.rows;
  layered = s.layered;
  sources = sources_first (IsSourceLine setting js) ks k (subst (AllByRecursion (IsSourceLine setting js)) e s.sources);
  again = s.again;
}

-- with a line more whose conclusion asks for nothing
pub line_state : (setting : Setting) (t : List Assigned) (u : List Clause) (n : ℕ) (ks new : List ClauseLine) (js : List Line) (k : ClauseLine) → new ≡ ks ++ k ∷ []
    → IsSourceLine setting js k → IsLawfulState setting t u n ks js → IsLawfulState setting t u n new js
line_state setting t u n ks new js k e h s = record {
  possible = s.possible;
  formulas = s.formulas;
  given = s.given;
  rows = s.rows;
  layered = s.layered;
  sources = subst (AllByRecursion (IsSourceLine setting js)) (sym e) (all_push (IsSourceLine setting js) ks k s.sources h);
  again = s.again;
}

module _ {T M : Type 0} (fits : T → Stored → Type 0) (assumed : T → List Tagged) (fits_mark : T → M → T → Type 0) (in_step : T → List Line → Type 0) where
  pub alive_next : (store : Stored) (theory : T) (marks : List M) (t : List Assigned) (u : List Clause) (told n : ℕ) (js : List Line) → n < length t → HasRowsOf t n u
      → IsAlive fits assumed fits_mark in_step store theory marks t u told n js → IsAlive fits assumed fits_mark in_step store theory marks t u told (n + 1) js
  alive_next store theory marks t u told n js l own a = record {
    running = a.running;
    fits_store = a.fits_store;
    named = a.named;
    told_within = a.told_within;
    expanded_within = omega (arith, l);
    has_rows = rows_next t n u a.has_rows own;
  }

  pub continues_same : (theory : T) (marks : List M) (t : List Assigned) (u : List Clause) (places : List ℕ) (told n : ℕ) (ks : List ClauseLine)
      → Continues fits assumed fits_mark in_step theory marks t u places told n ks theory marks t u places told n ks
  continues_same theory marks t u places told n ks = record {
    alive = λ store js a. a;
    stated = λ p g s. s;
    state = λ setting js st s. s;
    same_theory = refl;
    enlarges = λ store. enlarges_same store u ks;
    brings = brings_same t u;
  }

  pub continues_more : (theory theory2 theory3 : T) (marks marks2 marks3 : List M) (t t2 t3 : List Assigned) (u u2 u3 : List Clause) (places places2 places3 : List ℕ) (told told2 told3 n n2 n3 : ℕ) (ks ks2 ks3 : List ClauseLine)
      → Continues fits assumed fits_mark in_step theory marks t u places told n ks theory2 marks2 t2 u2 places2 told2 n2 ks2
      → Continues fits assumed fits_mark in_step theory2 marks2 t2 u2 places2 told2 n2 ks2 theory3 marks3 t3 u3 places3 told3 n3 ks3
      → Continues fits assumed fits_mark in_step theory marks t u places told n ks theory3 marks3 t3 u3 places3 told3 n3 ks3
  continues_more theory theory2 theory3 marks marks2 marks3 t t2 t3 u u2 u3 places places2 places3 told told2 told3 n n2 n3 ks ks2 ks3 x y = record {
    alive = λ store js a. y.alive store js (x.alive store js a);
    stated = λ p g s. y.stated p g (x.stated p g s);
    state = λ setting js st s. y.state setting js (x.stated setting.problem setting.goal st) (x.state setting js st s);
    same_theory = y.same_theory ∙ x.same_theory;
    enlarges = λ store. enlarges_more store u u2 u3 ks ks2 ks3 (x.enlarges store) (y.enlarges store);
    brings = brings_more t t2 t3 u u2 u3 x.brings y.brings;
  }

  -- one clause more
  -- at the start
  pub none_running : (theory : T) (marks : List M) (t : List Assigned) (u : List Clause) (standing : List Line) → marks ≡ [] → t ≡ [] → assumed theory ≡ [] → in_step theory standing → decisions standing ≡ []
      → IsRunning assumed fits_mark in_step theory marks t u 0 standing
  none_running theory marks t u standing em et nothing step none =
      subst (λ (w : List M). IsRunning assumed fits_mark in_step theory w t u 0 standing) (sym em)
      (subst (λ (w : List Assigned). IsRunning assumed fits_mark in_step theory [] w u 0 standing) (sym et) (record {
        lawful = record { apart = λ i j l h. absurd (omega (arith, h)); enters = λ i h. absurd (omega (arith, h)) };
        count = refl;
        marked = λ k d h. absurd (omega (arith, h));
        step = step;
        decided = none;
        told_all = nothing;
        stands = λ j h b. absurd (omega (arith, h));
      }))

  pub none_alive : (store : Stored) (theory : T) (marks : List M) (t : List Assigned) (u : List Clause) (js : List Line) → marks ≡ [] → t ≡ [] → u ≡ [] → assumed theory ≡ [] → fits theory store → in_step theory (live js)
      → decisions (live js) ≡ [] → IsAlive fits assumed fits_mark in_step store theory marks t u 0 0 js
  none_alive store theory marks t u js em et eu nothing f step none = record {
    running = none_running theory marks t u (live js) em et nothing step none;
    fits_store = f;
    named = λ c l h k. absurd (omega (arith, h.1, ap length eu));
    told_within = omega arith;
    expanded_within = omega arith;
    has_rows = λ j r c l. absurd (omega (arith, l));
  }

  pub attach_alive : (store : Stored) (theory theory2 : T) (marks marks2 : List M) (t t2 : List Assigned) (u u2 : List Clause) (told told2 n n2 : ℕ) (js : List Line) (c : Clause)
      → IsAlive fits assumed fits_mark in_step store theory marks t u told n js → IsRunning assumed fits_mark in_step theory2 marks2 t2 u2 told2 (live js) → AllNamed store u2
      → theory2 ≡ theory → t2 ≡ t → u2 ≡ u ++ c ∷ [] → told2 ≡ told → n2 ≡ n → IsAlive fits assumed fits_mark in_step store theory2 marks2 t2 u2 told2 n2 js
  attach_alive store theory theory2 marks marks2 t t2 u u2 told told2 n n2 js c a r named e1 e2 e3 e4 e5 = record {
    running = r;
    fits_store = subst (λ (w : T). fits w store) (sym e1) a.fits_store;
    named = named;
    told_within = omega (arith, e4, ap length e2, a.told_within);
    expanded_within = omega (arith, e5, ap length e2, a.expanded_within);
    has_rows = subst (λ (w : ℕ). HasRows t2 w u2) (sym e5) (subst (λ (w : List Clause). HasRows t2 n w) (sym e3) (subst (λ (w : List Assigned). HasRows w n (u ++ c ∷ [])) (sym e2) (rows_clause t n u c a.has_rows)));
  }

  pub grown_alive : (store : Stored) (theory theory2 : T) (marks marks2 : List M) (t t2 : List Assigned) (u u2 : List Clause) (told told2 n n2 : ℕ) (js : List Line)
      → IsAlive fits assumed fits_mark in_step store theory marks t u told n js → IsRunning assumed fits_mark in_step theory2 marks2 t2 u2 told2 (live js)
      → Grown t t2 → theory2 ≡ theory → u2 ≡ u → told2 ≡ told → n2 ≡ n → IsAlive fits assumed fits_mark in_step store theory2 marks2 t2 u2 told2 n2 js
  grown_alive store theory theory2 marks marks2 t t2 u u2 told told2 n n2 js a r grown e1 e3 e4 e5 = record {
    running = r;
    fits_store = subst (λ (w : T). fits w store) (sym e1) a.fits_store;
    named = subst (AllNamed store) (sym e3) a.named;
    told_within = omega (arith, e4, ap length grown.is, length-append t grown.more, a.told_within);
    expanded_within = omega (arith, e5, ap length grown.is, length-append t grown.more, a.expanded_within);
    has_rows = subst (λ (w : ℕ). HasRows t2 w u2) (sym e5) (subst (λ (w : List Clause). HasRows t2 n w) (sym e3) (subst (λ (w : List Assigned). HasRows w n u) (sym grown.is) (rows_grown t grown.more n u a.expanded_within a.has_rows)));
  }

  pub grown_continues : (theory theory2 : T) (marks marks2 : List M) (t t2 : List Assigned) (u u2 : List Clause) (places places2 : List ℕ) (told told2 n n2 : ℕ) (ks : List ClauseLine)
      → ((standing : List Line) → IsRunning assumed fits_mark in_step theory marks t u told standing → IsRunning assumed fits_mark in_step theory2 marks2 t2 u2 told2 standing)
      → ((setting : Setting) (ls : List ClauseLine) (js : List Line) → IsLawfulState setting t u n ls js → IsLawfulState setting t2 u2 n2 ls js)
      → Grown t t2 → theory2 ≡ theory → u2 ≡ u → places2 ≡ places → told2 ≡ told → n2 ≡ n
      → Continues fits assumed fits_mark in_step theory marks t u places told n ks theory2 marks2 t2 u2 places2 told2 n2 ks
  grown_continues theory theory2 marks marks2 t t2 u u2 places places2 told told2 n n2 ks running state grown e1 e2 e3 e4 e5 = record {
    alive = λ store js a. grown_alive store theory theory2 marks marks2 t t2 u u2 told told2 n n2 js a (running (live js) a.running) grown e1 e2 e4 e5;
    stated = λ p g s. subst (λ (w : List Clause). IsStated p g ks w places2) (sym e2) (subst (λ (w : List ℕ). IsStated p g ks u w) (sym e3) s);
    state = λ setting js st s. state setting ks js s;
    same_theory = e1;
    enlarges = λ store. enlarges_to store u u u2 ks ks ks (enlarges_same store u ks) e2 refl;
    brings = brings_to t t2 t2 u u u2 (brings_grown t t2 u grown) refl e2;
  }

  -- the rows of the literal at `expanded` are all there
  pub next_continues : (theory theory2 : T) (marks marks2 : List M) (t t2 : List Assigned) (u u2 : List Clause) (places places2 : List ℕ) (told told2 n n2 : ℕ) (ks ks2 : List ClauseLine)
      → Continues fits assumed fits_mark in_step theory marks t u places told n ks theory2 marks2 t2 u2 places2 told2 n2 ks2
      → t2 ≡ t → n2 ≡ n → n < length t → HasRowsOf t n u2
      → Continues fits assumed fits_mark in_step theory marks t u places told n ks theory2 marks2 t2 u2 places2 told2 (n + 1) ks2
  next_continues theory theory2 marks marks2 t t2 u u2 places places2 told told2 n n2 ks ks2 x et en l own =
      let own2 : HasRowsOf t2 n2 u2 = subst (λ (w : List Assigned). HasRowsOf w n2 u2) (sym et) (subst (λ (w : ℕ). HasRowsOf t w u2) (sym en) own) in
      let l2 : n2 < length t2 = omega (arith, en, ap length et, l) in
      record {
        alive = λ store js a. subst (λ (w : ℕ). IsAlive fits assumed fits_mark in_step store theory2 marks2 t2 u2 told2 (w + 1) js) en (alive_next store theory2 marks2 t2 u2 told2 n2 js l2 own2 (x.alive store js a));
        stated = x.stated;
        same_theory = x.same_theory;
        enlarges = x.enlarges;
        brings = x.brings;
        state = λ setting js st s. subst (λ (w : ℕ). IsLawfulState setting t2 u2 (w + 1) ks2 js) en (state_next setting t2 u2 n2 ks2 js own2 (x.state setting js st s));
      }

  -- more literals are told
  pub told_alive : (store : Stored) (theory theory2 : T) (marks marks2 : List M) (t t2 : List Assigned) (u u2 : List Clause) (told told2 n n2 : ℕ) (js : List Line)
      → IsAlive fits assumed fits_mark in_step store theory marks t u told n js → IsRunning assumed fits_mark in_step theory2 marks2 t2 u2 told2 (live js)
      → fits theory2 store → t2 ≡ t → u2 ≡ u → told2 ≤ length t → n2 ≡ n → IsAlive fits assumed fits_mark in_step store theory2 marks2 t2 u2 told2 n2 js
  told_alive store theory theory2 marks marks2 t t2 u u2 told told2 n n2 js a r f e1 e3 small e5 = record {
    running = r;
    fits_store = f;
    named = subst (AllNamed store) (sym e3) a.named;
    told_within = omega (arith, small, ap length e1);
    expanded_within = omega (arith, e5, ap length e1, a.expanded_within);
    has_rows = subst (λ (w : ℕ). HasRows t2 w u2) (sym e5) (subst (λ (w : List Clause). HasRows t2 n w) (sym e3) (subst (λ (w : List Assigned). HasRows w n u) (sym e1) a.has_rows));
  }

  pub alive_named : (store : Stored) (theory : T) (marks : List M) (t : List Assigned) (u : List Clause) (told n : ℕ) (js : List Line) → IsAlive fits assumed fits_mark in_step store theory marks t u told n js
      → (j : ℕ) → j < length t → AreNamed store (at t j).lit.formula
  alive_named store theory marks t u told n js a j l =
      let w = in_clause t u a.running.lawful a.running.stands j l in
      a.named (clause u w.0) (at t j).lit (w.0, w.1, refl) w.2

-- the loop over the called_rows of the rows of one literal
pub numbers_each : (P : ℕ → Type 0) (ns : List ℕ) (i : ℕ) → i < length ns → P (get_or ns i 0) → ((k r : ℕ) → k < i → get_or ns k r ≡ r → P r) → (k r : ℕ) → k < i + 1 → get_or ns k r ≡ r → P r
numbers_each P ns i l p before k r h e = elim (cases_lt k i) as (λ _. P r) [
  | inl lt ↦ before k r lt e
  | inr ge ↦
      let q : k ≡ i = omega (arith, h, ge) in
      let w : get_or ns i r ≡ r = subst (λ (j : ℕ). get_or ns j r ≡ r) q e in
      subst P (get_or_default ns i 0 r l ∙ w) p
]
