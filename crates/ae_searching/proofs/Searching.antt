-- A search goes on, step by step.
use Rattle.std.proofs.Common.{◌≡◌, Bool, ℕ, ◌<◌, ◌≤◌, List, [], ◌∷◌, ◌++◌, length, refl, sym, ◌∙◌, ap, subst, arith, inl, inr, Some, Result, Err, false, true≢false, ◌+◌, true, if◌then◌else◌}
use Rattle.std.specs.declared.alloc.AllocError.{AllocError}
use Rattle.ae_core.specs.declared.problems.Problem.{Problem}
use Rattle.ae_core.specs.declared.proofs.ClauseLine.{ClauseLine}
use Rattle.ae_rules.specs.Clauses.{Clause}
use Rattle.ae_rules.specs.Derivations.{conclusion, AreAllowed, IsAllowed}
use Rattle.ae_explain.specs.declared.trail.Assigned.{Assigned}
use Rattle.ae_explain.specs.Fronts.{IsFront}
use Rattle.ae_propagation.specs.Settled.{last_level}
use Rattle.ae_journal.specs.declared.lines.Line.{Line}
use Rattle.ae_journal.specs.declared.lines.Line.TheVariants as line
use Rattle.ae_journal.specs.Noted.{Noted}
use Rattle.ae_journal.specs.declared.answers.WideAt.{WideAt}
use Rattle.ae_journal.specs.Journals.{counted_in, decisions, is_counted, live, MayGoBack, OnlyCombines, BringsClause, HasLine}
use Rattle.ae_journal.specs.Legal.{AreLegal, IsLegalLine}
use Rattle.ae_journal.specs.Standing.{Setting, IsEntered}
use Rattle.ae_journal.proofs.Counting.{counted_push}
use Rattle.ae_journal.proofs.Growing.{entered_more}
use Rattle.ae_journal.proofs.Living.{has_last, last_cases}
use Rattle.ae_num.specs.declared.forms.Lin.{Lin}
use Rattle.ae_store.specs.Stores.{Stored}
use Rattle.ae_theory.specs.Names.{IsNamedBy}
use Rattle.ae_theory.specs.Tagged.{Tagged}
use Rattle.ae_theory.specs.declared.theory.Fail.{Fail}
use Rattle.ae_theory.specs.declared.theory.Fail.TheVariants as fail
use Rattle.ae_sat.specs.Search.{IsLawfulState, IsStated, NotesLegally, Progresses}
use Rattle.ae_sat.specs.declared.solver.Solver.{Solver}
use Rattle.ae_sat.proofs.Rowing.{stated_line}
use Rattle.ae_sat.proofs.Searching.{legal_join}
use Rattle.ae_searching.proofs.Alive.{combined_alive, named_alive}
use Rattle.ae_searching.proofs.Lawful.{combined, line_added, line_brought, lowered, named_more, returned, settled, unsettled}
use Rattle.ae_searching.proofs.Settings.{for_setting, told_before}
use Rattle.ae_searching.specs.Searching.{IsAliveIn, IsLawfulBelow, IsLawfulSoFar, IsSearching}
use Rattle.ae_searching.specs.Steps.{Grows, HasNews, IsStatedBy, Lowers, MayBring, MayCome}
use Rattle.ae_searching.specs.Told.{IsToldIn}
use Rattle.ae_block_constants.specs.declared.opened.Opened.{Opened}

-- ---- news
pub news_last : (js : List Line) (j : Line) (l : ClauseLine) → IsStatedBy j l → HasNews (js ++ j ∷ [])
news_last js j l h = record {
  since_back = λ a b m e. elim (last_cases js a b j (line.Back m) e) as (λ _. HasLine BringsClause b) [
    | inl q ↦ absurd (subst (λ (y : Line). IsStatedBy y l) q h)
    | inr r ↦ subst (HasLine BringsClause) (sym r.1) (has_last BringsClause r.0 j (brings j l h))
  ];
  some = has_last BringsClause js j (brings j l h);
}
  where
    brings : (j : Line) (l : ClauseLine) → IsStatedBy j l → BringsClause j
    brings (line.TypeInstance k ss) l h = tt
    brings (line.TermInstance f ts) l h = tt
    brings (line.Learn c) l h = absurd h
    brings (line.Decide m) l h = absurd h
    brings (line.Orient o) l h = absurd h
    brings (line.Drop o) l h = absurd h
    brings (line.Pair u a b) l h = absurd h
    brings (line.Combine b f) l h = absurd h
    brings (line.Back n) l h = absurd h

pub news_back : (js : List Line) (n : ℕ) → HasNews js → n < length (decisions (live js)) → MayGoBack js n
news_back js n h some = record { some = some; between = h.since_back; first = h.some }

-- the line that states the clause of an instance line is allowed
pub stated_allowed : (p : Problem) (g : ℕ) (lines : List ClauseLine) (j : Line) (l : ClauseLine) (c : Clause) → IsStatedBy j l → conclusion p g l ≡ Some c → IsAllowed p g lines l
stated_allowed p g lines (line.TypeInstance k ss) l c h e = subst (IsAllowed p g lines) (sym h) ((c, ap (conclusion p g) (sym h) ∙ e), tt)
stated_allowed p g lines (line.TermInstance f ts) l c h e = subst (IsAllowed p g lines) (sym h) ((c, ap (conclusion p g) (sym h) ∙ e), tt)
stated_allowed p g lines (line.Learn d) l c h e = absurd h
stated_allowed p g lines (line.Decide m) l c h e = absurd h
stated_allowed p g lines (line.Orient o) l c h e = absurd h
stated_allowed p g lines (line.Drop o) l c h e = absurd h
stated_allowed p g lines (line.Pair u a b) l c h e = absurd h
stated_allowed p g lines (line.Combine b f) l c h e = absurd h
stated_allowed p g lines (line.Back n) l c h e = absurd h

-- ---- what calls leave
lawful_to : (x : Setting) (bound : ℕ) (s : Stored) (level : ℕ) (t t2 : List Assigned) (u u2 : List Clause) (n n2 : ℕ) (ks ks2 : List ClauseLine) (js js2 : List Line) → t2 ≡ t → u2 ≡ u → n2 ≡ n → ks2 ≡ ks → js2 ≡ js
    → IsLawfulBelow x bound s level t u n ks js → IsLawfulBelow x bound s level t2 u2 n2 ks2 js2
lawful_to x bound s level t t2 u u2 n n2 ks ks2 js js2 et eu en ek ej h =
    subst (λ (w : List Assigned). IsLawfulBelow x bound s level w u2 n2 ks2 js2) (sym et)
    (subst (λ (w : List Clause). IsLawfulBelow x bound s level t w n2 ks2 js2) (sym eu)
    (subst (λ (w : ℕ). IsLawfulBelow x bound s level t u w ks2 js2) (sym en)
    (subst (λ (w : List ClauseLine). IsLawfulBelow x bound s level t u n w js2) (sym ek)
    (subst (IsLawfulBelow x bound s level t u n ks) (sym ej) h))))

stated_to : (p : Problem) (g : ℕ) (ks ks2 : List ClauseLine) (u u2 : List Clause) (places places2 : List ℕ) → ks2 ≡ ks → u2 ≡ u → places2 ≡ places → IsStated p g ks u places → IsStated p g ks2 u2 places2
stated_to p g ks ks2 u u2 places places2 ek eu ep h =
    subst (λ (w : List ClauseLine). IsStated p g w u2 places2) (sym ek) (subst (λ (w : List Clause). IsStated p g ks w places2) (sym eu) (subst (IsStated p g ks u) (sym ep) h))

-- the setting's names are numbered as in the store, and the store's terms are names
named_by : (p : Problem) (g bound : ℕ) (s : Stored) (opened : List Opened) (x : Setting) (level : ℕ) (t : List Assigned) (u : List Clause) (n : ℕ) (ks : List ClauseLine) (js : List Line) → p.signature ≡ s.signature
    → IsToldIn p g s opened x → IsLawfulBelow x bound s level t u n ks js → IsNamedBy x s js
named_by p g bound s opened x level t u n ks js e h w = record {
  signature = ap (λ (q : Problem). q.signature) h.problem ∙ e;
  more = h.more;
  names = h.names;
  entered = w.entered;
}

-- ---- whatever comes
-- more terms, each of them a name
pub so_far_more : (p : Problem) (g bound : ℕ) (old new : Stored) (opened opened2 : List Opened) (lines : List ClauseLine) (js : List Line) → Grows p g old new opened opened2 js
    → IsLawfulSoFar p g bound old opened lines js → IsLawfulSoFar p g bound new opened2 lines js
so_far_more p g bound old new opened opened2 lines js w h = record {
  allowed = h.allowed;
  legal = λ x told. h.legal x (told_before p g old new opened opened2 x w.extends w.opened_still told);
  entered = λ x told m y. elim (w.entered x told m y) as (λ _. IsEntered x js m) [
    | inl o ↦ h.entered x (told_before p g old new opened opened2 x w.extends w.opened_still told) m o
    | inr o ↦ o
  ];
}

-- a line of the journal more
pub so_far_line : (p : Problem) (g bound : ℕ) (s : Stored) (opened : List Opened) (lines : List ClauseLine) (js : List Line) (j : Line) → ((x : Setting) → IsToldIn p g s opened x → IsLegalLine x bound js j)
    → IsLawfulSoFar p g bound s opened lines js → IsLawfulSoFar p g bound s opened lines (js ++ j ∷ [])
so_far_line p g bound s opened lines js j legal h = record {
  allowed = h.allowed;
  legal = λ x told. legal_join x bound [] js (j ∷ []) (h.legal x told) (legal x told, tt);
  entered = λ x told m y. entered_more x js (j ∷ []) m (h.entered x told m y);
}

-- an instance line
pub so_far_brought : (p : Problem) (g bound : ℕ) (s more : Stored) (opened : List Opened) (lines : List ClauseLine) (js : List Line) (j : Line) (k : ClauseLine) (c : Clause) → MayBring p g bound s more opened js j k c
    → IsLawfulSoFar p g bound s opened lines js → IsLawfulSoFar p g bound more opened lines (js ++ j ∷ [])
so_far_brought p g bound s more opened lines js j k c w h = record {
  allowed = h.allowed;
  legal = λ x told. legal_join x bound [] js (j ∷ []) (h.legal x (told_before p g s more opened opened x w.grows.extends w.grows.opened_still told)) (w.legal x told, tt);
  entered = λ x told m y. elim (w.grows.entered x told m y) as (λ _. IsEntered x (js ++ j ∷ []) m) [
    | inl o ↦ entered_more x js (j ∷ []) m (h.entered x (told_before p g s more opened opened x w.grows.extends w.grows.opened_still told) m o)
    | inr o ↦ o
  ];
}

pub so_far_to : (p : Problem) (g bound : ℕ) (s : Stored) (opened : List Opened) (lines lines2 : List ClauseLine) (js js2 : List Line) → AreAllowed p g [] lines2 → js2 ≡ js
    → IsLawfulSoFar p g bound s opened lines js → IsLawfulSoFar p g bound s opened lines2 js2
so_far_to p g bound s opened lines lines2 js js2 a e h = record {
  allowed = a;
  legal = λ x told. subst (AreLegal x bound []) (sym e) (h.legal x told);
  entered = λ x told m y. subst (λ (w : List Line). IsEntered x w m) (sym e) (h.entered x told m y);
}

-- an instance line is counted
pub progresses_by : (old new : Noted) (j : Line) (l : ClauseLine) → IsStatedBy j l → new ≡ record old { lines = old.lines ++ j ∷ [] } → counted_in new.lines ≤ new.limit → Progresses old new
progresses_by old new j l h e within =
    let one : is_counted j ≡ true = counts j l h in
    let more : counted_in (old.lines ++ j ∷ []) ≡ counted_in old.lines + 1 = counted_push old.lines j ∙ ap (λ (b : Bool). counted_in old.lines + (if b then 1 else 0)) one in
    record { limit = ap (λ (n : Noted). n.limit) e; more = omega (arith, more, ap (λ (n : Noted). counted_in n.lines) e); within = within }
  where
    counts : (j : Line) (l : ClauseLine) → IsStatedBy j l → is_counted j ≡ true
    counts (line.TypeInstance k ss) l h = refl
    counts (line.TermInstance f ts) l h = refl
    counts (line.Learn c) l h = absurd h
    counts (line.Decide m) l h = absurd h
    counts (line.Orient o) l h = absurd h
    counts (line.Drop o) l h = absurd h
    counts (line.Pair u a b) l h = absurd h
    counts (line.Combine b f) l h = absurd h
    counts (line.Back n) l h = absurd h

-- an instance line is refused only where the journal is full
pub never_refused : {A : Type 0} (journal : Noted) (j : Line) (l : ClauseLine) (r : Result A Fail) (e : Fail) → IsStatedBy j l → counted_in journal.lines < journal.limit → (r ≡ Err fail.Steps → counted_in journal.lines ≡ journal.limit)
    → ((failed : AllocError) → r ≡ Err (fail.Memory failed) → is_counted j ≡ false) → ((wide : WideAt) → ¬ (r ≡ Err (fail.Number wide))) → r ≡ Err e → ⊥
never_refused journal j l r fail.Steps h room full memory wide q = omega (arith, room, full q)
never_refused journal j l r (fail.Number w) h room full memory wide q = wide w q
never_refused journal j l r (fail.Memory f) h room full memory wide q = counted j l h (memory f q)
  where
    counted : (j : Line) (l : ClauseLine) → IsStatedBy j l → is_counted j ≡ false → ⊥
    counted (line.TypeInstance k ss) l h e = true≢false e
    counted (line.TermInstance f ts) l h e = true≢false e
    counted (line.Learn c) l h e = h
    counted (line.Decide m) l h e = h
    counted (line.Orient o) l h e = h
    counted (line.Drop o) l h e = h
    counted (line.Pair u a b) l h e = h
    counted (line.Combine b f) l h e = h
    counted (line.Back n) l h e = h

module _ {T M : Type 0} (fits : T → Stored → Type 0) (assumed : T → List Tagged) (fits_mark : T → M → T → Type 0) (in_step : T → List Line → Type 0) where
  abbrev pub Goes : Problem → ℕ → ℕ → Stored → List Opened → ℕ → Solver T M → List ClauseLine → List Line → Type 0
  Goes = IsSearching fits assumed fits_mark in_step

  module _ (p : Problem) (g bound : ℕ) where
    pub so_far : (s : Stored) (opened : List Opened) (level : ℕ) (o : Solver T M) (lines : List ClauseLine) (js : List Line) → Goes p g bound s opened level o lines js → IsLawfulSoFar p g bound s opened lines js
    so_far s opened level o lines js h = record { allowed = h.stated.allowed; legal = λ x told. (h.lawful x told).legal; entered = λ x told. (h.lawful x told).entered }

    pub searching_lower : (s : Stored) (opened : List Opened) (level least : ℕ) (o : Solver T M) (lines : List ClauseLine) (js : List Line) → least ≤ level → Goes p g bound s opened level o lines js
        → Goes p g bound s opened least o lines js
    searching_lower s opened level least o lines js low h = record {
      signature = h.signature;
      alive = h.alive;
      stated = h.stated;
      lawful = λ x told. lowered x bound s level least o.propagation.trail o.propagation.clauses o.expanded lines js low (h.lawful x told);
    }

    pub searching_named : (old new : Stored) (opened opened2 : List Opened) (level : ℕ) (o : Solver T M) (lines : List ClauseLine) (js : List Line) → (fits o.theory old → fits o.theory new) → Grows p g old new opened opened2 js
        → Goes p g bound old opened level o lines js → Goes p g bound new opened2 level o lines js
    searching_named old new opened opened2 level o lines js more w h = record {
      signature = h.signature ∙ sym w.extends.signature;
      alive = named_alive fits assumed fits_mark in_step old new o.theory o.marks.items o.propagation.trail o.propagation.clauses o.handed o.expanded js w.extends more h.alive;
      stated = h.stated;
      lawful = λ x told. named_more x bound old new level o.propagation.trail o.propagation.clauses o.expanded lines js (w.entered x told)
          (h.lawful x (told_before p g old new opened opened2 x w.extends w.opened_still told));
    }

    pub searching_combined : (s : Stored) (opened : List Opened) (level : ℕ) (o : Solver T M) (lines : List ClauseLine) (js added : List Line)
        → ((b : Bool) (f : Lin) (ks : List Line) → in_step o.theory ks → in_step o.theory (ks ++ line.Combine b f ∷ [])) → OnlyCombines added → ((x : Setting) → IsToldIn p g s opened x → AreLegal x bound js added)
        → Goes p g bound s opened level o lines js → Goes p g bound s opened level o lines (js ++ added)
    searching_combined s opened level o lines js added silent only legal h = record {
      signature = h.signature;
      alive = combined_alive fits assumed fits_mark in_step s o.theory o.marks.items o.propagation.trail o.propagation.clauses o.handed o.expanded js added silent only h.alive;
      stated = h.stated;
      lawful = λ x told. combined x bound s level o.propagation.trail o.propagation.clauses o.expanded lines js added only (legal x told) (h.lawful x told);
    }

    -- a clause more
    pub searching_added : (s : Stored) (opened : List Opened) (level : ℕ) (o o2 : Solver T M) (lines lines2 : List ClauseLine) (js : List Line) (k : ClauseLine) (c : Clause) → MayCome p g s opened lines js k c
        → IsAliveIn fits assumed fits_mark in_step s o2 js → o2.propagation.trail ≡ o.propagation.trail → o2.propagation.clauses ≡ o.propagation.clauses ++ c ∷ [] → o2.places ≡ o.places ++ length lines ∷ []
        → o2.expanded ≡ o.expanded → lines2 ≡ lines ++ k ∷ [] → Goes p g bound s opened level o lines js → Goes p g bound s opened level o2 lines2 js
    searching_added s opened level o o2 lines lines2 js k c m alive et eu ep en ek h = record {
      signature = h.signature;
      alive = alive;
      stated = stated_to p g (lines ++ k ∷ []) lines2 (o.propagation.clauses ++ c ∷ []) o2.propagation.clauses (o.places ++ length lines ∷ []) o2.places ek eu ep
          (stated_line p g lines o.propagation.clauses o.places k c h.stated m.allowed m.states);
      lawful = λ x told. lawful_to x bound s level o.propagation.trail o2.propagation.trail (o.propagation.clauses ++ c ∷ []) o2.propagation.clauses o.expanded o2.expanded (lines ++ k ∷ []) lines2 js js et eu en ek refl
          (line_added x bound s level o.propagation.trail o.propagation.clauses o.expanded lines js k c (for_setting (λ q r. conclusion q r k ≡ Some c) p g s opened x told m.states)
          (m.possible x told) (m.formulas x told) (h.lawful x told));
    }

    -- an instance more
    pub searching_brought : (s more : Stored) (opened : List Opened) (level least : ℕ) (o o2 : Solver T M) (lines lines2 : List ClauseLine) (js : List Line) (j : Line) (k : ClauseLine) (c : Clause)
        → MayBring p g bound s more opened js j k c → Lowers o.propagation.trail c level least
        → IsAliveIn fits assumed fits_mark in_step more o2 (js ++ j ∷ []) → o2.propagation.trail ≡ o.propagation.trail → o2.propagation.clauses ≡ o.propagation.clauses ++ c ∷ [] → o2.places ≡ o.places ++ length lines ∷ []
        → o2.expanded ≡ o.expanded → lines2 ≡ lines ++ k ∷ [] → Goes p g bound s opened level o lines js → Goes p g bound more opened least o2 lines2 (js ++ j ∷ [])
    searching_brought s more opened level least o o2 lines lines2 js j k c m low alive et eu ep en ek h = record {
      signature = h.signature ∙ sym m.grows.extends.signature;
      alive = alive;
      stated = stated_to p g (lines ++ k ∷ []) lines2 (o.propagation.clauses ++ c ∷ []) o2.propagation.clauses (o.places ++ length lines ∷ []) o2.places ek eu ep
          (stated_line p g lines o.propagation.clauses o.places k c h.stated (stated_allowed p g lines j k c m.stated_by m.states) m.states);
      lawful = λ x told.
          lawful_to x bound more least o.propagation.trail o2.propagation.trail (o.propagation.clauses ++ c ∷ []) o2.propagation.clauses o.expanded o2.expanded (lines ++ k ∷ []) lines2 (js ++ j ∷ []) (js ++ j ∷ []) et eu en ek refl
          (line_brought x bound s more level least o.propagation.trail o.propagation.clauses o.expanded lines js j k c (m.legal x told) m.stated_by
          (for_setting (λ q r. conclusion q r k ≡ Some c) p g more opened x told m.states) low.within low.rests (m.grows.entered x told)
          (h.lawful x (told_before p g s more opened opened x m.grows.extends m.grows.opened_still told)));
    }

    -- going back
    pub searching_returned : (s : Stored) (opened : List Opened) (level : ℕ) (o o2 : Solver T M) (lines : List ClauseLine) (js js2 : List Line) → MayGoBack js level
        → IsAliveIn fits assumed fits_mark in_step s o2 js2 → IsFront o.propagation.trail level o2.propagation.trail → o2.propagation.clauses ≡ o.propagation.clauses → o2.places ≡ o.places → o2.expanded ≤ o.expanded
        → js2 ≡ js ++ line.Back level ∷ [] → Goes p g bound s opened level o lines js → Goes p g bound s opened level o2 lines js2
    searching_returned s opened level o o2 lines js js2 may alive front eu ep small ej h = record {
      signature = h.signature;
      alive = alive;
      stated = stated_to p g lines lines o.propagation.clauses o2.propagation.clauses o.places o2.places refl eu ep h.stated;
      lawful = λ x told. lawful_to x bound s level o2.propagation.trail o2.propagation.trail o.propagation.clauses o2.propagation.clauses o2.expanded o2.expanded lines lines (js ++ line.Back level ∷ []) js2 refl eu refl refl ej
          (returned x bound s level o.propagation.trail o2.propagation.trail o.propagation.clauses o.expanded o2.expanded lines js h.alive.running.lawful front small may (h.lawful x told));
    }

    -- what the solver's calls ask for
    pub named_so : (s : Stored) (opened : List Opened) (level : ℕ) (o : Solver T M) (lines : List ClauseLine) (js : List Line) (x : Setting) → IsToldIn p g s opened x → Goes p g bound s opened level o lines js → IsNamedBy x s js
    named_so s opened level o lines js x told h =
        named_by p g bound s opened x level o.propagation.trail o.propagation.clauses o.expanded lines js h.signature told (h.lawful x told)

    pub stated_so : (s : Stored) (opened : List Opened) (level : ℕ) (o : Solver T M) (lines : List ClauseLine) (js : List Line) (x : Setting) → IsToldIn p g s opened x → Goes p g bound s opened level o lines js
        → IsStated x.problem x.goal lines o.propagation.clauses o.places
    stated_so s opened level o lines js x told h = for_setting (λ q r. IsStated q r lines o.propagation.clauses o.places) p g s opened x told h.stated

    pub state_so : (s : Stored) (opened : List Opened) (level : ℕ) (o : Solver T M) (lines : List ClauseLine) (js : List Line) (x : Setting) → IsToldIn p g s opened x → last_level o.propagation.trail ≤ level
        → Goes p g bound s opened level o lines js → IsLawfulState x o.propagation.trail o.propagation.clauses o.expanded lines js
    state_so s opened level o lines js x told low h =
        (settled x bound s level o.propagation.trail o.propagation.clauses o.expanded lines js low (h.lawful x told)).state

    legal_after : (s : Stored) (opened : List Opened) (level : ℕ) (o : Solver T M) (lines : List ClauseLine) (js js2 : List Line) (x : Setting) → IsToldIn p g s opened x → NotesLegally x bound js js2
        → Goes p g bound s opened level o lines js → AreLegal x bound [] js2
    legal_after s opened level o lines js js2 x told notes h =
        subst (AreLegal x bound []) (sym notes.is) (legal_join x bound [] js notes.added (h.lawful x told).legal notes.legal)

    -- a step of the solver
    pub searching_run : (s : Stored) (opened : List Opened) (level : ℕ) (o o2 : Solver T M) (lines lines2 : List ClauseLine) (js js2 : List Line) → IsAliveIn fits assumed fits_mark in_step s o2 js2
        → IsStated p g lines2 o2.propagation.clauses o2.places
        → ((x : Setting) → IsToldIn p g s opened x → NotesLegally x bound js js2 × IsLawfulState x o2.propagation.trail o2.propagation.clauses o2.expanded lines2 js2)
        → Goes p g bound s opened level o lines js → Goes p g bound s opened (last_level o2.propagation.trail) o2 lines2 js2
    searching_run s opened level o o2 lines lines2 js js2 alive stated steps h = record {
      signature = h.signature;
      alive = alive;
      stated = stated;
      lawful = λ x told.
          let w = steps x told in
          unsettled x bound s o2.propagation.trail o2.propagation.clauses o2.expanded lines2 js2 (legal_after s opened level o lines js js2 x told w.0 h) w.1
          (λ m y. subst (λ (v : List Line). IsEntered x v m) (sym w.0.is) (entered_more x js w.0.added m ((h.lawful x told).entered m y)));
    }

    pub so_far_run : (s : Stored) (opened : List Opened) (level : ℕ) (o : Solver T M) (lines lines2 : List ClauseLine) (js js2 : List Line) → AreAllowed p g [] lines2
        → ((x : Setting) → IsToldIn p g s opened x → NotesLegally x bound js js2) → Goes p g bound s opened level o lines js → IsLawfulSoFar p g bound s opened lines2 js2
    so_far_run s opened level o lines lines2 js js2 a notes h = record {
      allowed = a;
      legal = λ x told. legal_after s opened level o lines js js2 x told (notes x told) h;
      entered = λ x told m y. let w = notes x told in subst (λ (v : List Line). IsEntered x v m) (sym w.is) (entered_more x js w.added m ((h.lawful x told).entered m y));
    }
