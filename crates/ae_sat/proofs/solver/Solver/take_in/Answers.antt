use Rattle.std.proofs.Common.{rules, ◌≡◌, ◌≢◌, ◌∙◌, ℕ, ◌-◌, ◌≤◌, List, [], ◌∷◌, ◌++◌, length, sym, ap, subst, arith, refl, inr, true≢false, length-append}
use Rattle.ae_rules.specs.Clauses.{Clause}
use Rattle.ae_core.specs.declared.proofs.ClauseLine.TheVariants.{Rup}
use Rattle.ae_journal.specs.Noted.{Noted}
use Rattle.ae_journal.specs.declared.lines.Line.TheVariants as line
use Rattle.ae_explain.specs.Fronts.{IsFront}
use Rattle.ae_sat.specs.Search.{IsStated, AllNamed, Keeps}
use Rattle.ae_sat.proofs.Enlarging.{enlarges_same, enlarges_to, false_enlarges}
use Rattle.ae_sat.proofs.Idling.{idle_true}
use Rattle.ae_sat.proofs.LearnSteps.{HasTop, has_top, keeps_learn, progresses_learn, stated_more, learn_notes, learn_leaves, lines_either}
use Rattle.ae_sat.specs.Standing.{HasRows}
use Rattle.ae_sat.proofs.Propagating.{rows_clause, rows_front, prefix_state}
use Rattle.ae_sat.proofs.Attaching.{learn_runs, attach_runs, named_more}
use Rattle.ae_sat.proofs.Searching.{keeps_same}
use Rattle.ae_sat.proofs.solver.Solver.take_in.Goals as goal

pub go_back-requires-clause-running : goal.go_back-requires-clause-running
go_back-requires-clause-running g c =
    let s = c.args.self.now in
    learn_runs g.T.Theory.assumed g.T.Theory.fits_mark g.T.Theory.in_step s.theory s.marks.items s.propagation.trail s.propagation.clauses s.handed c.args.journal.now.lines c.note.new.journal.lines c.in_ok-noted.noted
    c.requires.alive.running (λ js h. g.met.T.Theory.silent s.theory js (line.Learn c.in_ok-noted.noted) refl h) (ap (λ (n : Noted). n.lines) c.in_ok-note.ensures.ok)

pub go_back-requires-clause-within : goal.go_back-requires-clause-within
go_back-requires-clause-within g c =
    let s = c.args.self.now in
    let t = s.propagation.trail in
    let u = s.propagation.clauses in
    let r = c.args.learnt in
    let top = c.requires.learnt.0 in
    let some : r.clause ≢ [] = λ e. true≢false (sym (c.if-is_empty.ensures.1 e)) in
    let w = c.requires.alive.running.lawful in
    let h : HasTop t r.clause top r.level = has_top t u r.clause top r.level w c.requires.learnt.1.false_ones c.requires.learnt.1.empty c.requires.learnt.1.one c.requires.learnt.1.highest some c.requires.learnt.1.level in
    omega (arith, h.below, c.requires.alive.running.count)

pub returns-in_err-go_back-clause-journal : goal.returns-in_err-go_back-clause-journal
returns-in_err-go_back-clause-journal g c =
    let js = c.args.journal.now.lines in
    let r = c.args.learnt in
    let same : c.in_ok-noted.noted ≡ r.clause = c.in_ok-noted.ensures ∙ c.as_slice.ensures in
    let mid : c.note.new.journal ≡ record c.args.journal.now { lines = js ++ line.Learn r.clause ∷ [] } = c.in_ok-note.ensures.ok ∙ ap (λ (x : Clause). record c.args.journal.now { lines = js ++ line.Learn x ∷ [] }) same in
    keeps_learn c.args.journal.now c.note.new.journal c.go_back.new.journal r.clause r.level mid c.in_err-go_back.ensures.noted_or

pub returns-in_err-attach-clause-journal : goal.returns-in_err-attach-clause-journal
returns-in_err-attach-clause-journal g c =
    let js = c.args.journal.now.lines in
    let r = c.args.learnt in
    let same : c.in_ok-noted.noted ≡ r.clause = c.in_ok-noted.ensures ∙ c.as_slice.ensures in
    let mid : c.note.new.journal ≡ record c.args.journal.now { lines = js ++ line.Learn r.clause ∷ [] } = c.in_ok-note.ensures.ok ∙ ap (λ (x : Clause). record c.args.journal.now { lines = js ++ line.Learn x ∷ [] }) same in
    keeps_learn c.args.journal.now c.note.new.journal c.go_back.new.journal r.clause r.level mid (inr c.in_ok-go_back.ensures.noted)

pub returns-clause-journal : goal.returns-clause-journal
returns-clause-journal g c =
    let js = c.args.journal.now.lines in
    let r = c.args.learnt in
    let same : c.in_ok-noted.noted ≡ r.clause = c.in_ok-noted.ensures ∙ c.as_slice.ensures in
    let mid : c.note.new.journal ≡ record c.args.journal.now { lines = js ++ line.Learn r.clause ∷ [] } = c.in_ok-note.ensures.ok ∙ ap (λ (x : Clause). record c.args.journal.now { lines = js ++ line.Learn x ∷ [] }) same in
    keeps_learn c.args.journal.now c.note.new.journal c.go_back.new.journal r.clause r.level mid (inr c.in_ok-go_back.ensures.noted)

pub returns-clause-learnt : goal.returns-clause-learnt
returns-clause-learnt g c e =
    let js = c.args.journal.now.lines in
    let r = c.args.learnt in
    let same : c.in_ok-noted.noted ≡ r.clause = c.in_ok-noted.ensures ∙ c.as_slice.ensures in
    let mid : c.note.new.journal ≡ record c.args.journal.now { lines = js ++ line.Learn r.clause ∷ [] } = c.in_ok-note.ensures.ok ∙ ap (λ (x : Clause). record c.args.journal.now { lines = js ++ line.Learn x ∷ [] }) same in
    progresses_learn c.args.journal.now c.note.new.journal c.go_back.new.journal r.clause r.level mid c.in_ok-go_back.ensures.noted c.in_ok-note.ensures.within

pub returns-in_err-go_back-clause-legal : goal.returns-in_err-go_back-clause-legal
returns-in_err-go_back-clause-legal g c setting bound sig old state2 =
    let s = c.args.self.now in
    let t = s.propagation.trail in
    let u = s.propagation.clauses in
    let r = c.args.learnt in
    let top = c.requires.learnt.0 in
    let some : r.clause ≢ [] = λ e. true≢false (sym (c.if-is_empty.ensures.1 e)) in
    let w = c.requires.alive.running.lawful in
    let h : HasTop t r.clause top r.level = has_top t u r.clause top r.level w c.requires.learnt.1.false_ones c.requires.learnt.1.empty c.requires.learnt.1.one c.requires.learnt.1.highest some c.requires.learnt.1.level in
    let js = c.args.journal.now.lines in
    let same : c.in_ok-noted.noted ≡ r.clause = c.in_ok-noted.ensures ∙ c.as_slice.ensures in
    let mid : c.note.new.journal ≡ record c.args.journal.now { lines = js ++ line.Learn r.clause ∷ [] } = c.in_ok-note.ensures.ok ∙ ap (λ (x : Clause). record c.args.journal.now { lines = js ++ line.Learn x ∷ [] }) same in
    let ks = c.requires.line.0 in
    let new = c.args.lines.now.items in
    let stated : IsStated setting.problem setting.goal new u s.places = old in
    let state = prefix_state setting t u s.expanded ks new js (Rup r.clause c.requires.line.1) c.requires.line.2 state2 in
    let notes = learn_notes setting bound t u s.expanded ks new js w c.requires.alive.running.decided state r.clause c.requires.line.1 top r.level some
    c.requires.learnt.1.false_ones c.requires.learnt.1.empty c.requires.learnt.1.one c.requires.learnt.1.highest h c.requires.line.2 stated.allowed
    c.note.new.journal.lines c.go_back.new.journal.lines (ap (λ (x : Noted). x.lines) mid) (lines_either c.note.new.journal c.go_back.new.journal r.level c.in_err-go_back.ensures.noted_or) in
    (notes, search rules)

pub returns-in_err-attach-clause-legal : goal.returns-in_err-attach-clause-legal
returns-in_err-attach-clause-legal g c setting bound sig old state2 =
    let s = c.args.self.now in
    let t = s.propagation.trail in
    let u = s.propagation.clauses in
    let r = c.args.learnt in
    let top = c.requires.learnt.0 in
    let some : r.clause ≢ [] = λ e. true≢false (sym (c.if-is_empty.ensures.1 e)) in
    let w = c.requires.alive.running.lawful in
    let h : HasTop t r.clause top r.level = has_top t u r.clause top r.level w c.requires.learnt.1.false_ones c.requires.learnt.1.empty c.requires.learnt.1.one c.requires.learnt.1.highest some c.requires.learnt.1.level in
    let js = c.args.journal.now.lines in
    let same : c.in_ok-noted.noted ≡ r.clause = c.in_ok-noted.ensures ∙ c.as_slice.ensures in
    let mid : c.note.new.journal ≡ record c.args.journal.now { lines = js ++ line.Learn r.clause ∷ [] } = c.in_ok-note.ensures.ok ∙ ap (λ (x : Clause). record c.args.journal.now { lines = js ++ line.Learn x ∷ [] }) same in
    let ks = c.requires.line.0 in
    let new = c.args.lines.now.items in
    let stated : IsStated setting.problem setting.goal new u s.places = old in
    let state = prefix_state setting t u s.expanded ks new js (Rup r.clause c.requires.line.1) c.requires.line.2 state2 in
    let notes = learn_notes setting bound t u s.expanded ks new js w c.requires.alive.running.decided state r.clause c.requires.line.1 top r.level some
    c.requires.learnt.1.false_ones c.requires.learnt.1.empty c.requires.learnt.1.one c.requires.learnt.1.highest h c.requires.line.2 stated.allowed
    c.note.new.journal.lines c.go_back.new.journal.lines (ap (λ (x : Noted). x.lines) mid) (inr (ap (λ (x : Noted). x.lines) c.in_ok-go_back.ensures.noted)) in
    (notes, search rules)

pub returns-clause-stated : goal.returns-clause-stated
returns-clause-stated g c p n sig old =
    let s = c.args.self.now in
    let u = s.propagation.clauses in
    let r = c.args.learnt in
    let ks = c.requires.line.0 in
    let new = c.args.lines.now.items in
    let stated : IsStated p n new u s.places = old in
    let ek = c.requires.line.2 in
    stated_more p n ks new u c.attach.new.self.propagation.clauses s.places c.attach.new.self.places r.clause c.requires.line.1 (c.len-place.result - 1) stated ek
    (omega (arith, c.len-place.ensures, c.args.lines.now.ok.0, ap length ek, length-append ks (Rup r.clause c.requires.line.1 ∷ [])))
    (c.in_ok-attach.ensures.clauses ∙ ap (λ (v : List Clause). v ++ r.clause ∷ []) c.in_ok-go_back.ensures.clauses)
    (c.in_ok-attach.ensures.places ∙ ap (λ (v : List ℕ). v ++ (c.len-place.result - 1) ∷ []) c.in_ok-go_back.ensures.places)

pub returns-clause-alive : goal.returns-clause-alive
returns-clause-alive g c =
    let s = c.args.self.now in
    let r = c.args.learnt in
    let b = c.go_back.new.self in
    let a = c.attach.new.self in
    let eu : a.propagation.clauses ≡ s.propagation.clauses ++ r.clause ∷ [] = c.in_ok-attach.ensures.clauses ∙ ap (λ (v : List Clause). v ++ r.clause ∷ []) c.in_ok-go_back.ensures.clauses in
    record {
      running = attach_runs g.T.Theory.assumed g.T.Theory.fits_mark g.T.Theory.in_step b.theory a.theory b.marks.items a.marks.items b.propagation.trail a.propagation.trail b.propagation.clauses a.propagation.clauses b.handed a.handed _ r.clause
          c.in_ok-go_back.ensures.running c.in_ok-attach.ensures.theory c.in_ok-attach.ensures.marks c.in_ok-attach.ensures.trail c.in_ok-attach.ensures.clauses c.in_ok-attach.ensures.handed;
      fits_store = subst (λ (x : _). g.T.Equalities.fits x c.args.store.now) (sym c.in_ok-attach.ensures.theory) (c.in_ok-go_back.ensures.fits c.args.store.now c.requires.alive.fits_store);
      named = subst (AllNamed c.args.store.now) (sym eu)
          (named_more c.args.store.now s.propagation.trail s.propagation.clauses r.clause c.requires.alive.running.lawful c.requires.alive.running.stands c.requires.learnt.1.false_ones c.requires.alive.named);
      told_within = omega (arith, c.in_ok-attach.ensures.handed, ap length c.in_ok-attach.ensures.trail, c.in_ok-go_back.ensures.told_within);
      expanded_within = omega (arith, c.in_ok-attach.ensures.expanded, ap length c.in_ok-attach.ensures.trail, c.in_ok-go_back.ensures.expanded_within);
      has_rows = subst (λ (w : List Clause). HasRows a.propagation.trail a.expanded w) (sym eu)
          (rows_clause a.propagation.trail a.expanded s.propagation.clauses r.clause
          (rows_front s.propagation.trail s.propagation.clauses r.level a.propagation.trail s.expanded a.expanded c.requires.alive.running.lawful (subst (IsFront s.propagation.trail r.level) (sym c.in_ok-attach.ensures.trail) c.in_ok-go_back.ensures.trail)
          (omega (arith, c.in_ok-attach.ensures.expanded, c.in_ok-go_back.ensures.expanded)) c.requires.alive.has_rows));
    }

pub returns-clause-legal : goal.returns-clause-legal
returns-clause-legal g c setting bound sig old state2 =
    let s = c.args.self.now in
    let t = s.propagation.trail in
    let u = s.propagation.clauses in
    let r = c.args.learnt in
    let top = c.requires.learnt.0 in
    let some : r.clause ≢ [] = λ e. true≢false (sym (c.if-is_empty.ensures.1 e)) in
    let w = c.requires.alive.running.lawful in
    let h : HasTop t r.clause top r.level = has_top t u r.clause top r.level w c.requires.learnt.1.false_ones c.requires.learnt.1.empty c.requires.learnt.1.one c.requires.learnt.1.highest some c.requires.learnt.1.level in
    let js = c.args.journal.now.lines in
    let same : c.in_ok-noted.noted ≡ r.clause = c.in_ok-noted.ensures ∙ c.as_slice.ensures in
    let mid : c.note.new.journal ≡ record c.args.journal.now { lines = js ++ line.Learn r.clause ∷ [] } = c.in_ok-note.ensures.ok ∙ ap (λ (x : Clause). record c.args.journal.now { lines = js ++ line.Learn x ∷ [] }) same in
    let ks = c.requires.line.0 in
    let new = c.args.lines.now.items in
    let stated : IsStated setting.problem setting.goal new u s.places = old in
    let state = prefix_state setting t u s.expanded ks new js (Rup r.clause c.requires.line.1) c.requires.line.2 state2 in
    let notes = learn_notes setting bound t u s.expanded ks new js w c.requires.alive.running.decided state r.clause c.requires.line.1 top r.level some
    c.requires.learnt.1.false_ones c.requires.learnt.1.empty c.requires.learnt.1.one c.requires.learnt.1.highest h c.requires.line.2 stated.allowed
    c.note.new.journal.lines c.go_back.new.journal.lines (ap (λ (x : Noted). x.lines) mid) (inr (ap (λ (x : Noted). x.lines) c.in_ok-go_back.ensures.noted)) in
    let a = c.attach.new.self in
    let eu : a.propagation.clauses ≡ u ++ r.clause ∷ [] = c.in_ok-attach.ensures.clauses ∙ ap (λ (v : List Clause). v ++ r.clause ∷ []) c.in_ok-go_back.ensures.clauses in
    let front : IsFront t r.level a.propagation.trail = subst (IsFront t r.level) (sym c.in_ok-attach.ensures.trail) c.in_ok-go_back.ensures.trail in
    let small : a.expanded ≤ s.expanded = omega (arith, c.in_ok-attach.ensures.expanded, c.in_ok-go_back.ensures.expanded) in (
      notes,
      learn_leaves setting bound t u s.expanded ks new js w c.requires.alive.running.decided state r.clause c.requires.line.1 top r.level some
          c.requires.learnt.1.false_ones c.requires.learnt.1.empty c.requires.learnt.1.one c.requires.learnt.1.highest h c.requires.line.2 stated.allowed
          c.requires.alive.running.stands a.propagation.trail a.propagation.clauses a.expanded c.note.new.journal.lines c.go_back.new.journal.lines front small eu (ap (λ (x : Noted). x.lines) mid) (ap (λ (x : Noted). x.lines) c.in_ok-go_back.ensures.noted),
    )

pub returns-then-is_empty-clause-enlarges : goal.returns-then-is_empty-clause-enlarges
returns-then-is_empty-clause-enlarges g c = enlarges_same c.args.store.now c.args.self.now.propagation.clauses c.args.lines.now.items

pub returns-clause-enlarges : goal.returns-clause-enlarges
returns-clause-enlarges g c =
    let u = c.args.self.now.propagation.clauses in
    let r = c.args.learnt in
    let run = c.requires.alive.running in
    let store = c.args.store.now in
    let ks = c.args.lines.now.items in
    let eu : c.attach.new.self.propagation.clauses ≡ u ++ r.clause ∷ [] = c.in_ok-attach.ensures.clauses ∙ ap (λ (v : List Clause). v ++ r.clause ∷ []) c.in_ok-go_back.ensures.clauses in
    enlarges_to store u (u ++ r.clause ∷ []) c.attach.new.self.propagation.clauses ks ks ks
    (false_enlarges c.args.self.now.propagation.trail u run.lawful run.stands store r.clause c.requires.learnt.1.false_ones ks) eu refl

pub returns-then-is_empty-clause-base : goal.returns-then-is_empty-clause-base
returns-then-is_empty-clause-base g c z = idle_true c.args.journal.now

pub returns-in_err-noted-clause-base : goal.returns-in_err-noted-clause-base
returns-in_err-noted-clause-base g c z =
    let s = c.args.self.now in
    let r = c.args.learnt in
    let some : r.clause ≢ [] = λ e. true≢false (sym (c.if-is_empty.ensures.1 e)) in
    let l = c.requires.learnt.1 in
    absurd (omega (arith, z, (has_top s.propagation.trail s.propagation.clauses r.clause c.requires.learnt.0 r.level c.requires.alive.running.lawful l.false_ones l.empty l.one l.highest some l.level).below))

pub returns-in_err-note-clause-base : goal.returns-in_err-note-clause-base
returns-in_err-note-clause-base g c z =
    let s = c.args.self.now in
    let r = c.args.learnt in
    let some : r.clause ≢ [] = λ e. true≢false (sym (c.if-is_empty.ensures.1 e)) in
    let l = c.requires.learnt.1 in
    absurd (omega (arith, z, (has_top s.propagation.trail s.propagation.clauses r.clause c.requires.learnt.0 r.level c.requires.alive.running.lawful l.false_ones l.empty l.one l.highest some l.level).below))

pub returns-in_err-go_back-clause-base : goal.returns-in_err-go_back-clause-base
returns-in_err-go_back-clause-base g c z =
    let s = c.args.self.now in
    let r = c.args.learnt in
    let some : r.clause ≢ [] = λ e. true≢false (sym (c.if-is_empty.ensures.1 e)) in
    let l = c.requires.learnt.1 in
    absurd (omega (arith, z, (has_top s.propagation.trail s.propagation.clauses r.clause c.requires.learnt.0 r.level c.requires.alive.running.lawful l.false_ones l.empty l.one l.highest some l.level).below))

pub returns-in_err-attach-clause-base : goal.returns-in_err-attach-clause-base
returns-in_err-attach-clause-base g c z =
    let s = c.args.self.now in
    let r = c.args.learnt in
    let some : r.clause ≢ [] = λ e. true≢false (sym (c.if-is_empty.ensures.1 e)) in
    let l = c.requires.learnt.1 in
    absurd (omega (arith, z, (has_top s.propagation.trail s.propagation.clauses r.clause c.requires.learnt.0 r.level c.requires.alive.running.lawful l.false_ones l.empty l.one l.highest some l.level).below))

pub returns-clause-base : goal.returns-clause-base
returns-clause-base g c z =
    let s = c.args.self.now in
    let r = c.args.learnt in
    let some : r.clause ≢ [] = λ e. true≢false (sym (c.if-is_empty.ensures.1 e)) in
    let l = c.requires.learnt.1 in
    absurd (omega (arith, z, (has_top s.propagation.trail s.propagation.clauses r.clause c.requires.learnt.0 r.level c.requires.alive.running.lawful l.false_ones l.empty l.one l.highest some l.level).below))

pub returns-then-is_empty-clause-journal : goal.returns-then-is_empty-clause-journal
returns-then-is_empty-clause-journal g c = keeps_same c.args.journal.now

pub returns-in_err-noted-clause-journal : goal.returns-in_err-noted-clause-journal
returns-in_err-noted-clause-journal g c = keeps_same c.args.journal.now

pub returns-in_err-note-clause-journal : goal.returns-in_err-note-clause-journal
returns-in_err-note-clause-journal g c = subst (Keeps c.args.journal.now) (sym c.in_err-note.ensures.err) (keeps_same c.args.journal.now)
