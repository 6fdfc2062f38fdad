use Rattle.std.proofs.Common.{◌≡◌, ◌∙◌, ◌++◌, ◌∷◌, [], sym, ap, subst, Some}
use Rattle.ae_rules.specs.Clauses.{Clause, row}
use Rattle.ae_core.specs.declared.formulas.Lit.{Lit}
use Rattle.ae_explain.specs.Trail.{at}
use Rattle.ae_journal.specs.Journals.{live}
use Rattle.ae_sat.specs.Standing.{IsOneOf}
use Rattle.ae_sat.proofs.Learnt.{new_one}
use Rattle.ae_core.specs.declared.proofs.ClauseLine.TheVariants.{Def}
use Rattle.ae_sat.proofs.Enlarging.{row_enlarges, brings_row, enlarges_to, brings_to}
use Rattle.ae_sat.proofs.Propagating.{attach_alive, continues_same}
use Rattle.ae_sat.proofs.solver.Solver.attach_number.Goals as goal

pub returns-in_ok-attach_row-clause-continues : goal.returns-in_ok-attach_row-clause-continues
returns-in_ok-attach_row-clause-continues g c =
    let s = c.args.self.now in
    let a = c.attach_row.new.self in
    let e = c.in_ok-attach_row.ensures in
    let t = s.propagation.trail in
    let u = s.propagation.clauses in
    let cl = c.in-Some.clause in
    let ks = c.args.lines.now.items in
    let r = c.requires.alive.2.running in
    let f = (at t c.args.place).lit.formula in
    let q : row c.args.number f ≡ Some cl = sym (ap (λ (l : Lit). row c.args.number l.formula) c.lit_at.ensures) ∙ (sym c.in_ok-found.ensures ∙ c.in-Some.is) in
    record {
      alive = λ store js h. attach_alive g.T.Equalities.fits g.T.Theory.assumed g.T.Theory.fits_mark g.T.Theory.in_step store s.theory a.theory s.marks.items a.marks.items s.propagation.trail a.propagation.trail s.propagation.clauses a.propagation.clauses s.handed a.handed
          s.expanded a.expanded js c.in-Some.clause
          h (e.running (live js) h.running) (e.named store h.named) e.theory e.trail e.clauses e.handed e.expanded;
      stated = e.stated;
      state = e.state;
      same_theory = e.theory;
      enlarges = λ store. enlarges_to store u (u ++ cl ∷ []) a.propagation.clauses ks (ks ++ Def c.args.number f ∷ []) c.attach_row.new.lines.items
          (row_enlarges t u r.lawful r.stands store c.args.place c.args.number cl c.requires.within q ks) e.clauses e.line;
      brings = brings_to t t a.propagation.trail u (u ++ cl ∷ []) a.propagation.clauses (brings_row t u c.args.place c.args.number cl c.requires.within c.requires.called q) e.trail e.clauses;
    }

pub returns-in_ok-attach_row-clause-has : goal.returns-in_ok-attach_row-clause-has
returns-in_ok-attach_row-clause-has g c d e =
    let s = c.args.self.now in
    let q : Some c.in-Some.clause ≡ Some d = sym c.in-Some.is ∙ (c.in_ok-found.ensures ∙ (ap (λ (l : Lit). row c.args.number l.formula) c.lit_at.ensures ∙ e)) in
    subst (λ (w : _). IsOneOf w d) (sym c.in_ok-attach_row.ensures.clauses) (subst (λ (w : Clause). IsOneOf (s.propagation.clauses ++ c.in-Some.clause ∷ []) w) (let r : c.in-Some.clause ≡ d = cc in r) (new_one s.propagation.clauses c.in-Some.clause))

pub returns-in_default-clause-continues : goal.returns-in_default-clause-continues
returns-in_default-clause-continues g c =
    let s = c.args.self.now in
    continues_same g.T.Equalities.fits g.T.Theory.assumed g.T.Theory.fits_mark g.T.Theory.in_step s.theory s.marks.items s.propagation.trail s.propagation.clauses s.places s.handed s.expanded c.args.lines.now.items
