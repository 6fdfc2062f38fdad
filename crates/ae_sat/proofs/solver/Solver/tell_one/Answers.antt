use Rattle.std.proofs.Common.{◌≡◌, ◌∙◌, ◌+◌, ◌++◌, ◌∷◌, [], sym, ap, subst, true, false, append-nil, take}
use Rattle.ae_core.specs.declared.formulas.Lit.{Lit}
use Rattle.ae_explain.specs.Trail.{at}
use Rattle.ae_theory.specs.Names.{is_atom, AreNamed}
use Rattle.ae_sat.specs.Marked.{atoms}
use Rattle.ae_sat.proofs.Telling.{atoms_more, told_runs}
use Rattle.ae_sat.proofs.solver.Solver.tell_one.Goals as goal

pub assume-requires-clause-named : goal.assume-requires-clause-named
assume-requires-clause-named g c = subst (λ (l : Lit). AreNamed c.args.store.now l.formula) (sym c.lit_at-lit.ensures) c.requires.named

pub returns-clause-running : goal.returns-clause-running
returns-clause-running g c standing r =
    let s = c.args.self.now in
    let t = s.propagation.trail in
    let n = s.handed in
    let e : is_atom (at t n).lit.formula ≡ true = ap (λ (l : Lit). is_atom l.formula) (sym c.lit_at-lit.ensures) ∙ (sym c.is_an_atom.ensures ∙ c.if-not-is_an_atom.false) in
    let all : g.T.Theory.assumed c.assume.new.self ≡ atoms (take (n + 1) t) =
    c.in_ok-assume.ensures.ok ∙ ((λ i. r.told_all i ++ record { lit = c.lit_at-lit.ensures i; tag = n } ∷ []) ∙ sym (atoms_more t n true c.requires.left e)) in
    told_runs g.T.Theory.assumed g.T.Theory.fits_mark g.T.Theory.in_step s.theory c.assume.new.self s.marks.items t s.propagation.clauses n (n + 1) standing r all c.in_ok-assume.ensures.marks c.in_ok-assume.ensures.step

pub returns-then-not-is_an_atom-clause-running : goal.returns-then-not-is_an_atom-clause-running
returns-then-not-is_an_atom-clause-running g c standing r =
    let s = c.args.self.now in
    let t = s.propagation.trail in
    let n = s.handed in
    let e : is_atom (at t n).lit.formula ≡ false = ap (λ (l : Lit). is_atom l.formula) (sym c.lit_at-lit.ensures) ∙ (sym c.is_an_atom.ensures ∙ c.if-not-is_an_atom.true) in
    told_runs g.T.Theory.assumed g.T.Theory.fits_mark g.T.Theory.in_step s.theory s.theory s.marks.items t s.propagation.clauses n (n + 1) standing r
    (r.told_all ∙ sym (atoms_more t n false c.requires.left e ∙ append-nil (atoms (take n t)))) (λ m then f. f) (λ js h. h)

pub returns-in_err-assume-clause-running : goal.returns-in_err-assume-clause-running
returns-in_err-assume-clause-running g c standing r =
    let s = c.args.self.now in
    told_runs g.T.Theory.assumed g.T.Theory.fits_mark g.T.Theory.in_step s.theory c.assume.new.self s.marks.items s.propagation.trail s.propagation.clauses s.handed s.handed standing r
    (c.in_err-assume.ensures.err ∙ r.told_all) c.in_err-assume.ensures.marks c.in_err-assume.ensures.step

pub returns-clause-budget : goal.returns-clause-budget
returns-clause-budget g c n h = c.in_ok-assume.ensures.budget n h

pub returns-then-not-is_an_atom-clause-budget : goal.returns-then-not-is_an_atom-clause-budget
returns-then-not-is_an_atom-clause-budget g c n h = h

pub returns-in_err-assume-clause-budget : goal.returns-in_err-assume-clause-budget
returns-in_err-assume-clause-budget g c n h = c.in_err-assume.ensures.budget n h
