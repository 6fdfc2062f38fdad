use Rattle.std.proofs.Common.{◌≡◌, ◌∙◌, ℕ, ◌++◌, ◌∷◌, [], List, length, sym, ap, subst}
use Rattle.ae_rules.specs.Clauses.{Clause}
use Rattle.ae_core.specs.declared.formulas.Formula.{Formula}
use Rattle.ae_core.specs.declared.formulas.Lit.{Lit}
use Rattle.ae_core.specs.declared.proofs.ClauseLine.{ClauseLine}
use Rattle.ae_core.specs.declared.proofs.ClauseLine.TheVariants.{Def}
use Rattle.ae_explain.specs.declared.trail.Assigned.{Assigned}
use Rattle.ae_explain.specs.Trail.{at}
use Rattle.ae_sat.specs.Search.{AllNamed, IsStated, IsLawfulState}
use Rattle.ae_sat.proofs.Attaching.{attach_runs}
use Rattle.ae_sat.proofs.Rowing.{row_named, row_stated, row_state}
use Rattle.ae_rules.specs.Derivations.{AreAllowed}
use Rattle.ae_sat.proofs.solver.Solver.attach_row.Goals as goal

pub returns-clause-named : goal.returns-clause-named
returns-clause-named g c store h =
    let s = c.args.self.now in
    subst (AllNamed store) (sym c.in_ok-attach.ensures.clauses) (row_named s.propagation.trail s.propagation.clauses c.requires.lawful c.requires.stands c.args.place c.args.number c.args.clause c.requires.within c.requires.row store h)

pub returns-clause-running : goal.returns-clause-running
returns-clause-running g c standing r =
    let s = c.args.self.now in
    let a = c.attach.new.self in
    attach_runs g.T.Theory.assumed g.T.Theory.fits_mark g.T.Theory.in_step s.theory a.theory s.marks.items a.marks.items s.propagation.trail a.propagation.trail s.propagation.clauses a.propagation.clauses s.handed a.handed standing c.args.clause
    r c.in_ok-attach.ensures.theory c.in_ok-attach.ensures.marks c.in_ok-attach.ensures.trail c.in_ok-attach.ensures.clauses c.in_ok-attach.ensures.handed

pub returns-clause-stated : goal.returns-clause-stated
returns-clause-stated g c p n st =
    let s = c.args.self.now in
    let ks = c.args.lines.now.items in
    let f : Formula = (at s.propagation.trail c.args.place).lit.formula in
    let ef : c.in_ok-formula.formula ≡ f = c.in_ok-formula.ensures ∙ ap (λ (l : Lit). l.formula) c.lit_at.ensures in
    let ek : c.push_line.new.lines.items ≡ ks ++ Def c.args.number f ∷ [] = c.in_ok-push_line.ensures.ok ∙ ap (λ (x : Formula). ks ++ Def c.args.number x ∷ []) ef in
    let ep : c.attach.new.self.places ≡ s.places ++ length ks ∷ [] = c.in_ok-attach.ensures.places ∙ ap (λ (k : ℕ). s.places ++ k ∷ []) (c.len-line.ensures ∙ c.args.lines.now.ok.0) in
    subst (λ (w : List ClauseLine). IsStated p n w c.attach.new.self.propagation.clauses c.attach.new.self.places) (sym ek)
    (subst (λ (w : List Clause). IsStated p n (ks ++ Def c.args.number f ∷ []) w c.attach.new.self.places) (sym c.in_ok-attach.ensures.clauses)
    (subst (λ (w : List ℕ). IsStated p n (ks ++ Def c.args.number f ∷ []) (s.propagation.clauses ++ c.args.clause ∷ []) w) (sym ep)
    (row_stated s.propagation.trail s.propagation.clauses c.requires.lawful c.requires.stands c.args.place c.args.number c.args.clause c.requires.within c.requires.row p n ks s.places st)))

pub returns-clause-state : goal.returns-clause-state
returns-clause-state g c setting js st w =
    let s = c.args.self.now in
    let a = c.attach.new.self in
    let ks = c.args.lines.now.items in
    let f : Formula = (at s.propagation.trail c.args.place).lit.formula in
    let ef : c.in_ok-formula.formula ≡ f = c.in_ok-formula.ensures ∙ ap (λ (l : Lit). l.formula) c.lit_at.ensures in
    let ek : c.push_line.new.lines.items ≡ ks ++ Def c.args.number f ∷ [] = c.in_ok-push_line.ensures.ok ∙ ap (λ (x : Formula). ks ++ Def c.args.number x ∷ []) ef in
    subst (λ (x : List ClauseLine). IsLawfulState setting a.propagation.trail a.propagation.clauses a.expanded x js) (sym ek)
    (subst (λ (x : List Assigned). IsLawfulState setting x a.propagation.clauses a.expanded (ks ++ Def c.args.number f ∷ []) js) (sym c.in_ok-attach.ensures.trail)
    (subst (λ (x : List Clause). IsLawfulState setting s.propagation.trail x a.expanded (ks ++ Def c.args.number f ∷ []) js) (sym c.in_ok-attach.ensures.clauses)
    (subst (λ (x : ℕ). IsLawfulState setting s.propagation.trail (s.propagation.clauses ++ c.args.clause ∷ []) x (ks ++ Def c.args.number f ∷ []) js) (sym c.in_ok-attach.ensures.expanded)
    (row_state s.propagation.trail s.propagation.clauses c.requires.lawful c.requires.stands c.args.place c.args.number c.args.clause c.requires.within c.requires.row setting s.expanded ks s.places js st w))))

pub returns-in_err-attach-clause-allowed : goal.returns-in_err-attach-clause-allowed
returns-in_err-attach-clause-allowed g c p n st =
    let s = c.args.self.now in
    let ks = c.args.lines.now.items in
    let f : Formula = (at s.propagation.trail c.args.place).lit.formula in
    let ef : c.in_ok-formula.formula ≡ f = c.in_ok-formula.ensures ∙ ap (λ (l : Lit). l.formula) c.lit_at.ensures in
    let ek : c.push_line.new.lines.items ≡ ks ++ Def c.args.number f ∷ [] = c.in_ok-push_line.ensures.ok ∙ ap (λ (x : Formula). ks ++ Def c.args.number x ∷ []) ef in
    subst (AreAllowed p n []) (sym ek)
    (row_stated s.propagation.trail s.propagation.clauses c.requires.lawful c.requires.stands c.args.place c.args.number c.args.clause c.requires.within c.requires.row p n ks s.places st).allowed

pub returns-clause-allowed : goal.returns-clause-allowed
returns-clause-allowed g c p n st =
    let s = c.args.self.now in
    let ks = c.args.lines.now.items in
    let f : Formula = (at s.propagation.trail c.args.place).lit.formula in
    let ef : c.in_ok-formula.formula ≡ f = c.in_ok-formula.ensures ∙ ap (λ (l : Lit). l.formula) c.lit_at.ensures in
    let ek : c.push_line.new.lines.items ≡ ks ++ Def c.args.number f ∷ [] = c.in_ok-push_line.ensures.ok ∙ ap (λ (x : Formula). ks ++ Def c.args.number x ∷ []) ef in
    subst (AreAllowed p n []) (sym ek)
    (row_stated s.propagation.trail s.propagation.clauses c.requires.lawful c.requires.stands c.args.place c.args.number c.args.clause c.requires.within c.requires.row p n ks s.places st).allowed

pub returns-clause-line : goal.returns-clause-line
returns-clause-line g c =
    let f : Formula = (at c.args.self.now.propagation.trail c.args.place).lit.formula in
    let ef : c.in_ok-formula.formula ≡ f = c.in_ok-formula.ensures ∙ ap (λ (l : Lit). l.formula) c.lit_at.ensures in
    c.in_ok-push_line.ensures.ok ∙ ap (λ (x : Formula). c.args.lines.now.items ++ Def c.args.number x ∷ []) ef
