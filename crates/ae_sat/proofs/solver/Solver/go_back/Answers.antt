use Rattle.std.proofs.Common.{List, sym, ap, subst}
use Rattle.ae_rules.specs.Clauses.{Clause}
use Rattle.ae_explain.proofs.Places.{rises}
use Rattle.ae_journal.specs.Noted.{Noted}
use Rattle.ae_journal.specs.Journals.{live}
use Rattle.ae_sat.specs.Marked.{IsRunning}
use Rattle.ae_sat.proofs.Running.{back_running, mark_there}
use Rattle.ae_sat.proofs.solver.Solver.go_back.Goals as goal

pub go_to_mark-requires : goal.go_to_mark-requires
go_to_mark-requires g c =
    let s = c.args.self.now in
    record {
      mark = mark_there g.T.Theory.assumed g.T.Theory.fits_mark g.T.Theory.in_step s.theory s.marks.items c.index.result.now s.propagation.trail s.propagation.clauses s.handed (live c.args.journal.now.lines) c.args.level
          c.requires.running c.requires.within c.index.ensures;
    }

pub back_to-requires : goal.back_to-requires
back_to-requires g c = record { rising = λ i j h l. rises c.args.self.now.propagation.trail c.args.self.now.propagation.clauses c.requires.running.lawful i j h l }

pub returns-clause-running : goal.returns-clause-running
returns-clause-running g c =
    let s = c.args.self.now in
    subst (λ (w : List Clause). IsRunning g.T.Theory.assumed g.T.Theory.fits_mark g.T.Theory.in_step c.go_to_mark.new.theory c.truncate.new.self.items c.back_to.new.self.trail w c.len-self.result (live c.note.new.journal.lines)) (sym c.back_to.ensures.clauses)
    (back_running g.T.Theory.assumed g.T.Theory.fits_mark g.T.Theory.in_step s.theory c.go_to_mark.new.theory s.marks.items c.truncate.new.self.items c.index.result.now s.propagation.trail s.propagation.clauses s.handed c.len-self.result
    c.args.journal.now.lines c.note.new.journal.lines c.args.level c.back_to.new.self.trail c.requires.running c.requires.within c.index.ensures c.go_to_mark.ensures.marks c.go_to_mark.ensures.assumed c.go_to_mark.ensures.step
    c.back_to.ensures.front c.truncate.ensures.items c.len-self.ensures (ap (λ (n : Noted). n.lines) c.in_ok-note.ensures.ok))
