use Rattle.ae_journal.specs.Journals.{live}
use Rattle.ae_sat.proofs.Propagating.{none_alive, none_running}
use Rattle.ae_sat.proofs.solver.Solver.new.Goals as goal

pub returns-clause-running : goal.returns-clause-running
returns-clause-running g c js step none =
    none_running g.T.Equalities.fits g.T.Theory.assumed g.T.Theory.fits_mark g.T.Theory.in_step c.args.theory c.new-marks.result.items c.new-propagation.result.trail c.new-propagation.result.clauses (live js) c.new-marks.ensures.items
    c.new-propagation.ensures.trail c.requires.nothing step none

pub returns-clause-alive : goal.returns-clause-alive
returns-clause-alive g c store js f step none =
    none_alive g.T.Equalities.fits g.T.Theory.assumed g.T.Theory.fits_mark g.T.Theory.in_step store c.args.theory c.new-marks.result.items c.new-propagation.result.trail c.new-propagation.result.clauses js c.new-marks.ensures.items
    c.new-propagation.ensures.trail c.new-propagation.ensures.clauses c.requires.nothing f step none
