use Rattle.ae_sat.proofs.Surely.{surely_holds, open_may_be_decided}
use Rattle.ae_sat.proofs.Layering.{learnt_is_new}
use Rattle.ae_sat.proofs.Legality.{decision_keeps}
use Rattle.ae_sat.proofs.Learning.{trail_may_stand, learn_is_legal, back_is_legal}
use Rattle.ae_sat.proofs.laws.notes_are_legal.Goals as goal
use Rattle.ae_journal.specs.Standing.{IsGiven}

pub returns-clause-surely : goal.returns-clause-surely
returns-clause-surely c setting js t clauses settled = surely_holds setting js t clauses settled

pub returns-clause-decide : goal.returns-clause-decide
returns-clause-decide c setting js t clauses settled = open_may_be_decided setting js t clauses settled

pub returns-clause-learn : goal.returns-clause-learn
returns-clause-learn c setting js t clauses lawful = learnt_is_new t lawful.apart (IsGiven setting js)

pub returns-clause-may : goal.returns-clause-may
returns-clause-may c setting js t clauses lawful stood possible = trail_may_stand setting t clauses js lawful stood possible

pub returns-clause-learning : goal.returns-clause-learning
returns-clause-learning c setting js t clauses n ks = learn_is_legal setting t clauses n ks js

pub returns-clause-back : goal.returns-clause-back
returns-clause-back c setting js t clauses d n = back_is_legal t clauses js d n

pub returns-clause-deciding : goal.returns-clause-deciding
returns-clause-deciding c setting js t clauses n ks a l = decision_keeps setting t clauses n ks js a l
