use Rattle.std.proofs.Common.{refl, Some, []}
use Rattle.std.proofs.lemmas.Result.{on_ok_weaker}
use Rattle.ae_pmap.specs.Pairs.{found, with_at}
use Rattle.ae_pmap.specs.Forest.{present}
use Rattle.ae_free.proofs.ClassLaws.{lasts_then, classes_by}
use Rattle.ae_free.proofs.classes.move_to.Goals as goal

pub join-requires-clause-none : goal.join-requires-clause-none
join-requires-clause-none g c = c.leave.ensures.sets_last c.args.none [] c.requires.none

pub returns-in_err-join-clause-sets_last : goal.returns-in_err-join-clause-sets_last
returns-in_err-join-clause-sets_last g c = lasts_then c.args.members.now c.leave.new.members c.join.new.members c.leave.ensures.sets_last c.join.ensures.sets_last

pub returns-in_err-join-clause-classes_last : goal.returns-in_err-join-clause-classes_last
returns-in_err-join-clause-classes_last g c = lasts_then c.args.classes.now c.leave.new.classes c.join.new.classes c.leave.ensures.classes_last c.join.ensures.classes_last

pub returns-clause-fits : goal.returns-clause-fits
returns-clause-fits g c = on_ok_weaker c.insert.result
    (λ at. classes_by c.join.new.members (found (present c.join.new.classes)) (found (present c.join.new.classes)) (with_at (found (present c.args.numbers.now)) c.args.name (Some c.args.number))
    (found (present c.insert.new.self)) (λ k. refl) at c.in_ok-join.ensures.fits)
    c.insert.ensures.at

pub returns-clause-sets_last : goal.returns-clause-sets_last
returns-clause-sets_last g c = lasts_then c.args.members.now c.leave.new.members c.join.new.members c.leave.ensures.sets_last c.join.ensures.sets_last

pub returns-clause-classes_last : goal.returns-clause-classes_last
returns-clause-classes_last g c = lasts_then c.args.classes.now c.leave.new.classes c.join.new.classes c.leave.ensures.classes_last c.join.ensures.classes_last
