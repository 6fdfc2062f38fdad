use Rattle.std.proofs.Common.{sym}
use Rattle.std.proofs.lemmas.Result.{on_ok_weaker}
use Rattle.ae_pmap.specs.Pairs.{found}
use Rattle.ae_pmap.specs.Forest.{present}
use Rattle.ae_free.proofs.ClassLaws.{lasts_then, root_at, left, stays}
use Rattle.ae_free.proofs.classes.leave.Goals as goal

pub returns-in-None-clause-fits : goal.returns-in-None-clause-fits
returns-in-None-clause-fits g c = stays c.args.members.now (found (present c.args.classes.now)) (found (present c.args.numbers.now)) c.args.name c.requires.fits (sym c.in-None.ensures.value)

pub back-requires : goal.back-requires
back-requires g c =
    root_at c.args.members.now (found (present c.args.classes.now)) (found (present c.args.numbers.now)) c.in-Some.number.now c.args.none c.set_of.result
    c.requires.fits c.requires.none c.set_of.ensures

pub returns-in_err-remove-clause-sets_last : goal.returns-in_err-remove-clause-sets_last
returns-in_err-remove-clause-sets_last g c = lasts_then c.args.members.now c.back.new.self c.remove.new.self c.back.ensures.lasts c.remove.ensures.lasts

pub returns-clause-fits : goal.returns-clause-fits
returns-clause-fits g c = on_ok_weaker c.insert.result
    (λ at. left c.args.members.now c.back.new.self c.remove.new.self (found (present c.args.classes.now)) (found (present c.insert.new.self)) (found (present c.args.numbers.now))
    c.args.name c.in-Some.number.now c.args.none c.set_of.result c.class_of-class.result c.requires.fits c.requires.none (sym c.in-Some.ensures.value) c.set_of.ensures c.back.ensures.lasts
    c.back.ensures.map c.remove.ensures.lasts c.in_ok-remove.ensures.at c.class_of-class.ensures at)
    c.insert.ensures.at

pub returns-clause-sets_last : goal.returns-clause-sets_last
returns-clause-sets_last g c = lasts_then c.args.members.now c.back.new.self c.remove.new.self c.back.ensures.lasts c.remove.ensures.lasts
