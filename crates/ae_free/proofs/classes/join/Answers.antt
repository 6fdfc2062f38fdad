use Rattle.std.proofs.Common.{None}
use Rattle.std.proofs.lemmas.Result.{on_ok_weaker}
use Rattle.ae_pmap.specs.Pairs.{found, with_at}
use Rattle.ae_pmap.specs.Forest.{present}
use Rattle.ae_free.proofs.ClassLaws.{lasts_then, root_at, joined}
use Rattle.ae_free.proofs.classes.join.Goals as goal

pub back-requires : goal.back-requires
back-requires g c =
    root_at c.args.members.now (found (present c.args.classes.now)) (with_at (found (present c.args.numbers.now)) c.args.name None) c.args.number c.args.none c.set_of.result
    c.requires.fits c.requires.none c.set_of.ensures

pub returns-in_err-insert-clause-sets_last : goal.returns-in_err-insert-clause-sets_last
returns-in_err-insert-clause-sets_last g c = lasts_then c.args.members.now c.back.new.self c.insert.new.self c.back.ensures.lasts c.insert.ensures.lasts

pub returns-clause-fits : goal.returns-clause-fits
returns-clause-fits g c = on_ok_weaker c.insert-2.result
    (λ at. joined c.args.members.now c.back.new.self c.insert.new.self (found (present c.args.classes.now)) (found (present c.insert-2.new.self)) (found (present c.args.numbers.now))
    c.args.name c.args.number c.args.none c.set_of.result c.class_of-class.result c.requires.fits c.requires.none c.set_of.ensures c.back.ensures.lasts c.back.ensures.map
    c.insert.ensures.lasts c.in_ok-insert.ensures.at c.class_of-class.ensures at)
    c.insert-2.ensures.at

pub returns-clause-sets_last : goal.returns-clause-sets_last
returns-clause-sets_last g c = lasts_then c.args.members.now c.back.new.self c.insert.new.self c.back.ensures.lasts c.insert.ensures.lasts
