use Rattle.std.proofs.Common.{◌∙◌}
use Rattle.ae_pmap.specs.Pairs.{found}
use Rattle.ae_pmap.specs.Forest.{present}
use Rattle.ae_pmap.proofs.Values.{fits_lasts}
use Rattle.ae_free.proofs.ClassLaws.{lasts_then, classes_last, classes_undone}
use Rattle.ae_free.proofs.classes.put.Goals as goal

pub back-requires : goal.back-requires
back-requires g c = fits_lasts c.args.members.now c.move_to.new.members c.share-none.result c.move_to.ensures.sets_last c.share-none.ensures.version.fits

pub returns-in-Ok-clause-fits : goal.returns-in-Ok-clause-fits
returns-in-Ok-clause-fits g c =
    classes_last c.move_to.new.members c.back.new.self (found (present c.move_to.new.classes)) (found (present c.move_to.new.numbers)) c.back.ensures.lasts c.in-Ok.ensures.fits

pub returns-in-Ok-clause-sets_last : goal.returns-in-Ok-clause-sets_last
returns-in-Ok-clause-sets_last g c = lasts_then c.args.members.now c.move_to.new.members c.back.new.self c.move_to.ensures.sets_last c.back.ensures.lasts

pub back-requires-in-Err : goal.back-requires-in-Err
back-requires-in-Err g c = fits_lasts c.args.members.now c.move_to.new.members c.share-none.result c.move_to.ensures.sets_last c.share-none.ensures.version.fits

pub back-requires-in-Err-2 : goal.back-requires-in-Err-2
back-requires-in-Err-2 g c = fits_lasts c.args.classes.now c.move_to.new.classes c.share-before.result c.move_to.ensures.classes_last c.share-before.ensures.version.fits

pub returns-clause-fits : goal.returns-clause-fits
returns-clause-fits g c =
    classes_undone c.args.members.now c.back-in-Err.new.self (present c.args.classes.now) (present c.back-in-Err-2.new.self) (present c.args.numbers.now) (present c.move_to.new.numbers)
    (lasts_then c.args.members.now c.move_to.new.members c.back-in-Err.new.self c.move_to.ensures.sets_last c.back-in-Err.ensures.lasts)
    (c.back-in-Err-2.ensures.map ∙ (c.move_to.ensures.classes_last c.share-before.result (present c.args.classes.now) c.share-before.ensures.version).is) c.in-Err.ensures.err c.requires.fits

pub returns-clause-sets_last : goal.returns-clause-sets_last
returns-clause-sets_last g c = lasts_then c.args.members.now c.move_to.new.members c.back-in-Err.new.self c.move_to.ensures.sets_last c.back-in-Err.ensures.lasts

pub returns-clause-classes_last : goal.returns-clause-classes_last
returns-clause-classes_last g c = lasts_then c.args.classes.now c.move_to.new.classes c.back-in-Err-2.new.self c.move_to.ensures.classes_last c.back-in-Err-2.ensures.lasts
