use Rattle.ae_just.proofs.SearchLaws.{found_place, missing_place}
use Rattle.ae_just.proofs.needed.place.Goals as goal

pub returns-in-Ok : goal.returns-in-Ok
returns-in-Ok c = found_place c.args.needed.now c.in-Ok.place c.args.step c.requires c.in-Ok.ensures.bound c.in-Ok.ensures.ok

pub returns-in-Err : goal.returns-in-Err
returns-in-Err c = missing_place c.args.needed.now c.in-Err.field-0 c.args.step c.requires c.in-Err.ensures.position
