use Rattle.ae_driver.proofs.Counting.{is_one}
use Rattle.ae_driver.proofs.demo.count_goal.Goals as goal

pub part_of-requires : goal.part_of-requires
part_of-requires c = is_one c.args.problem.now c.args.place c.args.name.now c.args.text.now c.requires.named c.requires.printed
