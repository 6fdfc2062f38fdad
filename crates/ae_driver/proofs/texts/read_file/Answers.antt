use Rattle.ae_driver.proofs.OneProblem.{names_stand}
use Rattle.ae_driver.proofs.texts.read_file.Goals as goal

pub elaborate-requires : goal.elaborate-requires
elaborate-requires c = record { names = names_stand c.args.text.now c.args.file c.requires }
