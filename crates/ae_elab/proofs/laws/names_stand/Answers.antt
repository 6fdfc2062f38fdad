use Rattle.ae_elab.proofs.FileNames.{file_named}
use Rattle.ae_elab.proofs.laws.names_stand.Goals as goal

pub returns : goal.returns
returns c = file_named
