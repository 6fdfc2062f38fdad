use Rattle.ae_syntax.proofs.Files.{file_once, depths_once, depths_begin}
use Rattle.ae_syntax.proofs.laws.one_tree.Goals as goal

pub returns : goal.returns
returns c = record { tree = file_once; depth = depths_once; prefix = depths_begin }
