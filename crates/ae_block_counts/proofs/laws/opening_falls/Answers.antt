use Rattle.ae_block_counts.proofs.Blocks.{block_in, part_blocks}
use Rattle.ae_block_counts.proofs.Opening.{opening_less, no_more}
use Rattle.ae_block_counts.proofs.laws.opening_falls.Goals as goal

pub returns-clause-opening : goal.returns-clause-opening
returns-clause-opening c = opening_less

pub returns-clause-same : goal.returns-clause-same
returns-clause-same c = no_more

pub returns-clause-blocks : goal.returns-clause-blocks
returns-clause-blocks c = block_in

pub returns-clause-parts : goal.returns-clause-parts
returns-clause-parts c = λ f h b i k. part_blocks h b f i k
