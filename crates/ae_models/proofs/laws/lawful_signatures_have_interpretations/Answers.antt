use Rattle.ae_models.proofs.Entries.{lawful_entries}
use Rattle.ae_models.proofs.Trees.Model.{trees, trees_interpret}
use Rattle.ae_models.proofs.laws.lawful_signatures_have_interpretations.Goals as goal

pub returns : goal.returns
returns c = record { have = λ sig lawful. (trees sig (lawful_entries lawful), trees_interpret sig (lawful_entries lawful)) }
