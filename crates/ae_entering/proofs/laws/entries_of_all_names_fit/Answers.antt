use Rattle.ae_store.specs.Shapes.{shapes}
use Rattle.ae_store.specs.Terms.{terms}
use Rattle.ae_entering.proofs.PatternFacts.{patterns_fit}
use Rattle.ae_entering.proofs.laws.entries_of_all_names_fit.Goals as goal

pub returns : goal.returns
returns c = λ sig nodes es store entries all. patterns_fit sig (terms (shapes nodes)) store.sound.one_name es entries all
