use Rattle.ae_choices.proofs.WholeForms.{whole_memory}
use Rattle.ae_stategrammar.specs.Journals.{story}
use Rattle.ae_storyreader.proofs.stories.read_story.Goals as goal

pub returns-in-Err : goal.returns-in-Err
returns-in-Err c = whole_memory (story c.args.signature.now) c.args.text.now
