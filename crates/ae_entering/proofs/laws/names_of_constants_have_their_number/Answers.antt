use Rattle.ae_entering.proofs.Constants.{is_constant}
use Rattle.ae_entering.proofs.laws.names_of_constants_have_their_number.Goals as goal

pub returns : goal.returns
returns c = λ sig nodes n number leaf store first k l w e. is_constant sig nodes store n number leaf first k l w e
