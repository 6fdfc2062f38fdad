use Rattle.ae_combine_lines.proofs.Sums.{multiple_form}
use Rattle.ae_combine_lines.proofs.Legal.{legal}
use Rattle.ae_combine_lines.proofs.laws.combinations_are_legal.Goals as goal

pub returns-clause-legal : goal.returns-clause-legal
returns-clause-legal c = λ x js n s t p q r o normal same none. legal x js n s t p q r o normal same none

pub returns-clause-multiples : goal.returns-clause-multiples
returns-clause-multiples c = λ f h m. multiple_form f h m
