use Rattle.std.proofs.lemmas.Option.{IfSome_then}
use Rattle.ae_matches_tests.proofs.reading.problem_of_tokens.Goals as goal

pub problem_of_file-requires : goal.problem_of_file-requires
problem_of_file-requires c = c.names_stand.ensures c.args.text.now c.args.tokens.now c.in-Ok.file c.requires c.in-Ok.ensures.tree

pub returns-in-Ok : goal.returns-in-Ok
returns-in-Ok c = IfSome_then c.problem_of_file.result c.problem_of_file.ensures
    (λ p h. c.signatures_are_lawful.ensures c.args.text.now c.args.tokens.now c.in-Ok.file p c.requires c.in-Ok.ensures.tree h)
