use Rattle.ae_elaborate_tests.proofs.put_tokens.Goals as goal

pub put_file-requires : goal.put_file-requires
put_file-requires c = c.names_stand.ensures c.args.text.now c.args.tokens.now c.in-Ok.file c.requires c.in-Ok.ensures.tree
