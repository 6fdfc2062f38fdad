-- Read Problems, after the definitions of ae_gen (the demo's text), ae_lex, ae_syntax and ae_elab (what the tokens, the tree and the problem of a text are).
pub mod Problems
