use Rattle.ae_next_clauses.proofs.Naming.{terms_grow, terms_named}
use Rattle.ae_next_clauses.proofs.laws.named_terms_grow.Goals as goal

pub returns-clause-grows : goal.returns-clause-grows
returns-clause-grows c p g old new opened opened2 js d same h within formulas = terms_grow p g old new opened opened2 js d same h within formulas

pub returns-clause-named : goal.returns-clause-named
returns-clause-named c old new d h m i = terms_named old new d h m i
