use Rattle.std.proofs.Common.{◌≡◌, drop}
use Rattle.ae_syntax.specs.Parts.{last_term_or}
use Rattle.ae_syntax.proofs.nodes.last_place.Given as goal

abbrev pub invariant-loop-term : goal.invariant-loop-term
invariant-loop-term l = last_term_or l.last (drop l.term-index l.terms) ≡ last_term_or l.fn.place l.terms
