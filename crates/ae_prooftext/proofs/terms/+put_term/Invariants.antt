use Rattle.std.proofs.Common.{◌≡◌, ◌++◌, drop}
use Rattle.ae_prooftext.specs.Inner.Pieces.{spaced_terms}
use Rattle.ae_prooftext.proofs.terms.+put_term.Given as goal

abbrev pub invariant-put_spaced_terms-loop-term : goal.invariant-put_spaced_terms-loop-term
invariant-put_spaced_terms-loop-term l = l.out.items ++ spaced_terms l.signature (drop l.term-index l.terms) ≡ l.fn.out.items ++ spaced_terms l.signature l.terms
