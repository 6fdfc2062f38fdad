use Rattle.std.proofs.Common.{◌≡◌, take, map}
use Rattle.ae_core.specs.Putting.{put_terms}
use Rattle.ae_core.proofs.putting.+put_term.Given as goal

abbrev pub invariant-put_terms-loop-term : goal.invariant-put_terms-loop-term
invariant-put_terms-loop-term l = l.copies ≡ map (put_terms l.inner l.terms) (take l.term-index l.into)
