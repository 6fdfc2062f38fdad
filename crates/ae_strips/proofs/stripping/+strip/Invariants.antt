use Rattle.ae_strips.proofs.stripping.+strip.Given as goal

abbrev pub decreases-strip : goal.decreases-strip
decreases-strip l = l.name
