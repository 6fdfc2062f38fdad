use Rattle.std.proofs.Common.{◌≡◌, drop}
use Rattle.ae_readers.specs.Readers.{most_of}
use Rattle.ae_readers.specs.Names.{may_stand}
use Rattle.ae_readers.proofs.names.farthest.Given as goal

abbrev pub invariant-loop-word : goal.invariant-loop-word
invariant-loop-word l = most_of 0 (may_stand l.form l.closing) l.words (drop l.at l.text) ≡ most_of l.far (may_stand l.form l.closing) (drop l.word-index l.words) (drop l.at l.text)
