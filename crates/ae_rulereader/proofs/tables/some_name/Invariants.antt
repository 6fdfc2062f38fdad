use Rattle.std.proofs.Common.{◌≡◌, drop}
use Rattle.ae_termreader.specs.Sorts.{has_name}
use Rattle.ae_rulereader.proofs.tables.some_name.Given as goal

abbrev pub invariant-loop-word : goal.invariant-loop-word
invariant-loop-word l = has_name l.words ≡ has_name (drop l.word-index l.words)
