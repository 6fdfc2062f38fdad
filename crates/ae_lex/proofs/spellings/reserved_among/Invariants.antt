use Rattle.std.proofs.Common.{ℕ, ◌<◌, ◌≢◌, slice_index_or}
use Rattle.ae_lex.specs.declared.kinds.Reserved.{Reserved}
use Rattle.ae_lex.specs.Spellings.{word_bytes}
use Rattle.ae_lex.proofs.spellings.reserved_among.Given as goal

abbrev pub invariant-loop-reserved : goal.invariant-loop-reserved
invariant-loop-reserved l = (k : ℕ) (d : Reserved) → k < l.reserved-index → l.word ≢ word_bytes (slice_index_or l.words k d)
