use Rattle.std.proofs.Common.{ℕ, ◌<◌, slice_index_or}
use Rattle.ae_lex.specs.declared.kinds.Sign.{Sign}
use Rattle.ae_lex.specs.Spellings.{sign_bytes}
use Rattle.ae_lex.specs.Lexis.{Begins}
use Rattle.ae_lex.proofs.spellings.sign_among.Given as goal

abbrev pub invariant-loop-sign : goal.invariant-loop-sign
invariant-loop-sign l = (k : ℕ) (d : Sign) → k < l.sign-index → Begins (sign_bytes (slice_index_or l.signs k d)) l.bytes → ⊥
