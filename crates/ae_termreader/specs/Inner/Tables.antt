-- What the loops over a signature put into their lists.
use Rattle.std.specs.Prelude.{ℕ, Bool, true, false, List, [], ◌∷◌, slice_get, Some}
use Rattle.ae_base.specs.Options.{or_else, ◌>>=◌}
use Rattle.ae_core.specs.Signatures.{fields_of}
use Rattle.ae_core.specs.declared.problems.Signature.{Signature}
use Rattle.ae_core.specs.declared.terms.Head.{Head}
use Rattle.ae_core.specs.declared.terms.Head.TheVariants as head
use Rattle.ae_core.specs.declared.terms.Op.TheVariants as op
use Rattle.ae_prooftext.specs.Words.{places}

abbrev pub field_places : Signature → ℕ → List ℕ
field_places sig n = or_else (slice_get sig.types n >>= λ e. Some (places (fields_of e))) []

abbrev pub sign_heads : List Head
sign_heads = head.Int op.Add ∷ head.Int op.Sub ∷ head.Int op.Neg ∷ head.Int op.Mul ∷ head.Int op.Div ∷ head.Int op.Mod ∷ []

-- the number alone, or nothing
abbrev pub kept : Bool → ℕ → List ℕ
kept true n = n ∷ []
kept false n = []
