-- Sums that are built up from the front.
use Rattle.std.specs.Prelude.{neg_ℤ, List, [], ◌∷◌, Option, Some, None}
use Rattle.ae_core.specs.declared.terms.Sort.{Int}
use Rattle.ae_core.specs.declared.terms.Op.TheVariants as op
use Rattle.ae_core.specs.declared.terms.Term.{Term, Apply}
use Rattle.ae_journal.specs.Systems.{arithmetic}
use Rattle.ae_num.specs.declared.forms.Part.{Part}

-- a term behind a sum, which may be empty
abbrev pub after : Option Term → Term → Term
after None t = t
after (Some s) t = Apply (arithmetic Int op.Add) [] (s ∷ t ∷ [])

-- terms behind a sum
abbrev pub summed : Option Term → List Term → Option Term
summed o [] = o
summed o (t ∷ ts) = summed (Some (after o t)) ts

abbrev pub opposite_part : Part → Part
opposite_part q = record { key = q.key; factor = neg_ℤ q.factor }
