use Rattle.std.proofs.Common.{ap, ◌∙◌, [], ◌∷◌, drop}
use Rattle.std.proofs.lemmas.Int.{to_z-of_z}
use Rattle.std.specs.Int.{w128}
use Rattle.std.specs.Prelude.{unsigned_abs}
use Rattle.ae_readers.proofs.Exactness.{same_read}
use Rattle.ae_valuereader.proofs.FormReading.{key_by}
use Rattle.ae_valuereader.proofs.parts.read_key.Goals as goal
use Rattle.ae_valuereader.specs.Forms.{key_span}
use Rattle.ae_valuetext.specs.Parts.{is_lowest}

pub returns-clause-read : goal.returns-clause-read
returns-clause-read c =
    same_read c.args.text.now _ _ _
    (key_by c.args.low c.args.divisor c.args.factor c.keys.result (drop c.args.at c.args.text.now)
    (c.keys.ensures ∙ ap (key_span c.args.low) (c.is_coprime-whole.ensures ∙ ap (λ n. is_lowest c.args.divisor (n ∷ [])) (c.size_of.ensures ∙ ap unsigned_abs (to_z-of_z w128 c.args.factor c.ranges.factor)))))
    c.read_within.ensures.read
