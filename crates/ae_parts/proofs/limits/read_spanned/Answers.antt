use Rattle.std.proofs.Common.{ap, sym, drop}
use Rattle.ae_readers.proofs.Exactness.{same_read}
use Rattle.ae_valuereader.specs.Spans.{span_read}
use Rattle.ae_parts.proofs.limits.read_spanned.Goals as goal

pub returns-clause-read : goal.returns-clause-read
returns-clause-read c = same_read c.args.text.now _ _ _ (ap (λ s. span_read s (drop c.args.at c.args.text.now)) (sym c.limit_span.ensures)) c.read_within.ensures.read
