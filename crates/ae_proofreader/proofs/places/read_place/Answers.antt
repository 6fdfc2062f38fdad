use Rattle.std.proofs.Common.{ap, sym, subst, true, drop, ◌≡◌}
use Rattle.std.specs.Prelude.{IfOk}
use Rattle.ae_readers.proofs.Exactness.{same_read}
use Rattle.ae_valuereader.specs.Spans.{may_close, span_read}
use Rattle.ae_proofreader.proofs.PlaceReading.{below_where}
use Rattle.ae_proofreader.proofs.places.read_place.Goals as goal

pub returns-clause-read : goal.returns-clause-read
returns-clause-read c = same_read c.args.text.now _ _ _ (ap (λ s. span_read s (drop c.args.at c.args.text.now)) (sym c.places_from.ensures)) c.read_within.ensures.read

pub returns-clause-below : goal.returns-clause-below
returns-clause-below c = below_where c.args.low c.read_within.result (subst (λ s. IfOk c.read_within.result (λ v. may_close s v.0.0 v.0.1 ≡ true)) c.places_from.ensures c.read_within.ensures.closed)
