use Rattle.std.specs.Prelude.{Some, slice_get, ◌≡◌}
use Rattle.ae_core.specs.Sorts.{sort_of}
use Rattle.ae_core.specs.declared.terms.Term.{Term}
use Rattle.ae_core.specs.declared.terms.Sort.{Int}
use Rattle.ae_rounding.proofs.Whole.{combined_whole, divided_keys}
use Rattle.ae_rounding.proofs.laws.rows_stay_whole.Goals as goal

pub returns-clause-combined : goal.returns-clause-combined
returns-clause-combined c = λ sig names n p q h normal same one other. combined_whole sig names n p q h normal same one other

pub returns-clause-rounded : goal.returns-clause-rounded
returns-clause-rounded c = λ sig names strict f r d w. divided_keys (λ k. (t : Term) × (slice_get names k ≡ Some t) × (sort_of sig t ≡ Some Int)) d.divisor f.parts r.parts d.divided w
