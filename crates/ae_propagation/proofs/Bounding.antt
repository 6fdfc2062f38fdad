-- Pairs of a literal of a trail and a clause that has its opposite.
use Rattle.std.proofs.Common.{◌≡◌, ℕ, ◌+◌, ◌<◌, ◌≤◌, List, ◌++◌, length, drop, ap, ◌∙◌, arith}
use Rattle.std.specs.List.{sum_by}
use Rattle.std.proofs.lemmas.List.{drop-append-le}
use Rattle.std.proofs.lemmas.List.Sums.{sum_by-append, sum_by-drop_more}
use Rattle.ae_rules.specs.Clauses.{Clause}
use Rattle.ae_explain.specs.declared.trail.Assigned.{Assigned}
use Rattle.ae_explain.specs.Trail.{at, nothing}
use Rattle.ae_propagation.specs.Settled.{Grown}
use Rattle.ae_propagation.specs.Watched.{against, pairs}

pairs_more : (t more : List Assigned) (u : List Clause) (n : ℕ) → n ≤ length t → pairs (t ++ more) u n ≡ pairs t u n + sum_by (against u) more
pairs_more t more u n l = ap (sum_by (against u)) (drop-append-le n t more l) ∙ sum_by-append (against u) (drop n t) more

pairs_next : (t : List Assigned) (u : List Clause) (n : ℕ) → n < length t → pairs t u n ≡ against u (at t n) + pairs t u (n + 1)
pairs_next t u n l = sum_by-drop_more (against u) t n nothing l

-- the bound after one literal more
pub pairs_step : (old new : List Assigned) (u : List Clause) (from n first before after : ℕ) → Grown old new → from ≤ n → n < length old → before + pairs old u n ≤ first + pairs old u from
    → after ≤ before + against u (at old n) → after + pairs new u (n + 1) ≤ first + pairs new u from
pairs_step old new u from n first before after g l w h step =
    let a : pairs new u from ≡ pairs old u from + sum_by (against u) g.more = ap (λ (t : List Assigned). pairs t u from) g.is ∙ pairs_more old g.more u from (omega (arith, l, w)) in
    let b : pairs new u (n + 1) ≡ pairs old u (n + 1) + sum_by (against u) g.more = ap (λ (t : List Assigned). pairs t u (n + 1)) g.is ∙ pairs_more old g.more u (n + 1) (omega (arith, w)) in
    let c : pairs old u n ≡ against u (at old n) + pairs old u (n + 1) = pairs_next old u n w in
    omega (arith, a, b, c, h, step)
