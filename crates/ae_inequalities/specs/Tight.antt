-- Rows of a tight sum, with lines that say them.
use Rattle.std.specs.Prelude.{ℕ, List, ◌≡◌, Some, map, slice_get}
use Rattle.std.specs.List.{AllByRecursion, Contains, flat_map}
use Rattle.ae_ineq.specs.declared.solving.Inequality.{Inequality}
use Rattle.ae_ineq.specs.Sums.{Share, HasTightSum}
use Rattle.ae_store.specs.Stores.{Stored}
use Rattle.ae_theory.specs.Names.{terms_in}
use Rattle.ae_bounds.specs.declared.rows.Row.{Row as Kept}
use Rattle.ae_bound_blocks.specs.Ancestors.{AreTagsOf, hyps_of}
use Rattle.ae_bound_blocks.specs.Tight.{IsGivenRow}
use Rattle.ae_inequalities.specs.declared.rows.Row.{Row}
use Rattle.ae_inequalities.specs.Rows.{IsRightRow}
use Rattle.ae_inequalities.specs.Held.{Held, tags_at}

abbrev pub inequality : Row → Inequality
inequality r = record { lin = r.lin; strict = r.strict }

-- it is the kept row of number k, and its lines say it; their hypotheses and its tags are those of the derivations of exactly the assumed rows that the kept row is made of, one after another
pub record IsRowAt (s : Stored) (b : Held) (k : ℕ) (r : Row) : Type 0 where
  pub kept : Kept
  pub at : slice_get b.rows k ≡ Some kept
  pub lin : r.lin ≡ kept.lin
  pub strict : r.strict ≡ kept.strict
  pub integral : r.integral ≡ kept.integral
  pub right : IsRightRow s.signature (terms_in s) r
  pub used : List ℕ
  pub exactly : AreTagsOf b.rows k used
  pub hyps : r.from.deriv.hyps ≡ flat_map (hyps_of b.given) used
  pub tags : r.from.tags ≡ flat_map (tags_at b.tags) used

-- kept rows, each assumed or rounded, of which a positive sum is `0 >= 0` though one of them isn't zero; each of them has a share in it
pub record AreTightRows (s : Stored) (b : Held) (rows : List Row) : Type 0 where
  pub each : AllByRecursion (λ (r : Row). (k : ℕ) × (i : IsRowAt s b k r) × IsGivenRow i.kept) rows
  pub tight : HasTightSum (map inequality rows)
  pub shares : AllByRecursion (λ (r : Row). (u : Share) × Contains tight.sum.shares u × (u.row ≡ inequality r)) rows
