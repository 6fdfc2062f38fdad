-- Both results of Deduce reduce to one multiset.
use Rattle.std.specs.Prelude.{List}
use Rattle.ae_core.specs.declared.terms.Sort.{Sort}
use Rattle.ae_core.specs.declared.terms.Head.{Head}
use Rattle.ae_multiset.specs.Rewriting.{OverlapsJoin, overlap_first, overlap_second}
use Rattle.ae_journal.specs.Systems.{IsRule}
use Rattle.ae_settled.specs.Held.{Held, HasRule, system_of}
use Rattle.ae_settled.specs.Settled.{IsSettled}
use Rattle.ae_settled.proofs.Entries.{to_rule, from_rule, joins_by}

module _ (x : Held) (settled : IsSettled x) where
  pub overlaps : (h : Head) (ss : List Sort) → OverlapsJoin (IsRule (system_of x) h ss)
  overlaps h ss l1 r1 l2 r2 a b apart n c d =
      joins_by (HasRule x.rules (record { head = h; sorts = ss })) (IsRule (system_of x) h ss) (from_rule x settled.rules.below h ss) (overlap_first l1 r1 l2) (overlap_second l1 l2 r2)
      (settled.swept.overlaps (record { head = h; sorts = ss }) l1 r1 l2 r2 (to_rule x h ss l1 r1 a) (to_rule x h ss l2 r2 b) apart n c d)
