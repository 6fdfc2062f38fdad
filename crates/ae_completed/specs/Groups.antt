-- The nine clauses of a completed system in three groups: names, values, rules.
use Rattle.ae_core.specs.declared.problems.Signature.{Signature}
use Rattle.ae_journal.specs.declared.systems.System.{System}
use Rattle.ae_decide.specs.Clauses.{HasTerms, HasLeaves, IsComputed, HasRecords, IsCongruent, RulesFit, AreReduced, AllOverlapsJoin, AllNamesJoin}

module _ (sig : Signature) (y : System) where
  -- the first and the second clause
  pub record HasNames : Type 0 where
    pub terms : HasTerms sig y
    pub leaves : HasLeaves sig y

  -- the third, the fourth and the fifth
  pub record HasValues : Type 0 where
    pub computing : IsComputed sig y
    pub records : HasRecords sig y
    pub congruence : IsCongruent sig y

  -- the sixth to the ninth
  pub record HasRules : Type 0 where
    pub rules : RulesFit sig y
    pub reduction : AreReduced sig y
    pub overlaps : AllOverlapsJoin sig y
    pub joins : AllNamesJoin sig y
