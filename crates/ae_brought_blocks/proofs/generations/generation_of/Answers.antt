use Rattle.std.proofs.Common.{◌≡◌, ◌≤◌, sym, ◌∙◌, subst, arith, inl, inr}
use Rattle.std.proofs.lemmas.Bool.{cases_lt}
use Rattle.ae_ages.proofs.Aging.{age_of_any}
use Rattle.ae_ages.specs.Ages.{HasAge}
use Rattle.ae_brought_clauses.proofs.Places.{not_aged}
use Rattle.ae_brought_blocks.proofs.generations.generation_of.Goals as goal

pub returns-then-has_age : goal.returns-then-has_age
returns-then-has_age c = record {
  least = λ n a. elim (cases_lt n c.loop-generation.generation) as (λ _. c.loop-generation.generation ≤ n) [
    | inl lt ↦ absurd (c.loop-generation.invariant n lt a)
    | inr ge ↦ ge
  ];
  known = inl (age_of_any c.args.ages.now c.args.formula.now c.loop-generation.generation (sym c.has_age.ensures ∙ c.if-has_age.true));
}

pub returns-clause-least : goal.returns-clause-least
returns-clause-least c = λ n a. elim (cases_lt n c.args.bound) as (λ _. c.args.bound ≤ n) [
  | inl lt ↦ absurd (c.loop-generation.invariant n (omega (arith, lt)) a)
  | inr ge ↦ ge
]

pub loop-generation-preserved : goal.loop-generation-preserved
loop-generation-preserved c = λ k lt a.
    elim (cases_lt k c.loop-generation.generation) as (λ _. ⊥) [
      | inl l ↦ c.loop-generation.invariant k l a
      | inr g ↦
          let e : k ≡ c.loop-generation.generation = omega (arith, lt, g) in
          not_aged c.args.ages.now c.args.formula.now c.loop-generation.generation (sym c.has_age.ensures ∙ c.if-has_age.false) (subst (λ n. HasAge c.args.ages.now n c.args.formula.now) e a)
    ]
