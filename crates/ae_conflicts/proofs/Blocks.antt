-- The blocks of conflicts.
use Rattle.std.specs.Prelude.{ℕ, ◌-◌, true, false, List, [], ◌∷◌, ◌++◌, ◌≡◌, length, take, slice_get, Some}
use Rattle.std.proofs.Common.{sym, ap, ◌∙◌, subst, arith}
use Rattle.std.proofs.Math.Seq.{take-length}
use Rattle.ae_base.proofs.ListFacts.{get_seam}
use Rattle.ae_core.specs.declared.terms.Term.{Term, Apply}
use Rattle.ae_core.specs.declared.formulas.Formula.{Eq, Pred}
use Rattle.ae_core.specs.declared.formulas.Lit.{Lit}
use Rattle.ae_core.specs.declared.problems.Signature.{Signature}
use Rattle.ae_core.specs.declared.proofs.Ending.{Ending}
use Rattle.ae_core.specs.declared.proofs.Ending.TheVariants as ending
use Rattle.ae_rules.specs.Clauses.{is_true, is_false}
use Rattle.ae_rules.specs.Derivations.{Ends}
use Rattle.ae_rules.specs.Lines.{Fact, equal, Stated, Equated, Given, fact_ok}
use Rattle.ae_just.specs.declared.steps.Step.{Step}
use Rattle.ae_just.specs.Steps.{fact_of, Fits}
use Rattle.ae_theory.specs.declared.theory.Derived.{Derived}
use Rattle.ae_theory.specs.declared.theory.Explained.{Explained}
use Rattle.ae_conflicts.specs.declared.assumed.Assumed.{Assumed}
use Rattle.ae_conflicts.specs.declared.gathering.Gathered.{Gathered}
use Rattle.ae_conflicts.specs.Saying.{IsAssumedAt, SaysEqual, EndsWith}
use Rattle.ae_conflicts.specs.Conflicting.{IsDenied, AreOpposed, AreMixed, IsConstant, IsUnsolvable}
use Rattle.ae_conflicts.specs.Inner.Joining.{IsJoined, IsFrom, AreGathered, IsExplained}
use Rattle.ae_conflicts.proofs.Resting.{equation_sorted}
use Rattle.ae_conflicts.proofs.Joins.{joined_from, alone_from, say_length}

abbrev pub block_of : Derived → Ending → Explained
block_of d e = record { block = record { deriv = d.deriv; ending = e }; tags = d.tags }

explained_from : (sig : Signature) (ts : List Term) (held : List (ℕ × Assumed)) (d : Derived) (e : Ending) → IsFrom sig ts held d → Ends sig d.deriv.hyps d.deriv.lines e → IsExplained sig ts held (block_of d e)
explained_from sig ts held d e a x = record { contradictory = (a.allowed, x); sorted = a.sorted; tags = a.tags; built = a.built }

module _ (sig : Signature) (ts : List Term) (steps : List Step) (held : List (ℕ × Assumed)) (fits : Fits sig ts steps) where
  -- the last line states what the step says
  stated : (id : ℕ) (s t : Term) (d : Derived) (line : ℕ) → SaysEqual ts steps held id s t → ((x : Step) → slice_get steps id ≡ Some x → EndsWith d.deriv.lines (fact_of ts x)) → line ≡ length d.deriv.lines - 1
      → Stated d.deriv.lines line (equal s t)
  stated id s t d line says ends l =
      let end = ends says.step says.is in
      let same : end.last ≡ line = omega (arith, end.long, l) in
      subst (λ k. Stated d.deriv.lines k (equal s t)) same (subst (λ (f : Fact). Stated d.deriv.lines end.last f) says.states end.is)

  -- two terms that a step says are equal are of one sort
  pub says_sorted : (id : ℕ) (s t : Term) → SaysEqual ts steps held id s t → fact_ok sig (equal s t) ≡ true
  says_sorted id s t says = subst (λ (f : Fact). fact_ok sig f ≡ true) says.states (fits.allowed.each id says.step says.is).sorted

  module _ (id : ℕ) (d : Derived) (line : ℕ) (from : IsFrom sig ts held d) (ends : (x : Step) → slice_get steps id ≡ Some x → EndsWith d.deriv.lines (fact_of ts x)) (l : line ≡ length d.deriv.lines - 1) where
    pub mixed_block : AreMixed sig ts steps held id → IsExplained sig ts held (block_of d (ending.Clash line))
    mixed_block own =
        explained_from sig ts held d (ending.Clash line) from (own.first, own.second, stated id (Apply own.first [] []) (Apply own.second [] []) d line own.says ends l, own.first_is, own.second_is, own.differ)

    pub constant_block : IsConstant sig ts steps held id → IsExplained sig ts held (block_of d (ending.Const line))
    constant_block own = explained_from sig ts held d (ending.Const line) from (own.left, own.right, stated id own.left own.right d line own.says ends l, own.numbers, own.number, own.other)

    pub unsolvable_block : IsUnsolvable sig ts steps held id → IsExplained sig ts held (block_of d (ending.Gcd line))
    unsolvable_block own = explained_from sig ts held d (ending.Gcd line) from (own.left, own.right, stated id own.left own.right d line own.says ends l, own.integers, own.unsolvable)

    pub denied_block : (place hyp : ℕ) (second both : Derived) → IsDenied ts steps held place id → ((lit : Lit) (tag : ℕ) → IsAssumedAt held place lit tag → second.deriv.hyps ≡ lit ∷ [])
        → ((lit : Lit) (tag : ℕ) → IsAssumedAt held place lit tag → second.tags ≡ tag ∷ []) → second.deriv.lines ≡ [] → IsJoined d second both → hyp ≡ length d.deriv.hyps
        → IsExplained sig ts held (block_of both (ending.Neq line hyp))
    denied_block place hyp second both own sh st sl j h =
        let lit : Lit = is_false (Eq own.left own.right) in
        let o = equation_sorted sig own.left own.right (says_sorted id own.left own.right own.says) in
        let two : IsFrom sig ts held second = alone_from sig ts held place lit own.tag second own.denied o (sh lit own.tag own.denied) (st lit own.tag own.denied) sl in
        let here : Stated both.deriv.lines line (equal own.left own.right) = j.before line (equal own.left own.right) (stated id own.left own.right d line own.says ends l) in
        let given : Given both.deriv.hyps hyp false (Eq own.left own.right) = ap (slice_get both.deriv.hyps) h ∙ ap (λ ls. slice_get ls (length d.deriv.hyps)) (j.hyps ∙ ap (λ ls. d.deriv.hyps ++ ls) (sh lit own.tag own.denied))
        ∙ get_seam d.deriv.hyps [] lit in
        explained_from sig ts held both (ending.Neq line hyp) (joined_from sig ts held d second both from two j) (own.left, own.right, here, given)

  pub opposed_block : (positive negative : ℕ) (ids : List ℕ) (g : Gathered) → AreOpposed sig ts steps held positive negative ids → AreGathered sig ts steps held positive negative ids (length ids) g
      → IsExplained sig ts held (block_of g.derived (ending.Pred 0 1 g.places))
  opposed_block positive negative ids g own a =
      let lines = (g.derived).deriv.lines in
      let n = say_length ts steps held ids own.args own.others own.say in
      let first : take (length ids) own.args ≡ own.args = ap (λ k. take k own.args) (sym n.0) ∙ take-length own.args in
      let second : take (length ids) own.others ≡ own.others = ap (λ k. take k own.others) (sym n.1) ∙ take-length own.others in
      let all : Equated lines g.places own.args own.others = subst (λ us. Equated lines g.places us own.others) first
      (subst (λ vs. Equated lines g.places (take (length ids) own.args) vs) second (a.equated own.args own.others own.say)) in
      explained_from sig ts held g.derived (ending.Pred 0 1 g.places) a.from (
        own.predicate,
        own.sorts,
        own.args,
        own.others,
        a.holds (is_true (Pred own.predicate own.sorts own.args)) own.tag own.holds,
        a.fails (is_false (Pred own.predicate own.sorts own.others)) own.other_tag own.fails,
        all,
      )
