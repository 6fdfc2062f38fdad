-- Derivations of several steps, behind two literals.
use Rattle.std.specs.Prelude.{ℕ, ◌+◌, ◌-◌, List, [], ◌∷◌, ◌++◌, ◌≡◌, length, take, slice_get, Some}
use Rattle.std.proofs.Common.{refl, sym, ap, ◌∙◌, subst, arith}
use Rattle.ae_base.proofs.ListFacts.{get_append}
use Rattle.ae_core.specs.declared.terms.Term.{Term}
use Rattle.ae_core.specs.declared.formulas.Formula.{Pred}
use Rattle.ae_core.specs.declared.formulas.Lit.{Lit}
use Rattle.ae_core.specs.declared.problems.Signature.{Signature}
use Rattle.ae_rules.specs.Clauses.{is_true, is_false}
use Rattle.ae_rules.specs.Lines.{Fact, equal, Stated, Equated}
use Rattle.ae_just.specs.declared.steps.Step.{Step}
use Rattle.ae_just.specs.Steps.{fact_of}
use Rattle.ae_theory.specs.declared.theory.Derived.{Derived}
use Rattle.ae_conflicts.specs.declared.assumed.Assumed.{Assumed}
use Rattle.ae_conflicts.specs.declared.gathering.Gathered.{Gathered}
use Rattle.ae_conflicts.specs.Saying.{IsAssumedAt, SayEqual, EndsWith}
use Rattle.ae_conflicts.specs.Conflicting.{AreOpposed}
use Rattle.ae_conflicts.specs.Inner.Joining.{IsJoined, IsFrom, AreGathered}
use Rattle.ae_conflicts.proofs.Joins.{joined_from, alone_from, equated_more, equated_push, say_at, take_next}

take_none : (us : List Term) → take 0 us ≡ []
take_none [] = refl
take_none (u ∷ us) = refl

module _ (sig : Signature) (ts : List Term) (steps : List Step) (held : List (ℕ × Assumed)) (positive negative : ℕ) (ids : List ℕ) (own : AreOpposed sig ts steps held positive negative ids) where
  abbrev holding : Lit
  holding = is_true (Pred own.predicate own.sorts own.args)

  abbrev failing : Lit
  failing = is_false (Pred own.predicate own.sorts own.others)

  -- the two literals alone
  pub none_gathered : (first second both : Derived) (places : List ℕ) → ((lit : Lit) (tag : ℕ) → IsAssumedAt held positive lit tag → first.deriv.hyps ≡ lit ∷ []) → ((lit : Lit) (tag : ℕ) → IsAssumedAt held positive lit tag → first.tags ≡ tag ∷ [])
      → first.deriv.lines ≡ [] → ((lit : Lit) (tag : ℕ) → IsAssumedAt held negative lit tag → second.deriv.hyps ≡ lit ∷ []) → ((lit : Lit) (tag : ℕ) → IsAssumedAt held negative lit tag → second.tags ≡ tag ∷ []) → second.deriv.lines ≡ []
      → IsJoined first second both → places ≡ [] → AreGathered sig ts steps held positive negative ids 0 (record { derived = both; places = places })
  none_gathered first second both places fh ft fl sh st sl j e =
      let one : IsFrom sig ts held first = alone_from sig ts held positive holding own.tag first own.holds own.sorted (fh holding own.tag own.holds) (ft holding own.tag own.holds) fl in
      let two : IsFrom sig ts held second = alone_from sig ts held negative failing own.other_tag second own.fails own.others_sorted (sh failing own.other_tag own.fails) (st failing own.other_tag own.fails) sl in
      record {
        from = joined_from sig ts held first second both one two j;
        holds = λ lit tag a. ap (λ ls. slice_get ls 0) (j.hyps ∙ ap (λ ls. ls ++ second.deriv.hyps) (fh lit tag a));
        fails = λ lit tag a. ap (λ ls. slice_get ls 1) (j.hyps ∙ ap (λ ls. ls ++ second.deriv.hyps) (fh holding own.tag own.holds) ∙ ap (λ ls. holding ∷ ls) (sh lit tag a));
        equated = λ us vs s.
            subst (λ xs. Equated both.deriv.lines places xs (take 0 vs)) (sym (take_none us))
            (subst (λ xs. Equated both.deriv.lines places [] xs) (sym (take_none vs)) (subst (λ ks. Equated both.deriv.lines ks [] []) (sym e) tt));
      }

  -- the lines of one step more
  pub one_gathered : (at id : ℕ) (g : Gathered) (next both : Derived) (place : ℕ) (places : List ℕ) → slice_get ids at ≡ Some id → AreGathered sig ts steps held positive negative ids at g → IsFrom sig ts held next
      → ((s : Step) → slice_get steps id ≡ Some s → EndsWith next.deriv.lines (fact_of ts s)) → IsJoined g.derived next both → place ≡ length both.deriv.lines - 1 → places ≡ g.places ++ place ∷ []
      → AreGathered sig ts steps held positive negative ids (at + 1) (record { derived = both; places = places })
  one_gathered at id g next both place places e a b ends j p q =
      record {
        from = joined_from sig ts held g.derived next both a.from b j;
        holds = λ lit tag h. ap (λ ls. slice_get ls 0) j.hyps ∙ get_append (g.derived).deriv.hyps next.deriv.hyps 0 lit (a.holds lit tag h);
        fails = λ lit tag h. ap (λ ls. slice_get ls 1) j.hyps ∙ get_append (g.derived).deriv.hyps next.deriv.hyps 1 lit (a.fails lit tag h);
        equated = λ us vs s. equated us vs s;
      }
    where
      equated : (us vs : List Term) → SayEqual ts steps held ids us vs → Equated both.deriv.lines places (take (at + 1) us) (take (at + 1) vs)
      equated us vs s =
          let lines = both.deriv.lines in
          let w = say_at ts steps held ids us vs s at id e in
          let f : Fact = equal w.left w.right in
          let end = ends (w.says).step (w.says).is in
          let stated : Stated next.deriv.lines end.last f = subst (λ (z : Fact). Stated next.deriv.lines end.last z) (w.says).states end.is in
          let here : length (g.derived).deriv.lines + end.last ≡ place = omega (arith, j.long, end.long, p) in
          let there : Stated lines place f = subst (λ k. Stated lines k f) here (j.after end.last f stated) in
          let before : Equated lines g.places (take at us) (take at vs) = equated_more (g.derived).deriv.lines lines j.before g.places (take at us) (take at vs) (a.equated us vs s) in
          let pushed : Equated lines (g.places ++ place ∷ []) (take at us ++ w.left ∷ []) (take at vs ++ w.right ∷ []) = equated_push lines g.places (take at us) (take at vs) place w.left w.right before there in
          subst (λ ks. Equated lines ks (take (at + 1) us) (take (at + 1) vs)) (sym q)
          (subst (λ xs. Equated lines (g.places ++ place ∷ []) xs (take (at + 1) vs)) (sym (take_next us at w.left w.left_at))
          (subst (λ xs. Equated lines (g.places ++ place ∷ []) (take at us ++ w.left ∷ []) xs) (sym (take_next vs at w.right w.right_at)) pushed))
