-- The steps of a rewriting, and of two of one multiset.
use Rattle.std.specs.Prelude.{ℕ, ◌<◌, ◌≡◌, List, [], ◌∷◌, ◌++◌, length}
use Rattle.std.proofs.Common.{refl, sym, subst, arith, length-append}
use Rattle.ae_core.specs.declared.terms.Term.{Term}
use Rattle.ae_core.specs.declared.problems.AcSymbol.{AcSymbol}
use Rattle.ae_core.specs.declared.problems.Signature.{Signature}
use Rattle.ae_multiset.specs.Multisets.{IsSame}
use Rattle.ae_multiset.proofs.Counts.{length_same}
use Rattle.ae_store.specs.Growing.{IsFront}
use Rattle.ae_store.proofs.PartLaws.{are_one}
use Rattle.ae_just.specs.declared.steps.Step.{Step}
use Rattle.ae_just.specs.Steps.{Fits}
use Rattle.ae_state_steps.specs.ManySteps.{StatesMany}
use Rattle.ae_multiset_steps.specs.Equating.{RestsOnThese, IsRewriting}
use Rattle.ae_multiset_steps.proofs.Fronts.{many_kept}
use Rattle.ae_multiset_steps.proofs.Resting.{rests_later, rests_sooner, rests_through_none, rests_through_one, rests_through_two, rests_wider}

-- two steps that meet in one multiset, which the lists between are equal to
pub chain_of : (steps : List Step) (u : AcSymbol) (from to left right xs ys : List ℕ) (first second : ℕ) → left ≡ xs → right ≡ ys → StatesMany steps first u from left → StatesMany steps second u xs ys
    → (between : List ℕ) × StatesMany steps first u from between × StatesMany steps second u between right
chain_of steps u from to left right xs ys first second e f a b = (xs, subst (λ (zs : List ℕ). StatesMany steps first u from zs) e a, subst (λ (zs : List ℕ). StatesMany steps second u xs zs) (sym f) b)

pub some_of_same : (from left rest : List ℕ) → IsSame from (left ++ rest) → 0 < length left → 0 < length from
some_of_same from left rest s l = omega (arith, l, length_same from (left ++ rest) s, length-append left rest)

pub some_of_joined : (names left rest : List ℕ) → names ≡ left ++ rest → 0 < length left → 0 < length names
some_of_joined names left rest e l = subst (λ (zs : List ℕ). 0 < length zs) (sym e) (omega (arith, l, length-append left rest))

module _ (sig : Signature) (ts : List Term) where
  -- the steps of a rewriting rest on the equation's
  pub rewritten_rests : (a b c d e f : List Step) (step first second third last id : ℕ) → IsFront a b → IsFront b c → IsFront c d → IsFront d e → Fits sig ts b → Fits sig ts c → Fits sig ts e
      → step < length a → first < length b → third < length d → RestsOnThese a b first [] → RestsOnThese b c second (step ∷ []) → RestsOnThese c d third (first ∷ second ∷ [])
      → RestsOnThese d e last [] → RestsOnThese e f id (third ∷ last ∷ []) → RestsOnThese a f id (step ∷ [])
  rewritten_rests a b c d e f step first second third last id ab bc cd de fb fc fe l m n r1 r2 r3 r4 r5 =
      let given : List ℕ = step ∷ [] in
      let q1 = rests_later sig ts a b c bc fc first m given (rests_through_none a a b first given r1) in
      let q2 = rests_sooner sig ts a b c ab fb second step l r2 in
      let q3 = rests_through_two a c d third first second given r3 q1 q2 in
      let q4 = rests_later sig ts a d e de fe third n given q3 in
      rests_through_two a e f id third last given r5 q4 (rests_through_none a d e last given r4)

  -- those of two rewritings rest on both equations'
  pub overlapped_rests : (a b c d e : List Step) (left right one other back id : ℕ) → IsFront a b → IsFront b c → IsFront c d → Fits sig ts b → Fits sig ts c → Fits sig ts d → right < length a → one < length b
      → other < length c → RestsOnThese a b one (left ∷ []) → RestsOnThese b c other (right ∷ []) → RestsOnThese c d back (one ∷ []) → RestsOnThese d e id (back ∷ other ∷ []) → RestsOnThese a e id (left ∷ right ∷ [])
  overlapped_rests a b c d e left right one other back id ab bc cd fb fc fd l m n r1 r2 r3 r4 =
      let given : List ℕ = left ∷ right ∷ [] in
      let w1 = rests_wider a b one (left ∷ []) given (are_one left given (record { place = 0; is = refl })) r1 in
      let w2 = rests_wider a c other (right ∷ []) given (are_one right given (record { place = 1; is = refl })) (rests_sooner sig ts a b c ab fb other right l r2) in
      let q1 = rests_later sig ts a b c bc fc one m given w1 in
      let q3 = rests_through_one a c d back one given r3 q1 in
      let q4 = rests_later sig ts a c d cd fd other n given w2 in
      rests_through_two a d e id back other given r4 q3 q4

  pub rewriting_kept : (a b : List Step) → IsFront a b → (u : AcSymbol) (left right : List ℕ) (step : ℕ) (rest result : List ℕ) → IsRewriting sig ts a u left right step rest result → IsRewriting sig ts b u left right step rest result
  rewriting_kept a b f u left right step rest result r =
      record { names = r.names; states = many_kept a b f step u left right r.states; left_some = r.left_some; right_some = r.right_some; after = r.after }
