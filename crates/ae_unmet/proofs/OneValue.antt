-- Names of one representative have one value, and the steps that say so rest on assumed literals.
use Rattle.std.specs.Prelude.{ℕ, ◌<◌, ◌≤◌, false, List, [], ◌∷◌, ◌++◌, ◌≡◌, ◌≢◌, ◌⊎◌, length, slice_get, Some, Result, Ok, Err, IfOk, IsTrue}
use Rattle.std.proofs.Common.{refl, sym, ◌∙◌, subst, arith, inl, inr}
use Rattle.std.proofs.lemmas.Option.{slice_get_within}
use Rattle.ae_base.proofs.ListFacts.{get_append}
use Rattle.ae_base.proofs.Tests.{by_bool}
use Rattle.ae_core.specs.declared.problems.Signature.{Signature}
use Rattle.ae_core.specs.declared.terms.Term.{Term}
use Rattle.ae_pmap.specs.Forest.{present}
use Rattle.ae_store.specs.Parts.{IsIn}
use Rattle.ae_store.specs.Stores.{Stored}
use Rattle.ae_store.specs.Terms.{named}
use Rattle.ae_store.proofs.PartLaws.{in_none}
use Rattle.ae_just.specs.Needed.{RestsOn}
use Rattle.ae_just.specs.Steps.{Fits, literal}
use Rattle.ae_just.specs.declared.steps.Rule.TheVariants as rule
use Rattle.ae_just.specs.declared.steps.Side.TheVariants as side
use Rattle.ae_just.specs.declared.steps.Step.{Step}
use Rattle.ae_state_steps.specs.ValueSteps.{StatesEqual}
use Rattle.ae_sweeps.specs.Given.{rep_in}
use Rattle.ae_theory.specs.Names.{terms_in}
use Rattle.ae_value_table.specs.Alike.{alike}
use Rattle.ae_value_fitting.specs.Sources.{SaysValue, RestsOnValues}
use Rattle.ae_conflicts.specs.declared.assumed.Assumed.{Assumed}
use Rattle.ae_conflicts.specs.Saying.{IsAssumedAt, RestsOnAssumed, SaysEqual, SayEqual}
use Rattle.ae_state.specs.declared.holding.Holding.{Holding}
use Rattle.ae_state.specs.Right.{IsReason, of_value}
use Rattle.ae_state.specs.Fitting.{FitsStore}
use Rattle.ae_state.proofs.Growing.{rests_kept}
use Rattle.ae_state.proofs.Alikeness.{alike_turned, alike_through}
use Rattle.ae_state.proofs.ExplainedValues.{reason_rests}
use Rattle.ae_turns.specs.Representing.{IsTaken, AreRepresentatives}
use Rattle.ae_turns.proofs.Representatives.{rep_least}
use Rattle.ae_unmet.proofs.TakenNames.{taken_long}

-- ---- representatives
module _ (o : Holding) (s : Stored) (t : IsTaken o s) (reps : List ℕ) (r : AreRepresentatives o reps) where
  pub reps_long : length reps ≡ length s.nodes
  reps_long = r.one_each ∙ taken_long o s t

  module _ (m n : ℕ) (l : m < length s.nodes) (k : n < length s.nodes) where
    pub alike_of : rep_in reps m ≡ rep_in reps n → IsTrue (alike o.values m n)
    alike_of e =
        let a = rep_least o reps r m (omega (arith, l, reps_long)) in
        let b = rep_least o reps r n (omega (arith, k, reps_long)) in
        alike_through o.values m (rep_in reps m) n (alike_turned o.values (rep_in reps m) m a.alike_to) (subst (λ (q : ℕ). IsTrue (alike o.values q n)) (sym e) b.alike_to)

    rep_same : IsTrue (alike o.values m n) → rep_in reps m ≡ rep_in reps n
    rep_same h =
        let a = rep_least o reps r m (omega (arith, l, reps_long)) in
        let b = rep_least o reps r n (omega (arith, k, reps_long)) in
        let up : rep_in reps m ≤ rep_in reps n = a.first (rep_in reps n) (alike_through o.values (rep_in reps n) n m b.alike_to (alike_turned o.values m n h)) in
        let down : rep_in reps n ≤ rep_in reps m = b.first (rep_in reps m) (alike_through o.values (rep_in reps m) m n a.alike_to h) in
        omega (arith, up, down)

    pub apart_of : rep_in reps m ≢ rep_in reps n → alike o.values m n ≡ false
    apart_of d = by_bool (alike o.values m n) (λ h. absurd (d (rep_same h))) (λ e. e)

-- ---- steps
module _ (o : Holding) (s : Stored) (fits : FitsStore o s) (new : List Step) where
  -- what rests on steps that say values rests on assumed literals
  rests_assumed : (id : ℕ) → RestsOnValues o.justs new o.values [] id → RestsOnAssumed (terms_in s) new (present o.assumed) id
  rests_assumed id r = record { each = each }
    where
      reason : (by : ℕ) → IsIn by [] ⊎ SaysValue o.values by → IsReason o by
      reason by (inl m) = absurd (in_none by m)
      reason by (inr v) = of_value v

      each : (k tag : ℕ) (st : Step) → RestsOn new id k → slice_get new k ≡ Some st → st.rule ≡ rule.Hyp tag → (place : ℕ) × IsAssumedAt (present o.assumed) place (literal (terms_in s) st) tag
      each k tag st on at is =
          let w = r.each k tag st on at is in
          (reason_rests o s fits w.by (reason w.by w.one)).each k tag st w.rests w.there is

  pub says_equal : {E : Type 0} (left right : ℕ) (res : Result ℕ E) → IfOk res (λ id. StatesEqual new id left right) → IfOk res (λ id. RestsOnValues o.justs new o.values [] id)
      → IfOk res (λ id. SaysEqual (terms_in s) new (present o.assumed) id (named (terms_in s) left) (named (terms_in s) right))
  says_equal left right (Err e) a b = tt
  says_equal left right (Ok id) a b =
      record { step = record { left = side.Name left; right = side.Name right; rule = a.by }; is = a.there; states = refl; rests = rests_assumed id b }

-- one more step for one more pair of names
pub say_more : (ts : List Term) (steps : List Step) (held : List (ℕ × Assumed)) (ids : List ℕ) (us vs : List Term) (id : ℕ) (u v : Term) → SayEqual ts steps held ids us vs → SaysEqual ts steps held id u v
    → SayEqual ts steps held (ids ++ id ∷ []) (us ++ u ∷ []) (vs ++ v ∷ [])
say_more ts steps held [] [] [] id u v a b = (b, tt)
say_more ts steps held (k ∷ ks) (x ∷ us) (y ∷ vs) id u v a b = (a.0, say_more ts steps held ks us vs id u v a.1 b)
say_more ts steps held [] [] (y ∷ vs) id u v a b = absurd a
say_more ts steps held [] (x ∷ us) vs id u v a b = absurd a
say_more ts steps held (k ∷ ks) [] vs id u v a b = absurd a
say_more ts steps held (k ∷ ks) (x ∷ us) [] id u v a b = absurd a

-- what steps say they say where more steps come
module _ (sig : Signature) (ts : List Term) (held : List (ℕ × Assumed)) (steps more : List Step) (fits : Fits sig ts steps) where
  says_still : (id : ℕ) (u v : Term) → SaysEqual ts steps held id u v → SaysEqual ts (steps ++ more) held id u v
  says_still id u v x =
      record {
        step = x.step;
        is = get_append steps more id x.step x.is;
        states = x.states;
        rests = rests_kept held held (record { each = λ place entry e. e }) sig ts ts steps more (λ i t e. e) fits id (slice_get_within steps id x.step x.is) x.rests;
      }

  pub say_still : (ids : List ℕ) (us vs : List Term) → SayEqual ts steps held ids us vs → SayEqual ts (steps ++ more) held ids us vs
  say_still [] [] [] x = tt
  say_still (k ∷ ks) (u ∷ us) (v ∷ vs) x = (says_still k u v x.0, say_still ks us vs x.1)
  say_still [] [] (v ∷ vs) x = absurd x
  say_still [] (u ∷ us) vs x = absurd x
  say_still (k ∷ ks) [] vs x = absurd x
  say_still (k ∷ ks) (u ∷ us) [] x = absurd x
