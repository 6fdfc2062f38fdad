-- Names taken in one after another.
use Rattle.std.specs.Prelude.{ℕ, suc, ◌<◌, ◌≤◌, ◌≡◌, ◌⊎◌, List, [], length, slice_get, Some}
use Rattle.std.proofs.Common.{refl, sym, ◌∙◌, subst, arith, inl, inr}
use Rattle.std.proofs.lemmas.Bool.{cases_lt}
use native.Mathlib.Decide.{ℕ_discrete}
use Rattle.ae_core.specs.declared.terms.Term.{Term}
use Rattle.ae_core.specs.declared.problems.Signature.{Signature}
use Rattle.ae_store.specs.Parts.{IsIn}
use Rattle.ae_store.specs.Shapes.{shapes}
use Rattle.ae_store.specs.Stores.{IsStore}
use Rattle.ae_store.specs.Terms.{terms}
use Rattle.ae_store.specs.declared.nodes.Node.{Node}
use Rattle.ae_store.proofs.EnterLaws.{front_same}
use Rattle.ae_store.proofs.PartLaws.{in_none}
use Rattle.ae_just.specs.Needed.{RestsOn}
use Rattle.ae_just.specs.Steps.{Fits}
use Rattle.ae_just.specs.declared.steps.Rule.TheVariants as rule
use Rattle.ae_just.specs.declared.steps.Step.{Step}
use Rattle.ae_value_table.specs.Table.{Contents, own, number_at, leaf_at}
use Rattle.ae_value_fitting.specs.Fitting.{AreSaid}
use Rattle.ae_value_fitting.specs.Sources.{SaysValue, IsUnderValues, RestsOnValues, AreFromValues}
use Rattle.ae_entering.specs.Firsts.{AreFirst}
use Rattle.ae_take_in.specs.Inner.Next.{AreBelow}
use Rattle.ae_take_in.specs.Inner.Taking.{IsOwnIfFree, IsTakenNext, AreTakenTo}
use Rattle.ae_take_in.proofs.Fronts.{HaveSame, below_same, said_same, says_same}
use Rattle.ae_take_in.proofs.Nexts.{own_number, own_leaf}
use Rattle.ae_take_in.proofs.Puts.{sources_still}

-- what rests on steps that say values, where these rest on earlier ones
pub rests_through : (js mid ks : List Step) (old cur : Contents) → AreFromValues js mid old cur [] → (id : ℕ) → RestsOnValues mid ks cur [] id → RestsOnValues js ks old [] id
rests_through js mid ks old cur from id r = record { each = each }
  where
    by_one : (by : ℕ) → IsIn by [] ⊎ SaysValue cur by → (k tag : ℕ) (s : Step) → RestsOn mid by k → slice_get mid k ≡ Some s → s.rule ≡ rule.Hyp tag → IsUnderValues js old [] k s
    by_one by (inl i) k tag s q at is = absurd (in_none by i)
    by_one by (inr v) k tag s q at is = (from.each by v).each k tag s q at is

    each : (k tag : ℕ) (s : Step) → RestsOn ks id k → slice_get ks k ≡ Some s → s.rule ≡ rule.Hyp tag → IsUnderValues js old [] k s
    each k tag s q at is = let w = r.each k tag s q at is in by_one w.by w.one k tag s w.rests w.there is

module _ (sig : Signature) (ts : List Term) where
  pub none_taken : (js : List Step) (c : Contents) (n : ℕ) → Fits sig ts js → AreFirst sig ts n (number_at c) (leaf_at c) → AreBelow n c → AreSaid sig ts js c → AreTakenTo sig ts js js c c n n
  none_taken js c n fits first below said = record {
    first = first;
    below = below;
    said = said;
    sources = sources_still sig ts js js (front_same js) fits c c n below said;
    kept = λ k l. (refl, refl);
    free = λ k f l. absurd (omega (arith, f, l));
  }

  pub more_taken : (js mid ks : List Step) (old cur new : Contents) (from n : ℕ) → from ≤ n → AreTakenTo sig ts js mid old cur from n → IsTakenNext sig ts mid ks cur new n → AreTakenTo sig ts js ks old new from (suc n)
  more_taken js mid ks old cur new from n w a t = record {
    first = t.first;
    below = t.below;
    said = t.said;
    sources = record { each = λ id v. rests_through js mid ks old cur a.sources id (t.sources.each id v) };
    kept = λ k l. (let o = t.others k (λ e. omega (arith, l, e, w)) in let p = a.kept k l in (o.0 ∙ p.0, o.1 ∙ p.1));
    free = λ k f l. by_name k f l (ℕ_discrete k n);
  }
    where
      by_name : (k : ℕ) → from ≤ k → k < suc n → Dec (k ≡ n) → IsOwnIfFree ts new k
      by_name k f l (yes e) = subst (IsOwnIfFree ts new) (sym e) t.free
      by_name k f l (no d) = λ none st. (let p = a.free k f (omega (arith, l, d)) none st in let o = t.others k d in (o.0 ∙ p.0, o.1 ∙ p.1))

  pub held_taken : (js ks : List Step) (old c : Contents) (from n t : ℕ) → AreTakenTo sig ts js ks old c from n → AreTakenTo sig ts js ks old (record c { taken = t }) from n
  held_taken js ks old c from n t a =
      let d : Contents = record c { taken = t } in
      let same : HaveSame c d = record { rows = λ k. refl; leaves = refl; justs = refl } in
      record {
        first = a.first;
        below = below_same c d same n a.below;
        said = said_same c d same sig ts ks a.said;
        sources = record { each = λ id v. a.sources.each id (says_same c d same id v) };
        kept = a.kept;
        free = a.free;
      }

-- names that nothing computes and that come down to no other are their own: those that were taken in, and all that come behind
pub free_all : (sig : Signature) (nodes : List Node) (store : IsStore sig nodes) (n : ℕ) → n < length nodes → (js ks : List Step) (old c : Contents) (from : ℕ) → AreTakenTo sig (terms (shapes nodes)) js ks old c from n
    → (k : ℕ) → from ≤ k → IsOwnIfFree (terms (shapes nodes)) c k
free_all sig nodes store n inside js ks old c from a k f none st = by_place (cases_lt k n)
  where
    by_place : (k < n) ⊎ (n ≤ k) → (number_at c k ≡ own k) × (leaf_at c k ≡ k)
    by_place (inl l) = a.free k f l none st
    by_place (inr l) = (own_number sig nodes store n inside c a.below k l, own_leaf sig nodes store n inside c a.below k l)
