-- What holds of names and steps holds where there are more of them.
use Rattle.std.specs.Prelude.{ℕ, zero, suc, ◌<◌, ◌≤◌, List, [], ◌∷◌, ◌++◌, ◌≡◌, length, take, slice_get, Some}
use Rattle.std.proofs.Common.{refl, sym, ◌∙◌, subst, arith}
use Rattle.std.proofs.lemmas.Option.{none-some, same_Some, slice_get_within}
use Rattle.ae_base.proofs.AllOf.{all_weaker}
use Rattle.ae_base.proofs.ListFacts.{get_append, get_before}
use Rattle.ae_core.specs.declared.terms.Term.{Term}
use Rattle.ae_core.specs.declared.problems.Signature.{Signature}
use Rattle.ae_linear.specs.declared.rows.Row.{Row}
use Rattle.ae_store.specs.declared.nodes.Shape.{Shape}
use Rattle.ae_store.specs.Growing.{IsFront}
use Rattle.ae_store.specs.Terms.{terms, named, Keeps, IsOfSort}
use Rattle.ae_store.proofs.TermLaws.{all_named_kept, keeps_append}
use Rattle.ae_just.specs.declared.steps.Step.{Step}
use Rattle.ae_just.specs.Steps.{Fits}
use Rattle.ae_monoid.specs.declared.rules.Kept.{Kept}
use Rattle.ae_rule_steps.specs.Said.{IsSaid}
use Rattle.ae_equations.specs.declared.queue.Waiting.{Waiting}
use Rattle.ae_equations.specs.Held.{Contents as Equations}
use Rattle.ae_equations.specs.Queued.{waiting}
use Rattle.ae_equation_turns.specs.Said.{IsWaitingSaid, IsHeld}
use Rattle.ae_value_table.specs.declared.patterns.Pattern.{Pattern}
use Rattle.ae_value_table.specs.declared.patterns.Entry.{Entry}
use Rattle.ae_value_table.specs.Table.{Contents as Values}
use Rattle.ae_value_fitting.specs.Fitting.{AreSaid, IsNumberSaid, IsLeafSaid}
use Rattle.ae_patterns.specs.Patterns.{IsPatternOf, of_number, of_record, of_other, of_predicate, ArePatternsOf, no_term, a_term, AreEntriesOf}
use Rattle.ae_conflicts.specs.declared.assumed.Assumed.{Assumed}
use Rattle.ae_conflicts.specs.Saying.{AreKept, RestsOnAssumed}
use Rattle.ae_conflicts.proofs.Kept.{literal_kept, rests_before}

-- ---- lists of names
pub front_keeps : (xs ys : List Shape) → IsFront xs ys → Keeps (terms xs) (terms ys)
front_keeps xs ys f = subst (λ (zs : List Shape). Keeps (terms xs) (terms zs)) (sym f.1) (keeps_append xs f.0)

pub keeps_then : (a b c : List Term) → Keeps a b → Keeps b c → Keeps a c
keeps_then a b c f g i t e = g i t (f i t e)

-- the first names stay
pub take_kept : (k : ℕ) (old new : List Term) → Keeps old new → k ≤ length old → take k new ≡ take k old
take_kept zero old new h l = refl
take_kept (suc k) [] new h l = absurd (omega (arith, l))
take_kept (suc k) (x ∷ old) [] h l = absurd (none-some x (h zero x refl))
take_kept (suc k) (x ∷ old) (y ∷ new) h l = λ i. same_Some y x (h zero x refl) i ∷ take_kept k old new (λ j t e. h (suc j) t e) (omega (arith, l)) i

-- a list that keeps another is no shorter
pub keeps_long : (old new : List Term) → Keeps old new → length old ≤ length new
keeps_long [] new h = omega arith
keeps_long (x ∷ old) [] h = absurd (none-some x (h zero x refl))
keeps_long (x ∷ old) (y ∷ new) h = omega (arith, keeps_long old new (λ j t e. h (suc j) t e))

-- ---- what is known for good
module _ (sig : Signature) (old new : List Term) (keeps : Keeps old new) where
  mutual
    pattern_kept : (n : ℕ) (p : Pattern) → IsPatternOf sig old n p → IsPatternOf sig new n p
    pattern_kept n p (of_number k q t s a b c e) = of_number n p t s (keeps n t a) b c e
    pattern_kept n p (of_record k q t s ss ps a b c d e) = of_record n p t s ss ps (keeps n t a) b c (patterns_kept _ ps d) e
    pattern_kept n p (of_other k q t s a b c d e) = of_other n p t s (keeps n t a) b c d e
    pattern_kept n p (of_predicate k q t a b e) = of_predicate n p t (keeps n t a) b e

    patterns_kept : (us : List Term) (ps : List Pattern) → ArePatternsOf sig old us ps → ArePatternsOf sig new us ps
    patterns_kept us ps no_term = no_term
    patterns_kept us ps (a_term n t vs p qs a b c) = a_term n t vs p qs (keeps n t a) (pattern_kept n p b) (patterns_kept vs qs c)

  name_kept : (a : ℕ) → a < length old → named new a ≡ named old a
  name_kept a l = let e : named new a ∷ [] ≡ named old a ∷ [] = all_named_kept old new keeps (a ∷ []) (l, tt) in cc e

  pub entries_kept : (es : List Entry) → AreEntriesOf sig old es → AreEntriesOf sig new es
  entries_kept es a =
      record {
        within = omega (arith, a.within, keeps_long old new keeps);
        each = λ n e at.
            let l : n < length old = omega (arith, slice_get_within es n e at, a.within) in
            let of = a.each n e at in
            record { sort = subst (λ (t : Term). IsOfSort sig t e.sort) (sym (name_kept n l)) of.sort; pattern = pattern_kept n e.pattern of.pattern };
      }

-- ---- what steps say
module _ (sig : Signature) (ts : List Term) (steps more : List Step) where
  number_more : (c : Values) (n : ℕ) (row : Row) → IsNumberSaid sig ts steps c n row → IsNumberSaid sig ts (steps ++ more) c n row
  number_more c n row a =
      let s = (a.stated).stated in
      record { real = a.real; step = a.step; just = a.just; stated = record { written = (a.stated).written; stated = record { by = s.by; there = get_append steps more a.step _ s.there } } }

  leaf_more : (c : Values) (n m : ℕ) → IsLeafSaid sig ts steps c n m → IsLeafSaid sig ts (steps ++ more) c n m
  leaf_more c n m a =
      record { sort = a.sort; sorted = a.sorted; other = a.other; step = a.step; just = a.just; equal = record { by = (a.equal).by; there = get_append steps more a.step _ (a.equal).there } }

  pub said_more : (c : Values) → AreSaid sig ts steps c → AreSaid sig ts (steps ++ more) c
  said_more c a = record { numbers = λ n row e. number_more c n row (a.numbers n row e); leaves = λ n m e. leaf_more c n m (a.leaves n m e) }

  rule_more : (rule : Kept) → IsSaid sig ts steps rule → IsSaid sig ts (steps ++ more) rule
  rule_more rule a = record { names = a.names; states = record { by = (a.states).by; there = get_append steps more rule.just _ (a.states).there } }

  equation_more : (w : Waiting) → IsWaitingSaid sig ts steps w → IsWaitingSaid sig ts (steps ++ more) w
  equation_more w a =
      record { names = a.names; left_some = a.left_some; right_some = a.right_some; states = record { by = (a.states).by; there = get_append steps more w.step _ (a.states).there } }

  pub held_more : (c : Equations) → IsHeld sig ts steps c → IsHeld sig ts (steps ++ more) c
  held_more c a =
      record {
        rules = record { each = λ n rule e. rule_more rule ((a.rules).each n rule e) };
        waiting = all_weaker (IsWaitingSaid sig ts steps) (IsWaitingSaid sig ts (steps ++ more)) equation_more (waiting c.queue) a.waiting;
      }

-- ---- what steps rest on
module _ (before after : List (ℕ × Assumed)) (kept : AreKept before after) (sig : Signature) (old new : List Term) (steps more : List Step) (keeps : Keeps old new) (fits : Fits sig old steps) where
  pub rests_kept : (id : ℕ) → id < length steps → RestsOnAssumed old steps before id → RestsOnAssumed new (steps ++ more) after id
  rests_kept id l r =
      record {
        each = λ k tag s on at rule.
            let a = rests_before sig old steps more fits id k l on in
            let there : slice_get steps k ≡ Some s = sym (get_before steps more k a.1) ∙ at in
            let b = r.each k tag s a.0 there rule in (
              b.0,
              record {
                entry = (b.1).entry;
                at = kept.each b.0 (b.1).entry (b.1).at;
                lit_is = (b.1).lit_is ∙ sym (literal_kept old new keeps s (fits.within.each k s there));
                tag_is = (b.1).tag_is;
              },
            );
      }
