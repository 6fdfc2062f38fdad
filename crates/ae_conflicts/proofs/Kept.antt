-- Conflicts stay conflicts where names, steps and assumed literals are added.
use Rattle.std.specs.Prelude.{ℕ, ◌<◌, Bool, true, List, [], ◌∷◌, ◌++◌, ◌≡◌, length, slice_get, Some}
use Rattle.std.specs.List.{AllByRecursion}
use Rattle.std.proofs.Common.{refl, sym, ap, ◌∙◌, arith}
use Rattle.std.proofs.lemmas.Option.{slice_get_within}
use Rattle.ae_base.proofs.AllOf.{all_at}
use Rattle.ae_base.proofs.ListFacts.{get_append, get_before}
use Rattle.ae_core.specs.declared.terms.Sort.{Sort}
use Rattle.ae_core.specs.declared.terms.Head.{Head}
use Rattle.ae_core.specs.declared.terms.Op.TheVariants as op
use Rattle.ae_core.specs.declared.terms.Term.{Term}
use Rattle.ae_core.specs.declared.formulas.Formula.{Eq}
use Rattle.ae_core.specs.declared.formulas.Lit.{Lit}
use Rattle.ae_core.specs.declared.problems.Signature.{Signature}
use Rattle.ae_rules.specs.Lines.{equal}
use Rattle.ae_store.specs.Terms.{named, Keeps}
use Rattle.ae_store.proofs.TermLaws.{all_named_kept}
use Rattle.ae_just.specs.declared.steps.Step.{Step}
use Rattle.ae_just.specs.declared.steps.Side.{Side}
use Rattle.ae_just.specs.declared.steps.Side.TheVariants as side
use Rattle.ae_just.specs.declared.steps.Times.{Times}
use Rattle.ae_just.specs.Sides.{side_term, product, numeric, joined, whole, sum_from, many_from, IsWithin, ArePartsWithin}
use Rattle.ae_just.specs.Steps.{fact_of, literal, premises, IsStepWithin, Fits}
use Rattle.ae_just.specs.Needed.{RestsOn, itself, premise}
use Rattle.ae_just.proofs.EmitLaws.{rest_on_earlier}
use Rattle.ae_conflicts.specs.declared.assumed.Assumed.{Assumed}
use Rattle.ae_conflicts.specs.declared.conflicts.Conflict.{Conflict}
use Rattle.ae_conflicts.specs.declared.conflicts.Conflict.TheVariants as conflict
use Rattle.ae_conflicts.specs.Saying.{IsAssumedAt, AreKept, SaysEqual, SayEqual}
use Rattle.ae_conflicts.specs.Conflicting.{IsConflict}

-- ---- terms of sides
module _ (old new : List Term) (keeps : Keeps old new) where
  name_kept : (a : ℕ) → a < length old → named new a ≡ named old a
  name_kept a l = let e : named new a ∷ [] ≡ named old a ∷ [] = all_named_kept old new keeps (a ∷ []) (l, tt) in cc e

  summand_kept : (real : Bool) (p : Times) → p.name < length old → product real new p ≡ product real old p
  summand_kept real p l = ap (λ t. joined (numeric real op.Mul) [] (whole real p.factor) t) (name_kept p.name l)

  sum_kept : (real : Bool) (t : Term) (ps : List Times) → ArePartsWithin (length old) ps → sum_from real new t ps ≡ sum_from real old t ps
  sum_kept real t [] w = refl
  sum_kept real t (p ∷ ps) w = ap (λ x. sum_from real new (joined (numeric real op.Add) [] t x) ps) (summand_kept real p w.0) ∙ sum_kept real (joined (numeric real op.Add) [] t (product real old p)) ps w.1

  many_kept : (h : Head) (ss : List Sort) (t : Term) (ns : List ℕ) → AllByRecursion (λ a. a < length old) ns → many_from h ss new t ns ≡ many_from h ss old t ns
  many_kept h ss t [] w = refl
  many_kept h ss t (n ∷ ns) w = ap (λ x. many_from h ss new (joined h ss t x) ns) (name_kept n w.0) ∙ many_kept h ss (joined h ss t (named old n)) ns w.1

  side_kept : (s : Side) → IsWithin (length old) s → side_term new s ≡ side_term old s
  side_kept (side.Name n) w = name_kept n w
  side_kept (side.Sum [] c real) w = refl
  side_kept (side.Sum (p ∷ ps) c real) w =
      ap (λ t. joined (numeric real op.Add) [] t (whole real c)) (ap (λ t. sum_from real new t ps) (summand_kept real p w.0) ∙ sum_kept real (product real old p) ps w.1)
  side_kept (side.Many u []) w = refl
  side_kept (side.Many u (n ∷ ns)) w = ap (λ t. many_from u.head u.sorts new t ns) (name_kept n w.0) ∙ many_kept u.head u.sorts (named old n) ns w.1

  pub fact_kept : (s : Step) → IsStepWithin (length old) s → fact_of new s ≡ fact_of old s
  fact_kept s w = λ i. equal (side_kept s.left w.0 i) (side_kept s.right w.1 i)

  pub literal_kept : (s : Step) → IsStepWithin (length old) s → literal new s ≡ literal old s
  literal_kept s w = λ i. record { positive = true; formula = Eq (side_kept s.left w.0 i) (side_kept s.right w.1 i) }

-- ---- what steps rest on
module _ (sig : Signature) (ts : List Term) (steps more : List Step) (fits : Fits sig ts steps) where
  pub rests_before : (id k : ℕ) → id < length steps → RestsOn (steps ++ more) id k → RestsOn steps id k × (k < length steps)
  rests_before id k l itself = (itself, l)
  rests_before id k l (premise j p s r at m) =
      let a = rests_before id j l r in
      let there : slice_get steps j ≡ Some s = sym (get_before steps more j a.1) ∙ at in
      let low : k < j = all_at (λ q. q < j) (premises s.rule) m.place k ((rest_on_earlier sig ts steps fits.allowed).each j s there) m.is in
      (premise j k s a.0 there m, omega (arith, a.1, low))

-- ---- conflicts
module _ (before after : List (ℕ × Assumed)) (kept : AreKept before after) where
  assumed_kept : (place : ℕ) (lit : Lit) (tag : ℕ) → IsAssumedAt before place lit tag → IsAssumedAt after place lit tag
  assumed_kept place lit tag a = record { entry = a.entry; at = kept.each place a.entry a.at; lit_is = a.lit_is; tag_is = a.tag_is }

  module _ (sig : Signature) (old new : List Term) (steps more : List Step) (keeps : Keeps old new) (fits : Fits sig old steps) where
    says_kept : (id : ℕ) (s t : Term) → SaysEqual old steps before id s t → SaysEqual new (steps ++ more) after id s t
    says_kept id s t x =
        let l : id < length steps = slice_get_within steps id x.step x.is in
        record {
          step = x.step;
          is = get_append steps more id x.step x.is;
          states = fact_kept old new keeps x.step (fits.within.each id x.step x.is) ∙ x.states;
          rests = record {
            each = λ k tag y r e q.
                let a = rests_before sig old steps more fits id k l r in
                let there : slice_get steps k ≡ Some y = sym (get_before steps more k a.1) ∙ e in
                let b = (x.rests).each k tag y a.0 there q in
                let c = assumed_kept b.0 (literal old y) tag b.1 in
                (b.0, record { entry = c.entry; at = c.at; lit_is = c.lit_is ∙ sym (literal_kept old new keeps y (fits.within.each k y there)); tag_is = c.tag_is });
          };
        }

    say_kept : (ids : List ℕ) (us vs : List Term) → SayEqual old steps before ids us vs → SayEqual new (steps ++ more) after ids us vs
    say_kept [] [] [] x = tt
    say_kept (k ∷ ks) (u ∷ us) (v ∷ vs) x = (says_kept k u v x.0, say_kept ks us vs x.1)
    say_kept [] [] (v ∷ vs) x = absurd x
    say_kept [] (u ∷ us) vs x = absurd x
    say_kept (k ∷ ks) [] vs x = absurd x
    say_kept (k ∷ ks) (u ∷ us) [] x = absurd x

    pub conflict_kept : (c : Conflict) → IsConflict sig old steps before c → IsConflict sig new (steps ++ more) after c
    conflict_kept (conflict.Differ place id) x =
        record { left = x.left; right = x.right; tag = x.tag; denied = assumed_kept place _ x.tag x.denied; says = says_kept id x.left x.right x.says }
    conflict_kept (conflict.Opposed positive negative ids) x = record {
      predicate = x.predicate;
      sorts = x.sorts;
      args = x.args;
      others = x.others;
      tag = x.tag;
      other_tag = x.other_tag;
      holds = assumed_kept positive _ x.tag x.holds;
      fails = assumed_kept negative _ x.other_tag x.fails;
      sorted = x.sorted;
      others_sorted = x.others_sorted;
      say = say_kept ids x.args x.others x.say;
    }
    conflict_kept (conflict.Mixed id) x = record { first = x.first; second = x.second; first_is = x.first_is; second_is = x.second_is; differ = x.differ; says = says_kept id _ _ x.says }
    conflict_kept (conflict.Constant id) x = record { left = x.left; right = x.right; numbers = x.numbers; number = x.number; other = x.other; says = says_kept id x.left x.right x.says }
    conflict_kept (conflict.Unsolvable id) x = record { left = x.left; right = x.right; integers = x.integers; unsolvable = x.unsolvable; says = says_kept id x.left x.right x.says }
