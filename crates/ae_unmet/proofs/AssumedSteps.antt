-- A step that assumes a literal, and steps for pairs of names.
use Rattle.std.specs.Prelude.{ℕ, zero, suc, ◌+◌, ◌<◌, true, List, [], ◌∷◌, ◌++◌, ◌≡◌, get_or, map, take, length, slice_get, Some, Result, Ok, Err, IfOk, OnOk}
use Rattle.std.proofs.Common.{refl, sym, ap, ◌∙◌, subst, arith}
use Rattle.std.proofs.lemmas.List.{map-append, take_more}
use Rattle.std.proofs.lemmas.Option.{same_Some}
use Rattle.ae_base.specs.Options.{known}
use Rattle.ae_base.proofs.ListFacts.{get_seam}
use Rattle.ae_core.specs.Sorts.{sort_of}
use Rattle.ae_core.specs.declared.formulas.Formula.{Eq}
use Rattle.ae_core.specs.declared.terms.Term.{Term}
use Rattle.ae_core.proofs.SortFacts.{same_known_of}
use Rattle.ae_pmap.specs.Forest.{present}
use Rattle.ae_store.specs.Parts.{IsIn}
use Rattle.ae_store.specs.Stores.{Stored}
use Rattle.ae_store.specs.Terms.{named}
use Rattle.ae_store.proofs.PartLaws.{in_none}
use Rattle.ae_store.proofs.StoreLaws.{name_term}
use Rattle.ae_just.specs.Needed.{RestsOn, itself, premise}
use Rattle.ae_just.specs.Steps.{IsAllowedStep, premises, literal}
use Rattle.ae_just.specs.declared.steps.Rule.{Rule}
use Rattle.ae_just.specs.declared.steps.Rule.TheVariants as rule
use Rattle.ae_just.specs.declared.steps.Side.TheVariants as side
use Rattle.ae_just.specs.declared.steps.Step.{Step}
use Rattle.ae_state_steps.specs.ValueSteps.{StatesEqual}
use Rattle.ae_theory.specs.Names.{terms_in}
use Rattle.ae_conflicts.specs.declared.assumed.Assumed.{Assumed}
use Rattle.ae_conflicts.specs.Saying.{IsAssumedAt, RestsOnAssumed, SaysEqual, SayEqual}
use Rattle.ae_literals.specs.declared.said.Said.TheVariants.{Equal}
use Rattle.ae_state.specs.declared.holding.Holding.{Holding}
use Rattle.ae_unmet.specs.Inner.Growing.{HasGrown}
use Rattle.ae_unmet.specs.Inner.Found.{HaveOneValue, HaveOneValueEach}
use Rattle.ae_unmet.proofs.OneValue.{say_more, say_still}
use Rattle.ae_unmet.proofs.SaidPlaces.{IsSaidAt}

-- ---- a step that assumes what a literal says
module _ (s : Stored) (o : Holding) (place l r : ℕ) (w : IsSaidAt s o place (Equal true l r)) (tag : ℕ) (is : tag ≡ (w.entry).tag) where
  abbrev pub assuming : Step
  assuming = record { left = side.Name l; right = side.Name r; rule = rule.Hyp tag }

  left_is : named (terms_in s) l ≡ (w.says).left
  left_is = name_term (terms_in s) l (w.says).left (w.says).left_at

  right_is : named (terms_in s) r ≡ (w.says).right
  right_is = name_term (terms_in s) r (w.says).right (w.says).right_at

  pub assuming_allowed : (steps : List Step) → IsAllowedStep s.signature (terms_in s) steps assuming
  assuming_allowed steps =
      let a : sort_of s.signature (named (terms_in s) l) ≡ Some (w.says).sort = ap (sort_of s.signature) left_is ∙ (w.says).left_sorted in
      let b : sort_of s.signature (named (terms_in s) r) ≡ Some (w.says).sort = ap (sort_of s.signature) right_is ∙ (w.says).right_sorted in
      record { sorted = same_known_of (sort_of s.signature (named (terms_in s) l)) (sort_of s.signature (named (terms_in s) r)) (ap known a) (a ∙ sym b); allowed = tt }

  module _ (old new : List Step) (added : new ≡ old ++ assuming ∷ []) where
    stands : slice_get new (length old) ≡ Some assuming
    stands = ap (λ (steps : List Step). slice_get steps (length old)) added ∙ get_seam old [] assuming

    -- it rests on itself alone
    alone : (k : ℕ) → RestsOn new (length old) k → k ≡ length old
    alone k itself = refl
    alone k (premise j p st on at m) =
        let here : slice_get new (length old) ≡ Some st = ap (slice_get new) (sym (alone j on)) ∙ at in
        let same : st ≡ assuming = same_Some st assuming (sym here ∙ stands) in
        absurd (in_none k (subst (λ (x : Step). IsIn k (premises x.rule)) same m))

    tag_same : (i : ℕ) → ◌≡◌ {A = Rule} (rule.Hyp tag) (rule.Hyp i) → (w.entry).tag ≡ i
    tag_same i e = let f : tag ≡ i = cc e in sym is ∙ f

    assumed_here : IsAssumedAt (present o.assumed) place (literal (terms_in s) assuming) (w.entry).tag
    assumed_here =
        record { entry = w.entry; at = w.at; lit_is = (w.says).is ∙ (λ k. record { positive = true; formula = Eq (sym left_is k) (sym right_is k) }); tag_is = refl }

    assuming_rests : RestsOnAssumed (terms_in s) new (present o.assumed) (length old)
    assuming_rests = record { each = each }
      where
        each : (k i : ℕ) (st : Step) → RestsOn new (length old) k → slice_get new k ≡ Some st → st.rule ≡ rule.Hyp i → (q : ℕ) × IsAssumedAt (present o.assumed) q (literal (terms_in s) st) i
        each k i st on at e =
            let same : st ≡ assuming = same_Some st assuming (sym (ap (slice_get new) (sym (alone k on)) ∙ at) ∙ stands) in
            let tags : (w.entry).tag ≡ i = tag_same i (sym (ap (λ (x : Step). x.rule) same) ∙ e) in
            (place, subst (λ (x : Step × ℕ). IsAssumedAt (present o.assumed) place (literal (terms_in s) x.0) x.1) (λ k. (sym same k, tags k)) assumed_here)

  pub assuming_states : {E : Type 0} (old new : List Step) (res : Result ℕ E) → OnOk res (new ≡ old ++ assuming ∷ []) → IfOk res (λ id. id ≡ length old) → IfOk res (λ id. StatesEqual new id l r)
  assuming_states old new (Ok id) added number = record { by = rule.Hyp tag; there = ap (slice_get new) number ∙ stands old new added }
  assuming_states old new (Err e) added number = tt

  pub assuming_rests_on : {E : Type 0} (old new : List Step) (res : Result ℕ E) → OnOk res (new ≡ old ++ assuming ∷ []) → IfOk res (λ id. id ≡ length old)
      → IfOk res (λ id. RestsOnAssumed (terms_in s) new (present o.assumed) id)
  assuming_rests_on old new (Ok id) added number = subst (RestsOnAssumed (terms_in s) new (present o.assumed)) (sym number) (assuming_rests old new added)
  assuming_rests_on old new (Err e) added number = tt

-- ---- pairs of names
pub pair_value : (s : Stored) (o : Holding) (ms ns : List ℕ) (i : ℕ) → i < length ms → HaveOneValueEach s o ms ns → HaveOneValue s o (get_or ms i 0) (get_or ns i 0)
pair_value s o [] ns i l h = absurd (omega (arith, l))
pair_value s o (m ∷ ms) [] i l h = absurd h
pair_value s o (m ∷ ms) (n ∷ ns) zero l h = h.0
pair_value s o (m ∷ ms) (n ∷ ns) (suc i) l h = pair_value s o ms ns i (omega (arith, l)) h.1

-- the steps for the first names, and one more
module _ (s : Stored) (o mid new : Holding) (a : HasGrown s o mid) (b : HasGrown s mid new) where
  pub pairs_more : (ms ns : List ℕ) (i : ℕ) → i < length ms → i < length ns → (ids : List ℕ) (id : ℕ)
      → SayEqual (terms_in s) mid.justs (present o.assumed) ids (map (named (terms_in s)) (take i ms)) (map (named (terms_in s)) (take i ns))
      → SaysEqual (terms_in s) new.justs (present mid.assumed) id (named (terms_in s) (get_or ms i 0)) (named (terms_in s) (get_or ns i 0)) → (all : List ℕ) → all ≡ ids ++ id ∷ []
      → SayEqual (terms_in s) new.justs (present o.assumed) all (map (named (terms_in s)) (take (i + 1) ms)) (map (named (terms_in s)) (take (i + 1) ns))
  pairs_more ms ns i l k ids id h one all e =
      let ts = terms_in s in
      let f = named ts in
      let held = present o.assumed in
      let same : present mid.assumed ≡ held = ap (λ (x : Holding). present x.assumed) a.others in
      let before : SayEqual ts new.justs held ids (map f (take i ms)) (map f (take i ns)) =
      subst (λ (steps : List Step). SayEqual ts steps held ids (map f (take i ms)) (map f (take i ns))) (sym (b.justs).1)
      (say_still s.signature ts held mid.justs (b.justs).0 a.steps ids (map f (take i ms)) (map f (take i ns)) h) in
      let now : SaysEqual ts new.justs held id (f (get_or ms i 0)) (f (get_or ns i 0)) = subst (λ (x : List (ℕ × Assumed)). SaysEqual ts new.justs x id (f (get_or ms i 0)) (f (get_or ns i 0))) same one in
      let first : map f (take i ms) ++ f (get_or ms i 0) ∷ [] ≡ map f (take (i + 1) ms) = sym (map-append f (take i ms) (get_or ms i 0 ∷ [])) ∙ ap (map f) (sym (take_more ms i 0 l)) in
      let second : map f (take i ns) ++ f (get_or ns i 0) ∷ [] ≡ map f (take (i + 1) ns) = sym (map-append f (take i ns) (get_or ns i 0 ∷ [])) ∙ ap (map f) (sym (take_more ns i 0 k)) in
      subst (λ (x : List ℕ × List Term × List Term). SayEqual ts new.justs held x.0 x.1 x.2) (λ j. (sym e j, first j, second j))
      (say_more ts new.justs held ids (map f (take i ms)) (map f (take i ns)) id (f (get_or ms i 0)) (f (get_or ns i 0)) before now)
