-- Steps that state numbers of names, behind those that are held, and that two names of one number are equal.
use Rattle.std.specs.Prelude.{ℕ, ◌^◌, ℤ, pos, neg_ℤ, unsigned_abs, ◌≡◌, Bool, List, [], ◌∷◌, ◌++◌, length, slice_get, Option, Some, None}
use Rattle.std.proofs.Common.{refl, sym, subst, inl, inr}
use Rattle.std.proofs.lemmas.Bool.{lt-ltb}
use Rattle.std.proofs.lemmas.Option.{slice_get_within}
use Rattle.ae_base.proofs.ListFacts.{last_or_before}
use Rattle.ae_conflicts.specs.Saying.{RestsOnAssumed}
use Rattle.ae_conflicts.specs.declared.assumed.Assumed.{Assumed}
use Rattle.ae_core.specs.declared.proofs.Scaled.{Scaled}
use Rattle.ae_core.specs.declared.terms.Term.{Term}
use Rattle.ae_core.specs.declared.problems.Signature.{Signature}
use Rattle.ae_equal_steps.specs.Inner.Pairs.{AreSameNumbers}
use Rattle.ae_equal_steps.proofs.Adding.{own_number, row_stated, said_kept}
use Rattle.ae_just.specs.Sides.{side_term, sum_of}
use Rattle.ae_just.specs.Steps.{Fits}
use Rattle.ae_just.specs.declared.steps.Rule.TheVariants as rule
use Rattle.ae_just.specs.declared.steps.Side.TheVariants as side
use Rattle.ae_just.specs.declared.steps.Step.{Step}
use Rattle.ae_just.specs.declared.steps.Times.{Times}
use Rattle.ae_just.proofs.BuiltSides.{numbers_of}
use Rattle.ae_just.proofs.WithinLaws.{fits_push}
use Rattle.ae_linear.specs.declared.rows.Row.{Row}
use Rattle.ae_linear.specs.Rows.{row_at}
use Rattle.ae_num.specs.declared.forms.Lin.{Lin}
use Rattle.ae_settled.specs.Valued.{AreValues}
use Rattle.ae_state_steps.specs.ValueSteps.{LeafStep, AlikeStep, IsWritten, StatesValue, StatesEqual, equal_step, name_side, value_side, value_step, times_of}
use Rattle.ae_store.specs.Growing.{IsFront}
use Rattle.ae_store.specs.Terms.{named}
use Rattle.ae_store.proofs.EnterLaws.{front_same}
use Rattle.ae_store.proofs.PartLaws.{in_none}
use Rattle.ae_strips.proofs.Freedom.{each_two}
use Rattle.ae_value_fitting.specs.Fitting.{system_in, ArePatterns, AreSaid}
use Rattle.ae_value_fitting.specs.Sources.{by_number}
use Rattle.ae_value_fitting.proofs.Written.{written}
use Rattle.ae_value_steps.specs.Stating.{AddsStep}
use Rattle.ae_value_steps.proofs.Added.{front, states_value, states_equal, value_kept}
use Rattle.ae_value_table.specs.Table.{Contents, number_at, held}
use Rattle.ae_value_turns.specs.Renewed.{AreGrounded}
use Rattle.ae_value_turns.proofs.GroundedSteps.{IsGrounded, added_ground, still_grounded, all_still}

-- the terms of the sides of all steps are so
abbrev pub AreSides : (Term → Type 0) → List Term → List Step → Type 0
AreSides P ts steps = (id : ℕ) (p : Step) → slice_get steps id ≡ Some p → P (side_term ts p.left) × P (side_term ts p.right)

sides_more : (P : Term → Type 0) (ts : List Term) (steps : List Step) (p : Step) → AreSides P ts steps → P (side_term ts p.left) → P (side_term ts p.right) → AreSides P ts (steps ++ p ∷ [])
sides_more P ts steps p all l r id q at =
    elim (last_or_before steps p id q at) [ inl a ↦ all id q a | inr e ↦ subst (λ (x : Step). P (side_term ts x.left) × P (side_term ts x.right)) e (l, r) ]

module _ (leaf : LeafStep) (same_value : AlikeStep) (sig : Signature) (ts : List Term) (assumed : List (ℕ × Assumed)) (c : Contents) (P : Term → Type 0) (names : (n : ℕ) → P (named ts n))
    (sums : (real : Bool) (ps : List Times) (z : ℤ) → P (sum_of real ts ps z)) where
  -- a step, among those of before or behind them, states the number of the name, and rests on assumed literals alone
  record IsNumberStated (old : List Step) (real : Bool) (n : ℕ) : Type 0 where
    pub new : List Step
    pub more : IsFront old new
    pub fits : Fits sig ts new
    pub id : ℕ
    pub states : StatesValue new id real n (number_at c n)
    pub rests : RestsOnAssumed ts new assumed id
    pub sides : AreSides P ts new

  state_number : (old : List Step) → Fits sig ts old → AreSides P ts old → AreSaid sig ts old c → AreGrounded ts assumed old c → (real : Bool) (n : ℕ) → IsWritten sig ts real n (number_at c n) → IsNumberStated old real n
  state_number old fits sides said all real n w = by_row (row_at c.rows n) refl
    where
      by_row : (r : Option Row) → row_at c.rows n ≡ r → IsNumberStated old real n
      by_row (Some row) at =
          let a = said.numbers n row at in
          record {
            new = old;
            more = front_same old;
            fits = fits;
            id = a.step;
            states = (row_stated sig ts old c said real n (number_at c n) row a.step at refl a.just w).stated;
            rests = all a.step (record { name = n; put = by_number row at; just = a.just });
            sides = sides;
          }
      by_row None at =
          let f : Lin = number_at c n in
          let s : Step = value_step real n f (pos 1) [] in
          let new : List Step = old ++ s ∷ [] in
          let a : AddsStep old new (length old) (name_side real n f) (value_side real f) [] = record { by = rule.Lin (pos 1) []; added = refl; number = refl; assumes = refl; rests_on = refl } in
          let fit : Fits sig ts new = fits_push sig ts old new s fits (leaf sig ts old real n f w (own_number c n f refl at)) (numbers_of sig ts real n w.name, numbers_of sig ts real n w.name) (refl, tt) refl in
          record {
            new = new;
            more = front old new (length old) (name_side real n f) (value_side real f) [] a;
            fits = fit;
            id = length old;
            states = states_value old new (length old) real n f [] a;
            rests = added_ground ts assumed sig old new (length old) (name_side real n f) (value_side real f) [] a fit (λ p m. absurd (in_none p m));
            sides = sides_more P ts old s sides (sums real (record { factor = f.den; name = n } ∷ []) (pos 0)) (sums real (times_of f.parts) f.constant);
          }

  -- a step equates two names, and rests on assumed literals alone
  pub record IsEqualStated (m n : ℕ) : Type 0 where
    pub steps : List Step
    pub fits : Fits sig ts steps
    pub id : ℕ
    pub states : StatesEqual steps id m n
    pub rests : RestsOnAssumed ts steps assumed id
    pub sides : AreSides P ts steps

  module _ (patterns : ArePatterns sig ts (held c)) (are : AreValues sig (system_in ts c)) (old : List Step) (fits : Fits sig ts old) (sides : AreSides P ts old) (said : AreSaid sig ts old c) (all : AreGrounded ts assumed old c) where
    pub state_equal : (m n : ℕ) → AreSameNumbers sig ts c m n → IsEqualStated m n
    state_equal m n same =
        let l : Lin = number_at c m in
        let left : IsWritten sig ts same.real m l = written sig ts c patterns are same.real m same.left_within same.left in
        let right : IsWritten sig ts same.real n (number_at c n) = written sig ts c patterns are same.real n same.right_within same.right in
        let a = state_number old fits sides said all same.real m left in
        let b = state_number a.new a.fits a.sides (said_kept sig ts old a.new a.more c said) (all_still ts assumed sig old a.new a.more a.fits c said all) same.real n right in
        let first : StatesValue b.new a.id same.real m l = value_kept a.new b.new b.more a.id same.real m l a.states in
        let second : StatesValue b.new b.id same.real n l = subst (StatesValue b.new b.id same.real n) (sym same.same) b.states in
        let one : Scaled = record { factor = pos 1; line = a.id } in
        let other : Scaled = record { factor = neg_ℤ (pos 1); line = b.id } in
        let s : Step = equal_step m n l.den (one ∷ other ∷ []) in
        let new : List Step = b.new ++ s ∷ [] in
        let add : AddsStep b.new new (length b.new) (side.Name m) (side.Name n) (a.id ∷ b.id ∷ []) =
        record { by = rule.Lin l.den (one ∷ other ∷ []); added = refl; number = refl; assumes = refl; rests_on = refl } in
        let fit : Fits sig ts new =
        fits_push sig ts b.new new s b.fits (same_value sig ts b.new same.real m n a.id b.id l left (subst (IsWritten sig ts same.real n) (sym same.same) right) first second) (tt, tt)
        (lt-ltb (unsigned_abs l.den) (2 ^ 127) left.normal.within.0, (refl, (refl, tt))) refl in
        let still : IsGrounded ts assumed b.new a.id = still_grounded ts assumed sig a.new b.new b.more b.fits a.id (slice_get_within a.new a.id _ a.states.there) a.rests in
        record {
          steps = new;
          fits = fit;
          id = length b.new;
          states = states_equal b.new new (length b.new) m n (a.id ∷ b.id ∷ []) add;
          rests = added_ground ts assumed sig b.new new (length b.new) (side.Name m) (side.Name n) (a.id ∷ b.id ∷ []) add fit (λ p k. each_two (IsGrounded ts assumed b.new) a.id b.id p still b.rests k);
          sides = sides_more P ts b.new s b.sides (names m) (names n);
        }
