-- The sorts that written types are: of declared types with their number of arguments, and of the declaration's type variables.
use Rattle.std.proofs.Common.{arith, ◌≡◌, ◌∙◌, ◌<◌, ℕ, suc, Bool, true, false, not, nat_eq, nat_lt, List, [], ◌∷◌, ◌++◌, map, length, refl, sym, ap}
use Rattle.std.proofs.Common.{subst, Option, Some, None, true≢false}
use Rattle.std.specs.List.{AllByRecursion, list_all}
use Rattle.std.specs.Str.{bytes_eq}
use Rattle.std.proofs.lemmas.Bool.{and_parts, and_from, lt-ltb, ltb-true}
use Rattle.std.proofs.lemmas.Bool.Decides.{nat_tests}
use Rattle.std.proofs.lemmas.List.{length-map, length-append}
use Rattle.std.proofs.lemmas.Option.{none-some, same_Some}
use Rattle.ae_base.proofs.AllOf.{test_of_all}
use Rattle.ae_core.specs.Inner.Induction.{by_sorts}
use Rattle.ae_core.specs.Sorts.{sort_ok, type_fits}
use Rattle.ae_core.specs.Signatures.{names_below, names_below_step}
use Rattle.ae_core.proofs.Recursion.{fold_var, fold_int, fold_real, fold_bool, fold_unit, fold_named}
use Rattle.ae_core.proofs.SortLaws.{ok_var, ok_rigid, ok_int, ok_real, ok_bool, ok_unit, ok_named}
use Rattle.ae_core.specs.declared.terms.Sort.{Sort, Var, Int, Real, Bool as BoolSort, Unit as UnitSort, Named}
use Rattle.ae_core.specs.declared.problems.Signature.{Signature}
use Rattle.ae_core.specs.declared.problems.TypeEntry.{TypeEntry}
use Rattle.ae_syntax.specs.declared.spans.Span.{Span}
use Rattle.ae_syntax.specs.declared.types.WrittenType.{WrittenType}
use Rattle.ae_elab.specs.declared.faults.TypeFault.TheVariants as fault
use Rattle.ae_elab.specs.declared.grounds.Ground.{Ground}
use Rattle.ae_elab.specs.declared.grounds.Ground.TheVariants as ground
use Rattle.ae_elab.specs.Conditions.{test}
use Rattle.ae_elab.specs.Declarations.{generalize}
use Rattle.ae_elab.specs.Rules.{Passed, give, each, occurrence}
use Rattle.ae_elab.specs.Scope.{Scope, name_at, first_place, after_one, type_number}
use Rattle.ae_elab.specs.Scope as scope
use Rattle.ae_elab.specs.WrittenTypes.{TypeRule, type_rule, variable_rule, parameter, is_other, named_rule}
use Rattle.ae_elab.proofs.EntryLaws.{general_named, general_rigid, general_int, general_real, general_bool, general_unit}
use Rattle.ae_typed_laws.proofs.BuiltRules.{int_rule, real_rule, bool_rule, unit_rule, var_rule, named_type_rule}
use Rattle.ae_typed_laws.proofs.ParsedTrees.{IsWritten, AreWritten, is_int, is_real, is_bool, is_unit, is_var, is_named, and_type, no_types}
use Rattle.ae_typed_laws.proofs.MetConditions.{grows_not, Gives, gives_value, gives_then, gives_after, Keeps, Each, gives_each}

-- ---- sorts in a signature that has more
module _ (sig sig' : Signature) (v r v' r' : ℕ → Bool) (fits : (h n : ℕ) → type_fits sig h n ≡ true → type_fits sig' h n ≡ true)
    (vs : (i : ℕ) → v i ≡ true → v' i ≡ true) (rs : (i : ℕ) → r i ≡ true → r' i ≡ true) where
  Weakens : Sort → Type 0
  Weakens s = sort_ok sig v r s ≡ true → sort_ok sig' v' r' s ≡ true

  all_weaken : (ss : List Sort) → AllByRecursion Weakens ss → list_all (sort_ok sig v r) ss ≡ true → list_all (sort_ok sig' v' r') ss ≡ true
  unfolding Weakens
  all_weaken [] a h = refl
  all_weaken (s ∷ ss) a h =
      let p = and_parts (sort_ok sig v r s) (list_all (sort_ok sig v r) ss) h in
      and_from (sort_ok sig' v' r' s) (list_all (sort_ok sig' v' r') ss) (a.0 p.0) (all_weaken ss a.1 p.1)

  named_weakens : (h : ℕ) (ss : List Sort) → AllByRecursion Weakens ss → Weakens (Named h ss)
  unfolding Weakens
  named_weakens h ss a e =
      let p = and_parts (type_fits sig h (length ss)) (list_all (sort_ok sig v r) ss) (sym (ok_named sig v r h ss) ∙ e) in
      ok_named sig' v' r' h ss ∙ and_from (type_fits sig' h (length ss)) (list_all (sort_ok sig' v' r') ss) (fits h (length ss) p.0) (all_weaken ss a p.1)

  pub ok_weaker : (s : Sort) → sort_ok sig v r s ≡ true → sort_ok sig' v' r' s ≡ true
  unfolding Weakens
  ok_weaker =
      by_sorts Weakens
      (λ i h. ok_var sig' v' r' i ∙ vs i (sym (ok_var sig v r i) ∙ h)) (λ i h. ok_rigid sig' v' r' i ∙ rs i (sym (ok_rigid sig v r i) ∙ h))
      (λ h. ok_int sig' v' r') (λ h. ok_real sig' v' r') (λ h. ok_bool sig' v' r') (λ h. ok_unit sig' v' r') named_weakens

-- ---- a written type variable is a variable of the entry
module _ (sig : Signature) (n : ℕ) where
  Generalizes : Sort → Type 0
  Generalizes s = sort_ok sig (λ i. false) (λ i. nat_lt i n) s ≡ true → sort_ok sig (λ i. nat_lt i n) (λ i. false) (generalize s) ≡ true

  abbrev ok_after : Sort → Bool
  ok_after = sort_ok sig (λ i. nat_lt i n) (λ i. false)

  all_general : (ss : List Sort) → AllByRecursion Generalizes ss → list_all (sort_ok sig (λ i. false) (λ i. nat_lt i n)) ss ≡ true → list_all ok_after (map generalize ss) ≡ true
  unfolding Generalizes
  all_general [] a h = refl
  all_general (s ∷ ss) a h =
      let p = and_parts (sort_ok sig (λ i. false) (λ i. nat_lt i n) s) (list_all (sort_ok sig (λ i. false) (λ i. nat_lt i n)) ss) h in
      and_from (ok_after (generalize s)) (list_all ok_after (map generalize ss)) (a.0 p.0) (all_general ss a.1 p.1)

  named_general : (h : ℕ) (ss : List Sort) → AllByRecursion Generalizes ss → Generalizes (Named h ss)
  unfolding Generalizes
  named_general h ss a e =
      let p = and_parts (type_fits sig h (length ss)) (list_all (sort_ok sig (λ i. false) (λ i. nat_lt i n)) ss) (sym (ok_named sig (λ i. false) (λ i. nat_lt i n) h ss) ∙ e) in
      ap ok_after (general_named h ss) ∙ ok_named sig (λ i. nat_lt i n) (λ i. false) h (map generalize ss)
      ∙ and_from (type_fits sig h (length (map generalize ss))) (list_all ok_after (map generalize ss)) (ap (type_fits sig h) (length-map ss generalize) ∙ p.0) (all_general ss a p.1)

  var_general : (i : ℕ) → Generalizes (Var i)
  unfolding Generalizes
  var_general i h = let f : ◌≡◌ {A = Bool} false true = sym (ok_var sig (λ i. false) (λ i. nat_lt i n) i) ∙ h in cc f

  pub general_ok : (s : Sort) → sort_ok sig (λ i. false) (λ i. nat_lt i n) s ≡ true → sort_ok sig (λ i. nat_lt i n) (λ i. false) (generalize s) ≡ true
  unfolding Generalizes
  general_ok =
      by_sorts Generalizes var_general
      (λ i h. ap ok_after (general_rigid i) ∙ ok_var sig (λ i. nat_lt i n) (λ i. false) i ∙ sym (ok_rigid sig (λ i. false) (λ i. nat_lt i n) i) ∙ h)
      (λ h. ap ok_after general_int ∙ ok_int sig (λ i. nat_lt i n) (λ i. false)) (λ h. ap ok_after general_real ∙ ok_real sig (λ i. nat_lt i n) (λ i. false))
      (λ h. ap ok_after general_bool ∙ ok_bool sig (λ i. nat_lt i n) (λ i. false)) (λ h. ap ok_after general_unit ∙ ok_unit sig (λ i. nat_lt i n) (λ i. false))
      named_general

-- ---- where the types' numbers are below
pub below_var : (n i : ℕ) → names_below n (Var i) ≡ true
unfolding names_below
below_var n i = fold_var Bool (names_below_step n) i

pub below_int : (n : ℕ) → names_below n Int ≡ true
unfolding names_below
below_int n = fold_int Bool (names_below_step n)

pub below_real : (n : ℕ) → names_below n Real ≡ true
unfolding names_below
below_real n = fold_real Bool (names_below_step n)

pub below_bool : (n : ℕ) → names_below n BoolSort ≡ true
unfolding names_below
below_bool n = fold_bool Bool (names_below_step n)

pub below_unit : (n : ℕ) → names_below n UnitSort ≡ true
unfolding names_below
below_unit n = fold_unit Bool (names_below_step n)

all_itself : {X : Type 0} (p : X → Bool) (xs : List X) → list_all p xs ≡ true → list_all (λ b. b) (map p xs) ≡ true
all_itself p [] h = refl
all_itself p (x ∷ xs) h =
    let q = and_parts (p x) (list_all p xs) h in
    and_from (p x) (list_all (λ b. b) (map p xs)) q.0 (all_itself p xs q.1)

pub below_named : (n h : ℕ) (ss : List Sort) → nat_lt h n ≡ true → list_all (names_below n) ss ≡ true → names_below n (Named h ss) ≡ true
unfolding names_below
below_named n h ss l a =
    fold_named Bool (names_below_step n) h ss ∙ and_from (nat_lt h n) (list_all (λ b. b) (map (names_below n) ss)) l (all_itself (names_below n) ss a)

-- ---- names looked up
chosen_within : {X : Type 0} (b : Bool) (o : Option ℕ) (xs : List X) (n : ℕ) → ((k : ℕ) → o ≡ Some k → k < length xs) → elim b [ true ↦ Some 0 | false ↦ after_one o ] ≡ Some n → n < suc (length xs)
chosen_within true o xs n h e = let z = same_Some 0 n e in omega arith
chosen_within false None xs n h e = absurd (none-some n e)
chosen_within false (Some k) xs n h e =
    let z = same_Some (suc k) n e in
    let l = h k refl in
    omega arith

pub first_within : {X : Type 0} (p : X → Bool) (xs : List X) (n : ℕ) → first_place p xs ≡ Some n → n < length xs
first_within p [] n e = absurd (none-some n e)
first_within p (x ∷ xs) n e = chosen_within (p x) (first_place p xs) xs n (λ k f. first_within p xs k f) e

other_number : (h own : ℕ) → not (nat_eq h own) ≡ true → h < suc own → nat_lt h own ≡ true
other_number h own e l = grind (arith, nat_tests, e, l)

-- ---- the rules
module _ (m : ℕ → Sort) (sig : Signature) where
  -- a sort that may stand in the declaration
  abbrev pub IsFree : Sort → Passed → Type 0
  IsFree s p = sort_ok sig (λ i. false) (λ i. nat_lt i (length p.written)) s ≡ true

  pub free_kept : Keeps m IsFree
  free_kept s p q g h =
      ok_weaker sig sig (λ i. false) (λ i. nat_lt i (length p.written)) (λ i. false) (λ i. nat_lt i (length q.written)) (λ h n e. e) (λ i e. e)
      (λ i e. let l = ltb-true i (length p.written) e in let w = g.written in lt-ltb i (length q.written) (omega arith)) s h

  occurs_free : (o : Option ℕ) (name : List ℕ) (p : Passed) → ((n : ℕ) → o ≡ Some n → n < length p.written) → Gives m p IsFree (occurrence o name)
  occurs_free (Some n) name p h = record { by = λ c. record { grows = grows_not m p; value = ok_rigid sig (λ i. false) (λ i. nat_lt i (length p.written)) n ∙ lt-ltb n (length p.written) (h n refl) } }
  occurs_free None name p h =
      record {
        by = λ c. let e : length (p.written ++ name ∷ []) ≡ suc (length p.written) = length-append p.written (name ∷ []) ∙ omega arith in
            record {
              grows = record { next = omega arith; written = omega (arith, e) };
              value = ok_rigid sig (λ i. false) (λ i. nat_lt i (length (p.written ++ name ∷ []))) (length p.written) ∙ lt-ltb (length p.written) (length (p.written ++ name ∷ [])) (omega (arith, e));
            };
      }

  -- a sort of a field of the record type `own`
  pub record IsInField (arity own : ℕ) (s : Sort) (p : Passed) : Type 0 where
    pub over : sort_ok sig (λ i. nat_lt i arity) (λ i. false) s ≡ true
    pub below : names_below own s ≡ true

  -- what the sort is, by where it is written
  abbrev pub IsSortOn : Ground → Sort → Passed → Type 0
  IsSortOn ground.Free s p = IsFree s p
  IsSortOn (ground.InField params own) s p = IsInField (length params) own s p

  -- the record type itself is the last one
  abbrev pub IsGround : Ground → Type 0
  IsGround ground.Free = Unit {0}
  IsGround (ground.InField params own) = length sig.types ≡ suc own

  kept_on : (g : Ground) → Keeps m (IsSortOn g)
  kept_on ground.Free s p q g h = free_kept s p q g h
  kept_on (ground.InField params own) s p q g h = record { over = h.over; below = h.below }

  plain_on : (g : Ground) (s : Sort) (p : Passed) → ((v r : ℕ → Bool) → sort_ok sig v r s ≡ true) → ((n : ℕ) → names_below n s ≡ true) → Gives m p (IsSortOn g) (give s)
  plain_on ground.Free s p h k = gives_value m IsFree s p (h (λ i. false) (λ i. nat_lt i (length p.written)))
  plain_on (ground.InField params own) s p h k =
      gives_value m (IsInField (length params) own) s p (record { over = h (λ i. nat_lt i (length params)) (λ i. false); below = k own })

  parameter_on : (text : List ℕ) (ls : List scope.Local) (params : List (List ℕ)) (own : ℕ) (s : Span) (o : Option ℕ) (p : Passed) → ((n : ℕ) → o ≡ Some n → n < length params)
      → Gives m p (IsInField (length params) own) (parameter (scope.scope_with text sig ls) s o)
  parameter_on text ls params own s (Some n) p h =
      gives_value m (IsInField (length params) own) (Var n) p
      (record { over = ok_var sig (λ i. nat_lt i (length params)) (λ i. false) n ∙ lt-ltb n (length params) (h n refl); below = below_var own n })
  parameter_on text ls params own s None p h = record { by = λ c. absurd (true≢false (sym c.0)) }

  module _ (text : List ℕ) (ls : List scope.Local) where
    abbrev sc : Scope
    sc = scope.scope_with text sig ls

    variable_on : (g : Ground) (s : Span) (p : Passed) → Gives m p (IsSortOn g) (variable_rule g sc s)
    variable_on ground.Free s p = record {
      by = λ c. let a = (occurs_free (first_place (bytes_eq (name_at sc s)) p.written) (name_at sc s) p (λ n e. first_within (bytes_eq (name_at sc s)) p.written n e)).by c in
          record { grows = a.grows; value = a.value };
    }
    variable_on (ground.InField params own) s p =
        parameter_on text ls params own s (first_place (bytes_eq (name_at sc s)) params) p (λ n e. first_within (bytes_eq (name_at sc s)) params n e)

    named_free : (p : Passed) (h : ℕ) (ss : List Sort) → type_fits sig h (length ss) ≡ true → Each m IsFree ss p → IsFree (Named h ss) p
    named_free p h ss f a =
        ok_named sig (λ i. false) (λ i. nat_lt i (length p.written)) h ss
        ∙ and_from (type_fits sig h (length ss)) (list_all (sort_ok sig (λ i. false) (λ i. nat_lt i (length p.written))) ss) f
        (test_of_all (λ s. IsFree s p) (sort_ok sig (λ i. false) (λ i. nat_lt i (length p.written))) (λ s x. x) ss a)

    named_in_field : (arity own : ℕ) (p : Passed) (h : ℕ) (ss : List Sort) → nat_lt h own ≡ true → type_fits sig h (length ss) ≡ true → Each m (IsInField arity own) ss p
        → IsInField arity own (Named h ss) p
    named_in_field arity own p h ss l f a = record {
      over = ok_named sig (λ i. nat_lt i arity) (λ i. false) h ss
          ∙ and_from (type_fits sig h (length ss)) (list_all (sort_ok sig (λ i. nat_lt i arity) (λ i. false)) ss) f
          (test_of_all (λ s. IsInField arity own s p) (sort_ok sig (λ i. nat_lt i arity) (λ i. false)) (λ s x. x.over) ss a);
      below = below_named own h ss l (test_of_all (λ s. IsInField arity own s p) (names_below own) (λ s x. x.below) ss a);
    }

    named_on : (g : Ground) → IsGround g → (s : Span) (ss : List Sort) (o : Option ℕ) (p : Passed) → ((n : ℕ) → o ≡ Some n → n < length sig.types) → Each m (IsSortOn g) ss p
        → Gives m p (IsSortOn g) (named_rule g sc s ss o)
    named_on g i s ss None p h a = record { by = λ c. absurd (true≢false (sym c.0)) }
    named_on ground.Free i s ss (Some n) p h a =
        gives_after m IsFree (test (is_other ground.Free n) (fault.SelfRecord s.from s.to)) _ p
        (λ b. gives_after m IsFree (test (type_fits sig n (length ss)) (fault.Arity s.from s.to)) (give (Named n ss)) p
        (λ f. gives_value m IsFree (Named n ss) p (named_free p n ss f a)))
    named_on (ground.InField params own) i s ss (Some n) p h a =
        gives_after m (IsInField (length params) own) (test (is_other (ground.InField params own) n) (fault.SelfRecord s.from s.to)) _ p
        (λ b. gives_after m (IsInField (length params) own) (test (type_fits sig n (length ss)) (fault.Arity s.from s.to)) (give (Named n ss)) p
        (λ f. gives_value m (IsInField (length params) own) (Named n ss) p
        (named_in_field (length params) own p n ss (other_number n own b (let l = h n refl in omega (arith, i))) f a)))

    module _ (g : Ground) (i : IsGround g) where
      abbrev GivesSort : TypeRule → Type 0
      GivesSort r = (p : Passed) → Gives m p (IsSortOn g) (r g sc)

      mutual
        pub sort_given : {w : WrittenType} → IsWritten text w → GivesSort (type_rule w)
        sort_given (is_int s) = subst GivesSort (sym (int_rule s)) (λ p. plain_on g Int p (ok_int sig) below_int)
        sort_given (is_real s) = subst GivesSort (sym (real_rule s)) (λ p. plain_on g Real p (ok_real sig) below_real)
        sort_given (is_bool s) = subst GivesSort (sym (bool_rule s)) (λ p. plain_on g BoolSort p (ok_bool sig) below_bool)
        sort_given (is_unit s) = subst GivesSort (sym (unit_rule s)) (λ p. plain_on g UnitSort p (ok_unit sig) below_unit)
        sort_given (is_var s h) = subst GivesSort (sym (var_rule s)) (λ p. variable_on g s p)
        sort_given (is_named s n ws h a) =
            subst GivesSort (sym (named_type_rule s n ws))
            (λ p. gives_then m (Each m (IsSortOn g)) (IsSortOn g) (each (λ r. r g sc) (map type_rule ws)) (λ ss. named_rule g sc n ss (type_number sig (name_at sc n))) p
            (gives_each m GivesSort (IsSortOn g) (λ r. r g sc) (kept_on g) (λ r k. k) (map type_rule ws) (sorts_given a) p)
            (λ ss q e b. named_on g i n ss (type_number sig (name_at sc n)) q (λ k f. first_within (λ (x : TypeEntry). bytes_eq (name_at sc n) x.name) sig.types k f) b))

        pub sorts_given : {ws : List WrittenType} → AreWritten text ws → AllByRecursion GivesSort (map type_rule ws)
        sorts_given no_types = tt
        sorts_given (and_type w ws h a) = (sort_given h, sorts_given a)
