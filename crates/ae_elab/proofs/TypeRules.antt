-- The rules of written types, as functions follow them.
use Rattle.std.proofs.Common.{◌≡◌, ◌∙◌, ℕ, zero, suc, true, false, List, [], ◌∷◌, map, length, Option, Some, None, refl, sym, ap, subst, slice_get, get_or, ◌<◌}
use Rattle.std.specs.List.{AllByRecursion}
use Rattle.std.specs.Option.{option_map}
use Rattle.std.proofs.lemmas.Bool.{both_ways}
use Rattle.std.proofs.lemmas.Option.{none-some, same_Some, slice_get-map, slice_get-get_or}
use Rattle.ae_base.proofs.AllOf.{all_front, all_back}
use Rattle.std.specs.Str.{bytes_eq}
use Rattle.ae_core.specs.declared.terms.Sort.{Sort, Var, Int, Real, Bool as BoolSort, Unit as UnitSort, Named}
use Rattle.ae_core.specs.Sorts.{type_fits}
use Rattle.ae_core.specs.declared.problems.Signature.{Signature}
use Rattle.ae_syntax.specs.declared.spans.Span.{Span}
use Rattle.ae_syntax.specs.declared.types.WrittenType.{WrittenType, out-WrittenType, roll-out-WrittenType, fold-roll-WrittenType}
use Rattle.ae_syntax.specs.declared.types.TypeKind.{TypeKind, fold-TypeKind, fold-roll-TypeKind}
use Rattle.ae_syntax.specs.declared.types.TypeKind as kind
use Rattle.ae_syntax.specs.declared.types.TypeKind.TheVariants.{rolls-Int, rolls-Real, rolls-Bool, rolls-Unit, rolls-Var, rolls-Named}
use Rattle.ae_syntax.specs.declared.types.TypeKind.TheOpen as layer
use Rattle.ae_elab.specs.declared.faults.TypeFault.{TypeFault}
use Rattle.ae_elab.specs.declared.faults.TypeFault.TheVariants as fault
use Rattle.ae_elab.specs.declared.grounds.Ground.{Ground}
use Rattle.ae_elab.specs.declared.grounds.Ground.TheVariants.{Free, InField}
use Rattle.ae_elab.specs.Conditions.{test}
use Rattle.ae_elab.specs.Declarations.{scope_of, result_rule}
use Rattle.ae_elab.specs.Names.{names_step, names_in_type, joined}
use Rattle.ae_elab.specs.Rules.{Passed, Rule, give, ◌>>◌, ◌⇒◌, refuse, each, written_variable}
use Rattle.ae_elab.specs.Scope.{Scope, name_at, first_place, type_number}
use Rattle.ae_elab.specs.Steps.{IsTaken, IsHalted}
use Rattle.ae_elab.specs.WrittenTypes.{TypeRule, type_step, type_rule, parameter, variable_rule, is_other, named_rule}
use Rattle.ae_elab.proofs.WalkLaws.{give_walked, then_walked, then_stops, then_stops_later, demand_walked, demand_stops, demand_stops_later, refuse_stops, test_met, test_not_met}
use Rattle.ae_elab.proofs.EachLaws.{walked_as, stopped_as}

-- ---- a type variable
pub variable_free : (sc : Scope) (s : Span) (p q : Passed) (x : Sort) → IsTaken (written_variable (name_at sc s)) p q x → IsTaken (variable_rule Free sc s) p q x
variable_free sc s p q x a m = walked_as (written_variable (name_at sc s)) (variable_rule Free sc s) m m p q x refl (a m)

pub variable_known : (params : List (List ℕ)) (own : ℕ) (sc : Scope) (s : Span) (p : Passed) (n : ℕ) → first_place (bytes_eq (name_at sc s)) params ≡ Some n
    → IsTaken (variable_rule (InField params own) sc s) p p (Var n)
variable_known params own sc s p n e m = walked_as (give (Var n)) (variable_rule (InField params own) sc s) m m p p (Var n) (ap (λ o. parameter sc s o p) (sym e)) (give_walked (Var n) m p)

pub variable_halts : (params : List (List ℕ)) (own : ℕ) (sc : Scope) (s : Span) (p : Passed) → first_place (bytes_eq (name_at sc s)) params ≡ None
    → IsHalted (variable_rule (InField params own) sc s) p (fault.UnknownName (name_at sc s) s.from s.to)
variable_halts params own sc s p e m =
    let x = fault.UnknownName (name_at sc s) s.from s.to in
    stopped_as (refuse x UnitSort) (variable_rule (InField params own) sc s) m p x (ap (λ o. parameter sc s o p) (sym e)) (refuse_stops x UnitSort m p)

-- ---- a type's name after its arguments
pub named_unknown : (g : Ground) (sc : Scope) (s : Span) (args : List Sort) (o : Option ℕ) (p : Passed) → o ≡ None
    → IsHalted (named_rule g sc s args o) p (fault.UnknownName (name_at sc s) s.from s.to)
named_unknown g sc s args o p e m =
    let x = fault.UnknownName (name_at sc s) s.from s.to in
    stopped_as (refuse x UnitSort) (named_rule g sc s args o) m p x (ap (λ o. named_rule g sc s args o p) (sym e)) (refuse_stops x UnitSort m p)

module _ (g : Ground) (sc : Scope) (s : Span) (args : List Sort) (h : ℕ) where
  abbrev after_self : Rule Sort
  after_self = test (type_fits sc.signature h (length args)) (fault.Arity s.from s.to) ⇒ give (Named h args)

  abbrev whole : Rule Sort
  whole = test (is_other g h) (fault.SelfRecord s.from s.to) ⇒ after_self

  pub named_self : (o : Option ℕ) (p : Passed) → o ≡ Some h → is_other g h ≡ false → IsHalted (named_rule g sc s args o) p (fault.SelfRecord s.from s.to)
  named_self o p e f m =
      let x = fault.SelfRecord s.from s.to in
      stopped_as whole (named_rule g sc s args o) m p x (ap (λ o. named_rule g sc s args o p) (sym e))
      (demand_stops (test (is_other g h) x) after_self m p x (test_not_met (is_other g h) x m (both_ways (is_other g h) f)))

  pub named_arity : (o : Option ℕ) (p : Passed) → o ≡ Some h → is_other g h ≡ true → type_fits sc.signature h (length args) ≡ false → IsHalted (named_rule g sc s args o) p (fault.Arity s.from s.to)
  named_arity o p e t f m =
      let b = type_fits sc.signature h (length args) in
      let x = fault.Arity s.from s.to in
      let y = fault.SelfRecord s.from s.to in
      stopped_as whole (named_rule g sc s args o) m p x (ap (λ o. named_rule g sc s args o p) (sym e))
      (demand_stops_later (test (is_other g h) y) after_self m m p x (test_met (is_other g h) y m t)
      (demand_stops (test b x) (give (Named h args)) m p x (test_not_met b x m (both_ways b f))))

  pub named_taken : (o : Option ℕ) (p : Passed) → o ≡ Some h → is_other g h ≡ true → type_fits sc.signature h (length args) ≡ true → IsTaken (named_rule g sc s args o) p p (Named h args)
  named_taken o p e t f m =
      let b = type_fits sc.signature h (length args) in
      let x = fault.Arity s.from s.to in
      let y = fault.SelfRecord s.from s.to in
      walked_as whole (named_rule g sc s args o) m m p p (Named h args) (ap (λ o. named_rule g sc s args o p) (sym e))
      (demand_walked (test (is_other g h) y) after_self m m m p p (Named h args) (test_met (is_other g h) y m t)
      (demand_walked (test b x) (give (Named h args)) m m m p p (Named h args) (test_met b x m f) (give_walked (Named h args) m p)))

-- ---- a written type by its kind
unfoldable pub kind_type : TypeKind → Span → TypeRule
kind_type = fold-TypeKind (Span → TypeRule) TypeRule type_step (λ t. t.kind t.span)

type_of : (w : WrittenType) → type_rule w ≡ kind_type w.kind w.span
unfolding type_rule kind_type
type_of w = ap type_rule (sym (roll-out-WrittenType w)) ∙ fold-roll-WrittenType (Span → TypeRule) TypeRule type_step (λ t. t.kind t.span) (out-WrittenType w)

kind_int : kind_type kind.Int ≡ type_step layer.Int
unfolding type_rule kind_type
kind_int = ap kind_type (sym rolls-Int) ∙ fold-roll-TypeKind (Span → TypeRule) TypeRule type_step (λ t. t.kind t.span) layer.Int

kind_real : kind_type kind.Real ≡ type_step layer.Real
unfolding type_rule kind_type
kind_real = ap kind_type (sym rolls-Real) ∙ fold-roll-TypeKind (Span → TypeRule) TypeRule type_step (λ t. t.kind t.span) layer.Real

kind_bool : kind_type kind.Bool ≡ type_step layer.Bool
unfolding type_rule kind_type
kind_bool = ap kind_type (sym rolls-Bool) ∙ fold-roll-TypeKind (Span → TypeRule) TypeRule type_step (λ t. t.kind t.span) layer.Bool

kind_unit : kind_type kind.Unit ≡ type_step layer.Unit
unfolding type_rule kind_type
kind_unit = ap kind_type (sym rolls-Unit) ∙ fold-roll-TypeKind (Span → TypeRule) TypeRule type_step (λ t. t.kind t.span) layer.Unit

kind_var : kind_type kind.Var ≡ type_step layer.Var
unfolding type_rule kind_type
kind_var = ap kind_type (sym rolls-Var) ∙ fold-roll-TypeKind (Span → TypeRule) TypeRule type_step (λ t. t.kind t.span) layer.Var

kind_named : (n : Span) (ws : List WrittenType) → kind_type (kind.Named n ws) ≡ type_step (layer.Named n (map type_rule ws))
unfolding type_rule kind_type
kind_named n ws = ap kind_type (sym (rolls-Named n ws)) ∙ fold-roll-TypeKind (Span → TypeRule) TypeRule type_step (λ t. t.kind t.span) (layer.Named n ws)

module _ (w : WrittenType) (g : Ground) (sc : Scope) (p : Passed) where
  by_kind : (k : TypeKind) (r : Span → TypeRule) → w.kind ≡ k → kind_type k ≡ r → r w.span g sc p ≡ type_rule w g sc p
  by_kind k r e f = sym (ap (λ t. t g sc p) (type_of w) ∙ ap (λ k. kind_type k w.span g sc p) e ∙ ap (λ t. t w.span g sc p) f)

  pub int_taken : w.kind ≡ kind.Int → IsTaken (type_rule w g sc) p p Int
  int_taken e m = walked_as (give Int) (type_rule w g sc) m m p p Int (by_kind kind.Int (type_step layer.Int) e kind_int) (give_walked Int m p)

  pub real_taken : w.kind ≡ kind.Real → IsTaken (type_rule w g sc) p p Real
  real_taken e m = walked_as (give Real) (type_rule w g sc) m m p p Real (by_kind kind.Real (type_step layer.Real) e kind_real) (give_walked Real m p)

  pub bool_taken : w.kind ≡ kind.Bool → IsTaken (type_rule w g sc) p p BoolSort
  bool_taken e m = walked_as (give BoolSort) (type_rule w g sc) m m p p BoolSort (by_kind kind.Bool (type_step layer.Bool) e kind_bool) (give_walked BoolSort m p)

  pub unit_taken : w.kind ≡ kind.Unit → IsTaken (type_rule w g sc) p p UnitSort
  unit_taken e m = walked_as (give UnitSort) (type_rule w g sc) m m p p UnitSort (by_kind kind.Unit (type_step layer.Unit) e kind_unit) (give_walked UnitSort m p)

  pub var_taken : (q : Passed) (s : Sort) → w.kind ≡ kind.Var → IsTaken (variable_rule g sc w.span) p q s → IsTaken (type_rule w g sc) p q s
  var_taken q s e a m = walked_as (variable_rule g sc w.span) (type_rule w g sc) m m p q s (by_kind kind.Var (type_step layer.Var) e kind_var) (a m)

  pub var_halts : (x : TypeFault) → w.kind ≡ kind.Var → IsHalted (variable_rule g sc w.span) p x → IsHalted (type_rule w g sc) p x
  var_halts x e a m = stopped_as (variable_rule g sc w.span) (type_rule w g sc) m p x (by_kind kind.Var (type_step layer.Var) e kind_var) (a m)

-- one rule for each of a list, of which each is another thing
each_of_map : {A B C : Type 0} (f : B → Rule C) (h : A → B) (xs : List A) → each f (map h xs) ≡ each (λ x. f (h x)) xs
each_of_map f h [] = refl
each_of_map f h (x ∷ xs) = ap (λ r. f (h x) >> λ y. r >> λ ys. give (y ∷ ys)) (each_of_map f h xs)

-- the sorts of the arguments, and then the type's name
abbrev pub arg_rule : Ground → Scope → WrittenType → Rule Sort
arg_rule g sc w = type_rule w g sc

abbrev pub name_rule : Ground → Scope → Span → List Sort → Rule Sort
name_rule g sc n ss = named_rule g sc n ss (type_number sc.signature (name_at sc n))

module _ (w : WrittenType) (g : Ground) (sc : Scope) (n : Span) (ws : List WrittenType) (e : w.kind ≡ kind.Named n ws) where
  abbrev whole_type : Rule Sort
  whole_type = each (arg_rule g sc) ws >> name_rule g sc n

  is_whole : (p : Passed) → whole_type p ≡ type_rule w g sc p
  is_whole p =
      ap (λ r. (r >> name_rule g sc n) p) (sym (each_of_map (λ (r : TypeRule). r g sc) type_rule ws))
      ∙ by_kind w g sc p (kind.Named n ws) (type_step (layer.Named n (map type_rule ws))) e (kind_named n ws)

  pub name_taken : (p q : Passed) (ss : List Sort) (s : Sort) → IsTaken (each (arg_rule g sc) ws) p q ss → IsTaken (name_rule g sc n ss) q q s → IsTaken (type_rule w g sc) p q s
  name_taken p q ss s a b m =
      walked_as whole_type (type_rule w g sc) m m p q s (is_whole p) (then_walked (each (arg_rule g sc) ws) (name_rule g sc n) m m m p q q ss s (a m) (b m))

  pub args_halt : (p : Passed) (x : TypeFault) → IsHalted (each (arg_rule g sc) ws) p x → IsHalted (type_rule w g sc) p x
  args_halt p x a m = stopped_as whole_type (type_rule w g sc) m p x (is_whole p) (then_stops (each (arg_rule g sc) ws) (name_rule g sc n) m p x (a m))

  pub name_halts : (p q : Passed) (ss : List Sort) (x : TypeFault) → IsTaken (each (arg_rule g sc) ws) p q ss → IsHalted (name_rule g sc n ss) q x → IsHalted (type_rule w g sc) p x
  name_halts p q ss x a b m =
      stopped_as whole_type (type_rule w g sc) m p x (is_whole p) (then_stops_later (each (arg_rule g sc) ws) (name_rule g sc n) m m p q ss x (a m) (b m))

-- ---- the names of a written type
unfoldable kind_names : TypeKind → Span → List Span
kind_names = fold-TypeKind (Span → List Span) (List Span) names_step (λ t. t.kind t.span)

names_of : (w : WrittenType) → names_in_type w ≡ kind_names w.kind w.span
unfolding names_in_type kind_names
names_of w = ap names_in_type (sym (roll-out-WrittenType w)) ∙ fold-roll-WrittenType (Span → List Span) (List Span) names_step (λ t. t.kind t.span) (out-WrittenType w)

names_of_var : kind_names kind.Var ≡ names_step layer.Var
unfolding names_in_type kind_names
names_of_var = ap kind_names (sym rolls-Var) ∙ fold-roll-TypeKind (Span → List Span) (List Span) names_step (λ t. t.kind t.span) layer.Var

names_of_named : (n : Span) (ws : List WrittenType) → kind_names (kind.Named n ws) ≡ names_step (layer.Named n (map names_in_type ws))
unfolding names_in_type kind_names
names_of_named n ws = ap kind_names (sym (rolls-Named n ws)) ∙ fold-roll-TypeKind (Span → List Span) (List Span) names_step (λ t. t.kind t.span) (layer.Named n ws)

among : (P : Span → Type 0) (xss : List (List Span)) (k : ℕ) (xs : List Span) → AllByRecursion P (joined xss) → slice_get xss k ≡ Some xs → AllByRecursion P xs
among P [] k xs h e = absurd (none-some xs e)
among P (ys ∷ xss) zero xs h e = subst (AllByRecursion P) (same_Some ys xs e) (all_front P ys (joined xss) h)
among P (ys ∷ xss) (suc k) xs h e = among P xss k xs (all_back P ys (joined xss) h) e

module _ (P : Span → Type 0) (w : WrittenType) (h : AllByRecursion P (names_in_type w)) where
  pub var_named : w.kind ≡ kind.Var → P w.span
  var_named e = (subst (AllByRecursion P) (names_of w ∙ ap (λ k. kind_names k w.span) e ∙ ap (λ f. f w.span) names_of_var) h).0

  named_names : (n : Span) (ws : List WrittenType) → w.kind ≡ kind.Named n ws → AllByRecursion P (n ∷ joined (map names_in_type ws))
  named_names n ws e = subst (AllByRecursion P) (names_of w ∙ ap (λ k. kind_names k w.span) e ∙ ap (λ f. f w.span) (names_of_named n ws)) h

  pub type_named : (n : Span) (ws : List WrittenType) → w.kind ≡ kind.Named n ws → P n
  type_named n ws e = (named_names n ws e).0

  pub arg_named : (n : Span) (ws : List WrittenType) (k : ℕ) (v : WrittenType) → w.kind ≡ kind.Named n ws → slice_get ws k ≡ Some v → AllByRecursion P (names_in_type v)
  arg_named n ws k v e g = among P (map names_in_type ws) k (names_in_type v) (named_names n ws e).1 (slice_get-map names_in_type ws k ∙ ap (option_map names_in_type) g)

pub arg_ready : (P : Span → Type 0) (w : WrittenType) (n : Span) (ws us : List WrittenType) (k : ℕ) (v : WrittenType) → AllByRecursion P (names_in_type w) → w.kind ≡ kind.Named n ws → us ≡ ws
    → k < length us → v ≡ get_or us k v → AllByRecursion P (names_in_type v)
arg_ready P w n ws us k v h e s l g =
    arg_named P w h n us k v (e ∙ ap (kind.Named n) (sym s)) (slice_get-get_or us k v l ∙ ap Some (sym g))

-- ---- the sort of a symbol's value
module _ (text : List ℕ) (sig : Signature) (w : WrittenType) (p : Passed) where
  abbrev valued : Rule Sort
  valued = type_rule w Free (scope_of text sig)

  pub result_taken : (q : Passed) (s : Sort) → IsTaken valued p q s → IsTaken (result_rule text sig (Some w)) p q (Some s)
  result_taken q s a m = then_walked valued (λ t. give (Some t)) m m m p q q s (Some s) (a m) (give_walked (Some s) m q)

  pub result_halts : (e : TypeFault) → IsHalted valued p e → IsHalted (result_rule text sig (Some w)) p e
  result_halts e a m = then_stops valued (λ t. give (Some t)) m p e (a m)
