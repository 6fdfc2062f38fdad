-- The parts of an expression by its kind: what it is for the rules, its names, and that the parts are smaller.
use Rattle.std.proofs.Common.{arith, ◌≡◌, ◌∙◌, ℕ, ◌+◌, ◌<◌, ◌≤◌, List, [], ◌∷◌, ◌++◌, map, length, get_or, max, sym, ap, subst}
use Rattle.std.specs.List.{AllByRecursion}
use Rattle.ae_base.proofs.AllOf.{all_front, all_back}
use denote.Param.Weighed.{most, at_most}
use Rattle.ae_syntax.specs.declared.spans.Span.{Span}
use Rattle.ae_syntax.specs.declared.types.WrittenType.{WrittenType}
use Rattle.ae_syntax.specs.declared.exprs.BinaryOp.{BinaryOp}
use Rattle.ae_syntax.specs.declared.exprs.Quantifier.{Quantifier}
use Rattle.ae_syntax.specs.declared.exprs.Group.{Group}
use Rattle.ae_syntax.specs.declared.exprs.Expr.{Expr, size-Expr, size_is-Expr}
use Rattle.ae_syntax.specs.declared.exprs.Setting.{Setting, size-Setting, size_is-Setting}
use Rattle.ae_syntax.specs.declared.exprs.Trigger.{Trigger, out-Trigger, size-Trigger, size_is-Trigger}
use Rattle.ae_syntax.specs.declared.exprs.ExprKind.{ExprKind, size-ExprKind, size_is-ExprKind}
use Rattle.ae_syntax.specs.declared.exprs.ExprKind as kind
use Rattle.ae_syntax.specs.declared.exprs.ExprKind.TheVariants.{outs-Binary, outs-Not, outs-Negative, outs-Quantified, outs-Let, outs-If, outs-Field, outs-Apply, outs-Bracketed, outs-Ascribed, outs-Distinct, outs-Record, outs-Update}
use Rattle.ae_elab.specs.Names.{joined, names_in_type, names_in_group, names_in, names_in_form, names_in_set, names_in_trigger}
use Rattle.ae_elab.proofs.NamesInRules.{in_expression, in_setting, in_trigger, in_binary, in_not, in_negative, in_quantified, in_let, in_if, in_field, in_apply, in_bracketed, in_ascribed, in_distinct, in_record, in_update}

-- each of them is one of the text
module _ (P : Span → Type 0) (e : Expr) (h : AllByRecursion P (names_in e)) where
  all_of_kind : (k : ExprKind) (ss : List Span) → e.kind ≡ k → names_in_form k ≡ ss → AllByRecursion P ss
  all_of_kind k ss is names = subst (AllByRecursion P) (in_expression e ∙ ap names_in_form is ∙ names) h

  pub named_binary : (o : BinaryOp) (a : Expr) (b : Expr) → e.kind ≡ kind.Binary o a b → AllByRecursion P (names_in a ++ names_in b)
  named_binary o a b is = all_of_kind (kind.Binary o a b) (names_in a ++ names_in b) is (in_binary o a b)

  pub named_not : (a : Expr) → e.kind ≡ kind.Not a → AllByRecursion P (names_in a)
  named_not a is = all_of_kind (kind.Not a) (names_in a) is (in_not a)

  pub named_negative : (a : Expr) → e.kind ≡ kind.Negative a → AllByRecursion P (names_in a)
  named_negative a is = all_of_kind (kind.Negative a) (names_in a) is (in_negative a)

  pub named_quantified : (q : Quantifier) (gs : List Group) (ts : List Trigger) (b : Expr) → e.kind ≡ kind.Quantified q gs ts b → AllByRecursion P (joined (map names_in_group gs) ++ joined (map names_in_trigger ts) ++ names_in b)
  named_quantified q gs ts b is = all_of_kind (kind.Quantified q gs ts b) (joined (map names_in_group gs) ++ joined (map names_in_trigger ts) ++ names_in b) is (in_quantified q gs ts b)

  pub named_let : (x : Span) (v : Expr) (b : Expr) → e.kind ≡ kind.Let x v b → AllByRecursion P (x ∷ names_in v ++ names_in b)
  named_let x v b is = all_of_kind (kind.Let x v b) (x ∷ names_in v ++ names_in b) is (in_let x v b)

  pub named_if : (c : Expr) (a : Expr) (b : Expr) → e.kind ≡ kind.If c a b → AllByRecursion P (names_in c ++ names_in a ++ names_in b)
  named_if c a b is = all_of_kind (kind.If c a b) (names_in c ++ names_in a ++ names_in b) is (in_if c a b)

  pub named_field : (a : Expr) (x : Span) → e.kind ≡ kind.Field a x → AllByRecursion P (names_in a ++ x ∷ [])
  named_field a x is = all_of_kind (kind.Field a x) (names_in a ++ x ∷ []) is (in_field a x)

  pub named_apply : (n : Span) (es : List Expr) → e.kind ≡ kind.Apply n es → AllByRecursion P (n ∷ joined (map names_in es))
  named_apply n es is = all_of_kind (kind.Apply n es) (n ∷ joined (map names_in es)) is (in_apply n es)

  pub named_bracketed : (a : Expr) → e.kind ≡ kind.Bracketed a → AllByRecursion P (names_in a)
  named_bracketed a is = all_of_kind (kind.Bracketed a) (names_in a) is (in_bracketed a)

  pub named_ascribed : (a : Expr) (w : WrittenType) → e.kind ≡ kind.Ascribed a w → AllByRecursion P (names_in a ++ names_in_type w)
  named_ascribed a w is = all_of_kind (kind.Ascribed a w) (names_in a ++ names_in_type w) is (in_ascribed a w)

  pub named_distinct : (es : List Expr) → e.kind ≡ kind.Distinct es → AllByRecursion P (joined (map names_in es))
  named_distinct es is = all_of_kind (kind.Distinct es) (joined (map names_in es)) is (in_distinct es)

  pub named_record : (xs : List Setting) → e.kind ≡ kind.Record xs → AllByRecursion P (joined (map names_in_set xs))
  named_record xs is = all_of_kind (kind.Record xs) (joined (map names_in_set xs)) is (in_record xs)

  pub named_update : (a : Expr) (xs : List Setting) → e.kind ≡ kind.Update a xs → AllByRecursion P (names_in a ++ joined (map names_in_set xs))
  named_update a xs is = all_of_kind (kind.Update a xs) (names_in a ++ joined (map names_in_set xs)) is (in_update a xs)

-- the names of several parts
pub all_joined : {X : Type 0} (P : Span → Type 0) (f : X → List Span) (xs : List X) → AllByRecursion P (joined (map f xs)) → AllByRecursion (λ x. AllByRecursion P (f x)) xs
all_joined P f [] h = tt
all_joined P f (x ∷ xs) h = (all_front P (f x) (joined (map f xs)) h, all_joined P f xs (all_back P (f x) (joined (map f xs)) h))

pub all_parts : (P : Span → Type 0) (es : List Expr) → AllByRecursion P (joined (map names_in es)) → AllByRecursion (λ e. AllByRecursion P (names_in e)) es
all_parts P es h = all_joined P names_in es h

pub named_setting : (P : Span → Type 0) (s : Setting) → AllByRecursion P (names_in_set s) → P s.name × AllByRecursion P (names_in s.value)
named_setting P s h = subst (AllByRecursion P) (in_setting s) h

pub named_trigger : (P : Span → Type 0) (t : Trigger) → AllByRecursion P (names_in_trigger t) → AllByRecursion (λ e. AllByRecursion P (names_in e)) (out-Trigger t).terms
named_trigger P t h = all_parts P (out-Trigger t).terms (subst (AllByRecursion P) (in_trigger t) h)

-- ---- sizes
pub most_at : {X : Type 0} (f : X → ℕ) (xs : List X) (i : ℕ) (x : X) → i < length xs → x ≡ get_or xs i x → f x ≤ most f xs
most_at f xs i x l e = subst (λ z. f z ≤ most f xs) (sym e) (at_most f xs i x l)

below : (a b c : ℕ) → a < b → b < c → a + 1 < c
below a b c p q = omega arith

kind_smaller : (e : Expr) → size-ExprKind e.kind < size-Expr e
kind_smaller e = grind (arith, size_is-Expr e)

pub value_smaller : (s : Setting) → size-Expr s.value < size-Setting s
value_smaller s = grind (arith, size_is-Setting s)

pub terms_smaller : (t : Trigger) → most size-Expr (out-Trigger t).terms < size-Trigger t
terms_smaller t = grind (arith, size_is-Trigger t)

within_binary : (o : BinaryOp) (a : Expr) (b : Expr) → max (size-Expr a) (size-Expr b) < size-ExprKind (kind.Binary o a b)
within_binary o a b = grind (arith, size_is-ExprKind (kind.Binary o a b), outs-Binary o a b)

pub smaller_binary : (e : Expr) (o : BinaryOp) (a : Expr) (b : Expr) → e.kind ≡ kind.Binary o a b → max (size-Expr a) (size-Expr b) + 1 < size-Expr e
smaller_binary e o a b is = below (max (size-Expr a) (size-Expr b)) (size-ExprKind e.kind) (size-Expr e) (subst (λ (k : ExprKind). max (size-Expr a) (size-Expr b) < size-ExprKind k) (sym is) (within_binary o a b)) (kind_smaller e)

within_not : (a : Expr) → size-Expr a < size-ExprKind (kind.Not a)
within_not a = grind (arith, size_is-ExprKind (kind.Not a), outs-Not a)

pub smaller_not : (e : Expr) (a : Expr) → e.kind ≡ kind.Not a → size-Expr a + 1 < size-Expr e
smaller_not e a is = below (size-Expr a) (size-ExprKind e.kind) (size-Expr e) (subst (λ (k : ExprKind). size-Expr a < size-ExprKind k) (sym is) (within_not a)) (kind_smaller e)

within_negative : (a : Expr) → size-Expr a < size-ExprKind (kind.Negative a)
within_negative a = grind (arith, size_is-ExprKind (kind.Negative a), outs-Negative a)

pub smaller_negative : (e : Expr) (a : Expr) → e.kind ≡ kind.Negative a → size-Expr a + 1 < size-Expr e
smaller_negative e a is = below (size-Expr a) (size-ExprKind e.kind) (size-Expr e) (subst (λ (k : ExprKind). size-Expr a < size-ExprKind k) (sym is) (within_negative a)) (kind_smaller e)

within_quantified : (q : Quantifier) (gs : List Group) (ts : List Trigger) (b : Expr) → max (most size-Trigger ts) (size-Expr b) < size-ExprKind (kind.Quantified q gs ts b)
within_quantified q gs ts b = grind (arith, size_is-ExprKind (kind.Quantified q gs ts b), outs-Quantified q gs ts b)

pub smaller_quantified : (e : Expr) (q : Quantifier) (gs : List Group) (ts : List Trigger) (b : Expr) → e.kind ≡ kind.Quantified q gs ts b → max (most size-Trigger ts) (size-Expr b) + 1 < size-Expr e
smaller_quantified e q gs ts b is = below (max (most size-Trigger ts) (size-Expr b)) (size-ExprKind e.kind) (size-Expr e) (subst (λ (k : ExprKind). max (most size-Trigger ts) (size-Expr b) < size-ExprKind k) (sym is) (within_quantified q gs ts b)) (kind_smaller e)

within_let : (x : Span) (v : Expr) (b : Expr) → max (size-Expr v) (size-Expr b) < size-ExprKind (kind.Let x v b)
within_let x v b = grind (arith, size_is-ExprKind (kind.Let x v b), outs-Let x v b)

pub smaller_let : (e : Expr) (x : Span) (v : Expr) (b : Expr) → e.kind ≡ kind.Let x v b → max (size-Expr v) (size-Expr b) + 1 < size-Expr e
smaller_let e x v b is = below (max (size-Expr v) (size-Expr b)) (size-ExprKind e.kind) (size-Expr e) (subst (λ (k : ExprKind). max (size-Expr v) (size-Expr b) < size-ExprKind k) (sym is) (within_let x v b)) (kind_smaller e)

within_if : (c : Expr) (a : Expr) (b : Expr) → max (max (size-Expr c) (size-Expr a)) (size-Expr b) < size-ExprKind (kind.If c a b)
within_if c a b = grind (arith, size_is-ExprKind (kind.If c a b), outs-If c a b)

pub smaller_if : (e : Expr) (c : Expr) (a : Expr) (b : Expr) → e.kind ≡ kind.If c a b → max (max (size-Expr c) (size-Expr a)) (size-Expr b) + 1 < size-Expr e
smaller_if e c a b is = below (max (max (size-Expr c) (size-Expr a)) (size-Expr b)) (size-ExprKind e.kind) (size-Expr e) (subst (λ (k : ExprKind). max (max (size-Expr c) (size-Expr a)) (size-Expr b) < size-ExprKind k) (sym is) (within_if c a b)) (kind_smaller e)

within_field : (a : Expr) (x : Span) → size-Expr a < size-ExprKind (kind.Field a x)
within_field a x = grind (arith, size_is-ExprKind (kind.Field a x), outs-Field a x)

pub smaller_field : (e : Expr) (a : Expr) (x : Span) → e.kind ≡ kind.Field a x → size-Expr a + 1 < size-Expr e
smaller_field e a x is = below (size-Expr a) (size-ExprKind e.kind) (size-Expr e) (subst (λ (k : ExprKind). size-Expr a < size-ExprKind k) (sym is) (within_field a x)) (kind_smaller e)

within_apply : (n : Span) (es : List Expr) → most size-Expr es < size-ExprKind (kind.Apply n es)
within_apply n es = grind (arith, size_is-ExprKind (kind.Apply n es), outs-Apply n es)

pub smaller_apply : (e : Expr) (n : Span) (es : List Expr) → e.kind ≡ kind.Apply n es → most size-Expr es + 1 < size-Expr e
smaller_apply e n es is = below (most size-Expr es) (size-ExprKind e.kind) (size-Expr e) (subst (λ (k : ExprKind). most size-Expr es < size-ExprKind k) (sym is) (within_apply n es)) (kind_smaller e)

within_bracketed : (a : Expr) → size-Expr a < size-ExprKind (kind.Bracketed a)
within_bracketed a = grind (arith, size_is-ExprKind (kind.Bracketed a), outs-Bracketed a)

pub smaller_bracketed : (e : Expr) (a : Expr) → e.kind ≡ kind.Bracketed a → size-Expr a + 1 < size-Expr e
smaller_bracketed e a is = below (size-Expr a) (size-ExprKind e.kind) (size-Expr e) (subst (λ (k : ExprKind). size-Expr a < size-ExprKind k) (sym is) (within_bracketed a)) (kind_smaller e)

within_ascribed : (a : Expr) (w : WrittenType) → size-Expr a < size-ExprKind (kind.Ascribed a w)
within_ascribed a w = grind (arith, size_is-ExprKind (kind.Ascribed a w), outs-Ascribed a w)

pub smaller_ascribed : (e : Expr) (a : Expr) (w : WrittenType) → e.kind ≡ kind.Ascribed a w → size-Expr a + 1 < size-Expr e
smaller_ascribed e a w is = below (size-Expr a) (size-ExprKind e.kind) (size-Expr e) (subst (λ (k : ExprKind). size-Expr a < size-ExprKind k) (sym is) (within_ascribed a w)) (kind_smaller e)

within_distinct : (es : List Expr) → most size-Expr es < size-ExprKind (kind.Distinct es)
within_distinct es = grind (arith, size_is-ExprKind (kind.Distinct es), outs-Distinct es)

pub smaller_distinct : (e : Expr) (es : List Expr) → e.kind ≡ kind.Distinct es → most size-Expr es + 1 < size-Expr e
smaller_distinct e es is = below (most size-Expr es) (size-ExprKind e.kind) (size-Expr e) (subst (λ (k : ExprKind). most size-Expr es < size-ExprKind k) (sym is) (within_distinct es)) (kind_smaller e)

within_record : (xs : List Setting) → most size-Setting xs < size-ExprKind (kind.Record xs)
within_record xs = grind (arith, size_is-ExprKind (kind.Record xs), outs-Record xs)

pub smaller_record : (e : Expr) (xs : List Setting) → e.kind ≡ kind.Record xs → most size-Setting xs + 1 < size-Expr e
smaller_record e xs is = below (most size-Setting xs) (size-ExprKind e.kind) (size-Expr e) (subst (λ (k : ExprKind). most size-Setting xs < size-ExprKind k) (sym is) (within_record xs)) (kind_smaller e)

within_update : (a : Expr) (xs : List Setting) → max (size-Expr a) (most size-Setting xs) < size-ExprKind (kind.Update a xs)
within_update a xs = grind (arith, size_is-ExprKind (kind.Update a xs), outs-Update a xs)

pub smaller_update : (e : Expr) (a : Expr) (xs : List Setting) → e.kind ≡ kind.Update a xs → max (size-Expr a) (most size-Setting xs) + 1 < size-Expr e
smaller_update e a xs is = below (max (size-Expr a) (most size-Setting xs)) (size-ExprKind e.kind) (size-Expr e) (subst (λ (k : ExprKind). max (size-Expr a) (most size-Setting xs) < size-ExprKind k) (sym is) (within_update a xs)) (kind_smaller e)
