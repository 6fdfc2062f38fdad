-- What the tree of a text is made of: each part has a place in the text, and each name is an identifier.
use Rattle.std.proofs.Common.{◌≡◌, ◌≤◌, ◌<◌, ℕ, true, List, [], ◌∷◌, length, Option, Some, None, subst, sym, pos, false}
use Rattle.std.specs.List.{AllByRecursion}
use Rattle.ae_core.specs.Signatures.{is_name}
use Rattle.ae_core.specs.Sorts.{numeral_ok}
use Rattle.ae_syntax.specs.declared.spans.Span.{Span}
use Rattle.ae_syntax.specs.declared.types.WrittenType.{WrittenType}
use Rattle.ae_syntax.specs.declared.types.TypeKind as type_kind
use Rattle.ae_syntax.specs.declared.exprs.BinaryOp.{BinaryOp}
use Rattle.ae_syntax.specs.declared.exprs.Quantifier.{Quantifier}
use Rattle.ae_syntax.specs.declared.exprs.Number.{Number}
use Rattle.ae_syntax.specs.declared.exprs.Number.TheVariants as number
use Rattle.ae_syntax.specs.declared.exprs.Expr.{Expr}
use Rattle.ae_syntax.specs.declared.exprs.ExprKind as kind
use Rattle.ae_syntax.specs.declared.exprs.Group.{Group}
use Rattle.ae_syntax.specs.declared.exprs.Trigger.{Trigger, roll-Trigger}
use Rattle.ae_syntax.specs.declared.exprs.Setting.{Setting, roll-Setting}
use Rattle.ae_syntax.specs.declared.decls.TypedName.{TypedName}
use Rattle.ae_syntax.specs.declared.decls.Decl.{Decl}
use Rattle.ae_syntax.specs.declared.decls.DeclKind.{DeclKind}
use Rattle.ae_syntax.specs.declared.decls.DeclKind.TheVariants as decl_kind
use Rattle.ae_syntax.specs.Parts.{expression, written}
use Rattle.ae_elab.specs.Scope.{name_in}

-- a place begins in the text
abbrev pub IsPlace : List ℕ → Span → Type 0
IsPlace text s = s.from ≤ length text

-- an identifier stands there
pub record IsIdentifier (text : List ℕ) (s : Span) : Type 0 where
  pub place : IsPlace text s
  pub name : is_name (name_in text s) ≡ true

-- a number within the limits of terms
abbrev pub IsNumber : Number → Type 0
IsNumber (number.Whole n) = numeral_ok n (pos 1) false ≡ true
IsNumber (number.Decimal top bottom) = numeral_ok top bottom true ≡ true

-- ---- types
mutual
  pub data IsWritten (text : List ℕ) : WrittenType → Type 0 where
    is_int : (s : Span) → IsWritten text (written s type_kind.Int)
    is_real : (s : Span) → IsWritten text (written s type_kind.Real)
    is_bool : (s : Span) → IsWritten text (written s type_kind.Bool)
    is_unit : (s : Span) → IsWritten text (written s type_kind.Unit)
    is_var : (s : Span) → IsPlace text s → IsWritten text (written s type_kind.Var)
    is_named : (s n : Span) (ws : List WrittenType) → IsIdentifier text n → AreWritten text ws → IsWritten text (written s (type_kind.Named n ws))

  pub data AreWritten (text : List ℕ) : List WrittenType → Type 0 where
    no_types : AreWritten text []
    and_type : (w : WrittenType) (ws : List WrittenType) → IsWritten text w → AreWritten text ws → AreWritten text (w ∷ ws)

pub record IsGroup (text : List ℕ) (g : Group) : Type 0 where
  pub names : AllByRecursion (IsIdentifier text) g.names
  pub sort : IsWritten text g.sort

-- ---- expressions
mutual
  pub data IsTree (text : List ℕ) : Expr → Type 0 where
    is_binary : (s : Span) (o : BinaryOp) (a b : Expr) → IsPlace text s → IsTree text a → IsTree text b → IsTree text (expression s (kind.Binary o a b))
    is_not : (s : Span) (a : Expr) → IsPlace text s → IsTree text a → IsTree text (expression s (kind.Not a))
    is_negative : (s : Span) (a : Expr) → IsPlace text s → IsTree text a → IsTree text (expression s (kind.Negative a))
    is_quantified : (s : Span) (q : Quantifier) (gs : List Group) (ts : List Trigger) (b : Expr) → IsPlace text s → AllByRecursion (IsGroup text) gs → AreTriggers text ts → IsTree text b
        → IsTree text (expression s (kind.Quantified q gs ts b))
    is_let : (s n : Span) (a b : Expr) → IsPlace text s → IsIdentifier text n → IsTree text a → IsTree text b → IsTree text (expression s (kind.Let n a b))
    is_if : (s : Span) (c a b : Expr) → IsPlace text s → IsTree text c → IsTree text a → IsTree text b → IsTree text (expression s (kind.If c a b))
    is_field : (s : Span) (a : Expr) (n : Span) → IsPlace text s → IsTree text a → IsIdentifier text n → IsTree text (expression s (kind.Field a n))
    is_apply : (s n : Span) (es : List Expr) → IsPlace text s → IsIdentifier text n → AreTrees text es → IsTree text (expression s (kind.Apply n es))
    is_numeral : (s : Span) (n : Number) → IsPlace text s → IsNumber n → IsTree text (expression s (kind.Numeral n))
    is_true : (s : Span) → IsPlace text s → IsTree text (expression s kind.True)
    is_false : (s : Span) → IsPlace text s → IsTree text (expression s kind.False)
    is_void : (s : Span) → IsPlace text s → IsTree text (expression s kind.Void)
    is_bracketed : (s : Span) (a : Expr) → IsPlace text s → IsTree text a → IsTree text (expression s (kind.Bracketed a))
    is_ascribed : (s : Span) (a : Expr) (w : WrittenType) → IsPlace text s → IsTree text a → IsWritten text w → IsTree text (expression s (kind.Ascribed a w))
    is_distinct : (s : Span) (es : List Expr) → IsPlace text s → AreTrees text es → IsTree text (expression s (kind.Distinct es))
    is_record : (s : Span) (xs : List Setting) → IsPlace text s → AreSettings text xs → IsTree text (expression s (kind.Record xs))
    is_update : (s : Span) (a : Expr) (xs : List Setting) → IsPlace text s → IsTree text a → AreSettings text xs → IsTree text (expression s (kind.Update a xs))

  pub data AreTrees (text : List ℕ) : List Expr → Type 0 where
    no_trees : AreTrees text []
    and_tree : (e : Expr) (es : List Expr) → IsTree text e → AreTrees text es → AreTrees text (e ∷ es)

  pub data AreTriggers (text : List ℕ) : List Trigger → Type 0 where
    no_triggers : AreTriggers text []
    and_trigger : (s : Span) (es : List Expr) (ts : List Trigger) → AreTrees text es → AreTriggers text ts → AreTriggers text (roll-Trigger (record { span = s; terms = es }) ∷ ts)

  pub data AreSettings (text : List ℕ) : List Setting → Type 0 where
    no_settings : AreSettings text []
    and_setting : (s n : Span) (e : Expr) (xs : List Setting) → IsIdentifier text n → IsTree text e → AreSettings text xs
        → AreSettings text (roll-Setting (record { span = s; name = n; value = e }) ∷ xs)

-- a trigger, and a field with its value
pub record IsTrigger (text : List ℕ) (t : Trigger) : Type 0 where
  pub span : Span
  pub terms : List Expr
  pub is : t ≡ roll-Trigger (record { span = span; terms = terms })
  pub trees : AreTrees text terms

pub record IsSetting (text : List ℕ) (x : Setting) : Type 0 where
  pub span : Span
  pub name : Span
  pub value : Expr
  pub is : x ≡ roll-Setting (record { span = span; name = name; value = value })
  pub identifier : IsIdentifier text name
  pub tree : IsTree text value

-- ---- declarations
pub record IsTypedName (text : List ℕ) (x : TypedName) : Type 0 where
  pub name : IsIdentifier text x.name
  pub sort : IsWritten text x.sort

abbrev pub IsResult : List ℕ → Option WrittenType → Type 0
IsResult text None = Unit {0}
IsResult text (Some w) = IsWritten text w

abbrev pub IsKind : List ℕ → DeclKind → Type 0
IsKind text (decl_kind.Type ps n fs) = AllByRecursion (IsPlace text) ps × IsIdentifier text n × AllByRecursion (IsTypedName text) fs
IsKind text (decl_kind.Enumeration n cs) = IsIdentifier text n × AllByRecursion (IsIdentifier text) cs × (0 < length cs)
IsKind text (decl_kind.Logic ac ns ws r) = AllByRecursion (IsIdentifier text) ns × AreWritten text ws × IsResult text r.sort
IsKind text (decl_kind.Function n fs w e) = IsIdentifier text n × AllByRecursion (IsTypedName text) fs × IsWritten text w × IsTree text e
IsKind text (decl_kind.Predicate n fs e) = IsIdentifier text n × AllByRecursion (IsTypedName text) fs × IsTree text e
IsKind text (decl_kind.Axiom n e) = IsIdentifier text n × IsTree text e
IsKind text (decl_kind.Goal n e) = IsIdentifier text n × IsTree text e

pub record IsDeclaration (text : List ℕ) (d : Decl) : Type 0 where
  pub place : IsPlace text d.span
  pub kind : IsKind text d.kind

-- ---- lists
pub written_list : (text : List ℕ) (ws : List WrittenType) → AllByRecursion (IsWritten text) ws → AreWritten text ws
written_list text [] a = no_types
written_list text (w ∷ ws) a = and_type w ws a.0 (written_list text ws a.1)

pub tree_list : (text : List ℕ) (es : List Expr) → AllByRecursion (IsTree text) es → AreTrees text es
tree_list text [] a = no_trees
tree_list text (e ∷ es) a = and_tree e es a.0 (tree_list text es a.1)

pub trigger_list : (text : List ℕ) (ts : List Trigger) → AllByRecursion (IsTrigger text) ts → AreTriggers text ts
trigger_list text [] a = no_triggers
trigger_list text (t ∷ ts) a =
    subst (λ (x : Trigger). AreTriggers text (x ∷ ts)) (sym a.0.is) (and_trigger a.0.span a.0.terms ts a.0.trees (trigger_list text ts a.1))

pub setting_list : (text : List ℕ) (xs : List Setting) → AllByRecursion (IsSetting text) xs → AreSettings text xs
setting_list text [] a = no_settings
setting_list text (x ∷ xs) a =
    subst (λ (y : Setting). AreSettings text (y ∷ xs)) (sym a.0.is) (and_setting a.0.span a.0.name a.0.value xs a.0.identifier a.0.tree (setting_list text xs a.1))
