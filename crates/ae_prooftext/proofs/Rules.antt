-- The texts of values, variant by variant.
use Rattle.std.proofs.Common.{ℕ, ℤ, List, [], ◌∷◌, ◌++◌, ◌≡◌, Bool, map, decimal, length, pos, sym, ap, ◌∙◌, append_assoc, append-nil, refl, codes, slice_get, suc, zero, arith}
use Rattle.std.specs.Prelude.{Some}
use lib.IntN.{negsuc}
use Rattle.ae_base.specs.Options.{or_else, ◌>>=◌}
use Rattle.ae_core.specs.declared.problems.TypeEntry.{TypeEntry}
use Rattle.ae_core.specs.declared.problems.Signature.{Signature}
use Rattle.ae_core.specs.declared.terms.Sort.{Sort, Var, Rigid, Int, Real, Bool as BoolSort, Unit as UnitSort, Named, fold-roll-Sort}
use Rattle.ae_core.specs.declared.terms.Sort.TheOpen as sort_layer
use Rattle.ae_core.specs.declared.terms.Sort.TheVariants.{rolls-Var, rolls-Rigid, rolls-Int, rolls-Real, rolls-Bool, rolls-Unit, rolls-Named}
use Rattle.ae_core.specs.declared.terms.Term.{Term, Bound, Num, Fresh, Apply, fold-roll-Term}
use Rattle.ae_core.specs.declared.terms.Term.TheOpen as term_layer
use Rattle.ae_core.specs.declared.terms.Term.TheVariants.{rolls-Bound, rolls-Num, rolls-Fresh, rolls-Apply}
use Rattle.ae_core.specs.declared.terms.Head.{Head}
use Rattle.ae_core.specs.declared.terms.Head.TheVariants as head
use Rattle.ae_core.specs.declared.formulas.Formula.{Formula, True, False, Eq, Lt, Le, Pred, Not, And, Or, Xor, Iff, All, Ex, fold-roll-Formula}
use Rattle.ae_core.specs.declared.formulas.Formula.TheOpen as formula_layer
use Rattle.ae_core.specs.declared.formulas.Formula.TheVariants.{rolls-True, rolls-False, rolls-Eq, rolls-Lt, rolls-Le, rolls-Pred, rolls-Not, rolls-And, rolls-Or, rolls-Xor, rolls-Iff, rolls-All, rolls-Ex}
use Rattle.ae_core.specs.declared.formulas.Quant.{Quant}
use Rattle.ae_codes.specs.Listings.{listed_text}
use Rattle.ae_prooftext.specs.Texts.{sort_text, sort_text_step, get, term_text, term_text_step, numeral_text, kind_word, is_all, is_ex, bracketed, trigger_text, formula_text, formula_text_step, quant_text, quant_text_step}
use Rattle.ae_prooftext.specs.Words.{type_names, type_name, head_word, takes_sorts}
use Rattle.ae_prooftext.specs.Inner.Pieces.{spaced_sorts, compound_bytes, bound_bytes, numeral_bytes, fresh_bytes, application_bytes, relation_bytes, negation_bytes, left_bytes, right_bytes, quant_bytes}
use Rattle.ae_prooftext.specs.FormulaTexts.{quant_text_is}
use Rattle.ae_prooftext.proofs.Pieces.{joined_is}

two_group : (w a b : List ℕ) → w ++ ((a ++ 32 ∷ []) ++ (b ++ 41 ∷ [])) ≡ (((w ++ a) ++ 32 ∷ []) ++ b) ++ 41 ∷ []
two_group w a b =
    sym (append_assoc w (a ++ 32 ∷ []) (b ++ 41 ∷ []))
    ∙ ap (λ z. z ++ (b ++ 41 ∷ [])) (sym (append_assoc w a (32 ∷ [])))
    ∙ sym (append_assoc ((w ++ a) ++ 32 ∷ []) b (41 ∷ []))

halves : (w a b : List ℕ) → w ++ ((a ++ 32 ∷ []) ++ (b ++ 41 ∷ [])) ≡ ((w ++ a) ++ 32 ∷ []) ++ (b ++ 41 ∷ [])
halves w a b = sym (append_assoc w (a ++ 32 ∷ []) (b ++ 41 ∷ [])) ∙ ap (λ z. z ++ (b ++ 41 ∷ [])) (sym (append_assoc w a (32 ∷ [])))

quant_group : (w a b c : List ℕ) → w ++ (a ++ (32 ∷ 91 ∷ (b ++ (32 ∷ (c ++ 41 ∷ []))))) ≡ (((((w ++ a) ++ 32 ∷ 91 ∷ []) ++ b) ++ 32 ∷ []) ++ c) ++ 41 ∷ []
quant_group w a b c =
    sym (append_assoc w a (32 ∷ 91 ∷ (b ++ (32 ∷ (c ++ 41 ∷ [])))))
    ∙ sym (append_assoc (w ++ a) (32 ∷ 91 ∷ []) (b ++ (32 ∷ (c ++ 41 ∷ []))))
    ∙ sym (append_assoc ((w ++ a) ++ 32 ∷ 91 ∷ []) b (32 ∷ (c ++ 41 ∷ [])))
    ∙ sym (append_assoc (((w ++ a) ++ 32 ∷ 91 ∷ []) ++ b) (32 ∷ []) (c ++ 41 ∷ []))
    ∙ sym (append_assoc ((((w ++ a) ++ 32 ∷ 91 ∷ []) ++ b) ++ 32 ∷ []) c (41 ∷ []))

-- ---- sorts
module _ (sig : Signature) where
  pub text_var : (n : ℕ) → sort_text (type_names sig) (Var n) ≡ []
  unfolding sort_text
  text_var n = ap (sort_text (type_names sig)) (sym (rolls-Var n)) ∙ fold-roll-Sort (List ℕ) (sort_text_step (type_names sig)) (sort_layer.Var n)

  pub text_rigid : (n : ℕ) → sort_text (type_names sig) (Rigid n) ≡ codes "'" ++ decimal n
  unfolding sort_text
  text_rigid n = ap (sort_text (type_names sig)) (sym (rolls-Rigid n)) ∙ fold-roll-Sort (List ℕ) (sort_text_step (type_names sig)) (sort_layer.Rigid n)

  pub text_int : sort_text (type_names sig) Int ≡ codes "int"
  unfolding sort_text
  text_int = ap (sort_text (type_names sig)) (sym rolls-Int) ∙ fold-roll-Sort (List ℕ) (sort_text_step (type_names sig)) sort_layer.Int

  pub text_real : sort_text (type_names sig) Real ≡ codes "real"
  unfolding sort_text
  text_real = ap (sort_text (type_names sig)) (sym rolls-Real) ∙ fold-roll-Sort (List ℕ) (sort_text_step (type_names sig)) sort_layer.Real

  pub text_bool : sort_text (type_names sig) BoolSort ≡ codes "bool"
  unfolding sort_text
  text_bool = ap (sort_text (type_names sig)) (sym rolls-Bool) ∙ fold-roll-Sort (List ℕ) (sort_text_step (type_names sig)) sort_layer.Bool

  pub text_unit : sort_text (type_names sig) UnitSort ≡ codes "unit"
  unfolding sort_text
  text_unit = ap (sort_text (type_names sig)) (sym rolls-Unit) ∙ fold-roll-Sort (List ℕ) (sort_text_step (type_names sig)) sort_layer.Unit

  pub get_is : (n : ℕ) → get (type_names sig) n ≡ type_name sig n
  unfolding type_names
  get_is n = go sig.types n
    where
      go : (es : List TypeEntry) (n : ℕ) → or_else (slice_get (map (λ e. e.name) es) n) [] ≡ or_else (slice_get es n >>= λ e. Some e.name) []
      go [] n = refl
      go (e ∷ es) zero = refl
      go (e ∷ es) (suc n) = go es n

  lone : (k : ℕ) → sort_text (type_names sig) (Named k []) ≡ type_name sig k
  unfolding sort_text
  lone k = ap (sort_text (type_names sig)) (sym (rolls-Named k [])) ∙ fold-roll-Sort (List ℕ) (sort_text_step (type_names sig)) (sort_layer.Named k []) ∙ get_is k

  pub text_lone : (k : ℕ) (args : List Sort) → length args ≡ 0 → sort_text (type_names sig) (Named k args) ≡ type_name sig k
  text_lone k [] e = lone k
  text_lone k (s ∷ ss) e = absurd (omega (arith, e))

  pub text_named : (k : ℕ) (s : Sort) (ss : List Sort) → sort_text (type_names sig) (Named k (s ∷ ss)) ≡ compound_bytes sig k (s ∷ ss)
  unfolding sort_text
  text_named k s ss =
      ap (sort_text (type_names sig)) (sym (rolls-Named k (s ∷ ss))) ∙ fold-roll-Sort (List ℕ) (sort_text_step (type_names sig)) (sort_layer.Named k (s ∷ ss))
      ∙ ap (λ z. 40 ∷ (get (type_names sig) k ++ 32 ∷ z)) (joined_is (sort_text (type_names sig)) 41 s ss)
      ∙ ap (λ z. 40 ∷ (z ++ 32 ∷ ((sort_text (type_names sig) s ++ spaced_sorts sig ss) ++ 41 ∷ []))) (get_is k)
      ∙ ap (λ z. 40 ∷ z) (sym (append_assoc (type_name sig k) (spaced_sorts sig (s ∷ ss)) (41 ∷ [])))

  -- ---- terms
  pub text_bound : (n : ℕ) → term_text sig (Bound n) ≡ bound_bytes n
  unfolding term_text
  text_bound n = ap (term_text sig) (sym (rolls-Bound n)) ∙ fold-roll-Term (List ℕ) (term_text_step sig) (term_layer.Bound n)

  numeral_is : (a b : ℤ) (r : Bool) → numeral_text a b r ≡ numeral_bytes a b r
  numeral_is (pos n) b r = refl
  numeral_is (negsuc n) b r = refl

  pub text_num : (a b : ℤ) (r : Bool) → term_text sig (Num a b r) ≡ numeral_bytes a b r
  unfolding term_text
  text_num a b r = ap (term_text sig) (sym (rolls-Num a b r)) ∙ fold-roll-Term (List ℕ) (term_text_step sig) (term_layer.Num a b r) ∙ numeral_is a b r

  pub text_fresh : (n : ℕ) (s : Sort) → term_text sig (Fresh n s) ≡ fresh_bytes sig n s
  unfolding term_text
  text_fresh n s =
      ap (term_text sig) (sym (rolls-Fresh n s)) ∙ fold-roll-Term (List ℕ) (term_text_step sig) (term_layer.Fresh n s)
      ∙ ap (λ z. 40 ∷ 33 ∷ 32 ∷ z) (sym (append_assoc (decimal n ++ 32 ∷ []) (sort_text (type_names sig) s) (41 ∷ [])))

  pub text_apply : (h : Head) (ss : List Sort) (ts : List Term) → term_text sig (Apply h ss ts) ≡ application_bytes sig h ss ts
  unfolding term_text application_bytes
  text_apply h ss ts = ap (term_text sig) (sym (rolls-Apply h ss ts)) ∙ fold-roll-Term (List ℕ) (term_text_step sig) (term_layer.Apply h ss ts)

  -- ---- formulas
  pub text_true : formula_text sig True ≡ codes "@t"
  unfolding formula_text
  text_true = ap (formula_text sig) (sym rolls-True) ∙ fold-roll-Formula (List ℕ) (List ℕ) (formula_text_step sig) (quant_text_step sig) formula_layer.True

  pub text_false : formula_text sig False ≡ codes "@f"
  unfolding formula_text
  text_false = ap (formula_text sig) (sym rolls-False) ∙ fold-roll-Formula (List ℕ) (List ℕ) (formula_text_step sig) (quant_text_step sig) formula_layer.False

  pub text_eq : (a b : Term) → formula_text sig (Eq a b) ≡ relation_bytes sig (codes "(= ") a b
  unfolding formula_text
  text_eq a b = ap (formula_text sig) (sym (rolls-Eq a b)) ∙ fold-roll-Formula (List ℕ) (List ℕ) (formula_text_step sig) (quant_text_step sig) (formula_layer.Eq a b) ∙ two_group (codes "(= ") (term_text sig a) (term_text sig b)

  pub text_lt : (a b : Term) → formula_text sig (Lt a b) ≡ relation_bytes sig (codes "(< ") a b
  unfolding formula_text
  text_lt a b = ap (formula_text sig) (sym (rolls-Lt a b)) ∙ fold-roll-Formula (List ℕ) (List ℕ) (formula_text_step sig) (quant_text_step sig) (formula_layer.Lt a b) ∙ two_group (codes "(< ") (term_text sig a) (term_text sig b)

  pub text_le : (a b : Term) → formula_text sig (Le a b) ≡ relation_bytes sig (codes "(<= ") a b
  unfolding formula_text
  text_le a b = ap (formula_text sig) (sym (rolls-Le a b)) ∙ fold-roll-Formula (List ℕ) (List ℕ) (formula_text_step sig) (quant_text_step sig) (formula_layer.Le a b) ∙ two_group (codes "(<= ") (term_text sig a) (term_text sig b)

  pub text_pred : (n : ℕ) (ss : List Sort) (ts : List Term) → formula_text sig (Pred n ss ts) ≡ application_bytes sig (head.Symbol n) ss ts
  unfolding formula_text application_bytes takes_sorts head_word
  text_pred n ss ts = ap (formula_text sig) (sym (rolls-Pred n ss ts)) ∙ fold-roll-Formula (List ℕ) (List ℕ) (formula_text_step sig) (quant_text_step sig) (formula_layer.Pred n ss ts)

  pub text_not : (a : Formula) → formula_text sig (Not a) ≡ negation_bytes sig a
  unfolding formula_text
  text_not a = ap (formula_text sig) (sym (rolls-Not a)) ∙ fold-roll-Formula (List ℕ) (List ℕ) (formula_text_step sig) (quant_text_step sig) (formula_layer.Not a)

  pub text_and : (a b : Formula) → formula_text sig (And a b) ≡ left_bytes sig (codes "(@and ") a ++ right_bytes sig b
  unfolding formula_text
  text_and a b = ap (formula_text sig) (sym (rolls-And a b)) ∙ fold-roll-Formula (List ℕ) (List ℕ) (formula_text_step sig) (quant_text_step sig) (formula_layer.And a b) ∙ halves (codes "(@and ") (formula_text sig a) (formula_text sig b)

  pub text_or : (a b : Formula) → formula_text sig (Or a b) ≡ left_bytes sig (codes "(@or ") a ++ right_bytes sig b
  unfolding formula_text
  text_or a b = ap (formula_text sig) (sym (rolls-Or a b)) ∙ fold-roll-Formula (List ℕ) (List ℕ) (formula_text_step sig) (quant_text_step sig) (formula_layer.Or a b) ∙ halves (codes "(@or ") (formula_text sig a) (formula_text sig b)

  pub text_xor : (a b : Formula) → formula_text sig (Xor a b) ≡ left_bytes sig (codes "(@xor ") a ++ right_bytes sig b
  unfolding formula_text
  text_xor a b = ap (formula_text sig) (sym (rolls-Xor a b)) ∙ fold-roll-Formula (List ℕ) (List ℕ) (formula_text_step sig) (quant_text_step sig) (formula_layer.Xor a b) ∙ halves (codes "(@xor ") (formula_text sig a) (formula_text sig b)

  pub text_iff : (a b : Formula) → formula_text sig (Iff a b) ≡ left_bytes sig (codes "(@iff ") a ++ right_bytes sig b
  unfolding formula_text
  text_iff a b = ap (formula_text sig) (sym (rolls-Iff a b)) ∙ fold-roll-Formula (List ℕ) (List ℕ) (formula_text_step sig) (quant_text_step sig) (formula_layer.Iff a b) ∙ halves (codes "(@iff ") (formula_text sig a) (formula_text sig b)

  pub text_all : (q : Quant) → formula_text sig (All q) ≡ quant_bytes sig (codes "(@all [") q
  unfolding formula_text quant_text
  text_all q =
      ap (formula_text sig) (sym (rolls-All q)) ∙ fold-roll-Formula (List ℕ) (List ℕ) (formula_text_step sig) (quant_text_step sig) (formula_layer.All q)
      ∙ ap (λ z. bracketed (kind_word is_all) z) (quant_text_is sig q)
      ∙ quant_group (codes "(@all [") (listed_text 93 (map (sort_text (type_names sig)) q.sorts)) (listed_text 93 (map (trigger_text sig) q.triggers)) (formula_text sig q.body)

  pub text_ex : (q : Quant) → formula_text sig (Ex q) ≡ quant_bytes sig (codes "(@ex [") q
  unfolding formula_text quant_text
  text_ex q =
      ap (formula_text sig) (sym (rolls-Ex q)) ∙ fold-roll-Formula (List ℕ) (List ℕ) (formula_text_step sig) (quant_text_step sig) (formula_layer.Ex q)
      ∙ ap (λ z. bracketed (kind_word is_ex) z) (quant_text_is sig q)
      ∙ quant_group (codes "(@ex [") (listed_text 93 (map (sort_text (type_names sig)) q.sorts)) (listed_text 93 (map (trigger_text sig) q.triggers)) (formula_text sig q.body)

-- what stands before values
pub ruleset sort_rules = (append-nil, text_var, text_rigid, text_int, text_real, text_bool, text_unit)

pub ruleset term_rules = (text_bound, text_num, text_fresh, text_apply)

pub ruleset formula_rules = (text_true, text_false, text_eq, text_lt, text_le, text_pred, text_not, text_and, text_or, text_xor, text_iff, text_all, text_ex)
