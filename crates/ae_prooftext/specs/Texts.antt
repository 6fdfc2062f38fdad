-- How the values of proofs are spelled. Each function is total: what it gives of a value that no text stands for is of no meaning.
use Rattle.std.specs.Prelude.{ℕ, suc, ℤ, pos, Bool, true, false, List, [], ◌∷◌, ◌++◌, map, decimal, Option, Some, None, slice_get, codes, unsigned_abs}
use lib.IntN.{negsuc}
use Rattle.std.specs.Fmt.{signed_decimal}
use Rattle.ae_base.specs.Options.{or_else}
use Rattle.ae_core.specs.declared.terms.Sort.{Sort, Sort-F, fold-Sort}
use Rattle.ae_core.specs.declared.terms.Sort.TheOpen as sort_layer
use Rattle.std.specs.List.{flat_map}
use Rattle.ae_core.specs.declared.problems.Signature.{Signature}
use Rattle.ae_core.specs.declared.proofs.Scaled.{Scaled}
use Rattle.ae_core.specs.declared.proofs.EqLine.{EqLine}
use Rattle.ae_core.specs.declared.proofs.EqLine.TheVariants.{EqHyp, EqRefl, EqSym, EqTrans, EqCong, EqAc, EqLin, EqField, EqFields, LeHyp, LtHyp, LeSum, LtSum, LeRound}
use Rattle.ae_core.specs.declared.proofs.Ending.{Ending}
use Rattle.ae_core.specs.declared.proofs.Ending.TheVariants.{Neq, Const, Clash, Pred, Zero, Gcd}
use Rattle.ae_core.specs.declared.proofs.Block.{Block}
use Rattle.ae_core.specs.declared.proofs.ClauseLine.{ClauseLine}
use Rattle.ae_core.specs.declared.proofs.ClauseLine.TheVariants.{Hyp, Goal, Def, Inst, Fresh, Exh, Tri, Block as BlockLine, Rup}
use Rattle.ae_core.specs.declared.terms.Term.{Term, Term-F, fold-Term}
use Rattle.ae_core.specs.declared.terms.Term.TheOpen as term_layer
use Rattle.ae_core.specs.declared.formulas.Formula.{Formula, Formula-F, fold-Formula}
use Rattle.ae_core.specs.declared.formulas.Formula.TheOpen as formula_layer
use Rattle.ae_core.specs.declared.formulas.Quant.{Quant, Quant-F, fold-Quant}
use Rattle.ae_core.specs.declared.formulas.Lit.{Lit}
use Rattle.ae_prooftext.specs.declared.proofs.ProofText.{ProofText}
use Rattle.ae_codes.specs.Listings.{joined, listed_text, after_text}
use Rattle.ae_prooftext.specs.Words.{type_names, symbol_name, has_variables, head_word, takes_sorts}

-- ---- sorts: `int`, `real`, `bool`, `unit`, a type's name, `(list int)`, and `'0` for a goal's type variable
-- the name of a number, or nothing
abbrev pub get : List (List ℕ) → ℕ → List ℕ
get ts n = or_else (slice_get ts n) []

abbrev pub sort_text_step : List (List ℕ) → Sort-F (List ℕ) → List ℕ
sort_text_step types (sort_layer.Var n) = []
sort_text_step types (sort_layer.Rigid n) = 39 ∷ decimal n
sort_text_step types sort_layer.Int = 105 ∷ 110 ∷ 116 ∷ []
sort_text_step types sort_layer.Real = 114 ∷ 101 ∷ 97 ∷ 108 ∷ []
sort_text_step types sort_layer.Bool = 98 ∷ 111 ∷ 111 ∷ 108 ∷ []
sort_text_step types sort_layer.Unit = 117 ∷ 110 ∷ 105 ∷ 116 ∷ []
sort_text_step types (sort_layer.Named k []) = get types k
sort_text_step types (sort_layer.Named k (t ∷ ts)) = 40 ∷ (get types k ++ 32 ∷ joined 41 t ts)

unfoldable pub sort_text : List (List ℕ) → Sort → List ℕ
sort_text types = fold-Sort (List ℕ) (sort_text_step types)

-- sorts with a blank before each
abbrev pub spaced : List (List ℕ) → List Sort → List ℕ
spaced types [] = []
spaced types (s ∷ ss) = (32 ∷ sort_text types s) ++ spaced types ss

-- ---- numerals: `5` of sort `int`, `5/1` and `-3/2` of sort `real`
abbrev pub below_text : ℤ → Bool → List ℕ
below_text b false = []
below_text b true = 47 ∷ decimal (unsigned_abs b)

abbrev pub numeral_text : ℤ → ℤ → Bool → List ℕ
numeral_text (pos n) b r = decimal n ++ below_text b r
numeral_text (negsuc n) b r = 45 ∷ (decimal (suc n) ++ below_text b r)

-- a head with its sorts and arguments, of which these are the texts; `sorted` says whether sorts stand behind it
abbrev pub applied_text : Bool → List ℕ → List (List ℕ) → List (List ℕ) → List ℕ
applied_text true w ss ts = 40 ∷ ((w ++ 32 ∷ []) ++ (91 ∷ (listed_text 93 ss ++ after_text 41 ts)))
applied_text false w ss [] = w
applied_text false w ss (t ∷ ts) = 40 ∷ ((w ++ 32 ∷ []) ++ joined 41 t ts)

-- ---- the words of formulas
pub data Kind : Type 0 where
  is_eq : Kind
  is_lt : Kind
  is_le : Kind
  is_not : Kind
  is_and : Kind
  is_or : Kind
  is_xor : Kind
  is_iff : Kind
  is_all : Kind
  is_ex : Kind
  is_pred : Kind

abbrev pub kind_word : Kind → List ℕ
kind_word is_eq = 61 ∷ []
kind_word is_lt = 60 ∷ []
kind_word is_le = 60 ∷ 61 ∷ []
kind_word is_not = 64 ∷ 110 ∷ 111 ∷ 116 ∷ []
kind_word is_and = 64 ∷ 97 ∷ 110 ∷ 100 ∷ []
kind_word is_or = 64 ∷ 111 ∷ 114 ∷ []
kind_word is_xor = 64 ∷ 120 ∷ 111 ∷ 114 ∷ []
kind_word is_iff = 64 ∷ 105 ∷ 102 ∷ 102 ∷ []
kind_word is_all = 64 ∷ 97 ∷ 108 ∷ 108 ∷ []
kind_word is_ex = 64 ∷ 101 ∷ 120 ∷ []
kind_word is_pred = []

abbrev pub true_word : List ℕ
true_word = 64 ∷ 116 ∷ []

abbrev pub false_word : List ℕ
false_word = 64 ∷ 102 ∷ []

-- a word and what stands behind it, in brackets
abbrev pub bracketed : List ℕ → List ℕ → List ℕ
bracketed w body = 40 ∷ ((w ++ 32 ∷ []) ++ body)

abbrev pub two_text : List ℕ → List ℕ → List ℕ
two_text a b = (a ++ 32 ∷ []) ++ (b ++ 41 ∷ [])

-- the sign of a literal
abbrev pub sign : Bool → ℕ
sign true = 43
sign false = 45

module _ (sig : Signature) where
  -- ---- terms
  abbrev pub term_text_step : Term-F (List ℕ) → List ℕ
  term_text_step (term_layer.Bound n) = 35 ∷ decimal n
  term_text_step (term_layer.Num a b r) = numeral_text a b r
  term_text_step (term_layer.Fresh n s) = 40 ∷ 33 ∷ 32 ∷ ((decimal n ++ 32 ∷ []) ++ (sort_text (type_names sig) s ++ 41 ∷ []))
  term_text_step (term_layer.Apply h ss ts) = applied_text (takes_sorts sig h) (head_word sig h) (map (sort_text (type_names sig)) ss) ts

  unfoldable pub term_text : Term → List ℕ
  term_text = fold-Term (List ℕ) term_text_step

  -- ---- formulas
  abbrev pub trigger_text : List Term → List ℕ
  trigger_text ts = 91 ∷ listed_text 93 (map term_text ts)

  -- the sorts of a block's variables, its triggers, and the formula under it
  abbrev pub block_text : List Sort → List (List Term) → List ℕ → List ℕ
  block_text ss ts body = 91 ∷ (listed_text 93 (map (sort_text (type_names sig)) ss) ++ (32 ∷ 91 ∷ (listed_text 93 (map trigger_text ts) ++ (32 ∷ (body ++ 41 ∷ [])))))

  abbrev pub formula_text_step : Formula-F (List ℕ) (List ℕ) → List ℕ
  formula_text_step formula_layer.True = true_word
  formula_text_step formula_layer.False = false_word
  formula_text_step (formula_layer.Eq a b) = bracketed (kind_word is_eq) (two_text (term_text a) (term_text b))
  formula_text_step (formula_layer.Lt a b) = bracketed (kind_word is_lt) (two_text (term_text a) (term_text b))
  formula_text_step (formula_layer.Le a b) = bracketed (kind_word is_le) (two_text (term_text a) (term_text b))
  formula_text_step (formula_layer.Pred n ss ts) = applied_text (has_variables sig n) (symbol_name sig n) (map (sort_text (type_names sig)) ss) (map term_text ts)
  formula_text_step (formula_layer.Not a) = bracketed (kind_word is_not) (a ++ 41 ∷ [])
  formula_text_step (formula_layer.And a b) = bracketed (kind_word is_and) (two_text a b)
  formula_text_step (formula_layer.Or a b) = bracketed (kind_word is_or) (two_text a b)
  formula_text_step (formula_layer.Xor a b) = bracketed (kind_word is_xor) (two_text a b)
  formula_text_step (formula_layer.Iff a b) = bracketed (kind_word is_iff) (two_text a b)
  formula_text_step (formula_layer.All q) = bracketed (kind_word is_all) q
  formula_text_step (formula_layer.Ex q) = bracketed (kind_word is_ex) q

  abbrev pub quant_text_step : Quant-F (List ℕ) (List ℕ) → List ℕ
  quant_text_step q = block_text q.sorts q.triggers q.body

  unfoldable pub formula_text : Formula → List ℕ
  formula_text = fold-Formula (List ℕ) (List ℕ) formula_text_step quant_text_step

  unfoldable pub quant_text : Quant → List ℕ
  quant_text = fold-Quant (List ℕ) (List ℕ) formula_text_step quant_text_step

  -- ---- literals
  abbrev pub literal_text : Lit → List ℕ
  literal_text x = sign x.positive ∷ formula_text x.formula

-- ---- numbers, factors and sums, up to the end of their line
abbrev pub scaled_text : Scaled → List ℕ
scaled_text x = (signed_decimal x.factor ++ 32 ∷ []) ++ decimal x.line

-- each behind a blank
unfoldable pub numbers_text : List ℕ → List ℕ
numbers_text ks = after_text 10 (map decimal ks)

unfoldable pub parts_text : List Scaled → List ℕ
parts_text xs = after_text 10 (map scaled_text xs)

abbrev pub sum_text : ℤ → List Scaled → List ℕ
sum_text d xs = signed_decimal d ++ parts_text xs

-- a number that ends a line, and one that more follows
abbrev pub number_line : ℕ → List ℕ
number_line n = decimal n ++ 10 ∷ []

abbrev pub number_blank : ℕ → List ℕ
number_blank n = decimal n ++ 32 ∷ []

-- ---- endings of blocks
unfoldable pub ending_text : Ending → List ℕ
ending_text (Neq k i) = codes "neq " ++ (number_blank k ++ number_line i)
ending_text (Const k) = codes "const " ++ number_line k
ending_text (Clash k) = codes "clash " ++ number_line k
ending_text (Pred i j ks) = codes "pred " ++ (number_blank i ++ (decimal j ++ numbers_text ks))
ending_text (Zero k) = codes "zero " ++ number_line k
ending_text (Gcd k) = codes "gcd " ++ number_line k

-- ---- the first lines of a proof text: version 1, or version 2 with the places of the axioms that the proof rests on
abbrev pub heading_text : Option (List ℕ) → List ℕ
heading_text None = codes "proof 1\n"
heading_text (Some axioms) = codes "proof 2\naxioms [" ++ (listed_text 93 (map decimal axioms) ++ codes "\n")

module _ (sig : Signature) where
  -- ---- derived lines: the relation, its two terms and the rule
  abbrev pub sides_text : List ℕ → Term → Term → List ℕ → List ℕ
  sides_text w s t rule = w ++ ((term_text sig s ++ 32 ∷ []) ++ ((term_text sig t ++ 32 ∷ []) ++ rule))

  unfoldable pub derived_text : EqLine → List ℕ
  derived_text (EqHyp s t n) = sides_text (codes "eq ") s t (codes "hyp " ++ number_line n)
  derived_text (EqRefl s t) = sides_text (codes "eq ") s t (codes "refl\n")
  derived_text (EqSym s t n) = sides_text (codes "eq ") s t (codes "sym " ++ number_line n)
  derived_text (EqTrans s t n m) = sides_text (codes "eq ") s t (codes "trans " ++ (number_blank n ++ number_line m))
  derived_text (EqCong s t ks) = sides_text (codes "eq ") s t (codes "cong" ++ numbers_text ks)
  derived_text (EqAc s t) = sides_text (codes "eq ") s t (codes "ac\n")
  derived_text (EqLin s t d xs) = sides_text (codes "eq ") s t (codes "lin " ++ sum_text d xs)
  derived_text (EqField s t) = sides_text (codes "eq ") s t (codes "field\n")
  derived_text (EqFields s t ks) = sides_text (codes "eq ") s t (codes "fields" ++ numbers_text ks)
  derived_text (LeHyp s t n) = sides_text (codes "le ") s t (codes "hyp " ++ number_line n)
  derived_text (LtHyp s t n) = sides_text (codes "lt ") s t (codes "hyp " ++ number_line n)
  derived_text (LeSum s t d xs) = sides_text (codes "le ") s t (codes "sum " ++ sum_text d xs)
  derived_text (LtSum s t d xs) = sides_text (codes "lt ") s t (codes "sum " ++ sum_text d xs)
  derived_text (LeRound s t n) = sides_text (codes "le ") s t (codes "round " ++ number_line n)

  -- ---- blocks: hypotheses, derived lines and an ending
  abbrev pub hypothesis_text : Lit → List ℕ
  hypothesis_text x = codes "h " ++ (literal_text sig x ++ 10 ∷ [])

  unfoldable pub refutation_text : Block → List ℕ
  refutation_text b = flat_map hypothesis_text b.deriv.hyps ++ (flat_map derived_text b.deriv.lines ++ ending_text b.ending)

  -- ---- clause lines
  unfoldable pub line_text : ClauseLine → List ℕ
  line_text (Hyp n ss) = codes "hyp " ++ (number_blank n ++ (91 ∷ (listed_text 93 (map (sort_text (type_names sig)) ss) ++ 10 ∷ [])))
  line_text Goal = codes "goal\n"
  line_text (Def n g) = codes "def " ++ (number_blank n ++ (formula_text sig g ++ 10 ∷ []))
  line_text (Inst g ts) = codes "inst " ++ ((formula_text sig g ++ 32 ∷ []) ++ (91 ∷ (listed_text 93 (map (term_text sig) ts) ++ 10 ∷ [])))
  line_text (Fresh g n) = codes "fresh " ++ ((formula_text sig g ++ 32 ∷ []) ++ number_line n)
  line_text (Exh t) = codes "exh " ++ (term_text sig t ++ 10 ∷ [])
  line_text (Tri s t) = codes "tri " ++ ((term_text sig s ++ 32 ∷ []) ++ (term_text sig t ++ 10 ∷ []))
  line_text (BlockLine b) = codes "block\n" ++ refutation_text b
  line_text (Rup c ks) = codes "rup [" ++ (listed_text 93 (map (literal_text sig) c) ++ numbers_text ks)

  -- ---- proofs: their clause lines and the line `end`
  unfoldable pub proof_lines_text : List ClauseLine → List ℕ
  proof_lines_text ls = flat_map line_text ls ++ codes "end\n"

  -- a whole proof text
  unfoldable pub proof_text : ProofText → List ℕ
  proof_text p = heading_text p.axioms ++ proof_lines_text p.proof.lines
