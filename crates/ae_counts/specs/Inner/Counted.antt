-- Whether the numbers of something in a value have 64 bits, computed part by part.
use Rattle.std.specs.Prelude.{ℕ, Bool, true, ◌&&◌, ◌^◌, nat_lt, List, Option, Some, None}
use Rattle.std.specs.List.{list_all}
use Rattle.ae_core.specs.declared.terms.Sort.{Sort}
use Rattle.ae_core.specs.declared.terms.Term.{Term}
use Rattle.ae_core.specs.declared.formulas.Formula.{Formula}
use Rattle.ae_core.specs.declared.formulas.Quant.{Quant}
use Rattle.ae_core.specs.declared.formulas.Lit.{Lit}
use Rattle.ae_core.specs.declared.proofs.Scaled.{Scaled}
use Rattle.ae_core.specs.declared.proofs.EqLine.{EqLine}
use Rattle.ae_core.specs.declared.proofs.EqLine.TheVariants.{EqHyp, EqRefl, EqSym, EqTrans, EqCong, EqAc, EqLin, EqField, EqFields, LeHyp, LtHyp, LeSum, LtSum, LeRound}
use Rattle.ae_core.specs.declared.proofs.Ending.{Ending}
use Rattle.ae_core.specs.declared.proofs.Ending.TheVariants.{Neq, Const, Clash, Pred, Zero, Gcd}
use Rattle.ae_core.specs.declared.proofs.Block.{Block as BlockOf}
use Rattle.ae_core.specs.declared.proofs.ClauseLine.{ClauseLine}
use Rattle.ae_core.specs.declared.proofs.ClauseLine.TheVariants.{Hyp, Goal, Def, Inst, Fresh, Exh, Tri, Block, Rup}
use Rattle.ae_journal.specs.declared.lines.Line.{Line}
use Rattle.ae_journal.specs.declared.lines.Line.TheVariants as line
use Rattle.ae_journal.specs.declared.lines.Oriented.{Oriented}
use Rattle.ae_journal.specs.declared.lines.Oriented.TheVariants as oriented
use Rattle.ae_journal.specs.declared.systems.RuleEntry.{RuleEntry}
use Rattle.ae_legal_texts.specs.Numbers.{Number, count, sort_numbers, term_numbers, formula_numbers, quant_numbers}
use Rattle.ae_num.specs.declared.forms.Lin.{Lin}
use Rattle.ae_num.specs.declared.forms.Part.{Part}
use Rattle.ae_num.specs.declared.forms.Value.{Value}
use Rattle.ae_stategrammar.specs.Fitting.{names_in}

-- ---- numbers
abbrev pub count_within : ℕ → Bool
count_within n = nat_lt n (2 ^ 64)

abbrev pub number_counts : Number → Bool
number_counts (count n) = count_within n
number_counts _ = true

abbrev pub numbers_count : List Number → Bool
numbers_count = list_all number_counts

abbrev pub counts_within : List ℕ → Bool
counts_within = list_all count_within

-- ---- sorts, terms, formulas
unfoldable pub sort_counts : Sort → Bool
sort_counts s = numbers_count (sort_numbers s)

unfoldable pub term_counts : Term → Bool
term_counts t = numbers_count (term_numbers t)

unfoldable pub formula_counts : Formula → Bool
formula_counts f = numbers_count (formula_numbers f)

unfoldable pub quant_counts : Quant → Bool
quant_counts q = numbers_count (quant_numbers q)

abbrev pub literal_counts : Lit → Bool
literal_counts l = formula_counts l.formula

-- ---- the lines of proofs
abbrev pub sides_count : Term → Term → Bool
sides_count s t = term_counts s && term_counts t

abbrev pub part_counts : Scaled → Bool
part_counts x = count_within x.line

abbrev pub derived_counts : EqLine → Bool
derived_counts (EqHyp s t i) = sides_count s t && count_within i
derived_counts (EqRefl s t) = sides_count s t
derived_counts (EqSym s t k) = sides_count s t && count_within k
derived_counts (EqTrans s t j k) = sides_count s t && (count_within j && count_within k)
derived_counts (EqCong s t ks) = sides_count s t && counts_within ks
derived_counts (EqAc s t) = sides_count s t
derived_counts (EqLin s t d xs) = sides_count s t && list_all part_counts xs
derived_counts (EqField s t) = sides_count s t
derived_counts (EqFields s t ks) = sides_count s t && counts_within ks
derived_counts (LeHyp s t i) = sides_count s t && count_within i
derived_counts (LtHyp s t i) = sides_count s t && count_within i
derived_counts (LeSum s t d xs) = sides_count s t && list_all part_counts xs
derived_counts (LtSum s t d xs) = sides_count s t && list_all part_counts xs
derived_counts (LeRound s t k) = sides_count s t && count_within k

abbrev pub ending_counts : Ending → Bool
ending_counts (Neq k i) = count_within k && count_within i
ending_counts (Const k) = count_within k
ending_counts (Clash k) = count_within k
ending_counts (Pred i j ks) = count_within i && (count_within j && counts_within ks)
ending_counts (Zero k) = count_within k
ending_counts (Gcd k) = count_within k

abbrev pub block_counts : BlockOf → Bool
block_counts b = list_all literal_counts b.deriv.hyps && (list_all derived_counts b.deriv.lines && ending_counts b.ending)

abbrev pub line_counts : ClauseLine → Bool
line_counts (Hyp k ss) = count_within k && list_all sort_counts ss
line_counts Goal = true
line_counts (Def r f) = count_within r && formula_counts f
line_counts (Inst f ts) = formula_counts f && list_all term_counts ts
line_counts (Fresh f m) = formula_counts f && count_within m
line_counts (Exh t) = term_counts t
line_counts (Tri s t) = sides_count s t
line_counts (Block b) = block_counts b
line_counts (Rup c ks) = list_all literal_counts c && counts_within ks

abbrev pub places_count : Option (List ℕ) → Bool
places_count None = true
places_count (Some ks) = counts_within ks

-- ---- values, rules
abbrev pub name_counts : Part → Bool
name_counts q = count_within q.key

abbrev pub form_counts : Lin → Bool
form_counts f = list_all name_counts f.parts

unfoldable pub value_counts : Value → Bool
value_counts v = counts_within (names_in v)

abbrev pub key_counts : Option ℕ → Bool
key_counts None = true
key_counts (Some n) = count_within n

abbrev pub rule_counts : RuleEntry → Bool
rule_counts r = list_all sort_counts r.symbol.sorts && (counts_within r.left && counts_within r.right)

-- ---- the lines of journals
abbrev pub oriented_counts : Oriented → Bool
oriented_counts (oriented.Named n v) = count_within n && value_counts v
oriented_counts (oriented.Rule s l r) = counts_within l && counts_within r

abbrev pub story_line_counts : Line → Bool
story_line_counts (line.Decide l) = literal_counts l
story_line_counts (line.Orient o) = oriented_counts o
story_line_counts (line.Drop o) = oriented_counts o
story_line_counts (line.Pair s l m) = counts_within l && counts_within m
story_line_counts (line.Learn c) = list_all literal_counts c
story_line_counts (line.TypeInstance k ss) = count_within k && list_all sort_counts ss
story_line_counts (line.TermInstance f ts) = formula_counts f && list_all term_counts ts
story_line_counts (line.Combine strict f) = true
story_line_counts (line.Back n) = count_within n
