-- How rules, states, journals and widths are spelled. A name is written as its number. Each function is total: what it gives of a value
-- that no text stands for is of no meaning.
use Rattle.std.specs.Prelude.{ℕ, ◌+◌, Bool, true, false, List, [], ◌∷◌, ◌++◌, map, decimal, Option, Some, None, codes}
use Rattle.std.specs.Fmt.{signed_decimal}
use Rattle.std.specs.List.{flat_map}
use Rattle.ae_codes.specs.Listings.{listed_text}
use Rattle.ae_core.specs.declared.formulas.Lit.{Lit}
use Rattle.ae_core.specs.declared.problems.AcSymbol.{AcSymbol}
use Rattle.ae_core.specs.declared.problems.Signature.{Signature}
use Rattle.ae_core.specs.declared.terms.Head.{Head}
use Rattle.ae_core.specs.declared.terms.Head.TheVariants as head
use Rattle.ae_core.specs.declared.terms.Sort.{Sort}
use Rattle.ae_core.specs.declared.terms.Term.{Term}
use Rattle.ae_journal.specs.declared.answers.NumStep.{NumStep}
use Rattle.ae_journal.specs.declared.answers.NumStep.TheVariants as step
use Rattle.ae_journal.specs.declared.answers.WideAt.{WideAt}
use Rattle.ae_journal.specs.declared.lines.Line.{Line}
use Rattle.ae_journal.specs.declared.lines.Line.TheVariants as line
use Rattle.ae_journal.specs.declared.lines.Oriented.{Oriented}
use Rattle.ae_journal.specs.declared.lines.Oriented.TheVariants as oriented
use Rattle.ae_journal.specs.declared.lines.Story.{Story}
use Rattle.ae_journal.specs.declared.systems.PointAt.{PointAt}
use Rattle.ae_journal.specs.declared.systems.RuleEntry.{RuleEntry}
use Rattle.ae_journal.specs.declared.systems.Saturated.{Saturated}
use Rattle.ae_num.specs.declared.forms.Value.{Value}
use Rattle.ae_num.specs.declared.numbers.NumOp.{NumOp}
use Rattle.ae_num.specs.declared.numbers.NumOp.TheVariants as op
use Rattle.ae_prooftext.specs.Texts.{sort_text, term_text, formula_text, literal_text}
use Rattle.ae_prooftext.specs.Words.{type_names, head_word, op_sign, takes_sorts}
use Rattle.ae_valuetext.specs.Texts.{lin_text, value_text}

-- a multiset of names
abbrev pub names_text : List ℕ → List ℕ
names_text ns = codes "[" ++ listed_text 93 (map decimal ns)

-- ---- lines that name nothing of the signature
abbrev pub value_line : ℕ → Value → List ℕ
value_line n v = codes "value " ++ decimal n ++ codes " " ++ value_text v ++ codes "\n"

abbrev pub value_lines : ℕ → List Value → List ℕ
value_lines n [] = []
value_lines n (v ∷ vs) = value_line n v ++ value_lines (n + 1) vs

abbrev pub point_line : PointAt → List ℕ
point_line p = codes "point " ++ decimal p.name ++ codes " " ++ signed_decimal p.top ++ codes "/" ++ signed_decimal p.bottom ++ codes "\n"

abbrev pub combined : Bool → List ℕ
combined true = codes "combine gt "
combined false = codes "combine ge "

abbrev pub step_word : NumStep → List ℕ
step_word step.Plus = codes "plus"
step_word step.Scale = codes "scale"
step_word step.Subst = codes "subst"
step_word step.Combine = codes "combine"

abbrev pub op_word : NumOp → List ℕ
op_word op.Mul = codes "mul"
op_word op.Add = codes "add"

abbrev pub key_line : Option ℕ → List ℕ
key_line None = []
key_line (Some n) = codes "key " ++ decimal n ++ codes "\n"

abbrev pub wide_line : WideAt → List ℕ
wide_line w = codes "wide " ++ step_word w.step ++ codes " " ++ op_word w.wide.op ++ codes " " ++ signed_decimal w.wide.left ++ codes " " ++ signed_decimal w.wide.right ++ codes "\n"

module _ (sig : Signature) where
  -- ---- rules: `u`, `(u [sorts])`, `*int` or `*real`, and two multisets
  abbrev pub sorted_symbol : Bool → Head → List Sort → List ℕ
  sorted_symbol true h ss = codes "(" ++ head_word sig h ++ codes " [" ++ listed_text 93 (map (sort_text (type_names sig)) ss) ++ codes ")"
  sorted_symbol false h ss = head_word sig h

  abbrev pub symbol_by : Head → List Sort → List ℕ
  symbol_by (head.Int o) ss = op_sign o ++ codes "int"
  symbol_by (head.Real o) ss = op_sign o ++ codes "real"
  symbol_by h ss = sorted_symbol (takes_sorts sig h) h ss

  unfoldable pub symbol_text : AcSymbol → List ℕ
  symbol_text s = symbol_by s.head s.sorts

  -- what stands behind the word of a rule or of a pair, with the end of its line
  unfoldable pub sides_text : AcSymbol → List ℕ → List ℕ → List ℕ
  sides_text s left right = symbol_text s ++ codes " " ++ names_text left ++ codes " " ++ names_text right ++ codes "\n"

  -- ---- the lines of states
  abbrev pub literal_line : Lit → List ℕ
  literal_line x = codes "lit " ++ literal_text sig x ++ codes "\n"

  abbrev pub name_line : ℕ → Term → List ℕ
  name_line n t = codes "name " ++ decimal n ++ codes " " ++ term_text sig t ++ codes "\n"

  -- names are numbered in their order
  abbrev pub name_lines : ℕ → List Term → List ℕ
  name_lines n [] = []
  name_lines n (t ∷ ts) = name_line n t ++ name_lines (n + 1) ts

  abbrev pub rule_line : RuleEntry → List ℕ
  rule_line r = codes "rule " ++ sides_text r.symbol r.left r.right

  -- a whole state
  unfoldable pub state_text : Saturated → List ℕ
  state_text s =
      codes "state 1\n" ++ flat_map literal_line s.literals ++ name_lines 0 s.system.names ++ value_lines 0 s.system.values
      ++ flat_map rule_line s.system.rules ++ flat_map point_line s.point ++ codes "end\n"

  -- ---- the lines of journals
  unfoldable pub oriented_text : Oriented → List ℕ
  oriented_text (oriented.Named n v) = codes "solve " ++ decimal n ++ codes " " ++ value_text v ++ codes "\n"
  oriented_text (oriented.Rule s left right) = codes "rule " ++ sides_text s left right

  unfoldable pub line_text : Line → List ℕ
  line_text (line.Decide x) = codes "decide " ++ literal_text sig x ++ codes "\n"
  line_text (line.Orient o) = oriented_text o
  line_text (line.Drop o) = codes "drop " ++ oriented_text o
  line_text (line.Pair s first second) = codes "pair " ++ sides_text s first second
  line_text (line.Learn c) = codes "learn [" ++ listed_text 93 (map (literal_text sig) c) ++ codes "\n"
  line_text (line.TypeInstance n ss) = codes "instance type " ++ decimal n ++ codes " [" ++ listed_text 93 (map (sort_text (type_names sig)) ss) ++ codes "\n"
  line_text (line.TermInstance f ts) = codes "instance term " ++ formula_text sig f ++ codes " [" ++ listed_text 93 (map (term_text sig) ts) ++ codes "\n"
  line_text (line.Combine strict row) = combined strict ++ lin_text row ++ codes "\n"
  line_text (line.Back level) = codes "back " ++ decimal level ++ codes "\n"

  -- a whole journal
  unfoldable pub story_text : Story → List ℕ
  story_text s = codes "journal 1\n" ++ name_lines 0 s.names ++ flat_map line_text s.lines ++ codes "end\n"

  -- ---- widths: the step, the numbers whose product or sum leaves the limits, the forms, and the journal
  unfoldable pub number_text : Story → WideAt → List ℕ
  number_text s w =
      wide_line w ++ (codes "left " ++ lin_text w.left ++ codes "\n") ++ key_line w.key ++ (codes "right " ++ lin_text w.right ++ codes "\n") ++ story_text s
