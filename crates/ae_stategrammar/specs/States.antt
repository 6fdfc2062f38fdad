-- States: literals, names with their terms, values, rules, and the points of the inequalities.
use Rattle.std.specs.Prelude.{ℕ, ◌+◌, false, nat_eq, List, [], ◌∷◌, ◌++◌, ◌≡◌, ◌≤◌, ◌^◌, length, decimal, codes}
use mathlib.Core.Path.{refl, sym, ap, ◌∙◌}
use mathlib.Core.List.{append_assoc}
use Rattle.std.specs.List.{AllByRecursion, flat_map}
use Rattle.ae_codes.specs.Codes.{Code, both, mapped, words}
use Rattle.ae_codes.specs.Closers.{by_line, closes_one}
use Rattle.ae_codes.specs.Rows.{alone}
use Rattle.ae_core.specs.declared.formulas.Lit.{Lit}
use Rattle.ae_core.specs.declared.problems.Signature.{Signature}
use Rattle.ae_core.specs.declared.terms.Term.{Term}
use Rattle.ae_journal.specs.declared.systems.PointAt.{PointAt}
use Rattle.ae_journal.specs.declared.systems.RuleEntry.{RuleEntry}
use Rattle.ae_journal.specs.declared.systems.Saturated.{Saturated}
use Rattle.ae_num.specs.declared.forms.Value.{Value}
use Rattle.ae_prooftext.specs.Clauses.{literal, literal_is_spelled, literal_closed, LitEnd}
use Rattle.ae_prooftext.specs.Grammar.{is_real, term_code}
use Rattle.ae_prooftext.specs.Parts.{term_line}
use Rattle.ae_prooftext.specs.TermTexts.{TermEnd, term_is_spelled}
use Rattle.ae_prooftext.specs.Texts.{literal_text, term_text}
use Rattle.ae_stategrammar.specs.Fitting.{Rises}
use Rattle.ae_stategrammar.specs.Named as named
use Rattle.ae_stategrammar.specs.Numbered.{numbered_texts}
use Rattle.ae_stategrammar.specs.Points.{point, point_first, point_spelled, PointStands}
use Rattle.ae_stategrammar.specs.Sections.{NoneOf, section, section_first, section_spelled, ended, ended_fits, ended_text}
use Rattle.ae_stategrammar.specs.Sides.{SidesOf, sides, sides_spelled, symbol}
use Rattle.ae_stategrammar.specs.StateTexts.{literal_line, name_line, name_lines, value_line, value_lines, rule_line, point_line, state_text}
use Rattle.ae_valuetext.specs.Texts.{value_text}
use Rattle.ae_valuetext.specs.Values.{ValueEnd, value, value_is_shaped, value_is_spelled}

-- ---- the end of a text
abbrev pub end_line : Code (Unit {0})
end_line = alone tt (101 ∷ 110 ∷ 100 ∷ 10 ∷ [])

pub end_spelled : (u : Unit {0}) → end_line.Fits u → end_line.text u ≡ codes "end\n"
unfolding alone words
end_spelled u f = refl

-- ---- points
abbrev pub Points : Type 0
Points = (ps : List PointAt) × Unit {0}

pub point_starts : (p : PointAt) → point.Fits p → (xs : List ℕ) × (point.text p ≡ 112 ∷ xs)
point_starts p f = let w = point_first p f in (w.1, w.2 ∙ ap (λ x. x ∷ w.1) w.3)

pub end_behind : (u : Unit {0}) → end_line.Fits u → (y : ℕ) × (ys : List ℕ) × (end_line.text u ≡ y ∷ ys) × (nat_eq y 112 ≡ false) × NoneOf (114 ∷ 118 ∷ 110 ∷ 108 ∷ []) y
unfolding alone words
end_behind u f = (101, _, refl, refl, (refl, (refl, (refl, (refl, tt)))))

abbrev pub points : Code Points
points = section 112 point end_line (NoneOf (114 ∷ 118 ∷ 110 ∷ 108 ∷ [])) (refl, (refl, (refl, (refl, tt)))) point_starts end_behind

abbrev pub points_text : Points → List ℕ
points_text v = flat_map point_line v.0 ++ codes "end\n"

pub points_spelled : (v : Points) → points.Fits v → points.text v ≡ points_text v
points_spelled v f = section_spelled 112 point end_line (NoneOf (114 ∷ 118 ∷ 110 ∷ 108 ∷ [])) (refl, (refl, (refl, (refl, tt)))) point_starts end_behind point_line (λ u. codes "end\n") point_spelled end_spelled v.0 v.1 f

-- ---- values
pub value_closed : (v : ValueEnd) → (value by_line).Fits v → v.1 ≡ 10
unfolding by_line
value_closed v f = closes_one 10 v.1 (((value_is_shaped by_line).form v f).0)

-- a value that ends a line
unfoldable pub value_in_line : Code Value
value_in_line = ended (value by_line) 10 value_closed

pub value_in_line_spelled : (v : Value) → value_in_line.text v ≡ value_text v ++ 10 ∷ []
unfolding value_in_line
value_in_line_spelled v = ended_text (value by_line) 10 value_closed v ∙ value_is_spelled by_line (v, 10)

values_are : (n : ℕ) (vs : List Value) → numbered_texts value_line n vs ≡ value_lines n vs
values_are n [] = refl
values_are n (v ∷ vs) = ap (λ z. value_line n v ++ z) (values_are (n + 1) vs)

-- `w N ` and what the line says
pub line_is : (w d t : List ℕ) → w ++ ((d ++ 32 ∷ []) ++ (t ++ 10 ∷ [])) ≡ w ++ d ++ 32 ∷ [] ++ t ++ 10 ∷ []
line_is w d t =
    sym (append_assoc w (d ++ 32 ∷ []) (t ++ 10 ∷ []))
    ∙ ap (λ z. z ++ (t ++ 10 ∷ [])) (sym (append_assoc w d (32 ∷ [])))
    ∙ sym (append_assoc (w ++ d ++ 32 ∷ []) t (10 ∷ []))

abbrev pub value_rest : List ℕ
value_rest = 97 ∷ 108 ∷ 117 ∷ 101 ∷ 32 ∷ []

abbrev pub name_rest : List ℕ
name_rest = 97 ∷ 109 ∷ 101 ∷ 32 ∷ []

value_law : (n : ℕ) (v : Value) → value_in_line.Fits v → (118 ∷ value_rest) ++ ((decimal n ++ 32 ∷ []) ++ value_in_line.text v) ≡ value_line n v
value_law n v f = ap (λ z. (118 ∷ value_rest) ++ ((decimal n ++ 32 ∷ []) ++ z)) (value_in_line_spelled v) ∙ line_is (118 ∷ value_rest) (decimal n) (value_text v)

module _ (sig : Signature) where
  -- ---- rules
  abbrev pub Rules : Type 0
  Rules = (rs : List RuleEntry) × Points

  abbrev pub RawRule : Type 0
  RawRule = (u : Unit {0}) × SidesOf sig

  abbrev pub rule_to : RawRule → RuleEntry
  rule_to v = record { symbol = v.1.0; left = v.1.1.0; right = v.1.1.1 }

  abbrev pub rule_from : RuleEntry → RawRule
  rule_from r = (tt, (r.symbol, (r.left, r.right)))

  abbrev pub raw_rule : Code RawRule
  raw_rule = both (alone {A = Unit {0}} tt (114 ∷ 117 ∷ 108 ∷ 101 ∷ 32 ∷ [])) (λ u. sides sig)

  unfoldable pub rule : Code RuleEntry
  rule = mapped rule_to rule_from raw_rule (λ v f. refl)

  pub rule_starts : (r : RuleEntry) → rule.Fits r → (xs : List ℕ) × (rule.text r ≡ 114 ∷ xs)
  unfolding rule mapped both alone words
  rule_starts r f = (_, refl)

  pub rule_spelled : (r : RuleEntry) → rule.Fits r → rule.text r ≡ rule_line sig r
  unfolding rule mapped both alone words
  rule_spelled r f = ap (λ z. 114 ∷ 117 ∷ 108 ∷ 101 ∷ 32 ∷ z) (sides_spelled sig (r.symbol, (r.left, r.right)) f.0.1)

  pub points_behind : (b : Points) → points.Fits b → (y : ℕ) × (ys : List ℕ) × (points.text b ≡ y ∷ ys) × (nat_eq y 114 ≡ false) × NoneOf (118 ∷ 110 ∷ 108 ∷ []) y
  points_behind b f = let w = section_first 112 point end_line (NoneOf (114 ∷ 118 ∷ 110 ∷ 108 ∷ [])) (refl, (refl, (refl, (refl, tt)))) point_starts end_behind b f in (w.0, w.1, w.2, w.3.0, w.3.1)

  abbrev pub rules : Code Rules
  rules = section 114 rule points (NoneOf (118 ∷ 110 ∷ 108 ∷ [])) (refl, (refl, (refl, tt))) rule_starts points_behind

  abbrev pub rules_text : Rules → List ℕ
  rules_text v = flat_map (rule_line sig) v.0 ++ points_text v.1

  pub rules_spelled : (v : Rules) → rules.Fits v → rules.text v ≡ rules_text v
  rules_spelled v f = section_spelled 114 rule points (NoneOf (118 ∷ 110 ∷ 108 ∷ [])) (refl, (refl, (refl, tt))) rule_starts points_behind (rule_line sig) points_text rule_spelled points_spelled v.0 v.1 f

  pub rules_behind : (b : Rules) → rules.Fits b → (y : ℕ) × (ys : List ℕ) × (rules.text b ≡ y ∷ ys) × (nat_eq y 118 ≡ false) × NoneOf (110 ∷ 108 ∷ []) y
  rules_behind b f = let w = section_first 114 rule points (NoneOf (118 ∷ 110 ∷ 108 ∷ [])) (refl, (refl, (refl, tt))) rule_starts points_behind b f in (w.0, w.1, w.2, w.3.0, w.3.1)

  -- ---- values, numbered
  abbrev pub Values : Type 0
  Values = (vs : List Value) × Rules

  abbrev pub values : Code Values
  values = named.lines 118 value_rest value_in_line rules (NoneOf (110 ∷ 108 ∷ [])) (refl, (refl, tt)) rules_behind

  abbrev pub values_text : Values → List ℕ
  values_text v = numbered_texts value_line 0 v.0 ++ rules_text v.1

  pub values_spelled : (v : Values) → values.Fits v → values.text v ≡ values_text v
  values_spelled v f = named.lines_spelled 118 value_rest value_in_line rules (NoneOf (110 ∷ 108 ∷ [])) (refl, (refl, tt)) rules_behind value_line rules_text value_law rules_spelled v.0 v.1 f

  pub values_behind : (b : Values) → values.Fits b → (y : ℕ) × (ys : List ℕ) × (values.text b ≡ y ∷ ys) × (nat_eq y 110 ≡ false) × NoneOf (108 ∷ []) y
  values_behind b f = let w = named.lines_first 118 value_rest value_in_line rules (NoneOf (110 ∷ 108 ∷ [])) (refl, (refl, tt)) rules_behind b f in (w.0, w.1, w.2, w.3.0, w.3.1)

  -- ---- names, numbered
  pub term_closed : (v : TermEnd) → (term_code sig [] by_line).Fits v → v.1 ≡ 10
  term_closed v f = term_line sig (is_real sig) v f

  -- a closed term that ends a line
  unfoldable pub term_in_line : Code Term
  term_in_line = ended (term_code sig [] by_line) 10 term_closed

  pub term_in_line_spelled : (t : Term) → term_in_line.text t ≡ term_text sig t ++ 10 ∷ []
  unfolding term_in_line
  term_in_line_spelled t = ended_text (term_code sig [] by_line) 10 term_closed t ∙ term_is_spelled sig (is_real sig []) by_line (t, 10)

  pub name_law : (n : ℕ) (t : Term) → term_in_line.Fits t → (110 ∷ name_rest) ++ ((decimal n ++ 32 ∷ []) ++ term_in_line.text t) ≡ name_line sig n t
  name_law n t f = ap (λ z. (110 ∷ name_rest) ++ ((decimal n ++ 32 ∷ []) ++ z)) (term_in_line_spelled t) ∙ line_is (110 ∷ name_rest) (decimal n) (term_text sig t)

  pub names_are : (n : ℕ) (ts : List Term) → numbered_texts (name_line sig) n ts ≡ name_lines sig n ts
  names_are n [] = refl
  names_are n (t ∷ ts) = ap (λ z. name_line sig n t ++ z) (names_are (n + 1) ts)

  abbrev pub Names : Type 0
  Names = (ts : List Term) × Values

  abbrev pub names : Code Names
  names = named.lines 110 name_rest term_in_line values (NoneOf (108 ∷ [])) (refl, tt) values_behind

  abbrev pub names_text : Names → List ℕ
  names_text v = numbered_texts (name_line sig) 0 v.0 ++ values_text v.1

  pub names_spelled : (v : Names) → names.Fits v → names.text v ≡ names_text v
  names_spelled v f = named.lines_spelled 110 name_rest term_in_line values (NoneOf (108 ∷ [])) (refl, tt) values_behind (name_line sig) values_text name_law values_spelled v.0 v.1 f

  pub names_behind : (b : Names) → names.Fits b → (y : ℕ) × (ys : List ℕ) × (names.text b ≡ y ∷ ys) × (nat_eq y 108 ≡ false) × NoneOf [] y
  names_behind b f = let w = named.lines_first 110 name_rest term_in_line values (NoneOf (108 ∷ [])) (refl, tt) values_behind b f in (w.0, w.1, w.2, w.3.0, w.3.1)

  -- ---- literals
  pub lit_closed : (v : LitEnd) → (literal sig (is_real sig) by_line).Fits v → v.1 ≡ 10
  unfolding by_line
  lit_closed v f = closes_one 10 v.1 (literal_closed sig (is_real sig) by_line v f)

  -- a literal that ends a line
  unfoldable pub lit_in_line : Code Lit
  lit_in_line = ended (literal sig (is_real sig) by_line) 10 lit_closed

  pub lit_in_line_spelled : (x : Lit) → lit_in_line.Fits x → lit_in_line.text x ≡ literal_text sig x ++ 10 ∷ []
  unfolding lit_in_line
  lit_in_line_spelled x f = ended_text (literal sig (is_real sig) by_line) 10 lit_closed x ∙ literal_is_spelled sig (is_real sig) by_line (x, 10) (ended_fits (literal sig (is_real sig) by_line) 10 lit_closed x f)

  abbrev pub raw_lit : Code ((u : Unit {0}) × Lit)
  raw_lit = both (alone {A = Unit {0}} tt (108 ∷ 105 ∷ 116 ∷ 32 ∷ [])) (λ u. lit_in_line)

  unfoldable pub lit_code : Code Lit
  lit_code = mapped (λ v. v.1) (λ x. (tt, x)) raw_lit (λ v f. refl)

  pub lit_starts : (x : Lit) → lit_code.Fits x → (xs : List ℕ) × (lit_code.text x ≡ 108 ∷ xs)
  unfolding lit_code mapped both alone words
  lit_starts x f = (_, refl)

  pub lit_spelled : (x : Lit) → lit_code.Fits x → lit_code.text x ≡ literal_line sig x
  unfolding lit_code mapped both alone words
  lit_spelled x f = ap (λ z. 108 ∷ 105 ∷ 116 ∷ 32 ∷ z) (lit_in_line_spelled x f.0.1)

  abbrev pub Literals : Type 0
  Literals = (ls : List Lit) × Names

  abbrev pub literals : Code Literals
  literals = section 108 lit_code names (NoneOf []) tt lit_starts names_behind

  pub literals_spelled : (v : Literals) → literals.Fits v → literals.text v ≡ flat_map (literal_line sig) v.0 ++ names_text v.1
  literals_spelled v f = section_spelled 108 lit_code names (NoneOf []) tt lit_starts names_behind (literal_line sig) names_text lit_spelled names_spelled v.0 v.1 f

  -- ---- whole states
  abbrev pub RawState : Type 0
  RawState = (u : Unit {0}) × Literals

  abbrev pub state_to : RawState → Saturated
  state_to v = record { literals = v.1.0; system = record { names = v.1.1.0; values = v.1.1.1.0; rules = v.1.1.1.1.0 }; point = v.1.1.1.1.1.0 }

  abbrev pub state_from : Saturated → RawState
  state_from s = (tt, (s.literals, (s.system.names, (s.system.values, (s.system.rules, (s.point, tt))))))

  abbrev pub raw_state : Code RawState
  raw_state = both (alone {A = Unit {0}} tt (115 ∷ 116 ∷ 97 ∷ 116 ∷ 101 ∷ 32 ∷ 49 ∷ 10 ∷ [])) (λ u. literals)

  unfoldable pub state : Code Saturated
  state = mapped state_to state_from raw_state (λ v f. refl)

  regroup : (o l n v r p e : List ℕ) → o ++ (l ++ (n ++ (v ++ (r ++ (p ++ e))))) ≡ o ++ l ++ n ++ v ++ r ++ p ++ e
  regroup o l n v r p e =
      sym (append_assoc o l (n ++ (v ++ (r ++ (p ++ e)))))
      ∙ sym (append_assoc (o ++ l) n (v ++ (r ++ (p ++ e))))
      ∙ sym (append_assoc (o ++ l ++ n) v (r ++ (p ++ e)))
      ∙ sym (append_assoc (o ++ l ++ n ++ v) r (p ++ e))
      ∙ sym (append_assoc (o ++ l ++ n ++ v ++ r) p e)

  pub state_spelled : (s : Saturated) → state.Fits s → state.text s ≡ state_text sig s
  unfolding state mapped both alone words state_text
  state_spelled s f =
      ap (λ z. codes "state 1\n" ++ z) (literals_spelled (state_from s).1 f.0.1)
      ∙ ap (λ z. codes "state 1\n" ++ (flat_map (literal_line sig) s.literals ++ (z ++ values_text (state_from s).1.1.1))) (names_are 0 s.system.names)
      ∙ ap (λ z. codes "state 1\n" ++ (flat_map (literal_line sig) s.literals ++ (name_lines sig 0 s.system.names ++ (z ++ rules_text (state_from s).1.1.1.1)))) (values_are 0 s.system.values)
      ∙ regroup (codes "state 1\n") (flat_map (literal_line sig) s.literals) (name_lines sig 0 s.system.names) (value_lines 0 s.system.values) (flat_map (rule_line sig) s.system.rules) (flat_map point_line s.point) (codes "end\n")

  -- ---- which states have a text: those of whose parts each has one, with no more names and values than there are numbers of 64 bits
  abbrev pub RuleStands : RuleEntry → Type 0
  RuleStands r = (symbol sig).Fits r.symbol × Rises 0 r.left × Rises 0 r.right

  pub record StateStands (s : Saturated) : Type 0 where
    pub literals : AllByRecursion (λ x. (literal sig (is_real sig) by_line).Fits (x, 10)) s.literals
    pub names : AllByRecursion (λ t. (term_code sig [] by_line).Fits (t, 10)) s.system.names
    pub values : AllByRecursion (λ v. (value by_line).Fits (v, 10)) s.system.values
    pub rules : AllByRecursion RuleStands s.system.rules
    pub points : AllByRecursion PointStands s.point
    pub few_names : length s.system.names ≤ 2 ^ 64
    pub few_values : length s.system.values ≤ 2 ^ 64
