-- What is writable and whose counts have 64 bits is within the limits of its text.
use Rattle.std.specs.Prelude.{ℕ, ◌<◌, ◌≤◌, ◌^◌, ◌&&◌, true, List, [], ◌∷◌, ◌++◌, ◌≡◌, length, Option, Some, None}
use Rattle.std.specs.List.{AllByRecursion, flat_map, list_all}
use Rattle.std.specs.List.Sorted.{IsStrictlyIncreasing}
use Rattle.std.proofs.Common.{sym, ◌∙◌}
use Rattle.std.proofs.lemmas.Bool.{and_parts, and_from, ltb-true}
use Rattle.ae_base.specs.Options.{or_else}
use Rattle.ae_base.proofs.AllOf.{all_append, all_of_map, all_of_test}
use Rattle.ae_core.specs.declared.formulas.Lit.{Lit}
use Rattle.ae_core.specs.declared.problems.Signature.{Signature}
use Rattle.ae_core.specs.declared.terms.Sort.{Sort}
use Rattle.ae_core.specs.declared.terms.Term.{Term}
use Rattle.ae_journal.specs.declared.answers.WideAt.{WideAt}
use Rattle.ae_journal.specs.declared.lines.Line.{Line}
use Rattle.ae_journal.specs.declared.lines.Line.TheVariants as line
use Rattle.ae_journal.specs.declared.lines.Oriented.{Oriented}
use Rattle.ae_journal.specs.declared.lines.Oriented.TheVariants as oriented
use Rattle.ae_journal.specs.declared.lines.Story.{Story}
use Rattle.ae_journal.specs.declared.systems.RuleEntry.{RuleEntry}
use Rattle.ae_journal.specs.declared.systems.Saturated.{Saturated}
use Rattle.ae_legal_states.specs.Writable as states
use Rattle.ae_legal_stories.specs.Writable.{AreFormNames, IsKeyWithin, IsLineWithin, IsOrientedWithin, IsStoryWithin, IsWidthWithin}
use Rattle.ae_legal_texts.specs.Numbers.{counts, AreWithin, sort_numbers, term_numbers, formula_numbers, literal_numbers, line_numbers}
use Rattle.ae_legal_texts.specs.Writable as texts
use Rattle.ae_num.specs.declared.forms.Lin.{Lin}
use Rattle.ae_num.specs.declared.forms.Part.{Part}
use Rattle.ae_num.specs.declared.forms.Value.{Value}
use Rattle.ae_prooftext.specs.declared.proofs.ProofText.{ProofText}
use Rattle.ae_stategrammar.specs.Fitting.{names_in}
use Rattle.ae_valuetext.specs.Texts.{AreNames}
use Rattle.ae_writable.specs.Numbers.{IsValueWithin, AreValuesWithin}
use Rattle.ae_writable.specs.Writable.{IsWritableProof, IsWritableRule, IsWritableState, IsWritableOriented, IsWritableLine, IsWritableStory}
use Rattle.ae_counts.specs.Inner.Counted.{count_within, counts_within, sort_counts, term_counts, formula_counts, literal_counts, line_counts, places_count, name_counts, form_counts, value_counts, key_counts, rule_counts, oriented_counts, story_line_counts}
use Rattle.ae_counts.proofs.LineCounts.{joined, formula_is, literals_are, text_is}
use Rattle.ae_counts.proofs.Merged.{names, rises, sorts_values, within}
use Rattle.ae_counts.proofs.TreeRules.{sorts_numbers, terms_numbers}
use Rattle.ae_counts.proofs.ValueRules.{names_are}

-- ---- sorts, terms, formulas
sorts_within : (ss : List Sort) → list_all sort_counts ss ≡ true → AreWithin (flat_map sort_numbers ss)
sorts_within ss e = within (flat_map sort_numbers ss) (sorts_numbers ss ∙ e) (sorts_values ss)

terms_within : (ts : List Term) → list_all term_counts ts ≡ true → AreValuesWithin (flat_map term_numbers ts) → AreWithin (flat_map term_numbers ts)
terms_within ts e v = within (flat_map term_numbers ts) (terms_numbers ts ∙ e) v

literal_within : (l : Lit) → literal_counts l ≡ true → AreValuesWithin (literal_numbers l) → AreWithin (literal_numbers l)
literal_within l e v = within (literal_numbers l) (sym (formula_is l.formula) ∙ e) v

literals_within : (c : List Lit) → list_all literal_counts c ≡ true → AreValuesWithin (flat_map literal_numbers c) → AreWithin (flat_map literal_numbers c)
literals_within c e v = within (flat_map literal_numbers c) (sym (literals_are c) ∙ e) v

-- ---- proofs
-- the places of axioms are counts alone
places_values : (ks : List ℕ) → AreValuesWithin (counts ks)
places_values [] = tt
places_values (k ∷ ks) = (tt, places_values ks)

pub proof_within : (p : ProofText) → places_count p.axioms ≡ true → list_all line_counts p.proof.lines ≡ true → IsWritableProof p.proof → IsStrictlyIncreasing (or_else p.axioms [])
    → texts.IsWithinLimits p
proof_within p a l w order = record {
  numbers = within (counts (or_else p.axioms []) ++ flat_map line_numbers p.proof.lines) (sym (text_is p) ∙ and_from (places_count p.axioms) (list_all line_counts p.proof.lines) a l)
      (all_append IsValueWithin (counts (or_else p.axioms [])) (flat_map line_numbers p.proof.lines) (places_values (or_else p.axioms [])) w.values);
  literals = w.direct;
  rising = order;
}

-- ---- states
value_within : (v : Value) → value_counts v ≡ true → AreNames (names_in v)
value_within v e = names (names_in v) (sym (names_are v) ∙ e)

rule_within : (sig : Signature) (r : RuleEntry) → rule_counts r ≡ true → IsWritableRule sig r → states.IsRuleWithin sig r
rule_within sig r e w =
    let sorts = and_parts (list_all sort_counts r.symbol.sorts) (counts_within r.left && counts_within r.right) e in
    let sides = and_parts (counts_within r.left) (counts_within r.right) sorts.1 in
    record {
      symbol = record { each = w.sorts; closed = w.closed; numbers = sorts_within r.symbol.sorts sorts.0 };
      left = rises r.left sides.0 w.left;
      right = rises r.right sides.1 w.right;
    }

rules_within : (sig : Signature) (rs : List RuleEntry) → list_all rule_counts rs ≡ true → AllByRecursion (IsWritableRule sig) rs → AllByRecursion (states.IsRuleWithin sig) rs
rules_within sig [] e w = tt
rules_within sig (r ∷ rs) e w = let parts = and_parts (rule_counts r) (list_all rule_counts rs) e in (rule_within sig r parts.0 w.0, rules_within sig rs parts.1 w.1)

pub state_within : (sig : Signature) (s : Saturated) → list_all literal_counts s.literals ≡ true → list_all term_counts s.system.names ≡ true → length s.system.names ≤ 2 ^ 64
    → list_all value_counts s.system.values ≡ true → list_all rule_counts s.system.rules ≡ true → IsWritableState sig s → states.IsWithinLimits sig s
state_within sig s literals terms few values rules w = record {
  literals = w.direct;
  literal_limits = literals_within s.literals literals w.literals;
  name_limits = terms_within s.system.names terms w.names;
  names = few;
  value_names = all_of_test value_counts (λ v. AreNames (names_in v)) value_within s.system.values values;
  rules = rules_within sig s.system.rules rules w.rules;
  points = w.points;
}

-- ---- journals
oriented_within : (o : Oriented) → oriented_counts o ≡ true → IsWritableOriented o → IsOrientedWithin o
oriented_within (oriented.Named n v) e w =
    let parts = and_parts (count_within n) (value_counts v) e in
    (ltb-true n (2 ^ 64) parts.0, value_within v parts.1)
oriented_within (oriented.Rule u l r) e w =
    let parts = and_parts (counts_within l) (counts_within r) e in
    (rises l parts.0 w.0, rises r parts.1 w.1)

line_within : (l : Line) → story_line_counts l ≡ true → IsWritableLine l → IsLineWithin l
line_within (line.Decide l) e w = literal_within l e w
line_within (line.Orient o) e w = oriented_within o e w
line_within (line.Drop o) e w = oriented_within o e w
line_within (line.Pair u l m) e w =
    let parts = and_parts (counts_within l) (counts_within m) e in
    (rises l parts.0 w.0, rises m parts.1 w.1)
line_within (line.Learn c) e w = literals_within c e w
line_within (line.TypeInstance k ss) e w =
    let parts = and_parts (count_within k) (list_all sort_counts ss) e in
    (ltb-true k (2 ^ 64) parts.0, sorts_within ss parts.1)
line_within (line.TermInstance f ts) e w =
    within (formula_numbers f ++ flat_map term_numbers ts)
    (sym (joined (formula_counts f) (list_all term_counts ts) (formula_numbers f) (flat_map term_numbers ts) (formula_is f) (sym (terms_numbers ts))) ∙ e) w
line_within (line.Combine strict f) e w = tt
line_within (line.Back n) e w = (ltb-true n (2 ^ 64) e, tt)

lines_within : (ls : List Line) → list_all story_line_counts ls ≡ true → AllByRecursion IsWritableLine ls → AllByRecursion IsLineWithin ls
lines_within [] e w = tt
lines_within (l ∷ ls) e w = let parts = and_parts (story_line_counts l) (list_all story_line_counts ls) e in (line_within l parts.0 w.0, lines_within ls parts.1 w.1)

pub story_within : (sig : Signature) (s : Story) → list_all term_counts s.names ≡ true → length s.names ≤ 2 ^ 64 → list_all story_line_counts s.lines ≡ true → IsWritableStory sig s
    → IsStoryWithin sig s
story_within sig s terms few lines w = record {
  sorted = w.sorted;
  name_limits = terms_within s.names terms w.names;
  names = few;
  lines = lines_within s.lines lines w.lines;
}

-- ---- widths
form_within : (f : Lin) → form_counts f ≡ true → AreFormNames f
form_within f e = all_of_map (λ n. n < 2 ^ 64) (λ (q : Part). q.key) f.parts (all_of_test name_counts (λ (q : Part). q.key < 2 ^ 64) (λ q h. ltb-true q.key (2 ^ 64) h) f.parts e)

key_within : (k : Option ℕ) → key_counts k ≡ true → IsKeyWithin k
key_within None e = tt
key_within (Some n) e = ltb-true n (2 ^ 64) e

pub width_within : (at : WideAt) → form_counts at.left ≡ true → form_counts at.right ≡ true → key_counts at.key ≡ true → (sig : Signature) (s : Story) → IsStoryWithin sig s → IsWidthWithin sig s at
width_within at left right key sig s w = record { story = w; left = form_within at.left left; right = form_within at.right right; key = key_within at.key key }
