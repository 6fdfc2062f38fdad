-- Parts that are counted one after another, and what a run of the demo has written when it ends.
use Rattle.std.specs.Prelude.{ℕ, zero, suc, ◌+◌, ◌<◌, ◌≤◌, ◌⊎◌, List, [], ◌∷◌, ◌++◌, ◌≡◌, ◌≢◌, length, drop, get_or, slice_get, Some, Ok}
use Rattle.std.proofs.Common.{refl, sym, ap, ◌∙◌, subst, arith, inl, inr, append_assoc, append-nil}
use Rattle.std.proofs.lemmas.List.{drop_all}
use Rattle.std.proofs.lemmas.Option.{same_Some}
use Rattle.ae_choices.specs.Whole.{ReadsWhole}
use Rattle.ae_cli.proofs.RightWords.{one_stated}
use Rattle.ae_cli.specs.Program.{States}
use Rattle.ae_cli.specs.Words.{Text}
use Rattle.ae_cli.specs.declared.options.Mode.TheVariants.{Demo}
use Rattle.ae_cli.specs.declared.options.Options.{Options}
use Rattle.ae_core.specs.declared.formulas.Formula.{Formula}
use Rattle.ae_core.specs.declared.problems.Item.{Item}
use Rattle.ae_core.specs.declared.problems.Item.TheVariants.{Axiom, Goal}
use Rattle.ae_core.specs.declared.problems.Problem.{Problem}
use Rattle.ae_core.specs.declared.problems.Signature.{Signature}
use Rattle.ae_gen.specs.Demo.{demo_text}
use Rattle.ae_goal_parts.specs.Parts.{IsPart}
use Rattle.ae_goal_parts.specs.Inner.Items.{IsGoalNamed}
use Rattle.ae_goal_parts.proofs.GoalItems.{axiom_is_no_goal}
use Rattle.ae_io.specs.Moves.{Written, Gets}
use Rattle.ae_io.proofs.Moves.{gets_then}
use Rattle.ae_parts.specs.Codes.{parts_code}
use Rattle.ae_parts.specs.Parts.{PartsStand, part_text, parts_text}
use Rattle.ae_parts.specs.declared.parts.Part.{Part}
use Rattle.ae_parts.specs.declared.parts.Part.TheVariants as part
use Rattle.ae_parts.proofs.PartLaws.{parts_fit, parts_spelled}
use Rattle.ae_printed.specs.ReadBack.{IsReadBack}
use Rattle.ae_search_options.specs.declared.limits.Limits.{Limits}
use Rattle.ae_verdicts.specs.declared.lines.Verdict.{Verdict}
use Rattle.ae_verdicts.specs.declared.lines.Verdict.TheVariants as verdict
use Rattle.ae_driver.specs.declared.demo.Counts.{Counts}
use Rattle.ae_driver.specs.declared.program.Status.{Status}
use Rattle.ae_driver.specs.declared.program.Status.TheVariants as status
use Rattle.ae_driver.specs.Checking.{ReadsParts, goals_from, goals_of, names_of}
use Rattle.ae_driver.specs.Demo.{AreJudged, IsLegalDemo, counts_line, counts_of, how_many, is_accepted, is_number, is_steps, is_unknown, is_valid, writes_demo, writes_demo_parts}
use Rattle.ae_driver.specs.Inner.Counting.{AreCounted, AreOnePart, CountedEnds, CountingEnds, DemoEnds, HasCounted, HasRoom, IsCountedGoal, IsCountedIn, IsCountedPart, IsOnePart}
use Rattle.ae_driver.specs.Inner.Counting.{IsPassedOver, LineEnds, PutEnds, no_counts, with_kind, with_verdict}
use Rattle.ae_driver.specs.Inner.Endings.{IsPrinted}
use Rattle.ae_driver.specs.Output.{AreParts, IsBegun}
use Rattle.ae_driver.specs.Problems.{IsProblemOf}
use Rattle.ae_driver.proofs.Answered.{gets_nothing, prefix_then, with_part}
use Rattle.ae_driver.specs.Words.{Ask}
use Rattle.ae_driver.proofs.Checked.{asked, one_demo, same_parts}
use Rattle.ae_driver.proofs.Passing.{dropped}

-- ---- each count is at most the number of items
record AreAtMost (n : ℕ) (c : Counts) : Type 0 where
  valid : c.valid ≤ n
  unknown : c.unknown ≤ n
  steps : c.steps ≤ n
  number : c.number ≤ n
  checked : c.checked ≤ n

none_at_most : AreAtMost 0 no_counts
none_at_most = record { valid = omega arith; unknown = omega arith; steps = omega arith; number = omega arith; checked = omega arith }

same_at_most : (n : ℕ) (c : Counts) → AreAtMost n c → AreAtMost (suc n) c
same_at_most n c h = record { valid = omega (arith, h.valid); unknown = omega (arith, h.unknown); steps = omega (arith, h.steps); number = omega (arith, h.number); checked = omega (arith, h.checked) }

-- the kinds of so many parts, and so many verdicts
record KindsAtMost (n m : ℕ) (c : Counts) : Type 0 where
  valid : c.valid ≤ n
  unknown : c.unknown ≤ n
  steps : c.steps ≤ n
  number : c.number ≤ n
  checked : c.checked ≤ m

kind_at_most : (n : ℕ) (q : Part) (c : Counts) → AreAtMost n c → KindsAtMost (suc n) n (with_kind q c)
kind_at_most n (part.Valid t) c h = record { valid = omega (arith, h.valid); unknown = omega (arith, h.unknown); steps = omega (arith, h.steps); number = omega (arith, h.number); checked = h.checked }
kind_at_most n (part.Unknown s) c h = record { valid = omega (arith, h.valid); unknown = omega (arith, h.unknown); steps = omega (arith, h.steps); number = omega (arith, h.number); checked = h.checked }
kind_at_most n (part.Steps m s) c h = record { valid = omega (arith, h.valid); unknown = omega (arith, h.unknown); steps = omega (arith, h.steps); number = omega (arith, h.number); checked = h.checked }
kind_at_most n (part.Number s w) c h = record { valid = omega (arith, h.valid); unknown = omega (arith, h.unknown); steps = omega (arith, h.steps); number = omega (arith, h.number); checked = h.checked }

verdict_at_most : (n : ℕ) (v : Verdict) (c : Counts) → KindsAtMost (suc n) n c → AreAtMost (suc n) (with_verdict v c)
verdict_at_most n verdict.Accepted c h = record { valid = h.valid; unknown = h.unknown; steps = h.steps; number = h.number; checked = omega (arith, h.checked) }
verdict_at_most n verdict.RefusedAxioms c h = record { valid = h.valid; unknown = h.unknown; steps = h.steps; number = h.number; checked = omega (arith, h.checked) }
verdict_at_most n (verdict.Refused k) c h = record { valid = h.valid; unknown = h.unknown; steps = h.steps; number = h.number; checked = omega (arith, h.checked) }
verdict_at_most n verdict.Number c h = record { valid = h.valid; unknown = h.unknown; steps = h.steps; number = h.number; checked = omega (arith, h.checked) }
verdict_at_most n verdict.Unchecked c h = record { valid = h.valid; unknown = h.unknown; steps = h.steps; number = h.number; checked = omega (arith, h.checked) }

one_at_most : (p : Problem) (k n : ℕ) (bytes : List ℕ) (before after : Counts) → IsCountedIn p k bytes before after → AreAtMost n before → AreAtMost (suc n) after
one_at_most p k n bytes before after (inl o) h = subst (AreAtMost (suc n)) (sym o.same) (same_at_most n before h)
one_at_most p k n bytes before after (inr g) h =
    let (v, is, e) = g.counted in
    subst (AreAtMost (suc n)) (sym e) (verdict_at_most n v (with_kind g.part before) (kind_at_most n g.part before h))

at_most : (p : Problem) (n : ℕ) (bytes : List ℕ) (c : Counts) → AreCounted p n bytes c → AreAtMost n c
at_most p zero bytes c (b, e) = subst (AreAtMost 0) (sym e) none_at_most
at_most p (suc n) bytes c (front, part, before, cut, all, one) = one_at_most p n n part before c one (at_most p n front before all)

pub has_room : (p : Problem) (n : ℕ) (bytes : List ℕ) (c : Counts) → n < 18446744073709551615 → AreCounted p n bytes c → HasRoom c
has_room p n bytes c lt a =
    let h = at_most p n bytes c a in
    record { valid = omega (arith, lt, h.valid); unknown = omega (arith, lt, h.unknown); steps = omega (arith, lt, h.steps); number = omega (arith, lt, h.number); checked = omega (arith, lt, h.checked) }

checked_kept : (q : Part) (c : Counts) → (with_kind q c).checked ≡ c.checked
checked_kept (part.Valid t) c = refl
checked_kept (part.Unknown s) c = refl
checked_kept (part.Steps n s) c = refl
checked_kept (part.Number s w) c = refl

pub room_left : (q : Part) (c d : Counts) → d ≡ with_kind q c → HasRoom c → d.checked < 18446744073709551615
room_left q c d e h = subst (λ n. n < 18446744073709551615) (sym (ap (λ (x : Counts). x.checked) e ∙ checked_kept q c)) h.checked

-- ---- what is counted before parts, these parts and their verdicts are so many in all
record Add (total before : Counts) (qs : List Part) (vs : List Verdict) : Type 0 where
  valid : total.valid ≡ before.valid + how_many is_valid qs
  unknown : total.unknown ≡ before.unknown + how_many is_unknown qs
  steps : total.steps ≡ before.steps + how_many is_steps qs
  number : total.number ≡ before.number + how_many is_number qs
  checked : total.checked ≡ before.checked + how_many is_accepted vs

none_add : (c : Counts) → Add c c [] []
none_add c = record { valid = omega arith; unknown = omega arith; steps = omega arith; number = omega arith; checked = omega arith }

kind_adds : (q : Part) (qs : List Part) (vs : List Verdict) (total c : Counts) → Add total (with_kind q c) qs vs → Add total c (q ∷ qs) vs
kind_adds (part.Valid t) qs vs total c h = record { valid = omega (arith, h.valid); unknown = h.unknown; steps = h.steps; number = h.number; checked = h.checked }
kind_adds (part.Unknown s) qs vs total c h = record { valid = h.valid; unknown = omega (arith, h.unknown); steps = h.steps; number = h.number; checked = h.checked }
kind_adds (part.Steps n s) qs vs total c h = record { valid = h.valid; unknown = h.unknown; steps = omega (arith, h.steps); number = h.number; checked = h.checked }
kind_adds (part.Number s w) qs vs total c h = record { valid = h.valid; unknown = h.unknown; steps = h.steps; number = omega (arith, h.number); checked = h.checked }

verdict_adds : (v : Verdict) (qs : List Part) (vs : List Verdict) (total c : Counts) → Add total (with_verdict v c) qs vs → Add total c qs (v ∷ vs)
verdict_adds verdict.Accepted qs vs total c h = record { valid = h.valid; unknown = h.unknown; steps = h.steps; number = h.number; checked = omega (arith, h.checked) }
verdict_adds verdict.RefusedAxioms qs vs total c h = record { valid = h.valid; unknown = h.unknown; steps = h.steps; number = h.number; checked = h.checked }
verdict_adds (verdict.Refused k) qs vs total c h = record { valid = h.valid; unknown = h.unknown; steps = h.steps; number = h.number; checked = h.checked }
verdict_adds verdict.Number qs vs total c h = record { valid = h.valid; unknown = h.unknown; steps = h.steps; number = h.number; checked = h.checked }
verdict_adds verdict.Unchecked qs vs total c h = record { valid = h.valid; unknown = h.unknown; steps = h.steps; number = h.number; checked = h.checked }

from_none : (a b : ℕ) → a ≡ 0 + b → a ≡ b
from_none a b e = omega (arith, e)

counts_are : (total : Counts) (qs : List Part) (vs : List Verdict) → Add total no_counts qs vs → total ≡ counts_of qs vs
counts_are total qs vs h = λ i. record {
  valid = from_none total.valid (how_many is_valid qs) h.valid i;
  unknown = from_none total.unknown (how_many is_unknown qs) h.unknown i;
  steps = from_none total.steps (how_many is_steps qs) h.steps i;
  number = from_none total.number (how_many is_number qs) h.number i;
  checked = from_none total.checked (how_many is_accepted vs) h.checked i;
}

-- ---- the bytes are parts of the goals among items from place k on, which with what was counted before make up a total
record Behind (p : Problem) (k : ℕ) (items : List Item) (bytes : List ℕ) (before total : Counts) : Type 0 where
  parts : List Part
  verdicts : List Verdict
  stand : PartsStand p.signature (names_of (goals_from k items)) parts
  written : bytes ≡ parts_text p.signature (names_of (goals_from k items)) parts
  judged : AreJudged p (goals_from k items) parts verdicts
  add : Add total before parts verdicts

-- ---- one part that is read
one_reads : (sig : Signature) (name text : List ℕ) (h : IsOnePart sig name text) → ReadsWhole (parts_code sig (name ∷ [])) text (Ok (h.part ∷ []))
unfolding ReadsWhole
one_reads sig name text h =
    let fits = parts_fit sig (name ∷ []) (h.part ∷ []) (h.stands, tt) in
    (h.written ∙ sym (append-nil (part_text sig name h.part)) ∙ sym (parts_spelled sig (name ∷ []) (h.part ∷ []) fits), fits)

pub one_part : (sig : Signature) (name text : List ℕ) (parts : List Part) → IsOnePart sig name text → ReadsWhole (parts_code sig (name ∷ [])) text (Ok parts) → AreOnePart sig name text parts
one_part sig name text parts h read = record {
  part = h.part;
  alone = same_parts (parts_code sig (name ∷ [])) text parts (h.part ∷ []) read (one_reads sig name text h);
  stands = h.stands;
  written = h.written;
}

module _ (p : Problem) where
  goal_behind : (n : ℕ) (front rest : List ℕ) (before after total : Counts) → IsCountedGoal p n front before after
      → Behind p (suc n) (drop (suc n) p.items) rest after total → Behind p n (drop n p.items) (front ++ rest) before total
  goal_behind n front rest before after total h b =
      let same = dropped p.items n (Goal h.name h.vars h.body) h.is_goal in
      let (v, is_verdict, e) = h.counted in
      subst (λ items. Behind p n items (front ++ rest) before total) (sym same)
      (record {
        parts = h.part ∷ b.parts;
        verdicts = v ∷ b.verdicts;
        stand = (h.stands, b.stand);
        written = (λ i. h.written i ++ b.written i);
        judged = (v, b.verdicts, refl, is_verdict, b.judged);
        add = verdict_adds v (h.part ∷ b.parts) b.verdicts total before
            (kind_first v h.part b.parts b.verdicts total before (subst (λ c. Add total c b.parts b.verdicts) e b.add));
      })
    where
      -- a kind and a verdict are counted in either order
      turned : (v : Verdict) (q : Part) (c : Counts) → with_verdict v (with_kind q c) ≡ with_kind q (with_verdict v c)
      turned verdict.Accepted (part.Valid t) c = refl
      turned verdict.Accepted (part.Unknown s) c = refl
      turned verdict.Accepted (part.Steps n s) c = refl
      turned verdict.Accepted (part.Number s w) c = refl
      turned verdict.RefusedAxioms q c = refl
      turned (verdict.Refused k) q c = refl
      turned verdict.Number q c = refl
      turned verdict.Unchecked q c = refl

      kind_first : (v : Verdict) (q : Part) (qs : List Part) (vs : List Verdict) (total c : Counts) → Add total (with_verdict v (with_kind q c)) qs vs → Add total (with_verdict v c) (q ∷ qs) vs
      kind_first v q qs vs total c h = kind_adds q qs vs total (with_verdict v c) (subst (λ d. Add total d qs vs) (turned v q c) h)

  axiom_behind : (n : ℕ) (part rest : List ℕ) (before after total : Counts) → IsPassedOver p n part before after
      → Behind p (suc n) (drop (suc n) p.items) rest after total → Behind p n (drop n p.items) (part ++ rest) before total
  axiom_behind n part rest before after total h b =
      subst (λ items. Behind p n items (part ++ rest) before total) (sym (dropped p.items n (Axiom h.name h.vars h.body) h.is_axiom))
      (record {
        parts = b.parts;
        verdicts = b.verdicts;
        stand = b.stand;
        written = ap (λ z. z ++ rest) h.written ∙ b.written;
        judged = b.judged;
        add = subst (λ c. Add total c b.parts b.verdicts) h.same b.add;
      })

  one_behind : (n : ℕ) (part rest : List ℕ) (before after total : Counts) → IsCountedIn p n part before after
      → Behind p (suc n) (drop (suc n) p.items) rest after total → Behind p n (drop n p.items) (part ++ rest) before total
  one_behind n part rest before after total (inl h) b = axiom_behind n part rest before after total h b
  one_behind n part rest before after total (inr h) b = goal_behind n part rest before after total h b

  gather : (n : ℕ) (bytes rest : List ℕ) (c total : Counts) → AreCounted p n bytes c → Behind p n (drop n p.items) rest c total → Behind p 0 p.items (bytes ++ rest) no_counts total
  gather zero bytes rest c total (e, none) b = subst (λ z. Behind p 0 p.items (z ++ rest) no_counts total) (sym e) (subst (λ d. Behind p 0 p.items rest d total) none b)
  gather (suc n) bytes rest c total (front, part, before, cut, all, one) b =
      subst (λ z. Behind p 0 p.items z no_counts total) (sym (ap (λ z. z ++ rest) cut ∙ append_assoc front part rest))
      (gather n front (part ++ rest) before total all (one_behind n part rest before c total one b))

  none_behind : (c : Counts) → Behind p (length p.items) (drop (length p.items) p.items) [] c c
  none_behind c =
      subst (λ items. Behind p (length p.items) items [] c c) (sym (drop_all (length p.items) p.items (omega arith)))
      (record { parts = []; verdicts = []; stand = tt; written = refl; judged = refl; add = none_add c })

  gathered : (bytes : List ℕ) (c : Counts) → AreCounted p (length p.items) bytes c → Behind p 0 p.items bytes no_counts c
  gathered bytes c h = subst (λ z. Behind p 0 p.items z no_counts c) (append-nil bytes) (gather (length p.items) bytes [] c c h (none_behind c))

  parts_read : (bytes : List ℕ) (c : Counts) (b : Behind p 0 p.items bytes no_counts c) → ReadsParts p bytes (Ok b.parts)
  unfolding ReadsWhole
  parts_read bytes c b =
      let names = names_of (goals_of p) in
      let fits = parts_fit p.signature names b.parts b.stand in
      (b.written ∙ sym (parts_spelled p.signature names b.parts fits), fits)

  pub is_one : (k : ℕ) (name text : List ℕ) → IsGoalNamed p k name → IsReadBack p k text → IsOnePart p.signature name text
  is_one k name text n h =
      let e : Goal h.name h.vars h.body ≡ Goal name n.vars n.body = same_Some (Goal h.name h.vars h.body) (Goal name n.vars n.body) (sym h.is_goal ∙ n.is_goal) in
      let same : h.name ≡ name = cc e in
      record { part = h.part; stands = h.stands; written = h.written ∙ ap (λ z. part_text p.signature z h.part) same }

  pub counted_goal : (k : ℕ) (name text : List ℕ) (parts slice : List Part) (q : Part) (before after : Counts) → IsGoalNamed p k name → AreOnePart p.signature name text parts
      → slice ≡ parts → q ≡ get_or slice 0 q → IsCountedPart p k q before after → IsCountedGoal p k text before after
  counted_goal k name text parts slice q before after n h e is counted =
      let one : q ≡ h.part = is ∙ ap (λ qs. get_or qs 0 q) (e ∙ h.alone) in
      record {
        name = name;
        vars = n.vars;
        body = n.body;
        is_goal = n.is_goal;
        part = h.part;
        stands = h.stands;
        written = h.written;
        counted = subst (λ r. IsCountedPart p k r before after) one counted;
      }

  -- ---- items
  -- what is printed for an item, by what the item is
  pub printed_goal : (k : ℕ) (bytes name : List ℕ) (vars : ℕ) (body : Formula) → slice_get p.items k ≡ Some (Goal name vars body) → IsPrinted p k bytes → IsReadBack p k bytes
  printed_goal k bytes name vars body e (inl (n, v, f, is, w)) = absurd (axiom_is_no_goal p.items k n v f name vars body is e)
  printed_goal k bytes name vars body e (inr h) = h

  pub printed_axiom : (k : ℕ) (bytes name : List ℕ) (vars : ℕ) (body : Formula) (c : Counts) → slice_get p.items k ≡ Some (Axiom name vars body) → IsPrinted p k bytes → IsCountedIn p k bytes c c
  printed_axiom k bytes name vars body c e (inl (n, v, f, is, w)) = inl (record { name = name; vars = vars; body = body; is_axiom = e; written = w; same = refl })
  printed_axiom k bytes name vars body c e (inr h) = absurd (axiom_is_no_goal p.items k name vars body h.name h.vars h.body e h.is_goal)

  pub none_counted : (limits : Limits) (c : Counts) (a : Written) → c ≡ no_counts → HasCounted p limits 0 c a a
  none_counted limits c a e = record { bytes = []; parts = refl; counted = (refl, e); written = gets_nothing a }

  pub counted_done : (limits : Limits) (i : ℕ) (before after : Counts) (a b c : Written) → HasCounted p limits i before a b → CountedEnds p limits i before after b c status.Done → HasCounted p limits (i + 1) after a c
  counted_done limits i before after a b c h (part, is_part, one, got) = record {
    bytes = h.bytes ++ part;
    parts = with_part p limits i h.bytes part h.parts is_part;
    counted = subst (λ m. AreCounted p m (h.bytes ++ part) after) (let n : suc i ≡ i + 1 = omega arith in n) (h.bytes, part, before, refl, h.counted, one);
    written = gets_then a b c h.bytes part h.written got;
  }

  pub counted_ends : (limits : Limits) (i : ℕ) (before after : Counts) (a b c : Written) (s : Status) → i < length p.items → HasCounted p limits i before a b
      → CountedEnds p limits i before after b c s → (s ≡ status.Memory → c ≡ b) → s ≢ status.Done → CountingEnds p limits after a c s
  counted_ends limits i before after a b c status.Done lt h e m n = absurd (n refl)
  counted_ends limits i before after a b c status.WriteFault lt h (part, is_part, got) m n =
      (i + 1, omega (arith, lt), record { bytes = h.bytes ++ part; parts = with_part p limits i h.bytes part h.parts is_part; written = prefix_then a b c h.bytes part h.written got })
  counted_ends limits i before after a b c status.Memory lt h e m n = (i, before, omega (arith, lt), subst (λ w. HasCounted p limits i before a w) (sym (m refl)) h)
  counted_ends limits i before after a b c status.Refused lt h e m n = absurd e
  counted_ends limits i before after a b c status.ReadFault lt h e m n = absurd e
  counted_ends limits i before after a b c status.Usage lt h e m n = absurd e

  pub put_is_counted : (limits : Limits) (k : ℕ) (bytes : List ℕ) (before after : Counts) (a c : Written) (s : Status) → IsPart p k limits bytes → PutEnds p k bytes before after a c s → CountedEnds p limits k before after a c s
  put_is_counted limits k bytes before after a c status.Done is e = (bytes, is, e.0, e.1)
  put_is_counted limits k bytes before after a c status.WriteFault is e = (bytes, is, e)
  put_is_counted limits k bytes before after a c status.Memory is e = tt
  put_is_counted limits k bytes before after a c status.Refused is e = absurd e
  put_is_counted limits k bytes before after a c status.ReadFault is e = absurd e
  put_is_counted limits k bytes before after a c status.Usage is e = absurd e

-- ---- the demo of n goals, whose problem is p
module _ (limits : Limits) (n : ℕ) (p : Problem) (of_text : IsProblemOf (demo_text n) p) where
  begun : (k : ℕ) (bytes : List ℕ) → k ≤ length p.items → AreParts p limits 0 k bytes → IsBegun limits (demo_text n) bytes
  begun k bytes le parts = record { problem = p; states = of_text; count = k; at_most = le; parts = parts }

  legal : (bytes : List ℕ) (c : Counts) → AreParts p limits 0 (length p.items) bytes → AreCounted p (length p.items) bytes c → IsLegalDemo limits n (bytes ++ counts_line n c)
  legal bytes c parts counted =
      let b = gathered p bytes c counted in
      record {
        output = bytes;
        answers = record { problem = p; states = of_text; parts = parts };
        parts = b.parts;
        read = parts_read p bytes c b;
        verdicts = b.verdicts;
        judged = b.judged;
        is = ap (λ d. bytes ++ counts_line n d) (counts_are c b.parts b.verdicts b.add);
      }

  -- the parts, and then the last line
  pub line_ends : (c : Counts) (x y z : Written) (s : Status) → HasCounted p limits (length p.items) c x y → LineEnds n c y z s → (s ≡ status.Memory → z ≡ y) → DemoEnds limits n x z s
  line_ends c x y z status.Done h e m = record { bytes = h.bytes ++ counts_line n c; legal = legal h.bytes c h.parts h.counted; written = gets_then x y z h.bytes (counts_line n c) h.written e }
  line_ends c x y z status.WriteFault h e m =
      record { bytes = h.bytes ++ counts_line n c; may = writes_demo (legal h.bytes c h.parts h.counted); written = prefix_then x y z h.bytes (counts_line n c) h.written e }
  line_ends c x y z status.Memory h e m =
      record { bytes = h.bytes; begun = inr (begun (length p.items) h.bytes (omega arith) h.parts); written = subst (λ w. Gets x w h.bytes) (sym (m refl)) h.written }
  line_ends c x y z status.Refused h e m = absurd e
  line_ends c x y z status.ReadFault h e m = absurd e
  line_ends c x y z status.Usage h e m = absurd e

  -- an item that isn't done ends the demo
  pub counting_ends : (c : Counts) (x z : Written) (s : Status) → CountingEnds p limits c x z s → s ≢ status.Done → DemoEnds limits n x z s
  counting_ends c x z status.Done e d = absurd (d refl)
  counting_ends c x z status.WriteFault (k, le, h) d = record { bytes = h.bytes; may = writes_demo_parts (begun k h.bytes le h.parts); written = h.written }
  counting_ends c x z status.Memory (k, before, le, h) d = record { bytes = h.bytes; begun = inr (begun k h.bytes le h.parts); written = h.written }
  counting_ends c x z status.Refused e d = absurd e
  counting_ends c x z status.ReadFault e d = absurd e
  counting_ends c x z status.Usage e d = absurd e

module _ (limits : Limits) (n : ℕ) where
  pub no_demo_yet : (x : Written) → DemoEnds limits n x x status.Memory
  no_demo_yet x = record { bytes = []; begun = inl refl; written = gets_nothing x }

-- ---- what the demo's end says of a run
-- of the goals and the limits that the words state
pub demo_asked : (words : List Text) (m n : ℕ) (o : Options) (x z : Written) (s : Status) → States words o × (o.mode ≡ Demo m) → (ask : Ask (Demo n) words) → DemoEnds o.limits m x z s → DemoEnds ask.options.limits n x z s
demo_asked words m n o x z s here ask h =
    subst (λ (p : Options). DemoEnds p.limits n x z s) (one_stated words o ask.options here.0 ask.stated)
    (subst (λ k. DemoEnds o.limits k x z s) (one_demo words m n (asked words (Demo m) o here) ask) h)

pub demo_complete : (limits : Limits) (n : ℕ) (x z : Written) (s : Status) → DemoEnds limits n x z s → (s ≡ status.Done) ⊎ ((s ≡ status.WriteFault) ⊎ (s ≡ status.Memory))
demo_complete limits n x z status.Done h = inl refl
demo_complete limits n x z status.WriteFault h = inr (inl refl)
demo_complete limits n x z status.Memory h = inr (inr refl)
demo_complete limits n x z status.Refused h = absurd h
demo_complete limits n x z status.ReadFault h = absurd h
demo_complete limits n x z status.Usage h = absurd h

pub demo_no_usage : (limits : Limits) (n : ℕ) (x z : Written) (s : Status) → DemoEnds limits n x z s → s ≡ status.Usage → ⊥
demo_no_usage limits n x z s h e = subst (λ t. DemoEnds limits n x z t) e h

pub demo_no_refusal : (limits : Limits) (n : ℕ) (x z : Written) (s : Status) → DemoEnds limits n x z s → s ≡ status.Refused → ⊥
demo_no_refusal limits n x z s h e = subst (λ t. DemoEnds limits n x z t) e h

pub demo_no_read : (limits : Limits) (n : ℕ) (x z : Written) (s : Status) → DemoEnds limits n x z s → s ≡ status.ReadFault → ⊥
demo_no_read limits n x z s h e = subst (λ t. DemoEnds limits n x z t) e h
