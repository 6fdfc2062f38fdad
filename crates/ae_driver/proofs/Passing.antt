-- What is printed for a text passes the check.
use Rattle.std.specs.Prelude.{ℕ, zero, suc, ◌≤◌, List, [], ◌∷◌, ◌++◌, ◌≡◌, length, drop, slice_get, Some, Ok, codes}
use Rattle.std.proofs.Common.{refl, sym, ap, ◌∙◌, subst, arith, inl, inr, append_assoc, append-nil}
use Rattle.std.proofs.lemmas.List.{drop_all}
use Rattle.std.proofs.lemmas.Option.{same_Some}
use Rattle.ae_base.proofs.Options.{never_some}
use Rattle.ae_choices.specs.Whole.{ReadsWhole}
use Rattle.ae_core.specs.declared.problems.Item.{Item}
use Rattle.ae_core.specs.declared.formulas.Formula.{Formula}
use Rattle.ae_core.specs.declared.problems.Item.TheVariants.{Axiom, Goal}
use Rattle.ae_core.specs.declared.problems.Problem.{Problem}
use Rattle.ae_io.specs.Moves.{Written}
use Rattle.ae_parts.specs.Parts.{PartsStand, parts_text}
use Rattle.ae_parts.specs.declared.parts.Part.{Part}
use Rattle.ae_parts.proofs.PartLaws.{parts_fit, parts_spelled}
use Rattle.ae_printed.specs.ReadBack.{IsReadBack, IsRight}
use Rattle.ae_printed.proofs.ReadingBack.{right_passes}
use Rattle.ae_search_options.specs.declared.limits.Limits.{Limits}
use Rattle.ae_whole_lines.specs.WholeLines.{IsInLines}
use Rattle.ae_whole_lines.proofs.Parting.{parted}
use Rattle.ae_whole_lines.proofs.SameFiles.{lines_tokens, lines_problem}
use Rattle.ae_driver.specs.declared.goals.GoalPlace.{GoalPlace}
use Rattle.ae_driver.specs.declared.program.Status.{Status}
use Rattle.ae_driver.specs.declared.program.Status.TheVariants as status
use Rattle.ae_driver.specs.Checking.{AreVerdicts, IsInput, ReadsParts, goals_from, goals_of, names_of}
use Rattle.ae_driver.specs.Inner.Endings.{IsPrinted, ArePrinted, GoalsEnd, TextEnds}
use Rattle.ae_driver.specs.Output.{AreParts, IsBegun}
use Rattle.ae_driver.specs.Passing.{ArePassed, IsPassedInput, PassFor}
use Rattle.ae_driver.specs.Problems.{IsProblemOf}
use Rattle.ae_driver.proofs.Checked.{one_input}

-- ---- parts that are read back, one after another
-- each part is right
abbrev AreRight : Problem → List GoalPlace → List Part → Type 0
AreRight p [] qs = Unit {0}
AreRight p (g ∷ gs) [] = Unit {0}
AreRight p (g ∷ gs) (q ∷ qs) = IsRight p g.place q × AreRight p gs qs

-- the bytes are parts of the goals among items from place k on
record Collected (p : Problem) (k : ℕ) (items : List Item) (bytes : List ℕ) : Type 0 where
  parts : List Part
  stand : PartsStand p.signature (names_of (goals_from k items)) parts
  written : bytes ≡ parts_text p.signature (names_of (goals_from k items)) parts
  right : AreRight p (goals_from k items) parts

pub dropped : (items : List Item) (n : ℕ) (x : Item) → slice_get items n ≡ Some x → drop n items ≡ x ∷ drop (suc n) items
dropped [] n x e = never_some x e
dropped (y ∷ items) zero x e = ap (λ z. z ∷ items) (same_Some y x e)
dropped (y ∷ items) (suc n) x e = dropped items n x e

module _ (p : Problem) where
  goal_more : (n : ℕ) (part rest : List ℕ) → IsReadBack p n part → Collected p (suc n) (drop (suc n) p.items) rest → Collected p n (drop n p.items) (part ++ rest)
  goal_more n part rest h c =
      let same = dropped p.items n (Goal h.name h.vars h.body) h.is_goal in
      subst (λ items. Collected p n items (part ++ rest)) (sym same)
      (record {
        parts = h.part ∷ c.parts;
        stand = (h.stands, c.stand);
        written = (λ i. h.written i ++ c.written i);
        right = (h.right, c.right);
      })

  -- an axiom has no part
  axiom_more : (n : ℕ) (name : List ℕ) (vars : ℕ) (body : Formula) (rest : List ℕ) → slice_get p.items n ≡ Some (Axiom name vars body) → Collected p (suc n) (drop (suc n) p.items) rest → Collected p n (drop n p.items) rest
  axiom_more n name vars body rest e c =
      subst (λ items. Collected p n items rest) (sym (dropped p.items n (Axiom name vars body) e))
      (record { parts = c.parts; stand = c.stand; written = c.written; right = c.right })

  one_more : (n : ℕ) (part rest : List ℕ) → IsPrinted p n part → Collected p (suc n) (drop (suc n) p.items) rest → Collected p n (drop n p.items) (part ++ rest)
  one_more n part rest (inl (name, vars, body, e, w)) c = subst (λ z. Collected p n (drop n p.items) (z ++ rest)) (sym w) (axiom_more n name vars body rest e c)
  one_more n part rest (inr h) c = goal_more n part rest h c

  collect : (n : ℕ) (bytes rest : List ℕ) → ArePrinted p n bytes → Collected p n (drop n p.items) rest → Collected p 0 p.items (bytes ++ rest)
  collect zero bytes rest e c = subst (λ z. Collected p 0 p.items (z ++ rest)) (sym e) c
  collect (suc n) bytes rest (front, part, cut, before, one) c =
      subst (λ z. Collected p 0 p.items z) (sym (ap (λ z. z ++ rest) cut ∙ append_assoc front part rest)) (collect n front (part ++ rest) before (one_more n part rest one c))

  none_left : Collected p (length p.items) (drop (length p.items) p.items) []
  none_left =
      subst (λ items. Collected p (length p.items) items []) (sym (drop_all (length p.items) p.items (omega arith)))
      (record { parts = []; stand = tt; written = refl; right = tt })

  collected : (bytes : List ℕ) → ArePrinted p (length p.items) bytes → Collected p 0 p.items bytes
  collected bytes h = subst (λ z. Collected p 0 p.items z) (append-nil bytes) (collect (length p.items) bytes [] h none_left)

  -- ---- what the check writes of them
  all_passed : (gs : List GoalPlace) (qs : List Part) (bytes : List ℕ) → AreRight p gs qs → AreVerdicts p gs qs bytes → ArePassed gs qs bytes
  all_passed [] [] bytes r h = h
  all_passed [] (q ∷ qs) bytes r h = absurd h
  all_passed (g ∷ gs) [] bytes r h = absurd h
  all_passed (g ∷ gs) (q ∷ qs) bytes r (v, rest, cut, is, more) = (v, rest, cut, right_passes p g.place q v r.0 is, all_passed gs qs rest r.1 more)

  parts_read : (bytes : List ℕ) (c : Collected p 0 p.items bytes) → ReadsParts p bytes (Ok c.parts)
  unfolding ReadsWhole
  parts_read bytes c =
      let names = names_of (goals_of p) in
      let fits = parts_fit p.signature names c.parts c.stand in
      (c.written ∙ sym (parts_spelled p.signature names c.parts fits), fits)

  passed_input : (input : List ℕ) (parts : List Part) → AreRight p (goals_of p) parts → IsInput input p parts → IsPassedInput input
  passed_input input parts right is = record {
    problem = p;
    parts = parts;
    is_input = is;
    passed = λ bytes c.
        let same = one_input input c.problem p c.parts parts c.is_input is in
        all_passed (goals_of p) parts bytes right
        (subst (λ qs. AreVerdicts p (goals_of p) qs bytes) same.1 (subst (λ (q : Problem). AreVerdicts q (goals_of q) c.parts bytes) same.0 c.lines));
  }

lines_state : (text lines : List ℕ) (p : Problem) → IsInLines text lines → IsProblemOf text p → IsProblemOf lines p
lines_state text lines p l h =
    let f = h.is_file in
    record {
      file = h.file;
      is_file = record { tokens = f.tokens; tokenized = lines_tokens text lines f.tokens l f.tokenized; parsed = f.parsed };
      typed = lines_problem text lines f.tokens h.file p l f.tokenized f.parsed h.typed;
    }

pass_for : (text : List ℕ) (p : Problem) → IsProblemOf text p → (bytes : List ℕ) → ArePrinted p (length p.items) bytes → PassFor text bytes
pass_for text p h bytes back = λ none lines l.
    let c = collected p bytes back in
    passed_input p (lines ++ (codes "%%\n" ++ bytes)) c.parts c.right
    (record { before = lines; after = bytes; parted = parted text lines bytes l none; states = lines_state text lines p l h; read = parts_read p bytes c })

-- ---- the goals of a text
module _ (limits : Limits) (text : List ℕ) (p : Problem) (of_text : IsProblemOf text p) where
  begun : (k : ℕ) (bytes : List ℕ) → k ≤ length p.items → AreParts p limits 0 k bytes → IsBegun limits text bytes
  begun k bytes le parts = record { problem = p; states = of_text; count = k; at_most = le; parts = parts }

  pub text_ends : (a c : Written) (s : Status) → GoalsEnd p limits a c s → TextEnds limits text a c s
  text_ends a c status.Done e = (e.bytes, record { problem = p; states = of_text; parts = e.parts }, pass_for text p of_text e.bytes e.printed, e.written)
  text_ends a c status.WriteFault (k, le, h) = (h.bytes, inl (begun k h.bytes le h.parts), h.written)
  text_ends a c status.Memory (k, le, h) = (h.bytes, inr (begun k h.bytes le h.parts), h.written)
  text_ends a c status.Refused e = absurd e
  text_ends a c status.ReadFault e = absurd e
  text_ends a c status.Usage e = absurd e
