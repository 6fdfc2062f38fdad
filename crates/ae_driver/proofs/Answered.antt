-- Parts of goals in order, and what a run that proves has written when it ends.
use Rattle.std.specs.Prelude.{ℕ, zero, suc, ◌+◌, ◌<◌, ◌≤◌, ◌⊎◌, List, [], ◌∷◌, ◌++◌, ◌≡◌, length, take, ◌≢◌, Option, Some, None, IfSome}
use Rattle.std.proofs.Common.{refl, sym, ap, ◌∙◌, subst, arith, inl, inr, ⊎_elim, append-nil, append_assoc, length-append}
use Rattle.ae_base.specs.Options.{or_else}
use Rattle.ae_base.proofs.Options.{never_some}
use Rattle.ae_core.specs.declared.problems.Problem.{Problem}
use Rattle.ae_goal_parts.specs.Parts.{IsPart, IsReadable, of_axiom, of_goal}
use Rattle.ae_io.specs.Moves.{Written, Lost, Untold, Told, Gets, GetsPrefix, Rose}
use Rattle.ae_io.proofs.Moves.{gets_then}
use Rattle.ae_search_options.specs.declared.limits.Limits.{Limits}
use Rattle.ae_driver.specs.declared.program.TheConstants.{INPUT_LIMIT}
use Rattle.ae_driver.specs.declared.program.Status.{Status}
use Rattle.ae_driver.specs.declared.program.Status.TheVariants as status
use Rattle.ae_driver.specs.declared.reasons.Reason.{Reason}
use Rattle.ae_driver.specs.Inner.Endings.{PartEnds, IsPrinted, ArePrinted, HasParts, GoalsEnd, RefusalEnds, TextEnds}
use Rattle.ae_driver.specs.Output.{AreParts, IsDone, IsRefusedText, IsOutOfMemory, IsCutOff, IsOffered, IsRead, IsTooLong, writes_parts, writes_refusal}
use Rattle.ae_driver.specs.Passing.{IsDoneAndPasses}
use Rattle.ae_driver.specs.Problems.{HasNoProblem, IsProblemOf}
use Rattle.ae_driver.proofs.OneProblem.{has_problem}

-- ---- what the sink got
front_of : (xs ys : List ℕ) (n : ℕ) → take (length xs + n) (xs ++ ys) ≡ xs ++ take n ys
front_of [] ys n = ap (λ m. take m ys) (let e : 0 + n ≡ n = omega arith in e)
front_of (x ∷ xs) ys n = ap (λ m. take m (x ∷ xs ++ ys)) (let e : length {A = ℕ} (x ∷ xs) + n ≡ suc (length xs + n) = omega arith in e) ∙ ap (λ z. x ∷ z) (front_of xs ys n)

pub prefix_then : (a b c : Written) (xs ys : List ℕ) → Gets a b xs → GetsPrefix b c ys → GetsPrefix a c (xs ++ ys)
prefix_then a b c xs ys h (n, lt, k) =
    (length xs + n, omega (arith, lt, length-append xs ys), subst (λ z. Gets a c z) (sym (front_of xs ys n)) (gets_then a b c xs (take n ys) h k))

pub gets_nothing : (a : Written) → Gets a a []
gets_nothing Lost = tt
gets_nothing Untold = tt
gets_nothing (Told xs) = sym (append-nil xs)

-- ---- parts in order
module _ (p : Problem) (limits : Limits) where
  -- one part more
  parts_more : (k n : ℕ) (bytes part : List ℕ) → AreParts p limits k n bytes → IsPart p (k + n) limits part → AreParts p limits k (suc n) (bytes ++ part)
  parts_more k zero bytes part a h =
      (part, [], ap (λ z. z ++ part) a ∙ sym (append-nil part), subst (λ j. IsPart p j limits part) (let e : k + 0 ≡ k = omega arith in e) h, refl)
  parts_more k (suc n) bytes part (first, rest, cut, is, more) h = (
    first,
    rest ++ part,
    ap (λ z. z ++ part) cut ∙ append_assoc first rest part,
    is,
    parts_more (suc k) n rest part more (subst (λ j. IsPart p j limits part) (let e : k + suc n ≡ suc k + n = omega arith in e) h),
  )

  pub printed : (k : ℕ) (part : List ℕ) → IsPart p k limits part → IsReadable p k part → IsPrinted p k part
  printed k part (of_axiom name vars body e w) h = inl (name, vars, body, e, w)
  printed k part (of_goal name vars body answer e r w) h = inr (h name vars body e)

  pub nothing_yet : (a : Written) → HasParts p limits 0 a a
  nothing_yet a = record { bytes = []; parts = refl; printed = refl; written = gets_nothing a }

  pub with_part : (i : ℕ) (bytes part : List ℕ) → AreParts p limits 0 i bytes → IsPart p i limits part → AreParts p limits 0 (i + 1) (bytes ++ part)
  with_part i bytes part a h =
      subst (λ m. AreParts p limits 0 m (bytes ++ part)) (let n : suc i ≡ i + 1 = omega arith in n)
      (parts_more 0 i bytes part a (subst (λ m. IsPart p m limits part) (let z : i ≡ 0 + i = omega arith in z) h))

  pub part_done : (i : ℕ) (a b c : Written) → HasParts p limits i a b → PartEnds p limits i b c status.Done → HasParts p limits (i + 1) a c
  part_done i a b c h (part, is_part, back, got) = record {
    bytes = h.bytes ++ part;
    parts = with_part i h.bytes part h.parts is_part;
    printed = subst (λ m. ArePrinted p m (h.bytes ++ part)) (let n : suc i ≡ i + 1 = omega arith in n) (h.bytes, part, refl, h.printed, printed i part is_part back);
    written = gets_then a b c h.bytes part h.written got;
  }

  part_cut : (i : ℕ) (a b c : Written) → i < length p.items → HasParts p limits i a b → PartEnds p limits i b c status.WriteFault → GoalsEnd p limits a c status.WriteFault
  part_cut i a b c lt h (part, is_part, got) =
      (i + 1, omega (arith, lt), record { bytes = h.bytes ++ part; parts = with_part i h.bytes part h.parts is_part; written = prefix_then a b c h.bytes part h.written got })

  -- an item that isn't done ends the answers
  pub part_ends : (i : ℕ) (a b c : Written) (s : Status) → i < length p.items → HasParts p limits i a b → PartEnds p limits i b c s → (s ≡ status.Memory → c ≡ b) → s ≢ status.Done → GoalsEnd p limits a c s
  part_ends i a b c status.Done lt h e m n = absurd (n refl)
  part_ends i a b c status.WriteFault lt h e m n = part_cut i a b c lt h e
  part_ends i a b c status.Memory lt h e m n = (i, omega (arith, lt), subst (λ w. HasParts p limits i a w) (sym (m refl)) h)
  part_ends i a b c status.Refused lt h e m n = absurd e
  part_ends i a b c status.ReadFault lt h e m n = absurd e
  part_ends i a b c status.Usage lt h e m n = absurd e

-- what a text's end says of a run
pub done_is : (limits : Limits) (left : Option (List ℕ)) (text : List ℕ) (a c : Written) → IsRead left text → TextEnds limits text a c status.Done → IsDone limits left a c
done_is limits left text a c r (bytes, legal, pass, got) = record { text = text; read = r; bytes = bytes; answers = legal; written = got }

pub passes_is : (limits : Limits) (left : Option (List ℕ)) (text : List ℕ) (a c : Written) → IsRead left text → TextEnds limits text a c status.Done → IsDoneAndPasses left a c
passes_is limits left text a c r (bytes, legal, pass, got) = record { text = text; read = r; bytes = bytes; passes = pass; written = got }

pub refused_is : (limits : Limits) (left : Option (List ℕ)) (text : List ℕ) (a c : Written) → IsRead left text → TextEnds limits text a c status.Refused → IsRefusedText left a c
refused_is limits left text a c r (why, refused, (line, is_line, got)) = record { text = text; read = r; why = why; refused = refused; line = line; is_line = is_line; written = got }

pub memory_is : (limits : Limits) (left : Option (List ℕ)) (text : List ℕ) (a c : Written) → IsRead left text → TextEnds limits text a c status.Memory → IsOutOfMemory limits left a c
memory_is limits left text a c r (bytes, begun, got) = record { bytes = bytes; begun = ⊎_elim (λ e. inl e) (λ b. inr (text, r, b)) begun; written = got }

pub cut_off_is : (limits : Limits) (left : Option (List ℕ)) (text : List ℕ) (a c : Written) → IsRead left text → TextEnds limits text a c status.WriteFault → IsCutOff limits left a c
cut_off_is limits left text a c r (bytes, may, got) =
    record { bytes = bytes; may = ⊎_elim (λ b. writes_parts text r b) (λ n. writes_refusal text n.0 r n.1 n.2) may; written = got }

pub no_memory_yet : (limits : Limits) (left : Option (List ℕ)) (a : Written) → IsOutOfMemory limits left a a
no_memory_yet limits left a = record { bytes = []; begun = inl refl; written = gets_nothing a }

pub is_read : (left : Option (List ℕ)) (text : List ℕ) → IfSome left (λ xs. text ≡ xs) → length text ≤ INPUT_LIMIT → IsRead left text
is_read None text told le = record { told = tt; within = le }
is_read (Some xs) text told le = record { told = sym told; within = le }

pub is_too_long : (left : Option (List ℕ)) → IfSome left (λ xs. INPUT_LIMIT < length xs) → IsTooLong left
is_too_long None h = tt
is_too_long (Some xs) h = h

-- a count that rose after a part of a call rose in the whole call
pub rose_later : (a b c : ℕ) → a ≤ b → Rose b c → Rose a c
rose_later a b c le r = ⊎_elim (λ lt. inl (omega (arith, le, lt))) (λ e. inr e) r

-- a text that was told
pub told_is : (left : Option (List ℕ)) (text told : List ℕ) → left ≡ Some told → IfSome left (λ xs. text ≡ xs) → text ≡ told
told_is None text told e h = absurd (never_some _ e)
told_is (Some xs) text told e h = h ∙ ap (λ o. or_else o xs) e

-- how a refusal ends a text's answer
pub refusal_ends : (limits : Limits) (text : List ℕ) (why : Reason) (a c : Written) (s : Status) → HasNoProblem text why → RefusalEnds text why a c s → TextEnds limits text a c s
refusal_ends limits text why a c status.Refused r e = (why, r, e)
refusal_ends limits text why a c status.WriteFault r e = (e.0, inr (why, r, e.1), e.2)
refusal_ends limits text why a c status.Memory r e = ([], inl refl, e)
refusal_ends limits text why a c status.Done r e = absurd e
refusal_ends limits text why a c status.ReadFault r e = absurd e
refusal_ends limits text why a c status.Usage r e = absurd e

pub nothing_written : (limits : Limits) (text : List ℕ) (a : Written) → TextEnds limits text a a status.Memory
nothing_written limits text a = ([], inl refl, gets_nothing a)

-- a text whose problem is answered is answered where no write fails
pub complete_is : (limits : Limits) (left : Option (List ℕ)) (text : List ℕ) (a c : Written) (s : Status) (R : Type 0) → IsOffered left → IfSome left (λ xs. text ≡ xs) → TextEnds limits text a c s → (s ≡ status.WriteFault → R) → ¬ R
    → (s ≡ status.Done) ⊎ (s ≡ status.Memory)
complete_is limits left text a c status.Done R o h e f n = inl refl
complete_is limits left text a c status.Memory R o h e f n = inr refl
complete_is limits left text a c status.WriteFault R o h e f n = absurd (n (f refl))
complete_is limits left text a c status.Refused R o h (why, refused, rest) f n = absurd (has_problem text o.problem why (subst (λ t. IsProblemOf t o.problem) (sym (told_is left text o.text o.told h)) o.states) refused)
complete_is limits left text a c status.ReadFault R o h e f n = absurd e
complete_is limits left text a c status.Usage R o h e f n = absurd e

-- no text within the limit is too long
pub not_too_long : (left : Option (List ℕ)) → IsOffered left → IfSome left (λ xs. INPUT_LIMIT < length xs) → ⊥
not_too_long left o h = absurd (omega (arith, o.within, subst (λ z. IfSome z (λ xs. INPUT_LIMIT < length xs)) o.told h))
