-- Verdicts in order, and what a run that checks has written when it ends.
use Rattle.std.proofs.Common.{◌≡◌, ◌≢◌, ◌≤◌, ◌<◌, ◌⊎◌, ℕ, suc, ◌+◌, List, [], ◌∷◌, ◌++◌, length, take, drop, Option}
use Rattle.std.proofs.Common.{refl, sym, ap, ◌∙◌, subst, arith, inl, inr, ⊎_elim, append_assoc, append-nil, take-append-drop, length-take-le, length-drop, take_all}
use lib.ListN.{length-map}
use Rattle.std.specs.Prelude.{get_or, IfSome, ◌-◌, Result, Ok, Err}
use Rattle.std.proofs.lemmas.List.{take_more, take_rest}
use Rattle.ae_choices.specs.Whole.{ReadsWhole}
use Rattle.ae_cli.proofs.RightWords.{one_stated, refused_states_nothing}
use Rattle.ae_cli.specs.Program.{AreRefused, States}
use Rattle.ae_cli.specs.Words.{Text}
use Rattle.ae_cli.specs.declared.options.Mode.{Mode}
use Rattle.ae_cli.specs.declared.options.Mode.TheVariants.{Prove, Check, Demo}
use Rattle.ae_cli.specs.declared.options.Options.{Options}
use Rattle.ae_codes.specs.Codes.{Code, one_spelling}
use Rattle.ae_core.specs.declared.problems.Problem.{Problem}
use Rattle.ae_core.specs.declared.problems.Signature.{Signature}
use Rattle.ae_io.specs.Moves.{Written}
use Rattle.ae_io.proofs.Moves.{gets_then}
use Rattle.ae_parts.specs.Codes.{parts_code}
use Rattle.ae_parts.specs.Parts.{PartsStand}
use Rattle.ae_parts.specs.declared.parts.Part.{Part}
use Rattle.ae_parts.proofs.PartLaws.{parts_stand}
use Rattle.ae_printed.specs.ReadBack.{proof_in}
use Rattle.ae_proofreader.specs.Whole.{StandsIn}
use Rattle.ae_readers.specs.declared.fault.Fault.{Fault}
use Rattle.ae_readers.specs.declared.fault.Fault.TheVariants as fault
use Rattle.ae_report.specs.Lines.{refused_at}
use Rattle.ae_report.specs.declared.refusal.Refusal.TheVariants as refusal
use Rattle.ae_separator.specs.Separators.{IsParted}
use Rattle.ae_separator.proofs.Scanning.{one_parting}
use Rattle.ae_verdicts.specs.Verdicts.{verdict_line}
use Rattle.ae_verdicts.proofs.OneVerdict.{one_verdict}
use Rattle.ae_driver.specs.declared.goals.GoalPlace.{GoalPlace}
use Rattle.ae_driver.specs.declared.program.Status.{Status}
use Rattle.ae_driver.specs.declared.program.Status.TheVariants as status
use Rattle.ae_driver.specs.declared.program.TheConstants.{INPUT_LIMIT}
use Rattle.ae_driver.specs.declared.reasons.Reason.{Reason}
use Rattle.ae_driver.specs.declared.reasons.Reason.TheVariants.{Plain}
use Rattle.ae_driver.specs.Checking.{AreVerdicts, IsInput, IsChecked, IsCheckingBegun, IsRefusedInput, no_separator, by_problem, by_parts}
use Rattle.ae_driver.specs.Checking.{IsDoneChecking, IsRefusedChecking, IsOutOfMemoryChecking, IsCutOffChecking, IsOfferedChecking}
use Rattle.ae_driver.specs.Checking.{ReadsParts, goals_of, names_of, moved}
use Rattle.ae_driver.specs.Checking.{writes_verdicts, writes_input_refusal}
use Rattle.ae_driver.specs.Inner.Endings.{HasLines, InputEnds, IsVerdictLine, LineEnds, LinesEnd, RefusalEnds}
use Rattle.ae_driver.specs.Output.{IsRead}
use Rattle.ae_driver.specs.Problems.{HasNoProblem, IsProblemOf}
use Rattle.ae_driver.specs.Words.{Ask, AskForNothing}
use Rattle.ae_driver.proofs.Answered.{prefix_then, gets_nothing, told_is}
use Rattle.ae_driver.proofs.OneProblem.{one_problem, has_problem}

-- ---- what words ask for
pub one_asked : (words : List Text) (m k : Mode) → Ask m words → Ask k words → m ≡ k
one_asked words m k a b = sym a.is ∙ ap (λ (x : Options). x.mode) (one_stated words a.options b.options a.stated b.stated) ∙ b.is

pub asks_apart : (words : List Text) → Ask Prove words → Ask Check words → ⊥
asks_apart words a b = let e : Prove ≡ Check = one_asked words Prove Check a b in cc

pub no_demo_to_prove : (words : List Text) (n : ℕ) → Ask Prove words → Ask (Demo n) words → ⊥
no_demo_to_prove words n a b = let e : Prove ≡ Demo n = one_asked words Prove (Demo n) a b in cc

pub no_demo_to_check : (words : List Text) (n : ℕ) → Ask Check words → Ask (Demo n) words → ⊥
no_demo_to_check words n a b = let e : Check ≡ Demo n = one_asked words Check (Demo n) a b in cc

pub one_demo : (words : List Text) (m n : ℕ) → Ask (Demo m) words → Ask (Demo n) words → m ≡ n
one_demo words m n a b = let e : Demo m ≡ Demo n = one_asked words (Demo m) (Demo n) a b in cc

pub asked : (words : List Text) (m : Mode) (o : Options) → States words o × (o.mode ≡ m) → Ask m words
asked words m o h = record { options = o; stated = h.0; is = h.1 }

pub asks_nothing : (words : List Text) → AreRefused words → AskForNothing words
asks_nothing words r = λ o s. refused_states_nothing words o r s

-- ---- one verdict more
verdicts_more : (p : Problem) (gs : List GoalPlace) (qs : List Part) (g : GoalPlace) (q : Part) (bytes line : List ℕ)
    → AreVerdicts p gs qs bytes → IsVerdictLine p g q line → AreVerdicts p (gs ++ g ∷ []) (qs ++ q ∷ []) (bytes ++ line)
verdicts_more p [] [] g q bytes line a v = (v.verdict, [], ap (λ z. z ++ line) a ∙ v.is_line ∙ sym (append-nil (verdict_line g.name v.verdict)), v.is_verdict, refl)
verdicts_more p [] (r ∷ qs) g q bytes line a v = absurd a
verdicts_more p (h ∷ gs) [] g q bytes line a v = absurd a
verdicts_more p (h ∷ gs) (r ∷ qs) g q bytes line (w, rest, cut, is, more) v = (
  w,
  rest ++ line,
  ap (λ z. z ++ line) cut ∙ append_assoc (verdict_line h.name w) rest line,
  is,
  verdicts_more p gs qs g q rest line more v,
)

module _ (p : Problem) (goals : List GoalPlace) (parts : List Part) (same : length parts ≡ length goals) where
  line_more : (i : ℕ) (g : GoalPlace) (q : Part) (bytes line : List ℕ) → i < length goals → g ≡ get_or goals i g → q ≡ get_or parts i q
      → AreVerdicts p (take i goals) (take i parts) bytes → IsVerdictLine p g q line → AreVerdicts p (take (i + 1) goals) (take (i + 1) parts) (bytes ++ line)
  line_more i g q bytes line lt eg eq a v =
      let goals_on : take i goals ++ g ∷ [] ≡ take (i + 1) goals = ap (λ z. take i goals ++ z ∷ []) eg ∙ sym (take_more goals i g lt) in
      let parts_on : take i parts ++ q ∷ [] ≡ take (i + 1) parts = ap (λ z. take i parts ++ z ∷ []) eq ∙ sym (take_more parts i q (omega (arith, lt, same))) in
      let more = verdicts_more p (take i goals) (take i parts) g q bytes line a v in
      subst (λ z. AreVerdicts p (take (i + 1) goals) z (bytes ++ line)) parts_on (subst (λ z. AreVerdicts p z (take i parts ++ q ∷ []) (bytes ++ line)) goals_on more)

  pub no_lines : (a : Written) → HasLines p goals parts 0 a a
  no_lines a = record { bytes = []; lines = refl; written = gets_nothing a }

  pub lines_done : (i : ℕ) (a c : Written) → i ≡ length goals → HasLines p goals parts i a c → LinesEnd p goals parts a c status.Done
  lines_done i a c e h = subst (λ n. HasLines p goals parts n a c) e h

  pub line_done : (i : ℕ) (g : GoalPlace) (q : Part) (a b c : Written) → i < length goals → g ≡ get_or goals i g → q ≡ get_or parts i q
      → HasLines p goals parts i a b → LineEnds p g q b c status.Done → HasLines p goals parts (i + 1) a c
  line_done i g q a b c lt eg eq h (line, is, got) =
      record { bytes = h.bytes ++ line; lines = line_more i g q h.bytes line lt eg eq h.lines is; written = gets_then a b c h.bytes line h.written got }

  -- a line that isn't written ends the lines
  pub line_ends : (i : ℕ) (g : GoalPlace) (q : Part) (a b c : Written) (s : Status) → i < length goals → g ≡ get_or goals i g → q ≡ get_or parts i q
      → HasLines p goals parts i a b → LineEnds p g q b c s → (s ≡ status.Memory → c ≡ b) → s ≢ status.Done → LinesEnd p goals parts a c s
  line_ends i g q a b c status.Done lt eg eq h e m d = absurd (d refl)
  line_ends i g q a b c status.WriteFault lt eg eq h (line, is, got) m d =
      (i + 1, omega (arith, lt), record { bytes = h.bytes ++ line; lines = line_more i g q h.bytes line lt eg eq h.lines is; written = prefix_then a b c h.bytes line h.written got })
  line_ends i g q a b c status.Memory lt eg eq h e m d = (i, omega (arith, lt), subst (λ w. HasLines p goals parts i a w) (sym (m refl)) h)
  line_ends i g q a b c status.Refused lt eg eq h e m d = absurd e
  line_ends i g q a b c status.ReadFault lt eg eq h e m d = absurd e
  line_ends i g q a b c status.Usage lt eg eq h e m d = absurd e

-- ---- an input
as_many : (sig : Signature) (names : List (List ℕ)) (parts : List Part) → PartsStand sig names parts → length parts ≡ length names
as_many sig [] [] s = refl
as_many sig [] (q ∷ qs) s = absurd s
as_many sig (n ∷ ns) [] s = absurd s
as_many sig (n ∷ ns) (q ∷ qs) s = ap suc (as_many sig ns qs s.1)

pub parts_many : (sig : Signature) (names : List (List ℕ)) (text : List ℕ) (parts : List Part) → ReadsWhole (parts_code sig names) text (Ok parts) → length parts ≡ length names
unfolding ReadsWhole
parts_many sig names text parts r = as_many sig names parts (parts_stand sig names parts r.1)

module _ (input : List ℕ) (p : Problem) (parts : List Part) (is : IsInput input p parts) (same : length parts ≡ length (goals_of p)) where
  begun : (k : ℕ) (bytes : List ℕ) → k ≤ length (goals_of p) → AreVerdicts p (take k (goals_of p)) (take k parts) bytes → IsCheckingBegun input bytes
  begun k bytes le lines = record { problem = p; parts = parts; is_input = is; count = k; at_most = le; lines = lines }

  lines_end : (a c : Written) (s : Status) → LinesEnd p (goals_of p) parts a c s → InputEnds input a c s
  lines_end a c status.Done h =
      let n = length (goals_of p) in
      let lines = subst (λ z. AreVerdicts p (goals_of p) z h.bytes) (take_all n parts (omega (arith, same))) (subst (λ z. AreVerdicts p z (take n parts) h.bytes) (take_all n (goals_of p) (omega arith)) h.lines) in
      (h.bytes, record { problem = p; parts = parts; is_input = is; lines = lines }, h.written)
  lines_end a c status.WriteFault (k, le, h) = (h.bytes, inl (begun k h.bytes le h.lines), h.written)
  lines_end a c status.Memory (k, le, h) = (h.bytes, inr (begun k h.bytes le h.lines), h.written)
  lines_end a c status.Refused h = absurd h
  lines_end a c status.ReadFault h = absurd h
  lines_end a c status.Usage h = absurd h

-- as many parts as goals
pub goals_many : (p : Problem) (text : List ℕ) (parts : List Part) → ReadsParts p text (Ok parts) → length parts ≡ length (goals_of p)
goals_many p text parts r = parts_many p.signature (names_of (goals_of p)) text parts r ∙ length-map (goals_of p) (λ (g : GoalPlace). g.name)

-- what is read by the names of a problem's goals
pub parts_read : (input : List ℕ) (a : ℕ) (p : Problem) (goals : List GoalPlace) (names : List (List ℕ)) (r : Result (List Part) Fault) → goals ≡ goals_of p → names ≡ names_of goals
    → ReadsWhole (parts_code p.signature names) (take (length input - a) (drop a input)) r → ReadsParts p (drop a input) r
parts_read input a p goals names r is_goals is_names read =
    subst (λ text. ReadsParts p text r) (take_rest input a)
    (subst (λ ns. ReadsWhole (parts_code p.signature ns) (take (length input - a) (drop a input)) r) (is_names ∙ ap names_of is_goals) read)

pub parts_unread : (input : List ℕ) (a : ℕ) (p : Problem) (goals : List GoalPlace) (names : List (List ℕ)) → goals ≡ goals_of p → names ≡ names_of goals
    → ((ps : List Part) → ¬ (ReadsWhole (parts_code p.signature names) (take (length input - a) (drop a input)) (Ok ps))) → (ps : List Part) → ¬ (ReadsParts p (drop a input) (Ok ps))
parts_unread input a p goals names is_goals is_names none =
    subst (λ text. (ps : List Part) → ¬ (ReadsParts p text (Ok ps))) (take_rest input a)
    (subst (λ ns. (ps : List Part) → ¬ (ReadsWhole (parts_code p.signature ns) (take (length input - a) (drop a input)) (Ok ps))) (is_names ∙ ap names_of is_goals) none)

-- the lines of parts that were read are those of an input
pub parts_checked : (input : List ℕ) (b a : ℕ) (p : Problem) (goals : List GoalPlace) (parts slice : List Part) (x c : Written) (s : Status)
    → IsParted input (take b input) (drop a input) → IsProblemOf (take b input) p → goals ≡ goals_of p → slice ≡ parts
    → ReadsParts p (drop a input) (Ok parts) → LinesEnd p goals slice x c s → InputEnds input x c s
parts_checked input b a p goals parts slice x c s parted states is_goals is_parts read ends =
    let is : IsInput input p parts = record { before = take b input; after = drop a input; parted = parted; states = states; read = read } in
    lines_end input p parts is (goals_many p (drop a input) parts read) x c s
    (subst (λ qs. LinesEnd p (goals_of p) qs x c s) is_parts (subst (λ gs. LinesEnd p gs slice x c s) is_goals ends))

-- ---- refusals of inputs
pub parts_refused : (input : List ℕ) (b a : ℕ) (p : Problem) (t : Fault) → a ≤ length input
    → IsParted input (take b input) (drop a input) → IsProblemOf (take b input) p
    → ReadsParts p (drop a input) (Err t) → t ≢ fault.Memory → ((ps : List Part) → ¬ (ReadsParts p (drop a input) (Ok ps)))
    → IsRefusedInput input (Plain (refusal.Proof (moved a t)))
parts_refused input b a p t le parted states read told none =
    subst (λ n. IsRefusedInput input (Plain (refusal.Proof (moved n t)))) (length-take-le a input le)
    (by_parts (take b input) (take a input) (drop a input) p t parted states (sym (take-append-drop a input)) read told none)

pub moved_within : (input : List ℕ) (a : ℕ) (t : Fault) → a ≤ length input → StandsIn (drop a input) t → IfSome (refused_at (refusal.Proof (moved a t))) (λ at. at ≤ length input)
moved_within input a (fault.At n) le s = omega (arith, le, s, length-drop a input)
moved_within input a (fault.WideNumber n) le s = omega (arith, le, s, length-drop a input)
moved_within input a fault.Memory le s = tt

-- how a refusal ends an input's answer
pub input_refusal_ends : (input : List ℕ) (why : Reason) (a c : Written) (s : Status) → IsRefusedInput input why → RefusalEnds input why a c s → InputEnds input a c s
input_refusal_ends input why a c status.Refused r e = (why, r, e)
input_refusal_ends input why a c status.WriteFault r e = (e.0, inr (why, r, e.1), e.2)
input_refusal_ends input why a c status.Memory r e = ([], inl refl, e)
input_refusal_ends input why a c status.Done r e = absurd e
input_refusal_ends input why a c status.ReadFault r e = absurd e
input_refusal_ends input why a c status.Usage r e = absurd e

-- ---- an input with its parts isn't refused
pub input_not_refused : (input : List ℕ) (p : Problem) (parts : List Part) (why : Reason) → IsInput input p parts → ¬ (IsRefusedInput input why)
input_not_refused input p parts why is (no_separator none) = none is.before is.after is.parted.here
input_not_refused input p parts why is (by_problem before after w parted refused) =
    has_problem is.before p w is.states (subst (λ z. HasNoProblem z w) (sym (one_parting input is.before is.after before after is.parted parted).0) refused)
input_not_refused input p parts why is (by_parts before front after q t parted states cut read told none) =
    let same = one_parting input is.before is.after before after is.parted parted in
    let one : p ≡ q = one_problem is.before p q is.states (subst (λ z. IsProblemOf z q) (sym same.0) states) in
    none parts (subst (λ z. ReadsParts q z (Ok parts)) same.1 (subst (λ z. ReadsParts z is.after (Ok parts)) one is.read))

-- ---- an input has one answer
pub same_parts : {A : Type 0} (c : Code A) (text : List ℕ) (v w : A) → ReadsWhole c text (Ok v) → ReadsWhole c text (Ok w) → v ≡ w
unfolding ReadsWhole
same_parts c text v w h k = one_spelling c v w h.1 k.1 (sym h.0 ∙ k.0)

pub one_input : (input : List ℕ) (p q : Problem) (ps qs : List Part) → IsInput input p ps → IsInput input q qs → (p ≡ q) × (ps ≡ qs)
one_input input p q ps qs h k =
    let same = one_parting input h.before h.after k.before k.after h.parted k.parted in
    let one : q ≡ p = one_problem h.before q p (subst (λ z. IsProblemOf z q) (sym same.0) k.states) h.states in (
      sym one,
      same_parts (parts_code p.signature (names_of (goals_of p))) h.after ps qs h.read
          (subst (λ z. ReadsParts z h.after (Ok qs)) one (subst (λ z. ReadsParts q z (Ok qs)) (sym same.1) k.read)),
    )

same_lines : (p : Problem) (gs : List GoalPlace) (qs : List Part) (a b : List ℕ) → AreVerdicts p gs qs a → AreVerdicts p gs qs b → a ≡ b
same_lines p [] [] a b h i = h ∙ sym i
same_lines p [] (q ∷ qs) a b h i = absurd h
same_lines p (g ∷ gs) [] a b h i = absurd h
same_lines p (g ∷ gs) (q ∷ qs) a b (v, r, cut, is, more) (w, s, cut2, is2, more2) =
    cut ∙ (λ j. verdict_line g.name (one_verdict p g.place (proof_in q) v w is is2 j) ++ same_lines p gs qs r s more more2 j) ∙ sym cut2

pub one_checked : (input a b : List ℕ) → IsChecked input a → IsChecked input b → a ≡ b
one_checked input a b h i =
    let same = one_input input i.problem h.problem i.parts h.parts i.is_input h.is_input in
    same_lines h.problem (goals_of h.problem) h.parts a b h.lines
    (subst (λ qs. AreVerdicts h.problem (goals_of h.problem) qs b) same.1 (subst (λ (p : Problem). AreVerdicts p (goals_of p) i.parts b) same.0 i.lines))

-- ---- what an input's end says of a run
pub done_checking_is : (left : Option (List ℕ)) (input : List ℕ) (a c : Written) → IsRead left input → InputEnds input a c status.Done → IsDoneChecking left a c
done_checking_is left input a c r (bytes, checked, got) = record { input = input; read = r; bytes = bytes; checked = checked; written = got }

pub refused_checking_is : (left : Option (List ℕ)) (input : List ℕ) (a c : Written) → IsRead left input → InputEnds input a c status.Refused → IsRefusedChecking left a c
refused_checking_is left input a c r (why, refused, (line, is_line, got)) = record { input = input; read = r; why = why; refused = refused; line = line; is_line = is_line; written = got }

pub memory_checking_is : (left : Option (List ℕ)) (input : List ℕ) (a c : Written) → IsRead left input → InputEnds input a c status.Memory → IsOutOfMemoryChecking left a c
memory_checking_is left input a c r (bytes, begun, got) = record { bytes = bytes; begun = ⊎_elim (λ e. inl e) (λ b. inr (input, r, b)) begun; written = got }

pub cut_off_checking_is : (left : Option (List ℕ)) (input : List ℕ) (a c : Written) → IsRead left input → InputEnds input a c status.WriteFault → IsCutOffChecking left a c
cut_off_checking_is left input a c r (bytes, may, got) =
    record { bytes = bytes; may = ⊎_elim (λ b. writes_verdicts input r b) (λ n. writes_input_refusal input n.0 r n.1 n.2) may; written = got }

pub no_memory_checking_yet : (left : Option (List ℕ)) (a : Written) → IsOutOfMemoryChecking left a a
no_memory_checking_yet left a = record { bytes = []; begun = inl refl; written = gets_nothing a }

-- an input with its parts is answered where no write fails
pub complete_checking_is : (left : Option (List ℕ)) (input : List ℕ) (a c : Written) (s : Status) (R : Type 0) → IsOfferedChecking left → IfSome left (λ xs. input ≡ xs)
    → InputEnds input a c s → (s ≡ status.WriteFault → R) → ¬ R → (s ≡ status.Done) ⊎ (s ≡ status.Memory)
complete_checking_is left input a c status.Done R o h e f n = inl refl
complete_checking_is left input a c status.Memory R o h e f n = inr refl
complete_checking_is left input a c status.WriteFault R o h e f n = absurd (n (f refl))
complete_checking_is left input a c status.Refused R o h (why, refused, rest) f n =
    absurd (input_not_refused o.input o.problem o.parts why o.is_input (subst (λ t. IsRefusedInput t why) (told_is left input o.input o.told h) refused))
complete_checking_is left input a c status.ReadFault R o h e f n = absurd e
complete_checking_is left input a c status.Usage R o h e f n = absurd e

-- no input within the limit is too long
pub input_not_too_long : (left : Option (List ℕ)) → IsOfferedChecking left → IfSome left (λ xs. INPUT_LIMIT < length xs) → ⊥
input_not_too_long left o h = absurd (omega (arith, o.within, subst (λ z. IfSome z (λ xs. INPUT_LIMIT < length xs)) o.told h))
