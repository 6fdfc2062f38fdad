-- Rows that a search keeps stay right.
use Rattle.std.specs.Prelude.{ℕ, zero, suc, ◌<◌, ◌≤◌, ◌≡◌, cond, List, [], ◌∷◌, ◌++◌, length, Option, Some, None}
use Rattle.std.specs.List.{Contains}
use Rattle.std.proofs.Common.{arith, refl, sym, ap, ◌∙◌, subst, length-append, append_assoc}
use Rattle.std.proofs.lemmas.List.Elements.{Contains-append_left}
use Rattle.std.proofs.lemmas.Option.{none-some}
use Rattle.ae_agreed_rows.specs.Kept.{AreRowsOf, NoneCombined}
use Rattle.ae_between_rounds.specs.Passing.Passes.{notes, rests}
use Rattle.ae_between_rounds.specs.declared.search.Search.{Search}
use Rattle.ae_block_constants.specs.declared.opened.Opened.{Opened}
use Rattle.ae_core.specs.declared.formulas.Lit.{Lit}
use Rattle.ae_core.specs.declared.problems.Problem.{Problem}
use Rattle.ae_explain.specs.declared.trail.Assigned.{Assigned}
use Rattle.ae_inequalities.proofs.More.{more_fit}
use Rattle.ae_journal.specs.Standing.{Setting}
use Rattle.ae_journal.specs.declared.lines.Line.{Line}
use Rattle.ae_journal.specs.declared.lines.Line.TheVariants as line
use Rattle.ae_kept_orders.specs.Laws.{OrdersBegin, OrdersStay}
use Rattle.ae_kept_orders.specs.Orders.{AreOrdersOf}
use Rattle.ae_kept_rows.specs.Kept.{AgreeAt, AreKeptAt, literals_to}
use Rattle.ae_kept_rows.specs.declared.kept.KeptRows.{KeptRows}
use Rattle.ae_sat.specs.Marked.{atoms, atoms_from}
use Rattle.ae_sat.specs.Search.{Lengthens}
use Rattle.ae_searching.proofs.Combinations.{last_is_none}
use Rattle.ae_searching.proofs.Settings.{told_before}
use Rattle.ae_store.specs.Stores.{Stored}
use Rattle.ae_theory.specs.Names.{Extends, is_atom}
use Rattle.ae_theory.specs.Noting.{IsBlockOf}
use Rattle.ae_theory.specs.Tagged.{Tagged}

-- ---- a longer trail
literals_longer : (t more : List Assigned) (n : ℕ) → n ≤ length t → literals_to (t ++ more) n ≡ literals_to t n
literals_longer [] [] zero l = refl
literals_longer [] (b ∷ more) zero l = refl
literals_longer [] more (suc n) l = absurd (omega (arith, l))
literals_longer (a ∷ t) more zero l = refl
literals_longer (a ∷ t) more (suc n) l = ap (λ (ls : List Lit). a.lit ∷ ls) (literals_longer t more n (omega (arith, l)))

atoms_longer : (i : ℕ) (t more : List Assigned) → (rest : List Tagged) × (atoms_from i (t ++ more) ≡ atoms_from i t ++ rest)
atoms_longer i [] more = (atoms_from i more, refl)
atoms_longer i (a ∷ t) more =
    let r = atoms_longer (suc i) t more in
    let own = cond (is_atom a.lit.formula) (record { lit = a.lit; tag = i } ∷ []) [] in
    (r.0, ap (λ (ts : List Tagged). own ++ ts) r.1 ∙ sym (append_assoc own (atoms_from (suc i) t) r.0))

block_more : (ts rest : List Tagged) (ls : List Lit) (ks : List ℕ) → IsBlockOf ts ls ks → IsBlockOf (ts ++ rest) ls ks
block_more ts rest [] [] h = tt
block_more ts rest [] (k ∷ ks) h = absurd h
block_more ts rest (l ∷ ls) [] h = absurd h
block_more ts rest (l ∷ ls) (k ∷ ks) h = (Contains-append_left ts rest (record { lit = l; tag = k }) h.0, block_more ts rest ls ks h.1)

block_longer : (t more : List Assigned) (ls : List Lit) (ks : List ℕ) → IsBlockOf (atoms t) ls ks → IsBlockOf (atoms (t ++ more)) ls ks
block_longer t more ls ks h = let r = atoms_longer 0 t more in subst (λ (ts : List Tagged). IsBlockOf ts ls ks) (sym r.1) (block_more (atoms t) r.0 ls ks h)

-- ---- the rows
kept_longer : (s s2 : Stored) (t more : List Assigned) (n : ℕ) (k : Option KeptRows) → Extends s s2 → AreKeptAt s t n k → AreKeptAt s2 (t ++ more) n k
kept_longer s s2 t more n None e h = tt
kept_longer s s2 t more n (Some r) e h = λ q.
    let w = h q in
    let long = length-append t more in
    record {
      fits = more_fit s s2 r.bounds e w.fits;
      literals = (let l = w.literals in omega (arith, l, long));
      tags = λ k. block_longer t more _ _ (w.tags k);
      even = w.even;
    }

agree_longer : (x : Setting) (js : List Line) (s : Stored) (t more : List Assigned) (k : Option KeptRows) → AreKeptAt s t (length js) k → AgreeAt x js t k → AgreeAt x js (t ++ more) k
agree_longer x js s t more None h a = a
agree_longer x js s t more (Some r) h a = (
  λ q. let w = a.0 q in record {
    rows = subst (λ (ls : List Lit). AreRowsOf x js ls r.bounds.rows) (sym (literals_longer t more r.literals (h q).literals)) w.rows;
    agreed = w.agreed;
    normal = w.normal;
  },
  a.1,
)

rests_stay : (p : Problem) (g : ℕ) (old new : Search) (k : Option KeptRows) → AreOrdersOf p g old k → Extends old.store new.store → ((o : Opened) → Contains old.blocks.opened o → Contains new.blocks.opened o)
    → new.journal.lines ≡ old.journal.lines → Lengthens old.solver.propagation.trail new.solver.propagation.trail → AreOrdersOf p g new k
rests_stay p g old new k a e opened lines long = record {
  kept = subst (λ (z : List Assigned × List Line). AreKeptAt new.store z.0 (length z.1) k) (λ i. (sym long.1 i, sym lines i))
      (kept_longer old.store new.store old.solver.propagation.trail long.0 (length old.journal.lines) k e a.kept);
  past = λ r q. subst (λ (ls : List Line). r.lines ≤ length ls) (sym lines) (a.past r q);
  agree = λ x told.
      subst (λ (z : List Assigned × List Line). AgreeAt x z.1 z.0 k) (λ i. (sym long.1 i, sym lines i))
      (agree_longer x old.journal.lines old.store old.solver.propagation.trail long.0 k a.kept (a.agree x (told_before p g old.store new.store old.blocks.opened new.blocks.opened x e opened told)));
}

-- ---- after other lines
kept_none : (s : Stored) (t : List Assigned) (m n : ℕ) (k : Option KeptRows) → ((r : KeptRows) → k ≡ Some r → r.lines ≤ m) → m < n → AreKeptAt s t n k
kept_none s t m n None past l = tt
kept_none s t m n (Some r) past l = λ q. absurd (let h = past r refl in omega (arith, h, l, q))

agree_none : (x : Setting) (js : List Line) (t : List Assigned) (m : ℕ) (k : Option KeptRows) → ((r : KeptRows) → k ≡ Some r → r.lines ≤ m) → m < length js → NoneCombined js → AgreeAt x js t k
agree_none x js t m None past l none = none
agree_none x js t m (Some r) past l none = (λ q. absurd (let h = past r refl in omega (arith, h, l, q)), λ d. none)

notes_stay : (p : Problem) (g : ℕ) (old new : Search) (k : Option KeptRows) → AreOrdersOf p g old k → length old.journal.lines < length new.journal.lines → NoneCombined new.journal.lines → AreOrdersOf p g new k
notes_stay p g old new k a l none = record {
  kept = kept_none new.store new.solver.propagation.trail (length old.journal.lines) (length new.journal.lines) k a.past l;
  past = λ r q. let h = a.past r q in omega (arith, h, l);
  agree = λ x told. agree_none x new.journal.lines new.solver.propagation.trail (length old.journal.lines) k a.past l none;
}

-- ---- both
pub orders_stay : OrdersStay
orders_stay p g old new k (rests lines long more opened) a = rests_stay p g old new k a more opened lines long
orders_stay p g old new k (notes none longer) a = notes_stay p g old new k a longer (last_is_none old.journal.lines new.journal.lines none longer)

-- ---- at first
none_at_first : (js : List Line) → js ≡ [] → NoneCombined js
none_at_first js e before after b h q only =
    let long = length-append before (line.Combine b h ∷ after) in
    let none = ap (λ (ls : List Line). length ls) (sym e ∙ q) in
    omega (arith, long, none)

pub orders_begin : OrdersBegin
orders_begin p g o None e q = record { kept = tt; past = λ r is. absurd (none-some r is); agree = λ x told. none_at_first o.journal.lines e }
orders_begin p g o (Some r) e q = absurd (none-some r (sym q))
