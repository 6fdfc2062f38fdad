-- Clauses whose codes go by the numbers of formulas.
use Rattle.std.proofs.Common.{◌≡◌, ◌∙◌, ℕ, List, get_or, sym, subst, Option, Some}
use Rattle.std.specs.Prelude.{not}
use Rattle.ae_rules.specs.Clauses.{Clause, opposite}
use Rattle.ae_core.specs.declared.formulas.Formula.{Formula}
use Rattle.ae_core.specs.declared.formulas.Lit.{Lit}
use Rattle.ae_propagation.specs.declared.occurrences.Occurrences.{Occurrences}
use Rattle.ae_propagation.specs.declared.codes.Code.{Code}
use Rattle.ae_propagation.specs.declared.coded.Coded.{Coded}
use Rattle.ae_propagation.specs.Inner.Finding.{IsWidened, listed, AreListed, none_listed, side, holders}
use Rattle.ae_propagation.specs.Inner.Coding.{AreAllCodes, IsCoded}
use Rattle.ae_propagation.proofs.Numbering.{listed_at}
use Rattle.ae_propagation.proofs.Coding.{still_all}

-- formulas may have got numbers
pub wide_coded : (numbers more : Formula → Option ℕ) (old new : Coded) → IsWidened numbers old.table.items more new.table.items → new.clauses ≡ old.clauses → new.codes ≡ old.codes → IsCoded numbers old → IsCoded more new
wide_coded numbers more old new w u k h = record {
  is_table = w.is_table;
  each = subst (AreListed (listed more new.table.items)) (sym u) (λ l. w.same l ∙ h.each l);
  codes = subst (λ (v : List Clause). AreAllCodes more v new.codes) (sym u) (
      subst (λ (ks : List (List Code)). AreAllCodes more old.clauses ks) (sym k) (still_all numbers more old.clauses old.codes w.kept h.codes)
      );
}

-- the list of the opposite of a literal
pub found_list : (numbers : Formula → Option ℕ) (table : List Occurrences) (u : List Clause) (l : Lit) (n : ℕ) → AreListed (listed numbers table) u → numbers l.formula ≡ Some n
    → side (not l.positive) (get_or table n none_listed) ≡ holders u (opposite l)
found_list numbers table u l n h e = sym (listed_at numbers table (opposite l) n e) ∙ h (opposite l)
