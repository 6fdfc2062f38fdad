-- What a scan keeps of the line that it reads.
use Rattle.std.specs.Prelude.{◌≡◌, ◌≢◌, ℕ, cond, nat_eq, List, [], ◌∷◌, ◌++◌, length}
use Rattle.ae_report.specs.Lines.{AreLines}
use Rattle.ae_separator.specs.declared.separator.Line.{Line}
use Rattle.ae_separator.specs.declared.separator.Line.TheVariants.{Nothing, OneSign, TwoSigns, Other}

abbrev pub line_with : Line → ℕ → Line
line_with Nothing b = cond (nat_eq b 37) OneSign Other
line_with OneSign b = cond (nat_eq b 37) TwoSigns Other
line_with _ b = Other

-- these bytes of the line were read; of another line no more bytes make `%%`
abbrev pub LineIs : Line → List ℕ → Type 0
LineIs Nothing own = own ≡ []
LineIs OneSign own = own ≡ 37 ∷ []
LineIs TwoSigns own = own ≡ 37 ∷ 37 ∷ []
LineIs Other own = (m : List ℕ) → own ++ m ≢ 37 ∷ 37 ∷ []

abbrev pub HasNoEnd : List ℕ → Type 0
HasNoEnd [] = Unit {0}
HasNoEnd (x ∷ xs) = (x ≢ 10) × HasNoEnd xs

-- none of the whole lines is `%%`
abbrev pub HasNone : List ℕ → Type 0
HasNone lines = (b r : List ℕ) → AreLines b → lines ≡ b ++ 37 ∷ 37 ∷ 10 ∷ r → ⊥

-- whole lines of these bytes, of which none is `%%`, and what was read of the line behind them, which begins here
pub record Scanned (bytes : List ℕ) (begin : ℕ) (line : Line) : Type 0 where
  pub lines : List ℕ
  pub own : List ℕ
  pub split : bytes ≡ lines ++ own
  pub count : begin ≡ length lines
  pub are_lines : AreLines lines
  pub no_end : HasNoEnd own
  pub is : LineIs line own
  pub none : HasNone lines
