-- The tokens of the structure block as data (ePAPR 1.1, 8.4 "Structure Block").
use Rattle.std.specs.Prelude.{ℕ, Bool, true, false, List, [], ◌∷◌}

pub data Token : Type 0 where
  BeginNode : (name : List ℕ) → Token
  Prop : (name value : List ℕ) → Token
  EndNode : Token
  Nop : Token
  Finish : Token

abbrev pub is_end : Token → Bool
is_end Finish = true
is_end token = false

-- the tokens but for each NOP
abbrev pub without_nops : List Token → List Token
without_nops [] = []
without_nops (Nop ∷ tokens) = without_nops tokens
without_nops (token ∷ tokens) = token ∷ without_nops tokens

-- These tokens on top of those that came before them, the nearest first, NOPs left out.
abbrev pub onto : List Token → List Token → List Token
onto [] before = before
onto (Nop ∷ tokens) before = onto tokens before
onto (token ∷ tokens) before = onto tokens (token ∷ before)
