-- The structure block and the names of the strings block, token by token.
use Rattle.std.specs.Prelude.{ℕ, ◌+◌, List, [], ◌∷◌, ◌++◌, length}
use Rattle.dt_model.specs.Token.{Token, BeginNode, Prop, EndNode, Nop, Finish}
use Rattle.dt_model.specs.Canonical.{with_name, strings_of, spelling}

pub record Laid : Type 0 where
  pub structure : List ℕ
  pub names : List (List ℕ)

-- one more token
unfoldable pub with_token : Laid → Token → Laid
with_token laid (Prop name value) = record {
  structure = laid.structure ++ spelling (with_name laid.names name) (Prop name value);
  names = with_name laid.names name;
}
with_token laid (BeginNode name) = record laid { structure = laid.structure ++ spelling laid.names (BeginNode name) }
with_token laid EndNode = record laid { structure = laid.structure ++ spelling laid.names EndNode }
with_token laid Nop = record laid { structure = laid.structure ++ spelling laid.names Nop }
with_token laid Finish = record laid { structure = laid.structure ++ spelling laid.names Finish }

-- these tokens, one behind the other
abbrev pub with_tokens : Laid → List Token → Laid
with_tokens laid [] = laid
with_tokens laid (token ∷ tokens) = with_tokens (with_token laid token) tokens

-- how many bytes both blocks have
abbrev pub size_of : Laid → ℕ
size_of laid = length laid.structure + length (strings_of laid.names)
