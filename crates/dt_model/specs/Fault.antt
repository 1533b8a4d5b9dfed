-- The first fault of any bytes, by the rules B1 to B14 in reading order: the header's, then the reserve map's, then those
-- of the structure block's tokens, the least number at one token (ePAPR 1.1, chapter 8).
use Rattle.std.specs.Prelude.{ℕ, zero, suc, ◌+◌, Bool, true, ◌&&◌, ◌||◌, nat_lt, ◌==◌, if◌then◌else◌, List, [], ◌∷◌, length, take, drop, Option, Some, None, Result, Ok, Err}
use Rattle.std.specs.List.{list_all, position_or_len}
use Rattle.byteorder.specs.Endian.{big_number}
use Rattle.dt_model.specs.Token.{Token, BeginNode, Prop, EndNode, Nop, Finish}
use Rattle.dt_model.specs.Rule.{or_else, first_broken}
use Rattle.dt_model.specs.Header.{header_fault, reserve_part, structure_part, strings_part}
use Rattle.dt_model.specs.Reserve.{entry_of}
use Rattle.dt_model.specs.Fit.{is_entry}
use Rattle.dt_model.specs.Spelling.{padding}

-- ---- the reserve map

-- none of so many entries and of the one behind them is two zeros that stand wholly in the bytes
abbrev pub lacks_end : ℕ → List ℕ → Bool
lacks_end zero bytes = nat_lt (length bytes) 16 || is_entry (entry_of bytes)
lacks_end (suc entries) bytes =
    if nat_lt (length bytes) 16 then true else is_entry (entry_of bytes) && lacks_end entries (drop 16 bytes)

unfoldable pub reserve_fault : List ℕ → Option ℕ
reserve_fault bytes = if lacks_end 1024 bytes then Some 6 else None

-- ---- one token

-- Reading what stands at the front gives it and the bytes behind it, or the number of the rule that is broken.
infixl 10 ◌>>=◌
abbrev pub ◌>>=◌ : {A B : Type 0} → Result A ℕ → (A → Result B ℕ) → Result B ℕ
(Ok x) >>= f = f x
(Err rule) >>= f = Err rule

abbrev pub word_at : List ℕ → Result (ℕ × List ℕ) ℕ
word_at bytes = if nat_lt (length bytes) 4 then Err 7 else Ok (big_number 4 bytes, drop 4 bytes)

abbrev pub are_zeros : List ℕ → Bool
are_zeros = list_all (λ byte. byte == 0)

-- So many bytes, and the zeros behind them. The first number is that of the rule which other padding breaks.
unfoldable pub padded_at : ℕ → ℕ → List ℕ → Result (List ℕ × List ℕ) ℕ
padded_at rule count bytes =
    let behind = drop count bytes in
    if nat_lt (length bytes) (count + padding count) then Err 7
    else if are_zeros (take (padding count) behind) then Ok (take count bytes, drop (padding count) behind)
    else Err rule

-- how many bytes stand before the first NUL, or how many there are
abbrev pub until_nul : List ℕ → ℕ
until_nul = position_or_len (λ byte. byte == 0)

-- the string at an offset of the strings block
unfoldable pub string_at : List ℕ → ℕ → Result (List ℕ) ℕ
string_at strings offset =
    let tail = drop offset strings in
    if nat_lt (until_nul tail) (length tail) then Ok (take (until_nul tail) tail) else Err 8

-- a node's name, its NUL and zeros
unfoldable pub begin_at : List ℕ → Result (Token × List ℕ) ℕ
begin_at bytes =
    if nat_lt (until_nul bytes) (length bytes)
    then (do
      name ← padded_at 9 (until_nul bytes + 1) bytes
      Ok (BeginNode (take (until_nul bytes) bytes), name.1))
    else Err 9

-- the length, the offset of the name, the value and zeros
unfoldable pub property_at : List ℕ → List ℕ → Result (Token × List ℕ) ℕ
property_at strings bytes = do
  count ← word_at bytes
  offset ← word_at count.1
  value ← padded_at 7 count.0 offset.1
  name ← string_at strings offset.0
  Ok (Prop name value.0, value.1)

-- what stands behind a token's first word
unfoldable pub token_of : List ℕ → ℕ → List ℕ → Result (Token × List ℕ) ℕ
token_of strings kind bytes =
    if kind == 1 then begin_at bytes
    else if kind == 2 then Ok (EndNode, bytes)
    else if kind == 3 then property_at strings bytes
    else if kind == 4 then Ok (Nop, bytes)
    else if kind == 9 then Ok (Finish, bytes)
    else Err 7

unfoldable pub token_at : List ℕ → List ℕ → Result (Token × List ℕ) ℕ
token_at strings bytes = do
  kind ← word_at bytes
  token_of strings kind.0 kind.1

-- ---- all tokens

-- tokens, and the rule that is broken where the next one should stand, if they end without END
pub record Found : Type 0 where
  pub tokens : List Token
  pub stop : Option ℕ

abbrev pub found_from : Result (Token × List ℕ) ℕ → (List ℕ → Found) → Found
found_from (Err rule) others = record { tokens = []; stop = Some rule }
found_from (Ok (Finish, rest)) others = record { tokens = Finish ∷ []; stop = None }
found_from (Ok (token, rest)) others = record { tokens = token ∷ (others rest).tokens; stop = (others rest).stop }

-- the tokens that can be read up to END, at most so many
abbrev pub found_in : ℕ → List ℕ → List ℕ → Found
found_in zero strings bytes = record { tokens = []; stop = Some 7 }
found_in (suc most) strings bytes = found_from (token_at strings bytes) (found_in most strings)

-- No token is without bytes, so a block has no more tokens than bytes.
abbrev pub tokens_in : List ℕ → List ℕ → Found
tokens_in strings block = found_in (length block) strings block

-- the first token that breaks a rule in its place, else what can't be read
abbrev pub fault_in : List Token → Found → Option ℕ
fault_in before found = or_else (first_broken before found.tokens) found.stop

-- ---- all bytes

unfoldable pub first_fault : List ℕ → Option ℕ
first_fault bytes =
    or_else (header_fault bytes)
    (or_else (reserve_fault (reserve_part bytes)) (fault_in [] (tokens_in (strings_part bytes) (structure_part bytes))))
