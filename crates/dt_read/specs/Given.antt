-- What a function gave, beside what reading gives.
use Rattle.std.specs.Prelude.{◌≡◌, ◌≤◌, IsTrue, ℕ, List, [], ◌∷◌, ◌++◌, length, Option, Some, None, Result, Ok, Err, if◌then◌else◌}
use Rattle.std.specs.List.{list_all}
use Rattle.dt_model.specs.declared.Reserve.{Reserve}
use Rattle.dt_model.specs.Token as model
use Rattle.dt_model.specs.Fit.{is_entry}
use Rattle.dt_model.specs.Reserve.{IsReserveMap}
use Rattle.dt_model.specs.Token.{without_nops}
use Rattle.dt_model.specs.Node.{node_tokens}
use Rattle.dt_model.specs.Rule.{broken}
use Rattle.dt_model.specs.Fault.{lacks_end, fault_in, tokens_in}
use Rattle.dt_model.specs.declared.Node.{Node}
use Rattle.dt_read.specs.declared.fault.BlobFault.{BlobFault}
use Rattle.dt_read.specs.declared.fault.BlobFault.TheVariants.{Rule, NoMemory}
use Rattle.dt_read.specs.declared.token.Token.{Token}
use Rattle.dt_read.specs.declared.token.Token.TheVariants.{BeginNode, Prop, EndNode, Nop, Finish}

-- a token without where its bytes lie in memory
abbrev pub token_view : Token → model.Token
token_view (BeginNode name) = model.BeginNode name.now
token_view (Prop name value) = model.Prop name.now value.now
token_view EndNode = model.EndNode
token_view Nop = model.Nop
token_view Finish = model.Finish

-- the fault is this one, unless memory ran out
abbrev pub Fails : {Y : Type 0} → BlobFault → Result Y ℕ → Type 0
Fails (Rule rule) read = read ≡ Err rule
Fails NoMemory read = Unit {0}

-- What a function returned, seen by view, is what reading gives, unless memory ran out.
abbrev pub Gives : {X Y : Type 0} → (X → Y) → Result X BlobFault → Result Y ℕ → Type 0
Gives view (Ok x) read = read ≡ Ok (view x)
Gives view (Err fault) read = Fails fault read

-- the same beside the number of a first broken rule
abbrev pub FailsBy : BlobFault → Option ℕ → Type 0
FailsBy (Rule rule) first = first ≡ Some rule
FailsBy NoMemory first = Unit {0}

-- these are the entries of a reserve map of at most so many
pub record IsMapOf (most : ℕ) (bytes : List ℕ) (entries : List Reserve) : Type 0 where
  pub few : length entries ≤ most
  pub none_ends : IsTrue (list_all is_entry entries)
  pub spelled : IsReserveMap bytes entries

abbrev pub entries_fault : ℕ → List ℕ → Option ℕ
entries_fault most bytes = if lacks_end most bytes then Some 6 else None

-- one more token is taken where it breaks no rule in its place
abbrev pub TakesToken : List model.Token → model.Token → Result (List model.Token) BlobFault → Type 0
TakesToken before token (Ok after) = (broken before token ≡ None) × (after ≡ token ∷ before)
TakesToken before token (Err fault) = FailsBy fault (broken before token)

-- a block's tokens make this root
abbrev pub ReadsRoot : List ℕ → List ℕ → Result Node BlobFault → Type 0
ReadsRoot strings block (Ok root) =
    (fault_in [] (tokens_in strings block) ≡ None)
    × (without_nops (tokens_in strings block).tokens ≡ node_tokens root ++ model.Finish ∷ [])
ReadsRoot strings block (Err fault) = FailsBy fault (fault_in [] (tokens_in strings block))
