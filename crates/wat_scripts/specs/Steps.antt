-- Steps of the walk over a script. The lists of tokens are those before and after a step, the lists
-- of modules those found before and after it.
use Rattle.std.specs.Prelude.{◌≡◌, ◌≢◌, ◌<◌, ℕ, false, List, [], ◌∷◌, ◌++◌}
use Rattle.wat_lexer.specs.Prelude.{Placed, RParen}
use Rattle.wat_tokens.specs.Error.{Error, Memory, Unexpected}
use Rattle.wat_tokens.specs.State.{State}
use Rattle.wat_tokens.specs.Visible.{seen}
use Rattle.wat_scripts.specs.Scripts.{close_at, group_then, AllClosed, group_module, PartModules, CommandsModules}
use Rattle.wat_scripts.specs.Visible.{visible_placed}
use Rattle.wat_scripts.specs.declared.modules.ScriptModule.{ScriptModule}

-- the greatest `usize`
abbrev pub usize_max : ℕ
usize_max = 18446744073709551615

-- the offset of each `)` is below the limit
abbrev pub AreBelow : ℕ → List Placed → Type 0
AreBelow limit [] = Unit {0}
AreBelow limit (p ∷ ts) = (p.token ≡ RParen → p.offset < limit) × AreBelow limit ts

-- the parser knows no annotation, and the offset of each `)` that is left is below the limit
pub record IsReady (limit : ℕ) (p : State) : Type 0 where
  pub known : p.known ≡ false
  pub left : p.left ≡ seen p.known p.rest
  pub below : AreBelow limit p.rest

-- the visible tokens that a parser has left
abbrev pub front : State → List Placed
front p = visible_placed p.rest

-- a group was passed, and its module appended
pub record PassesGroup (ts us : List Placed) (old new : List ScriptModule) : Type 0 where
  pub from : ℕ
  pub to : ℕ
  pub inner : List Placed
  pub group : ts ≡ group_then from inner to us
  pub closed : AllClosed inner
  pub found : new ≡ old ++ group_module from to inner

-- parts of a command with their modules, the command's `)`, and then the rest
abbrev pub PartsThen : List Placed → List ScriptModule → List Placed → Type 0
PartsThen ts ms rest =
    (parts : List Placed) × (to : ℕ) × (ts ≡ parts ++ close_at to ∷ rest) × PartModules parts ms

-- a part of a command was passed, and its module appended: parts after it give parts before it, and
-- the other way round
pub record PassesPart (ts us : List Placed) (old new : List ScriptModule) : Type 0 where
  pub found : List ScriptModule
  pub appended : new ≡ old ++ found
  pub gives : (ms : List ScriptModule) (rest : List Placed) → PartsThen us ms rest
      → PartsThen ts (found ++ ms) rest
  pub given : (ms : List ScriptModule) (rest : List Placed) → PartsThen ts ms rest
      → (ns : List ScriptModule) × (ms ≡ found ++ ns) × PartsThen us ns rest

-- all parts of a command and its `)` were passed, and the only modules in them appended
pub record PassesParts (ts us : List Placed) (old new : List ScriptModule) : Type 0 where
  pub found : List ScriptModule
  pub appended : new ≡ old ++ found
  pub parts : PartsThen ts found us
  pub only : (ms : List ScriptModule) (rest : List Placed) → PartsThen ts ms rest
      → (ms ≡ found) × (rest ≡ us)

-- a command was passed, and its modules appended: commands after it give commands before it, and the
-- other way round
pub record PassesCommand (ts us : List Placed) (old new : List ScriptModule) : Type 0 where
  pub found : List ScriptModule
  pub appended : new ≡ old ++ found
  pub gives : (ms : List ScriptModule) → CommandsModules us ms → CommandsModules ts (found ++ ms)
  pub given : (ms : List ScriptModule) → CommandsModules ts ms
      → (ns : List ScriptModule) × (ms ≡ found ++ ns) × CommandsModules us ns

-- the tokens aren't the parts of a command up to its `)`
abbrev pub NoParts : List Placed → Type 0
NoParts ts = (ms : List ScriptModule) (rest : List Placed) → PartsThen ts ms rest → ⊥

-- the tokens aren't commands
abbrev pub NoCommands : List Placed → Type 0
NoCommands ts = (ms : List ScriptModule) → CommandsModules ts ms → ⊥

-- the error is Memory, or Unexpected for this reason
abbrev pub IsRefusal : Error → Type 0 → Type 0
IsRefusal e Reason = e.fault ≢ Memory → (e.fault ≡ Unexpected) × Reason
