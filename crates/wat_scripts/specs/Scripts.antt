-- Test scripts and their modules (README of the reference interpreter, "Scripts"). The tokens are the
-- visible tokens of the text, with their offsets.
use Rattle.std.specs.Prelude.{◌≡◌, ◌≢◌, ◌≤◌, ℕ, ◌+◌, Bool, true, false, not, ◌&&◌, if◌then◌else◌, List, [], ◌∷◌, ◌++◌, drop, Option, Some, None, codes}
use Rattle.std.specs.Str.{IsCharBoundary}
use Rattle.wat_lexer.specs.Prelude.{IsCut, Token, Placed, LParen, RParen, Keyword, tokens_of}
use Rattle.wat_lexer.specs.View.{is_paren}
use Rattle.wat_tokens.specs.Tests.{begins_word, begins_id}
use Rattle.wat_scripts.specs.Commands.{is_command}
use Rattle.wat_scripts.specs.Visible.{visible_placed}
use Rattle.wat_scripts.specs.declared.modules.ScriptModule.{ScriptModule}

-- ---- groups

-- the tokens begin with the word
abbrev pub begins : List ℕ → List Placed → Bool
begins w ts = begins_word w (tokens_of ts)

-- a `(` at the offset
abbrev pub open_at : ℕ → Placed
open_at o = record { token = LParen; offset = o }

-- a `)` at the offset
abbrev pub close_at : ℕ → Placed
close_at o = record { token = RParen; offset = o }

-- the word at the offset
abbrev pub word_at : List ℕ → ℕ → Placed
word_at w o = record { token = Keyword w; offset = o }

-- `(`, the tokens `inner`, `)`, and then the rest
abbrev pub group_then : ℕ → List Placed → ℕ → List Placed → List Placed
group_then from inner to rest = open_at from ∷ (inner ++ close_at to ∷ rest)

-- each `(` of the tokens has its `)`, and each `)` its `(`
pub data AllClosed : List Placed → Type 0 where
  none : AllClosed []
  token : (p : Placed) (ts : List Placed) → is_paren p.token ≡ false → AllClosed ts
      → AllClosed (p ∷ ts)
  group : (from to : ℕ) (inner ts : List Placed) → AllClosed inner → AllClosed ts
      → AllClosed (group_then from inner to ts)

-- ---- the group `( module .. )`, by the tokens between `module` and `)`

-- the tokens after an identifier, if they begin with one
abbrev pub after_id : List Token → List Token
after_id t = if begins_id t then drop 1 t else t

-- the tokens after the word, if they begin with it
abbrev pub after_word : List ℕ → List Token → List Token
after_word w t = if begins_word w t then drop 1 t else t

-- the tokens after `definition id?` or `id? definition?`
abbrev pub after_head : List Token → List Token
after_head t =
    if begins_word (codes "definition") t then after_id (drop 1 t)
    else after_word (codes "definition") (after_id t)

-- the module is quoted: `quote` is the word after the head
abbrev pub is_quoted : List Token → Bool
is_quoted t = begins_word (codes "quote") (after_head t)

-- an instance of a module, and no module: `id? instance ..`
abbrev pub is_instance : List Token → Bool
is_instance t = begins_word (codes "instance") (after_id t)

-- the group is a module
abbrev pub is_module : List Token → Bool
is_module t = not (is_quoted t) && not (is_instance t)

-- `id definition ..`
abbrev pub names_definition : List Token → Bool
names_definition t = begins_id t && begins_word (codes "definition") (drop 1 t)

-- the offset of the first token, if it is the word
abbrev pub offset_if : List ℕ → List Placed → Option ℕ
offset_if w [] = None
offset_if w (p ∷ ts) = if begins w (p ∷ ts) then Some p.offset else None

-- the offset of the word `definition`, if the tokens are `id? definition ..`
abbrev pub definition_of : List Placed → Option ℕ
definition_of ts =
    if names_definition (tokens_of ts) then offset_if (codes "definition") (drop 1 ts)
    else offset_if (codes "definition") ts

-- The module that the group is, by the offsets of its parentheses. A quoted module and an instance
-- are none.
abbrev pub module_of : ℕ → ℕ → List Placed → List ScriptModule
module_of from to ts =
    if is_module (tokens_of ts) then record { start = from; end = to + 1; definition = definition_of ts } ∷ []
    else []

-- the module that a group is, by the tokens between its parentheses
abbrev pub group_module : ℕ → ℕ → List Placed → List ScriptModule
group_module from to inner =
    if begins (codes "module") inner then module_of from to (drop 1 inner) else []

-- ---- commands and scripts

-- The modules directly in a command, by the tokens after the command's word: its groups
-- `( module .. )`. Groups in these groups aren't looked at.
pub data PartModules : List Placed → List ScriptModule → Type 0 where
  none : PartModules [] []
  token : (p : Placed) (ts : List Placed) (ms : List ScriptModule) → is_paren p.token ≡ false
      → PartModules ts ms → PartModules (p ∷ ts) ms
  group : (from to : ℕ) (inner ts : List Placed) (ms : List ScriptModule) → AllClosed inner
      → PartModules ts ms
      → PartModules (group_then from inner to ts) (group_module from to inner ++ ms)

-- The modules of a command `( inner )`, by the offsets of its parentheses: a command `( module .. )`
-- is one, and any other command `( word .. )` can have some in it.
pub data CommandModules : ℕ → ℕ → List Placed → List ScriptModule → Type 0 where
  a_module : (from to at : ℕ) (ts : List Placed) → AllClosed ts
      → CommandModules from to (word_at (codes "module") at ∷ ts) (module_of from to ts)
  other : (from to at : ℕ) (w : List ℕ) (ts : List Placed) (ms : List ScriptModule)
      → is_command w ≡ true → w ≢ codes "module" → PartModules ts ms
      → CommandModules from to (word_at w at ∷ ts) ms

-- commands, one after the other, and their modules in order
pub data CommandsModules : List Placed → List ScriptModule → Type 0 where
  none : CommandsModules [] []
  command : (from to : ℕ) (inner ts : List Placed) (ms ns : List ScriptModule)
      → CommandModules from to inner ms → CommandsModules ts ns
      → CommandsModules (group_then from inner to ts) (ms ++ ns)

-- a script is one command or more
abbrev pub ScriptModules : List Placed → List ScriptModule → Type 0
ScriptModules ts ms = (ts ≢ []) × CommandsModules ts ms

-- the text has a cut, and its visible tokens are a script with these modules
abbrev pub IsScript : List ℕ → List ScriptModule → Type 0
IsScript text ms = (ts : List Placed) × IsCut text ts × ScriptModules (visible_placed ts) ms

-- the module is a part of the text that begins and ends at character boundaries
pub record IsPart (text : List ℕ) (m : ScriptModule) : Type 0 where
  pub order : m.start ≤ m.end
  pub begin : IsCharBoundary text m.start
  pub finish : IsCharBoundary text m.end
