-- Modules that a whole text spells.
use Rattle.std.specs.Prelude.{◌≡◌, ℕ, ◌+◌, List, [], ◌∷◌, ◌++◌, length, true, false}
use Rattle.wat_fields.specs.Prelude.{IsCut, visible_tokens, behind, Token, Placed, LParen, RParen, tokens_of}
use Rattle.wat_core.specs.Module.{ModuleModel, module_}

-- Outside the module's group no annotation is known: the first visible token is `(`. After that `(`
-- the five standard annotations are known: the visible tokens are the tokens of the module, `)`,
-- and any further tokens. After that `)` no annotation is known again, and no token is visible.
pub record IsModule (t : List Token) (m : ModuleModel) : Type 0 where
  pub first : List Token
  pub opens : visible_tokens false t ≡ LParen ∷ first
  pub tokens : List Token
  pub more : List Token
  pub inside : visible_tokens true (behind false 1 t) ≡ tokens ++ RParen ∷ more
  pub spelled : module_.spells m tokens (RParen ∷ more)
  pub last : visible_tokens false (behind true (length tokens + 1) (behind false 1 t)) ≡ []

-- the text is cut, and its tokens are one group that spells the module
abbrev pub SpellsModule : List ℕ → ModuleModel → Type 0
SpellsModule text m = (ts : List Placed) × IsCut text ts × IsModule (tokens_of ts) m
