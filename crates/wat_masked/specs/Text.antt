-- The masked text: the text with some bytes replaced.
use Rattle.std.specs.Prelude.{◌≡◌, ℕ, ◌+◌, ◌-◌, List, [], ◌∷◌, ◌++◌, length, take, drop, map, replicate, codes}
use Prim.Native.Char.{code}
use Rattle.wat_lexer.specs.Prelude.{IsCut, Placed, tokens_of}
use Rattle.wat_masked.specs.Tokens.{changes_of, masked_tokens}
use Rattle.wat_masked.specs.declared.change.Change.{Change}
use Rattle.wat_masked.specs.declared.change.Change.TheVariants as of

-- new bytes, and the offset at which they replace bytes of the text
pub record Patch : Type 0 where
  pub at : ℕ
  pub bytes : List ℕ

-- `0` and spaces, n bytes in all
abbrev pub zero_bytes : ℕ → List ℕ
zero_bytes n = code "0" ∷ replicate (n - 1) (code " ")

-- the patch of a token at an offset
abbrev pub patch_of : Change → ℕ → List Patch
patch_of of.Keep at = []
patch_of of.Word at = record { at = at; bytes = codes "i" } ∷ []
patch_of (of.Literal n) at = record { at = at; bytes = zero_bytes n } ∷ []

-- the patches of tokens, by the change of each token
abbrev pub patches : List Change → List Placed → List Patch
patches (c ∷ cs) (p ∷ ps) = patch_of c p.offset ++ patches cs ps
patches _ _ = []

-- A suffix of a text with its patches applied. `from` is the offset of the suffix in the text.
unfoldable pub rebuilt : ℕ → List ℕ → List Patch → List ℕ
rebuilt from s [] = s
rebuilt from s (p ∷ ps) =
    take (p.at - from) s ++ (p.bytes ++ rebuilt (p.at + length p.bytes)
    (drop (p.at - from + length p.bytes) s) ps)

-- the text with the patches of all its tokens applied
abbrev pub masked_text : List ℕ → List Placed → List ℕ
masked_text text ts = rebuilt 0 text (patches (changes_of (tokens_of ts)) ts)

abbrev pub offsets_of : List Placed → List ℕ
offsets_of ps = map (λ p. p.offset) ps

-- The answer is cut into the masked text's tokens, each at the same offset. The bytes of the
-- answer are the text with the patches of its tokens applied.
abbrev pub IsMasked : List ℕ → List ℕ → Type 0
IsMasked text answer =
    (ts : List Placed) × (us : List Placed) × IsCut text ts × IsCut answer us
    × (tokens_of us ≡ masked_tokens (tokens_of ts)) × (offsets_of us ≡ offsets_of ts)
    × (answer ≡ masked_text text ts)
