-- Sample texts as tokens, and the imports and exports that they spell.
use Rattle.std.specs.Prelude.{List, [], ◌∷◌, ◌++◌, codes, None}
use Rattle.wat_links.specs.Prelude.{Token, Keyword, Integer, String, in_parens, Spelled, no_label, use_of, inline_export, imports, imports_of, group1, group2, ItemSigModel}
use Rattle.wat_links.specs.Item.{sig_of, func}
use Rattle.wat_tokens.specs.Production.{Front}

-- `(func)`
abbrev lone_func : List Token
lone_func = in_parens (Keyword (codes "func") ∷ [])

abbrev any_func : ItemSigModel
any_func = sig_of no_label (func (use_of None None))

-- `import "m"` has no items; `import "m" (func)` has a signature and no items; `import "m" (item
-- "a") (item "b") (func)` has two items that share a signature
abbrev pub Imports : Type 0
Imports =
    Spelled imports (Keyword (codes "import") ∷ String (codes "m") ∷ [])
    (imports_of (codes "m") (group1 []))
    × Spelled imports (Keyword (codes "import") ∷ String (codes "m") ∷ lone_func)
    (imports_of (codes "m") (group2 any_func []))
    × Spelled imports (Keyword (codes "import") ∷ String (codes "m")
    ∷ (in_parens (Keyword (codes "item") ∷ String (codes "a") ∷ [])
    ++ (in_parens (Keyword (codes "item") ∷ String (codes "b") ∷ []) ++ lone_func)))
    (imports_of (codes "m") (group2 any_func (codes "a" ∷ codes "b" ∷ [])))

abbrev no_name : List Token
no_name = in_parens (Keyword (codes "export") ∷ Integer (codes "1") ∷ [])

-- `(export "a") (export "b") (export 1)`: two names, and the third group is left
abbrev pub InlineNames : Type 0
InlineNames =
    Front inline_export.spells (in_parens (Keyword (codes "export") ∷ String (codes "a") ∷ [])
    ++ (in_parens (Keyword (codes "export") ∷ String (codes "b") ∷ []) ++ no_name))
    (codes "a" ∷ codes "b" ∷ [], no_name)
