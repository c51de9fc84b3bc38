-- Imports.
use Rattle.std.specs.Prelude.{◌≡◌, ℕ, Bool, ◌&&◌, List, [], ◌∷◌, codes, map, is_none, replicate, length, ⊤, refl}
use Rattle.wat_types.specs.Prelude.{Bor, Token, Production, seq, made, made_where, where_else, paren, group, many, text, no_items, at_lparen, Test, Question, answer, run, starts, either_test, test_of, at_more, at_ends, second_word, a_word, a_lparen, a_string, a_rparen}
use Rattle.wat_tokens.specs.Test.{in_order}
use Rattle.wat_links.specs.Item.{ItemSigModel, sig_view, heapless_sig, item_sig, SameSig}
use Rattle.wat_links.specs.declared.item.ItemSig.{ItemSig}
use Rattle.wat_links.specs.declared.import.ImportGroup1ItemOf.{ImportGroup1ItemOf}
use Rattle.wat_links.specs.declared.import.ImportGroup2ItemOf.{ImportGroup2ItemOf}
use Rattle.wat_links.specs.declared.import.ImportItemsOf.{ImportItemsOf}
use Rattle.wat_links.specs.declared.import.ImportItemsOf.TheVariants.{Single, Group1, Group2}
use Rattle.wat_links.specs.declared.import.ImportsOf.{ImportsOf}
use Rattle.wat_links.specs.declared.inline_import.InlineImport.{InlineImport}
use Rattle.wat_links.specs.ImportItem.{sig_group, typed_item, named_item}
use Rattle.wat_links.specs.Laws.Import.{typed_item_consumes, named_item_consumes}

-- ---- views

-- a name and its signature; names, each with its signature; names that share a signature
pub data ImportItemsModel : Type 0 where
  single : List ℕ → ItemSigModel → ImportItemsModel
  group1 : List (List ℕ × ItemSigModel) → ImportItemsModel
  group2 : ItemSigModel → List (List ℕ) → ImportItemsModel

-- the imported items, and the name of the module
pub record ImportsModel : Type 0 where
  pub from : List ℕ
  pub items : ImportItemsModel

abbrev pub imports_of : List ℕ → ImportItemsModel → ImportsModel
imports_of m i = record { from = m; items = i }

-- a name, and the value that contains it
abbrev pub HeldName : Type 0
HeldName = Bor (List ℕ)

abbrev pub module_of : {N S : Type 0} → ImportItemsOf N S → N
module_of (Single m n s) = m
module_of (Group1 m xs) = m
module_of (Group2 m s xs) = m

abbrev pub typed_view : ImportGroup1ItemOf HeldName ItemSig → List ℕ × ItemSigModel
typed_view x = (x.name.now, sig_view x.sig)

abbrev pub named_view : ImportGroup2ItemOf HeldName → List ℕ
named_view x = x.name.now

abbrev pub items_view : ImportItemsOf HeldName ItemSig → ImportItemsModel
items_view (Single m n s) = single n.now (sig_view s)
items_view (Group1 m xs) = group1 (map typed_view xs.items)
items_view (Group2 m s xs) = group2 (sig_view s) (map named_view xs.items)

abbrev pub imports_view : ImportsOf HeldName ItemSig → ImportsModel
imports_view i = imports_of (module_of i.items).now (items_view i.items)

-- has no item in a group, and no inline parameter or result
abbrev pub heapless_items : ImportItemsModel → Bool
heapless_items (single n s) = heapless_sig s
heapless_items (group1 xs) = no_items xs
heapless_items (group2 s xs) = no_items xs && heapless_sig s

abbrev pub heapless_imports : ImportsModel → Bool
heapless_imports i = heapless_items i.items

-- ---- the grammar

-- an item has to follow: the second token is `item`, for any first token
abbrev pub at_item : Test
at_item = second_word (codes "item")

abbrev pub item_follows : List Token → Bool
item_follows t = run at_item t

-- the signature shared by a group, without an identifier
unfoldable pub shared_sig : Production ItemSigModel
shared_sig = paren (made_where (λ s. is_none s.label.id) (λ s. s) item_sig)

-- name ( ItemSig )
unfoldable pub single_item : Production ImportItemsModel
single_item = made (λ v. single v.0 v.1) (seq text sig_group)

-- ( item name ( ItemSig ) )*, as long as an item has to follow
unfoldable pub typed_list : Production (List (List ℕ × ItemSigModel))
typed_list = many at_item typed_item typed_item_consumes

-- ( item name )*, as long as an item has to follow
unfoldable pub named_list : Production (List (List ℕ))
named_list = many at_item named_item named_item_consumes

unfoldable pub typed_items : Production ImportItemsModel
typed_items = made group1 typed_list

-- items without signatures, and their shared signature
unfoldable pub named_items : Production ImportItemsModel
named_items = made (λ v. group2 v.1 v.0) (seq named_list shared_sig)

-- `(`, `item`, a string, and then a token other than `)`
abbrev pub opening_typed : Question
opening_typed = in_order (a_lparen ∷ a_word (codes "item") ∷ a_string ∷ []) at_more.asks

abbrev pub opens_typed : List Token → Bool
opens_typed t = answer opening_typed t

-- the group or the text ends, or the next item has more than a name
abbrev pub at_typed : Test
at_typed = either_test at_ends (test_of opening_typed refl)

abbrev pub typed : List Token → Bool
typed t = run at_typed t

-- items with signatures if the group or the text ends or the next item has more than a name; items
-- without signatures and their shared signature if another `(` is next; else a single item
unfoldable pub import_choice : Production ImportItemsModel
import_choice = where_else at_typed typed_items (where_else at_lparen named_items single_item)

-- ---- signatures by number

-- one signature for each item; a shared signature is repeated
abbrev pub item_sigs : {N S : Type 0} → ImportItemsOf N S → List S
item_sigs (Single m n s) = s ∷ []
item_sigs (Group1 m xs) = map (λ x. x.sig) xs.items
item_sigs (Group2 m s xs) = replicate (length xs.items) s

-- the number of items
abbrev pub item_count : {N S : Type 0} → ImportItemsOf N S → ℕ
item_count (Single m n s) = 1
item_count (Group1 m xs) = length xs.items
item_count (Group2 m s xs) = length xs.items

-- the signatures in the text, each once
abbrev pub own_sigs : {N S : Type 0} → ImportItemsOf N S → List S
own_sigs (Single m n s) = s ∷ []
own_sigs (Group1 m xs) = map (λ x. x.sig) xs.items
own_sigs (Group2 m s xs) = s ∷ []

-- ---- imports and their clone

-- the same in each part, also the positions
abbrev pub SameTyped
    : ImportGroup1ItemOf HeldName ItemSig → ImportGroup1ItemOf HeldName ItemSig → Type 0
SameTyped x y = (x.span ≡ y.span) × (x.name ≡ y.name) × SameSig x.sig y.sig

-- the same items, one by one
abbrev pub SameAll
    : List (ImportGroup1ItemOf HeldName ItemSig) → List (ImportGroup1ItemOf HeldName ItemSig)
    → Type 0
SameAll [] [] = ⊤
SameAll (x ∷ xs) (y ∷ ys) = SameTyped x y × SameAll xs ys
SameAll _ _ = ⊥

abbrev pub SameItems : ImportItemsOf HeldName ItemSig → ImportItemsOf HeldName ItemSig → Type 0
SameItems (Single m n s) (Single m' n' s') = (m ≡ m') × (n ≡ n') × SameSig s s'
SameItems (Group1 m xs) (Group1 m' xs') = (m ≡ m') × SameAll xs.items xs'.items
SameItems (Group2 m s xs) (Group2 m' s' xs') = (m ≡ m') × SameSig s s' × (xs.items ≡ xs'.items)
SameItems _ _ = ⊥

-- ---- inline imports

abbrev pub inline_import_view : InlineImport → List ℕ × List ℕ
inline_import_view i = (i.module.now, i.field.now)

-- ( import name name )
unfoldable pub inline_import : Production (List ℕ × List ℕ)
inline_import = group (codes "import") (seq text text)

-- `(`, `import`, a string, a string, `)`
abbrev pub at_inline_import : Test
at_inline_import =
    test_of (in_order (a_lparen ∷ a_word (codes "import") ∷ a_string ∷ a_string ∷ [])
    (starts a_rparen)) refl

abbrev pub begins_inline_import : List Token → Bool
begins_inline_import t = run at_inline_import t
