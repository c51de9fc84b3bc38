-- Which tokens spell the items of an import: three forms.
use Rattle.std.specs.Prelude.{◌≡◌, true, false, List, [], ◌∷◌}
use Rattle.wat_types.specs.Prelude.{Token, ends, seq, text}
use Rattle.wat_links.specs.Import.{ImportItemsModel, single, group1, group2, item_follows, typed_list, named_list, shared_sig}
use Rattle.wat_links.specs.ImportItem.{sig_group}

-- single: a name and ( ItemSig ).
-- group1: items with signatures, each ( item name ( ItemSig ) ); no items only if the group or the
-- text ends next.
-- group2: any number of items, each ( item name ), and then ( ItemSig ) without an identifier.
-- One more item follows as long as the second token is `item`, for any first token.
abbrev pub ItemsSpells : ImportItemsModel → List Token → List Token → Type 0
ItemsSpells (single n s) c r = (seq text sig_group).spells (n, s) c r
ItemsSpells (group1 []) c r = (c ≡ []) × (item_follows r ≡ false) × (ends r ≡ true)
ItemsSpells (group1 (x ∷ xs)) c r = typed_list.spells (x ∷ xs) c r
ItemsSpells (group2 s xs) c r = (seq named_list shared_sig).spells (xs, s) c r
