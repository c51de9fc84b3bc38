-- One item of an import.
use Rattle.std.specs.Prelude.{ℕ, List, codes}
use Rattle.wat_types.specs.Prelude.{Production, seq, paren, group, text}
use Rattle.wat_links.specs.Item.{ItemSigModel, item_sig}

-- ( ItemSig )
abbrev pub sig_group : Production ItemSigModel
sig_group = paren item_sig

-- ( item name ( ItemSig ) )
unfoldable pub typed_item : Production (List ℕ × ItemSigModel)
typed_item = group (codes "item") (seq text sig_group)

-- ( item name )
unfoldable pub named_item : Production (List ℕ)
named_item = group (codes "item") text
