-- Imports, by the three forms of their items.
use Rattle.std.specs.Prelude.{codes}
use Rattle.wat_types.specs.Prelude.{Production, seq, made, after_word, restated, text}
use Rattle.wat_links.specs.Import.{ImportItemsModel, ImportsModel, imports_of, import_choice}
use Rattle.wat_links.specs.ItemForms.{ItemsSpells}
use Rattle.wat_links.specs.Laws.Forms.{items_to, items_from}

-- one of the three forms
unfoldable pub import_items : Production ImportItemsModel
import_items = restated import_choice ItemsSpells items_to items_from

-- `import`, a name, and items
unfoldable pub imports : Production ImportsModel
imports = after_word (codes "import") (made (λ v. imports_of v.0 v.1) (seq text import_items))
