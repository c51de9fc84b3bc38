-- Exports.
use Rattle.std.specs.Prelude.{ℕ, Bool, List, [], ◌∷◌, codes, map, refl}
use Rattle.wat_types.specs.Prelude.{Token, word_in, Production, one, seq, made, after_word, paren, many, IndexModel, index_view, index, text, Test, run, at_listed, test_of, starts, a_lparen, a_word, a_string, a_rparen}
use Rattle.wat_tokens.specs.Test.{in_order}
use Rattle.wat_links.specs.Item.{ItemSigModel, sig_view, heapless_sig, item_sig}
use Rattle.wat_links.specs.declared.export.Export.{Export}
use Rattle.wat_links.specs.declared.export.ExportKind.{ExportKind}
use Rattle.wat_links.specs.declared.export.ExportType.{ExportType}
use Rattle.wat_links.specs.declared.export.InlineExport.{InlineExport}
use Rattle.wat_links.specs.InlineName.{inline_name}
use Rattle.wat_links.specs.Laws.Export.{inline_name_consumes}
use Rattle.wat_links.specs.declared.export.ExportKind.TheVariants as code

-- ---- kinds

abbrev pub export_kind_word : ExportKind → List ℕ
export_kind_word code.Func = codes "func"
export_kind_word code.Table = codes "table"
export_kind_word code.Memory = codes "memory"
export_kind_word code.Global = codes "global"
export_kind_word code.Tag = codes "tag"

abbrev pub kind_words : List (List ℕ × ExportKind)
kind_words =
    (codes "func", code.Func) ∷ (codes "table", code.Table) ∷ (codes "memory", code.Memory)
    ∷ (codes "global", code.Global) ∷ (codes "tag", code.Tag) ∷ []

-- `func` | `table` | `memory` | `global` | `tag`
unfoldable pub export_kind : Production ExportKind
export_kind = one (word_in kind_words) (refl, refl)

-- one of the keywords
unfoldable pub at_export_kind : Test
at_export_kind = at_listed kind_words

-- ---- exports

-- an export, without positions
pub record ExportModel : Type 0 where
  pub name : List ℕ
  pub kind : ExportKind
  pub item : IndexModel

abbrev pub export_of : List ℕ → ExportKind → IndexModel → ExportModel
export_of n k i = record { name = n; kind = k; item = i }

abbrev pub export_view : Export → ExportModel
export_view e = export_of e.name.now e.kind (index_view e.item)

-- `export` name ( ExportKind idx )
unfoldable pub export_ : Production ExportModel
export_ = after_word (codes "export")
    (made (λ v. export_of v.0 v.1.0 v.1.1) (seq text (paren (seq export_kind index))))

-- ---- types of exports

-- a name, and the signature of the exported item
abbrev pub ExportTypeModel : Type 0
ExportTypeModel = List ℕ × ItemSigModel

abbrev pub export_type_view : ExportType → ExportTypeModel
export_type_view e = (e.name.now, sig_view e.item)

abbrev pub heapless_export_type : ExportTypeModel → Bool
heapless_export_type e = heapless_sig e.1

-- `export` name ( ItemSig )
unfoldable pub export_type : Production ExportTypeModel
export_type = after_word (codes "export") (seq text (paren item_sig))

-- ---- inline exports

abbrev pub inline_export_view : InlineExport → List (List ℕ)
inline_export_view e = map (λ n. n.now) e.names.items

-- `(`, `export`, a string, `)`
abbrev pub at_inline_export : Test
at_inline_export =
    test_of (in_order (a_lparen ∷ a_word (codes "export") ∷ a_string ∷ []) (starts a_rparen)) refl

abbrev pub begins_inline_export : List Token → Bool
begins_inline_export t = run at_inline_export t

-- ( export name )*
unfoldable pub inline_export : Production (List (List ℕ))
inline_export = many at_inline_export inline_name inline_name_consumes
