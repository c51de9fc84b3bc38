-- Tags.
use Rattle.std.specs.Prelude.{ℕ, Bool, ◌&&◌, List, codes, Option, Some, None}
use Rattle.wat_links.specs.Prelude.{Production, seq, made, opt, after_word, label_view, heapless_function, FunctionTypeModel, TypeUseModel, heapless_use, inline_export_view, FieldHeadModel, field_head, heapless_head, head, inline_import_view, inline_import, at_inline_import}
use Rattle.wat_types.specs.Tag.{tag_type_view, tag_type}
use Rattle.wat_fields.specs.declared.tag.Tag.{Tag}
use Rattle.wat_fields.specs.declared.tag.TagKind.{TagKind}
use Rattle.wat_fields.specs.declared.tag.TagKind.TheVariants as code

-- ---- views

-- a tag: the two names of its import, if it is imported, and its type
pub record TagModel : Type 0 where
  pub head : FieldHeadModel
  pub import : Option (List ℕ × List ℕ)
  pub ty : TypeUseModel FunctionTypeModel

abbrev pub tag_of : FieldHeadModel → Option (List ℕ × List ℕ) → TypeUseModel FunctionTypeModel
    → TagModel
tag_of h i t = record { head = h; import = i; ty = t }

abbrev pub tag_kind_view : TagKind → Option (List ℕ × List ℕ)
tag_kind_view (code.Import i) = Some (inline_import_view i)
tag_kind_view code.Inline = None

abbrev pub tag_view : Tag → TagModel
tag_view t =
    tag_of (field_head (label_view t.id t.name) (inline_export_view t.exports))
    (tag_kind_view t.kind) (tag_type_view t.ty)

-- no export, and no parameter and no result in line
abbrev pub heapless_tag : TagModel → Bool
heapless_tag t = heapless_head t.head && heapless_use heapless_function t.ty

-- ---- the grammar

-- `tag` head InlineImport? TagType
unfoldable pub tag : Production TagModel
tag = after_word (codes "tag")
    (made (λ v. tag_of v.0 v.1.0 v.1.1)
    (seq head (seq (opt at_inline_import inline_import) tag_type)))
