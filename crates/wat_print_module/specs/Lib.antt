pub use Rattle.wat_core.specs.Field as CoreField
pub use Rattle.wat_core.specs.FieldGroup
pub use Rattle.wat_core.specs.Module as CoreModule
pub use Rattle.wat_core.specs.Text
pub use Rattle.wat_fields.specs.Data as FieldsData
pub use Rattle.wat_fields.specs.DataVal as FieldsDataVal
pub use Rattle.wat_fields.specs.Elem as FieldsElem
pub use Rattle.wat_fields.specs.Func as FieldsFunc
pub use Rattle.wat_fields.specs.Global as FieldsGlobal
pub use Rattle.wat_fields.specs.Local as FieldsLocal
pub use Rattle.wat_fields.specs.Memory as FieldsMemory
pub use Rattle.wat_fields.specs.Payload as FieldsPayload
pub use Rattle.wat_fields.specs.Table as FieldsTable
pub use Rattle.wat_fields.specs.Tag as FieldsTag
pub use Rattle.wat_links.specs.Custom as LinksCustom
pub use Rattle.wat_links.specs.Cutting
pub use Rattle.wat_links.specs.Dylink as LinksDylink
pub use Rattle.wat_links.specs.Export as LinksExport
pub use Rattle.wat_links.specs.FieldHead as LinksFieldHead
pub use Rattle.wat_links.specs.Forms
pub use Rattle.wat_links.specs.Import as LinksImport
pub use Rattle.wat_links.specs.Item as LinksItem
pub use Rattle.wat_links.specs.CustomPlace as LinksPlace
pub use Rattle.wat_links.specs.Producers as LinksProducers
pub use Rattle.wat_links.specs.Raw
pub mod Custom
pub mod Data
pub mod DataVal
pub mod Dylink
pub mod Elem
pub mod Export
pub mod Expression
pub mod Field
pub mod FieldHead
pub mod Func
pub mod Global
pub mod Import
pub mod Item
pub mod Laws
pub mod Local
pub mod Memory
pub mod Module
pub mod CustomPlace
pub mod Producers
pub mod Table
pub mod Tag
pub mod Prelude
